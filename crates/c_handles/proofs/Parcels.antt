-- A parcel in a walk: how its two fields are stored, and what it owns.
--     Parcel, two        its row, and the machine value of its two fields
--     parcel_typed       such a value has the parcel's type
--     parcel_opens       a parcel is [the value at a block, with the right to free it; the handle]
--     parcel_closes      the way back
use Rattle.std.proofs.Common.{◌≡◌, ℕ, List, [], ◌∷◌, ◌++◌, refl, ap, ◌∙◌}
use mathlib.Core.Bool.{true, ◌&&◌}
use lib.Dec.{T}
use seplogic.Ra.Ura.{Ura}
use mir.Raw.{raw as bare}
use mir.Syntax.{impl, tnil, dnil}
use mir.Val.{Val, vptr, vstruct, vcons, vnil, of_list, has_ty, WT}
use base.Fml.{Fml}
use base.Logic.{never, fst∗}
use types.Logic.{Logic, sem}
use types.Kit.{Item, Goal, Seq, Step, step, ‵, ◌$◌, move, drop, fsplit, fjoin, fpick, fpack, feq_i, feq_l}
use denote.Builtin.{RawPtr}
use denote.Memory.{lone}
use denote.Param.{layout}
use denote.Param.Laws.{Laws}
use denote.RattleType.{RattleType, Valss}
use denote.RawPtr.{Ptr, block_ptr, null_ptr, ptr_val, in_a_block}
use denote.Steps.{nothing}
use denote.Struct.Owning.{shape}
use denote.Struct.Struct.{within}
use Rattle.core.proofs.alloc.Calls.{Al, Fits, handle_tells}
use Rattle.core.specs.declared.alloc.Allocator.{Ghosts}
use Rattle.std_alloc.proofs.ResultValues.{and_tt}
use Rattle.std_alloc.specs.Box.Ownership.{box_owns}
use Rattle.c_handles.specs.contracts.parcel.Parcel as parcel

abbrev pub two : Val → Val → Val
two v w = vstruct (vcons v (vcons w vnil))

module _ (X H : RattleType) (laws : Laws H) (g : Ghosts H.Denot) where
  abbrev pub Parcel : RattleType
  Parcel = parcel.the_row X H g

  -- the handle under its bound. No method of it is called
  abbrev pub handle : Al
  handle = record { row = H; laws = laws; g = g; d = impl [] tnil dnil; drops = impl [] tnil dnil }

  -- what stands at the address, and the right to free its block
  abbrev pub Block : H.Denot → X.Denot → Ptr → Fml
  Block h x p = box_owns (g.dealloc_token h) X p x

  pub parcel_typed : (b o : ℕ) (hv : Val) → Fits handle hv → T (has_ty (layout H) hv && true) × WT (two (vptr b o) hv)
  parcel_typed b o hv fits = (and_tt (has_ty (layout H) hv) fits.0, (tt, (fits.1, tt)))

  module _ {M : Type 1} {𝓤 : Ura M} {𝓛 : Logic 𝓤} {K : Type 0} {Γ : List (Item 𝓤)} {G : Goal 𝓤 𝓛.H} where
    pub parcel_opens : K → (d : Parcel.Denot) (vs : List Val)
        → ((b o : ℕ) (hv : Val) → d.at ≡ block_ptr b o → vs ≡ two (vptr b o) hv ∷ [] → Fits handle hv
        → Seq K 𝓛 (‵ (Block d.heap d.value (block_ptr b o)) ∷ ‵ (H.own_val d.heap (hv ∷ [])) ∷ Γ) G)
        → Seq K 𝓛 (‵ (Parcel.own_val d vs) ∷ Γ) G
    parcel_opens t d vs next =
        fsplit t $ move t (1 ∷ []) $
        in_a_block t d.at (Block d.heap d.value) (fst∗ 𝓤 (never 𝓤) (sem 𝓛 (g.dealloc_token d.heap (bare (lone X.mir)) null_ptr))) (λ b o at.
        -- [the block; the fields]
        move t (1 ∷ []) $ fpick t (λ fields. fsplit t $ feq_l t (λ stored. fsplit t $ feq_l t (λ pointer. fsplit t $
        -- [the handle; no more fields; the block]
        handle_tells handle t d.heap fields.1.0 (λ hv bits fits. move t (1 ∷ []) $ drop t $ move t (1 ∷ []) $
        next b o hv at (stored ∙ (λ i. vstruct (of_list ((pointer ∙ ap (λ (p : Ptr). ptr_val p ∷ []) at) i ++ (bits i ++ []))) ∷ [])) fits)))))

    pub parcel_closes : K → (b o : ℕ) (hv : Val) (h : H.Denot) (x : X.Denot)
        → Step K 𝓛 (‵ (Parcel.own_val (record { at = block_ptr b o; heap = h; value = x }) (two (vptr b o) hv ∷ [])) ∷ Γ) G
        (‵ (Block h x (block_ptr b o)) ∷ ‵ (H.own_val h (hv ∷ [])) ∷ Γ) G
    parcel_closes t b o hv h x = step (λ rest. let word : List Val = two (vptr b o) hv ∷ [] in
        -- the fields from their end: the handle, the pointer, and the word that they make
        nothing t $ move t (2 ∷ []) $ fjoin t $ feq_i t (List Val) (vptr b o ∷ []) (vptr b o ∷ []) refl $ fjoin t $ feq_i t (List Val) word word refl $ fjoin t $
        fpack t (Valss (RawPtr ∷ H ∷ [])) (within (shape (parcel.the_type X H g)) (block_ptr b o, (h, tt)) word) (vptr b o ∷ [], (hv ∷ [], tt)) $ fjoin t $ rest)
