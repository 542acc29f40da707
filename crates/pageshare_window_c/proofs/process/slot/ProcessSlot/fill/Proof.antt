-- `fill` writes the parcel's address into the slot, which was empty.
use Rattle.std.proofs.Common.{◌≡◌, List, [], ◌∷◌, ◌++◌, Some, None, refl, sym, subst}
use base.Fml.{ftrue, flft}
use base.Fraction.{full_share}
use base.Logic.{SProp, ent, id⊢}
use contract.Monad.{fact}
use contract.Running.{tables}
use mir.Val.{Val, vunit, vptr}
use prog.Wp.{WpFn}
use types.ByLocal.{alloc_all, pass_all, free_all, look_at, get, get_in, through, sets}
use types.Kit.{‵, raw, ◌⊛◌, ◌$◌, ◌∵◌, !, qed, done, move, keep, drop, split, join, fsplit, fsplit3, fjoin, fjoin3, fpack, feq_i, feq_l, rewrite, suffices}
use types.Part.{sub, whole, store_in}
use types.Run.{enter, of_opd, unit_lit, stop, fld, assigns, returns}
use denote.Builtin.{RawPtr}
use denote.Exit.{yes}
use denote.Laws.{shows}
use denote.Memory.{cell_at}
use denote.RattleType.{RattleType, Valss, owns}
use denote.RawPtr.{block_ptr}
use denote.Signature.{plain, types_at}
use denote.Steps.{nothing, opens, closes, peeks, heard}
use denote.Struct.Owning.{shape}
use denote.Struct.Struct.{within}
use denote.Triple.Walked.{Stays, walk_of, says, stay_ref, Goes-ref, stay_dropped, ends_at}
use Rattle.core.proofs.alloc.Calls.{Goes-blank}
use Rattle.std.proofs.raw_atomic.Walks.{proved_at}
use Rattle.std.specs.contracts.impls.GlobalAllocator.TheImpl.{ghosts}
use Rattle.c_handles.proofs.Held.{Heap, heap_laws, HeapParcel, word}
use Rattle.c_handles.proofs.Parcels.{two, parcel_typed, parcel_opens}
use Rattle.pageshare_window_c.proofs.process.slot.ProcessSlot.TheLaws.{lowers}
use Rattle.pageshare_window_c.proofs.process.slot.ProcessSlot.fill.Code as code
use Rattle.pageshare_window_c.proofs.process.slot.ProcessSlot.fill.Statement.{statement}
use Rattle.pageshare_window_c.specs.ProcessHeld.{lender_row}
use Rattle.pageshare_window_c.specs.contracts.process.slot.ProcessSlot as slot
use Rattle.pageshare_window_c.specs.contracts.process.slot.ProcessSlot.fill as f

abbrev Core : RattleType
Core = HeapParcel lender_row

abbrev Slot : RattleType
Slot = slot.the_row

abbrev stayed : Stays f.ended.signature.params f.ended.kept
stayed = (stay_ref (0 ∷ []) tt (plain (λ _. Slot)), (stay_dropped (plain (λ _. Core)) yes, tt))

pub fill_spec : {M : Type 1} → statement M
fill_spec 𝓤 𝓛 𝓜 𝓡 wired =
    let c = f.clauses 𝓛 𝓜.mem 𝓡.returns in let W = walk_of 𝓛 f.ended stayed c in let 𝓣 = tables 𝓤 𝓛.H 𝓜 𝓡 𝓡.env in
    proved_at 𝓛 f.ended stayed c 𝓜 𝓡 (Goes-ref 𝓛 1 0 tt (plain (λ _. Slot)), (Goes-blank 𝓛 1 (plain (λ _. Core)) yes (λ κs x w. tt), tt))
    f.Key.name code.function (code.unfolded 𝓤 𝓛.H 𝓜 𝓡 wired) (λ y are.
    let κ = y.0.0.0 in let q = y.0.1.0 in let self = y.0.3.0 in let core = y.0.3.1.0 in let stored = y.0.4 in
    let b = self.ref_ptr.0 in let o = self.ref_ptr.1 in let before = self.now in
    let Runs : List Val → SProp 𝓤 = λ vs. WpFn 𝓤 𝓛.H 𝓣.C 𝓣.Λ code.function vs (W.post y) in
    qed 𝓛 (((‵ (flft κ q) ⊛ ‵ ftrue) ⊛ ‵ (owns (types_at f.ended.signature.params y.0.0) y.0.3 stored)) ∷ raw (fact 𝓤 (before.lender ≡ None)) ∷ []) ∵
    move ! (1 ∷ []) $ heard ! (before.lender ≡ None) (λ was_empty. split ! $ split ! $ move ! (2 ∷ []) $ fsplit ! $ fsplit3 ! $ feq_l ! (λ at_slot. move ! (2 ∷ []) $ fsplit ! $
    parcel_opens lender_row Heap heap_laws ghosts ! core stored.1.0 (λ b' o' hv at bits fits. keep ! (0 ∷ 3 ∷ 4 ∷ 5 ∷ []) $
    -- [the block; the slot's name and borrow; the token]
    let args : List Val = vptr b o ∷ two (vptr b' o') hv ∷ [] in
    suffices ! (Runs args) (subst (λ (vs : List Val). ent 𝓤 (Runs args) (Runs vs)) (sym (λ i. at_slot i ++ (bits i ++ []))) (id⊢ 𝓤 (Runs args))) $
    enter ! 𝓣.C 𝓣.Λ code.function args (W.post y) $ alloc_all ! (λ l. pass_all ! refl ((tt, tt), (parcel_typed lender_row Heap heap_laws ghosts b' o' hv fits, tt)) $
    sets ! (of_opd ! (get_in ! (fld ! refl (stop !)) (sub ! 0 refl (whole !)))) refl (tt, tt) $
    sets ! (of_opd ! (get ! refl)) refl (tt, tt) $
    move ! (1 ∷ 2 ∷ 3 ∷ []) $ opens ! tt Slot b o (λ words. move ! (1 ∷ []) $ peeks ! Slot _ (shows 𝓛 Slot) before words (λ is. fsplit ! $ drop ! $ drop ! $
    rewrite ! 0 (λ (vs : List Val). ‵ (cell_at full_share Slot.mir vs b o)) (lowers.val_is before words is) refl $
    assigns ! (of_opd ! (get ! refl)) (through ! refl (fld ! refl (stop !))) (store_in ! 0 (sub ! 0 refl (whole !)) (tt, tt)) $
    sets ! (of_opd ! (unit_lit !)) refl (tt, tt) $
    -- [the slot's cell; its open borrow, in three entries; the block]
    let after : Slot.Denot = record { at = block_ptr b' o'; lender = Some core.value } in let cell : List Val = word b' o' ∷ [] in
    nothing ! $ feq_i ! (List Val) (vptr b' o' ∷ []) (vptr b' o' ∷ []) refl $ fjoin ! $ feq_i ! (List Val) cell cell refl $ fjoin ! $
    fpack ! (Valss (RawPtr ∷ [])) (within (shape slot.the_type) (block_ptr b' o', tt) cell) (vptr b' o' ∷ [], tt) $
    move ! (0 ∷ 5 ∷ []) $ fjoin ! $ move ! (1 ∷ []) $ closes ! tt Slot after cell b o $
    returns ! (look_at ! 0 refl) $ free_all ! refl $
    suffices ! _ (ends_at 𝓛 f.ended stayed c y vunit tt (after, (tt, tt)) (tt, (tt, tt))) $ says ! refl $
    -- from the end: the slot, the parcel of which nothing is left, the token, and the result
    feq_i ! (List Val) stored.0 (vptr b o ∷ []) at_slot $ fjoin3 ! $ nothing ! $ nothing ! $ move ! (2 ∷ 0 ∷ 1 ∷ []) $ fjoin3 ! $
    nothing ! $ move ! (2 ∷ 0 ∷ []) $ join ! $ feq_i ! (List Val) (vunit ∷ []) (vunit ∷ []) refl $ keep ! (1 ∷ 2 ∷ 0 ∷ []) $ done !)))))))
