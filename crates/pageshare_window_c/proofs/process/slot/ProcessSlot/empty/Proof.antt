-- `empty` reads the slot's address, and takes what is owned there.
use Rattle.std.proofs.Common.{List, [], ◌∷◌, ◌++◌, Option, IsSome, None, refl, sym, ap, ◌∙◌, subst}
use base.Fml.{ftrue, flft}
use base.Fraction.{full_share}
use base.Logic.{SProp, ent, id⊢, never, fst∗}
use contract.Monad.{fact}
use contract.Running.{tables}
use mir.Raw.{raw as bare}
use mir.Val.{Val, vptr}
use prog.Wp.{WpFn}
use types.ByLocal.{alloc_all, pass_all, free_all, look_at, get, through, sets}
use types.Kit.{‵, raw, ◌⊛◌, ◌$◌, ◌∵◌, !, qed, done, move, keep, split, join, fsplit, fsplit3, fjoin, fjoin3, feq_i, feq_l, rewrite, suffices}
use types.Logic.{sem}
use types.Part.{agg, sub, whole, look_in}
use types.Run.{enter, of_opd, stop, fld, load, no_more, and_then, returns}
use denote.Exit.{yes}
use denote.Laws.{shows}
use denote.Memory.{cell_at, lone}
use denote.RattleType.{RattleType, owns}
use denote.RawPtr.{Ptr, block_ptr, null_ptr, in_a_block}
use denote.Signature.{plain, types_at}
use denote.Steps.{nothing, opens, closes, peeks, heard}
use denote.Triple.Walked.{Stays, walk_of, says, stay_ref, Goes-ref, stay_dropped, ends_at}
use Rattle.core.proofs.alloc.Calls.{Goes-blank, handle_tells}
use Rattle.std.proofs.raw_atomic.Walks.{proved_at}
use Rattle.process_lender.specs.Windows.{Lender}
use Rattle.std.specs.contracts.impls.GlobalAllocator.TheImpl.{ghosts}
use Rattle.c_handles.proofs.Held.{Heap, heap_laws, HeapParcel, held}
use Rattle.c_handles.proofs.Parcels.{two, handle, Block, parcel_typed, parcel_closes}
use Rattle.pageshare_window_c.proofs.process.slot.ProcessSlot.TheLaws.{lowers}
use Rattle.pageshare_window_c.proofs.process.slot.ProcessSlot.empty.Code as code
use Rattle.pageshare_window_c.proofs.process.slot.ProcessSlot.empty.Statement.{statement}
use Rattle.c_handles.specs.Held.{heap, held_owns}
use Rattle.pageshare_window_c.specs.ProcessHeld.{lender_row}
use Rattle.pageshare_window_c.specs.contracts.process.slot.ProcessSlot as slot
use Rattle.pageshare_window_c.specs.contracts.process.slot.ProcessSlot.empty as f

abbrev Core : RattleType
Core = HeapParcel lender_row

abbrev Slot : RattleType
Slot = slot.the_row

abbrev stayed : Stays f.ended.signature.params f.ended.kept
stayed = (stay_ref (0 ∷ []) tt (plain (λ _. Slot)), (stay_dropped (plain (λ _. Heap)) yes, tt))

pub empty_spec : {M : Type 1} → statement M
empty_spec 𝓤 𝓛 𝓜 𝓡 wired =
    let c = f.clauses 𝓛 𝓜.mem 𝓡.returns in let W = walk_of 𝓛 f.ended stayed c in let 𝓣 = tables 𝓤 𝓛.H 𝓜 𝓡 𝓡.env in
    proved_at 𝓛 f.ended stayed c 𝓜 𝓡 (Goes-ref 𝓛 1 0 tt (plain (λ _. Slot)), (Goes-blank 𝓛 1 (plain (λ _. Heap)) yes (λ κs x w. tt), tt))
    f.Key.name code.function (code.unfolded 𝓤 𝓛.H 𝓜 𝓡 wired) (λ y are.
    let κ = y.0.0.0 in let q = y.0.1.0 in let self = y.0.3.0 in let a = y.0.3.1.0 in let stored = y.0.4 in
    let b = self.ref_ptr.0 in let o = self.ref_ptr.1 in let before = self.now in
    let Runs : List Val → SProp 𝓤 = λ vs. WpFn 𝓤 𝓛.H 𝓣.C 𝓣.Λ code.function vs (W.post y) in
    qed 𝓛 (((‵ (flft κ q) ⊛ ‵ ftrue) ⊛ ‵ (owns (types_at f.ended.signature.params y.0.0) y.0.3 stored)) ∷ raw (fact 𝓤 (IsSome before.lender)) ∷ []) ∵
    move ! (1 ∷ []) $ heard ! (IsSome before.lender) (λ full. let x = (held before.lender full).0 in let is_x = (held before.lender full).1 in
    split ! $ split ! $ move ! (2 ∷ []) $ fsplit ! $ fsplit3 ! $ feq_l ! (λ at_slot. move ! (2 ∷ []) $ fsplit ! $
    handle_tells (handle lender_row Heap heap_laws ghosts) ! a stored.1.0 (λ hv bits fits. keep ! (0 ∷ 2 ∷ 3 ∷ 4 ∷ []) $
    -- [the handle; the slot's name and borrow; the token]
    let args : List Val = vptr b o ∷ hv ∷ [] in
    suffices ! (Runs args) (subst (λ (vs : List Val). ent 𝓤 (Runs args) (Runs vs)) (sym (λ i. at_slot i ++ (bits i ++ []))) (id⊢ 𝓤 (Runs args))) $
    enter ! 𝓣.C 𝓣.Λ code.function args (W.post y) $ alloc_all ! (λ l. pass_all ! refl ((tt, tt), (fits, tt)) $
    move ! (1 ∷ 2 ∷ 3 ∷ []) $ opens ! tt Slot b o (λ words. move ! (1 ∷ []) $ peeks ! Slot _ (shows 𝓛 Slot) before words (λ is. fsplit ! $ move ! (1 ∷ []) $
    rewrite ! 0 (λ (v : Option Lender). ‵ (held_owns lender_row before.at v)) is_x refl $
    in_a_block ! before.at (Block lender_row Heap heap_laws ghosts heap x) (fst∗ 𝓤 (never 𝓤) (sem 𝓛 (ghosts.dealloc_token heap (bare (lone lender_row.mir)) null_ptr))) (λ b' o' at.
    let Cell = λ (vs : List Val). ‵ (cell_at full_share Slot.mir vs b o) in
    let points = lowers.val_is before words is ∙ ap (λ (p : Ptr). lowers.lowered (record before { at = p }) ∷ []) at in
    rewrite ! 2 Cell points refl $
    -- [the block; what the slot's field owns; the slot's cell; its open borrow, in three entries; the handle]
    let typed = parcel_typed lender_row Heap heap_laws ghosts b' o' hv fits in
    sets ! (of_opd ! (load ! (through ! refl (fld ! refl (stop !))) (look_in ! 2 (sub ! 0 refl (whole !))))) refl (tt, tt) $
    sets ! (of_opd ! (get ! refl)) refl (tt, tt) $
    sets ! (agg ! (and_then ! (get ! refl) (and_then ! (get ! refl) (no_more !)))) refl typed $
    let after : Slot.Denot = record { at = before.at; lender = None } in let out : Core.Denot = record { at = block_ptr b' o'; heap = a; value = x } in
    rewrite ! 2 Cell (sym points) refl $ move ! (0 ∷ 6 ∷ []) $ parcel_closes lender_row Heap heap_laws ghosts ! b' o' hv a x $
    -- [the parcel; what the slot's field owns; the slot's cell; its open borrow]
    nothing ! $ move ! (2 ∷ 0 ∷ []) $ fjoin ! $ move ! (2 ∷ 0 ∷ 3 ∷ 4 ∷ 5 ∷ []) $ closes ! tt Slot after words b o $
    -- [the slot's name and borrow; the token; the parcel]
    returns ! (look_at ! 0 refl) $ free_all ! refl $
    suffices ! _ (ends_at 𝓛 f.ended stayed c y (two (vptr b' o') hv) out (after, (tt, tt)) (tt, (tt, tt))) $ says ! (is_x, refl) $
    feq_i ! (List Val) stored.0 (vptr b o ∷ []) at_slot $ fjoin3 ! $ nothing ! $ nothing ! $ move ! (2 ∷ 0 ∷ 1 ∷ []) $ fjoin3 ! $
    nothing ! $ move ! (2 ∷ 0 ∷ []) $ join ! $ done !))))))))
