-- `unwrap` makes a box of both parts by std's call.
use Rattle.std.proofs.Common.{◌≡◌, List, [], ◌∷◌, ◌++◌, refl, sym, ap, subst}
use base.Fml.{ftrue, flft}
use base.Logic.{SProp, ent, id⊢}
use contract.BorrowLft.{◌⊑◌}
use contract.Monad.{fact}
use contract.Running.{tables}
use mir.MapTy.{inst_fn}
use mir.Syntax.{a_type, dcons, dnil}
use mir.Val.{Val, vptr}
use prog.Wp.{WpFn}
use types.ByLocal.{alloc_all, pass_all, free_all, look_at, get, get_in, sets, lands_last, env}
use types.Kit.{‵, raw, ◌⊛◌, some, later, at_ret, ◌$◌, ◌∵◌, !, qed, by, move, keep, drop, split, split3, join, fsplit, fjoin, pick, suffices, use1, await, rewrite, feq_i}
use types.Part.{sub, whole}
use types.Run.{enter, stop, fld, of_opd, no_more, and_then, first, blocks, exec, returns}
use denote.Exit.{no}
use denote.Param.{bounded}
use denote.Param.Laws.{param_laws}
use denote.RattleType.{RattleType, owns}
use denote.RawPtr.{block_ptr}
use denote.Signature.{types_at, plain}
use denote.Steps.{nothing, only}
use denote.Triple.Call.{calls_at_last}
use denote.Triple.Clauses.{Lasts, lasts}
use denote.Triple.Spec.{triple_of}
use denote.Triple.Table.{framed}
use denote.Triple.Walked.{Stays, stay_dropped, walk_of}
use Rattle.core.proofs.alloc.Calls.{Goes-blank}
use Rattle.core.proofs.alloc.Shapes.{after}
use Rattle.core.proofs.cell.Inside.{Good}
use Rattle.std.proofs.raw_atomic.Walks.{proved_at, leaves}
use denote.Param.{layout}
use Rattle.std_alloc.proofs.BoxSteps.Form.{Bx, R, P, B}
use Rattle.std_alloc.proofs.BoxSteps.Steps.{box_out, box_in}
use Rattle.std_alloc.proofs.boxed.Box.from_raw.Met.{met}
use Rattle.std_alloc.specs.contracts.boxed.Box.from_raw as from_raw
use Rattle.c_handles.proofs.Parcels.{two, Parcel, parcel_typed, parcel_opens}
use Rattle.c_handles.proofs.parcel.Parcel.unwrap.Code as code
use Rattle.c_handles.proofs.parcel.Parcel.unwrap.Statement.{statement}
use Rattle.c_handles.specs.contracts.parcel.Parcel.unwrap as f

pub unwrap_spec : {M : Type 1} → statement M
unwrap_spec 𝓤 𝓛 𝓜 𝓡 wired X H value_laws heap_laws ghosts methods drops_value drops_heap allocates value_drops heap_drops =
    let E : Bx = record { row = X; laws = value_laws; al = record { row = H; laws = heap_laws; g = ghosts; d = methods; drops = drops_heap } } in
    let Boxed : RattleType = B E in let Heap : RattleType = P E in let laws = param_laws 1 H heap_laws in
    let ended = f.ended X H ghosts methods drops_value drops_heap in let c = f.clauses X H ghosts methods drops_value drops_heap 𝓛 𝓜.mem 𝓡.returns in
    let types = bounded (a_type ∷ a_type ∷ []) (X, (H, tt)) (dcons methods (dcons drops_value (dcons drops_heap dnil))) in let function = inst_fn types code.function in
    let 𝓣 = tables 𝓤 𝓛.H 𝓜 𝓡 𝓡.env in let stayed : Stays ended.signature.params ended.kept = (stay_dropped (plain (λ _. Parcel (R E) Heap laws ghosts)) no, tt) in
    let Built = triple_of 𝓛 (from_raw.signature X H ghosts methods drops_heap) (from_raw.spec X H ghosts methods drops_heap 𝓛 𝓜.mem 𝓡.returns) in
    let builds = met 𝓤 𝓛 𝓜 𝓡 (code.calls-std_alloc::boxed::Box::from_raw 𝓡.env wired) X H value_laws heap_laws ghosts methods drops_heap allocates heap_drops in
    proved_at 𝓛 ended stayed c 𝓜 𝓡 (Goes-blank 𝓛 2 (plain (λ _. Parcel (R E) Heap laws ghosts)) no (λ κs x w. tt), tt)
    (f.Key.name types) function (code.unfolded 𝓤 𝓛.H 𝓜 𝓡 wired (X, (H, tt)) methods drops_value drops_heap) (λ y are.
    let κs = y.0.0 in let qs = y.0.1 in let self = y.0.3.0 in let h = self.heap in let x = self.value in
    let Post : Val → SProp 𝓤 = (walk_of 𝓛 ended stayed c).post y in let Runs : List Val → SProp 𝓤 = λ vs. WpFn 𝓤 𝓛.H 𝓣.C 𝓣.Λ function vs Post in
    let tokens = ‵ (flft κs.0 qs.0) ⊛ ‵ (flft κs.1.0 qs.1.0) ⊛ ‵ ftrue in
    qed 𝓛 ((tokens ⊛ ‵ (owns (types_at ended.signature.params κs) y.0.3 y.0.4)) ∷ raw ((c κs y.0.3).requires y.1) ∷ []) ∵
    split ! $ move ! (1 ∷ []) $ fsplit ! $ parcel_opens (R E) Heap laws ghosts ! self y.0.4.0 (λ b o hv at bits fits.
    -- [the block; the handle; nothing; the tokens; the requires]
    let arg : Val = two (vptr b o) hv in let typed = parcel_typed (R E) Heap laws ghosts b o hv fits in
    let asks : Built.Ghost = ((κs, qs, tt, (h, (block_ptr b o, tt)), (hv ∷ [], (vptr b o ∷ [], tt))), x) in
    move ! (4 ∷ []) $ use1 𝓛 (raw (fact 𝓤 (κs.0 ⊑ X.lives)) ⊛ raw (fact 𝓤 (κs.1.0 ⊑ H.lives)) ⊛ ‵ ftrue) (id⊢ 𝓤 _) $ split3 ! $ move ! (2 ∷ []) $ drop ! $
    -- the callee's requires: the lifetimes' facts and the block
    move ! (1 ∷ 2 ∷ []) $ join ! $ move ! (1 ∷ 0 ∷ []) $ join ! $
    -- its arguments: the handle and the pointer
    move ! (2 ∷ []) $ feq_i ! (List Val) (vptr b o ∷ []) (vptr b o ∷ []) refl $ fjoin ! $ move ! (2 ∷ 0 ∷ []) $ fjoin ! $
    move ! (2 ∷ 0 ∷ []) $ join ! $ join ! $ use1 𝓛 (raw (Built.pre asks)) (id⊢ 𝓤 _) $
    suffices ! (Runs (arg ∷ [])) (subst (λ (vs : List Val). ent 𝓤 (Runs (arg ∷ [])) (Runs vs)) (sym (λ i. bits i ++ [])) (id⊢ 𝓤 (Runs (arg ∷ [])))) $
    enter ! 𝓣.C 𝓣.Λ function (arg ∷ []) Post $ alloc_all ! (λ l. pass_all ! refl (typed, tt) $
    sets ! (of_opd ! (get_in ! (fld ! refl (stop !)) (sub ! 0 refl (whole !)))) refl (tt, tt) $
    sets ! (of_opd ! (get_in ! (fld ! refl (stop !)) (sub ! 1 refl (whole !)))) refl fits $
    first ! $ blocks ! $ sets ! (of_opd ! (get ! refl)) refl fits $
    calls_at_last ! (framed 𝓤 𝓛.H 𝓜 𝓣) Built builds asks (and_then ! (get ! refl) (and_then ! (get ! refl) (no_more !))) (λ u.
    use1 𝓛 (later (some (λ (r : Boxed.Denot). (tokens ⊛ ‵ (Boxed.own_val r (u ∷ []))) ⊛
    some (λ (ls : Lasts (from_raw.ended X H ghosts methods drops_heap) κs asks.0.3). ‵ (lasts (from_raw.ended X H ghosts methods drops_heap) κs asks.0.3 ls) ⊛
    (raw (fact 𝓤 (r.value ≡ x)) ⊛ raw (fact 𝓤 (r.alloc ≡ h))))))) (id⊢ 𝓤 (Built.post asks u)) $
    await ! tt $ pick ! (λ r. split ! $ move ! (1 ∷ []) $ pick ! (λ ls. split3 ! $ drop ! $ move ! (2 ∷ []) $ split ! $ move ! (1 ∷ []) $
    -- the new box is looked into for the type of its value, and closed again
    box_out E ! r (u ∷ []) (λ b' o' hv' at' bits' fits'. box_in E ! r b' o' r.value at' refl $
    rewrite ! 0 (λ (vs : List Val). ‵ (Boxed.own_val r vs)) (sym bits') refl $
    let good : Good (layout Boxed) u = subst (Good (layout Boxed)) (sym (ap only bits')) (parcel_typed (R E) Heap laws ghosts b' o' hv' fits') in
    lands_last ! refl good $ exec ! 𝓣.C 𝓣.Λ (env function.locals l) (after 3 function.body) (at_ret (env function.locals l) Post) $
    sets ! (of_opd ! (get ! refl)) refl good $
    -- [the box; the tokens; the facts of the box]
    nothing ! $ nothing ! $ fjoin ! $ returns ! (look_at ! 0 refl) $ free_all ! refl $ keep ! (2 ∷ 0 ∷ 1 ∷ 3 ∷ []) $
    by ! (leaves 𝓛 ended stayed c y u r ((tt, (tt, tt)), tt) (tt, tt)))))))))
