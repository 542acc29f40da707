-- `wrap` takes the box apart by std's call, and puts both parts into a parcel.
use Rattle.std.proofs.Common.{◌≡◌, List, [], ◌∷◌, ◌++◌, refl, sym, ap, ◌∙◌, subst}
use base.Fml.{ftrue, flft}
use base.Logic.{SProp, ent, emp, never, id⊢, fst∗}
use contract.Monad.{fact, fact_i}
use contract.Running.{tables}
use mir.MapTy.{inst_fn}
use mir.Raw.{raw as bare}
use mir.Syntax.{a_type, dcons, dnil}
use mir.Val.{Val, vptr, vstruct, of_list}
use prog.Wp.{WpFn}
use types.ByLocal.{alloc_all, pass_all, free_all, look_at, get, get_in, sets, lands_as}
use types.Kit.{‵, raw, ◌⊛◌, some, later, ◌$◌, ◌∵◌, !, qed, by, move, keep, drop, split, split3, join, fsplit, fjoin, fpick, pick, suffices, use0, use1, await, rewrite, feq_l}
use types.Logic.{sem}
use types.Part.{agg, sub, whole}
use types.Run.{enter, stop, fld, of_opd, no_more, and_then, returns}
use denote.Builtin.{RawPtr}
use denote.Exit.{no}
use denote.Param.{bounded, layout}
use denote.Param.Laws.{param_laws}
use denote.RattleType.{RattleType, owns}
use denote.RawPtr.{Ptr, block_ptr, null_ptr, ptr_val, in_a_block}
use denote.Signature.{types_at, plain}
use denote.Steps.{nothing, only, heard}
use denote.Struct.Tuple.{Tuple}
use denote.Triple.Call.{calls_at}
use denote.Triple.Clauses.{Lasts, lasts}
use denote.Triple.Spec.{triple_of}
use denote.Triple.Table.{framed}
use denote.Triple.Walked.{Stays, stay_dropped, walk_of}
use Rattle.core.proofs.alloc.Calls.{Goes-blank, handle_tells}
use Rattle.std.proofs.raw_atomic.Walks.{proved_at, leaves}
use Rattle.std_alloc.proofs.BoxSteps.Form.{Bx, R, P, B, word}
use Rattle.std_alloc.proofs.BoxSteps.Steps.{box_out, box_in}
use Rattle.std_alloc.proofs.boxed.Box.into_raw_with_allocator.Met.{met}
use Rattle.std_alloc.specs.contracts.boxed.Box.into_raw_with_allocator as into_raw
use Rattle.c_handles.proofs.Parcels.{two, Block, parcel_typed, parcel_closes}
use Rattle.c_handles.proofs.parcel.Parcel.wrap.Code as code
use Rattle.c_handles.proofs.parcel.Parcel.wrap.Statement.{statement}
use Rattle.c_handles.specs.contracts.parcel.Parcel.wrap as f

pub wrap_spec : {M : Type 1} → statement M
wrap_spec 𝓤 𝓛 𝓜 𝓡 wired X H value_laws heap_laws ghosts methods drops_value drops_heap allocates value_drops heap_drops =
    let E : Bx = record { row = X; laws = value_laws; al = record { row = H; laws = heap_laws; g = ghosts; d = methods; drops = drops_heap } } in
    let Boxed : RattleType = B E in let Heap : RattleType = P E in let laws = param_laws 1 H heap_laws in
    let ended = f.ended X H ghosts methods drops_value drops_heap in let c = f.clauses X H ghosts methods drops_value drops_heap 𝓛 𝓜.mem 𝓡.returns in
    let types = bounded (a_type ∷ a_type ∷ []) (X, (H, tt)) (dcons methods (dcons drops_value (dcons drops_heap dnil))) in let function = inst_fn types code.function in
    let 𝓣 = tables 𝓤 𝓛.H 𝓜 𝓡 𝓡.env in let stayed : Stays ended.signature.params ended.kept = (stay_dropped (plain (λ _. Boxed)) no, tt) in
    let Taken = triple_of 𝓛 (into_raw.signature X H ghosts methods drops_heap drops_value) (into_raw.spec X H ghosts methods drops_heap drops_value 𝓛 𝓜.mem 𝓡.returns) in
    let takes = met 𝓤 𝓛 𝓜 𝓡 (code.calls-std_alloc::boxed::Box::into_raw_with_allocator 𝓡.env wired) X H value_laws heap_laws ghosts methods drops_heap drops_value allocates heap_drops value_drops in
    proved_at 𝓛 ended stayed c 𝓜 𝓡 (Goes-blank 𝓛 2 (plain (λ _. Boxed)) no (λ κs x w. tt), tt)
    (f.Key.name types) function (code.unfolded 𝓤 𝓛.H 𝓜 𝓡 wired (X, (H, tt)) methods drops_value drops_heap) (λ y are.
    let κs = y.0.0 in let qs = y.0.1 in let boxed = y.0.3.0 in let h = boxed.alloc in let x = boxed.value in
    let Post : Val → SProp 𝓤 = (walk_of 𝓛 ended stayed c).post y in let Runs : List Val → SProp 𝓤 = λ vs. WpFn 𝓤 𝓛.H 𝓣.C 𝓣.Λ function vs Post in
    let tokens = ‵ (flft κs.0 qs.0) ⊛ ‵ (flft κs.1.0 qs.1.0) ⊛ ‵ ftrue in
    qed 𝓛 ((tokens ⊛ ‵ (owns (types_at ended.signature.params κs) y.0.3 y.0.4)) ∷ raw ((c κs y.0.3).requires y.1) ∷ []) ∵
    split ! $ move ! (1 ∷ []) $ fsplit ! $ box_out E ! boxed y.0.4.0 (λ b o hv at bits fits. box_in E ! boxed b o x at refl $
    -- [the box; nothing; the tokens; the requires]
    let arg : Val = word E hv b o in let typed = parcel_typed (R E) Heap laws ghosts b o hv fits in
    let asks : Taken.Ghost = ((κs, qs, tt, (boxed, tt), (arg ∷ [], tt)), tt) in
    fjoin ! $ move ! (1 ∷ 0 ∷ []) $ join ! $ join ! $ use1 𝓛 (raw (Taken.pre asks)) (id⊢ 𝓤 _) $
    suffices ! (Runs (arg ∷ [])) (subst (λ (vs : List Val). ent 𝓤 (Runs (arg ∷ [])) (Runs vs)) (sym (λ i. bits i ++ [])) (id⊢ 𝓤 (Runs (arg ∷ [])))) $
    enter ! 𝓣.C 𝓣.Λ function (arg ∷ []) Post $ alloc_all ! (λ l. pass_all ! refl (typed, tt) $
    sets ! (of_opd ! (get ! refl)) refl typed $
    calls_at ! (framed 𝓤 𝓛.H 𝓜 𝓣) Taken takes asks (and_then ! (get ! refl) (no_more !)) (λ u.
    use1 𝓛 (later (some (λ (r : Ptr × H.Denot). (tokens ⊛ ‵ ((Tuple (RawPtr ∷ Heap ∷ [])).own_val r (u ∷ []))) ⊛
    some (λ (ls : Lasts (into_raw.ended X H ghosts methods drops_heap drops_value) κs asks.0.3). ‵ (lasts (into_raw.ended X H ghosts methods drops_heap drops_value) κs asks.0.3 ls) ⊛
    (raw (fact 𝓤 (r.1 ≡ h)) ⊛ ‵ (Block (R E) Heap laws ghosts h x r.0)))))) (id⊢ 𝓤 _) $
    await ! tt $ pick ! (λ r. split ! $ move ! (1 ∷ []) $ pick ! (λ ls. split3 ! $ drop ! $ heard ! (r.1 ≡ h) (λ same.
    in_a_block ! r.0 (Block (R E) Heap laws ghosts h x) (fst∗ 𝓤 (never 𝓤) (sem 𝓛 (ghosts.dealloc_token h (bare (layout X)) null_ptr))) (λ b' o' at'.
    -- [the block; the tokens and the pair]
    move ! (1 ∷ []) $ split ! $ move ! (1 ∷ []) $ fpick ! (λ parts. fsplit ! $ feq_l ! (λ pair. fsplit ! $ feq_l ! (λ pointer. fsplit ! $
    rewrite ! 0 (λ (s : H.Denot). ‵ (Heap.own_val s parts.1.0)) same refl $ handle_tells E.al ! h parts.1.0 (λ hv' bits' fits'.
    let typed' = parcel_typed (R E) Heap laws ghosts b' o' hv' fits' in
    lands_as ! (ap only (pair ∙ (λ i. vstruct (of_list ((pointer ∙ ap (λ (p : Ptr). ptr_val p ∷ []) at') i ++ (bits' i ++ []))) ∷ []))) refl typed' $
    sets ! (of_opd ! (get_in ! (fld ! refl (stop !)) (sub ! 0 refl (whole !)))) refl (tt, tt) $
    sets ! (of_opd ! (get_in ! (fld ! refl (stop !)) (sub ! 1 refl (whole !)))) refl fits' $
    sets ! (of_opd ! (get ! refl)) refl fits' $
    sets ! (agg ! (and_then ! (get ! refl) (and_then ! (get ! refl) (no_more !)))) refl typed' $
    -- [the handle; nothing; the tokens; the block]
    move ! (3 ∷ 0 ∷ []) $ parcel_closes (R E) Heap laws ghosts ! b' o' hv' h x $
    use0 𝓛 (raw (fact 𝓤 (x ≡ x))) (fact_i 𝓤 (x ≡ x) (emp 𝓤) refl) $ nothing ! $ nothing ! $ fjoin ! $
    returns ! (look_at ! 0 refl) $ free_all ! refl $ keep ! (4 ∷ 0 ∷ 2 ∷ 1 ∷ []) $
    by ! (leaves 𝓛 ended stayed c y (two (vptr b' o') hv') (record { at = block_ptr b' o'; heap = h; value = x }) ((tt, (tt, tt)), tt) (tt, tt))))))))))))))
