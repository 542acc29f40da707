-- `into_slots` hands the region's memory to std's row of slots.
use Rattle.std.proofs.Common.{◌≡◌, List, [], ◌∷◌, ◌++◌, length, refl, sym, ap, subst, ◌∙◌, ◌^◌, w64}
use lib.Dec.{T}
use base.Fml.{ftrue, fsep, flft}
use base.Fraction.{full_share}
use base.Logic.{SProp, ent, emp, id⊢, never}
use contract.BorrowLft.{◌⊑◌, ⊑_static}
use contract.Monad.{fact, fact_i}
use contract.Running.{tables}
use mir.Val.{Val, vint, vptr, vstruct, of_list, has_ty, WT}
use prog.Wp.{WpFn}
use types.ByLocal.{alloc_all, pass_all, free_all, look_at, get, get_in, sets, lands_last, env}
use types.Kit.{‵, raw, ◌⊛◌, some, later, at_ret, ◌$◌, ◌∵◌, !, qed, move, keep, drop, use0, use1, split, join, pick, await, fsplit, fjoin, fjoin3, fpick, feq_i, feq_l, flt_l, flt_i, rewrite, suffices, done}
use types.Part.{sub, whole}
use types.Run.{enter, stop, fld, of_opd, no_more, and_then, first, blocks, exec, returns}
use denote.Array.{Array}
use denote.Builtin.{u8}
use denote.Exit.{yes}
use denote.Param.{layout}
use denote.Param.Laws.{Laws, array_laws, of_field}
use denote.Param.Shared.{copy_shared}
use denote.RattleType.{RattleType, owns}
use denote.RawPtr.{Ptr, block_ptr, ptr_val, in_block, in_a_block}
use denote.Signature.{plain, types_at}
use denote.Steps.{nothing, only, heard}
use denote.Struct.Field.{u8-field}
use denote.Struct.Laws.{u8-laws, u8-copy}
use denote.Triple.Call.{calls_at_last}
use denote.Triple.Spec.{triple_of}
use denote.Triple.Table.{framed}
use denote.Triple.Walked.{Stays, stay_dropped, walk_of}
use Rattle.core.proofs.alloc.Calls.{Goes-blank}
use Rattle.core.proofs.mem.Param.{El}
use Rattle.core.proofs.slots.Opens.{Sr, row_val, row_had, row_made}
use Rattle.core.proofs.slots.Slots.from_raw_parts.Met as callee
use Rattle.core.specs.Mem.Slots.{slots_items, slots_filled, slots_ptr, slots_len}
use Rattle.core.specs.Mem.Slots.Ownership.{slots}
use Rattle.core.specs.contracts.slots.Slots.from_raw_parts as from
use Rattle.std.proofs.raw_atomic.Walks.{proved_at, leaves}
use Rattle.machine_frames.proofs.region.Region.into_slots.Code as code
use Rattle.machine_frames.proofs.region.Region.into_slots.Statement.{statement}
use Rattle.machine_frames.specs.contracts.region.Region as region
use Rattle.machine_frames.specs.contracts.region.Region.into_slots as f

abbrev Region : RattleType
Region = region.the_row

abbrev Page : RattleType
Page = Array u8 4096

abbrev page_laws : Laws Page
page_laws = array_laws u8 (of_field u8-field u8-laws refl (copy_shared u8-field u8-copy)) 4096

abbrev stayed : Stays f.ended.signature.params f.ended.kept
stayed = (stay_dropped (plain (λ _. Region)) yes, tt)

pub into_slots_spec : {M : Type 1} → statement M
into_slots_spec 𝓤 𝓛 𝓜 𝓡 wired =
    let c = f.clauses 𝓛 𝓜.mem 𝓡.returns in let W = walk_of 𝓛 f.ended stayed c in let 𝓣 = tables 𝓤 𝓛.H 𝓜 𝓡 𝓡.env in
    let E : El = record { row = Page; laws = page_laws } in
    let From = triple_of 𝓛 (from.signature Page) (from.spec Page 𝓛 𝓜.mem 𝓡.returns) in
    let makes = callee.met 𝓤 𝓛 𝓜 𝓡 (code.calls-core::slots::Slots::from_raw_parts 𝓡.env wired) Page page_laws in
    proved_at 𝓛 f.ended stayed c 𝓜 𝓡 (Goes-blank 𝓛 0 (plain (λ _. Region)) yes (λ κs x w. tt), tt)
    f.Key.name code.function (code.unfolded 𝓤 𝓛.H 𝓜 𝓡 wired) (λ y are.
    let self = y.0.3.0 in let n = self.pages in let xs = self.texts in let fs = self.held in
    let Runs : List Val → SProp 𝓤 = λ vs. WpFn 𝓤 𝓛.H 𝓣.C 𝓣.Λ code.function vs (W.post y) in
    let Ok : Type 0 = (n ≡ length xs) × (n ≡ length fs) in
    qed 𝓛 ((‵ ftrue ⊛ ‵ (owns (types_at f.ended.signature.params y.0.0) y.0.3 y.0.4)) ∷ raw ((c y.0.0 y.0.3).requires y.1) ∷ []) ∵
    split ! $ move ! (1 ∷ []) $ fsplit ! $ fsplit ! $ move ! (1 ∷ []) $ fsplit ! $ flt_l ! (λ fit.
    in_a_block ! self.at (λ p. in_block p (slots Page p xs fs)) (id⊢ 𝓤 (never 𝓤)) (λ b o at.
    move ! (1 ∷ []) $ fpick ! (λ fields. fsplit ! $ feq_l ! (λ stored. fsplit ! $ feq_l ! (λ pointer. fsplit ! $ fsplit ! $ feq_l ! (λ number. flt_l ! (λ fl.
    -- [no more fields; the places; nothing]
    keep ! (1 ∷ []) $
    let arg : Val = row_val b o n in
    let bits : y.0.4.0 ≡ arg ∷ [] = stored ∙ (λ i. vstruct (of_list ((pointer ∙ ap (λ (p : Ptr). ptr_val p ∷ []) at) i ++ (number i ++ []))) ∷ []) in
    suffices ! (Runs (arg ∷ [])) (subst (λ (vs : List Val). ent 𝓤 (Runs (arg ∷ [])) (Runs vs)) (sym (λ i. bits i ++ [])) (id⊢ 𝓤 (Runs (arg ∷ [])))) $
    enter ! 𝓣.C 𝓣.Λ code.function (arg ∷ []) (W.post y) $ alloc_all ! (λ l. pass_all ! refl ((tt, (tt, (record { fits = fl }, tt))), tt) $
    sets ! (of_opd ! (get_in ! (fld ! refl (stop !)) (sub ! 0 refl (whole !)))) refl (tt, tt) $
    sets ! (of_opd ! (get_in ! (fld ! refl (stop !)) (sub ! 1 refl (whole !)))) refl (tt, record { fits = fl }) $
    first ! $ blocks ! $
    -- what the call asks: a token of no lifetime, the two numbers, and the places
    let asks : From.Ghost = ((([], tt), (full_share, tt), tt, (block_ptr b o, (n, tt)), (vptr b o ∷ [], (vint w64 n ∷ [], tt))), (xs, fs)) in
    flt_i ! _ (2 ^ 63) fit $ fjoin ! $ use0 𝓛 (raw (fact 𝓤 Ok)) (fact_i 𝓤 Ok (emp 𝓤) self.counted) $ join ! $
    use0 𝓛 (raw (fact 𝓤 ([] ⊑ Page.lives))) (fact_i 𝓤 ([] ⊑ Page.lives) (emp 𝓤) (⊑_static [])) $ join ! $
    nothing ! $ flt_i ! n (2 ^ 64) fl $ feq_i ! (List Val) (vint w64 n ∷ []) (vint w64 n ∷ []) refl $ fjoin ! $ feq_i ! (List Val) (vptr b o ∷ []) (vptr b o ∷ []) refl $ fjoin3 ! $
    nothing ! $ use0 𝓛 (‵ (flft [] full_share)) (𝓛.lfts.lft-nil full_share) $ join ! $ join ! $ join ! $
    use1 𝓛 (raw (From.pre asks)) (id⊢ 𝓤 _) $
    calls_at_last ! (framed 𝓤 𝓛.H 𝓜 𝓣) From makes asks (and_then ! (get ! refl) (and_then ! (get ! refl) (no_more !))) (λ v.
    let Made : (Sr E).Denot → Type 0 = λ r. (slots_ptr r ≡ block_ptr b o) × (slots_len r ≡ n) × (slots_items r ≡ xs) × (slots_filled r ≡ fs) in
    use1 𝓛 (later (some (λ (r : (Sr E).Denot). ((‵ (flft [] full_share) ⊛ ‵ ftrue) ⊛ ‵ ((Sr E).own_val r (v ∷ []))) ⊛
    some (λ (ws : Unit {0} × (Unit {0} × Unit {0})). ‵ (fsep ftrue (fsep ftrue ftrue)) ⊛ raw (fact 𝓤 (Made r)))))) (id⊢ 𝓤 _) $
    await ! tt $ pick ! (λ r. split ! $ move ! (1 ∷ []) $ pick ! (λ ws. split ! $ drop ! $ heard ! (Made r) (λ made. split ! $ drop ! $
    -- [the slots; the locals]
    row_had E ! r (v ∷ []) (λ b' o' at' bits' fits' small. row_made E ! r b' o' at' fits' small $
    rewrite ! 0 (λ (vs : List Val). ‵ ((Sr E).own_val r vs)) (sym bits') refl $
    let good : T (has_ty (layout (Sr E)) v) × WT v = subst (λ (u : Val). T (has_ty (layout (Sr E)) u) × WT u) (sym (ap only bits')) (tt, (tt, (record { fits = fits' }, tt))) in
    lands_last ! refl good $ exec ! 𝓣.C 𝓣.Λ (env code.Mir.locals l) code.Mir.t-4 (at_ret (env code.Mir.locals l) (W.post y)) $
    sets ! (of_opd ! (get ! refl)) refl good $
    let Parts : Type 0 = (slots_len r ≡ n) × (slots_items r ≡ xs) × (slots_filled r ≡ fs) in
    use0 𝓛 (raw (fact 𝓤 Parts)) (fact_i 𝓤 Parts (emp 𝓤) (made.1, made.2, made.3)) $ nothing ! $ nothing ! $ fjoin ! $ nothing ! $
    returns ! (look_at ! 0 refl) $ free_all ! refl $ keep ! (0 ∷ 1 ∷ 3 ∷ 2 ∷ []) $ types.Kit.by ! (leaves 𝓛 f.ended stayed c y v r (tt, tt) (tt, tt))))))))))))))))
