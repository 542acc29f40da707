-- `new` puts the memory beside the number of its pages, which is 0.
use Rattle.std.proofs.Common.{◌≡◌, ◌≤◌, List, [], ◌∷◌, ◌++◌, refl, sym, subst, ◌^◌, arith, w32}
use lib.Dec.{lit<}
use base.Fml.{ftrue, fsep}
use base.Logic.{SProp, ent, emp, id⊢}
use contract.Monad.{fact, fact_i}
use contract.Running.{tables}
use mir.Val.{Val, vint, vstruct, vcons, vnil}
use prog.Wp.{WpFn}
use types.ByLocal.{alloc_all, pass_all, free_all, look_at, get, sets}
use types.Kit.{‵, raw, ◌⊛◌, ◌$◌, ◌∵◌, !, qed, by, move, keep, split, fsplit, fjoin, fpack, feq_i, flt_i, use0, rewrite, suffices}
use types.Part.{agg}
use types.Run.{enter, lit, of_opd, no_more, and_then, returns}
use denote.Builtin.{u32}
use denote.Exit.{yes}
use denote.Laws.{Is, shows}
use denote.RattleType.{RattleType, Valss, owns}
use denote.Signature.{plain, types_at}
use denote.Steps.{nothing, peeks, heard}
use denote.Struct.Owning.{shape}
use denote.Struct.Struct.{within}
use denote.Triple.Walked.{Stays, stay_dropped, walk_of}
use Rattle.core.proofs.alloc.Calls.{Goes-blank}
use Rattle.core.proofs.mem.Param.{El, one}
use Rattle.core.specs.Mem.Slots.{slots_len}
use Rattle.std_alloc.proofs.ResultValues.{and_tt}
use Rattle.std.proofs.raw_atomic.Walks.{proved_at, leaves}
use Rattle.page_model.specs.declared.limits.TheConstants.{MAX_FRAMES}
use Rattle.machine_frames.proofs.region.Memory.TheLaws as memory_laws
use Rattle.machine_frames.proofs.rooms.Rooms.new.Code as code
use Rattle.machine_frames.proofs.rooms.Rooms.new.Statement.{statement}
use Rattle.machine_frames.specs.contracts.region.Memory as memory
use Rattle.machine_frames.specs.contracts.rooms.Rooms as rooms
use Rattle.machine_frames.specs.contracts.rooms.Rooms.TheInside as inside
use Rattle.machine_frames.specs.contracts.rooms.Rooms.new as f
use Rattle.machine_frames.specs.PageLists.{PageList}
use Rattle.machine_frames.specs.declared.rooms.Rooms.TheInside.{Inside}

abbrev Memory : RattleType
Memory = memory.the_row

abbrev stayed : Stays f.ended.signature.params f.ended.kept
stayed = (stay_dropped (plain (λ _. Memory)) yes, tt)

pub new_spec : {M : Type 1} → statement M
new_spec 𝓤 𝓛 𝓜 𝓡 wired =
    let c = f.clauses 𝓛 𝓜.mem 𝓡.returns in let W = walk_of 𝓛 f.ended stayed c in let 𝓣 = tables 𝓤 𝓛.H 𝓜 𝓡 𝓡.env in
    let E : El = record { row = Memory; laws = memory_laws.the_row_laws } in
    proved_at 𝓛 f.ended stayed c 𝓜 𝓡 (Goes-blank 𝓛 0 (plain (λ _. Memory)) yes (λ κs x w. tt), tt)
    f.Key.name code.function (code.unfolded 𝓤 𝓛.H 𝓜 𝓡 wired) (λ y are.
    let d = y.0.3.0 in let Few : Type 0 = slots_len d.slots ≤ MAX_FRAMES in
    let Runs : List Val → SProp 𝓤 = λ vs. WpFn 𝓤 𝓛.H 𝓣.C 𝓣.Λ code.function vs (W.post y) in
    qed 𝓛 ((‵ ftrue ⊛ ‵ (owns (types_at f.ended.signature.params y.0.0) y.0.3 y.0.4)) ∷ raw (fact 𝓤 Few) ∷ []) ∵
    move ! (1 ∷ []) $ heard ! Few (λ few. split ! $ move ! (1 ∷ []) $ fsplit ! $ peeks ! Memory (Is Memory) (shows 𝓛 Memory) d y.0.4.0 (λ is.
    let got = one E y.0.4.0 ((memory_laws.the_row_laws.lawful 𝓛).typed d y.0.4.0 is) in
    let v : Val = got.0 in let zero : Val = vint w32 0 in let word : Val = vstruct (vcons v (vcons zero vnil)) in
    rewrite ! 0 (λ (vs : List Val). ‵ (Memory.own_val d vs)) got.1 refl $ keep ! (0 ∷ []) $
    suffices ! (Runs (v ∷ [])) (subst (λ (vs : List Val). ent 𝓤 (Runs (v ∷ [])) (Runs vs)) (sym (λ i. got.1 i ++ [])) (id⊢ 𝓤 (Runs (v ∷ [])))) $
    enter ! 𝓣.C 𝓣.Λ code.function (v ∷ []) (W.post y) $ alloc_all ! (λ l. pass_all ! refl (got.2, tt) $
    sets ! (of_opd ! (get ! refl)) refl got.2 $
    sets ! (agg ! (and_then ! (get ! refl) (and_then ! (lit ! tt) (no_more !)))) refl (and_tt (mir.Val.has_ty (denote.Param.layout Memory) v) got.2.0, (got.2.1, (record { fits = lit< tt }, tt))) $
    -- [the memory; the locals]
    let i : Inside = record { memory = d; len = 0 } in
    let holds : rooms.the_invariant i = (omega arith, few, λ k low high. absurd (omega (arith, high))) in
    nothing ! $ move ! (1 ∷ []) $ nothing ! $ flt_i ! 0 (2 ^ 32) (lit< tt) $ feq_i ! (List Val) (zero ∷ []) (zero ∷ []) refl $ fjoin ! $ fjoin ! $ move ! (1 ∷ 0 ∷ []) $ fjoin ! $
    feq_i ! (List Val) (word ∷ []) (word ∷ []) refl $ fjoin ! $
    fpack ! (Valss (memory.the_field.row ∷ u32 ∷ [])) (within (shape inside.the_type) ((d.slots, tt), (0, tt)) (word ∷ [])) (v ∷ [], (zero ∷ [], tt)) $
    fjoin ! $ nothing ! $ move ! (1 ∷ 0 ∷ []) $ fjoin ! $
    let r : PageList = rooms.the_view i in let Hidden : Type 0 = (a : Inside) × ((rooms.the_view a ≡ r) × rooms.the_invariant a) in
    fpack ! Hidden (λ x. fsep (inside.the_row.own_val x.0 (word ∷ [])) ftrue) (i, (refl, holds)) $
    let IsEmpty : Type 0 = r ≡ record { pages = []; room = slots_len d.slots } in
    let is_empty : IsEmpty = λ j. record { pages = []; room = sym d.slots.ok.0 j } in
    use0 𝓛 (raw (fact 𝓤 IsEmpty)) (fact_i 𝓤 IsEmpty (emp 𝓤) is_empty) $ nothing ! $ nothing ! $ fjoin ! $ nothing ! $
    returns ! (look_at ! 0 refl) $ free_all ! refl $ keep ! (0 ∷ 1 ∷ 3 ∷ 2 ∷ []) $ by ! (leaves 𝓛 f.ended stayed c y word r ((tt, tt), tt) (tt, tt))))))
