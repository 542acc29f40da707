-- The count is asked first. Where it refuses, so does the allocator; else the answer is the inner allocator's. Assumes `Logic`.
use Rattle.std.proofs.Common.{Bool, ◌≡◌, ℕ, ◌^◌, ◌<◌, true, false, [], ◌∷◌, Ok, Err, refl, w64, Bor}
use Rattle.std.proofs.VecSteps.Shapes.{after}
use Rattle.std.proofs.raw_atomic.Walks.{proved}
use Rattle.std.proofs.alloc.Calls.{Al, seen, Answer, answer_val, Answer-typed, Answer-Ok, Answer-err, takes_key, Takes, at_takes, Answered, Takes-goes, Takes-gives, answers}
use Rattle.std.specs.Allocator.{block_if_ok}
use seplogic.Ra.Ura.{Ura}
use mir.Syntax.{Ty, Fn, Callee, a_type, dnil, dcons}
use mir.Val.{Val, vbool, vint, vptr}
use mir.MapTy.{inst_fn}
use base.Logic.{SProp, ent, emp}
use base.Fml.{Lft, Share, ftrue, flft}
use prog.Memory.{size, align, capped}
use prog.Model.{Model}
use prog.Wp.{WpFn, Tables}
use types.Logic.{Logic, sem}
use contract.BorrowLft.{◌⊑◌, ⊑_trans}
use contract.Monad.{fact}
use contract.Running.{Running, tables, tables_of}
use sound.WpLaws.{fm_of}
use types.Run.{stop, fld, addr, lit, no_more, and_then, first, skips, branches, exec, returns, returns_within, enter}
use types.Part.{agg}
use types.Kit.{‵, raw, ◌⊛◌, later, given, learn, some, pick, at_ret, prop, Sq, ◌$◌, ◌∵◌, !, qed, move, keep, drop, use0, use1, use2, split, join, fsplit, fjoin, suffices, await, done}
use types.ByLocal.{alloc_all, pass_all, free_all, look_at, get, through, sets, lands_as, env}
use denote.Exit.{yes}
use denote.Memory.{hidden_shr}
use denote.RattleType.{owns}
use denote.RawPtr.{block_ptr}
use denote.Ref.{shr_vals}
use denote.Builtin.{usize, RefOf}
use denote.Param.{bounded}
use denote.Plain.{uint_vals, uint_Tells}
use denote.Signature.{Slot, plain, types_at}
use denote.Steps.{heard, nothing}
use denote.Triple.Call.{calls_at}
use denote.Triple.Clauses.{Ended, Clauses}
use denote.Triple.Statement.{Triple}
use denote.Triple.Table.{cited}
use denote.Triple.Walked.{Stays, stay_dropped, walk_of, ends_at, Goes-dropped}
use Rattle.refusing.proofs.Handle.{Handle, inner_at, counts_at, opened}
use Rattle.refusing.proofs.RequestCalls.{Ask, at_ask, Ask-goes, Ask-gives}
use Rattle.refusing.proofs.Requests.refuses_next.Symbol as asked
use Rattle.refusing.proofs.Requests.refuses_next.Met as asks_well
use Rattle.refusing.specs.contracts.Requests as requests
use Rattle.refusing.specs.contracts.RefusingAllocator.allocate as terms
use Rattle.refusing.specs.contracts.RefusingAllocator.allocate.Key as key
use Rattle.refusing.proofs.RefusingAllocator.allocate.Statement as stated
use Rattle.refusing.proofs.RefusingAllocator.allocate.Code as code

-- the function at an inner allocator, and its parameters: a `&` to the handle, a size and an alignment, all let go
module _ (Z : Al) where
  abbrev name : Callee
  name = key.name (bounded (a_type ∷ []) (Z.row, tt) (dcons Z.d (dcons Z.drops dnil)))

  abbrev body : Fn
  body = inst_fn (bounded (a_type ∷ []) (Z.row, tt) (dcons Z.d (dcons Z.drops dnil))) code.function

  abbrev E : Ended
  E = terms.ended Z.row Z.g Z.d Z.drops

  abbrev handle : Slot 2
  handle = RefOf (0 ∷ []) tt (plain (λ _. Handle Z)) (λ _. tt)

  abbrev number : Slot 2
  number = plain (λ _. usize)

  abbrev let_go : Stays E.signature.params E.kept
  let_go = (stay_dropped handle yes, (stay_dropped number yes, (stay_dropped number yes, tt)))

module _ (Z : Al) {M : Type 1} {𝓤 : Ura M} (𝓛 : Logic 𝓤) (𝓜 : Model 𝓤 𝓛.H) (𝓡 : Running 𝓤 𝓛.H 𝓜) where
  abbrev 𝓣 : Tables 𝓤 𝓛.H
  𝓣 = tables_of 𝓤 𝓛.H 𝓜 (tables 𝓤 𝓛.H 𝓜 𝓡 𝓡.env)

  abbrev clauses : Clauses 𝓤 (E Z)
  clauses = terms.clauses Z.row Z.g Z.d Z.drops 𝓛 𝓜.mem 𝓡.returns

  -- One call: the lifetimes and shares of the two tokens, the handle, the size, the alignment, and the type that is asked for
  module _ (κ ρ : Lft) (s t : Share) (inn : κ ⊑ ρ) (handle : Bor (Handle Z).Denot) (n a : ℕ) (τ : Ty) where
    abbrev call : (walk_of 𝓛 (E Z) (let_go Z) clauses).Ghost
    call = (((κ, (ρ, tt)), (s, (t, tt)), (inn, tt), (handle, (n, (a, tt))), (shr_vals handle, (vint w64 n ∷ [], (vint w64 a ∷ [], tt)))), τ)

    abbrev Post : Val → SProp 𝓤
    Post = (walk_of 𝓛 (E Z) (let_go Z) clauses).post call

    -- every way out: an answer, with its block
    out : (v : Val) (answer : Answer.Denot) → ent 𝓤 (emp 𝓤) (sem 𝓛 (Answer.own_val answer (v ∷ [])))
        → Sq 𝓛 (‵ (block_if_ok (Z.g.dealloc_token handle.now.inner) τ answer) ∷ ‵ (flft κ s) ∷ (‵ (flft ρ t) ⊛ ‵ ftrue) ∷ []) (prop (Post v))
    out v answer made =
        suffices ! _ (ends_at 𝓛 (E Z) (let_go Z) clauses call v answer (tt, (tt, (tt, tt))) (tt, (tt, (tt, tt)))) $
        use0 𝓛 (‵ (Answer.own_val answer (v ∷ []))) made $ nothing ! $ nothing ! $
        fjoin ! $ nothing ! $ fjoin ! $ nothing ! $ fjoin ! $ join ! $ move ! (2 ∷ 3 ∷ []) $ join ! $ join ! $ done !

    walk : n < 2 ^ 64 → a < 2 ^ 64 → Triple 𝓤 (𝓣.C (takes_key Z)) (Takes Z 𝓛 𝓜.mem 𝓡.returns) → Triple 𝓤 (𝓣.C asked.name) (Ask 𝓛 𝓜.mem 𝓡.returns)
        → ent 𝓤 ((walk_of 𝓛 (E Z) (let_go Z) clauses).pre call) (WpFn 𝓤 𝓛.H 𝓣.C 𝓣.Λ (body Z) (vptr handle.ref_ptr.0 handle.ref_ptr.1 ∷ vint w64 n ∷ vint w64 a ∷ []) Post)
    walk small_n small_a inner_takes count_asks =
        let x : (Handle Z).Denot = handle.now in let inner : ℕ × ℕ = inner_at Z handle.ref_ptr in let counts : ℕ × ℕ = counts_at Z handle.ref_ptr in
        let Right : Type 0 = (capped (size τ) ≡ n) × (capped (align τ) ≡ a) in
        let asking : (Ask 𝓛 𝓜.mem 𝓡.returns).Ghost = at_ask 𝓛 𝓜.mem 𝓡.returns κ s x.requests counts n in
        let taking : (Takes Z 𝓛 𝓜.mem 𝓡.returns).Ghost = at_takes Z 𝓛 𝓜.mem 𝓡.returns κ s inner x.inner n a τ in
        qed 𝓛 (((‵ (flft κ s) ⊛ ‵ (flft ρ t) ⊛ ‵ ftrue) ⊛ ‵ (owns (types_at (E Z).signature.params call.0.0) call.0.3 call.0.4)) ∷ (raw (fact 𝓤 (ρ ⊑ Z.row.lives)) ⊛ raw (fact 𝓤 Right)) ∷ []) ∵
        move ! (1 ∷ []) $ split ! $ heard ! (ρ ⊑ Z.row.lives) (λ lives. heard ! Right (λ right.
        -- [the handle's parameter; its token; the other token]
        split ! $ split ! $ move ! (2 ∷ []) $ fsplit ! $ fsplit ! $ move ! (1 ∷ []) $
        use1 𝓛 (‵ (seen Z κ inner x.inner) ⊛ ‵ (hidden_shr requests.the_row κ x.requests counts.0 counts.1)) (opened Z 𝓛 κ handle.ref_ptr x) $ split ! $
        -- [the counts; the token; the inner allocator; the other token]
        keep ! (1 ∷ 4 ∷ 0 ∷ 5 ∷ []) $
        enter ! 𝓣.C 𝓣.Λ (body Z) _ _ $ alloc_all ! (λ l. pass_all ! refl ((tt, tt), ((tt, record { fits = small_n }), ((tt, record { fits = small_a }), tt))) $
        sets ! (addr ! (through ! refl (fld ! refl (stop !)))) refl (tt, tt) $
        use2 𝓛 (raw ((Ask 𝓛 𝓜.mem 𝓡.returns).pre asking)) (Ask-goes 𝓛 𝓜.mem 𝓡.returns κ s x.requests counts n small_n) $
        calls_at ! (fm_of 𝓤 𝓛.H 𝓛.laws 𝓣) (Ask 𝓛 𝓜.mem 𝓡.returns) count_asks asking (and_then ! (get ! refl) (and_then ! (get ! refl) (no_more !))) (λ u.
        use1 𝓛 (later (some (λ (y : Bool). given (u ≡ vbool y) (‵ (flft κ s))))) (Ask-gives 𝓛 𝓜.mem 𝓡.returns κ s x.requests counts n u) $ await ! tt $ pick ! (λ refused. learn ! (λ is.
        lands_as ! is refl (tt, tt) $ move ! (1 ∷ []) $ first ! $ branches ! (get ! refl)
        (λ yes. drop ! $ nothing ! $ sets ! (agg ! (no_more !)) refl (tt, tt) $
        sets ! (agg ! (and_then ! (lit ! tt) (and_then ! (get ! refl) (no_more !)))) refl (Answer-typed false 0 0) $
        returns_within ! Post refl (look_at ! 0 refl) $ free_all ! refl $ out (answer_val false 0 0) (Err (record {})) (Answer-err 𝓛))
        (λ no. skips ! $ exec ! 𝓣.C 𝓣.Λ (env (body Z).locals l) (after 3 (body Z).body) (at_ret (env (body Z).locals l) Post) $
        sets ! (addr ! (through ! refl (fld ! refl (stop !)))) refl (tt, tt) $
        use2 𝓛 (raw ((Takes Z 𝓛 𝓜.mem 𝓡.returns).pre taking)) (Takes-goes Z 𝓛 𝓜.mem 𝓡.returns κ s inner x.inner (⊑_trans κ ρ Z.row.lives inn lives) n a τ right.0 right.1 small_n small_a) $
        calls_at ! (fm_of 𝓤 𝓛.H 𝓛.laws 𝓣) (Takes Z 𝓛 𝓜.mem 𝓡.returns) inner_takes taking (and_then ! (get ! refl) (and_then ! (get ! refl) (and_then ! (get ! refl) (no_more !)))) (λ v.
        use1 𝓛 (later (raw (Answered Z 𝓛 𝓜.mem 𝓡.returns x.inner τ v) ⊛ ‵ (flft κ s))) (Takes-gives Z 𝓛 𝓜.mem 𝓡.returns κ s inner x.inner n a τ v) $ await ! tt $ split ! $
        answers Z ! 𝓜.mem 𝓡.returns x.inner τ v
        (λ b o is. fjoin ! $ lands_as ! is refl (Answer-typed true b o) $ returns ! (look_at ! 0 refl) $ free_all ! refl $ out (answer_val true b o) (Ok (block_ptr b o)) (Answer-Ok 𝓛 b o))
        (λ is. nothing ! $ lands_as ! is refl (Answer-typed false 0 0) $ returns ! (look_at ! 0 refl) $ free_all ! refl $ out (answer_val false 0 0) (Err (record {})) (Answer-err 𝓛))))))))))

pub allocate_spec : {M : Type 1} → stated.statement M
unfolding tables_of
allocate_spec 𝓤 𝓛 𝓜 𝓡 wired inner inner_laws ghosts methods drops met _ =
    let Z : Al = record { row = inner; laws = inner_laws; g = ghosts; d = methods; drops = drops } in
    let asks = asks_well.met 𝓤 𝓛 𝓜 𝓡 (code.calls-refusing::Requests::refuses_next 𝓡.env wired) in
    let gone = Goes-dropped 𝓛 2 (number Z) yes (λ κs n f. refl) in
    proved 𝓛 (E Z) (let_go Z) (clauses Z 𝓛 𝓜 𝓡) 𝓜 𝓡 (Goes-dropped 𝓛 2 (handle Z) yes (λ κs x f. refl), (gone, (gone, tt)))
    (name Z) (body Z) (code.unfolded 𝓤 𝓛.H 𝓜 𝓡 wired (inner, tt) methods drops)
    (λ κs. (shr_vals, (uint_vals w64, (uint_vals w64, tt)))) (λ κs. ((λ x vs is. is.0), (uint_Tells w64, (uint_Tells w64, tt)))) (λ κs shares bounds args τ are.
    walk Z 𝓛 𝓜 𝓡 κs.0 κs.1.0 shares.0 shares.1.0 bounds.0 args.0 args.1.0 args.1.1.0 τ are.1.0.1 are.1.1.0.1 (met.allocate drops)
    (cited 𝓤 𝓛.H _ 𝓜 𝓡 𝓡.env asked.name (𝓡.env asked.name) refl asks))
