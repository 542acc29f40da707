-- The block is counted, and then goes back to the inner allocator. Assumes `Logic`.
use Rattle.std.proofs.Common.{◌≡◌, ℕ, ◌^◌, ◌<◌, List, [], ◌∷◌, refl, w64, Bor}
use Rattle.std.proofs.raw_atomic.Walks.{proved}
use Rattle.std.proofs.alloc.Calls.{Al, seen, token, gives_key, Gives, at_gives, Gives-goes, Gives-Gives}
use seplogic.Ra.Ura.{Ura}
use mir.Syntax.{Ty, Fn, Callee, a_type, dnil, dcons}
use mir.Val.{Val, vint, vptr, vunit}
use mir.MapTy.{inst_fn}
use base.Logic.{SProp, ent, never_e}
use base.Fml.{Lft, Share, Fml, ftrue, ffalse, fsep, froom, flft}
use prog.Memory.{size, align, capped}
use prog.Model.{Model}
use prog.Wp.{WpFn, Tables}
use types.Logic.{Logic}
use contract.BorrowLft.{◌⊑◌, ⊑_trans}
use contract.Monad.{fact}
use contract.Running.{Running, tables, tables_of}
use sound.WpLaws.{fm_of}
use types.Run.{stop, fld, addr, no_more, and_then, of_opd, unit_lit, returns, enter}
use types.Kit.{Item, ‵, raw, ◌⊛◌, later, given, learn, prop, Sq, ◌$◌, ◌∵◌, !, qed, by, move, keep, use1, use2, split, split3, join, fsplit, fjoin, feq_i, suffices, await, done}
use types.ByLocal.{alloc_all, pass_all, free_all, look_at, get, through, sets, lands_as}
use denote.Exit.{yes}
use denote.Memory.{hidden_shr}
use denote.RattleType.{owns}
use denote.RawPtr.{Ptr, block_ptr, null_ptr, ptr_val, rawptr_vals, rawptr_Tells}
use denote.Ref.{shr_vals}
use denote.Builtin.{usize, RawPtr, RefOf}
use denote.Param.{bounded}
use denote.Plain.{uint_vals, uint_Tells}
use denote.Signature.{Slot, plain, types_at}
use denote.Steps.{heard, nothing}
use denote.Triple.Call.{calls_at}
use denote.Triple.Clauses.{Ended, Clauses}
use denote.Triple.Statement.{Triple}
use denote.Triple.Table.{cited}
use denote.Triple.Walked.{Stays, stay_dropped, walk_of, ends_at, Goes-dropped}
use Rattle.refusing.proofs.Handle.{Handle, inner_at, counts_at, opened}
use Rattle.refusing.proofs.RequestCalls.{Return, at_return, Return-goes, Return-gives}
use Rattle.refusing.proofs.Requests.take_back.Symbol as counted
use Rattle.refusing.proofs.Requests.take_back.Met as counts_well
use Rattle.refusing.specs.contracts.Requests as requests
use Rattle.refusing.specs.contracts.RefusingAllocator.deallocate as terms
use Rattle.refusing.specs.contracts.RefusingAllocator.deallocate.Key as key
use Rattle.refusing.proofs.RefusingAllocator.deallocate.Statement as stated
use Rattle.refusing.proofs.RefusingAllocator.deallocate.Code as code

-- the function at an inner allocator, and its parameters: a `&` to the handle, a pointer, a size and an alignment
module _ (Z : Al) where
  abbrev name : Callee
  name = key.name (bounded (a_type ∷ []) (Z.row, tt) (dcons Z.d (dcons Z.drops dnil)))

  abbrev body : Fn
  body = inst_fn (bounded (a_type ∷ []) (Z.row, tt) (dcons Z.d (dcons Z.drops dnil))) code.function

  abbrev E : Ended
  E = terms.ended Z.row Z.g Z.d Z.drops

  abbrev handle : Slot 2
  handle = RefOf (0 ∷ []) tt (plain (λ _. Handle Z)) (λ _. tt)

  abbrev pointer : Slot 2
  pointer = plain (λ _. RawPtr)

  abbrev number : Slot 2
  number = plain (λ _. usize)

  abbrev let_go : Stays E.signature.params E.kept
  let_go = (stay_dropped handle yes, (stay_dropped pointer yes, (stay_dropped number yes, (stay_dropped number yes, tt))))

module _ (Z : Al) {M : Type 1} {𝓤 : Ura M} (𝓛 : Logic 𝓤) (𝓜 : Model 𝓤 𝓛.H) (𝓡 : Running 𝓤 𝓛.H 𝓜) where
  abbrev 𝓣 : Tables 𝓤 𝓛.H
  𝓣 = tables_of 𝓤 𝓛.H 𝓜 (tables 𝓤 𝓛.H 𝓜 𝓡 𝓡.env)

  abbrev clauses : Clauses 𝓤 (E Z)
  clauses = terms.clauses Z.row Z.g Z.d Z.drops 𝓛 𝓜.mem 𝓡.returns

  -- One call: the lifetimes and shares of the two tokens, the handle, the size, the alignment, and the type that lay there
  module _ (κ ρ : Lft) (s t : Share) (inn : κ ⊑ ρ) (handle : Bor (Handle Z).Denot) (n a : ℕ) (τ : Ty) where
    abbrev call : Ptr → (walk_of 𝓛 (E Z) (let_go Z) clauses).Ghost
    call x = (((κ, (ρ, tt)), (s, (t, tt)), (inn, tt), (handle, (x, (n, (a, tt)))), (shr_vals handle, (rawptr_vals x, (vint w64 n ∷ [], (vint w64 a ∷ [], tt))))), τ)

    abbrev Post : Ptr → Val → SProp 𝓤
    Post x = (walk_of 𝓛 (E Z) (let_go Z) clauses).post (call x)

    -- what the caller hands over, where `block` is what lies at the pointer
    abbrev given_to : Ptr → Fml → List (Item 𝓤)
    given_to x block = ((‵ (flft κ s) ⊛ ‵ (flft ρ t) ⊛ ‵ ftrue) ⊛ ‵ (owns (types_at (E Z).signature.params (call x).0.0) (call x).0.3 (call x).0.4))
        ∷ (raw (fact 𝓤 (ρ ⊑ Z.row.lives)) ⊛ raw (fact 𝓤 ((capped (size τ) ≡ n) × (capped (align τ) ≡ a))) ⊛ ‵ (fsep block (token Z handle.now.inner τ x))) ∷ []

    -- the way out, once the block went back
    out : (x : Ptr) → Sq 𝓛 (‵ (flft κ s) ∷ (‵ (flft ρ t) ⊛ ‵ ftrue) ∷ []) (prop (Post x vunit))
    out x =
        suffices ! _ (ends_at 𝓛 (E Z) (let_go Z) clauses (call x) vunit tt (tt, (tt, (tt, (tt, tt)))) (tt, (tt, (tt, (tt, tt))))) $
        nothing ! $ feq_i ! (List Val) (vunit ∷ []) (vunit ∷ []) refl $ nothing ! $ nothing ! $
        fjoin ! $ nothing ! $ fjoin ! $ nothing ! $ fjoin ! $ nothing ! $ fjoin ! $ join ! $ move ! (2 ∷ 3 ∷ []) $ join ! $ join ! $ done !

    walk : n < 2 ^ 64 → a < 2 ^ 64 → Triple 𝓤 (𝓣.C (gives_key Z)) (Gives Z 𝓛 𝓜.mem 𝓡.returns) → Triple 𝓤 (𝓣.C counted.name) (Return 𝓛 𝓜.mem 𝓡.returns)
        → (x : Ptr) → ent 𝓤 ((walk_of 𝓛 (E Z) (let_go Z) clauses).pre (call x)) (WpFn 𝓤 𝓛.H 𝓣.C 𝓣.Λ (body Z) (vptr handle.ref_ptr.0 handle.ref_ptr.1 ∷ ptr_val x ∷ vint w64 n ∷ vint w64 a ∷ []) (Post x))
    walk small_n small_a inner_gives count_notes null_ptr =
        -- no block lies at null
        qed 𝓛 (given_to null_ptr ffalse) ∵ move ! (1 ∷ []) $ split3 ! $ move ! (2 ∷ []) $ fsplit ! $ keep ! (0 ∷ []) $ by ! (never_e 𝓤 _)
    walk small_n small_a inner_gives count_notes (block_ptr b o) =
        let x : (Handle Z).Denot = handle.now in let inner : ℕ × ℕ = inner_at Z handle.ref_ptr in let counts : ℕ × ℕ = counts_at Z handle.ref_ptr in
        let noting : (Return 𝓛 𝓜.mem 𝓡.returns).Ghost = at_return 𝓛 𝓜.mem 𝓡.returns κ s x.requests counts in
        let giving : (Gives Z 𝓛 𝓜.mem 𝓡.returns).Ghost = at_gives Z 𝓛 𝓜.mem 𝓡.returns κ s inner x.inner b o n a τ in
        qed 𝓛 (given_to (block_ptr b o) (froom τ b o)) ∵ move ! (1 ∷ []) $ split3 ! $
        heard ! (ρ ⊑ Z.row.lives) (λ lives. heard ! ((capped (size τ) ≡ n) × (capped (align τ) ≡ a)) (λ right.
        -- [the parameters; a token; the other token; the block]
        move ! (1 ∷ []) $ split ! $ split ! $ move ! (2 ∷ []) $ fsplit ! $ fsplit ! $ move ! (1 ∷ []) $
        use1 𝓛 (‵ (seen Z κ inner x.inner) ⊛ ‵ (hidden_shr requests.the_row κ x.requests counts.0 counts.1)) (opened Z 𝓛 κ handle.ref_ptr x) $ split ! $
        -- [the counts; the token; the inner allocator; the other token; the block]
        keep ! (1 ∷ 4 ∷ 0 ∷ 5 ∷ 6 ∷ []) $
        enter ! 𝓣.C 𝓣.Λ (body Z) _ _ $ alloc_all ! (λ l. pass_all ! refl ((tt, tt), ((tt, tt), ((tt, record { fits = small_n }), ((tt, record { fits = small_a }), tt)))) $
        sets ! (addr ! (through ! refl (fld ! refl (stop !)))) refl (tt, tt) $
        use2 𝓛 (raw ((Return 𝓛 𝓜.mem 𝓡.returns).pre noting)) (Return-goes 𝓛 𝓜.mem 𝓡.returns κ s x.requests counts) $
        calls_at ! (fm_of 𝓤 𝓛.H 𝓛.laws 𝓣) (Return 𝓛 𝓜.mem 𝓡.returns) count_notes noting (and_then ! (get ! refl) (no_more !)) (λ u.
        use1 𝓛 (later (given (u ≡ vunit) (‵ (flft κ s)))) (Return-gives 𝓛 𝓜.mem 𝓡.returns κ s x.requests counts u) $ await ! tt $ learn ! (λ is.
        lands_as ! is refl (tt, tt) $
        -- [the block, its room and its right; the inner allocator; the token; the other token]
        move ! (3 ∷ []) $ fsplit ! $ move ! (0 ∷ 1 ∷ 3 ∷ 2 ∷ 4 ∷ []) $
        sets ! (addr ! (through ! refl (fld ! refl (stop !)))) refl (tt, tt) $
        move ! (2 ∷ 3 ∷ []) $ join ! $ move ! (2 ∷ 0 ∷ []) $ join ! $ move ! (1 ∷ 0 ∷ []) $ join ! $
        use1 𝓛 (raw ((Gives Z 𝓛 𝓜.mem 𝓡.returns).pre giving)) (Gives-goes Z 𝓛 𝓜.mem 𝓡.returns κ s inner x.inner (⊑_trans κ ρ Z.row.lives inn lives) b o n a τ right.0 right.1 small_n small_a) $
        calls_at ! (fm_of 𝓤 𝓛.H 𝓛.laws 𝓣) (Gives Z 𝓛 𝓜.mem 𝓡.returns) inner_gives giving (and_then ! (get ! refl) (and_then ! (get ! refl) (and_then ! (get ! refl) (and_then ! (get ! refl) (no_more !))))) (λ v.
        use1 𝓛 (later (given (v ≡ vunit) (‵ (flft κ s)))) (Gives-Gives Z 𝓛 𝓜.mem 𝓡.returns κ s inner x.inner b o n a τ v) $ await ! tt $ learn ! (λ is.
        lands_as ! is refl (tt, tt) $ sets ! (of_opd ! (unit_lit !)) refl (tt, tt) $ returns ! (look_at ! 0 refl) $ free_all ! refl $ out (block_ptr b o))))))))

pub deallocate_spec : {M : Type 1} → stated.statement M
unfolding tables_of
deallocate_spec 𝓤 𝓛 𝓜 𝓡 wired inner inner_laws ghosts methods drops met _ =
    let Z : Al = record { row = inner; laws = inner_laws; g = ghosts; d = methods; drops = drops } in
    let notes = counts_well.met 𝓤 𝓛 𝓜 𝓡 (code.calls-refusing::Requests::take_back 𝓡.env wired) in
    let gone = Goes-dropped 𝓛 2 (number Z) yes (λ κs n f. refl) in
    proved 𝓛 (E Z) (let_go Z) (clauses Z 𝓛 𝓜 𝓡) 𝓜 𝓡 (Goes-dropped 𝓛 2 (handle Z) yes (λ κs x f. refl), (Goes-dropped 𝓛 2 (pointer Z) yes (λ κs p f. refl), (gone, (gone, tt))))
    (name Z) (body Z) (code.unfolded 𝓤 𝓛.H 𝓜 𝓡 wired (inner, tt) methods drops)
    (λ κs. (shr_vals, (rawptr_vals, (uint_vals w64, (uint_vals w64, tt))))) (λ κs. ((λ x vs is. is.0), (rawptr_Tells, (uint_Tells w64, (uint_Tells w64, tt))))) (λ κs shares bounds args τ are.
    walk Z 𝓛 𝓜 𝓡 κs.0 κs.1.0 shares.0 shares.1.0 bounds.0 args.0 args.1.1.0 args.1.1.1.0 τ are.1.1.0.1 are.1.1.1.0.1 (met.deallocate drops)
    (cited 𝓤 𝓛.H _ 𝓜 𝓡 𝓡.env counted.name (𝓡.env counted.name) refl notes) args.1.0)
