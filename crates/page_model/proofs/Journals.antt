-- A guest's part of a longer journal.
use Rattle.std.proofs.Common.{◌≡◌, ℕ, zero, suc, ◌+◌, Bool, true, false, cond, List, [], ◌∷◌, ◌++◌, length, map, take, slice_index_or, refl, ap, sym, ◌∙◌, arith, length-append}
use Rattle.std.specs.Prelude.{nat_eq}
use Rattle.std.proofs.Math.Seq.{get_or-append_seam, append_snoc}
use Rattle.std.proofs.lemmas.List.{append-nil}
use Rattle.page_model.specs.Pages.{State}
use Rattle.page_model.specs.Steps.{step}
use Rattle.page_model.specs.Replay.{empty_state, state_after, verdicts_of}
use Rattle.page_model.specs.Growth.{OneVerdictEach, VerdictsStay}
use Rattle.page_model.specs.Journal.{places_from, places, asked, verdicts_for, answers}
use Rattle.page_model.specs.declared.request.Entry.{Entry}
use Rattle.page_model.specs.declared.verdict.Verdict.{Verdict}

cond_length : {X Y : Type 0} (b : Bool) (x : X) (xs : List X) (y : Y) (ys : List Y) → length xs ≡ length ys → length (cond b (x ∷ xs) xs) ≡ length (cond b (y ∷ ys) ys)
cond_length true x xs y ys e = ap suc e
cond_length false x xs y ys e = e

-- a longer journal
cond_over : {X : Type 0} (b : Bool) (x : X) (xs ys : List X) → cond b (x ∷ (xs ++ ys)) (xs ++ ys) ≡ cond b (x ∷ xs) xs ++ ys
cond_over true x xs ys = refl
cond_over false x xs ys = refl

cond_same : {X : Type 0} (b : Bool) (x : X) (xs ys : List X) → xs ≡ ys → cond b (x ∷ xs) xs ≡ cond b (x ∷ ys) ys
cond_same b x xs ys e = ap (λ zs. cond b (x ∷ zs) zs) e

pub asked-append : (i : ℕ) (es more : List Entry) → asked i (es ++ more) ≡ asked i es ++ asked i more
asked-append i [] more = refl
asked-append i (e ∷ es) more =
    cond_same (nat_eq e.guest i) e.request _ _ (asked-append i es more) ∙ cond_over (nat_eq e.guest i) e.request (asked i es) (asked i more)

places_later : (n m i : ℕ) (es : List Entry) → n ≡ m → places_from n i es ≡ places_from m i es
places_later n m i es e = ap (λ k. places_from k i es) e

pub places_from-append : (n i : ℕ) (es more : List Entry) → places_from n i (es ++ more) ≡ places_from n i es ++ places_from (n + length es) i more
places_from-append n i [] more = places_later n (n + 0) i more (omega arith)
places_from-append n i (e ∷ es) more =
    let rest : places_from (n + 1) i (es ++ more) ≡ places_from (n + 1) i es ++ places_from (n + length (e ∷ es)) i more =
    places_from-append (n + 1) i es more ∙ ap (λ zs. places_from (n + 1) i es ++ zs) (places_later (n + 1 + length es) (n + length (e ∷ es)) i more (omega arith)) in
    cond_same (nat_eq e.guest i) n _ _ rest ∙ cond_over (nat_eq e.guest i) n (places_from (n + 1) i es) (places_from (n + length (e ∷ es)) i more)

-- as many places as requests
pub length-places : (n i : ℕ) (es : List Entry) → length (places_from n i es) ≡ length (asked i es)
length-places n i [] = refl
length-places n i (e ∷ es) = cond_length (nat_eq e.guest i) n (places_from (n + 1) i es) e.request (asked i es) (length-places (n + 1) i es)

pub state_after-append : (hash : ℕ → List ℕ → ℕ) (s : State) (es more : List Entry) → state_after hash s (es ++ more) ≡ state_after hash (state_after hash s es) more
unfolding state_after
state_after-append hash s [] more = refl
state_after-append hash s (e ∷ es) more = state_after-append hash (step hash s e.guest e.request).state es more

-- later entries change no verdict
pub verdicts_of-append : (hash : ℕ → List ℕ → ℕ) (s : State) (es more : List Entry) → verdicts_of hash s (es ++ more) ≡ verdicts_of hash s es ++ verdicts_of hash (state_after hash s es) more
unfolding verdicts_of state_after
verdicts_of-append hash s [] more = refl
verdicts_of-append hash s (e ∷ es) more = ap (λ vs. (step hash s e.guest e.request).verdict ∷ vs) (verdicts_of-append hash (step hash s e.guest e.request).state es more)

pub length-verdicts_of : (hash : ℕ → List ℕ → ℕ) (s : State) (es : List Entry) → length (verdicts_of hash s es) ≡ length es
unfolding verdicts_of
length-verdicts_of hash s [] = refl
length-verdicts_of hash s (e ∷ es) = ap suc (length-verdicts_of hash (step hash s e.guest e.request).state es)

cond_append : {X : Type 0} (b : Bool) (x : X) (xs ys zs : List X) → zs ≡ xs ++ ys → cond b (x ∷ zs) zs ≡ cond b (x ∷ xs) xs ++ ys
cond_append true x xs ys zs e = ap (λ ws. x ∷ ws) e
cond_append false x xs ys zs e = e

verdicts_for-append : (i : ℕ) (es more : List Entry) (vs ws : List Verdict) → length vs ≡ length es → verdicts_for i (es ++ more) (vs ++ ws) ≡ verdicts_for i es vs ++ verdicts_for i more ws
verdicts_for-append i [] more [] ws h = refl
verdicts_for-append i [] more (v ∷ vs) ws h = absurd (omega arith)
verdicts_for-append i (e ∷ es) more [] ws h = absurd (omega arith)
verdicts_for-append i (e ∷ es) more (v ∷ vs) ws h =
    cond_append (nat_eq e.guest i) v (verdicts_for i es vs) (verdicts_for i more ws) _ (verdicts_for-append i es more vs ws (omega arith))

-- the answers so far, and then those of the rest
pub answers-append : (hash : ℕ → List ℕ → ℕ) (s : State) (i : ℕ) (es more : List Entry) → answers hash s i (es ++ more) ≡ answers hash s i es ++ answers hash (state_after hash s es) i more
answers-append hash s i es more =
    ap (verdicts_for i (es ++ more)) (verdicts_of-append hash s es more)
    ∙ verdicts_for-append i es more (verdicts_of hash s es) (verdicts_of hash (state_after hash s es) more) (length-verdicts_of hash s es)

-- as many answers as requests
pub length-answers : (hash : ℕ → List ℕ → ℕ) (s : State) (i : ℕ) (es : List Entry) → length (answers hash s i es) ≡ length (asked i es)
unfolding verdicts_of
length-answers hash s i [] = refl
length-answers hash s i (e ∷ es) =
    let after = (step hash s e.guest e.request).state in
    cond_length (nat_eq e.guest i) (step hash s e.guest e.request).verdict (answers hash after i es) e.request (asked i es) (length-answers hash after i es)

cond_map : {X : Type 0} (f : ℕ → X) (b : Bool) (n : ℕ) (ns : List ℕ) (x : X) (xs : List X) → f n ≡ x → map f ns ≡ xs → map f (cond b (n ∷ ns) ns) ≡ cond b (x ∷ xs) xs
cond_map f true n ns x xs e g = ap (λ y. y ∷ map f ns) e ∙ ap (λ ys. x ∷ ys) g
cond_map f false n ns x xs e g = g

verdicts_at : (d : Verdict) (i : ℕ) (us : List Verdict) (es : List Entry) (vs : List Verdict) (n : ℕ) → length us ≡ n → length vs ≡ length es → map (λ p. slice_index_or (us ++ vs) p d) (places_from n i es) ≡ verdicts_for i es vs
verdicts_at d i us [] vs n m h = refl
verdicts_at d i us (e ∷ es) [] n m h = absurd (omega arith)
verdicts_at d i us (e ∷ es) (v ∷ vs) n m h =
    let here : slice_index_or (us ++ v ∷ vs) n d ≡ v = ap (λ k. slice_index_or (us ++ v ∷ vs) k d) (sym m) ∙ get_or-append_seam us v vs d in
    let rest : map (λ p. slice_index_or (us ++ v ∷ vs) p d) (places_from (n + 1) i es) ≡ verdicts_for i es vs =
    ap (λ all. map (λ p. slice_index_or all p d) (places_from (n + 1) i es)) (sym (append_snoc us v vs))
    ∙ verdicts_at d i (us ++ v ∷ []) es vs (n + 1) (omega (arith, length-append us (v ∷ []))) (omega arith) in
    cond_map (λ p. slice_index_or (us ++ v ∷ vs) p d) (nat_eq e.guest i) n (places_from (n + 1) i es) v (verdicts_for i es vs) here rest

-- a guest's answers are the verdicts at its places
pub answers_at_places : (hash : ℕ → List ℕ → ℕ) (s : State) (i : ℕ) (es : List Entry) (d : Verdict) → map (λ p. slice_index_or (verdicts_of hash s es) p d) (places i es) ≡ answers hash s i es
answers_at_places hash s i es d = verdicts_at d i [] es (verdicts_of hash s es) 0 refl (length-verdicts_of hash s es)

-- one more entry
abbrev pub if_own : {X : Type 0} → ℕ → Entry → X → List X
if_own i e x = cond (nat_eq e.guest i) (x ∷ []) []

pub asked-push : (i : ℕ) (es : List Entry) (e : Entry) → asked i (es ++ e ∷ []) ≡ asked i es ++ if_own i e e.request
asked-push i es e = asked-append i es (e ∷ [])

pub places-push : (i : ℕ) (es : List Entry) (e : Entry) → places i (es ++ e ∷ []) ≡ places i es ++ if_own i e (length es)
places-push i es e = places_from-append 0 i es (e ∷ []) ∙ ap (λ n. places i es ++ places_from n i (e ∷ [])) (omega arith)

pub answers-push : (hash : ℕ → List ℕ → ℕ) (s : State) (i : ℕ) (es : List Entry) (e : Entry) → answers hash s i (es ++ e ∷ []) ≡ answers hash s i es ++ if_own i e (step hash (state_after hash s es) e.guest e.request).verdict
unfolding verdicts_of
answers-push hash s i es e = answers-append hash s i es (e ∷ [])

-- each verdict stays as the journal grows
take_verdicts : (hash : ℕ → List ℕ → ℕ) (s : State) (n : ℕ) (es : List Entry) → verdicts_of hash s (take n es) ≡ take n (verdicts_of hash s es)
unfolding verdicts_of
take_verdicts hash s zero es = refl
take_verdicts hash s (suc n) [] = refl
take_verdicts hash s (suc n) (e ∷ es) = ap (λ vs. (step hash s e.guest e.request).verdict ∷ vs) (take_verdicts hash (step hash s e.guest e.request).state n es)

pub verdicts_stay : (es : List Entry) → VerdictsStay es
verdicts_stay es hash total shapes n = take_verdicts hash (empty_state total shapes) n es

-- the same, for a merger: an entry of this guest, and one of another
pub asked_hit : (i : ℕ) (es : List Entry) (e : Entry) → nat_eq e.guest i ≡ true → asked i (es ++ e ∷ []) ≡ asked i es ++ e.request ∷ []
asked_hit i es e h = asked-push i es e ∙ ap (λ b. asked i es ++ cond b (e.request ∷ []) []) h

pub asked_miss : (i : ℕ) (es : List Entry) (e : Entry) → nat_eq e.guest i ≡ false → asked i (es ++ e ∷ []) ≡ asked i es
asked_miss i es e h = asked-push i es e ∙ ap (λ b. asked i es ++ cond b (e.request ∷ []) []) h ∙ append-nil (asked i es)

pub answers_hit : (hash : ℕ → List ℕ → ℕ) (s : State) (i : ℕ) (es : List Entry) (e : Entry) → nat_eq e.guest i ≡ true → answers hash s i (es ++ e ∷ []) ≡ answers hash s i es ++ (step hash (state_after hash s es) e.guest e.request).verdict ∷ []
answers_hit hash s i es e h = answers-push hash s i es e ∙ ap (λ b. answers hash s i es ++ cond b ((step hash (state_after hash s es) e.guest e.request).verdict ∷ []) []) h

pub answers_miss : (hash : ℕ → List ℕ → ℕ) (s : State) (i : ℕ) (es : List Entry) (e : Entry) → nat_eq e.guest i ≡ false → answers hash s i (es ++ e ∷ []) ≡ answers hash s i es
answers_miss hash s i es e h = answers-push hash s i es e ∙ ap (λ b. answers hash s i es ++ cond b ((step hash (state_after hash s es) e.guest e.request).verdict ∷ []) []) h ∙ append-nil (answers hash s i es)

pub one_verdict_each : (es : List Entry) → OneVerdictEach es
one_verdict_each es hash total shapes = length-verdicts_of hash (empty_state total shapes) es
