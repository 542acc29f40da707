-- Steps that are played one after the other.
use Rattle.std.proofs.Common.{◌≡◌, ℕ, zero, suc, ◌+◌, ◌-◌, ◌<◌, Bool, true, false, cond, List, [], ◌∷◌, ◌++◌, length, take, drop, Option, Some, None, refl, ap, sym, ◌∙◌, ◌⊎◌, inl, inr, subst, arith}
use Rattle.std.specs.Prelude.{slice_get, unwrap_or, is_some, nat_eq, count_by}
use Rattle.std.specs.Option.{option_map_or}
use Rattle.std.proofs.lemmas.Bool.{cases_eq, eqb-true, eqb-false, false≢true}
use Rattle.std.proofs.lemmas.List.Sums.{sum_by-cons, count_by-le-length}
use Rattle.std.proofs.lemmas.List.Elements.{filter_map-append}
use Rattle.std.proofs.lemmas.Option.{same_Some}
use Rattle.window_events.specs.declared.event.Event.{Event}
use Rattle.window_events.specs.Windows.{Mappings, step, run, shown}
use Rattle.window_events.specs.Played.{refused_from}
use Rattle.trace_text.specs.declared.step.Step.{Step}
use Rattle.trace_text.specs.declared.step.Step.TheVariants.{Happens, Shows}
use Rattle.trace_text.specs.declared.outcome.Outcome.{Outcome}
use Rattle.trace_text.specs.declared.outcome.Outcome.TheVariants.{Right, NotPossible, Differs}
use Rattle.trace_text.specs.Plays.{event_of, events_of, before, AreRight, EndsAs, compared, verdict, after, or_later, first_wrong, is_event}

none_some : (x : ℕ) → None ≡ Some x → ⊥
none_some x e = cc

-- one event more
run_more : (w : Mappings) (es : List Event) (e : Event) → run step w (es ++ e ∷ []) ≡ unwrap_or (step (run step w es) e) (run step w es)
run_more w [] e = refl
run_more w (x ∷ es) e = run_more (unwrap_or (step w x) w) es e

refused_more : (n : ℕ) (w : Mappings) (es : List Event) (e : Event) → refused_from n w es ≡ None → is_some (step (run step w es) e) ≡ true → refused_from n w (es ++ e ∷ []) ≡ None
refused_more n w [] e none is = pick (step w e) is where
  pick : (o : Option Mappings) → is_some o ≡ true → option_map_or (λ after. refused_from (n + 1) after []) o (Some n) ≡ None
  pick None h = absurd (false≢true h)
  pick (Some v) h = refl
refused_more n w (x ∷ es) e none is = pick (step w x) none is (λ v h i. refused_more (n + 1) v es e h i) where
  pick : (o : Option Mappings) → option_map_or (λ after. refused_from (n + 1) after es) o (Some n) ≡ None → is_some (step (run step (unwrap_or o w) es) e) ≡ true
      → ((v : Mappings) → refused_from (n + 1) v es ≡ None → is_some (step (run step v es) e) ≡ true → refused_from (n + 1) v (es ++ e ∷ []) ≡ None)
      → option_map_or (λ after. refused_from (n + 1) after (es ++ e ∷ [])) o (Some n) ≡ None
  pick None h i more = cc
  pick (Some v) h i more = more v h i

take_next : (steps : List Step) (i : ℕ) (s : Step) → slice_get steps i ≡ Some s → take (i + 1) steps ≡ take i steps ++ s ∷ []
take_next [] i s e = cc
take_next (x ∷ steps) zero s e = let same : x ≡ s = cc in ap (λ y. y ∷ []) same
take_next (x ∷ steps) (suc i) s e = let n : suc i + 1 ≡ suc (i + 1) = omega arith in rw n (ap (λ l. x ∷ l) (take_next steps i s e))

events_next : (steps : List Step) (i : ℕ) (e : Event) → slice_get steps i ≡ Some (Happens e) → events_of (take (i + 1) steps) ≡ events_of (take i steps) ++ e ∷ []
events_next steps i e is = ap events_of (take_next steps i (Happens e) is) ∙ filter_map-append event_of (take i steps) (Happens e ∷ [])

events_same : (steps : List Step) (i page content : ℕ) → slice_get steps i ≡ Some (Shows page content) → events_of (take (i + 1) steps) ≡ events_of (take i steps)
events_same steps i page content is = ap events_of (take_next steps i (Shows page content) is) ∙ filter_map-append event_of (take i steps) (Shows page content ∷ []) ∙ nil (events_of (take i steps)) where
  nil : (l : List Event) → l ++ [] ≡ l
  nil [] = refl
  nil (x ∷ l) = ap (λ m. x ∷ m) (nil l)

-- the steps so far are right
record SoFar (w : Mappings) (steps : List Step) (i : ℕ) (now : Mappings) : Type 0 where
  right : AreRight w steps i
  mappings : now ≡ before w steps i

none_yet : (w : Mappings) (steps : List Step) → SoFar w steps 0 w
none_yet w steps = record { right = record { possible = refl; shows = λ place page content l. absurd (omega arith) }; mappings = refl }

shows_more : (w : Mappings) (steps : List Step) (i : ℕ) → AreRight w steps i → ((page content : ℕ) → slice_get steps i ≡ Some (Shows page content) → shown (before w steps i) page ≡ Some content)
    → (place page content : ℕ) → place < i + 1 → slice_get steps place ≡ Some (Shows page content) → shown (before w steps place) page ≡ Some content
shows_more w steps i right here place page content l is = pick (cases_eq place i) where
  pick : ((place ≡ i) ⊎ (place ≡ i → ⊥)) → shown (before w steps place) page ≡ Some content
  pick (inl e) = ap (λ k. shown (before w steps k) page) e ∙ here page content (ap (slice_get steps) (sym e) ∙ is)
  pick (inr ne) = right.shows place page content (omega arith) is

event_more : (w : Mappings) (steps : List Step) (i : ℕ) (now v : Mappings) (e : Event) → SoFar w steps i now → slice_get steps i ≡ Some (Happens e) → step now e ≡ Some v → SoFar w steps (i + 1) v
event_more w steps i now v e s is may =
    let es : List Event = events_of (take i steps) in
    let goes : step (run step w es) e ≡ Some v = ap (λ x. step x e) (sym s.mappings) ∙ may in
    record {
      right = record {
        possible = ap (refused_from 0 w) (events_next steps i e is) ∙ refused_more 0 w es e s.right.possible (ap is_some goes);
        shows = shows_more w steps i s.right (λ page content f. absurd (clash e page content (sym is ∙ f)));
      };
      mappings = sym (ap (run step w) (events_next steps i e is) ∙ run_more w es e ∙ ap (λ o. unwrap_or o (run step w es)) goes);
    } where
      clash : (x : Event) (page content : ℕ) → Some (Happens x) ≡ Some (Shows page content) → ⊥
      clash x page content f = cc

look_more : (w : Mappings) (steps : List Step) (i : ℕ) (now : Mappings) (page content : ℕ) → SoFar w steps i now → slice_get steps i ≡ Some (Shows page content)
    → shown now page ≡ Some content → SoFar w steps (i + 1) now
look_more w steps i now page content s is seen =
    record {
      right = record {
        possible = ap (refused_from 0 w) (events_same steps i page content is) ∙ s.right.possible;
        shows = shows_more w steps i s.right (λ p c f. same p c (sym is ∙ f));
      };
      mappings = s.mappings ∙ ap (run step w) (sym (events_same steps i page content is));
    } where
      same : (p c : ℕ) → Some (Shows page content) ≡ Some (Shows p c) → shown (before w steps i) p ≡ Some c
      same p c f =
          let a : page ≡ p = cc in
          let b : content ≡ c = cc in
          ap (λ k. shown (before w steps i) k) (sym a) ∙ ap (λ v. shown v page) (sym s.mappings) ∙ seen ∙ ap (λ k. Some k) b

drop_first : (steps : List Step) (i : ℕ) (s : Step) (rest : List Step) → drop i steps ≡ s ∷ rest → (slice_get steps i ≡ Some s) × (drop (i + 1) steps ≡ rest)
drop_first [] zero s rest e = cc
drop_first [] (suc i) s rest e = cc
drop_first (x ∷ steps) zero s rest e = (cc, cc)
drop_first (x ∷ steps) (suc i) s rest e =
    let more = drop_first steps i s rest e in
    let n : suc i + 1 ≡ suc (i + 1) = omega arith in
    (more.0, rw n more.1)

-- how the steps end
abbrev Ends : Mappings → List Step → Option Outcome → Type 0
Ends w steps None = AreRight w steps (length steps)
Ends w steps (Some outcome) = EndsAs w steps outcome

ends : (w : Mappings) (steps : List Step) (i : ℕ) (now : Mappings) (rest : List Step) → drop i steps ≡ rest → i + length rest ≡ length steps → SoFar w steps i now → Ends w steps (first_wrong i now rest)
ends w steps i now [] e all s = let end : i ≡ length steps = omega arith in subst (AreRight w steps) end s.right
ends w steps i now (Happens x ∷ rest) e all s =
    pick (step now x) refl (λ v t. ends w steps (i + 1) v rest (drop_first steps i (Happens x) rest e).1 (omega arith) t) where
      is : slice_get steps i ≡ Some (Happens x)
      is = (drop_first steps i (Happens x) rest e).0

      pick : (o : Option Mappings) → step now x ≡ o → ((v : Mappings) → SoFar w steps (i + 1) v → Ends w steps (first_wrong (i + 1) v rest))
          → Ends w steps (or_later (cond (is_some o) None (Some (NotPossible i))) (first_wrong (i + 1) (unwrap_or o now) rest))
      pick None f later = (s.right, record { event = x; is = is; refused = ap (λ v. step v x) (sym s.mappings) ∙ f })
      pick (Some v) f later = later v (event_more w steps i now v x s is f)
ends w steps i now (Shows page content ∷ rest) e all s =
    pick (shown now page) refl (λ t. ends w steps (i + 1) now rest (drop_first steps i (Shows page content) rest e).1 (omega arith) t) where
      is : slice_get steps i ≡ Some (Shows page content)
      is = (drop_first steps i (Shows page content) rest e).0

      pick : (o : Option ℕ) → shown now page ≡ o → (SoFar w steps (i + 1) now → Ends w steps (first_wrong (i + 1) now rest))
          → Ends w steps (or_later (compared i page content o) (first_wrong (i + 1) now rest))
      pick None f later = (s.right, (content, record { is = is; shows = ap (λ v. shown v page) (sym s.mappings) ∙ f; differs = λ g. absurd (none_some content g) }))
      pick (Some seen) f later = split (nat_eq seen content) refl where
        split : (b : Bool) → nat_eq seen content ≡ b → Ends w steps (or_later (cond b None (Some (Differs i page seen content))) (first_wrong (i + 1) now rest))
        split true t = later (look_more w steps i now page content s is (f ∙ ap (λ k. Some k) (eqb-true seen content t)))
        split false t = (s.right, record { is = is; shows = ap (λ v. shown v page) (sym s.mappings) ∙ f; differs = λ g. eqb-false seen content t (same_Some seen content g) })

count_is : (steps : List Step) → count_by is_event steps ≡ length (events_of steps)
count_is [] = refl
count_is (Happens e ∷ steps) = omega (arith, sum_by-cons (λ (s : Step). cond (is_event s) 1 0) (Happens e) steps, count_is steps)
count_is (Shows page content ∷ steps) = omega (arith, sum_by-cons (λ (s : Step). cond (is_event s) 1 0) (Shows page content) steps, count_is steps)

-- the answers of the calls
pub ends_wrong : (w : Mappings) (steps : List Step) (outcome : Outcome) → Some outcome ≡ first_wrong 0 w steps → EndsAs w steps outcome
ends_wrong w steps outcome e = subst (Ends w steps) (sym e) (ends w steps 0 w steps refl (omega arith) (none_yet w steps))

pub ends_right : (w : Mappings) (steps : List Step) (events looks : ℕ) → None ≡ first_wrong 0 w steps → events ≡ count_by is_event steps → looks ≡ length steps - events → EndsAs w steps (Right events looks)
ends_right w steps events looks e c l =
    (subst (Ends w steps) (sym e) (ends w steps 0 w steps refl (omega arith) (none_yet w steps)), c ∙ count_is steps, omega (arith, c, l, count_by-le-length is_event steps))

pub wrong_here : (n : ℕ) (w : Mappings) (s : Step) (steps : List Step) → is_some (verdict n w s) ≡ true → first_wrong n w (s ∷ steps) ≡ verdict n w s
wrong_here n w s steps = pick (verdict n w s) where
  pick : (o : Option Outcome) → is_some o ≡ true → or_later o (first_wrong (n + 1) (after w s) steps) ≡ o
  pick None h = absurd (false≢true h)
  pick (Some outcome) h = refl

pub wrong_later : (n : ℕ) (w : Mappings) (s : Step) (steps : List Step) → is_some (verdict n w s) ≡ false → first_wrong n w (s ∷ steps) ≡ first_wrong (n + 1) (after w s) steps
wrong_later n w s steps = pick (verdict n w s) where
  pick : (o : Option Outcome) → is_some o ≡ false → or_later o (first_wrong (n + 1) (after w s) steps) ≡ first_wrong (n + 1) (after w s) steps
  pick None h = refl
  pick (Some outcome) h = absurd (false≢true (sym h))
