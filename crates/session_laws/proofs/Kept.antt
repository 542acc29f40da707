-- What holds at each moment, and what follows from it.
use Rattle.std.proofs.Common.{◌≡◌, ℕ, ◌⊎◌, inl, inr, true, List, [], ◌∷◌, Option, Some, None, refl, ap, sym, subst}
use Rattle.client_session.specs.declared.link.Link.TheVariants as link
use Rattle.client_session.specs.Sessions.{wanted_of}
use Rattle.session_laws.specs.World.{World, Event, Connects, Parts, Asks, Lends, GivesUp, Says, TakesUp, Begins, HearsAnswers, HearsLoans, Resumes, Starts, Answers, Grants, Frees, OldResumes, OldStarts, OldGrants, OldFrees, Loses, Closes, Forgets, Dies, May, MayAll, Always, run, start, step, has}
use Rattle.session_laws.specs.Sound.{Sub, OnlyHellos, AreStale, Fits, IsKnown, PhaseAt, Sound}
use Rattle.session_laws.specs.Laws.{AlwaysSound, KeepsShown, KnowsAll, Agrees, TakesBack, FreesGivenUp}
use Rattle.session_laws.proofs.Halves.{hidden_by, not_both_counts}
use Rattle.session_laws.proofs.Lists.{differs, zero_least, wanted_is}
use Rattle.session_laws.proofs.Client.{connects_keeps, parts_keeps, asks_keeps, lends_keeps, gives_keeps, says_keeps, takes_up_keeps, begins_keeps, answers_keeps, loans_keeps}
use Rattle.session_laws.proofs.Host.{hello_calls, resumes_keeps, starts_keeps, host_answers_keeps, grants_keeps, frees_in, frees_keeps, all_counted, old_resumes_keeps, old_starts_keeps, old_grants_keeps, old_frees_keeps, loses_keeps, closes_keeps, forgets_keeps, dies_keeps}

step_keeps : (w : World) (e : Event) → Sound w → May w e → Sound (step w e)
step_keeps w Connects s may = connects_keeps w s
step_keeps w Parts s may = parts_keeps w s
step_keeps w (Asks n) s may = asks_keeps w n s may
step_keeps w (Lends n) s may = lends_keeps w n s may
step_keeps w (GivesUp slots) s may = gives_keeps w slots s may
step_keeps w Says s may = says_keeps w s may
step_keeps w (TakesUp name rest) s may = takes_up_keeps w name rest s may
step_keeps w (Begins name rest) s may = begins_keeps w name rest s may
step_keeps w (HearsAnswers n rest) s may = answers_keeps w n rest s may
step_keeps w (HearsLoans ls rest) s may = loans_keeps w ls rest s may
step_keeps w (Resumes wanted rest) s may = resumes_keeps w wanted rest s may
step_keeps w (Starts wanted name rest) s may = starts_keeps w wanted name rest s may
step_keeps w (Answers n rest) s may = host_answers_keeps w n rest s may
step_keeps w (Grants n ls rest) s may = grants_keeps w n ls rest s may
step_keeps w (Frees slots rest) s may = frees_keeps w slots rest s may
step_keeps w (OldResumes wanted rest) s may = old_resumes_keeps w wanted rest s may
step_keeps w (OldStarts wanted name rest) s may = old_starts_keeps w wanted name rest s may
step_keeps w (OldGrants n ls rest) s may = old_grants_keeps w n ls rest s may
step_keeps w (OldFrees slots rest) s may = old_frees_keeps w slots rest s may
step_keeps w (Loses m rest) s may = loses_keeps w m rest s may
step_keeps w Closes s may = closes_keeps w s
step_keeps w Forgets s may = forgets_keeps w s
step_keeps w Dies s may = dies_keeps w s

run_keeps : (w : World) (es : List Event) → Sound w → MayAll w es → Sound (run w es)
run_keeps w [] s may = s
run_keeps w (e ∷ es) s may = run_keeps (step w e) es (step_keeps w e s may.0) may.1

none_yet : (A : Type 0) (name : List ℕ) → None ≡ Some name → A
none_yet A name e = absurd (cc)

starts_sound : Sound start
starts_sound = record { silent = λ e. refl; within = zero_least 0; phase = (refl, refl); stale = tt; fits = λ name a b. none_yet _ name a }

pub always_sound : AlwaysSound
always_sound es may = run_keeps start es starts_sound may

pub keeps_shown : Always KeepsShown
keeps_shown es may name a b = ((always_sound es may).fits name a b).shows

pub knows_all : Always KnowsAll
knows_all es may name a b = ((always_sound es may).fits name a b).known

-- ---- both have the same slots

has_none : (xs : List ℕ) (s : ℕ) → xs ≡ [] → has xs s ≡ true → ⊥
has_none xs s e h = differs (has xs s) h (ap (λ (ys : List ℕ). has ys s) e)

same_slot : (o p : Option ℕ) → ((f : ℕ) → o ≡ Some f → p ≡ Some f) → ((f : ℕ) → p ≡ Some f → o ≡ Some f) → o ≡ p
same_slot None None f g = refl
same_slot None (Some y) f g = g y refl
same_slot (Some x) p f g = sym (f x refl)

agrees_if : (w : World) → Sound w → Agrees w
agrees_if w s talks quiet name a b x = same_slot (w.host.held x) (w.shown x) (λ f e. shown f (fits.known x f e)) (λ f e. fits.shows x f e) where
  fits : Fits w.host w.client.loans (wanted_of w.client) w.client.unheard w.shown w.stale
  fits = s.fits name a b

  counted : w.host.loans ≡ w.client.loans
  counted = let p : PhaseAt w link.Talking = subst (PhaseAt w) talks s.phase in (p.3 name a b).0

  shown : (f : ℕ) → IsKnown w.host w.client.loans w.client.unheard w.shown x f → w.shown x ≡ Some f
  shown f (inl e) = e
  shown f (inr (inl e)) = absurd (has_none w.client.unheard x quiet e)
  shown f (inr (inr e)) = absurd (not_both_counts w.host.loans w.client.loans counted e.0)

pub agrees : Always Agrees
agrees es may = agrees_if (run start es) (always_sound es may)

-- ---- a session is taken up

takes_back_if : (w : World) → Sound w → TakesBack w
takes_back_if w s wanted rest may name a b x f e = pick (fits.known x f e) where
  fits : Fits (step w (Resumes wanted rest)).host w.client.loans (wanted_of w.client) w.client.unheard w.shown []
  fits = (resumes_keeps w wanted rest s may).fits name a b

  counted : wanted.loans ≡ w.client.loans
  counted = (wanted_is w.client.name w.client.loans wanted (hello_calls w w.client.link (Some wanted) rest s.phase may.0).2).1

  pick : IsKnown (step w (Resumes wanted rest)).host w.client.loans w.client.unheard w.shown x f → (w.shown x ≡ Some f) ⊎ (has w.client.unheard x ≡ true)
  pick (inl k) = inl k
  pick (inr (inl k)) = inr k
  pick (inr (inr k)) = absurd (not_both_counts wanted.loans w.client.loans counted k.0)

pub takes_back : Always TakesBack
takes_back es may = takes_back_if (run start es) (always_sound es may)

-- ---- a release is heard

abbrev IsGivenUp : World → List ℕ → Type 0
IsGivenUp w slots = (s : ℕ) → has slots s ≡ true → (w.shown s ≡ None) × (has w.client.unheard s ≡ true) × (w.host.loans ≡ w.client.loans)

given_up_if : (w : World) (slots : List ℕ) (name : List ℕ) → Sub slots w.client.unheard → w.host.loans ≡ w.client.loans → Fits w.host w.client.loans (wanted_of w.client) w.client.unheard w.shown w.stale → IsGivenUp w slots
given_up_if w slots name sub counted fits s e = (hidden_by (has w.client.unheard s) (w.shown s) (sub s e) (λ f k. fits.apart s f k), sub s e, counted)

frees_if : (w : World) → Sound w → FreesGivenUp w
frees_if w s slots rest (inl may) name a b =
    let k = frees_in w slots rest w.client.link may s.phase in
    given_up_if w slots name k.1 (k.2 name a b) (s.fits name a b)
frees_if w s slots rest (inr may) name a b =
    let old : Sub slots w.client.unheard × AreStale (wanted_of w.client) w.client.unheard rest = subst (AreStale (wanted_of w.client) w.client.unheard) may s.stale in
    given_up_if w slots name old.0 (all_counted w.host w.client.loans (wanted_of w.client) w.client.unheard w.shown w.stale (λ h. subst (OnlyHellos (wanted_of w.client)) may h) (s.fits name a b)) (s.fits name a b)

pub frees_given_up : Always FreesGivenUp
frees_given_up es may = frees_if (run start es) (always_sound es may)
