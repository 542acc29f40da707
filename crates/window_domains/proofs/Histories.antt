-- What is so after every history.
use Rattle.std.proofs.Common.{◌≡◌, ℕ, ◌+◌, ◌*◌, true, List, [], ◌∷◌, ◌++◌, length, map, Option, Some, None, refl, ap, sym, ◌∙◌, subst}
use Rattle.std.specs.Prelude.{unwrap_or, is_some}
use Rattle.std.specs.Option.{option_map_or}
use Rattle.share_domain.specs.declared.config.DomainConfig.{DomainConfig}
use Rattle.share_domain.specs.declared.holding.Slot.{Slot}
use Rattle.share_domain.specs.Domains.{DomainView, after_release, entered}
use Rattle.window_events.specs.declared.event.Event.{Event}
use Rattle.window_events.specs.Windows.{Mappings, step, run, start, shown, last, view_of}
use Rattle.window_events.specs.Played.{refused_from}
use Rattle.window_events.specs.declared.page.View.TheVariants.{Over}
use Rattle.window_events.proofs.Whole.{shows_last}
use Rattle.window_domains.specs.Agreement.{Agrees, Plays}
use Rattle.window_domains.specs.Calls.{NoneShown, left, releases, ShowsFrameOf}
use Rattle.window_domains.specs.Histories.{Moment, at_first, Happens, own, enters, lends, lends_early, compares, releases_slot, leaves, trims, History, begins, goes_on, IsRightAfter}
use Rattle.window_domains.proofs.Begins as begin
use Rattle.window_domains.proofs.Kept as kept
use Rattle.window_domains.proofs.Lent as lent
use Rattle.window_domains.proofs.Pages.{one_plays, none_plays}
use Rattle.window_domains.proofs.Released.{releases_by_events, leaves_by_events}

-- what happens is events that are possible, and the agreement stays
by_own : (number : List ℕ → ℕ) (now : Moment) (e : Event) (o : Option Mappings) → step now.mappings e ≡ o → is_some o ≡ true → Agrees number now.domain now.slots (unwrap_or o now.mappings)
    → Plays now.mappings (e ∷ []) (Agrees number now.domain now.slots)
by_own number now e None is some agrees = cc
by_own number now e (Some v) is some agrees = one_plays now.mappings v e (Agrees number now.domain now.slots) is agrees

-- the same with other names of the same
moved : (number : List ℕ → ℕ) (w : Mappings) (es events : List Event) (d domain : DomainView) (s slots : List (Option Slot)) → events ≡ es → domain ≡ d → slots ≡ s
    → Plays w es (Agrees number d s) → Plays w events (Agrees number domain slots)
moved number w es events d domain s slots e f g h =
    subst (λ x. Plays w x (Agrees number domain slots)) (sym e)
    (subst (λ (x : DomainView). Plays w es (Agrees number x slots)) (sym f) (subst (λ (x : List (Option Slot)). Plays w es (Agrees number d x)) (sym g) h))

happened : (number : List ℕ → ℕ) (now : Moment) (events : List Event) (domain : DomainView) (slots : List (Option Slot)) → Agrees number now.domain now.slots now.mappings
    → Happens number now events domain slots → Plays now.mappings events (Agrees number domain slots)
happened number now events domain slots agrees (own e is may a b c) =
    moved number now.mappings (e ∷ []) events now.domain domain now.slots slots a b c
    (by_own number now e (step now.mappings e) refl may (kept.own_keeps number now.domain now.slots now.mappings e is agrees))
happened number now events domain slots agrees (enters client a b c) =
    moved number now.mappings [] events (entered now.domain client) domain now.slots slots a b c
    (none_plays now.mappings (Agrees number (entered now.domain client) now.slots) (kept.enters number now.domain now.slots now.mappings client agrees))
happened number now events domain slots agrees (lends m client p bytes loan l to a c) =
    moved number now.mappings _ events domain domain _ slots a refl c (lent.lends number now.domain domain now.slots now.mappings m client p bytes loan agrees l to)
happened number now events domain slots agrees (lends_early m client bytes loan l a c) =
    moved number now.mappings _ events domain domain _ slots a refl c (lent.lends_early number now.domain domain now.slots now.mappings m client bytes loan agrees l)
happened number now events domain slots agrees (compares p bytes slot h held has to a b c) =
    moved number now.mappings _ events now.domain domain _ slots a b c (lent.compares number now.domain now.slots now.mappings p bytes slot h agrees held has to)
happened number now events domain slots agrees (releases_slot client slot b none a c) = made domain b none a c where
  made : (x : DomainView) → x ≡ after_release client slot now.domain → NoneShown x now.slots now.mappings → events ≡ releases x 0 now.slots → slots ≡ map (left x) now.slots → Plays now.mappings events (Agrees number x slots)
  made x b none a c =
      moved number now.mappings (releases x 0 now.slots) events x x (map (left x) now.slots) slots a refl c
      (subst (λ (y : DomainView). Plays now.mappings (releases y 0 now.slots) (Agrees number y (map (left y) now.slots))) (sym b)
      (releases_by_events number now.domain now.slots now.mappings client slot agrees (subst (λ (y : DomainView). NoneShown y now.slots now.mappings) b none)))
happened number now events domain slots agrees (leaves client count room after l none a c) =
    moved number now.mappings _ events domain domain _ slots a refl c (leaves_by_events number now.domain domain now.slots now.mappings client count room after agrees l none)
happened number now events domain slots agrees (trims m mpn x lm lf free a b c) =
    moved number now.mappings _ events now.domain domain now.slots slots a b c (kept.trims number now.domain now.slots now.mappings m mpn x agrees lm lf free)

run_append : (w : Mappings) (es more : List Event) → run step w (es ++ more) ≡ run step (run step w es) more
run_append w [] more = refl
run_append w (e ∷ es) more = run_append (unwrap_or (step w e) w) es more

refused_later : (n k : ℕ) (w : Mappings) (es : List Event) → refused_from n w es ≡ None → refused_from k w es ≡ None
refused_later n k w [] h = refl
refused_later n k w (e ∷ es) h = pick (step w e) h (λ v i. refused_later (n + 1) (k + 1) v es i) where
  pick : (o : Option Mappings) → option_map_or (λ after. refused_from (n + 1) after es) o (Some n) ≡ None → ((v : Mappings) → refused_from (n + 1) v es ≡ None → refused_from (k + 1) v es ≡ None)
      → option_map_or (λ after. refused_from (k + 1) after es) o (Some k) ≡ None
  pick None h later = cc
  pick (Some v) h later = later v h

refused_append : (n : ℕ) (w : Mappings) (es more : List Event) → refused_from n w es ≡ None → refused_from 0 (run step w es) more ≡ None → refused_from n w (es ++ more) ≡ None
refused_append n w [] more h i = refused_later 0 n w more i
refused_append n w (e ∷ es) more h i = pick (step w e) h i (λ v f g. refused_append (n + 1) v es more f g) where
  pick : (o : Option Mappings) → option_map_or (λ after. refused_from (n + 1) after es) o (Some n) ≡ None → refused_from 0 (run step (unwrap_or o w) es) more ≡ None
      → ((v : Mappings) → refused_from (n + 1) v es ≡ None → refused_from 0 (run step v es) more ≡ None → refused_from (n + 1) v (es ++ more) ≡ None)
      → option_map_or (λ after. refused_from (n + 1) after (es ++ more)) o (Some n) ≡ None
  pick None h i later = cc
  pick (Some v) h i later = later v h i

-- what holds all along
record Holds (number : List ℕ → ℕ) (first : Moment) (events : List Event) (now : Moment) : Type 0 where
  possible : refused_from 0 first.mappings events ≡ None
  mappings : now.mappings ≡ run step first.mappings events
  agrees : Agrees number now.domain now.slots now.mappings

goes : (number : List ℕ → ℕ) (first : Moment) (events more : List Event) (now : Moment) (domain : DomainView) (slots : List (Option Slot)) → Holds number first events now → Happens number now more domain slots
    → Holds number first (events ++ more) (record { domain = domain; slots = slots; mappings = run step now.mappings more })
goes number first events more now domain slots h happens =
    let p : Plays now.mappings more (Agrees number domain slots) = happened number now more domain slots h.agrees happens in
    record {
      possible = refused_append 0 first.mappings events more h.possible (subst (λ (w : Mappings). refused_from 0 w more ≡ None) h.mappings p.possible);
      mappings = ap (λ w. run step w more) h.mappings ∙ sym (run_append first.mappings events more);
      agrees = p.after;
    }

holds : (number : List ℕ → ℕ) (first : Moment) (events : List Event) (now : Moment) → Agrees number first.domain first.slots first.mappings → History number first events now → Holds number first events now
holds number first _ _ agrees begins = record { possible = refl; mappings = refl; agrees = agrees }
holds number first _ _ agrees (goes_on events more now domain slots history happens) = goes number first events more now domain slots (holds number first events now agrees history) happens

pub is_right : (number : List ℕ → ℕ) (config : DomainConfig) (contents frames : List ℕ) (events : List Event) (now : Moment) → length frames ≡ config.machines * config.frames
    → History number (at_first config contents frames) events now → IsRightAfter number (at_first config contents frames) events now
is_right number config contents frames events now count history =
    let h : Holds number (at_first config contents frames) events now = holds number (at_first config contents frames) events now (begin.begins number config contents frames count) history in
    record {
      possible = h.possible;
      mappings = h.mappings;
      agrees = h.agrees;
      shows = λ p. subst (λ (w : Mappings). shown w p ≡ last w p) (sym h.mappings) (shows_last events p contents frames);
      frames = λ p n view. seen p n now.mappings h.mappings h.agrees view;
    } where
      seen : (p n : ℕ) (w : Mappings) → w ≡ run step (start contents frames) events → Agrees number now.domain now.slots w → view_of w p ≡ Some (Over n None) → ShowsFrameOf number now.domain now.slots (last w p) p n
      seen p n w is agrees view =
          subst (λ (v : Mappings). ShowsFrameOf number now.domain now.slots (last v p) p n) (sym is)
          (kept.shows_bytes number now.domain now.slots contents frames events p n
          (subst (λ (v : Mappings). Agrees number now.domain now.slots v) is agrees) (subst (λ (v : Mappings). view_of v p ≡ Some (Over n None)) is view))
