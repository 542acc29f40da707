-- Calls of a value that owns all windows of a process that leave each window's pages as they were.
use Rattle.std.proofs.Common.{◌≡◌, ◌∙◌, ◌⊎◌, inl, inr, ℕ, ◌-◌, ◌<◌, ◌≤◌, Bool, true, false, cond, List, length, Option, Some, None, refl, ap, sym, subst}
use Rattle.std.proofs.lemmas.Bool.{cases_lt}
use Rattle.std.proofs.lemmas.List.{get_or-set_same, get_or_past}
use Rattle.std.specs.Prelude.{slice_set}
use Rattle.page_looks.specs.declared.parts.part.Part.{Part}
use Rattle.process_lender.specs.Offers.{end_of, ended, its_mappings, state_set}
use Rattle.process_lender.specs.Parts.{SetsWhole, part_noted, part_of, with_part, with_pins}
use Rattle.process_lender.specs.Windows.{AtPlace, InWindow, Lender, Stay, Window, window_at, window_changed, with_mappings, with_window}
use Rattle.process_lender.specs.declared.facts.WindowState.{WindowState}
use Rattle.process_lender.specs.declared.part_notice.PartNotice.{PartNotice}
use Rattle.window_tables.specs.Tables.{Counted}
use Rattle.lending_laws.proofs.OwnedPlaces.{OneBecomes, counted_one, goes, is_same, none_stays, nothing_goes, one_becomes, other}
use Rattle.lending_laws.specs.Owned.{AreCounted, Knows, OwnedGoesOn}
use Rattle.lending_laws.specs.ProcessCalls.{GivesFor}
use Rattle.lending_laws.specs.Processes.{Process, ProcessHistory, Span}

-- All windows stay, or the one at a place becomes another one with the same pages and counts.
pub data Stays (place : ℕ) (old new : Lender) : Type 0 where
  all_stay : new.windows ≡ old.windows → Stays place old new
  one_stays : (w v : Window) → OneBecomes place old new w v → v.pages ≡ w.pages → v.counts ≡ w.counts → v.lead ≡ w.lead → Stays place old new

pub stays_goes : (f : Bool) (spans : ℕ → Span) (number : ℕ → ℕ) (place : ℕ) (x : Process) (gives : (ℕ → Bool) → ℕ → Bool) (old new : Lender) → ProcessHistory f spans x → Knows number old x → GivesFor f (number place) x gives →
    Stays place old new → OwnedGoesOn f spans number place x old new
stays_goes f spans number place x gives old new h k g (all_stay e) = nothing_goes f spans number place x old new h k e
stays_goes f spans number place x gives old new h k g (one_stays w v b p c l) = goes f spans number place x gives old new w v h k g b (is_same p)

pub stays_counted : (place : ℕ) (old new : Lender) → Stays place old new → AreCounted old → AreCounted new
stays_counted place old new (all_stay e) all = λ i u q. all i u (subst (λ l. window_at i l ≡ Some u) e q)
stays_counted place old new (one_stays w v b p c l) all =
    counted_one place old new w v b all
    (λ k. subst (λ lead. Counted lead v.pages v.counts) (sym l) (subst (λ pages. Counted w.lead pages v.counts) (sym p) (subst (λ counts. Counted w.lead w.pages counts) (sym c) k)))

-- a place where a window is lies in the list
pub in_list : (place : ℕ) (ws : List (Option Window)) (w : Window) → window_at place ws ≡ Some w → place < length ws
in_list place ws w e = pick (cases_lt place (length ws)) where
  pick : (place < length ws) ⊎ (length ws ≤ place) → place < length ws
  pick (inl l) = l
  pick (inr l) = let none : window_at place ws ≡ None = get_or_past ws place None l in let no : Some w ≡ None = sym e ∙ none in cc

put_at : (place : ℕ) (ws : List (Option Window)) (w v : Window) → window_at place ws ≡ Some w → window_at place (slice_set ws place (Some v)) ≡ Some v
put_at place ws w v e = get_or-set_same ws place (Some v) None (in_list place ws w e)

is_put : (place : ℕ) (old new : Lender) (w v : Window) → window_at place old.windows ≡ Some w → new.windows ≡ slice_set old.windows place (Some v) → OneBecomes place old new w v
is_put place old new w v was e = record {
  there = was;
  after = ap (λ l. window_at place l) e ∙ put_at place old.windows w v was;
  beside = λ j n. ap (λ l. window_at j l) e ∙ other j place old.windows (Some v) n;
}

pub changed_stays : (place : ℕ) (old new : Lender) (changed : Window → Window) → ((w : Window) → (changed w).pages ≡ w.pages) → ((w : Window) → (changed w).counts ≡ w.counts) → ((w : Window) → (changed w).lead ≡ w.lead) →
    new ≡ window_changed changed place (window_at place old.windows) old → Stays place old new
changed_stays place old new changed p c l e = pick (window_at place old.windows) refl e where
  pick : (o : Option Window) → window_at place old.windows ≡ o → new ≡ window_changed changed place o old → Stays place old new
  pick None was e = all_stay (ap (λ z. z.windows) e)
  pick (Some w) was e = one_stays w (changed w) (is_put place old new w (changed w) was (ap (λ z. z.windows) e)) (p w) (c w) (l w)

pub end_stays : (place : ℕ) (old new : Lender) → new ≡ end_of place (window_at place old.windows) old → Stays place old new
end_stays place old new e = pick (window_at place old.windows) refl e where
  either : (w : Window) (b : Bool) (then : Lender) → window_at place old.windows ≡ Some w → then.windows ≡ slice_set old.windows place (Some (ended w)) → new ≡ cond b old then → Stays place old new
  either w true then was is e = all_stay (ap (λ z. z.windows) e)
  either w false then was is e = one_stays w (ended w) (is_put place old new w (ended w) was (ap (λ z. z.windows) e ∙ is)) refl refl refl

  pick : (o : Option Window) → window_at place old.windows ≡ o → new ≡ end_of place o old → Stays place old new
  pick None was e = all_stay (ap (λ z. z.windows) e)
  pick (Some w) was e = either w w.has_ended (with_mappings (old.mappings - its_mappings w - w.seams) (with_window place (Some (ended w)) old)) was refl e

abbrev with_state : WindowState → Window → Window
with_state state w = record w { state = state }

pub state_stays : (place : ℕ) (old new : Lender) (state : WindowState) → new ≡ state_set place state (window_at place old.windows) old → Stays place old new
state_stays place old new state e = pick (window_at place old.windows) refl e where
  either : (w : Window) (b : Bool) (then : Lender) → window_at place old.windows ≡ Some w → then.windows ≡ slice_set old.windows place (Some (with_state state w)) → new ≡ cond b old then → Stays place old new
  either w true then was is e = all_stay (ap (λ z. z.windows) e)
  either w false then was is e = one_stays w (with_state state w) (is_put place old new w (with_state state w) was (ap (λ z. z.windows) e ∙ is)) refl refl refl

  pick : (o : Option Window) → window_at place old.windows ≡ o → new ≡ state_set place state o old → Stays place old new
  pick None was e = all_stay (ap (λ z. z.windows) e)
  pick (Some w) was e = either w w.has_ended (with_window place (Some (with_state state w)) old) was refl e

part_pages : (from : ℕ) (o : Option Part) (notice : PartNotice) (w : Window) → (with_part from o notice w).pages ≡ w.pages
part_pages from None notice w = refl
part_pages from (Some part) notice w = refl

part_counts : (from : ℕ) (o : Option Part) (notice : PartNotice) (w : Window) → (with_part from o notice w).counts ≡ w.counts
part_counts from None notice w = refl
part_counts from (Some part) notice w = refl

part_lead : (from : ℕ) (o : Option Part) (notice : PartNotice) (w : Window) → (with_part from o notice w).lead ≡ w.lead
part_lead from None notice w = refl
part_lead from (Some part) notice w = refl

pub part_stays : (place from : ℕ) (notice : PartNotice) (old new : Lender) → new ≡ window_changed (part_noted from notice) place (window_at place old.windows) old → Stays place old new
part_stays place from notice old new e =
    changed_stays place old new (part_noted from notice) (λ w. part_pages from (part_of from w) notice w) (λ w. part_counts from (part_of from w) notice w) (λ w. part_lead from (part_of from w) notice w) e

pub pins_stay : (place from n : ℕ) (is_pinned : Bool) (old new : Lender) → new ≡ window_changed (with_pins is_pinned from n) place (window_at place old.windows) old → Stays place old new
pins_stay place from n is_pinned old new e = changed_stays place old new (with_pins is_pinned from n) (λ w. refl) (λ w. refl) (λ w. refl) e

pub whole_stays : (place from : ℕ) (is_whole is : Bool) (old new : Lender) → InWindow (SetsWhole from is_whole is) (is ≡ false) place old new → Stays place old new
whole_stays place from is_whole is old new c = pick (window_at place old.windows) (window_at place new.windows) refl refl c.there where
  windows : new.windows ≡ slice_set old.windows place (window_at place new.windows)
  windows = ap (λ l. l.windows) c.others

  pick : (a b : Option Window) → window_at place old.windows ≡ a → window_at place new.windows ≡ b → AtPlace (SetsWhole from is_whole is old.mappings new.mappings) (Stay (is ≡ false) old.mappings new.mappings) a b → Stays place old new
  pick None None was is there = all_stay (none_stays place old new windows was is)
  pick None (Some v) was is there = absurd there
  pick (Some w) None was is there = absurd there
  pick (Some w) (Some v) was is there = one_stays w v (one_becomes place old new w v windows was is) (ap (λ z. z.pages) there.rest) (ap (λ z. z.counts) there.rest) (ap (λ z. z.lead) there.rest)
