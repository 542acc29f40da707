-- Windows and a process that are wrong, and what a lender would do that maps after a discard.
use Rattle.std.specs.Prelude.{◌≡◌, ℕ, Bool, false, List, [], ◌∷◌, None, unwrap_or}
use Rattle.page_lender.specs.Events.{Believes}
use Rattle.page_lender.specs.declared.belief.Belief.TheVariants.{Turning}
use Rattle.page_lender.specs.declared.belief.Stage.TheVariants.{Equal}
use Rattle.page_lender.specs.declared.belief.Target.TheVariants.{Frame}
use Rattle.window_events.specs.Played.{refused_from}
use Rattle.window_events.specs.Windows.{Mappings, step}
use Rattle.window_events.specs.declared.event.Event.TheVariants.{Discard, Map}
use Rattle.window_pages.specs.Laws.{new_page}
use Rattle.window_pages.specs.declared.page.WindowPage.{WindowPage}
use Rattle.lending_laws.specs.Histories.{Nothing, with_slot}
use Rattle.lending_laws.specs.Processes.{Process}

-- the host gave slot 7 and no other one
abbrev pub slot_7 : ℕ → Bool
slot_7 = with_slot 7 (λ s. false)

-- a page that was lent by slot 7, with frame 0
abbrev pub loaned_7 : WindowPage
loaned_7 = record { slot = 7; frame = 0; clue = 0; belief = 3; looks = 1 }

-- two pages with one slot
abbrev pub two_given : List WindowPage
two_given = loaned_7 ∷ loaned_7 ∷ []

-- a process whose host gave one slot for a page of each window
abbrev pub given_to_each : Process
given_to_each = record {
  is_open = λ k. Bool.true;
  pages = λ k. loaned_7 ∷ [];
  orders = λ k i. Nothing;
  slots = λ k. slot_7;
  stored = λ p. 0;
  world = record { pages = []; frames = [] };
}

-- a page that forgot its slot
abbrev pub one_forgotten : List WindowPage
one_forgotten = new_page ∷ []

-- a page that was found equal to its frame may be mapped, also after it was discarded
abbrev pub MapsAfterDiscard : Type 0
MapsAfterDiscard = (w : Mappings) (p : ℕ) → Believes (Turning Equal (Frame 7 0)) w p → refused_from 0 (unwrap_or (step w (Discard p)) w) (Map p ∷ []) ≡ None
