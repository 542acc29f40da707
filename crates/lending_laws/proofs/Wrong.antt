-- What the laws refuse, each by a window or a page of which it would be wrong.
use Rattle.std.proofs.Common.{◌≡◌, ℕ, zero, suc, true, false, [], ◌∷◌, Option, Some, None, refl, subst}
use Rattle.page_lender.specs.Events.{Believes, DoneByEvents, Fits, StaysRight}
use Rattle.page_lender.specs.declared.belief.Belief.{Belief}
use Rattle.page_lender.specs.declared.belief.Belief.TheVariants.{Private, Turning, Shown}
use Rattle.page_lender.specs.declared.belief.Homing.TheVariants.{Off}
use Rattle.page_lender.specs.declared.belief.Stage.TheVariants.{Equal, LettingGo}
use Rattle.page_lender.specs.declared.belief.Target.TheVariants.{Frame, Zeros}
use Rattle.page_lender.specs.declared.order.Order.TheVariants as Order
use Rattle.page_lender.specs.declared.order.Outcome.TheVariants.{Done}
use Rattle.window_events.specs.Windows.{Mappings}
use Rattle.window_events.specs.declared.page.Page.{Page}
use Rattle.window_events.specs.declared.page.View.TheVariants.{Own}
use Rattle.lending_laws.specs.Histories.{CarriedOut, Given, IsTold}
use Rattle.lending_laws.specs.Processes.{EachSlotIsOneWindows}
use Rattle.lending_laws.specs.Slots.{EachSlotIsOnes, slot_of}
use Rattle.lending_laws.specs.Wrong.{MapsAfterDiscard, given_to_each, one_forgotten, slot_7, two_given}

pub gives_twice : EachSlotIsOnes two_given slot_7 → ⊥
gives_twice h = let same : zero ≡ suc zero = h.apart zero (suc zero) 7 refl refl in cc

pub gives_two_windows : EachSlotIsOneWindows given_to_each → ⊥
gives_two_windows h = let same : zero ≡ suc zero = h.apart zero (suc zero) 7 refl refl in cc

pub forgets_a_slot : EachSlotIsOnes one_forgotten slot_7 → ⊥
forgets_a_slot h =
    let found = h.kept 7 refl in
    none found.0 found.1 where
      none : (i : ℕ) → slot_of one_forgotten i ≡ Some 7 → ⊥
      none zero e = cc
      none (suc i) e = cc

-- one page and one frame
abbrev one : Page → Mappings
one page = record { pages = page ∷ []; frames = 5 ∷ [] }

-- a page with memory of its own that holds this frame, and is guarded
abbrev held_page : Option ℕ → Page
held_page held = record { view = Own 5; last = 5; guarded = true; copy = None; copy_fresh = false; held = held; frame_fresh = true }

abbrev believes : (belief : Belief) (page : Page) → Fits belief page → Believes belief (one page) 0
believes belief page f = record { page = page; there = refl; fits = f }

of_one : (belief : Belief) (page : Page) → Believes belief (one page) 0 → Fits belief page
of_one belief page b =
    let is_there : Some page ≡ Some b.page = b.there in
    let same : b.page ≡ page = cc in
    subst (λ x. Fits belief x) same b.fits

pub forgets_a_stuck_page : StaysRight (Turning LettingGo Zeros) Private → ⊥
forgets_a_stuck_page h =
    let right = h (one (held_page None)) 0 (believes (Turning LettingGo Zeros) (held_page None) (record { holds = refl; view = refl; waits = λ e. cc; copy = refl })) in
    let free : true ≡ false = (of_one Private (held_page None) right).waits refl in
    cc

pub maps_after_discard : MapsAfterDiscard → ⊥
maps_after_discard h =
    let possible = h (one (held_page (Some 0))) 0 (believes (Turning Equal (Frame 7 0)) (held_page (Some 0)) (record { holds = refl; view = refl; waits = λ e. cc; copy = refl })) in
    cc

pub takes_for_another : DoneByEvents (Turning Equal (Frame 7 0)) (Order.Hold (Frame 7 0)) Done (Shown 7 0 Off) → ⊥
takes_for_another h =
    let right = (h (one (held_page (Some 0))) 0 true (believes (Turning Equal (Frame 7 0)) (held_page (Some 0)) (record { holds = refl; view = refl; waits = λ e. cc; copy = refl })) tt).right in
    let free : true ≡ false = (of_one (Shown 7 0 Off) (held_page (Some 0)) right).waits refl in
    cc

pub tells_of_another : IsTold Done (Order.Map (Frame 7 0)) (CarriedOut (Order.Hold (Frame 7 0))) → ⊥
tells_of_another t = cc

pub tells_too_early : IsTold Done (Order.Map (Frame 7 0)) (Given (Order.Map (Frame 7 0))) → ⊥
tells_too_early t = cc
