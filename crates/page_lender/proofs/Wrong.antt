-- Lenders that the clauses on events refuse, each by a page of which it would be wrong.
use Rattle.std.proofs.Common.{◌≡◌, ℕ, Bool, true, false, [], ◌∷◌, Some, None, Option, refl, subst}
use Rattle.window_events.specs.Windows.{Mappings}
use Rattle.window_events.specs.declared.page.Page.{Page}
use Rattle.window_events.specs.declared.page.View.TheVariants.{Own, Over}
use Rattle.page_lender.specs.Events.{Fits, Believes, DoneByEvents, StaysRight, HeardRightly}
use Rattle.page_lender.specs.declared.belief.Belief.{Belief}
use Rattle.page_lender.specs.declared.belief.Belief.TheVariants.{Private, Turning, Shown, Leaving}
use Rattle.page_lender.specs.declared.belief.Homing.TheVariants.{Off}
use Rattle.page_lender.specs.declared.belief.Stage.TheVariants.{Ready, Held, Equal}
use Rattle.page_lender.specs.declared.belief.Target.TheVariants.{Frame, Zeros}
use Rattle.page_lender.specs.declared.order.Order.TheVariants as Order
use Rattle.page_lender.specs.declared.order.Outcome.TheVariants.{Done, Refused, Unknown}

-- one page and one frame
abbrev one : Page → Mappings
one page = record { pages = page ∷ []; frames = 5 ∷ [] }

-- a page with memory of its own that holds this frame, and is guarded or not
abbrev own : Option ℕ → Bool → Page
own held guarded = record { view = Own 5; last = 5; guarded = guarded; copy = None; copy_fresh = false; held = held; frame_fresh = true }

-- a page that shows its frame
abbrev bare : Page
bare = record { view = Over 0 None; last = 5; guarded = false; copy = None; copy_fresh = false; held = Some 0; frame_fresh = false }

abbrev believes : (belief : Belief) (page : Page) → Fits belief page → Believes belief (one page) 0
believes belief page f = record { page = page; there = refl; fits = f }

-- a frame that is held
abbrev frame_0 : Option ℕ
frame_0 = Some 0

-- what is believed of the one page is right of it
of_one : (belief : Belief) (page : Page) → Believes belief (one page) 0 → Fits belief page
of_one belief page b =
    let is_there : Some page ≡ Some b.page = b.there in
    let same : b.page ≡ page = cc in
    subst (λ x. Fits belief x) same b.fits

pub releases_shown : DoneByEvents (Shown 7 0 Off) (Order.Release 7) Done Private → ⊥
releases_shown h =
    let refused = (h (one bare) 0 false (believes (Shown 7 0 Off) bare (record { holds = refl; view = refl; waits = λ e. refl; copy = refl })) tt).possible in
    cc

pub maps_uncompared : DoneByEvents (Turning Held (Frame 7 0)) (Order.Map (Frame 7 0)) Done (Shown 7 0 Off) → ⊥
maps_uncompared h =
    let refused = (h (one (own None true)) 0 false (believes (Turning Held (Frame 7 0)) (own None true) (record { holds = refl; view = refl; waits = λ e. cc; copy = refl })) refl).possible in
    cc

pub leaves_held : DoneByEvents (Turning Held (Frame 7 0)) (Order.Compare (Frame 7 0)) Refused (Leaving 7) → ⊥
leaves_held h =
    let right = (h (one (own None true)) 0 false (believes (Turning Held (Frame 7 0)) (own None true) (record { holds = refl; view = refl; waits = λ e. cc; copy = refl })) tt).right in
    let free : true ≡ false = (of_one (Leaving 7) (own None true) right).waits refl in
    cc

pub doubts_no_hold : DoneByEvents (Turning Ready (Frame 7 0)) (Order.Hold (Frame 7 0)) Unknown (Leaving 7) → ⊥
doubts_no_hold h =
    let right = (h (one (own None false)) 0 true (believes (Turning Ready (Frame 7 0)) (own None false) (record { holds = refl; view = refl; waits = λ e. refl; copy = refl })) tt).right in
    let free : true ≡ false = (of_one (Leaving 7) (own None true) right).waits refl in
    cc

pub trusts_release : DoneByEvents (Leaving 7) (Order.Release 7) Refused Private → ⊥
trusts_release h =
    let right = (h (one (own (Some 0) false)) 0 false (believes (Leaving 7) (own (Some 0) false) (record { holds = refl; view = refl; waits = λ e. refl; copy = refl })) tt).right in
    let held : frame_0 ≡ None = (of_one Private (own (Some 0) false) right).holds in
    cc

pub sees_no_write : StaysRight (Shown 7 0 Off) (Leaving 7) → ⊥
sees_no_write h =
    let right = h (one bare) 0 (believes (Shown 7 0 Off) bare (record { holds = refl; view = refl; waits = λ e. refl; copy = refl })) in
    let clear : false ≡ true = (of_one (Leaving 7) bare right).view in
    cc

pub forgets_slot : HeardRightly (Shown 7 0 Off) Private → ⊥
forgets_slot h =
    let right = h (one (own (Some 0) false)) 0 (believes (Shown 7 0 Off) (own (Some 0) false) (record { holds = refl; view = refl; waits = λ e. refl; copy = refl })) refl in
    let held : frame_0 ≡ None = (of_one Private (own (Some 0) false) right).holds in
    cc

-- no copy
abbrev no_copy : Option ℕ
no_copy = None

pub takes_for_zeros : DoneByEvents (Turning Ready Zeros) (Order.Hold Zeros) Done (Turning Equal Zeros) → ⊥
takes_for_zeros h =
    let right = (h (one (own None false)) 0 false (believes (Turning Ready Zeros) (own None false) (record { holds = refl; view = refl; waits = λ e. refl; copy = refl })) tt).right in
    let copy : no_copy ≡ Some 0 = (of_one (Turning Equal Zeros) (own None true) right).copy in
    cc
