-- What a hold does to a page's bytes.
use Rattle.std.specs.Prelude.{◌≡◌, ℕ, ◌<◌, Bool, true, false, List, Some}
use Rattle.page_lender.specs.Decisions.{waiting}
use Rattle.page_lender.specs.declared.bars.Bars.{Bars}
use Rattle.page_lender.specs.declared.order.Order.{Order}
use Rattle.page_lender.specs.Calls.{IsOrdered}
use Rattle.window_pages.specs.Bytes.{belief_of, known_of}
use Rattle.window_pages.specs.Changed.{Lends}
use Rattle.window_pages.specs.declared.counts.PartCounts.{PartCounts}
use Rattle.window_pages.specs.declared.page.WindowPage.{WindowPage}
use Rattle.page_holds.specs.Memory.{Did, Spot, begun, is_at_place, is_held}
use Rattle.page_holds.specs.Steps.{Took, asks_for, outcome_for, place_after, place_of, step_of}
use Rattle.page_holds.specs.declared.place.HeldPlace.{HeldPlace}
use Rattle.page_holds.specs.declared.place.HeldPlace.TheVariants.{Free}
use Rattle.page_holds.specs.declared.place.HoldStep.{HoldStep}
use Rattle.page_holds.specs.declared.place.HoldStep.TheVariants.{Over, Compare, CompareZeros, Map, GiveBack, PutBack, EndWatch}
use Rattle.page_holds.specs.declared.place.Taking.{Taking}

-- A hold of a page, by the contracts of `begin`, `step` and `done`: no write to it waited and it had these bytes. Then steps are asked for and come
-- out as they may, in whatever order, and its guest writes where that needn't wait.
pub data Course (frames : ℕ → List ℕ) : WindowPage → HeldPlace → Spot → Type 0 where
  begins : (old new : WindowPage) (part after : PartCounts) (taking : Taking) (bytes : List ℕ) → waiting (belief_of old) ≡ false
      → Took (asks_for (belief_of old) taking) old new part after → Course frames new (place_of taking) (begun taking bytes)
  asks : (old new : WindowPage) (part after : PartCounts) (place : HeldPlace) (spot : Spot) (order : Order) (bars : Bars) → Course frames old place spot
      → Lends (IsOrdered order) bars old new part after → Course frames new place spot
  comes_out : (old new : WindowPage) (part after : PartCounts) (place : HeldPlace) (spot next : Spot) (is_done : Bool) → Course frames old place spot
      → Did frames (belief_of old) place (step_of (belief_of old) place) is_done spot next
      → Took (outcome_for (step_of (belief_of old) place) (belief_of old) is_done) old new part after
      → Course frames new (place_after (step_of (belief_of old) place) place is_done) next
  writes : (page : WindowPage) (place : HeldPlace) (spot : Spot) (bytes : List ℕ) → Course frames page place spot → is_held (belief_of page) ≡ false
      → is_at_place place ≡ true → Course frames page place (record spot { content = bytes; here = Some bytes })

-- Whoever reads the page finds what its guest stored last. Where nobody waits for it, it is there.
pub record ShowsItsOwn (place : HeldPlace) (spot : Spot) : Type 0 where
  pub own : (bytes : List ℕ) → spot.here ≡ Some bytes → bytes ≡ spot.content
  pub there : place ≡ Free → spot.here ≡ Some spot.content

abbrev pub EachHoldIsRight : Type 0
EachHoldIsRight = (frames : ℕ → List ℕ) (page : WindowPage) (place : HeldPlace) (spot : Spot) → Course frames page place spot → ShowsItsOwn place spot

-- how many steps are left at most
abbrev pub left_by : HoldStep → ℕ
left_by Over = 0
left_by Compare = 4
left_by CompareZeros = 4
left_by Map = 3
left_by GiveBack = 2
left_by PutBack = 2
left_by EndWatch = 1

-- the hold goes on after a step that was done, or wasn't: a page that the system refuses to let go is tried again later
abbrev pub goes_on : HoldStep → Bool → Bool
goes_on Over is_done = false
goes_on Compare is_done = true
goes_on CompareZeros is_done = true
goes_on Map is_done = true
goes_on GiveBack is_done = true
goes_on PutBack is_done = is_done
goes_on EndWatch is_done = is_done

abbrev pub EachStepLeavesLess : Type 0
EachStepLeavesLess =
    (old new : WindowPage) (part after : PartCounts) (place : HeldPlace) (is_done : Bool) → (waiting (belief_of old) ≡ true → (known_of old).ordered ≡ true) →
    Took (outcome_for (step_of (belief_of old) place) (belief_of old) is_done) old new part after → goes_on (step_of (belief_of old) place) is_done ≡ true →
    left_by (step_of (belief_of new) (place_after (step_of (belief_of old) place) place is_done)) < left_by (step_of (belief_of old) place)
