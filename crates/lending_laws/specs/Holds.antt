-- A hold of a page, in bytes, inside a history of its window: what both say is the same.
use Rattle.std.specs.Prelude.{◌≡◌, ℕ, ◌+◌, ◌<◌, Bool, true, List, Some, slice_get}
use Rattle.page_holds.specs.Bytes.{place_in}
use Rattle.page_holds.specs.RowLaws.{RowCourse}
use Rattle.page_lender.specs.Events.{Done_is_true}
use Rattle.page_lender.specs.declared.belief.Belief.{Belief}
use Rattle.page_lender.specs.declared.belief.Belief.TheVariants.{Turning}
use Rattle.page_lender.specs.declared.belief.Stage.TheVariants.{Held}
use Rattle.page_lender.specs.declared.belief.Target.TheVariants.{Frame, Zeros}
use Rattle.page_lender.specs.declared.order.Order.TheVariants as Order
use Rattle.window_events.specs.Windows.{Mappings, shown}
use Rattle.window_events.specs.declared.page.Page.{Page}
use Rattle.window_pages.specs.declared.page.WindowPage.{WindowPage}
use Rattle.page_holds.specs.Laws.{Course}
use Rattle.page_holds.specs.Memory.{Did, Spot, memory, zeros}
use Rattle.page_holds.specs.declared.place.HeldPlace.{HeldPlace}
use Rattle.page_holds.specs.declared.place.HoldStep.{HoldStep}
use Rattle.page_holds.specs.declared.place.HoldStep.TheVariants.{Compare, CompareZeros}
use Rattle.lending_laws.specs.Histories.{History, Moment}

-- Bytes have numbers in the protocol. The history's number of what was stored last is that of the hold's bytes, and frames contain the numbers of
-- their bytes.
pub record Agree (number : List ℕ → ℕ) (frames : ℕ → List ℕ) (w : Mappings) (stored : ℕ) (spot : Spot) : Type 0 where
  pub content : stored ≡ number spot.content
  pub numbered : (n y : ℕ) → slice_get w.frames n ≡ Some y → y ≡ number (frames n)

-- A page of a window at a moment, and a hold of it by which it has the same bytes.
pub record IsHeldIn (number : List ℕ → ℕ) (frames : ℕ → List ℕ) (first count i : ℕ) (m : Moment) (place : HeldPlace) (spot : Spot) : Type 0 where
  pub may_give : (ℕ → Bool) → ℕ → Bool
  pub history : History may_give first count m
  pub within : i < count
  pub page : WindowPage
  pub there : slice_get m.pages i ≡ Some page
  pub course : Course frames page place spot
  pub agrees : Agree number frames m.world (m.stored (first + i)) spot

-- Whoever reads the page finds bytes with the number that the protocol shows.
abbrev pub EachHoldReadsTheSame : Type 0
EachHoldReadsTheSame =
    (number : List ℕ → ℕ) (frames : ℕ → List ℕ) (first count i : ℕ) (m : Moment) (place : HeldPlace) (spot : Spot) (bytes : List ℕ) →
    IsHeldIn number frames first count i m place spot → spot.here ≡ Some bytes → shown m.world (first + i) ≡ Some (number bytes)

-- A comparison that says equal in bytes, of a page that is guarded by the protocol, is one that the order's truth asks for.
abbrev pub EachComparisonIsTrue : Type 0
EachComparisonIsTrue =
    (number : List ℕ → ℕ) (frames : ℕ → List ℕ) (first count i : ℕ) (m : Moment) (place : HeldPlace) (spot next : Spot) (slot n y : ℕ) (page : Page) →
    IsHeldIn number frames first count i m place spot → Did frames (Turning Held (Frame slot n)) place Compare true spot next → slice_get m.world.pages (first + i) ≡ Some page →
    page.guarded ≡ true → slice_get m.world.frames n ≡ Some y → Done_is_true (Order.Compare (Frame slot n)) m.world page

-- So is one with zeros, where a page of zeros has the number 0.
abbrev pub EachZeroIsTrue : Type 0
EachZeroIsTrue =
    (number : List ℕ → ℕ) (frames : ℕ → List ℕ) (first count i : ℕ) (m : Moment) (place : HeldPlace) (spot next : Spot) (belief : Belief) (page : Page) →
    number zeros ≡ 0 → IsHeldIn number frames first count i m place spot → Did frames belief place CompareZeros true spot next →
    slice_get m.world.pages (first + i) ≡ Some page → page.guarded ≡ true → Done_is_true (Order.Compare Zeros) m.world page

-- And the other way round, where no two contents have one number: a comparison that is true of the order says equal of the page's memory.
abbrev pub EachTruthIsInBytes : Type 0
EachTruthIsInBytes =
    (number : List ℕ → ℕ) (frames : ℕ → List ℕ) (first count i : ℕ) (m : Moment) (place : HeldPlace) (spot : Spot) (slot n : ℕ) (page : Page) (bytes : List ℕ) →
    ((a b : List ℕ) → number a ≡ number b → a ≡ b) → IsHeldIn number frames first count i m place spot → slice_get m.world.pages (first + i) ≡ Some page →
    Done_is_true (Order.Compare (Frame slot n)) m.world page → memory place spot ≡ Some bytes → Did frames (Turning Held (Frame slot n)) place Compare true spot spot

-- No step of a hold changes what was stored last, in bytes: so both agree after it, as long as no call and no order of the history stores anything.
abbrev pub EachStepAgrees : Type 0
EachStepAgrees =
    (number : List ℕ → ℕ) (frames : ℕ → List ℕ) (w : Mappings) (stored : ℕ) (belief : Belief) (place : HeldPlace) (step : HoldStep) (is_done : Bool) (spot next : Spot) →
    Agree number frames w stored spot → Did frames belief place step is_done spot next → Agree number frames w stored next

-- Each page of a row of held pages is in such a hold, where the row is of the window's pages and has the same bytes.
abbrev pub EachRowIsHeld : Type 0
EachRowIsHeld =
    (number : List ℕ → ℕ) (frames : ℕ → List ℕ) (may_give : (ℕ → Bool) → ℕ → Bool) (first count place : ℕ) (m : Moment) (row : List ℕ) (spots : ℕ → Spot) →
    History may_give first count m → RowCourse frames place m.pages row spots → (n b : ℕ) (x : WindowPage) → slice_get row n ≡ Some b →
    slice_get m.pages (place + n) ≡ Some x → place + n < count → Agree number frames m.world (m.stored (first + (place + n))) (spots n) →
    IsHeldIn number frames first count (place + n) m (place_in b) (spots n)
