-- Pages whose slots are released.
use Rattle.std.specs.Prelude.{◌≡◌, ℕ, ◌+◌, ◌<◌, ◌≤◌, Bool, true, false, not, ◌&&◌, ◌||◌, if◌then◌else◌, List, length, slice_get, slice_set, ◌⊎◌}
use Rattle.std.specs.Option.{option_map_or}
use Rattle.lend_steps.specs.Lists.{Deed, Told}
use Rattle.page_holds.specs.Rows.{PageChanges}
use Rattle.page_lender.specs.Calls.{IsOrdered}
use Rattle.page_lender.specs.Decisions.{waiting}
use Rattle.page_lender.specs.declared.order.Order.{Order}
use Rattle.page_lender.specs.declared.order.Order.TheVariants.{Wait, Copy, Lend, Hold, Compare, Map, LetGo, TakeHome, Release}
use Rattle.page_lender.specs.declared.order.Outcome.{Outcome}
use Rattle.page_lender.specs.declared.order.Outcome.TheVariants.{Done, Refused}
use Rattle.window_pages.specs.Bytes.{known_of}
use Rattle.window_pages.specs.Changed.{Lends}
use Rattle.window_pages.specs.Counted.{is_to_release}
use Rattle.window_pages.specs.Known.{bars_of}
use Rattle.window_pages.specs.declared.counts.PartCounts.{PartCounts}
use Rattle.window_pages.specs.declared.facts.WindowFacts.{WindowFacts}
use Rattle.window_pages.specs.declared.page.KnownPage.{KnownPage}
use Rattle.window_pages.specs.declared.page.WindowPage.{WindowPage}
use Rattle.window_tables.specs.Facts.{facts_at, is_pinned, only_called}
use Rattle.window_tables.specs.Tables.{Counted}
use Rattle.window_tables.specs.declared.facts.TableFacts.{TableFacts}

-- the page may be released: its slot is to be, no write to it waits, and no order of it is open
abbrev pub may_release : KnownPage → Bool
may_release page = is_to_release page && not page.ordered && not (waiting page.belief)

abbrev pub is_hold : Order → Bool
is_hold Wait = false
is_hold Copy = false
is_hold Lend = false
is_hold (Hold target) = true
is_hold (Compare target) = false
is_hold (Map target) = false
is_hold (LetGo target) = false
is_hold (TakeHome in_place) = false
is_hold (Release slot) = false

abbrev pub is_release : Order → Bool
is_release Wait = false
is_release Copy = false
is_release Lend = false
is_release (Hold target) = false
is_release (Compare target) = false
is_release (Map target) = false
is_release (LetGo target) = false
is_release (TakeHome in_place) = false
is_release (Release slot) = true

-- The page gets this order. If it was to be held, that is refused first: the step that was to do so has left its loan.
pub data OrderedTo (facts : WindowFacts) (order : Order) (old new : WindowPage) (part part_new : PartCounts) : Type 0 where
  at_once : is_hold order ≡ false → Lends (IsOrdered order) (bars_of facts (known_of old)) old new part part_new → OrderedTo facts order old new part part_new
  refused_first : (first : Order) (one two : WindowPage) (part_one part_two : PartCounts) → is_hold first ≡ true
      → Lends (IsOrdered first) (bars_of facts (known_of old)) old one part part_one → Told Refused one two part_one part_two
      → Lends (IsOrdered order) (bars_of facts (known_of two)) two new part_two part_new → OrderedTo facts order old new part part_new

-- Its slot is to be released now, or not.
pub record ToRelease (facts : WindowFacts) (is : Bool) (old new : WindowPage) (part part_new : PartCounts) : Type 0 where
  pub order : Order
  pub ordered : OrderedTo facts order old new part part_new
  pub released : is ≡ is_release order

-- the page at a place is passed by: it may not be released, or a transfer may be reading the frame that it showed
abbrev pub is_passed : List ℕ → ℕ → List WindowPage → Bool
is_passed pins place pages = not (option_map_or (λ x. may_release (known_of x)) (slice_get pages place) false) || is_pinned pins place

-- The page at a place gets its order, and is found if it is to be released. It is passed by if as many were found as there is room for.
pub data FindsAt (facts : WindowFacts) (pins : List ℕ) (lead place room count count_new : ℕ) (old new : List WindowPage) (parts parts_new : List PartCounts) (places places_new : List ℕ) : Type 0 where
  passes : (room ≤ count) ⊎ (is_passed pins place old ≡ true) → count_new ≡ count → new ≡ old → parts_new ≡ parts → places_new ≡ places
      → FindsAt facts pins lead place room count count_new old new parts parts_new places places_new
  asks : (is : Bool) → count < room → is_passed pins place old ≡ false → PageChanges (λ x y p q. ToRelease facts is x y p q) lead place old new parts parts_new
      → count_new ≡ (if is then count + 1 else count) → places_new ≡ (if is then slice_set places count place else places)
      → FindsAt facts pins lead place room count count_new old new parts parts_new places places_new

-- The same of the first `n` pages from a place on, one after another.
pub data Found (table : TableFacts) (pins : List ℕ) (lead first room : ℕ) (old : List WindowPage) (parts : List PartCounts) (places : List ℕ) : ℕ → ℕ → List WindowPage → List PartCounts → List ℕ → Type 0 where
  begins : Found table pins lead first room old parts places 0 0 old parts places
  goes_on : (n count count_new : ℕ) (now new : List WindowPage) (counts counts_new : List PartCounts) (said said_new : List ℕ)
      → Found table pins lead first room old parts places n count now counts said
      → FindsAt (facts_at table pins (only_called false) (first + n)) pins lead (first + n) room count count_new now new counts counts_new said said_new
      → Found table pins lead first room old parts places (n + 1) count_new new counts_new said_new

-- Of so many pages from a place on those are found that are to be released, exactly if the pages are there and each page of the table has a part.
-- Else none is, and nothing changes. The counts of the parts stay right.
pub record Finds (table : TableFacts) (pins : List ℕ) (lead first n : ℕ) (can : Bool) (count : ℕ) (old new : List WindowPage) (parts parts_new : List PartCounts) (places places_new : List ℕ) : Type 0 where
  pub found : can ≡ true → Found table pins lead first (length places) old parts places n count new parts_new places_new
  pub room : count ≤ length places
  pub counted : Counted lead old parts → Counted lead new parts_new
  pub none : can ≡ false → count ≡ 0
  pub same : can ≡ false → new ≡ old
  pub same_parts : can ≡ false → parts_new ≡ parts
  pub same_places : can ≡ false → places_new ≡ places

-- what came of the message that released slots
abbrev pub released_as : Bool → Outcome
released_as true = Done
released_as false = Refused

-- The page at a place of a list takes that. There is no answer to it.
abbrev pub ReleasedAt : Bool → ℕ → Deed
ReleasedAt is_done n answer old new part part_new = Told (released_as is_done) old new part part_new
