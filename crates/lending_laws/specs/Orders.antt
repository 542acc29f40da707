-- Orders name only pages of their window that nothing bars, and take no more mappings than windows may have.
use Rattle.std.specs.Prelude.{◌≡◌, ℕ, ◌+◌, ◌<◌, ◌≤◌, ◌%◌, Bool, true, false, ◌&&◌, nat_eq, nat_lt, List, length, Some, slice_get}
use Rattle.lend_steps.specs.Asks.{AnsweredAt, ToAsk, takes_if_found}
use Rattle.lend_steps.specs.Copies.{CameOfCopy, ToCopy}
use Rattle.lend_steps.specs.Holds.{ToGiveBack, ToHold}
use Rattle.lend_steps.specs.Lists.{AllInTurnWith}
use Rattle.lend_steps.specs.declared.copies.CopyOutcome.{CopyOutcome}
use Rattle.page_holds.specs.Orders.{OrdersNext, facts_there}
use Rattle.page_holds.specs.declared.place.HoldStep.{HoldStep}
use Rattle.page_holds.specs.declared.place.HoldStep.TheVariants.{Over, Compare, CompareZeros, Map, GiveBack, PutBack, EndWatch}
use Rattle.page_holds.specs.declared.rows.run.RowOrder.{RowOrder}
use Rattle.page_looks.specs.declared.parts.part.Part.{Part}
use Rattle.window_pages.specs.Bytes.{known_of}
use Rattle.window_pages.specs.Changed.{believing}
use Rattle.window_pages.specs.Known.{may_be_copy}
use Rattle.window_pages.specs.declared.counts.PartCounts.{PartCounts}
use Rattle.window_pages.specs.declared.facts.WindowFacts.{WindowFacts}
use Rattle.window_pages.specs.declared.page.WindowPage.{WindowPage}
use Rattle.window_tables.specs.Tables.{can_note}
use Rattle.window_tables.specs.declared.facts.TableFacts.{TableFacts}

-- The page is in its window and stays there, and nothing keeps it from being lent: no call of the monitor, no transfer of the page, no device that may
-- have a copy over a frame, no child of a fork, no lock, and no end of lending.
pub record MayBeLent (facts : WindowFacts) (page : WindowPage) : Type 0 where
  pub is_in : (known_of page).out ≡ false
  pub stays : facts.leaves ≡ false
  pub no_call : facts.called ≡ false
  pub no_transfer : facts.pinned ≡ false
  pub no_device : (facts.may_pin && may_be_copy (known_of page)) ≡ false
  pub no_child : facts.inherited ≡ false
  pub no_lock : facts.locked ≡ false
  pub goes_on : facts.ended ≡ false

-- The same of a page of which something else may be believed by now.
pub record MightBeLent (facts : WindowFacts) (page : WindowPage) : Type 0 where
  pub before : WindowPage
  pub same : known_of page ≡ believing (known_of page).belief (known_of page).ordered (known_of before)
  pub may : MayBeLent facts before

-- A host is asked only about such a page, and only if there is room for its mappings.
abbrev pub EachQuestionMay : Type 0
EachQuestionMay =
    (facts : WindowFacts) (has_room is_passing : Bool) (answer : ℕ) (old new : WindowPage) (part part_new : PartCounts) →
    ToAsk facts has_room is_passing answer old new part part_new → nat_eq (answer % 2) 1 ≡ true → MayBeLent facts old × (has_room ≡ true)

-- Only such a page is copied, if it is there, and its part is split.
abbrev pub EachCopyMay : Type 0
EachCopyMay =
    (facts : WindowFacts) (is_ready : Bool) (fingerprint answer : ℕ) (old new : WindowPage) (part part_new : PartCounts) →
    ToCopy facts is_ready fingerprint answer old new part part_new → nat_lt 0 answer ≡ true → MayBeLent facts old × (is_ready ≡ true)

-- A loan is asked for only of such a page.
abbrev pub EachLoanMay : Type 0
EachLoanMay =
    (facts : WindowFacts) (answer : ℕ) (old new : WindowPage) (part part_new : PartCounts) (came : CopyOutcome) →
    CameOfCopy facts answer old new part part_new came → answer ≡ 1 → MightBeLent facts new

-- Only such a page is held to show its frame, if its part is split.
abbrev pub EachHoldMay : Type 0
EachHoldMay =
    (facts : WindowFacts) (is_split : Bool) (answer : ℕ) (old new : WindowPage) (part part_new : PartCounts) →
    ToHold facts is_split answer old new part part_new → answer ≡ 1 → MayBeLent facts old × (is_split ≡ true)

-- Only such a page is held to be given back, if its part is split, and if there is room for the mappings of zeros in its place.
abbrev pub EachReturnMay : Type 0
EachReturnMay =
    (facts : WindowFacts) (is_split has_room : Bool) (answer : ℕ) (old new : WindowPage) (part part_new : PartCounts) →
    ToGiveBack facts is_split has_room answer old new part part_new → answer ≡ 1 → MayBeLent facts old × (is_split ≡ true) × (has_room ≡ true)

-- a step that maps something in a page's place
abbrev pub maps : HoldStep → Bool
maps Over = false
maps Compare = false
maps CompareZeros = false
maps Map = true
maps GiveBack = true
maps PutBack = false
maps EndWatch = false

-- In a row, a frame or zeros are mapped only in place of such a page, by an order that is given then.
abbrev pub EachMapMay : Type 0
EachMapMay =
    (table : TableFacts) (pins : List ℕ) (lead first n : ℕ) (row : List ℕ) (order : RowOrder) (old new : List WindowPage) (parts parts_new : List PartCounts) (page : WindowPage) →
    OrdersNext table pins lead first row order old new parts parts_new → can_note lead first (length row) old parts ≡ true → maps order.step ≡ true →
    n < order.count → slice_get old (first + (order.first + n)) ≡ Some page → (known_of page).ordered ≡ false → MayBeLent (facts_there table pins (first + (order.first + n))) page

-- The pages of a list that others have take together no more mappings than windows may have, or none where windows have as many.
abbrev pub EachListHasRoom : Type 0
EachListHasRoom =
    (most lead taken bound : ℕ) (wholes : List Part) (numbers fingerprints seen answers answers_new : List ℕ) (old new : List WindowPage) (parts parts_new : List PartCounts) →
    (all : AllInTurnWith (AnsweredAt most lead wholes numbers fingerprints seen) (takes_if_found lead wholes numbers) lead numbers taken old new parts parts_new answers answers_new) →
    most ≤ bound → taken ≤ bound → all.has ≤ bound
