-- The slots that a host gave for the pages of a window, at each moment of a history.
use Rattle.std.specs.Prelude.{◌≡◌, ℕ, ◌+◌, Bool, true, false, List, Option, Some, option_and_then, slice_get}
use Rattle.page_lender.specs.Decisions.{account}
use Rattle.page_lender.specs.declared.order.Order.TheVariants.{Release}
use Rattle.window_events.specs.Windows.{is_bare}
use Rattle.window_events.specs.declared.page.Page.{Page}
use Rattle.window_pages.specs.Bytes.{belief_of}
use Rattle.window_pages.specs.declared.page.WindowPage.{WindowPage}
use Rattle.lending_laws.specs.Histories.{Given, History, Moment, only_free}

-- the slot of the page at place i, by what is believed of it
abbrev pub slot_of : List WindowPage → ℕ → Option ℕ
slot_of pages i = option_and_then (λ page. account (belief_of page)) (slice_get pages i)

-- Each slot that the host gave and hasn't got back is one page's: none is lost, none is made up, and no two pages have one.
pub record EachSlotIsOnes (pages : List WindowPage) (slots : ℕ → Bool) : Type 0 where
  pub kept : (slot : ℕ) → slots slot ≡ true → (i : ℕ) × (slot_of pages i ≡ Some slot)
  pub given : (i slot : ℕ) → slot_of pages i ≡ Some slot → slots slot ≡ true
  pub apart : (i j slot : ℕ) → slot_of pages i ≡ Some slot → slot_of pages j ≡ Some slot → i ≡ j

-- with a host that gives only slots that it hasn't given
abbrev pub NoSlotIsLost : Type 0
NoSlotIsLost = (first count : ℕ) (m : Moment) → History only_free first count m → EachSlotIsOnes m.pages m.slots

-- When a slot is to be released, no page that has it shows a frame itself.
abbrev pub NoneIsReleasedShown : Type 0
NoneIsReleasedShown =
    (first count : ℕ) (m : Moment) → History only_free first count m → (i j slot : ℕ) (x : WindowPage) (page : Page) → slice_get m.pages i ≡ Some x →
    m.orders i ≡ Given (Release slot) → slot_of m.pages j ≡ Some slot → slice_get m.world.pages (first + j) ≡ Some page → is_bare page.view ≡ false
