-- Parts of a window, and pages of it that were pinned.
use Rattle.std.specs.Prelude.{◌≡◌, ℕ, Bool, true, false, if◌then◌else◌, length, nat_eq, List, Option, Some, None, option_map, replicate, slice_get, slice_set}
use Rattle.page_looks.specs.Parts.{order_of, part_then}
use Rattle.page_looks.specs.Rests.{found_then, woken}
use Rattle.page_looks.specs.declared.parts.part.Part.{Part}
use Rattle.page_looks.specs.declared.parts.part.PartConfig.{PartConfig}
use Rattle.page_looks.specs.declared.parts.part.PartLook.{PartLook}
use Rattle.page_looks.specs.declared.parts.part.PartOrder.{PartOrder}
use Rattle.window_pages.specs.declared.counts.PartCounts.{PartCounts}
use Rattle.window_pages.specs.declared.page.WindowPage.{WindowPage}
use Rattle.window_tables.specs.Mappings.{IsSet, is_part, kept_then, mappings_at}
use Rattle.window_tables.specs.Pins.{can_pin, can_unpin, pinned, unpinned}
use Rattle.window_tables.specs.Tables.{part_at}
use Rattle.process_lender.specs.Windows.{Window}
use Rattle.process_lender.specs.declared.part_notice.PartNotice.{PartNotice}
use Rattle.process_lender.specs.declared.part_notice.PartNotice.TheVariants.{Settled, Rests, Woken, Huge, Forgotten}

-- the part of a page of a window, if the window has it
abbrev pub part_of : ℕ → Window → Option Part
part_of first w = slice_get w.parts (part_at w.lead first)

-- the counts of that part's pages
abbrev pub counts_of : ℕ → Window → Option PartCounts
counts_of first w = slice_get w.counts (part_at w.lead first)

-- what is to be done with it
abbrev pub order_at : PartConfig → PartLook → ℕ → Window → Option PartOrder
order_at config look first w = option_map (λ part. order_of config part look) (part_of first w)

-- a part once this is noted of it
abbrev pub noted : PartNotice → Part → Part
noted (Settled config look) part = part_then config part look (order_of config part look)
noted (Rests config changes own) part = found_then config part changes own
noted Woken part = woken part
noted (Huge is_huge) part = record part { is_huge = is_huge }
noted Forgotten part = record { whole = part.whole; pause = 0; alone = 0; rest = 0; left = 0; is_still = false; is_huge = part.is_huge; own = 0 }

abbrev pub with_part : ℕ → Option Part → PartNotice → Window → Window
with_part first None notice w = w
with_part first (Some part) notice w = record w { parts = slice_set w.parts (part_at w.lead first) (noted notice part) }

-- a window once this is noted of the part of a page, if it has that part
abbrev pub part_noted : ℕ → PartNotice → Window → Window
part_noted first notice w = with_part first (part_of first w) notice w

-- the pages can be pinned once more, or once less
abbrev pub can_change_pins : Bool → ℕ → ℕ → List ℕ → Bool
can_change_pins true first count pins = can_pin first count pins
can_change_pins false first count pins = can_unpin first count pins

abbrev pub pins_then : Bool → ℕ → ℕ → List ℕ → List ℕ
pins_then true first count pins = if can_pin first count pins then pinned first count pins else pins
pins_then false first count pins = if can_unpin first count pins then unpinned first count pins else pins

-- how often each page of a window was pinned
abbrev pub pins_of : Window → List ℕ
pins_of w = if nat_eq (length w.pins) 0 then replicate (length w.pages) 0 else w.pins

-- a window of which pages were pinned once more, or once less, if they can be
abbrev pub with_pins : Bool → ℕ → ℕ → Window → Window
with_pins is_pinned first count w = record w { pins = if can_change_pins is_pinned first count (pins_of w) then pins_then is_pinned first count (pins_of w) else w.pins }

-- how many mappings there are once those of a part are others
abbrev pub kept_of : ℕ → ℕ → ℕ → List Part → List Part → List WindowPage → ℕ → ℕ
kept_of count lead first parts parts_new pages mappings = kept_then mappings (mappings_at lead parts pages first count) (mappings_at lead parts_new pages first count)

-- The part of a page is whole from now on, or split, exactly if its pages are all there and this is the first of them: it has so many. Else nothing
-- changes. What begins at them is other mappings then.
pub record SetsPart (first : ℕ) (is_whole is_set : Bool) (lead mappings mappings_new : ℕ) (pages : List WindowPage) (parts parts_new : List Part) : Type 0 where
  pub count : ℕ
  pub many : count ≡ 512
  pub set : is_set ≡ is_part lead first pages parts
  pub whole : is_set ≡ true → IsSet is_whole lead first parts parts_new
  pub kept : is_set ≡ true → mappings_new ≡ kept_of count lead first parts parts_new pages mappings
  pub same : is_set ≡ false → parts_new ≡ parts
  pub same_mappings : is_set ≡ false → mappings_new ≡ mappings

-- The same of a window. Once it has ended it has no mappings that count.
pub record SetsWhole (first : ℕ) (is_whole is_set : Bool) (mappings mappings_new : ℕ) (old new : Window) : Type 0 where
  pub kept : ℕ
  pub part : SetsPart first is_whole is_set old.lead mappings kept old.pages old.parts new.parts
  pub counts : mappings_new ≡ (if old.has_ended then mappings else kept)
  pub rest : new ≡ record old { parts = new.parts }
