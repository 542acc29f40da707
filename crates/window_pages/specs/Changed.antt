-- What calls make of a page, and of the counts of its part.
use Rattle.std.specs.Prelude.{◌≡◌, Bool, true, false, not, ◌&&◌, ◌||◌, if◌then◌else◌}
use Rattle.page_lender.specs.Decisions.{is_busy, shows, waiting}
use Rattle.page_lender.specs.Lender.{discarded_of}
use Rattle.page_lender.specs.declared.bars.Bars.{Bars}
use Rattle.page_lender.specs.declared.belief.Belief.{Belief}
use Rattle.page_lender.specs.declared.belief.Belief.TheVariants.{Private, Turning}
use Rattle.page_lender.specs.declared.belief.Stage.TheVariants.{LettingGo}
use Rattle.page_lender.specs.declared.belief.Target.TheVariants.{Zeros}
use Rattle.page_lender.specs.declared.page.PageLender.{PageLender}
use Rattle.window_pages.specs.Bytes.{known_of, notes_of}
use Rattle.window_pages.specs.Counted.{counts_then}
use Rattle.window_pages.specs.Known.{clued, forgotten, has_slot, kept_by, no_bars, shows_past}
use Rattle.window_pages.specs.declared.counts.PartCounts.{PartCounts}
use Rattle.window_pages.specs.declared.page.KnownPage.{KnownPage}
use Rattle.window_pages.specs.declared.page.PageNotes.{PageNotes}
use Rattle.window_pages.specs.declared.page.WindowPage.{WindowPage}

-- the lender of a page, while these bars keep it from being lent
abbrev pub lender_with : Bars → KnownPage → PageLender
lender_with bars page = record { belief = page.belief; ordered = page.ordered; bars = bars }

-- the same page, of which this is believed
abbrev pub believing : Belief → Bool → KnownPage → KnownPage
believing belief ordered page = record page { belief = belief; ordered = ordered }

-- its notes where they are forgotten, or not; a slot and a frame take the place of the fingerprint
abbrev pub notes_if : Bool → Belief → PageNotes → PageNotes
notes_if forgets belief notes = if forgets then forgotten (kept_by belief notes) else kept_by belief notes

-- What is known of a page, and what looks have found of it, become this, and the counts of its part follow.
pub record Becomes (page : KnownPage) (forgets : Bool) (old new : WindowPage) (part part_new : PartCounts) : Type 0 where
  pub known : known_of new ≡ page
  pub notes : notes_of new ≡ notes_if forgets page.belief (notes_of old)
  pub counts : part_new ≡ counts_then old new part

-- What looks have found counts no more once the page stops showing its frame, or once a slot takes the fingerprint's place.
abbrev pub forgets_at : Belief → Belief → Bool
forgets_at old new = shows old && not (shows new) || has_slot new && not (has_slot old)

-- The page's lender becomes what this says, and what lies at its place stays.
pub record Lends (Does : PageLender → PageLender → Type 0) (bars : Bars) (old new : WindowPage) (part part_new : PartCounts) : Type 0 where
  pub lender : Does (lender_with bars (known_of old)) (lender_with bars (known_of new))
  pub place : known_of new ≡ believing (known_of new).belief (known_of new).ordered (known_of old)
  pub notes : notes_of new ≡ notes_if (forgets_at (known_of old).belief (known_of new).belief) (known_of new).belief (notes_of old)
  pub counts : part_new ≡ counts_then old new part

-- a frame was mapped at its place
abbrev pub covered : KnownPage → KnownPage
covered page = record page { over = true; past = false; same = false; moved = false; begins = false }

-- memory of its own was put at its place
abbrev pub uncovered : Bool → Bool → KnownPage → KnownPage
uncovered moved begins page = record page { over = false; past = false; same = false; moved = moved; begins = begins }

-- its notes then: a clue is no frame's any more
abbrev pub uncovered_notes : KnownPage → PageNotes → PageNotes
uncovered_notes page notes =
    if page.over then clued 0 (notes_if (shows_past page) page.belief notes) else notes_if (shows_past page) page.belief notes

-- it begins what was moved, if it was moved
abbrev pub moved_first : KnownPage → KnownPage
moved_first page = record page { begins = page.begins || page.moved }

-- its memory is known to be its own, or that of zeros
abbrev pub given_back : Bool → KnownPage → KnownPage
given_back is_zeros page = if page.over then page else record page { same = is_zeros }

-- it shows no frame of a lender that is gone
abbrev pub no_past : KnownPage → KnownPage
no_past page = if page.over then record page { same = false } else page

-- what is believed once its content is given up, unless an order is open that touches it
abbrev pub discarded : KnownPage → Belief
discarded page = if is_busy (lender_with no_bars page) then page.belief else discarded_of page.belief

-- its content was given up
abbrev pub given_up : KnownPage → KnownPage
given_up page = record page { belief = discarded page; same = false }

-- it was unmapped
abbrev pub unmapped : KnownPage → KnownPage
unmapped page = record page { belief = discarded page; over = false; past = false; out = true; same = false; moved = false; begins = false }

-- it leaves its window
abbrev pub gone : KnownPage → KnownPage
gone page = record (given_back false page) { out = true }

-- Its lender is gone, and what it believed. Writes to it may wait still where they may have waited.
abbrev pub left_alone : Belief → Belief
left_alone belief = if waiting belief then Turning LettingGo Zeros else Private

abbrev pub detached : KnownPage → KnownPage
detached page = record page {
  belief = left_alone page.belief;
  ordered = false;
  past = page.over;
  same = if page.over then shows page.belief || page.same else page.same;
}
