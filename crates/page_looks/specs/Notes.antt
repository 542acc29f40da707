-- What looks have found of a page, in its 12 bytes.
use Rattle.std.specs.Prelude.{◌≡◌, ℕ, Bool, ◌&&◌, nat_lt, if◌then◌else◌}
use Rattle.page_looks.specs.Idle.{read}
use Rattle.page_looks.specs.declared.idle.look.PageLooks.{PageLooks}
use Rattle.window_pages.specs.Bytes.{belief_of, known_of, notes_of}
use Rattle.window_pages.specs.Counted.{counts_then}
use Rattle.window_pages.specs.Known.{stored}
use Rattle.window_pages.specs.declared.counts.PartCounts.{PartCounts}
use Rattle.window_pages.specs.declared.page.PageNotes.{PageNotes}
use Rattle.window_pages.specs.declared.page.WindowPage.{WindowPage}

-- what looks have found of a page
abbrev pub looks_of : WindowPage → PageLooks
looks_of page = record {
  fingerprint = (notes_of page).fingerprint;
  clue = (notes_of page).clue;
  looks = (notes_of page).looks;
  asks = (notes_of page).asks;
}

abbrev pub notes_with : PageLooks → Bool → PageNotes
notes_with looks seen = record { fingerprint = looks.fingerprint; clue = looks.clue; looks = looks.looks; asks = looks.asks; seen = seen }

-- This is noted of the page, as far as it has a place, and the counts of its part follow.
pub record Notes (looks : PageLooks) (seen : Bool) (old new : WindowPage) (before after : PartCounts) : Type 0 where
  pub known : known_of new ≡ known_of old
  pub notes : notes_of new ≡ stored (belief_of old) (notes_of old).fingerprint (notes_with looks seen)
  pub counts : after ≡ counts_then old new before

-- a page that was seen elsewhere counts so still, once it was read with the same fingerprint: then more is alike than a first read makes
abbrev pub seen_if_alike : Bool → ℕ → Bool → Bool
seen_if_alike over looks seen = seen && nat_lt (if over then 1 else 2) looks

-- A read is noted of the page.
abbrev pub NotesRead : ℕ → ℕ → WindowPage → WindowPage → PartCounts → PartCounts → Type 0
NotesRead fingerprint glance old new before after =
    Notes (read (looks_of old) (known_of old).over fingerprint glance)
    (seen_if_alike (known_of old).over (read (looks_of old) (known_of old).over fingerprint glance).looks (notes_of old).seen) old new before after
