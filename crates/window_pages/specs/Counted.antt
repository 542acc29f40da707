-- Counts of the pages of a part.
use Rattle.std.specs.Prelude.{ℕ, ◌+◌, ◌-◌, min, Bool, not, ◌&&◌}
use Rattle.page_lender.specs.Decisions.{shows}
use Rattle.window_pages.specs.Bytes.{digit, known_of, notes_of}
use Rattle.window_pages.specs.Known.{has_slot, is_given_back, shows_past}
use Rattle.window_pages.specs.declared.counts.PartCounts.{PartCounts}
use Rattle.window_pages.specs.declared.page.KnownPage.{KnownPage}
use Rattle.window_pages.specs.declared.page.WindowPage.{WindowPage}

-- its slot is to be released
abbrev pub is_to_release : KnownPage → Bool
is_to_release page = has_slot page.belief && not (shows page.belief)

-- a count once one of its pages has changed
abbrev pub count_then : ℕ → Bool → Bool → ℕ
count_then count before after = min 65535 (count - digit before + digit after)

abbrev pub counts_then : WindowPage → WindowPage → PartCounts → PartCounts
counts_then old new part = record {
  releases = count_then part.releases (is_to_release (known_of old)) (is_to_release (known_of new));
  lent = count_then part.lent (shows (known_of old).belief) (shows (known_of new).belief);
  zeros = count_then part.zeros (is_given_back (known_of old)) (is_given_back (known_of new));
  past = count_then part.past (shows_past (known_of old)) (shows_past (known_of new));
  shareable = count_then part.shareable (notes_of old).seen (notes_of new).seen;
}
