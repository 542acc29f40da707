-- What the bytes of a page mean.
use Rattle.std.specs.Prelude.{ℕ, ◌+◌, ◌*◌, ◌/◌, ◌%◌, ◌^◌, ◌==◌, Bool, true, false}
use Rattle.page_lender.specs.declared.belief.Belief.{Belief}
use Rattle.page_lender.specs.Packing.{belief_in, number_of}
use Rattle.window_pages.specs.declared.page.KnownPage.{KnownPage}
use Rattle.window_pages.specs.declared.page.PageNotes.{PageNotes}
use Rattle.window_pages.specs.declared.page.WindowPage.{WindowPage}

-- what is believed of a page
abbrev pub belief_of : WindowPage → Belief
belief_of page = belief_in (page.belief % 32) page.slot page.frame

abbrev pub digit : Bool → ℕ
digit true = 1
digit false = 0

-- one of the facts of a byte
abbrev pub bit : ℕ → ℕ → Bool
bit facts weight = facts / weight % 2 == 1

-- what is known of it
abbrev pub known_of : WindowPage → KnownPage
known_of page = record {
  belief = belief_of page;
  ordered = bit page.looks 1;
  over = bit page.belief 32;
  past = bit page.belief 64;
  out = bit page.belief 128;
  same = bit page.looks 2;
  moved = bit page.looks 4;
  begins = bit page.looks 8;
}

-- what looks have found of it
abbrev pub notes_of : WindowPage → PageNotes
notes_of page = record {
  fingerprint = page.slot + page.frame * 2 ^ 32;
  clue = page.clue % 32768;
  looks = page.looks / 16 % 4;
  asks = page.looks / 64;
  seen = bit page.clue 32768;
}

-- four facts as a number below 16
abbrev pub nibble : Bool → Bool → Bool → Bool → ℕ
nibble a b c d = digit a + 2 * digit b + 4 * digit c + 8 * digit d

-- what is believed, and what lies at the place, as a byte
abbrev pub belief_byte : KnownPage → ℕ
belief_byte page = number_of page.belief + 32 * digit page.over + 64 * digit page.past + 128 * digit page.out

-- the rest of what is known, below so many looks and questions
abbrev pub looks_byte : ℕ → KnownPage → ℕ
looks_byte looks page = looks / 16 * 16 + nibble page.ordered page.same page.moved page.begins
