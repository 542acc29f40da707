-- What counts and facts of pages are worth.
use Rattle.std.specs.Prelude.{◌≡◌, ℕ, ◌≤◌, true, false, ◌||◌, List, ◌∷◌, ◌++◌, length, replicate}
use Rattle.std.specs.List.{count_by}
use Rattle.page_lender.specs.Decisions.{leads, moves, shows}
use Rattle.page_lender.specs.declared.order.Order.{Order}
use Rattle.page_lender.specs.declared.page.PageLender.{PageLender}
use Rattle.page_lender.specs.Calls.{IsOrdered}
use Rattle.window_pages.specs.Bytes.{known_of, notes_of}
use Rattle.window_pages.specs.Counted.{counts_then, is_to_release}
use Rattle.window_pages.specs.Known.{is_given_back, lender_of, may_be_copy, shows_past, stays}
use Rattle.window_pages.specs.declared.counts.PartCounts.{PartCounts}
use Rattle.window_pages.specs.declared.facts.WindowFacts.{WindowFacts}
use Rattle.window_pages.specs.declared.page.KnownPage.{KnownPage}
use Rattle.window_pages.specs.declared.page.WindowPage.{WindowPage}

-- what each count is of
abbrev pub releases_in : List WindowPage → ℕ
releases_in pages = count_by (λ p. is_to_release (known_of p)) pages

abbrev pub lent_in : List WindowPage → ℕ
lent_in pages = count_by (λ p. shows (known_of p).belief) pages

abbrev pub zeros_in : List WindowPage → ℕ
zeros_in pages = count_by (λ p. is_given_back (known_of p)) pages

abbrev pub past_in : List WindowPage → ℕ
past_in pages = count_by (λ p. shows_past (known_of p)) pages

abbrev pub shareable_in : List WindowPage → ℕ
shareable_in pages = count_by (λ p. (notes_of p).seen) pages

-- The counts are right of these pages.
pub record Counts (part : PartCounts) (pages : List WindowPage) : Type 0 where
  pub releases : part.releases ≡ releases_in pages
  pub lent : part.lent ≡ lent_in pages
  pub zeros : part.zeros ≡ zeros_in pages
  pub past : part.past ≡ past_in pages
  pub shareable : part.shareable ≡ shareable_in pages

abbrev pub no_counts : PartCounts
no_counts = record { releases = 0; lent = 0; zeros = 0; past = 0; shareable = 0 }

-- a page whose bytes are zeros
abbrev pub new_page : WindowPage
new_page = record { slot = 0; frame = 0; clue = 0; belief = 0; looks = 0 }

abbrev pub BeginsCounted : Type 0
BeginsCounted = (n : ℕ) → Counts no_counts (replicate n new_page)

-- one page becomes another
abbrev pub EachIsCounted : Type 0
EachIsCounted =
    (xs ys : List WindowPage) (old new : WindowPage) (part : PartCounts) → length (xs ++ old ∷ ys) ≤ 65535 → Counts part (xs ++ old ∷ ys) →
    Counts (counts_then old new part) (xs ++ new ∷ ys)

abbrev pub NoneIsLost : Type 0
NoneIsLost =
    (xs ys : List WindowPage) (page : WindowPage) (part : PartCounts) → Counts part (xs ++ page ∷ ys) → part.releases ≡ 0 → is_to_release (known_of page) ≡ false

-- The order leads to showing no frame, and gives the page no other memory.
pub record Spares (order : Order) : Type 0 where
  pub shows_none : leads order ≡ false
  pub stays : moves order ≡ false

abbrev pub CopiesArePinned : Type 0
CopiesArePinned =
    (facts : WindowFacts) (page : KnownPage) (order : Order) (after : PageLender) → facts.may_pin ≡ true → may_be_copy page ≡ true →
    IsOrdered order (lender_of facts page) after → Spares order

abbrev pub CopiesStay : Type 0
CopiesStay = (facts : WindowFacts) (page : KnownPage) → facts.may_pin || facts.pinned ≡ true → stays facts true page ≡ true

abbrev pub GoneIsBarred : Type 0
GoneIsBarred =
    (facts : WindowFacts) (page : KnownPage) (order : Order) (after : PageLender) → page.out ≡ true → IsOrdered order (lender_of facts page) after → leads order ≡ false
