-- What is asked of pages in a row.
use Rattle.std.specs.Prelude.{◌≡◌, ℕ, Bool, true, false, ◌&&◌, List, length}
use Rattle.look_tasks.specs.Rooms.{fits}
use Rattle.page_lender.specs.Decisions.{must_own}
use Rattle.page_lender.specs.Events.{IsFree, ShowsNone}
use Rattle.window_pages.specs.Bytes.{belief_of, known_of}
use Rattle.window_pages.specs.Known.{bars_of}
use Rattle.window_pages.specs.declared.facts.WindowFacts.{WindowFacts}
use Rattle.window_tables.specs.Facts.{facts_at, only_called}
use Rattle.window_tables.specs.Homes.{Answers, stays_at}
use Rattle.window_tables.specs.Ranges.{Each, all_at, goes_on, has_pages, moves}
use Rattle.window_tables.specs.Rooms.{lies_over, wants_zeros, zeros_more}
use Rattle.process_lender.specs.Windows.{Window, table_facts}
use Rattle.process_lender.specs.declared.facts.ProcessFacts.{ProcessFacts}
use Rattle.process_lender.specs.declared.question.Question.{Question}
use Rattle.process_lender.specs.declared.question.Question.TheVariants.{GoOn, GiveUp, Exchange, TakeZeros, WantZeros, LieOver}

-- what is so of the page at a place of a window, and this besides
abbrev pub facts_of : ProcessFacts → Window → WindowFacts → ℕ → WindowFacts
facts_of facts w why place = facts_at (table_facts facts w.state) w.pins why place

-- the pages are there, and there are mappings for zeros in their place
abbrev pub has_room : ProcessFacts → ℕ → ℕ → ℕ → Window → Bool
has_room facts mappings first count w = has_pages first count w.pages && fits facts.most mappings (zeros_more w.lead w.parts w.pages first count)

-- the answer, where there are so many mappings
abbrev pub is_so : Question → ProcessFacts → ℕ → ℕ → ℕ → Window → Bool
is_so (GoOn why) facts mappings first count w = has_pages first count w.pages && all_at (λ i x. goes_on (facts_of facts w why i) x) first count w.pages
is_so GiveUp facts mappings first count w = has_pages first count w.pages && all_at (λ i x. goes_on (only_called true) x) first count w.pages
is_so Exchange facts mappings first count w = has_pages first count w.pages && all_at (λ i x. moves (facts_of facts w (only_called false) i) x) first count w.pages
is_so TakeZeros facts mappings first count w = has_room facts mappings first count w
is_so (WantZeros is_watched) facts mappings first count w = wants_zeros w.lead w.parts w.pages first count is_watched && has_room facts mappings first count w
is_so LieOver facts mappings first count w = lies_over w.pages first

-- where a call may go on, or memory may be exchanged, no write to any of these pages waits
abbrev pub AreFree : Question → ℕ → ℕ → Window → Type 0
AreFree (GoOn why) first count w = Each (λ i x. IsFree (belief_of x)) first count w.pages
AreFree GiveUp first count w = Each (λ i x. IsFree (belief_of x)) first count w.pages
AreFree Exchange first count w = Each (λ i x. IsFree (belief_of x)) first count w.pages
AreFree TakeZeros first count w = Unit {0}
AreFree (WantZeros is_watched) first count w = Unit {0}
AreFree LieOver first count w = Unit {0}

-- where a call may go on, none that must have memory of its own shows a frame
abbrev pub ShowTheirOwn : Question → ProcessFacts → ℕ → ℕ → Window → Type 0
ShowTheirOwn (GoOn why) facts first count w = Each (λ i x. must_own (bars_of (facts_of facts w why i) (known_of x)) ≡ true → ShowsNone (belief_of x)) first count w.pages
ShowTheirOwn GiveUp facts first count w = Unit {0}
ShowTheirOwn Exchange facts first count w = Unit {0}
ShowTheirOwn TakeZeros facts first count w = Unit {0}
ShowTheirOwn (WantZeros is_watched) facts first count w = Unit {0}
ShowTheirOwn LieOver facts first count w = Unit {0}

-- Of each page over a frame it is found whether it has to stay where it is, exactly if these pages are there. Else nothing is found.
pub record FindsStaying (facts : ProcessFacts) (why : WindowFacts) (first : ℕ) (is_found : Bool) (copies copies_new : List Bool) (w : Window) : Type 0 where
  pub there : is_found ≡ has_pages first (length copies) w.pages
  pub found : is_found ≡ true → Answers (stays_at (table_facts facts w.state) w.pins why first) first (length copies) w.pages copies copies_new
  pub same : is_found ≡ false → copies_new ≡ copies

-- nothing is found
pub record NoneStays (is_found : Bool) (copies copies_new : List Bool) : Type 0 where
  pub none : is_found ≡ false
  pub all_same : copies_new ≡ copies
