use Rattle.std.proofs.Common.{◌≡◌, true}
use Rattle.page_lender.specs.Decisions.{must_own}
use Rattle.page_lender.specs.Events.{IsFree, ShowsNone}
use Rattle.window_pages.specs.Bytes.{belief_of, known_of}
use Rattle.window_pages.specs.Known.{bars_of}
use Rattle.window_tables.specs.Facts.{facts_at}
use Rattle.window_tables.specs.Ranges.{Each, all_at, is_yes}
use Rattle.window_tables.specs.declared.ask.Question.TheVariants as Question
use Rattle.window_tables.proofs.ask.all_yes.Given as goal

abbrev pub invariant-loop-step : goal.invariant-loop-step
invariant-loop-step l = record {
  so_far : all_at (λ i x. is_yes l.question (facts_at l.table l.pins l.why i) x) l.first l.step l.pages ≡ true;
  free : Each (λ i x. IsFree (belief_of x)) l.first l.step l.pages;
  own : l.question ≡ Question.GoesOn → Each (λ i x. must_own (bars_of (facts_at l.table l.pins l.why i) (known_of x)) ≡ true → ShowsNone (belief_of x)) l.first l.step l.pages;
}
