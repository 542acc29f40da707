-- None of these pages that must have memory of its own shows a frame.
use Rattle.std.proofs.Common.{◌≡◌, ℕ, true, List, sym, subst}
use Rattle.page_lender.specs.Decisions.{must_own}
use Rattle.page_lender.specs.Events.{ShowsNone}
use Rattle.window_pages.specs.Bytes.{belief_of, known_of}
use Rattle.window_pages.specs.Known.{bars_of}
use Rattle.window_pages.specs.declared.facts.WindowFacts.{WindowFacts}
use Rattle.window_pages.specs.declared.page.WindowPage.{WindowPage}
use Rattle.window_tables.specs.Facts.{facts_at}
use Rattle.window_tables.specs.Ranges.{Each}
use Rattle.window_tables.specs.declared.facts.TableFacts.{TableFacts}
use Rattle.process_lender.specs.Questions.{ShowTheirOwn}
use Rattle.process_lender.specs.Windows.{Window, table_facts}
use Rattle.process_lender.specs.declared.facts.ProcessFacts.{ProcessFacts}
use Rattle.process_lender.specs.declared.question.Question.{Question}
use Rattle.process_lender.specs.declared.question.Question.TheVariants.{GoOn}

-- by facts and pins at hand
abbrev pub OwnBy : TableFacts → List ℕ → WindowFacts → ℕ → ℕ → List WindowPage → Type 0
OwnBy table pins why first count pages = Each (λ i x. must_own (bars_of (facts_at table pins why i) (known_of x)) ≡ true → ShowsNone (belief_of x)) first count pages

pub own_is : (question : Question) (why : WindowFacts) (facts : ProcessFacts) (table : TableFacts) (first count : ℕ) (w : Window) (pages : List WindowPage) (pins : List ℕ) → question ≡ GoOn why → table ≡ table_facts facts w.state →
    pages ≡ w.pages → pins ≡ w.pins → OwnBy table pins why first count pages → ShowTheirOwn question facts first count w
own_is question why facts table first count w pages pins is t p n own =
    let by_facts : OwnBy (table_facts facts w.state) pins why first count pages = subst (λ v. OwnBy v pins why first count pages) t own in
    let by_pins : OwnBy (table_facts facts w.state) w.pins why first count pages = subst (λ v. OwnBy (table_facts facts w.state) v why first count pages) n by_facts in
    let by_pages : OwnBy (table_facts facts w.state) w.pins why first count w.pages = subst (λ v. OwnBy (table_facts facts w.state) w.pins why first count v) p by_pins in
    subst (λ q. ShowTheirOwn q facts first count w) (sym is) by_pages
