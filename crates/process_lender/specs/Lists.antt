-- What is done with lists of a window's pages.
use Rattle.std.specs.Prelude.{◌≡◌, ℕ, Bool, false, ◌&&◌, nat_eq, List, [], length}
use Rattle.lend_steps.specs.Asks.{AnsweredAt, AsksAt, takes_if_found, takes_none}
use Rattle.lend_steps.specs.Copies.{CopiedAt, CopiesAt}
use Rattle.lend_steps.specs.Holds.{GivesBackAt, HoldsAt}
use Rattle.lend_steps.specs.Lists.{Each, EachWith}
use Rattle.lend_steps.specs.Loans.{LoanedAt}
use Rattle.lend_steps.specs.Releases.{Finds, ReleasedAt}
use Rattle.window_pages.specs.declared.counts.PartCounts.{PartCounts}
use Rattle.window_pages.specs.declared.page.WindowPage.{WindowPage}
use Rattle.window_tables.specs.Tables.{can_note, has_parts}
use Rattle.process_lender.specs.Windows.{Window, table_facts}
use Rattle.process_lender.specs.declared.choice.Choice.{Choice}
use Rattle.process_lender.specs.declared.choice.Choice.TheVariants.{ToAsk, ToHold, ToGiveBack}
use Rattle.process_lender.specs.declared.facts.ProcessFacts.{ProcessFacts}

-- nothing is done, and the answers stay
pub record NoAnswer (is_done : Bool) (answers answers_new : List ℕ) : Type 0 where
  pub done : is_done ≡ false
  pub same : answers_new ≡ answers

-- each page has a part, and a list of so many numbers has so many answers
abbrev pub fits_answers : Window → List ℕ → List ℕ → Bool
fits_answers w numbers answers = has_parts w.lead w.pages w.counts && nat_eq (length answers) (length numbers)

-- Pages of a list are chosen, where so many mappings are taken.
abbrev pub Chooses : Choice → ProcessFacts → ℕ → List ℕ → Bool → List ℕ → List ℕ → Window → List WindowPage → List PartCounts → Type 0
Chooses (ToAsk config look) facts taken numbers is answers answers_new w pages counts =
    EachWith (AsksAt (table_facts facts w.state) w.pins config look facts.most w.lead w.parts numbers) takes_none w.lead numbers taken (fits_answers w numbers answers) is w.pages pages w.counts counts answers answers_new
Chooses ToHold facts taken numbers is answers answers_new w pages counts =
    Each (HoldsAt (table_facts facts w.state) w.pins w.lead w.parts numbers) w.lead numbers (fits_answers w numbers answers) is w.pages pages w.counts counts answers answers_new
Chooses ToGiveBack facts taken numbers is answers answers_new w pages counts =
    EachWith (GivesBackAt (table_facts facts w.state) w.pins facts.most w.lead w.parts numbers) takes_none w.lead numbers taken (fits_answers w numbers answers) is w.pages pages w.counts counts answers answers_new

-- A host's answers are taken.
abbrev pub Answered : ProcessFacts → ℕ → List ℕ → List ℕ → List ℕ → Bool → List ℕ → List ℕ → Window → List WindowPage → List PartCounts → Type 0
Answered facts taken numbers fingerprints seen is answers answers_new w pages counts =
    EachWith (AnsweredAt facts.most w.lead w.parts numbers fingerprints seen) (takes_if_found w.lead w.parts numbers) w.lead numbers taken
    (has_parts w.lead w.pages w.counts && nat_eq (length fingerprints) (length numbers) && nat_eq (length seen) (length numbers) && nat_eq (length answers) (length numbers))
    is w.pages pages w.counts counts answers answers_new

-- Those are chosen that are to be copied.
abbrev pub ChoosesCopies : ProcessFacts → List ℕ → List ℕ → List ℕ → Bool → List ℕ → List ℕ → Window → List WindowPage → List PartCounts → Type 0
ChoosesCopies facts numbers there fingerprints is answers answers_new w pages counts =
    Each (CopiesAt (table_facts facts w.state) w.pins w.lead w.parts numbers there fingerprints) w.lead numbers
    (has_parts w.lead w.pages w.counts && nat_eq (length there) (length numbers) && nat_eq (length fingerprints) (length numbers) && nat_eq (length answers) (length numbers))
    is w.pages pages w.counts counts answers answers_new

-- It is taken what came of the copies.
abbrev pub CameOfCopies : ProcessFacts → List ℕ → List ℕ → Bool → List ℕ → List ℕ → Window → List WindowPage → List PartCounts → Type 0
CameOfCopies facts numbers outcomes is answers answers_new w pages counts =
    Each (CopiedAt (table_facts facts w.state) w.pins numbers outcomes) w.lead numbers
    (has_parts w.lead w.pages w.counts && nat_eq (length outcomes) (length numbers) && nat_eq (length answers) (length numbers))
    is w.pages pages w.counts counts answers answers_new

-- It is taken what a host said of loans.
abbrev pub CameOfLoans : List ℕ → List ℕ → List ℕ → ℕ → Bool → Bool → List ℕ → List ℕ → Window → List WindowPage → List PartCounts → Type 0
CameOfLoans numbers slots given frames is_heard is answers answers_new w pages counts =
    Each (LoanedAt is_heard slots given frames) w.lead numbers
    (has_parts w.lead w.pages w.counts && nat_eq (length slots) (length numbers) && nat_eq (length given) (length numbers) && nat_eq (length answers) (length numbers))
    is w.pages pages w.counts counts answers answers_new

-- Pages are found whose slots are to be released.
abbrev pub FindsReleases : ProcessFacts → ℕ → ℕ → ℕ → List ℕ → List ℕ → Window → List WindowPage → List PartCounts → Type 0
FindsReleases facts first n count places places_new w pages counts =
    Finds (table_facts facts w.state) w.pins w.lead first n (can_note w.lead first n w.pages w.counts) count w.pages pages w.counts counts places places_new

-- none is found
pub record NoneFound (count : ℕ) (places places_new : List ℕ) : Type 0 where
  pub none : count ≡ 0
  pub same : places_new ≡ places

-- It is taken what came of a release.
abbrev pub CameOfRelease : List ℕ → Bool → Bool → Window → List WindowPage → List PartCounts → Type 0
CameOfRelease numbers is_heard is w pages counts = Each (ReleasedAt is_heard) w.lead numbers (has_parts w.lead w.pages w.counts) is w.pages pages w.counts counts [] []
