-- What is noted and asked of pages in a row, by numbers, and what is read of them.
use Rattle.std.specs.Prelude.{◌≡◌, ℕ, Bool, true, false, if◌then◌else◌, nat_eq, List, Option, Some, None}
use Rattle.std.specs.Option.{option_map_or}
use Rattle.page_looks.specs.declared.parts.part.Part.{Part}
use Rattle.window_pages.specs.declared.counts.PartCounts.{PartCounts}
use Rattle.window_pages.specs.declared.facts.WindowFacts.{WindowFacts}
use Rattle.window_pages.specs.declared.page.WindowPage.{WindowPage}
use Rattle.window_tables.specs.Runs.{next_run}
use Rattle.window_tables.specs.declared.runs.PageRun.{PageRun}
use Rattle.process_lender.specs.Notices.{TakesNote}
use Rattle.process_lender.specs.Parts.{counts_of, part_of}
use Rattle.process_lender.specs.Questions.{AreFree, FindsStaying, NoneStays, ShowTheirOwn, is_so}
use Rattle.process_lender.specs.Pages.{NoneRead, NotesPage, ReadsPages}
use Rattle.process_lender.specs.Windows.{InPages, InWindow, Lender, SeenIn, window_at}
use Rattle.process_lender.specs.declared.notice.Notice.{Notice}
use Rattle.process_lender.specs.declared.notice.Notice.TheVariants.{Covered, Uncovered, MovedThere, ZerosMapped, Unmapped, Detached, OneMemory, GivenUp, Left, MovedHome, CopiedHome, RefusedHome, CalledHome}
use Rattle.process_lender.specs.declared.page_notice.PageNotice.{PageNotice}
use Rattle.process_lender.specs.declared.page_notice.PageNotice.TheVariants as page_notice
use Rattle.process_lender.specs.declared.question.Question.{Question}
use Rattle.process_lender.specs.declared.question.Question.TheVariants as question
use Rattle.pageshare_window_c.specs.declared.process.notice.ProcessNotice.{ProcessNotice}
use Rattle.pageshare_window_c.specs.declared.process.question.ProcessQuestion.{ProcessQuestion}
use Rattle.pageshare_window_c.specs.declared.process.pages.PartRead.{PartRead}

-- the notice of a number up to 7
abbrev pub notice_of_places : ProcessNotice → Option Notice
notice_of_places n =
    if nat_eq n.kind 1 then Some (Covered n.frame)
    else (if nat_eq n.kind 2 then Some Uncovered
    else (if nat_eq n.kind 3 then Some MovedThere
    else (if nat_eq n.kind 4 then Some (ZerosMapped n.flag)
    else (if nat_eq n.kind 5 then Some Unmapped
    else (if nat_eq n.kind 6 then Some Detached else (if nat_eq n.kind 7 then Some OneMemory else None))))))

-- the notice of a number, if it has one
abbrev pub notice_by : ProcessNotice → Option Notice
notice_by n =
    if nat_eq n.kind 8 then Some GivenUp
    else (if nat_eq n.kind 9 then Some Left
    else (if nat_eq n.kind 10 then Some MovedHome
    else (if nat_eq n.kind 11 then Some CopiedHome
    else (if nat_eq n.kind 12 then Some RefusedHome else (if nat_eq n.kind 13 then Some (CalledHome n.why) else notice_of_places n)))))

-- the question of a number, if it has one
abbrev pub question_by : ProcessQuestion → Option Question
question_by q =
    if nat_eq q.kind 1 then Some (question.GoOn q.why)
    else (if nat_eq q.kind 2 then Some question.GiveUp
    else (if nat_eq q.kind 3 then Some question.Exchange
    else (if nat_eq q.kind 4 then Some question.TakeZeros
    else (if nat_eq q.kind 5 then Some (question.WantZeros q.flag) else (if nat_eq q.kind 6 then Some question.LieOver else None)))))

-- This is noted of so many pages of a window from one on. Where it is no notice, nothing is.
abbrev pub NotesAs : Option Notice → ℕ → ℕ → ℕ → Bool → Lender → Lender → Type 0
NotesAs None window first count is old new = (is ≡ false) × (new ≡ old)
NotesAs (Some notice) window first count is old new = InWindow (TakesNote notice old.facts first count is) (is ≡ false) window old new

-- The answer to a question about so many pages, and what it is worth.
pub record IsAnswered (asked : Question) (window first count : ℕ) (is : Bool) (lender : Lender) : Type 0 where
  pub value : is ≡ option_map_or (is_so asked lender.facts lender.mappings first count) (window_at window lender.windows) false
  pub free : SeenIn (λ w. is ≡ true → AreFree asked first count w) (is ≡ false) window lender
  pub own : SeenIn (λ w. is ≡ true → ShowTheirOwn asked lender.facts first count w) (is ≡ false) window lender

-- The same; where nothing is asked, it is false.
abbrev pub AnswersAs : Option Question → ℕ → ℕ → ℕ → Bool → Lender → Type 0
AnswersAs None window first count is lender = is ≡ false
AnswersAs (Some asked) window first count is lender = IsAnswered asked window first count is lender

-- It is found which pages of a window have to stay where they are.
abbrev pub FindsStayingIn : WindowFacts → ℕ → ℕ → Bool → List Bool → List Bool → Lender → Type 0
FindsStayingIn why window first is copies copies_new lender = SeenIn (FindsStaying lender.facts why first is copies copies_new) (NoneStays is copies copies_new) window lender

-- the next run of pages of a window
abbrev pub run_in : ℕ → ℕ → ℕ → ℕ → Lender → Option PageRun
run_in kinds window first end lender = option_map_or (λ w. next_run kinds first end w.pages) (window_at window lender.windows) None

-- a part and its counts, if both are there
abbrev pub both : Option Part → Option PartCounts → Option PartRead
both None counts = None
both (Some part) None = None
both (Some part) (Some counts) = Some (record { part = part; counts = counts })

-- what is read of the part of a page of a window
abbrev pub part_read : ℕ → ℕ → Lender → Option PartRead
part_read window first lender =
    both (option_map_or (part_of first) (window_at window lender.windows) None) (option_map_or (counts_of first) (window_at window lender.windows) None)

-- what is noted of a page, by its number, if it has one
abbrev pub page_notice_by : ℕ → Bool → Option PageNotice
page_notice_by kind flag =
    if nat_eq kind 1 then Some page_notice.AskedAtOnce
    else (if nat_eq kind 2 then Some (page_notice.Held flag) else (if nat_eq kind 3 then Some (page_notice.GivenBack flag) else None))

-- This is noted of a page of a window. Where it is no notice, nothing is.
abbrev pub NotesPageAs : Option PageNotice → ℕ → ℕ → Bool → Lender → Lender → Type 0
NotesPageAs None window page is old new = (is ≡ false) × (new ≡ old)
NotesPageAs (Some notice) window page is old new = InPages (NotesPage notice page is) (is ≡ false) window old new

-- Pages of a window in a row are read.
abbrev pub ReadsPagesIn : ℕ → ℕ → Bool → List WindowPage → List WindowPage → Lender → Type 0
ReadsPagesIn window first is pages pages_new lender = SeenIn (λ w. ReadsPages first is pages pages_new w.pages) (NoneRead is pages pages_new) window lender
