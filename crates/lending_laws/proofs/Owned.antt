-- Each call of a value that owns all windows of a process is a call for the pages of one window.
use Rattle.std.proofs.Common.{◌≡◌, ℕ, ◌+◌, Bool, true, false, not, ◌||◌, List, [], length, refl, ap, sym, subst}
use Rattle.std.specs.Prelude.{nat_lt, slice_index_or}
use Rattle.lend_steps.specs.Asks.{AnsweredAt, AsksAt, has_room, is_passing, takes_if_found, takes_none}
use Rattle.lend_steps.specs.Copies.{CopiedAt, CopiesAt, copied_by, facts_in, is_ready}
use Rattle.lend_steps.specs.Holds.{GivesBackAt, HoldsAt, has_room_for_zeros}
use Rattle.lend_steps.specs.Lists.{AllInTurnWith, InTurn, InTurnWith}
use Rattle.lend_steps.specs.Loans.{LoanedAt, reply_of}
use Rattle.lend_steps.specs.Releases.{Found, ReleasedAt, released_as}
use Rattle.page_holds.specs.Orders.{OrdersNext}
use Rattle.page_holds.specs.Rows.{RowBegins, RowCameOut, taking_at}
use Rattle.page_holds.specs.Steps.{asks_for}
use Rattle.page_holds.specs.declared.rows.run.RowOrder.{RowOrder}
use Rattle.page_lender.specs.declared.order.Outcome.TheVariants.{Refused}
use Rattle.page_looks.specs.declared.finds.step.FindOutcome.{FindOutcome}
use Rattle.part_scans.specs.Scans.{BeginsAt, FollowsAt, GoesOnAt, RowGoes, has_past}
use Rattle.process_lender.specs.Lists.{Answered, CameOfCopies, CameOfLoans, CameOfRelease, Chooses, ChoosesCopies, FindsReleases, NoAnswer, NoneFound}
use Rattle.process_lender.specs.Notices.{Becomes, IsNoted}
use Rattle.process_lender.specs.Pages.{NotesPage}
use Rattle.process_lender.specs.Rows.{BeginsRow, CameOfOrder, FindsNext, nothing_next}
use Rattle.process_lender.specs.Scans.{BeginsScan, CameOfSteps, FollowsChanges, scan_of}
use Rattle.process_lender.specs.Windows.{Stay, Window, table_facts}
use Rattle.process_lender.specs.declared.choice.Choice.{Choice}
use Rattle.process_lender.specs.declared.choice.Choice.TheVariants.{ToAsk, ToHold, ToGiveBack}
use Rattle.process_lender.specs.declared.facts.ProcessFacts.{ProcessFacts}
use Rattle.process_lender.specs.declared.look.WindowScan.{WindowScan}
use Rattle.process_lender.specs.declared.notice.Notice.{Notice}
use Rattle.window_pages.specs.Bytes.{belief_of}
use Rattle.window_pages.specs.declared.counts.PartCounts.{PartCounts}
use Rattle.window_pages.specs.declared.page.WindowPage.{WindowPage}
use Rattle.window_tables.specs.Facts.{facts_at}
use Rattle.window_tables.specs.Homes.{Changes, HasMoved, IsCalled, IsCopied, IsHome, OneMemory}
use Rattle.window_tables.specs.Mappings.{is_whole}
use Rattle.window_tables.specs.Rooms.{are_alone}
use Rattle.window_tables.specs.Tables.{Counted, Notes, can_note, part_at}
use Rattle.window_tables.specs.declared.changes.Change.TheVariants as Change
use Rattle.window_tables.specs.declared.facts.TableFacts.{TableFacts}
use Rattle.lending_laws.proofs.Lender.{answered_turn, asked_turn, copied_turn, give_back_turn, hold_turn, loaned_turn, told_of}
use Rattle.lending_laws.proofs.OwnedLists.{found_reaches, list_went, list_went_with, to_copy_turn, went_reaches}
use Rattle.lending_laws.proofs.OwnedPages.{page_noted}
use Rattle.lending_laws.proofs.OwnedPlaces.{Became, by_place, is_called, is_reached, is_same, place_counted}
use Rattle.lending_laws.proofs.OwnedStays.{all_stay, end_stays, part_stays, pins_stay, state_stays, stays_counted, stays_goes, whole_stays}
use Rattle.lending_laws.specs.Histories.{Moment}
use Rattle.lending_laws.specs.Lender as call
use Rattle.lending_laws.specs.Lender.{AreSo, Called, CopiesAreSo, CopyIsSo, HomesAreSo, IsSoOf, LoanIsSo, row_outcome}
use Rattle.lending_laws.specs.Owned as owned
use Rattle.lending_laws.specs.Owned.{AreCounted, EachIsSo, EachOwnedCallCounts, EachOwnedCallGoesOn, Knows, NoticeIsSo, OwnedCall, OwnedGoesOn, ShowNone}
use Rattle.lending_laws.specs.Processes.{moment_of}

-- ---- notices

noted : (gives : (ℕ → Bool) → ℕ → Bool) (first : ℕ) (m : Moment) (facts : ProcessFacts) (w : Window) (pages : List WindowPage) (counts : List PartCounts) (notice : Notice) (from n : ℕ) (is : Bool) → m.pages ≡ w.pages →
    Becomes notice facts from n is w pages counts → (is ≡ true → NoticeIsSo gives first m from n notice) → Became gives first m w pages
noted gives first m facts w pages counts (Notice.Covered frame) from n true e b so =
    is_called (call.notes w.lead from n (Change.Covered frame) w.counts counts (subst (λ v. Notes (Change.Covered frame) w.lead from n true v pages w.counts counts) (sym e) b) (λ j l. tt))
noted gives first m facts w pages counts (Notice.Covered frame) from n false e b so = is_same (b.same refl)
noted gives first m facts w pages counts Notice.Uncovered from n true e b so =
    is_called (call.notes w.lead from n (Change.Uncovered false) w.counts counts (subst (λ v. Notes (Change.Uncovered false) w.lead from n true v pages w.counts counts) (sym e) b) (so refl))
noted gives first m facts w pages counts Notice.Uncovered from n false e b so = is_same (b.same refl)
noted gives first m facts w pages counts Notice.MovedThere from n true e b so =
    is_called (call.notes w.lead from n (Change.Uncovered true) w.counts counts (subst (λ v. Notes (Change.Uncovered true) w.lead from n true v pages w.counts counts) (sym e) b) (so refl))
noted gives first m facts w pages counts Notice.MovedThere from n false e b so = is_same (b.same refl)
noted gives first m facts w pages counts (Notice.ZerosMapped is_said) from n true e b so =
    let moved : Bool = are_alone w.lead w.parts w.pages from n || not is_said in
    is_called (call.notes w.lead from n (Change.Uncovered moved) w.counts counts (subst (λ v. Notes (Change.Uncovered moved) w.lead from n true v pages w.counts counts) (sym e) b) (so refl))
noted gives first m facts w pages counts (Notice.ZerosMapped is_said) from n false e b so = is_same (b.same refl)
noted gives first m facts w pages counts Notice.Unmapped from n true e b so =
    is_called (call.notes w.lead from n Change.Unmapped w.counts counts (subst (λ v. Notes Change.Unmapped w.lead from n true v pages w.counts counts) (sym e) b) (so refl))
noted gives first m facts w pages counts Notice.Unmapped from n false e b so = is_same (b.same refl)
noted gives first m facts w pages counts Notice.Detached from n true e b so = absurd (so refl)
noted gives first m facts w pages counts Notice.Detached from n false e b so = is_same (b.same refl)
noted gives first m facts w pages counts Notice.OneMemory from n true e b so =
    is_called (call.one_memory from n (subst (λ v. OneMemory from n v pages) (sym e) (b.pages refl)) (so refl))
noted gives first m facts w pages counts Notice.OneMemory from n false e b so = is_same (b.same refl)
noted gives first m facts w pages counts Notice.GivenUp from n true e b so =
    is_called (call.notes w.lead from n Change.GivenUp w.counts counts (subst (λ v. Notes Change.GivenUp w.lead from n true v pages w.counts counts) (sym e) b) (so refl))
noted gives first m facts w pages counts Notice.GivenUp from n false e b so = is_same (b.same refl)
noted gives first m facts w pages counts Notice.Left from n true e b so =
    is_called (call.notes w.lead from n Change.Left w.counts counts (subst (λ v. Notes Change.Left w.lead from n true v pages w.counts counts) (sym e) b) (λ j l. tt))
noted gives first m facts w pages counts Notice.Left from n false e b so = is_same (b.same refl)
noted gives first m facts w pages counts Notice.MovedHome from n true e b so =
    is_called (call.moved_home w.lead from n w.counts counts (subst (λ v. Changes (λ j. HasMoved) w.lead from n true v pages w.counts counts) (sym e) b) (so refl))
noted gives first m facts w pages counts Notice.MovedHome from n false e b so = is_same (b.same refl)
noted gives first m facts w pages counts Notice.CopiedHome from n true e b so =
    is_called (call.copied_home w.lead from n w.counts counts (subst (λ v. Changes (λ j. IsCopied) w.lead from n true v pages w.counts counts) (sym e) b) (so refl))
noted gives first m facts w pages counts Notice.CopiedHome from n false e b so = is_same (b.same refl)
noted gives first m facts w pages counts Notice.RefusedHome from n true e b so =
    is_called (call.refused_home w.lead from n w.counts counts (subst (λ v. Changes (λ j. IsHome Refused) w.lead from n true v pages w.counts counts) (sym e) b) (so refl))
noted gives first m facts w pages counts Notice.RefusedHome from n false e b so = is_same (b.same refl)
noted gives first m facts w pages counts (Notice.CalledHome why) from n true e b so =
    is_called (call.orders_home w.lead from n (table_facts facts w.state) w.pins why w.counts counts
    (subst (λ v. Changes (λ j. IsCalled (facts_at (table_facts facts w.state) w.pins why (from + j))) w.lead from n true v pages w.counts counts) (sym e) b))
noted gives first m facts w pages counts (Notice.CalledHome why) from n false e b so = is_same (b.same refl)

-- ---- rows and scans

row_begun : (gives : (ℕ → Bool) → ℕ → Bool) (first : ℕ) (m : Moment) (w : Window) (pages : List WindowPage) (counts : List PartCounts) (from : ℕ) (takings row row_new : List ℕ) (is : Bool) → m.pages ≡ w.pages →
    BeginsRow from takings is row row_new w pages counts → (is ≡ true → AreSo gives m from 0 (length row) (λ n x. asks_for (belief_of x) (taking_at takings n))) → Became gives first m w pages
row_begun gives first m w pages counts from takings row row_new true e b so =
    is_called (call.begins_row w.lead from takings row row_new w.counts counts (subst (λ v. RowBegins w.lead from takings true v pages w.counts counts row row_new) (sym e) b) (so refl))
row_begun gives first m w pages counts from takings row row_new false e b so = is_same (b.same refl)

next_found : (gives : (ℕ → Bool) → ℕ → Bool) (first : ℕ) (m : Moment) (facts : ProcessFacts) (w : Window) (pages : List WindowPage) (counts : List PartCounts) (from : ℕ) (row : List ℕ) (order : RowOrder) → m.pages ≡ w.pages →
    FindsNext facts from row order w pages counts → Became gives first m w pages
next_found gives first m facts w pages counts from row order e b =
    is_called (call.orders_row w.lead from (table_facts facts w.state) w.pins row order w.counts counts (subst (λ v. OrdersNext (table_facts facts w.state) w.pins w.lead from row order v pages w.counts counts) (sym e) b))

order_done : (gives : (ℕ → Bool) → ℕ → Bool) (first : ℕ) (m : Moment) (w : Window) (pages : List WindowPage) (counts : List PartCounts) (from begin done refused : ℕ) (row row_new : List ℕ) (is : Bool) → m.pages ≡ w.pages →
    CameOfOrder from begin done refused is row row_new w pages counts → (is ≡ true → AreSo gives m from begin (done + refused) (row_outcome row begin done)) → Became gives first m w pages
order_done gives first m w pages counts from begin done refused row row_new true e b so =
    is_called (call.row_done w.lead from begin done refused row row_new w.counts counts (subst (λ v. RowCameOut w.lead from begin done refused true v pages w.counts counts row row_new) (sym e) b) (so refl))
order_done gives first m w pages counts from begin done refused row row_new false e b so = is_same (b.same refl)

scan_begun : (gives : (ℕ → Bool) → ℕ → Bool) (first : ℕ) (m : Moment) (facts : ProcessFacts) (w : Window) (pages : List WindowPage) (counts : List PartCounts) (scan : WindowScan) (from : ℕ) (memory row row_new : List ℕ) (is : Bool) → m.pages ≡ w.pages →
    BeginsScan facts scan from memory is row row_new w pages counts → Became gives first m w pages
scan_begun gives first m facts w pages counts scan from memory row row_new true e b =
    let all : Bool = has_past (part_at w.lead from) w.counts in
    is_called (call.begins_scan w.lead from (length memory) (scan_of scan from w) (table_facts facts w.state) w.pins memory row row_new all w.counts counts
    (subst (λ v. RowGoes (BeginsAt (scan_of scan from w) (table_facts facts w.state) w.pins from all memory) w.lead from (length memory) true v pages w.counts counts row row_new) (sym e) b))
scan_begun gives first m facts w pages counts scan from memory row row_new false e b = is_same (b.same refl)

steps_done : (gives : (ℕ → Bool) → ℕ → Bool) (first : ℕ) (m : Moment) (w : Window) (pages : List WindowPage) (counts : List PartCounts) (scan : WindowScan) (from : ℕ) (outcomes : List FindOutcome) (row row_new : List ℕ) (is : Bool) → m.pages ≡ w.pages →
    CameOfSteps scan from outcomes is row row_new w pages counts → (is ≡ true → CopiesAreSo first from m outcomes) → Became gives first m w pages
steps_done gives first m w pages counts scan from outcomes row row_new true e b so =
    is_called (call.scan_done w.lead from (length outcomes) (scan_of scan from w) outcomes row row_new w.counts counts
    (subst (λ v. RowGoes (GoesOnAt (scan_of scan from w) from outcomes) w.lead from (length outcomes) true v pages w.counts counts row row_new) (sym e) b) (so refl))
steps_done gives first m w pages counts scan from outcomes row row_new false e b so = is_same (b.same refl)

changes_followed : (gives : (ℕ → Bool) → ℕ → Bool) (first : ℕ) (m : Moment) (facts : ProcessFacts) (w : Window) (pages : List WindowPage) (counts : List PartCounts) (scan : WindowScan) (from : ℕ) (memory row row_new : List ℕ) (is : Bool) → m.pages ≡ w.pages →
    FollowsChanges facts scan from memory is row row_new w pages counts → Became gives first m w pages
changes_followed gives first m facts w pages counts scan from memory row row_new true e b =
    is_called (call.follows w.lead from (length memory) (scan_of scan from w) (table_facts facts w.state) w.pins memory row row row_new w.counts counts
    (subst (λ v. RowGoes (FollowsAt (scan_of scan from w) (table_facts facts w.state) w.pins from memory row) w.lead from (length memory) true v pages w.counts counts row row_new) (sym e) b))
changes_followed gives first m facts w pages counts scan from memory row row_new false e b = is_same (b.same refl)

-- ---- lists

chosen : (gives : (ℕ → Bool) → ℕ → Bool) (first : ℕ) (m : Moment) (facts : ProcessFacts) (w : Window) (pages : List WindowPage) (counts : List PartCounts) (what : Choice) (taken : ℕ) (numbers answers answers_new : List ℕ) (is : Bool) → m.pages ≡ w.pages →
    Chooses what facts taken numbers is answers answers_new w pages counts → Became gives first m w pages
chosen gives first m facts w pages counts (ToAsk config look) taken numbers answers answers_new true e b =
    let table : TableFacts = table_facts facts w.state in
    let all : AllInTurnWith (AsksAt table w.pins config look facts.most w.lead w.parts numbers) takes_none w.lead numbers taken w.pages pages w.counts counts answers answers_new = b.pages refl in
    let turns : InTurnWith (AsksAt table w.pins config look facts.most w.lead w.parts numbers) takes_none w.lead numbers m.pages w.counts answers taken (length numbers) all.has pages counts answers_new =
    subst (λ v. InTurnWith (AsksAt table w.pins config look facts.most w.lead w.parts numbers) takes_none w.lead numbers v w.counts answers taken (length numbers) all.has pages counts answers_new) (sym e) all.turns in
    is_reached (went_reaches gives first m numbers (length numbers) pages
    (list_went_with gives first w.lead m numbers (AsksAt table w.pins config look facts.most w.lead w.parts numbers) takes_none w.counts answers taken (length numbers) all.has pages counts answers_new turns
    (λ j has now l answer k x y part after between there does.
    asked_turn gives first (slice_index_or numbers j 0) k x y (facts_in table w.pins numbers j) (is_whole w.lead w.parts (slice_index_or numbers j 0) || has_room facts.most has w.lead w.parts now (slice_index_or numbers j 0))
    (is_passing config look w.lead w.parts (slice_index_or numbers j 0) x) answer part after there does)))
chosen gives first m facts w pages counts (ToAsk config look) taken numbers answers answers_new false e b = is_same (b.same refl)
chosen gives first m facts w pages counts ToHold taken numbers answers answers_new true e b =
    let table : TableFacts = table_facts facts w.state in
    let turns : InTurn (HoldsAt table w.pins w.lead w.parts numbers) w.lead numbers m.pages w.counts answers (length numbers) pages counts answers_new =
    subst (λ v. InTurn (HoldsAt table w.pins w.lead w.parts numbers) w.lead numbers v w.counts answers (length numbers) pages counts answers_new) (sym e) (b.pages refl) in
    is_reached (went_reaches gives first m numbers (length numbers) pages
    (list_went gives first w.lead m numbers (HoldsAt table w.pins w.lead w.parts numbers) w.counts answers (length numbers) pages counts answers_new turns
    (λ j l answer k x y part after between there does.
    hold_turn gives first (slice_index_or numbers j 0) k x y (facts_in table w.pins numbers j) (not (is_whole w.lead w.parts (slice_index_or numbers j 0))) answer part after there does)))
chosen gives first m facts w pages counts ToHold taken numbers answers answers_new false e b = is_same (b.same refl)
chosen gives first m facts w pages counts ToGiveBack taken numbers answers answers_new true e b =
    let table : TableFacts = table_facts facts w.state in
    let all : AllInTurnWith (GivesBackAt table w.pins facts.most w.lead w.parts numbers) takes_none w.lead numbers taken w.pages pages w.counts counts answers answers_new = b.pages refl in
    let turns : InTurnWith (GivesBackAt table w.pins facts.most w.lead w.parts numbers) takes_none w.lead numbers m.pages w.counts answers taken (length numbers) all.has pages counts answers_new =
    subst (λ v. InTurnWith (GivesBackAt table w.pins facts.most w.lead w.parts numbers) takes_none w.lead numbers v w.counts answers taken (length numbers) all.has pages counts answers_new) (sym e) all.turns in
    is_reached (went_reaches gives first m numbers (length numbers) pages
    (list_went_with gives first w.lead m numbers (GivesBackAt table w.pins facts.most w.lead w.parts numbers) takes_none w.counts answers taken (length numbers) all.has pages counts answers_new turns
    (λ j has now l answer k x y part after between there does.
    give_back_turn gives first (slice_index_or numbers j 0) k x y (facts_in table w.pins numbers j) (not (is_whole w.lead w.parts (slice_index_or numbers j 0))) (has_room_for_zeros facts.most has w.lead w.parts now (slice_index_or numbers j 0))
    answer part after there does)))
chosen gives first m facts w pages counts ToGiveBack taken numbers answers answers_new false e b = is_same (b.same refl)

answers_taken : (gives : (ℕ → Bool) → ℕ → Bool) (first : ℕ) (m : Moment) (facts : ProcessFacts) (w : Window) (pages : List WindowPage) (counts : List PartCounts) (taken : ℕ) (numbers fingerprints seen answers answers_new : List ℕ) (is : Bool) → m.pages ≡ w.pages →
    Answered facts taken numbers fingerprints seen is answers answers_new w pages counts → Became gives first m w pages
answers_taken gives first m facts w pages counts taken numbers fingerprints seen answers answers_new true e b =
    let all : AllInTurnWith (AnsweredAt facts.most w.lead w.parts numbers fingerprints seen) (takes_if_found w.lead w.parts numbers) w.lead numbers taken w.pages pages w.counts counts answers answers_new = b.pages refl in
    let turns : InTurnWith (AnsweredAt facts.most w.lead w.parts numbers fingerprints seen) (takes_if_found w.lead w.parts numbers) w.lead numbers m.pages w.counts answers taken (length numbers) all.has pages counts answers_new =
    subst (λ v. InTurnWith (AnsweredAt facts.most w.lead w.parts numbers fingerprints seen) (takes_if_found w.lead w.parts numbers) w.lead numbers v w.counts answers taken (length numbers) all.has pages counts answers_new) (sym e) all.turns in
    is_reached (went_reaches gives first m numbers (length numbers) pages
    (list_went_with gives first w.lead m numbers (AnsweredAt facts.most w.lead w.parts numbers fingerprints seen) (takes_if_found w.lead w.parts numbers) w.counts answers taken (length numbers) all.has pages counts answers_new turns
    (λ j has now l answer k x y part after between there does.
    answered_turn gives first (slice_index_or numbers j 0) k x y (is_whole w.lead w.parts (slice_index_or numbers j 0)) (nat_lt 0 (slice_index_or seen j 0)) (has_room facts.most has w.lead w.parts now (slice_index_or numbers j 0))
    (slice_index_or fingerprints j 0) answer part after there does)))
answers_taken gives first m facts w pages counts taken numbers fingerprints seen answers answers_new false e b = is_same (b.same refl)

copies_chosen : (gives : (ℕ → Bool) → ℕ → Bool) (first : ℕ) (m : Moment) (facts : ProcessFacts) (w : Window) (pages : List WindowPage) (counts : List PartCounts) (numbers there fingerprints answers answers_new : List ℕ) (is : Bool) → m.pages ≡ w.pages →
    ChoosesCopies facts numbers there fingerprints is answers answers_new w pages counts → Became gives first m w pages
copies_chosen gives first m facts w pages counts numbers there fingerprints answers answers_new true e b =
    let table : TableFacts = table_facts facts w.state in
    let turns : InTurn (CopiesAt table w.pins w.lead w.parts numbers there fingerprints) w.lead numbers m.pages w.counts answers (length numbers) pages counts answers_new =
    subst (λ v. InTurn (CopiesAt table w.pins w.lead w.parts numbers there fingerprints) w.lead numbers v w.counts answers (length numbers) pages counts answers_new) (sym e) (b.pages refl) in
    is_reached (went_reaches gives first m numbers (length numbers) pages
    (list_went gives first w.lead m numbers (CopiesAt table w.pins w.lead w.parts numbers there fingerprints) w.counts answers (length numbers) pages counts answers_new turns
    (λ j l answer k x y part after between at does.
    to_copy_turn gives first (slice_index_or numbers j 0) k x y (facts_in table w.pins numbers j) (is_ready w.lead w.parts (slice_index_or numbers j 0) (slice_index_or there j 0)) (slice_index_or fingerprints j 0) answer part after at does)))
copies_chosen gives first m facts w pages counts numbers there fingerprints answers answers_new false e b = is_same (b.same refl)

copies_taken : (gives : (ℕ → Bool) → ℕ → Bool) (first : ℕ) (m : Moment) (facts : ProcessFacts) (w : Window) (pages : List WindowPage) (counts : List PartCounts) (numbers outcomes answers answers_new : List ℕ) (is : Bool) → m.pages ≡ w.pages →
    CameOfCopies facts numbers outcomes is answers answers_new w pages counts → (is ≡ true → EachIsSo (λ n now. CopyIsSo gives now (slice_index_or numbers n 0) (copied_by (slice_index_or outcomes n 0))) m numbers) → Became gives first m w pages
copies_taken gives first m facts w pages counts numbers outcomes answers answers_new true e b so =
    let table : TableFacts = table_facts facts w.state in
    let turns : InTurn (CopiedAt table w.pins numbers outcomes) w.lead numbers m.pages w.counts answers (length numbers) pages counts answers_new =
    subst (λ v. InTurn (CopiedAt table w.pins numbers outcomes) w.lead numbers v w.counts answers (length numbers) pages counts answers_new) (sym e) (b.pages refl) in
    is_reached (went_reaches gives first m numbers (length numbers) pages
    (list_went gives first w.lead m numbers (CopiedAt table w.pins numbers outcomes) w.counts answers (length numbers) pages counts answers_new turns
    (λ j l answer k x y part after between at does.
    copied_turn gives first (slice_index_or numbers j 0) k x y (facts_in table w.pins numbers j) answer (copied_by (slice_index_or outcomes j 0)) part after at does (so refl j k l between))))
copies_taken gives first m facts w pages counts numbers outcomes answers answers_new false e b so = is_same (b.same refl)

loans_taken : (gives : (ℕ → Bool) → ℕ → Bool) (first : ℕ) (m : Moment) (w : Window) (pages : List WindowPage) (counts : List PartCounts) (numbers slots given answers answers_new : List ℕ) (frames : ℕ) (is_heard is : Bool) → m.pages ≡ w.pages →
    CameOfLoans numbers slots given frames is_heard is answers answers_new w pages counts →
    (is ≡ true → EachIsSo (λ n now. LoanIsSo gives now (slice_index_or numbers n 0) (reply_of is_heard (slice_index_or slots n 0) (slice_index_or given n 0))) m numbers) → Became gives first m w pages
loans_taken gives first m w pages counts numbers slots given answers answers_new frames is_heard true e b so =
    let turns : InTurn (LoanedAt is_heard slots given frames) w.lead numbers m.pages w.counts answers (length numbers) pages counts answers_new =
    subst (λ v. InTurn (LoanedAt is_heard slots given frames) w.lead numbers v w.counts answers (length numbers) pages counts answers_new) (sym e) (b.pages refl) in
    is_reached (went_reaches gives first m numbers (length numbers) pages
    (list_went gives first w.lead m numbers (LoanedAt is_heard slots given frames) w.counts answers (length numbers) pages counts answers_new turns
    (λ j l answer k x y part after between at does.
    loaned_turn gives first (slice_index_or numbers j 0) k x y frames answer (reply_of is_heard (slice_index_or slots j 0) (slice_index_or given j 0)) part after at does (so refl j k l between))))
loans_taken gives first m w pages counts numbers slots given answers answers_new frames is_heard false e b so = is_same (b.same refl)

releases_found : (gives : (ℕ → Bool) → ℕ → Bool) (first : ℕ) (m : Moment) (facts : ProcessFacts) (w : Window) (pages : List WindowPage) (counts : List PartCounts) (from n count : ℕ) (places places_new : List ℕ) → m.pages ≡ w.pages →
    FindsReleases facts from n count places places_new w pages counts → Became gives first m w pages
releases_found gives first m facts w pages counts from n count places places_new e b = pick (can_note w.lead from n w.pages w.counts) refl where
  pick : (can : Bool) → can_note w.lead from n w.pages w.counts ≡ can → Became gives first m w pages
  pick false not_so = is_same (b.same not_so)
  pick true is_so =
      let table : TableFacts = table_facts facts w.state in
      is_reached (found_reaches gives first w.lead from (length places) table w.pins m w.counts places n count pages counts places_new
      (subst (λ v. Found table w.pins w.lead from (length places) v w.counts places n count pages counts places_new) (sym e) (b.found is_so)))

release_taken : (gives : (ℕ → Bool) → ℕ → Bool) (first : ℕ) (m : Moment) (w : Window) (pages : List WindowPage) (counts : List PartCounts) (numbers : List ℕ) (is_heard is : Bool) → m.pages ≡ w.pages →
    CameOfRelease numbers is_heard is w pages counts → (is ≡ true → EachIsSo (λ n now. IsSoOf gives now (slice_index_or numbers n 0) (released_as is_heard)) m numbers) → Became gives first m w pages
release_taken gives first m w pages counts numbers is_heard true e b so =
    let turns : InTurn (ReleasedAt is_heard) w.lead numbers m.pages w.counts [] (length numbers) pages counts [] =
    subst (λ v. InTurn (ReleasedAt is_heard) w.lead numbers v w.counts [] (length numbers) pages counts []) (sym e) (b.pages refl) in
    is_reached (went_reaches gives first m numbers (length numbers) pages
    (list_went gives first w.lead m numbers (ReleasedAt is_heard) w.counts [] (length numbers) pages counts [] turns
    (λ j l answer k x y part after between at does. told_of gives first (slice_index_or numbers j 0) k x y (released_as is_heard) part after at does (so refl j k l between))))
release_taken gives first m w pages counts numbers is_heard false e b so = is_same (b.same refl)

-- ---- the law

pub each_owned_call_goes_on : EachOwnedCallGoesOn
each_owned_call_goes_on f spans number place x gives old new h k g (owned.notes notice from n is c so) =
    by_place f spans number place x gives old new (IsNoted notice old.facts from n is old.mappings new.mappings) (Stay (is ≡ false) old.mappings new.mappings) h k g (ap (λ l. l.windows) c.others) c.there
    (λ w pages counts e b. noted gives (spans (number place)).first (moment_of (number place) x) old.facts w pages counts notice from n is e b.becomes so)
each_owned_call_goes_on f spans number place x gives old new h k g (owned.begins_row from takings row row_new is c so) =
    by_place f spans number place x gives old new (BeginsRow from takings is row row_new) (NoAnswer is row row_new) h k g (ap (λ l. l.windows) c.others) c.there
    (λ w pages counts e b. row_begun gives (spans (number place)).first (moment_of (number place) x) w pages counts from takings row row_new is e b so)
each_owned_call_goes_on f spans number place x gives old new h k g (owned.finds_next from row order c) =
    by_place f spans number place x gives old new (FindsNext old.facts from row order) (order ≡ nothing_next) h k g (ap (λ l. l.windows) c.others) c.there
    (λ w pages counts e b. next_found gives (spans (number place)).first (moment_of (number place) x) old.facts w pages counts from row order e b)
each_owned_call_goes_on f spans number place x gives old new h k g (owned.row_done from begin done refused row row_new is c so) =
    by_place f spans number place x gives old new (CameOfOrder from begin done refused is row row_new) (NoAnswer is row row_new) h k g (ap (λ l. l.windows) c.others) c.there
    (λ w pages counts e b. order_done gives (spans (number place)).first (moment_of (number place) x) w pages counts from begin done refused row row_new is e b so)
each_owned_call_goes_on f spans number place x gives old new h k g (owned.begins_scan scan from memory row row_new is c) =
    by_place f spans number place x gives old new (BeginsScan old.facts scan from memory is row row_new) (NoAnswer is row row_new) h k g (ap (λ l. l.windows) c.others) c.there
    (λ w pages counts e b. scan_begun gives (spans (number place)).first (moment_of (number place) x) old.facts w pages counts scan from memory row row_new is e b)
each_owned_call_goes_on f spans number place x gives old new h k g (owned.scan_done scan from outcomes row row_new is c so) =
    by_place f spans number place x gives old new (CameOfSteps scan from outcomes is row row_new) (NoAnswer is row row_new) h k g (ap (λ l. l.windows) c.others) c.there
    (λ w pages counts e b. steps_done gives (spans (number place)).first (moment_of (number place) x) w pages counts scan from outcomes row row_new is e b so)
each_owned_call_goes_on f spans number place x gives old new h k g (owned.follows scan from memory row row_new is c) =
    by_place f spans number place x gives old new (FollowsChanges old.facts scan from memory is row row_new) (NoAnswer is row row_new) h k g (ap (λ l. l.windows) c.others) c.there
    (λ w pages counts e b. changes_followed gives (spans (number place)).first (moment_of (number place) x) old.facts w pages counts scan from memory row row_new is e b)
each_owned_call_goes_on f spans number place x gives old new h k g (owned.chooses what numbers answers answers_new is c) =
    by_place f spans number place x gives old new (Chooses what old.facts old.mappings numbers is answers answers_new) (NoAnswer is answers answers_new) h k g (ap (λ l. l.windows) c.others) c.there
    (λ w pages counts e b. chosen gives (spans (number place)).first (moment_of (number place) x) old.facts w pages counts what old.mappings numbers answers answers_new is e b)
each_owned_call_goes_on f spans number place x gives old new h k g (owned.answered numbers fingerprints seen answers answers_new is c) =
    by_place f spans number place x gives old new (Answered old.facts old.mappings numbers fingerprints seen is answers answers_new) (NoAnswer is answers answers_new) h k g (ap (λ l. l.windows) c.others) c.there
    (λ w pages counts e b. answers_taken gives (spans (number place)).first (moment_of (number place) x) old.facts w pages counts old.mappings numbers fingerprints seen answers answers_new is e b)
each_owned_call_goes_on f spans number place x gives old new h k g (owned.to_copy numbers there fingerprints answers answers_new is c) =
    by_place f spans number place x gives old new (ChoosesCopies old.facts numbers there fingerprints is answers answers_new) (NoAnswer is answers answers_new) h k g (ap (λ l. l.windows) c.others) c.there
    (λ w pages counts e b. copies_chosen gives (spans (number place)).first (moment_of (number place) x) old.facts w pages counts numbers there fingerprints answers answers_new is e b)
each_owned_call_goes_on f spans number place x gives old new h k g (owned.copied numbers outcomes answers answers_new is c so) =
    by_place f spans number place x gives old new (CameOfCopies old.facts numbers outcomes is answers answers_new) (NoAnswer is answers answers_new) h k g (ap (λ l. l.windows) c.others) c.there
    (λ w pages counts e b. copies_taken gives (spans (number place)).first (moment_of (number place) x) old.facts w pages counts numbers outcomes answers answers_new is e b so)
each_owned_call_goes_on f spans number place x gives old new h k g (owned.loaned numbers slots given answers answers_new frames is_heard is c so) =
    by_place f spans number place x gives old new (CameOfLoans numbers slots given frames is_heard is answers answers_new) (NoAnswer is answers answers_new) h k g (ap (λ l. l.windows) c.others) c.there
    (λ w pages counts e b. loans_taken gives (spans (number place)).first (moment_of (number place) x) w pages counts numbers slots given answers answers_new frames is_heard is e b so)
each_owned_call_goes_on f spans number place x gives old new h k g (owned.to_release from n count places places_new c) =
    by_place f spans number place x gives old new (FindsReleases old.facts from n count places places_new) (NoneFound count places places_new) h k g (ap (λ l. l.windows) c.others) c.there
    (λ w pages counts e b. releases_found gives (spans (number place)).first (moment_of (number place) x) old.facts w pages counts from n count places places_new e b)
each_owned_call_goes_on f spans number place x gives old new h k g (owned.released numbers is_heard is c so) =
    by_place f spans number place x gives old new (CameOfRelease numbers is_heard is) (is ≡ false) h k g (ap (λ l. l.windows) c.others) c.there
    (λ w pages counts e b. release_taken gives (spans (number place)).first (moment_of (number place) x) w pages counts numbers is_heard is e b so)
each_owned_call_goes_on f spans number place x gives old new h k g (owned.notes_page page notice is c) =
    by_place f spans number place x gives old new (NotesPage notice page is) (is ≡ false) h k g (ap (λ l. l.windows) c.others) c.there
    (λ w pages counts e b. page_noted gives (spans (number place)).first (moment_of (number place) x) w pages counts page notice is e b)
each_owned_call_goes_on f spans number place x gives old new h k g (owned.ends e) = stays_goes f spans number place x gives old new h k g (end_stays place old new e)
each_owned_call_goes_on f spans number place x gives old new h k g (owned.sets_facts facts e) = stays_goes f spans number place x gives old new h k g (all_stay (ap (λ l. l.windows) e))
each_owned_call_goes_on f spans number place x gives old new h k g (owned.sets_state state e) = stays_goes f spans number place x gives old new h k g (state_stays place old new state e)
each_owned_call_goes_on f spans number place x gives old new h k g (owned.notes_part from notice e) = stays_goes f spans number place x gives old new h k g (part_stays place from notice old new e)
each_owned_call_goes_on f spans number place x gives old new h k g (owned.sets_whole from is_whole is c) = stays_goes f spans number place x gives old new h k g (whole_stays place from is_whole is old new c)
each_owned_call_goes_on f spans number place x gives old new h k g (owned.sets_pins from n is_pinned e) = stays_goes f spans number place x gives old new h k g (pins_stay place from n is_pinned old new e)
each_owned_call_goes_on f spans number place x gives old new h k g (owned.is_refused e) = stays_goes f spans number place x gives old new h k g (all_stay (ap (λ l. l.windows) e))

-- ---- counts of parts

noted_counted : (facts : ProcessFacts) (w : Window) (pages : List WindowPage) (counts : List PartCounts) (notice : Notice) (from n : ℕ) (is : Bool) → Becomes notice facts from n is w pages counts → Counted w.lead w.pages w.counts → Counted w.lead pages counts
noted_counted facts w pages counts (Notice.Covered frame) from n is b k = b.counted k
noted_counted facts w pages counts Notice.Uncovered from n is b k = b.counted k
noted_counted facts w pages counts Notice.MovedThere from n is b k = b.counted k
noted_counted facts w pages counts (Notice.ZerosMapped is_said) from n is b k = b.counted k
noted_counted facts w pages counts Notice.Unmapped from n is b k = b.counted k
noted_counted facts w pages counts Notice.Detached from n is b k = b.counted k
noted_counted facts w pages counts Notice.OneMemory from n is b k = b.counted k
noted_counted facts w pages counts Notice.GivenUp from n is b k = b.counted k
noted_counted facts w pages counts Notice.Left from n is b k = b.counted k
noted_counted facts w pages counts Notice.MovedHome from n is b k = b.counted k
noted_counted facts w pages counts Notice.CopiedHome from n is b k = b.counted k
noted_counted facts w pages counts Notice.RefusedHome from n is b k = b.counted k
noted_counted facts w pages counts (Notice.CalledHome why) from n is b k = b.counted k

chosen_counted : (facts : ProcessFacts) (w : Window) (pages : List WindowPage) (counts : List PartCounts) (what : Choice) (taken : ℕ) (numbers answers answers_new : List ℕ) (is : Bool) → Chooses what facts taken numbers is answers answers_new w pages counts →
    Counted w.lead w.pages w.counts → Counted w.lead pages counts
chosen_counted facts w pages counts (ToAsk config look) taken numbers answers answers_new is b k = b.counted k
chosen_counted facts w pages counts ToHold taken numbers answers answers_new is b k = b.counted k
chosen_counted facts w pages counts ToGiveBack taken numbers answers answers_new is b k = b.counted k

pub each_owned_call_counts : EachOwnedCallCounts
each_owned_call_counts gives first m place old new all (owned.notes notice from n is c so) =
    place_counted place old new (IsNoted notice old.facts from n is old.mappings new.mappings) (Stay (is ≡ false) old.mappings new.mappings) (ap (λ l. l.windows) c.others) c.there all (λ w pages counts b k. noted_counted old.facts w pages counts notice from n is b.becomes k)
each_owned_call_counts gives first m place old new all (owned.begins_row from takings row row_new is c so) =
    place_counted place old new (BeginsRow from takings is row row_new) (NoAnswer is row row_new) (ap (λ l. l.windows) c.others) c.there all (λ w pages counts b k. b.counted k)
each_owned_call_counts gives first m place old new all (owned.finds_next from row order c) =
    place_counted place old new (FindsNext old.facts from row order) (order ≡ nothing_next) (ap (λ l. l.windows) c.others) c.there all (λ w pages counts b k. b.counted k)
each_owned_call_counts gives first m place old new all (owned.row_done from begin done refused row row_new is c so) =
    place_counted place old new (CameOfOrder from begin done refused is row row_new) (NoAnswer is row row_new) (ap (λ l. l.windows) c.others) c.there all (λ w pages counts b k. b.counted k)
each_owned_call_counts gives first m place old new all (owned.begins_scan scan from memory row row_new is c) =
    place_counted place old new (BeginsScan old.facts scan from memory is row row_new) (NoAnswer is row row_new) (ap (λ l. l.windows) c.others) c.there all (λ w pages counts b k. b.counted k)
each_owned_call_counts gives first m place old new all (owned.scan_done scan from outcomes row row_new is c so) =
    place_counted place old new (CameOfSteps scan from outcomes is row row_new) (NoAnswer is row row_new) (ap (λ l. l.windows) c.others) c.there all (λ w pages counts b k. b.counted k)
each_owned_call_counts gives first m place old new all (owned.follows scan from memory row row_new is c) =
    place_counted place old new (FollowsChanges old.facts scan from memory is row row_new) (NoAnswer is row row_new) (ap (λ l. l.windows) c.others) c.there all (λ w pages counts b k. b.counted k)
each_owned_call_counts gives first m place old new all (owned.chooses what numbers answers answers_new is c) =
    place_counted place old new (Chooses what old.facts old.mappings numbers is answers answers_new) (NoAnswer is answers answers_new) (ap (λ l. l.windows) c.others) c.there all (λ w pages counts b k. chosen_counted old.facts w pages counts what old.mappings numbers answers answers_new is b k)
each_owned_call_counts gives first m place old new all (owned.answered numbers fingerprints seen answers answers_new is c) =
    place_counted place old new (Answered old.facts old.mappings numbers fingerprints seen is answers answers_new) (NoAnswer is answers answers_new) (ap (λ l. l.windows) c.others) c.there all (λ w pages counts b k. b.counted k)
each_owned_call_counts gives first m place old new all (owned.to_copy numbers there fingerprints answers answers_new is c) =
    place_counted place old new (ChoosesCopies old.facts numbers there fingerprints is answers answers_new) (NoAnswer is answers answers_new) (ap (λ l. l.windows) c.others) c.there all (λ w pages counts b k. b.counted k)
each_owned_call_counts gives first m place old new all (owned.copied numbers outcomes answers answers_new is c so) =
    place_counted place old new (CameOfCopies old.facts numbers outcomes is answers answers_new) (NoAnswer is answers answers_new) (ap (λ l. l.windows) c.others) c.there all (λ w pages counts b k. b.counted k)
each_owned_call_counts gives first m place old new all (owned.loaned numbers slots given answers answers_new frames is_heard is c so) =
    place_counted place old new (CameOfLoans numbers slots given frames is_heard is answers answers_new) (NoAnswer is answers answers_new) (ap (λ l. l.windows) c.others) c.there all (λ w pages counts b k. b.counted k)
each_owned_call_counts gives first m place old new all (owned.to_release from n count places places_new c) =
    place_counted place old new (FindsReleases old.facts from n count places places_new) (NoneFound count places places_new) (ap (λ l. l.windows) c.others) c.there all (λ w pages counts b k. b.counted k)
each_owned_call_counts gives first m place old new all (owned.released numbers is_heard is c so) =
    place_counted place old new (CameOfRelease numbers is_heard is) (is ≡ false) (ap (λ l. l.windows) c.others) c.there all (λ w pages counts b k. b.counted k)
each_owned_call_counts gives first m place old new all (owned.notes_page page notice is c) =
    place_counted place old new (NotesPage notice page is) (is ≡ false) (ap (λ l. l.windows) c.others) c.there all (λ w pages counts b k. b.counted k)
each_owned_call_counts gives first m place old new all (owned.ends e) = stays_counted place old new (end_stays place old new e) all
each_owned_call_counts gives first m place old new all (owned.sets_facts facts e) = stays_counted place old new (all_stay (ap (λ l. l.windows) e)) all
each_owned_call_counts gives first m place old new all (owned.sets_state state e) = stays_counted place old new (state_stays place old new state e) all
each_owned_call_counts gives first m place old new all (owned.notes_part from notice e) = stays_counted place old new (part_stays place from notice old new e) all
each_owned_call_counts gives first m place old new all (owned.sets_whole from is_whole is c) = stays_counted place old new (whole_stays place from is_whole is old new c) all
each_owned_call_counts gives first m place old new all (owned.sets_pins from n is_pinned e) = stays_counted place old new (pins_stay place from n is_pinned old new e) all
each_owned_call_counts gives first m place old new all (owned.is_refused e) = stays_counted place old new (all_stay (ap (λ l. l.windows) e)) all
