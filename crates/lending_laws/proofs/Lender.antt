-- Calls for many pages at once are calls of a history, one page after another.
use Rattle.lend_steps.specs.Copies.{CameOfCopy, ChosenFor, ToCopy, is_changed, is_chosen, is_good, is_left, is_nothing, is_zeros}
use Rattle.lend_steps.specs.Asks.{Answered, InVain, ToAsk, is_asked as is_question, is_crowded, is_found, is_in_vain, is_left_out, is_not_free, sees}
use Rattle.lend_steps.specs.Holds.{ToGiveBack, ToHold, has_loan, is_crowded_out, is_given_back, is_kept, is_ordered, is_passed_by, is_refused}
use Rattle.lend_steps.specs.Lists.{Deed, Told, is_not_there, is_there, Turn}
use Rattle.lend_steps.specs.Loans.{CameOfLoan, NotLent, is_given, is_unheard, is_without_frame, is_without_slot}
use Rattle.lend_steps.specs.Releases.{OrderedTo, asks, at_once, is_hold, passes, refused_first, FindsAt}
use Rattle.lend_steps.specs.declared.copies.CopyOutcome.{CopyOutcome}
use Rattle.lend_steps.specs.declared.loans.LoanReply.{LoanReply}
use Rattle.lend_steps.specs.declared.loans.LoanReply.TheVariants.{Unheard, NoFrame, NoSlot, Given as Loan}
use Rattle.lending_laws.proofs.Kept.{IsKept, calls_kept, history_kept, told_kept}
use Rattle.lending_laws.proofs.Notes.{each_look_is_calls, each_note_is_a_call, given_back_keeps, given_back_lies, given_back_orders, known_stays, past_stops}
use Rattle.lending_laws.specs.Histories.{Calls, CallsAt, CarriedOut, Given, GivesWhatItMay, History, IsTold, IsToldAt, Moment, Nothing, OneIs, Pending, Reads, calls, is_told, notes, pending_after, slots_after}
use Rattle.lending_laws.specs.Notes.{ChangesByTwo, IsTruly}
use Rattle.page_holds.specs.Bytes.{step_by}
use Rattle.page_holds.specs.Orders.{facts_there, OrdersNext}
use Rattle.page_holds.specs.Rows.{Asks, CameOut, IsBegun, PageBecomes, RowChanges, is_asked, taking_at, RowBegins, RowCameOut}
use Rattle.page_holds.specs.Steps.{Took, asks_for, is_taken, is_to_hold, outcome_for, outcome_of, said}
use Rattle.page_holds.specs.declared.place.HoldStep.{HoldStep}
use Rattle.page_holds.specs.declared.place.Taking.{Taking}
use Rattle.page_holds.specs.declared.place.Taking.TheVariants.{Refused as NotTaken, Watched, Guarded as TakenGuarded, Aside as TakenAside}
use Rattle.page_holds.specs.declared.rows.run.RowOrder.{RowOrder}
use Rattle.page_lender.specs.Calls.{IsDone, IsOrdered, order_due}
use Rattle.page_lender.specs.Decisions.{is_busy, is_given as is_order, shows, waiting}
use Rattle.page_lender.specs.declared.bars.Bars.{Bars}
use Rattle.page_lender.specs.declared.belief.Belief.{Belief}
use Rattle.page_lender.specs.declared.belief.Target.TheVariants.{Frame}
use Rattle.page_lender.specs.declared.order.Notice.TheVariants.{Written}
use Rattle.page_lender.specs.declared.order.Order.{Order}
use Rattle.page_lender.specs.declared.order.Order.TheVariants.{Map}
use Rattle.page_lender.specs.declared.order.Outcome.{Outcome}
use Rattle.page_lender.specs.declared.order.Outcome.TheVariants.{Done, Lent, Refused, Unknown}
use Rattle.page_looks.specs.Steps.{NotesMemory, has_again, has_memory}
use Rattle.page_looks.specs.declared.finds.step.FindOutcome.{FindOutcome}
use Rattle.page_looks.specs.declared.finds.step.Memory.{Memory}
use Rattle.part_scans.specs.Scans.{BeginsAt, FollowsAt, GoesOn, GoesOnAt, IsTaken, follows, is_beside, memory_at, no_outcome, sight_at, takes as takes_page, RowGoes}
use Rattle.part_scans.specs.Seen.{has_step, seen_in}
use Rattle.part_scans.specs.declared.scan.Scan.{Scan}
use Rattle.std.proofs.Common.{◌≡◌, ◌∙◌, ℕ, zero, suc, ◌+◌, ◌-◌, ◌<◌, ◌≤◌, ◌⊎◌, inl, inr, Bool, true, false, not, ◌&&◌, ◌||◌, cond, List, [], ◌∷◌, ◌++◌, length, Some, None, refl, ap, sym, subst, arith}
use Rattle.std.proofs.Math.Seq.{set-append_seam}
use Rattle.std.proofs.lemmas.Bool.{cases_lt, eqb-false, eqb-true, leb-true}
use Rattle.std.proofs.lemmas.Option.{slice_get-get_or, slice_get_within}
use Rattle.std.specs.Prelude.{Option, nat_eq, nat_le, nat_lt, slice_get, slice_index_or, slice_set}
use Rattle.window_events.specs.Windows.{Mappings, is_bare}
use Rattle.window_events.specs.declared.page.Page.{Page}
use Rattle.window_pages.specs.Bytes.{belief_of, known_of}
use Rattle.window_pages.specs.Changed.{given_back, lender_with, Lends}
use Rattle.window_pages.specs.Counted.{counts_then}
use Rattle.window_pages.specs.Known.{bars_of, chosen_as, lender_of, no_bars, takes}
use Rattle.window_pages.specs.Laws.{no_counts}
use Rattle.window_pages.specs.Lives.{OneChanges}
use Rattle.window_pages.specs.declared.counts.PartCounts.{PartCounts}
use Rattle.window_pages.specs.declared.facts.WindowFacts.{WindowFacts}
use Rattle.window_pages.specs.declared.page.WindowPage.{WindowPage}
use Rattle.window_tables.proofs.Places.{set_length, set_other, set_own}
use Rattle.window_tables.specs.Changes.{Changed, IsBehind, NowBegins, RangeChanged, marks}
use Rattle.window_tables.specs.Facts.{facts_at}
use Rattle.window_tables.specs.Homes.{Both, Changes, HasMoved, HearsWritten, IsCalled, IsCopied, IsForgotten, IsHome, OneMemory, hears}
use Rattle.window_tables.specs.Tables.{can_note, Notes}
use Rattle.window_tables.specs.declared.changes.Change.{Change}
use Rattle.window_tables.specs.declared.changes.Change.TheVariants.{Uncovered}
use Rattle.window_tables.specs.declared.facts.TableFacts.{TableFacts}
use Rattle.lending_laws.specs.Histories as made
use Rattle.lending_laws.specs.Lender as call
use Rattle.lending_laws.specs.Lender.{AreSo, AreTruly, Called, CopiesAreSo, CopyIsSo, EachCallGoesOn, HomesAreSo, IsSo, IsSoOf, LoanIsSo, row_outcome}
use Rattle.page_holds.specs.declared.place.HoldStep.TheVariants as Hold

-- A window goes from one moment to another by calls, and by outcomes that are told. Nothing else happens meanwhile.
pub data Goes (may_give : (ℕ → Bool) → ℕ → Bool) (first : ℕ) (old : Moment) : Moment → Type 0 where
  goes_stays : Goes may_give first old old
  goes_calls : (now new : Moment) (i : ℕ) → Goes may_give first old now → CallsAt first i now new → Goes may_give first old new
  goes_told : (now new : Moment) (i : ℕ) → Goes may_give first old now → IsToldAt may_give i now new → Goes may_give first old new

-- So a window gets these pages, while what was stored and the mappings stay.
pub record Reaches (may_give : (ℕ → Bool) → ℕ → Bool) (first : ℕ) (old : Moment) (pages : List WindowPage) : Type 0 where
  pub new : Moment
  pub goes : Goes may_give first old new
  pub has : new.pages ≡ pages
  pub stored : new.stored ≡ old.stored
  pub world : new.world ≡ old.world

-- what a window goes to is a moment of its history
abbrev pub EachIsHistory : Type 0
EachIsHistory =
    (may_give : (ℕ → Bool) → ℕ → Bool) (first count : ℕ) (old new : Moment) → History may_give first count old → Goes may_give first old new → History may_give first count new

-- Something is noted of many pages: the window goes there by calls.
abbrev pub EachNoteGoes : Type 0
EachNoteGoes =
    (may_give : (ℕ → Bool) → ℕ → Bool) (first count lead from n : ℕ) (change : Change) (m : Moment) (new : List WindowPage) (parts parts_new : List PartCounts) → IsKept first count m →
    Notes change lead from n true m.pages new parts parts_new → AreTruly change first from n m → Reaches may_give first m new

-- A part gets one memory: its pages' lenders hear that, and other memory is noted of them.
abbrev pub EachOneMemoryGoes : Type 0
EachOneMemoryGoes =
    (may_give : (ℕ → Bool) → ℕ → Bool) (first count from n : ℕ) (m : Moment) (new : List WindowPage) → IsKept first count m → OneMemory from n m.pages new → AreTruly (Uncovered true) first from n m → Reaches may_give first m new

-- A row begins: what came of the attempt to hold each of its pages is told.
abbrev pub EachRowGoes : Type 0
EachRowGoes =
    (may_give : (ℕ → Bool) → ℕ → Bool) (first lead from : ℕ) (takings : List ℕ) (m : Moment) (new : List WindowPage) (parts parts_new : List PartCounts) (row row_new : List ℕ) →
    RowBegins lead from takings true m.pages new parts parts_new row row_new →
    AreSo may_give m from 0 (length row) (λ n x. asks_for (belief_of x) (taking_at takings n)) → Reaches may_give first m new

-- Pages of a row get their orders.
abbrev pub EachRowOrderGoes : Type 0
EachRowOrderGoes =
    (may_give : (ℕ → Bool) → ℕ → Bool) (first lead from : ℕ) (table : TableFacts) (pins row : List ℕ) (order : RowOrder) (m : Moment) (new : List WindowPage) (parts parts_new : List PartCounts) →
    OrdersNext table pins lead from row order m.pages new parts parts_new → Reaches may_give first m new

-- What came of a step of a row is told.
abbrev pub EachRowStepGoes : Type 0
EachRowStepGoes =
    (may_give : (ℕ → Bool) → ℕ → Bool) (first lead from begin done refused : ℕ) (m : Moment) (new : List WindowPage) (parts parts_new : List PartCounts) (row row_new : List ℕ) →
    RowCameOut lead from begin done refused true m.pages new parts parts_new row row_new → AreSo may_give m from begin (done + refused) (row_outcome row begin done) → Reaches may_give first m new

-- Pages that are to be copied are chosen, and get their orders.
abbrev pub EachChoiceGoes : Type 0
EachChoiceGoes =
    (may_give : (ℕ → Bool) → ℕ → Bool) (first lead number fingerprint answer : ℕ) (facts : WindowFacts) (is_ready : Bool) (m : Moment) (new : List WindowPage) (parts parts_new : List PartCounts) →
    Turn (ToCopy facts is_ready fingerprint) lead number answer m.pages new parts parts_new → Reaches may_give first m new

-- What came of a copy is told.
abbrev pub EachCopyGoes : Type 0
EachCopyGoes =
    (may_give : (ℕ → Bool) → ℕ → Bool) (first lead number answer : ℕ) (facts : WindowFacts) (came : CopyOutcome) (m : Moment) (new : List WindowPage) (parts parts_new : List PartCounts) →
    Turn (λ said x y p q. CameOfCopy facts said x y p q came) lead number answer m.pages new parts parts_new → CopyIsSo may_give m number came → Reaches may_give first m new

-- What a host said is told.
abbrev pub EachLoanGoes : Type 0
EachLoanGoes =
    (may_give : (ℕ → Bool) → ℕ → Bool) (first lead number frames answer : ℕ) (reply : LoanReply) (m : Moment) (new : List WindowPage) (parts parts_new : List PartCounts) →
    Turn (λ said x y p q. CameOfLoan frames said x y p q reply) lead number answer m.pages new parts parts_new → LoanIsSo may_give m number reply → Reaches may_give first m new

-- Slots are ordered to be released.
abbrev pub EachReleaseOrderGoes : Type 0
EachReleaseOrderGoes =
    (may_give : (ℕ → Bool) → ℕ → Bool) (first lead place room count count_new : ℕ) (facts : WindowFacts) (pins : List ℕ) (m : Moment) (new : List WindowPage) (parts parts_new : List PartCounts) (places places_new : List ℕ) →
    FindsAt facts pins lead place room count count_new m.pages new parts parts_new places places_new → Reaches may_give first m new

-- What came of the message that released them is told.
abbrev pub EachReleaseGoes : Type 0
EachReleaseGoes =
    (may_give : (ℕ → Bool) → ℕ → Bool) (first lead number answer : ℕ) (outcome : Outcome) (m : Moment) (new : List WindowPage) (parts parts_new : List PartCounts) →
    Turn (λ said x y p q. Told outcome x y p q) lead number answer m.pages new parts parts_new → IsSoOf may_give m number outcome → Reaches may_give first m new

-- A scan of pages of a part begins.
abbrev pub EachScanGoes : Type 0
EachScanGoes =
    (may_give : (ℕ → Bool) → ℕ → Bool) (first lead from n : ℕ) (scan : Scan) (table : TableFacts) (pins memory row row_new : List ℕ) (all : Bool) (m : Moment) (new : List WindowPage) (parts parts_new : List PartCounts) →
    RowGoes (BeginsAt scan table pins from all memory) lead from n true m.pages new parts parts_new row row_new → Reaches may_give first m new

-- What came of a step of each of its pages is taken.
abbrev pub EachScanStepGoes : Type 0
EachScanStepGoes =
    (may_give : (ℕ → Bool) → ℕ → Bool) (first count lead from n : ℕ) (scan : Scan) (outcomes : List FindOutcome) (row row_new : List ℕ) (m : Moment) (new : List WindowPage) (parts parts_new : List PartCounts) → IsKept first count m →
    RowGoes (GoesOnAt scan from outcomes) lead from n true m.pages new parts parts_new row row_new → CopiesAreSo first from m outcomes → Reaches may_give first m new

-- It follows changes to pages beside those that changed.
abbrev pub EachFollowGoes : Type 0
EachFollowGoes =
    (may_give : (ℕ → Bool) → ℕ → Bool) (first lead from n : ℕ) (scan : Scan) (table : TableFacts) (pins memory before row row_new : List ℕ) (m : Moment) (new : List WindowPage) (parts parts_new : List PartCounts) →
    RowGoes (FollowsAt scan table pins from memory before) lead from n true m.pages new parts parts_new row row_new → Reaches may_give first m new

-- Pages that show frames get orders to show none.
abbrev pub EachHomeOrderGoes : Type 0
EachHomeOrderGoes =
    (may_give : (ℕ → Bool) → ℕ → Bool) (first lead from n : ℕ) (table : TableFacts) (pins : List ℕ) (why : WindowFacts) (m : Moment) (new : List WindowPage) (parts parts_new : List PartCounts) →
    Changes (λ j. IsCalled (facts_at table pins why (from + j))) lead from n true m.pages new parts parts_new → Reaches may_give first m new

-- They were refused that.
abbrev pub EachHomeRefusalGoes : Type 0
EachHomeRefusalGoes =
    (may_give : (ℕ → Bool) → ℕ → Bool) (first lead from n : ℕ) (m : Moment) (new : List WindowPage) (parts parts_new : List PartCounts) →
    Changes (λ j. IsHome Refused) lead from n true m.pages new parts parts_new → HomesAreSo may_give m from n Refused → Reaches may_give first m new

-- Other memory was moved to their places.
abbrev pub EachHomeMoveGoes : Type 0
EachHomeMoveGoes =
    (may_give : (ℕ → Bool) → ℕ → Bool) (first lead from n : ℕ) (m : Moment) (new : List WindowPage) (parts parts_new : List PartCounts) →
    Changes (λ j. HasMoved) lead from n true m.pages new parts parts_new → HomesAreSo may_give m from n Done → Reaches may_give first m new

-- They got copies of their own where they are.
abbrev pub EachHomeCopyGoes : Type 0
EachHomeCopyGoes =
    (may_give : (ℕ → Bool) → ℕ → Bool) (first lead from n : ℕ) (m : Moment) (new : List WindowPage) (parts parts_new : List PartCounts) →
    Changes (λ j. IsCopied) lead from n true m.pages new parts parts_new → HomesAreSo may_give m from n Done → Reaches may_give first m new

pub each_is_history : EachIsHistory
each_is_history may_give first count old is h goes_stays = h
each_is_history may_give first count old is h (goes_calls now next i g c) = calls now is i (each_is_history may_give first count old now h g) c
each_is_history may_give first count old is h (goes_told now next i g t) = is_told now is i (each_is_history may_give first count old now h g) t

-- and what is kept at each moment stays
pub goes_kept : (may_give : (ℕ → Bool) → ℕ → Bool) (first count : ℕ) (old new : Moment) → IsKept first count old → Goes may_give first old new → IsKept first count new
goes_kept g first count old is h goes_stays = h
goes_kept g first count old is h (goes_calls now next i s c) = calls_kept first count now is i (goes_kept g first count old now h s) c
goes_kept g first count old is h (goes_told now next i s t) = told_kept first count g now is i (goes_kept g first count old now h s) t

-- ---- one page of a list becomes another

pub one_changes : (xs : List WindowPage) (i : ℕ) (x y : WindowPage) → slice_get xs i ≡ Some x → OneChanges i x y xs (slice_set xs i y)
one_changes xs i x y e = record {
  before = e;
  after = set_own xs i x y e;
  others = λ j n. set_other xs i j y (λ s. n (sym s));
  count = set_length xs i y;
}

-- what is pending of one page becomes this
abbrev pub with_pending : ℕ → Pending → (ℕ → Pending) → ℕ → Pending
with_pending i pending orders j = cond (nat_eq j i) pending (orders j)

own_pending : (i : ℕ) (pending before : Pending) → cond (nat_eq i i) pending before ≡ pending
own_pending i pending before = pick (nat_eq i i) refl where
  pick : (b : Bool) → nat_eq i i ≡ b → cond b pending before ≡ pending
  pick true e = refl
  pick false e = absurd (eqb-false i i e refl)

pub other_pending : (i j : ℕ) (pending before : Pending) → (j ≡ i → ⊥) → cond (nat_eq j i) pending before ≡ before
other_pending i j pending before n = pick (nat_eq j i) refl where
  pick : (b : Bool) → nat_eq j i ≡ b → cond b pending before ≡ before
  pick true e = absurd (n (eqb-true j i e))
  pick false e = refl

pub one_is : (i : ℕ) (pending : Pending) (orders : ℕ → Pending) → OneIs i pending orders (with_pending i pending orders)
one_is i pending orders = record { own = own_pending i pending (orders i); others = λ j n. other_pending i j pending (orders j) n }

-- a moment after a call for one page
abbrev pub after_call : Moment → ℕ → WindowPage → Pending → Moment
after_call m i y pending = record m { pages = slice_set m.pages i y; orders = with_pending i pending m.orders }

pub call_at : (first i : ℕ) (m : Moment) (x y : WindowPage) (pending : Pending) → slice_get m.pages i ≡ Some x → Calls (first + i) m.world x (m.orders i) y pending →
    CallsAt first i m (after_call m i y pending)
call_at first i m x y pending e c = record {
  before = x;
  after = y;
  pages = one_changes m.pages i x y e;
  pending = pending;
  call = c;
  orders = one_is i pending m.orders;
  slots = refl;
  stored = refl;
  world = refl;
}

-- ---- many pages

-- The page at a place becomes this by calls and outcomes. Orders of other pages stay.
pub record Turns (may_give : (ℕ → Bool) → ℕ → Bool) (first : ℕ) (old : Moment) (i : ℕ) (y : WindowPage) : Type 0 where
  pub new : Moment
  pub goes : Goes may_give first old new
  pub has : new.pages ≡ slice_set old.pages i y
  pub others : (j : ℕ) → (j ≡ i → ⊥) → new.orders j ≡ old.orders j
  pub stored : new.stored ≡ old.stored
  pub world : new.world ≡ old.world

pub joined : (may_give : (ℕ → Bool) → ℕ → Bool) (first : ℕ) (a b c : Moment) → Goes may_give first a b → Goes may_give first b c → Goes may_give first a c
joined g first a b c s goes_stays = s
joined g first a b c s (goes_calls now next i t e) = goes_calls now c i (joined g first a b now s t) e
joined g first a b c s (goes_told now next i t e) = goes_told now c i (joined g first a b now s t) e

-- a turn by one call
pub one_call : (may_give : (ℕ → Bool) → ℕ → Bool) (first i : ℕ) (m : Moment) (x y : WindowPage) (pending : Pending) → slice_get m.pages i ≡ Some x → Calls (first + i) m.world x (m.orders i) y pending →
    Turns may_give first m i y
one_call g first i m x y pending e c = record {
  new = after_call m i y pending;
  goes = goes_calls m (after_call m i y pending) i goes_stays (call_at first i m x y pending e c);
  has = refl;
  others = λ j n. other_pending i j pending (m.orders j) n;
  stored = refl;
  world = refl;
}

-- what each turn of a list needs: the page that was there first, and whose order is as it was
abbrev pub CanTurn : ((ℕ → Bool) → ℕ → Bool) → ℕ → Moment → ℕ → WindowPage → WindowPage → Type 0
CanTurn g first m i x y = (k : Moment) → k.world ≡ m.world → k.stored ≡ m.stored → k.orders i ≡ m.orders i → slice_get k.pages i ≡ Some x → Turns g first k i y

seam_get : (pre xs : List WindowPage) (x : WindowPage) → slice_get (pre ++ x ∷ xs) (length pre) ≡ Some x
seam_get [] xs x = refl
seam_get (p ∷ pre) xs x = seam_get pre xs x

one_more : (pre xs : List WindowPage) (y : WindowPage) → (pre ++ y ∷ []) ++ xs ≡ pre ++ y ∷ xs
one_more [] xs y = refl
one_more (p ∷ pre) xs y = ap (λ l. p ∷ l) (one_more pre xs y)

one_longer : (pre : List WindowPage) (y : WindowPage) → length (pre ++ y ∷ []) ≡ suc (length pre)
one_longer [] y = refl
one_longer (p ∷ pre) y = ap suc (one_longer pre y)

rest_goes : (g : (ℕ → Bool) → ℕ → Bool) (first : ℕ) (m now : Moment) (pre xs ys : List WindowPage) → Goes g first m now → now.pages ≡ pre ++ xs → now.stored ≡ m.stored → now.world ≡ m.world →
    ((j : ℕ) → now.orders (length pre + j) ≡ m.orders (length pre + j)) → length xs ≡ length ys →
    ((j : ℕ) (x y : WindowPage) → slice_get xs j ≡ Some x → slice_get ys j ≡ Some y → CanTurn g first m (length pre + j) x y) → Reaches g first m (pre ++ ys)
rest_goes g first m now pre [] [] s is stored world orders l turns = record { new = now; goes = s; has = is; stored = stored; world = world }
rest_goes g first m now pre [] (y ∷ ys) s is stored world orders l turns = cc
rest_goes g first m now pre (x ∷ xs) [] s is stored world orders l turns = cc
rest_goes g first m now pre (x ∷ xs) (y ∷ ys) s is stored world orders l turns =
    let at : length pre + 0 ≡ length pre = omega arith in
    let here : slice_get now.pages (length pre) ≡ Some x = subst (λ v. slice_get v (length pre) ≡ Some x) (sym is) (seam_get pre xs x) in
    let can : CanTurn g first m (length pre) x y = subst (λ i. CanTurn g first m i x y) at (turns 0 x y refl refl) in
    let order : now.orders (length pre) ≡ m.orders (length pre) = subst (λ i. now.orders i ≡ m.orders i) at (orders 0) in
    let t : Turns g first now (length pre) y = can now world stored order here in
    let pages : t.new.pages ≡ (pre ++ y ∷ []) ++ xs = t.has ∙ ap (λ v. slice_set v (length pre) y) is ∙ set-append_seam pre x xs y ∙ sym (one_more pre xs y) in
    let shift : (j : ℕ) → length pre + suc j ≡ length (pre ++ y ∷ []) + j = λ j. omega (arith, one_longer pre y) in
    let apart : (j : ℕ) → length (pre ++ y ∷ []) + j ≡ length pre → ⊥ = λ j e. omega (arith, one_longer pre y, e) in
    let more : (j : ℕ) → t.new.orders (length (pre ++ y ∷ []) + j) ≡ m.orders (length (pre ++ y ∷ []) + j) =
    λ j. t.others (length (pre ++ y ∷ []) + j) (apart j) ∙ subst (λ i. now.orders i ≡ m.orders i) (shift j) (orders (suc j)) in
    let rest : (j : ℕ) (a b : WindowPage) → slice_get xs j ≡ Some a → slice_get ys j ≡ Some b → CanTurn g first m (length (pre ++ y ∷ []) + j) a b =
    λ j a b e f. subst (λ i. CanTurn g first m i a b) (shift j) (turns (suc j) a b e f) in
    let r : Reaches g first m ((pre ++ y ∷ []) ++ ys) = rest_goes g first m t.new (pre ++ y ∷ []) xs ys (joined g first m now t.new s t.goes) pages (t.stored ∙ stored) (t.world ∙ world) more (suc_same xs ys l) rest in
    subst (λ v. Reaches g first m v) (one_more pre ys y) r
  where
    suc_same : (xs ys : List WindowPage) → suc (length xs) ≡ suc (length ys) → length xs ≡ length ys
    suc_same xs ys e = omega (arith, e)

-- where each page of a window can become what it is in a list, the window gets these pages
pub each_goes : (g : (ℕ → Bool) → ℕ → Bool) (first : ℕ) (m : Moment) (new : List WindowPage) → length m.pages ≡ length new →
    ((i : ℕ) (x y : WindowPage) → slice_get m.pages i ≡ Some x → slice_get new i ≡ Some y → CanTurn g first m i x y) → Reaches g first m new
each_goes g first m new l turns = rest_goes g first m m [] m.pages new goes_stays refl refl refl (λ j. refl) l
    (λ j x y e f. subst (λ i. CanTurn g first m i x y) (from j) (turns j x y e f)) where
      from : (j : ℕ) → j ≡ 0 + j
      from j = omega arith

-- ---- what is noted of many pages

some_same : (x y : WindowPage) → Some x ≡ Some y → x ≡ y
some_same x y e = cc

-- a page that stays does by a call
pub stays_call : (p : ℕ) (w : Mappings) (pending : Pending) (x y : WindowPage) → y ≡ x → Calls p w x pending y pending
stays_call p w pending x y e = known_stays p w pending x y (ap known_of e)

begins_call : (p : ℕ) (w : Mappings) (pending : Pending) (x y : WindowPage) → NowBegins x y → Calls p w x pending y pending
begins_call p w pending x y b = notes x y pending (record {
  belief = ap (λ k. k.belief) b.known;
  ordered = ap (λ k. k.ordered) b.known;
  place = λ page o f l. absurd (not_both (known_of y).over (ap (λ k. k.over) b.known ∙ o) f);
}) where
  not_both : (b : Bool) → b ≡ true → b ≡ false → ⊥
  not_both b e f = cc

behind_call : (change : Change) (count p : ℕ) (w : Mappings) (pending : Pending) (x y : WindowPage) → IsBehind change count x y → Calls p w x pending y pending
behind_call change count p w pending x y b = pick (marks change count) refl where
  pick : (m : Bool) → marks change count ≡ m → Calls p w x pending y pending
  pick true e = begins_call p w pending x y (b.begins e)
  pick false e = stays_call p w pending x y (b.same e)

note_call : (first count from n : ℕ) (change : Change) (m : Moment) (new : List WindowPage) → IsKept first count m → RangeChanged change from n m.pages new → AreTruly change first from n m →
    (i : ℕ) (pending : Pending) (x y : WindowPage) → slice_get m.pages i ≡ Some x → slice_get new i ≡ Some y → Calls (first + i) m.world x pending y pending
note_call first count from n change m new kept r t i pending x y e f = elim (cases_lt i from) [
  | inl below ↦ stays_call (first + i) m.world pending x y (some_same y x (sym f ∙ r.outside i (inl below) ∙ e))
  | inr above ↦ elim (cases_lt i (from + n)) [
    | inl inside ↦ within (i - from) (omega (arith, above)) (omega (arith, above, inside))
    | inr past ↦ elim (cases_lt (from + n) i) [
      | inl beyond ↦ stays_call (first + i) m.world pending x y (some_same y x (sym f ∙ r.outside i (inr beyond) ∙ e))
      | inr edge ↦ at_edge (omega (arith, past, edge))
    ]
  ]
] where
  its : (j : ℕ) → from + j ≡ i → Reads m.world (first + i) (m.stored (first + i))
  its j s = kept.reads i (omega (arith, slice_get_within m.pages i x e, kept.many))

  within : (j : ℕ) → from + j ≡ i → j < n → Calls (first + i) m.world x pending y pending
  within j s l =
      let got : slice_get m.pages (from + j) ≡ Some x = subst (λ v. slice_get m.pages v ≡ Some x) (sym s) e in
      let gets : slice_get new (from + j) ≡ Some y = subst (λ v. slice_get new v ≡ Some y) (sym s) f in
      let truly : IsTruly change (first + i) m.world = subst (λ v. IsTruly change (first + v) m.world) s (t j l) in
      each_note_is_a_call change j (first + i) m.world x y pending (its j s).page (r.inside j x y l got gets) (its j s).there truly

  at_edge : from + n ≡ i → Calls (first + i) m.world x pending y pending
  at_edge s = behind_call change n (first + i) m.world pending x y
      (r.behind x y (subst (λ v. slice_get m.pages v ≡ Some x) (sym s) e) (subst (λ v. slice_get new v ≡ Some y) (sym s) f))

-- something becomes of a range of pages, and is so
range_goes : (g : (ℕ → Bool) → ℕ → Bool) (first count from n : ℕ) (change : Change) (m : Moment) (new : List WindowPage) → IsKept first count m → RangeChanged change from n m.pages new → AreTruly change first from n m → Reaches g first m new
range_goes g first count from n change m new kept r t =
    each_goes g first m new (sym r.length) (λ i x y e f k w s o at.
    one_call g first i k x y (k.orders i) at (subst (λ v. Calls (first + i) v x (k.orders i) y (k.orders i)) (sym w) (note_call first count from n change m new kept r t i (k.orders i) x y e f)))

pub each_note_goes : EachNoteGoes
each_note_goes g first count lead from n change m new parts parts_new kept noted t = range_goes g first count from n change m new kept (noted.pages refl) t

-- ---- rows

-- where pages of a range become what this says, and each can turn to that
pub changed_goes : (g : (ℕ → Bool) → ℕ → Bool) (first from count : ℕ) (m : Moment) (new : List WindowPage) (Becomes : ℕ → WindowPage → WindowPage → Type 0) → Changed Becomes from count m.pages new →
    ((n : ℕ) (x y : WindowPage) → n < count → slice_get m.pages (from + n) ≡ Some x → Becomes n x y → CanTurn g first m (from + n) x y) → Reaches g first m new
changed_goes g first from count m new Becomes r can = each_goes g first m new (sym r.length) turn where
  stays : (i : ℕ) (x y : WindowPage) → y ≡ x → CanTurn g first m i x y
  stays i x y s k w o p at = one_call g first i k x y (k.orders i) at (stays_call (first + i) k.world (k.orders i) x y s)

  within : (i : ℕ) (x y : WindowPage) → slice_get m.pages i ≡ Some x → slice_get new i ≡ Some y → (n : ℕ) → from + n ≡ i → n < count → CanTurn g first m i x y
  within i x y e f n s l =
      let got : slice_get m.pages (from + n) ≡ Some x = subst (λ v. slice_get m.pages v ≡ Some x) (sym s) e in
      let gets : slice_get new (from + n) ≡ Some y = subst (λ v. slice_get new v ≡ Some y) (sym s) f in
      subst (λ v. CanTurn g first m v x y) s (can n x y l got (r.inside n x y l got gets))

  turn : (i : ℕ) (x y : WindowPage) → slice_get m.pages i ≡ Some x → slice_get new i ≡ Some y → CanTurn g first m i x y
  turn i x y e f = elim (cases_lt i from) [
    | inl below ↦ stays i x y (some_same y x (sym f ∙ r.outside i (inl below) ∙ e))
    | inr above ↦ elim (cases_lt i (from + count)) [
      | inl inside ↦ within i x y e f (i - from) (omega (arith, above)) (omega (arith, above, inside))
      | inr past ↦ stays i x y (some_same y x (sym f ∙ r.outside i (inr past) ∙ e))
    ]
  ]

-- the same of pages of a row, with their bytes
pub row_goes : (g : (ℕ → Bool) → ℕ → Bool) (first from begin count : ℕ) (m : Moment) (new : List WindowPage) (row row_new : List ℕ) (Becomes : ℕ → ℕ → ℕ → WindowPage → WindowPage → Type 0) →
    RowChanges Becomes from begin count m.pages new row row_new → begin + count ≤ length row →
    ((n c : ℕ) (x y : WindowPage) → n < count → slice_get m.pages (from + (begin + n)) ≡ Some x → Becomes n (slice_index_or row (begin + n) 0) c x y → CanTurn g first m (from + (begin + n)) x y) → Reaches g first m new
row_goes g first from begin count m new row row_new Becomes r fits can =
    changed_goes g first (from + begin) count m new (λ n x y. (c : ℕ) × Becomes n (slice_index_or row (begin + n) 0) c x y) (record {
      length = r.length;
      inside = λ n x y l e f. inside n x y l e f;
      outside = λ i o. r.outside i (outside i o);
    }) (λ n x y l e b. subst (λ v. CanTurn g first m v x y) (place n) (can n b.0 x y l (subst (λ v. slice_get m.pages v ≡ Some x) (sym (place n)) e) b.1)) where
      place : (n : ℕ) → from + (begin + n) ≡ from + begin + n
      place n = omega arith

      outside : (i : ℕ) → (i < from + begin) ⊎ (from + begin + count ≤ i) → (i < from + begin) ⊎ (from + (begin + count) ≤ i)
      outside i (inl l) = inl l
      outside i (inr l) = inr (omega (arith, l))

      byte_in : (xs : List ℕ) (i : ℕ) → i < length xs → slice_get xs i ≡ Some (slice_index_or xs i 0)
      byte_in xs i l = slice_get-get_or xs i 0 l

      inside : (n : ℕ) (x y : WindowPage) → n < count → slice_get m.pages (from + begin + n) ≡ Some x → slice_get new (from + begin + n) ≡ Some y → (c : ℕ) × Becomes n (slice_index_or row (begin + n) 0) c x y
      inside n x y l e f =
          let there : begin + n < length row = omega (arith, l, fits) in
          let there_new : begin + n < length row_new = omega (arith, l, fits, r.bytes) in (
            slice_index_or row_new (begin + n) 0,
            r.inside n (slice_index_or row (begin + n) 0) (slice_index_or row_new (begin + n) 0) x y l (byte_in row (begin + n) there) (byte_in row_new (begin + n) there_new)
                (subst (λ v. slice_get m.pages v ≡ Some x) (sym (place n)) e) (subst (λ v. slice_get new v ≡ Some y) (sym (place n)) f),
          )

-- an outcome with which a host gives no slot
no_loan : Outcome → Bool
no_loan Done = true
no_loan (Lent slot n) = false
no_loan Refused = true
no_loan Unknown = true

gives_any : (g : (ℕ → Bool) → ℕ → Bool) (slots : ℕ → Bool) (its : Outcome) → no_loan its ≡ true → GivesWhatItMay g slots its
unfolding no_loan
gives_any g slots Done e = tt
gives_any g slots (Lent slot n) e = cc
gives_any g slots Refused e = tt
gives_any g slots Unknown e = tt

-- a turn by an outcome that is told
told_as : (g : (ℕ → Bool) → ℕ → Bool) (first i : ℕ) (k : Moment) (x y : WindowPage) (its : Outcome) (part after : PartCounts) (order : Order) → IsTold its order (k.orders i) →
    ((slot n : ℕ) → k.orders i ≡ CarriedOut (Map (Frame slot n)) → (known_of x).over ≡ true) → GivesWhatItMay g k.slots its → Lends (IsDone its) no_bars x y part after → slice_get k.pages i ≡ Some x → Turns g first k i y
told_as g first i k x y its part after order t n gives d at =
    let new : Moment = record k { pages = slice_set k.pages i y; orders = with_pending i Nothing k.orders; slots = slots_after order its k.slots } in
    record {
      new = new;
      goes = goes_told k new i goes_stays (record {
        before = x;
        after = y;
        part = part;
        part_after = after;
        pages = one_changes k.pages i x y at;
        order = order;
        outcome = its;
        told = t;
        done = d;
        noted = n;
        gives = gives;
        orders = one_is i Nothing k.orders;
        slots = refl;
        stored = refl;
        world = refl;
      });
      has = refl;
      others = λ j m. other_pending i j Nothing (k.orders j) m;
      stored = refl;
      world = refl;
    }

told_turn : (g : (ℕ → Bool) → ℕ → Bool) (first i : ℕ) (m : Moment) (x y : WindowPage) (its : Outcome) (part after : PartCounts) → no_loan its ≡ true → IsSo g m i x its → Lends (IsDone its) no_bars x y part after → CanTurn g first m i x y
told_turn g first i m x y its part after free so d k w o p at =
    told_as g first i k x y its part after so.order (subst (λ v. IsTold its so.order v) (sym p) so.told) (λ slot n e. so.noted slot n (sym p ∙ e)) (gives_any g k.slots its free) d at

told_now : (g : (ℕ → Bool) → ℕ → Bool) (first i : ℕ) (m : Moment) (x y : WindowPage) (its : Outcome) (part after : PartCounts) → IsSo g m i x its → Lends (IsDone its) no_bars x y part after → slice_get m.pages i ≡ Some x → Turns g first m i y
told_now g first i m x y its part after so d at = told_as g first i m x y its part after so.order so.told so.noted so.gives d at

-- what a step of a hold takes
took_turn : (g : (ℕ → Bool) → ℕ → Bool) (first i : ℕ) (m : Moment) (x y : WindowPage) (outcome : Option Outcome) (part after : PartCounts) → Took outcome x y part after →
    ((its : Outcome) → outcome ≡ Some its → no_loan its ≡ true) → ((its : Outcome) → outcome ≡ Some its → takes its (known_of x) ≡ true → IsSo g m i x its) → CanTurn g first m i x y
took_turn g first i m x y outcome part after t free so = pick outcome (is_taken outcome (known_of x)) refl t free so where
  pick : (o : Option Outcome) (is : Bool) → is_taken o (known_of x) ≡ is → Took o x y part after → ((its : Outcome) → o ≡ Some its → no_loan its ≡ true) →
      ((its : Outcome) → o ≡ Some its → takes its (known_of x) ≡ true → IsSo g m i x its) → CanTurn g first m i x y
  pick o false e t free so = λ k w s p at. one_call g first i k x y (k.orders i) at (stays_call (first + i) k.world (k.orders i) x y (t.page e))
  pick None true e t free so = cc
  pick (Some its) true e t free so = told_turn g first i m x y its part after (free its refl) (so its refl e) (t.done its refl e)

some_no_loan : (a its : Outcome) → Some a ≡ Some its → no_loan a ≡ true → no_loan its ≡ true
some_no_loan a its e h = subst (λ v. no_loan v ≡ true) (same a its e) h where
  same : (a b : Outcome) → Some a ≡ Some b → a ≡ b
  same a b e = cc

asks_no_loan : (belief : Belief) (taking : Taking) (its : Outcome) → asks_for belief taking ≡ Some its → no_loan its ≡ true
unfolding no_loan
asks_no_loan belief taking its e = pick (is_to_hold belief) e where
  taken : (taking : Taking) → no_loan (outcome_of taking) ≡ true
  taken NotTaken = refl
  taken Watched = refl
  taken TakenGuarded = refl
  taken TakenAside = refl

  pick : (b : Bool) → cond b (Some (outcome_of taking)) None ≡ Some its → no_loan its ≡ true
  pick true e = some_no_loan (outcome_of taking) its e (taken taking)
  pick false e = cc

said_no_loan : (is_done : Bool) → no_loan (said is_done) ≡ true
unfolding no_loan
said_no_loan true = refl
said_no_loan false = refl

step_no_loan : (step : HoldStep) (belief : Belief) (is_done : Bool) (its : Outcome) → outcome_for step belief is_done ≡ Some its → no_loan its ≡ true
unfolding no_loan
step_no_loan Hold.Over belief is_done its e = cc
step_no_loan Hold.Compare belief is_done its e = some_no_loan (said is_done) its e (said_no_loan is_done)
step_no_loan Hold.CompareZeros belief is_done its e = some_no_loan (said is_done) its e (said_no_loan is_done)
step_no_loan Hold.Map belief is_done its e = some_no_loan (said is_done) its e (said_no_loan is_done)
step_no_loan Hold.GiveBack belief true its e = cc
step_no_loan Hold.GiveBack belief false its e = some_no_loan Refused its e refl
step_no_loan Hold.PutBack belief true its e = cc
step_no_loan Hold.PutBack belief false its e = pick (waiting belief) e where
  pick : (b : Bool) → cond b (Some Refused) None ≡ Some its → no_loan its ≡ true
  pick true e = some_no_loan Refused its e refl
  pick false e = cc
step_no_loan Hold.EndWatch belief is_done its e = pick (waiting belief) e where
  pick : (b : Bool) → cond b (Some (said is_done)) None ≡ Some its → no_loan its ≡ true
  pick true e = some_no_loan (said is_done) its e (said_no_loan is_done)
  pick false e = cc

pub each_row_goes : EachRowGoes
each_row_goes g first lead from takings m new parts parts_new row row_new b so =
    row_goes g first from 0 (length row) m new row row_new (IsBegun takings) (b.pages refl) (omega arith)
    (λ n c x y l e begun. took_turn g first (from + (0 + n)) m x y (asks_for (belief_of x) (taking_at takings n)) begun.page.part begun.page.part_after begun.page.becomes (λ its a. asks_no_loan (belief_of x) (taking_at takings n) its a) (λ its a t. so n x its l e a t))

pub each_row_step_goes : EachRowStepGoes
each_row_step_goes g first lead from begin done refused m new parts parts_new row row_new b so =
    row_goes g first from begin (done + refused) m new row row_new (CameOut done) (b.pages refl) (omega (arith, fits))
    (λ n c x y l e came. took_turn g first (from + (begin + n)) m x y (row_outcome row begin done n x) came.page.part came.page.part_after came.page.becomes (λ its a. step_no_loan (step_by (belief_of x) (slice_index_or row (begin + n) 0)) (belief_of x) (nat_lt n done) its a) (λ its a t. so n x its l e a t)) where
      right : (one other : Bool) → (one && other) ≡ true → other ≡ true
      right true other e = e
      right false other e = cc

      fits : begin + done + refused ≤ length row
      fits = leb-true (begin + done + refused) (length row) (right (can_note lead from (length row) m.pages parts) (nat_le (begin + done + refused) (length row)) (sym b.taken))

-- a turn by the page's next order
ordered_turn : (g : (ℕ → Bool) → ℕ → Bool) (first i : ℕ) (m : Moment) (facts : WindowFacts) (byte : ℕ) (x y : WindowPage) (part after : PartCounts) → Asks facts byte x y part after → CanTurn g first m i x y
ordered_turn g first i m facts byte x y part after a k w o p at = pick (is_asked byte (belief_of x)) refl where
  pick : (b : Bool) → is_asked byte (belief_of x) ≡ b → Turns g first k i y
  pick true e = one_call g first i k x y (pending_after (order_due (lender_of facts (known_of x))) (k.orders i)) at
      (made.orders x y part after (order_due (lender_of facts (known_of x))) (bars_of facts (known_of x)) (k.orders i) (a.order e))
  pick false e = one_call g first i k x y (k.orders i) at (stays_call (first + i) k.world (k.orders i) x y (a.page e))

pub each_row_order_goes : EachRowOrderGoes
each_row_order_goes g first lead from table pins row order m new parts parts_new n = pick (can_note lead from (length row) m.pages parts) refl where
  pick : (b : Bool) → can_note lead from (length row) m.pages parts ≡ b → Reaches g first m new
  pick true e = changed_goes g first from (length row) m new (λ j. PageBecomes (Asks (facts_there table pins (from + j)) (slice_index_or row j 0))) (n.asked e)
      (λ j x y l at b. ordered_turn g first (from + j) m (facts_there table pins (from + j)) (slice_index_or row j 0) x y b.part b.part_after b.becomes)
  pick false e = record { new = m; goes = goes_stays; has = sym (n.same e); stored = refl; world = refl }

-- ---- turns one after another

set_twice : (xs : List WindowPage) (i : ℕ) (x y : WindowPage) → slice_set (slice_set xs i x) i y ≡ slice_set xs i y
set_twice [] i x y = refl
set_twice (a ∷ xs) zero x y = refl
set_twice (a ∷ xs) (suc i) x y = ap (λ l. a ∷ l) (set_twice xs i x y)

-- a turn behind a call
pub call_then : (g : (ℕ → Bool) → ℕ → Bool) (first i : ℕ) (m : Moment) (x between y : WindowPage) (pending : Pending) → slice_get m.pages i ≡ Some x → Calls (first + i) m.world x (m.orders i) between pending →
    Turns g first (after_call m i between pending) i y → Turns g first m i y
call_then g first i m x between y pending e c u = record {
  new = u.new;
  goes = joined g first m (after_call m i between pending) u.new (goes_calls m (after_call m i between pending) i goes_stays (call_at first i m x between pending e c)) u.goes;
  has = u.has ∙ set_twice m.pages i between y;
  others = λ j n. u.others j n ∙ other_pending i j pending (m.orders j) n;
  stored = u.stored;
  world = u.world;
}

-- two calls, neither of which gives an order
pub two_turn : (g : (ℕ → Bool) → ℕ → Bool) (first i : ℕ) (m : Moment) (x y : WindowPage) → ((pending : Pending) → ChangesByTwo (first + i) m.world pending x y) → CanTurn g first m i x y
two_turn g first i m x y c k w o p at =
    let two : ChangesByTwo (first + i) k.world (k.orders i) x y = subst (λ v. ChangesByTwo (first + i) v (k.orders i) x y) (sym w) (c (k.orders i)) in
    let then : Moment = after_call k i two.middle (k.orders i) in
    let second : Calls (first + i) k.world two.middle (then.orders i) y (then.orders i) =
    subst (λ v. Calls (first + i) k.world two.middle v y v) (sym (own_pending i (k.orders i) (k.orders i))) two.second in
    call_then g first i k x two.middle y (k.orders i) at two.first (one_call g first i then two.middle y (then.orders i) (set_own k.pages i x two.middle at) second)

pub turns_then : (g : (ℕ → Bool) → ℕ → Bool) (first i : ℕ) (m : Moment) (x y : WindowPage) → (t : Turns g first m i x) → Turns g first t.new i y → Turns g first m i y
turns_then g first i m x y t u = record {
  new = u.new;
  goes = joined g first m t.new u.new t.goes u.goes;
  has = u.has ∙ ap (λ v. slice_set v i y) t.has ∙ set_twice m.pages i x y;
  others = λ j n. u.others j n ∙ t.others j n;
  stored = u.stored ∙ t.stored;
  world = u.world ∙ t.world;
}

-- a call behind a turn, whatever is pending then
pub then_call : (g : (ℕ → Bool) → ℕ → Bool) (first i : ℕ) (m : Moment) (x between y : WindowPage) → CanTurn g first m i x between →
    ((pending : Pending) → Calls (first + i) m.world between pending y pending) → CanTurn g first m i x y
then_call g first i m x between y t c k w o p at =
    let one : Turns g first k i between = t k w o p at in
    let there : slice_get one.new.pages i ≡ Some between = subst (λ v. slice_get v i ≡ Some between) (sym one.has) (set_own k.pages i x between at) in
    let second : Calls (first + i) one.new.world between (one.new.orders i) y (one.new.orders i) =
    subst (λ v. Calls (first + i) v between (one.new.orders i) y (one.new.orders i)) (sym (one.world ∙ w)) (c (one.new.orders i)) in
    turns_then g first i k between y one (one_call g first i one.new between y (one.new.orders i) there second)

-- a page that stays
pub stays_turn : (g : (ℕ → Bool) → ℕ → Bool) (first i : ℕ) (m : Moment) (x y : WindowPage) → y ≡ x → CanTurn g first m i x y
stays_turn g first i m x y s k w o p at = one_call g first i k x y (k.orders i) at (stays_call (first + i) k.world (k.orders i) x y s)

-- an order that a page gets
pub order_turn : (g : (ℕ → Bool) → ℕ → Bool) (first i : ℕ) (m : Moment) (x y : WindowPage) (part after : PartCounts) (order : Order) (bars : Bars) → Lends (IsOrdered order) bars x y part after → CanTurn g first m i x y
order_turn g first i m x y part after order bars l k w o p at =
    one_call g first i k x y (pending_after order (k.orders i)) at (made.orders x y part after order bars (k.orders i) l)

-- ---- lists of pages that are lent

-- a step behind a turn
pub and_then : (g : (ℕ → Bool) → ℕ → Bool) (first i : ℕ) (m : Moment) (x between y : WindowPage) → slice_get m.pages i ≡ Some x → (t : Turns g first m i between) → CanTurn g first t.new i between y → Turns g first m i y
and_then g first i m x between y e t c =
    turns_then g first i m between y t (c t.new refl refl refl (subst (λ v. slice_get v i ≡ Some between) (sym t.has) (set_own m.pages i x between e)))

-- a page that stays, or of which no more is known than before
pub stays_now : (g : (ℕ → Bool) → ℕ → Bool) (first i : ℕ) (m : Moment) (x y : WindowPage) → slice_get m.pages i ≡ Some x → known_of y ≡ known_of x → Turns g first m i y
stays_now g first i m x y e s = one_call g first i m x y (m.orders i) e (known_stays (first + i) m.world (m.orders i) x y s)

-- what a turn of a list reaches
turn_reaches : (g : (ℕ → Bool) → ℕ → Bool) (first i : ℕ) (m : Moment) (y : WindowPage) (new : List WindowPage) → Turns g first m i y → new ≡ slice_set m.pages i y → Reaches g first m new
turn_reaches g first i m y new t e = record { new = t.new; goes = t.goes; has = t.has ∙ sym e; stored = t.stored; world = t.world }

pub none_reaches : (g : (ℕ → Bool) → ℕ → Bool) (first : ℕ) (m : Moment) (new : List WindowPage) → new ≡ m.pages → Reaches g first m new
none_reaches g first m new e = record { new = m; goes = goes_stays; has = sym e; stored = refl; world = refl }

-- an outcome that is told if it can be taken
pub told_of : (g : (ℕ → Bool) → ℕ → Bool) (first i : ℕ) (m : Moment) (x y : WindowPage) (its : Outcome) (part after : PartCounts) → slice_get m.pages i ≡ Some x → Told its x y part after → IsSoOf g m i its → Turns g first m i y
told_of g first i m x y its part after e t so = pick (takes its (known_of x)) refl where
  pick : (b : Bool) → takes its (known_of x) ≡ b → Turns g first m i y
  pick true is = told_now g first i m x y its part after (so x e is) (t.done is) e
  pick false is = stays_now g first i m x y e (ap known_of (t.page is))

pub chosen_turn : (g : (ℕ → Bool) → ℕ → Bool) (first i : ℕ) (m : Moment) (x y : WindowPage) (facts : WindowFacts) (zeros : Bool) (order : Order) (part after : PartCounts) → slice_get m.pages i ≡ Some x → ChosenFor (chosen_as zeros) facts order x y part after →
    Turns g first m i y
chosen_turn g first i m x y facts zeros order part after e c =
    let t : Turns g first m i c.between = one_call g first i m x c.between (m.orders i) e
    (made.chooses x c.between part c.part_between zeros (bars_of facts (known_of x)) (m.orders i) c.chosen) in
    and_then g first i m x c.between y e t (order_turn g first i t.new c.between y c.part_between after order (bars_of facts (known_of c.between)) c.ordered)

pub each_choice_goes : EachChoiceGoes
each_choice_goes g first lead number fingerprint answer facts is_ready m new parts parts_new (is_there c) = turn_reaches g first number m c.after new (turn c.becomes) c.changed where
  turn : ToCopy facts is_ready fingerprint answer c.before c.after c.part c.part_after → Turns g first m number c.after
  turn (is_chosen order can chosen said) = chosen_turn g first number m c.before c.after facts false order c.part c.part_after c.is_there chosen
  turn (is_left can said same counts) = stays_now g first number m c.before c.after c.is_there (ap known_of same)
each_choice_goes g first lead number fingerprint answer facts is_ready m new parts parts_new (is_not_there l said same counts) = none_reaches g first m new same

pub copied_turn : (g : (ℕ → Bool) → ℕ → Bool) (first i : ℕ) (m : Moment) (x y : WindowPage) (facts : WindowFacts) (answer : ℕ) (came : CopyOutcome) (part after : PartCounts) → slice_get m.pages i ≡ Some x →
    CameOfCopy facts answer x y part after came → CopyIsSo g m i came → Turns g first m i y
copied_turn g first i m x y facts answer CopyOutcome.Good part after e (is_good order c said) so =
    let t : Turns g first m i c.between = told_of g first i m x c.between Done part c.part_between e c.told so in
    and_then g first i m x c.between y e t (order_turn g first i t.new c.between y c.part_between after order (bars_of facts (known_of c.between)) c.ordered)
copied_turn g first i m x y facts answer CopyOutcome.Changed part after e (is_changed c said) so =
    let t : Turns g first m i c.between = told_of g first i m x c.between Refused part c.part_between e c.told so in
    and_then g first i m x c.between y e t (λ k w o p at. stays_now g first i k c.between y at c.forgotten.known)
copied_turn g first i m x y facts answer CopyOutcome.Zeros part after e (is_zeros t said) so = told_of g first i m x y Refused part after e t so
copied_turn g first i m x y facts answer CopyOutcome.Nothing part after e (is_nothing said same counts) so = stays_now g first i m x y e (ap known_of same)

pub each_copy_goes : EachCopyGoes
each_copy_goes g first lead number answer facts came m new parts parts_new (is_there c) so =
    turn_reaches g first number m c.after new (copied_turn g first number m c.before c.after facts answer came c.part c.part_after c.is_there c.becomes so) c.changed
each_copy_goes g first lead number answer facts came m new parts parts_new (is_not_there l said same counts) so = none_reaches g first m new same

not_lent_turn : (g : (ℕ → Bool) → ℕ → Bool) (first i : ℕ) (m : Moment) (x y : WindowPage) (part after : PartCounts) → slice_get m.pages i ≡ Some x → NotLent x y part after → IsSoOf g m i Refused → Turns g first m i y
not_lent_turn g first i m x y part after e n so =
    let t : Turns g first m i n.between = told_of g first i m x n.between Refused part n.part_between e n.told so in
    and_then g first i m x n.between y e t (λ k w o p at. stays_now g first i k n.between y at n.last.known)

pub loaned_turn : (g : (ℕ → Bool) → ℕ → Bool) (first i : ℕ) (m : Moment) (x y : WindowPage) (frames answer : ℕ) (reply : LoanReply) (part after : PartCounts) → slice_get m.pages i ≡ Some x →
    CameOfLoan frames answer x y part after reply → LoanIsSo g m i reply → Turns g first m i y
loaned_turn g first i m x y frames answer Unheard part after e (is_unheard t said) so = told_of g first i m x y Refused part after e t so
loaned_turn g first i m x y frames answer NoFrame part after e (is_without_frame n said) so = not_lent_turn g first i m x y part after e n so
loaned_turn g first i m x y frames answer NoSlot part after e (is_without_slot n said) so = not_lent_turn g first i m x y part after e n so
loaned_turn g first i m x y frames answer (Loan s f) part after e (is_given slot frame t said) so = told_of g first i m x y (Lent s f) part after e t so

pub each_loan_goes : EachLoanGoes
each_loan_goes g first lead number frames answer reply m new parts parts_new (is_there c) so =
    turn_reaches g first number m c.after new (loaned_turn g first number m c.before c.after frames answer reply c.part c.part_after c.is_there c.becomes so) c.changed
each_loan_goes g first lead number frames answer reply m new parts parts_new (is_not_there l said same counts) so = none_reaches g first m new same

pub each_release_goes : EachReleaseGoes
each_release_goes g first lead number answer outcome m new parts parts_new (is_there c) so =
    turn_reaches g first number m c.after new (told_of g first number m c.before c.after outcome c.part c.part_after c.is_there c.becomes so) c.changed
each_release_goes g first lead number answer outcome m new parts parts_new (is_not_there l said same counts) so = none_reaches g first m new same

-- an order to hold a page that was given, and is refused at once
held_given : (order : Order) (before : Pending) → is_hold order ≡ true → pending_after order before ≡ Given order
held_given Order.Wait before e = cc
held_given Order.Copy before e = cc
held_given Order.Lend before e = cc
held_given (Order.Hold target) before e = refl
held_given (Order.Compare target) before e = cc
held_given (Order.Map target) before e = cc
held_given (Order.LetGo target) before e = cc
held_given (Order.TakeHome in_place) before e = cc
held_given (Order.Release slot) before e = cc

not_carried : (order other : Order) → Given order ≡ CarriedOut other → ⊥
not_carried order other e = cc

ordered_to_turn : (g : (ℕ → Bool) → ℕ → Bool) (first i : ℕ) (m : Moment) (x y : WindowPage) (facts : WindowFacts) (order : Order) (part after : PartCounts) → slice_get m.pages i ≡ Some x → OrderedTo facts order x y part after →
    Turns g first m i y
ordered_to_turn g first i m x y facts order part after e (at_once h l) = order_turn g first i m x y part after order (bars_of facts (known_of x)) l m refl refl refl e
ordered_to_turn g first i m x y facts order part after e (refused_first before one two part_one part_two h l t r) =
    let pending : Pending = pending_after before (m.orders i) in
    let then : Moment = after_call m i one pending in
    let there : slice_get then.pages i ≡ Some one = set_own m.pages i x one e in
    let given : then.orders i ≡ Given before = own_pending i pending (m.orders i) ∙ held_given before (m.orders i) h in
    let so : IsSoOf g then i Refused = λ z at k. record { order = before; told = given; noted = λ slot n c. absurd (not_carried before (Map (Frame slot n)) (sym given ∙ c)); gives = tt } in
    let refused : Turns g first then i two = told_of g first i then one two Refused part_one part_two there t so in
    call_then g first i m x one y pending e (made.orders x one part part_one before (bars_of facts (known_of x)) (m.orders i) l)
    (and_then g first i then one two y there refused (order_turn g first i refused.new two y part_two after order (bars_of facts (known_of two)) r))

pub each_release_order_goes : EachReleaseOrderGoes
each_release_order_goes g first lead place room count count_new facts pins m new parts parts_new places places_new (passes p n same counts said) = none_reaches g first m new same
each_release_order_goes g first lead place room count count_new facts pins m new parts parts_new places places_new (asks is l p c n said) =
    turn_reaches g first place m c.after new (ordered_to_turn g first place m c.before c.after facts c.becomes.order c.part c.part_after c.is_there c.becomes.ordered) c.changed

-- ---- pages that are held

-- an order that was given is pending
given_order : (order : Order) (before : Pending) → is_order order ≡ true → pending_after order before ≡ Given order
given_order Order.Wait before e = cc
given_order Order.Copy before e = refl
given_order Order.Lend before e = refl
given_order (Order.Hold target) before e = refl
given_order (Order.Compare target) before e = refl
given_order (Order.Map target) before e = refl
given_order (Order.LetGo target) before e = refl
given_order (Order.TakeHome in_place) before e = refl
given_order (Order.Release slot) before e = refl

-- the order that a page just got may be refused at once
refused_so : (g : (ℕ → Bool) → ℕ → Bool) (i : ℕ) (m : Moment) (x one : WindowPage) (facts : WindowFacts) (order : Order) (part part_one : PartCounts) → slice_get m.pages i ≡ Some x → (known_of x).ordered ≡ false →
    Lends (IsOrdered order) (bars_of facts (known_of x)) x one part part_one → IsSoOf g (after_call m i one (pending_after order (m.orders i))) i Refused
refused_so g i m x one facts order part part_one e free l z at k = pick (is_order order) refl where
  then : Moment
  then = after_call m i one (pending_after order (m.orders i))

  is : z ≡ one
  is = some_same z one (sym at ∙ set_own m.pages i x one e)

  first_of : (a b : Bool) → (a && b) ≡ true → a ≡ true
  first_of true b h = refl
  first_of false b h = cc

  not_both : (b : Bool) → b ≡ true → b ≡ false → ⊥
  not_both b h f = cc

  ordered : (known_of one).ordered ≡ true
  ordered = subst (λ v. (known_of v).ordered ≡ true) is (first_of (known_of z).ordered _ k)

  pick : (b : Bool) → is_order order ≡ b → IsSo g then i z Refused
  pick true h =
      let given : then.orders i ≡ Given order = own_pending i (pending_after order (m.orders i)) (m.orders i) ∙ given_order order (m.orders i) h in
      record { order = order; told = given; noted = λ slot n c. absurd (not_carried order (Map (Frame slot n)) (sym given ∙ c)); gives = tt }
  pick false h = absurd (not_both (known_of one).ordered ordered (l.lender.ordered ∙ ap (λ v. v || is_order order) free ∙ h))

pub hold_turn : (g : (ℕ → Bool) → ℕ → Bool) (first i : ℕ) (m : Moment) (x y : WindowPage) (facts : WindowFacts) (is_split : Bool) (answer : ℕ) (part after : PartCounts) → slice_get m.pages i ≡ Some x →
    ToHold facts is_split answer x y part after → Turns g first m i y
hold_turn g first i m x y facts is_split answer part after e (is_ordered order can l h said) = order_turn g first i m x y part after order (bars_of facts (known_of x)) l m refl refl refl e
hold_turn g first i m x y facts is_split answer part after e (is_refused order one part_one can l h t said) =
    let pending : Pending = pending_after order (m.orders i) in
    let then : Moment = after_call m i one pending in
    call_then g first i m x one y pending e (made.orders x one part part_one order (bars_of facts (known_of x)) (m.orders i) l)
    (told_of g first i then one y Refused part_one after (set_own m.pages i x one e) t (refused_so g i m x one facts order part part_one e (not_ordered (known_of x).ordered (has_loan (known_of x).belief) can) l)) where
      not_ordered : (a b : Bool) → (not a && b) ≡ true → a ≡ false
      not_ordered true b h = cc
      not_ordered false b h = refl
hold_turn g first i m x y facts is_split answer part after e (is_passed_by can said same counts) = stays_now g first i m x y e (ap known_of same)

pub give_back_turn : (g : (ℕ → Bool) → ℕ → Bool) (first i : ℕ) (m : Moment) (x y : WindowPage) (facts : WindowFacts) (is_split has_room : Bool) (answer : ℕ) (part after : PartCounts) → slice_get m.pages i ≡ Some x →
    ToGiveBack facts is_split has_room answer x y part after → Turns g first m i y
give_back_turn g first i m x y facts is_split has_room answer part after e (is_given_back order can r c said) = chosen_turn g first i m x y facts true order part after e c
give_back_turn g first i m x y facts is_split has_room answer part after e (is_crowded_out can r said n) = stays_now g first i m x y e n.known
give_back_turn g first i m x y facts is_split has_room answer part after e (is_kept can said same counts) = stays_now g first i m x y e (ap known_of same)

-- ---- scans

-- a page that has memory again is noted so
memory_turn : (g : (ℕ → Bool) → ℕ → Bool) (first i : ℕ) (m : Moment) (x y : WindowPage) (memory : Memory) (part after : PartCounts) → NotesMemory memory x y part after → CanTurn g first m i x y
memory_turn g first i m x y memory part after n = pick (has_again memory (known_of x)) refl where
  not_over : (b : Bool) → b ≡ true → b ≡ false → ⊥
  not_over b e f = cc

  call : (w : Mappings) (pending : Pending) → known_of y ≡ given_back false (known_of x) → Calls (first + i) w x pending y pending
  call w pending e = notes x y pending (record {
    belief = ap (λ k. k.belief) e ∙ given_back_keeps (known_of x);
    ordered = ap (λ k. k.ordered) e ∙ given_back_orders (known_of x);
    place = λ page o f l. absurd (not_over (known_of y).over (ap (λ k. k.over) e ∙ given_back_lies (known_of x) ∙ o) f);
  })

  pick : (b : Bool) → has_again memory (known_of x) ≡ b → CanTurn g first m i x y
  pick true e = λ k w o p at. one_call g first i k x y (k.orders i) at (call k.world (k.orders i) (n.noted e).known)
  pick false e = stays_turn g first i m x y (n.page e)

taken_turn : (g : (ℕ → Bool) → ℕ → Bool) (first i : ℕ) (m : Moment) (x y : WindowPage) (scan : Scan) (facts : WindowFacts) (memory : Memory) (place : ℕ) (is_so : Bool) (other byte : ℕ) (part after : PartCounts) →
    IsTaken scan facts memory place is_so other byte x y part after → CanTurn g first m i x y
taken_turn g first i m x y scan facts memory place is_so other byte part after t = pick is_so refl where
  pick : (b : Bool) → is_so ≡ b → CanTurn g first m i x y
  pick true e = memory_turn g first i m x y memory part after (t.page e)
  pick false e = stays_turn g first i m x y (t.same e).page

pub each_scan_goes : EachScanGoes
each_scan_goes g first lead from n scan table pins memory row row_new all m new parts parts_new b =
    row_goes g first from 0 (length row) m new row row_new (BeginsAt scan table pins from all memory) (b.pages refl) (omega arith)
    (λ j c x y l e t. taken_turn g first (from + (0 + j)) m x y scan (facts_there table pins (from + j)) (memory_at memory j) (from + j) (takes_page scan (all || has_memory (memory_at memory j)) (from + j) x) 0 c
    t.part t.part_after t.becomes.taken)

pub each_follow_goes : EachFollowGoes
each_follow_goes g first lead from n scan table pins memory before row row_new m new parts parts_new b =
    row_goes g first from 0 (length row) m new row row_new (FollowsAt scan table pins from memory before) (b.pages refl) (omega arith)
    (λ j c x y l e t. taken_turn g first (from + (0 + j)) m x y scan (facts_there table pins (from + j)) (memory_at memory j) (from + j)
    (follows scan (memory_at memory j) (seen_in (slice_index_or row (0 + j) 0)).taken (is_beside before j) (from + j) x) (slice_index_or row (0 + j) 0) c t.part t.part_after t.becomes.taken)

step_turn : (g : (ℕ → Bool) → ℕ → Bool) (first i : ℕ) (m : Moment) (x y : WindowPage) (scan : Scan) (outcome : FindOutcome) (place before byte : ℕ) (part after : PartCounts) (page : Page) →
    GoesOn scan outcome place before byte x y part after → slice_get m.world.pages (first + i) ≡ Some page → (outcome.is_own ≡ true → is_bare page.view ≡ false) → CanTurn g first m i x y
step_turn g first i m x y scan outcome place before byte part after page b e t = pick (has_step (seen_in before).step) refl where
  pick : (h : Bool) → has_step (seen_in before).step ≡ h → CanTurn g first m i x y
  pick true h = two_turn g first i m x y
      (λ pending. each_look_is_calls (seen_in before).step (sight_at scan place) outcome (b.went h).next x y part after (first + i) m.world pending page (b.went h).came e t)
  pick false h = stays_turn g first i m x y (b.same h).page

pub each_scan_step_goes : EachScanStepGoes
each_scan_step_goes g first count lead from n scan outcomes row row_new m new parts parts_new kept b so =
    row_goes g first from 0 (length row) m new row row_new (GoesOnAt scan from outcomes) (b.pages refl) (omega arith)
    (λ j c x y l e t.
    let its : Reads m.world (first + (from + (0 + j))) (m.stored (first + (from + (0 + j)))) = kept.reads (from + (0 + j)) (omega (arith, slice_get_within m.pages (from + (0 + j)) x e, kept.many)) in
    step_turn g first (from + (0 + j)) m x y scan (slice_index_or outcomes j no_outcome) (from + j) (slice_index_or row (0 + j) 0) c t.part t.part_after its.page t.becomes its.there
    (λ own. so j own its.page (subst (λ v. slice_get m.world.pages (first + (from + v)) ≡ Some its.page) (zero_less j) its.there))) where
      zero_less : (j : ℕ) → 0 + j ≡ j
      zero_less j = omega arith

-- ---- pages that get memory of their own

-- where each of so many pages becomes what this says, and can turn to that
homes_go : (g : (ℕ → Bool) → ℕ → Bool) (first lead from n : ℕ) (m : Moment) (new : List WindowPage) (parts parts_new : List PartCounts) (Becomes : ℕ → WindowPage → WindowPage → Type 0) →
    Changes Becomes lead from n true m.pages new parts parts_new → ((j : ℕ) (x y : WindowPage) → j < n → slice_get m.pages (from + j) ≡ Some x → Becomes j x y → CanTurn g first m (from + j) x y) → Reaches g first m new
homes_go g first lead from n m new parts parts_new Becomes c can = changed_goes g first from n m new Becomes (c.pages refl) can

called_turn : (g : (ℕ → Bool) → ℕ → Bool) (first i : ℕ) (m : Moment) (facts : WindowFacts) (x y : WindowPage) → IsCalled facts x y → CanTurn g first m i x y
called_turn g first i m facts x y c = pick (shows (belief_of x)) refl where
  pick : (b : Bool) → shows (belief_of x) ≡ b → CanTurn g first m i x y
  pick true e = order_turn g first i m x y no_counts (counts_then x y no_counts) (order_due (lender_of facts (known_of x))) (bars_of facts (known_of x)) (c.shown e no_counts)
  pick false e = stays_turn g first i m x y (c.other e)

pub each_home_order_goes : EachHomeOrderGoes
each_home_order_goes g first lead from n table pins why m new parts parts_new c =
    homes_go g first lead from n m new parts parts_new (λ j. IsCalled (facts_at table pins why (from + j))) c (λ j x y l e b. called_turn g first (from + j) m (facts_at table pins why (from + j)) x y b)

home_turn : (g : (ℕ → Bool) → ℕ → Bool) (first i : ℕ) (m : Moment) (outcome : Outcome) (x y : WindowPage) → no_loan outcome ≡ true → IsHome outcome x y → (hears outcome x ≡ true → IsSo g m i x outcome) → CanTurn g first m i x y
home_turn g first i m outcome x y free h so = pick (hears outcome x) refl where
  pick : (b : Bool) → hears outcome x ≡ b → CanTurn g first m i x y
  pick true e = told_turn g first i m x y outcome no_counts (counts_then x y no_counts) free (so e) (h.done e no_counts)
  pick false e = stays_turn g first i m x y (h.other e)

done_is_free : no_loan Done ≡ true
unfolding no_loan
done_is_free = refl

refused_is_free : no_loan Refused ≡ true
unfolding no_loan
refused_is_free = refl

pub each_home_refusal_goes : EachHomeRefusalGoes
each_home_refusal_goes g first lead from n m new parts parts_new c so =
    homes_go g first lead from n m new parts parts_new (λ j. IsHome Refused) c (λ j x y l e b. home_turn g first (from + j) m Refused x y refused_is_free b (λ h. so j x l e h))

pub each_home_move_goes : EachHomeMoveGoes
each_home_move_goes g first lead from n m new parts parts_new c so =
    homes_go g first lead from n m new parts parts_new (λ j. HasMoved) c
    (λ j x y l e b. then_call g first (from + j) m x b.between y (home_turn g first (from + j) m Done x b.between done_is_free b.first (λ h. so j x l e h))
    (λ pending. known_stays (first + (from + j)) m.world pending b.between y (b.second no_counts).known))

pub each_home_copy_goes : EachHomeCopyGoes
each_home_copy_goes g first lead from n m new parts parts_new c so =
    homes_go g first lead from n m new parts parts_new (λ j. IsCopied) c
    (λ j x y l e b. then_call g first (from + j) m x b.between y (home_turn g first (from + j) m Done x b.between done_is_free b.first (λ h. so j x l e h))
    (λ pending. past_stops (first + (from + j)) m.world pending b.between y (b.second no_counts).known))

-- ---- a part that gets one memory

-- what looks have found of a page over a frame counts no more
forgotten_turn : (g : (ℕ → Bool) → ℕ → Bool) (first i : ℕ) (m : Moment) (x y : WindowPage) → IsForgotten x y → CanTurn g first m i x y
forgotten_turn g first i m x y b = pick (known_of x).over refl where
  pick : (o : Bool) → (known_of x).over ≡ o → CanTurn g first m i x y
  pick true e = λ k w o p at. stays_now g first i k x y at (b.over e no_counts).known
  pick false e = stays_turn g first i m x y (b.other e)

-- a page that shows no frame hears that it was written
written_call : (p : ℕ) (w : Mappings) (pending : Pending) (x y : WindowPage) (page : Page) → slice_get w.pages p ≡ Some page → is_bare page.view ≡ false → HearsWritten x y → Calls p w x pending y pending
written_call p w pending x y page there bare h = pick (is_busy (lender_with no_bars (known_of x))) refl where
  pick : (b : Bool) → is_busy (lender_with no_bars (known_of x)) ≡ b → Calls p w x pending y pending
  pick false e = made.hears x y no_counts (counts_then x y no_counts) Written pending page there bare e (h.heard e no_counts)
  pick true e = stays_call p w pending x y (h.other e)

pub reaches_then : (g : (ℕ → Bool) → ℕ → Bool) (first : ℕ) (m : Moment) (between new : List WindowPage) → (r : Reaches g first m between) → Reaches g first r.new new → Reaches g first m new
reaches_then g first m between new r s = record { new = s.new; goes = joined g first m r.new s.new r.goes s.goes; has = s.has; stored = s.stored ∙ r.stored; world = s.world ∙ r.world }

pub each_one_memory_goes : EachOneMemoryGoes
each_one_memory_goes g first count from n m new kept c t =
    let heard : Reaches g first m c.between = changed_goes g first from n m c.between (λ j. Both IsForgotten HearsWritten) c.hear
    (λ j x y l e b.
    let its : Reads m.world (first + (from + j)) (m.stored (first + (from + j))) = kept.reads (from + j) (omega (arith, slice_get_within m.pages (from + j) x e, kept.many)) in
    then_call g first (from + j) m x b.between y (forgotten_turn g first (from + j) m x b.between b.first)
    (λ pending. written_call (first + (from + j)) m.world pending b.between y its.page its.there (t j l its.page its.there) b.second)) in
    let after : IsKept first count heard.new = goes_kept g first count m heard.new kept heard.goes in
    let moves : RangeChanged (Uncovered true) from n heard.new.pages new = subst (λ v. RangeChanged (Uncovered true) from n v new) (sym heard.has) c.moves in
    let truly : AreTruly (Uncovered true) first from n heard.new = λ j l. subst (λ v. IsTruly (Uncovered true) (first + (from + j)) v) (sym heard.world) (t j l) in
    reaches_then g first m c.between new heard (range_goes g first count from n (Uncovered true) heard.new new after moves truly)

-- ---- questions

pub asked_turn : (g : (ℕ → Bool) → ℕ → Bool) (first i : ℕ) (m : Moment) (x y : WindowPage) (facts : WindowFacts) (has_room is_passing : Bool) (answer : ℕ) (part after : PartCounts) → slice_get m.pages i ≡ Some x →
    ToAsk facts has_room is_passing answer x y part after → Turns g first m i y
asked_turn g first i m x y facts has_room is_passing answer part after e (is_not_free f said same counts) = stays_now g first i m x y e (ap known_of same)
asked_turn g first i m x y facts has_room is_passing answer part after e (is_crowded f r said n) = stays_now g first i m x y e n.known
asked_turn g first i m x y facts has_room is_passing answer part after e (is_question f r said same counts) = stays_now g first i m x y e (ap known_of same)

in_vain_turn : (g : (ℕ → Bool) → ℕ → Bool) (first i : ℕ) (m : Moment) (x y : WindowPage) (is_whole is_other : Bool) (fingerprint : ℕ) (part after : PartCounts) → slice_get m.pages i ≡ Some x →
    InVain is_whole is_other fingerprint x y part after → Turns g first m i y
in_vain_turn g first i m x y is_whole is_other fingerprint part after e v = stays_now g first i m x y e (pick (sees is_whole is_other fingerprint v.between) refl) where
  pick : (b : Bool) → sees is_whole is_other fingerprint v.between ≡ b → known_of y ≡ known_of x
  pick true s = (v.seen s).known ∙ v.asked.known
  pick false s = ap known_of (v.kept s) ∙ v.asked.known

pub answered_turn : (g : (ℕ → Bool) → ℕ → Bool) (first i : ℕ) (m : Moment) (x y : WindowPage) (is_whole is_other has_room : Bool) (fingerprint answer : ℕ) (part after : PartCounts) → slice_get m.pages i ≡ Some x →
    Answered is_whole is_other has_room fingerprint answer x y part after → Turns g first m i y
answered_turn g first i m x y is_whole is_other has_room fingerprint answer part after e (is_in_vain o said v) = in_vain_turn g first i m x y is_whole is_other fingerprint part after e v
answered_turn g first i m x y is_whole is_other has_room fingerprint answer part after e (is_left_out o r said n) = stays_now g first i m x y e n.known
answered_turn g first i m x y is_whole is_other has_room fingerprint answer part after e (is_found o r said same counts) = stays_now g first i m x y e (ap known_of same)

-- what a turn of a list reaches, where each page of it can turn
list_reaches : (g : (ℕ → Bool) → ℕ → Bool) (first lead number answer : ℕ) (Does : Deed) (m : Moment) (new : List WindowPage) (parts parts_new : List PartCounts) → Turn Does lead number answer m.pages new parts parts_new →
    ((x y : WindowPage) (part after : PartCounts) → slice_get m.pages number ≡ Some x → Does answer x y part after → Turns g first m number y) → Reaches g first m new
list_reaches g first lead number answer Does m new parts parts_new (is_there c) can = turn_reaches g first number m c.after new (can c.before c.after c.part c.part_after c.is_there c.becomes) c.changed
list_reaches g first lead number answer Does m new parts parts_new (is_not_there l said same counts) can = none_reaches g first m new same

-- ---- each call

pub call_reaches : (g : (ℕ → Bool) → ℕ → Bool) (first count : ℕ) (m : Moment) (new : List WindowPage) → IsKept first count m → Called g first m new → Reaches g first m new
call_reaches g first count m new h (call.notes lead from n change parts parts_new c t) = each_note_goes g first count lead from n change m new parts parts_new h c t
call_reaches g first count m new h (call.begins_row lead from takings row row_new parts parts_new c t) = each_row_goes g first lead from takings m new parts parts_new row row_new c t
call_reaches g first count m new h (call.orders_row lead from table pins row order parts parts_new c) = each_row_order_goes g first lead from table pins row order m new parts parts_new c
call_reaches g first count m new h (call.row_done lead from begin done refused row row_new parts parts_new c t) = each_row_step_goes g first lead from begin done refused m new parts parts_new row row_new c t
call_reaches g first count m new h (call.of_page i x y pending e n c) = turn_reaches g first i m y new (one_call g first i m x y pending e c) n
call_reaches g first count m new h (call.to_ask lead number answer facts has_room is_passing parts parts_new c) =
    list_reaches g first lead number answer (λ said x y p q. ToAsk facts has_room is_passing said x y p q) m new parts parts_new c
    (λ x y part after e d. asked_turn g first number m x y facts has_room is_passing answer part after e d)
call_reaches g first count m new h (call.answered lead number fingerprint answer is_whole is_other has_room parts parts_new c) =
    list_reaches g first lead number answer (λ said x y p q. Answered is_whole is_other has_room fingerprint said x y p q) m new parts parts_new c
    (λ x y part after e d. answered_turn g first number m x y is_whole is_other has_room fingerprint answer part after e d)
call_reaches g first count m new h (call.to_copy lead number fingerprint answer facts is_ready parts parts_new c) = each_choice_goes g first lead number fingerprint answer facts is_ready m new parts parts_new c
call_reaches g first count m new h (call.copied lead number answer facts came parts parts_new c t) = each_copy_goes g first lead number answer facts came m new parts parts_new c t
call_reaches g first count m new h (call.loaned lead number frames answer reply parts parts_new c t) = each_loan_goes g first lead number frames answer reply m new parts parts_new c t
call_reaches g first count m new h (call.to_hold lead number answer facts is_split parts parts_new c) =
    list_reaches g first lead number answer (ToHold facts is_split) m new parts parts_new c (λ x y part after e d. hold_turn g first number m x y facts is_split answer part after e d)
call_reaches g first count m new h (call.to_give_back lead number answer facts is_split has_room parts parts_new c) =
    list_reaches g first lead number answer (ToGiveBack facts is_split has_room) m new parts parts_new c
    (λ x y part after e d. give_back_turn g first number m x y facts is_split has_room answer part after e d)
call_reaches g first count m new h (call.to_release lead place room n n_new facts pins places places_new parts parts_new c) =
    each_release_order_goes g first lead place room n n_new facts pins m new parts parts_new places places_new c
call_reaches g first count m new h (call.released lead number answer outcome parts parts_new c t) = each_release_goes g first lead number answer outcome m new parts parts_new c t
call_reaches g first count m new h (call.begins_scan lead from n scan table pins memory row row_new all parts parts_new c) =
    each_scan_goes g first lead from n scan table pins memory row row_new all m new parts parts_new c
call_reaches g first count m new h (call.scan_done lead from n scan outcomes row row_new parts parts_new c t) =
    each_scan_step_goes g first count lead from n scan outcomes row row_new m new parts parts_new h c t
call_reaches g first count m new h (call.follows lead from n scan table pins memory before row row_new parts parts_new c) =
    each_follow_goes g first lead from n scan table pins memory before row row_new m new parts parts_new c
call_reaches g first count m new h (call.orders_home lead from n table pins why parts parts_new c) = each_home_order_goes g first lead from n table pins why m new parts parts_new c
call_reaches g first count m new h (call.refused_home lead from n parts parts_new c t) = each_home_refusal_goes g first lead from n m new parts parts_new c t
call_reaches g first count m new h (call.moved_home lead from n parts parts_new c t) = each_home_move_goes g first lead from n m new parts parts_new c t
call_reaches g first count m new h (call.copied_home lead from n parts parts_new c t) = each_home_copy_goes g first lead from n m new parts parts_new c t
call_reaches g first count m new h (call.one_memory from n c t) = each_one_memory_goes g first count from n m new h c t

pub each_call_goes_on : EachCallGoesOn
each_call_goes_on g first count m new h c =
    let r : Reaches g first m new = call_reaches g first count m new (history_kept g first count m h) c in
    let after : History g first count r.new = each_is_history g first count m r.new h r.goes in
    record { new = r.new; history = after; has = r.has; stored = r.stored; world = r.world; reads = (history_kept g first count r.new after).reads }
