-- Orders name only pages of their window that nothing bars, and take no more mappings than windows may have.
use Rattle.std.proofs.Common.{◌≡◌, ◌∙◌, ℕ, ◌+◌, ◌<◌, ◌≤◌, ◌%◌, Bool, true, false, not, ◌&&◌, ◌||◌, cond, List, length, Some, refl, ap, sym, subst, arith}
use Rattle.std.proofs.lemmas.Bool.{eqb-true, leb-true}
use Rattle.std.proofs.lemmas.Option.{slice_get_within}
use Rattle.std.specs.Option.{option_map_or}
use Rattle.std.specs.Prelude.{nat_eq, nat_le, nat_lt, slice_get, slice_index_or}
use Rattle.lend_steps.specs.Asks.{Answered, AnsweredAt, has_room, is_asked as is_question, is_crowded, is_found, is_in_vain, is_left_out, is_not_free, takes_if_found}
use Rattle.lend_steps.specs.Copies.{is_changed, is_chosen, is_good, is_left, is_nothing, is_zeros, lend_answer}
use Rattle.lend_steps.specs.Holds.{is_crowded_out, is_given_back, is_kept, is_ordered, is_passed_by, is_refused}
use Rattle.lend_steps.specs.Lists.{InTurnWith, Turn, begins_with, goes_on_with, is_not_there, is_there}
use Rattle.lend_steps.specs.Releases.{is_hold}
use Rattle.lend_steps.specs.declared.copies.CopyOutcome.{CopyOutcome}
use Rattle.lending_laws.proofs.Kept.{some_page}
use Rattle.lending_laws.proofs.Looks.{first_of, neither_left, neither_right, no_more, rest_of}
use Rattle.lending_laws.specs.Orders.{EachCopyMay, EachHoldMay, EachListHasRoom, EachLoanMay, EachMapMay, EachQuestionMay, EachReturnMay, MayBeLent, maps}
use Rattle.look_tasks.specs.Rooms.{fits}
use Rattle.page_holds.specs.Bytes.{is_stuck, place_in, step_by}
use Rattle.page_holds.specs.Orders.{IsRun, facts_there, rank}
use Rattle.page_holds.specs.Rows.{Asks, PageBecomes, is_asked}
use Rattle.page_holds.specs.Steps.{parted, step_of}
use Rattle.page_holds.specs.declared.place.HeldPlace.{HeldPlace}
use Rattle.page_holds.specs.declared.place.HeldPlace.TheVariants.{Free, Guarded, Aside, Replaced}
use Rattle.page_holds.specs.declared.place.HoldStep.{HoldStep}
use Rattle.page_holds.specs.declared.place.HoldStep.TheVariants.{Over, Compare as CompareStep, CompareZeros, Map as MapStep, GiveBack, PutBack, EndWatch}
use Rattle.page_lender.specs.Calls.{IsOrdered, is_free, order_due}
use Rattle.page_lender.specs.Decisions.{due, is_barred, is_private, leads, prepared, waiting}
use Rattle.page_lender.specs.declared.bars.Bars.{Bars}
use Rattle.page_lender.specs.declared.belief.Belief.{Belief}
use Rattle.page_lender.specs.declared.belief.Belief.TheVariants.{Private, Chosen, Copied, Turning, Shown, Leaving}
use Rattle.page_lender.specs.declared.belief.Stage.TheVariants.{Ready, Held, Equal, LettingGo}
use Rattle.page_lender.specs.declared.belief.Target.TheVariants.{Frame, Zeros}
use Rattle.page_lender.specs.declared.order.Order.{Order}
use Rattle.page_lender.specs.declared.order.Order.TheVariants.{Wait, Copy, Lend, Hold, Compare, LetGo, TakeHome, Release}
use Rattle.page_looks.specs.declared.parts.part.Part.{Part}
use Rattle.window_pages.specs.Bytes.{belief_of, known_of}
use Rattle.window_pages.specs.Changed.{Lends}
use Rattle.window_pages.specs.Known.{bars_of, lender_of, may_be_copy}
use Rattle.window_pages.specs.declared.counts.PartCounts.{PartCounts}
use Rattle.window_pages.specs.declared.facts.WindowFacts.{WindowFacts}
use Rattle.window_pages.specs.declared.page.WindowPage.{WindowPage}
use Rattle.window_tables.specs.Mappings.{is_whole, mappings_more}

-- a page that nothing bars may be lent
may_if : (facts : WindowFacts) (page : WindowPage) → is_barred (bars_of facts (known_of page)) ≡ false → MayBeLent facts page
may_if facts page e =
    let b : Bars = bars_of facts (known_of page) in
    let five : (b.called || b.pinned || b.inherited || b.locked || b.left) ≡ false = neither_left (b.called || b.pinned || b.inherited || b.locked || b.left) b.ended e in
    let four : (b.called || b.pinned || b.inherited || b.locked) ≡ false = neither_left (b.called || b.pinned || b.inherited || b.locked) b.left five in
    let three : (b.called || b.pinned || b.inherited) ≡ false = neither_left (b.called || b.pinned || b.inherited) b.locked four in
    let two : (b.called || b.pinned) ≡ false = neither_left (b.called || b.pinned) b.inherited three in
    let left : ((known_of page).out || facts.leaves) ≡ false = neither_right (b.called || b.pinned || b.inherited || b.locked) b.left five in
    let pinned : (facts.pinned || (facts.may_pin && may_be_copy (known_of page))) ≡ false = neither_right b.called b.pinned two in
    record {
      is_in = neither_left (known_of page).out facts.leaves left;
      stays = neither_right (known_of page).out facts.leaves left;
      no_call = neither_left b.called b.pinned two;
      no_transfer = neither_left facts.pinned (facts.may_pin && may_be_copy (known_of page)) pinned;
      no_device = neither_right facts.pinned (facts.may_pin && may_be_copy (known_of page)) pinned;
      no_child = neither_right (b.called || b.pinned) b.inherited three;
      no_lock = neither_right (b.called || b.pinned || b.inherited) b.locked four;
      goes_on = neither_right (b.called || b.pinned || b.inherited || b.locked || b.left) b.ended e;
    }

free_may : (facts : WindowFacts) (page : WindowPage) → is_free (lender_of facts (known_of page)) ≡ true → MayBeLent facts page
free_may facts page e =
    may_if facts page (no_more (is_barred (bars_of facts (known_of page))) (rest_of (is_private (known_of page).belief) (not (is_barred (bars_of facts (known_of page)))) e))

-- nothing bars a page whose order leads on to showing a frame
unbarred : (b led : Bool) → (b ≡ true → led ≡ false) → led ≡ true → b ≡ false
unbarred true led f e = let no : true ≡ false = sym e ∙ f refl in cc
unbarred false led f e = refl

ordered_may : (facts : WindowFacts) (order : Order) (old new : WindowPage) (part part_new : PartCounts) → Lends (IsOrdered order) (bars_of facts (known_of old)) old new part part_new → leads order ≡ true → MayBeLent facts old
ordered_may facts order old new part part_new l e = may_if facts old (unbarred (is_barred (bars_of facts (known_of old))) (leads order) l.lender.barred e)

-- two numbers of an answer are one
odd_as : (answer n : ℕ) → answer ≡ n → nat_eq (answer % 2) 1 ≡ true → nat_eq (n % 2) 1 ≡ true
odd_as answer n a e = subst (λ v. nat_eq (v % 2) 1 ≡ true) a e

same_as : (answer n : ℕ) → answer ≡ n → answer ≡ 1 → nat_eq n 1 ≡ true
same_as answer n a e = subst (λ v. nat_eq v 1 ≡ true) (sym e ∙ a) refl

pub each_question_may : EachQuestionMay
each_question_may facts room passing answer old new part part_new (is_not_free f a s t) e = let no : false ≡ true = odd_as answer 0 a e in cc
each_question_may facts room passing answer old new part part_new (is_crowded f r a n) e = let no : false ≡ true = odd_as answer 4 a e in cc
each_question_may facts room passing answer old new part part_new (is_question f r a s t) e = (free_may facts old f, r)

pub each_copy_may : EachCopyMay
each_copy_may facts is_ready fingerprint answer old new part part_new (is_chosen order can c a) e =
    let both : (is_ready && not (known_of old).ordered) ≡ true = first_of (is_ready && not (known_of old).ordered) (is_free (lender_of facts (known_of old))) can in
    (free_may facts old (rest_of (is_ready && not (known_of old).ordered) (is_free (lender_of facts (known_of old))) can), first_of is_ready (not (known_of old).ordered) both)
each_copy_may facts is_ready fingerprint answer old new part part_new (is_left can a s t) e = let no : false ≡ true = subst (λ v. nat_lt 0 v ≡ true) a e in cc

lend_leads : (order : Order) → lend_answer order ≡ 1 → leads order ≡ true
lend_leads Wait e = cc
lend_leads Copy e = cc
lend_leads Lend e = refl
lend_leads (Hold target) e = cc
lend_leads (Compare target) e = cc
lend_leads (Order.Map target) e = cc
lend_leads (LetGo target) e = cc
lend_leads (TakeHome in_place) e = cc
lend_leads (Release slot) e = cc

hold_leads : (order : Order) → is_hold order ≡ true → leads order ≡ true
hold_leads Wait e = cc
hold_leads Copy e = cc
hold_leads Lend e = cc
hold_leads (Hold target) e = refl
hold_leads (Compare target) e = cc
hold_leads (Order.Map target) e = cc
hold_leads (LetGo target) e = cc
hold_leads (TakeHome in_place) e = cc
hold_leads (Release slot) e = cc

pub each_loan_may : EachLoanMay
each_loan_may facts answer old new part part_new CopyOutcome.Good (is_good order c a) e = record {
  before = c.between;
  same = c.ordered.place;
  may = ordered_may facts order c.between new c.part_between part_new c.ordered (lend_leads order (sym a ∙ e));
}
each_loan_may facts answer old new part part_new CopyOutcome.Changed (is_changed c a) e = let no : false ≡ true = same_as answer 0 a e in cc
each_loan_may facts answer old new part part_new CopyOutcome.Zeros (is_zeros t a) e = let no : false ≡ true = same_as answer 0 a e in cc
each_loan_may facts answer old new part part_new CopyOutcome.Nothing (is_nothing a s t) e = let no : false ≡ true = same_as answer 0 a e in cc

pub each_hold_may : EachHoldMay
each_hold_may facts is_split answer old new part part_new (is_ordered order can l h a) e =
    (ordered_may facts order old new part part_new l (hold_leads order (rest_of is_split (is_hold order) h)), first_of is_split (is_hold order) h)
each_hold_may facts is_split answer old new part part_new (is_refused order between part_between can l h t a) e = let no : false ≡ true = same_as answer 0 a e in cc
each_hold_may facts is_split answer old new part part_new (is_passed_by can a s t) e = let no : false ≡ true = same_as answer 0 a e in cc

pub each_return_may : EachReturnMay
each_return_may facts is_split room answer old new part part_new (is_given_back order can r c a) e =
    let both : (is_split && not (known_of old).ordered) ≡ true = first_of (is_split && not (known_of old).ordered) (is_free (lender_of facts (known_of old))) can in
    (free_may facts old (rest_of (is_split && not (known_of old).ordered) (is_free (lender_of facts (known_of old))) can), first_of is_split (not (known_of old).ordered) both, r)
each_return_may facts is_split room answer old new part part_new (is_crowded_out can r a n) e = let no : false ≡ true = same_as answer 4 a e in cc
each_return_may facts is_split room answer old new part part_new (is_kept can a s t) e = let no : false ≡ true = same_as answer 0 a e in cc

-- ---- room

-- what is taken stays within bounds where it fits
fits_within : (most taken more bound : ℕ) → fits most taken more ≡ true → most ≤ bound → taken ≤ bound → taken + more ≤ bound
fits_within most taken more bound e m t = pick (nat_eq more 0) refl where
  pick : (b : Bool) → nat_eq more 0 ≡ b → taken + more ≤ bound
  pick true none = omega (arith, eqb-true more 0 none, t)
  pick false some = omega (arith, leb-true (taken + more) most (subst (λ v. (v || nat_le (taken + more) most) ≡ true) some e), m)

answered_fits : (is_whole is_other room : Bool) (fingerprint answer : ℕ) (old new : WindowPage) (part part_new : PartCounts) → Answered is_whole is_other room fingerprint answer old new part part_new → answer ≡ 1 → room ≡ true
answered_fits whole other room fingerprint answer old new part part_new (is_in_vain o a n) e = let no : false ≡ true = same_as answer 0 a e in cc
answered_fits whole other room fingerprint answer old new part part_new (is_left_out o r a n) e = let no : false ≡ true = same_as answer 4 a e in cc
answered_fits whole other room fingerprint answer old new part part_new (is_found o r a s t) e = r

-- one page of the list takes what fits
turn_fits : (most lead n answer has bound : ℕ) (wholes : List Part) (numbers fingerprints seen : List ℕ) (now new : List WindowPage) (counts counts_new : List PartCounts) →
    Turn (AnsweredAt most lead wholes numbers fingerprints seen n has now) lead (slice_index_or numbers n 0) answer now new counts counts_new → most ≤ bound → has ≤ bound →
    has + takes_if_found lead wholes numbers n answer now ≤ bound
turn_fits most lead n answer has bound wholes numbers fingerprints seen now new counts counts_new turn m t = pick (nat_eq answer 1) refl where
  more : ℕ
  more = mappings_more lead wholes now (slice_index_or numbers n 0) 1

  room : answer ≡ 1 → Turn (AnsweredAt most lead wholes numbers fingerprints seen n has now) lead (slice_index_or numbers n 0) answer now new counts counts_new → fits most has more ≡ true
  room e (is_there c) = answered_fits (is_whole lead wholes (slice_index_or numbers n 0)) (nat_lt 0 (slice_index_or seen n 0)) (has_room most has lead wholes now (slice_index_or numbers n 0)) (slice_index_or fingerprints n 0) answer c.before c.after c.part c.part_after c.becomes e
  room e (is_not_there l a s p) = let no : false ≡ true = same_as answer 0 a e in cc

  pick : (b : Bool) → nat_eq answer 1 ≡ b → has + takes_if_found lead wholes numbers n answer now ≤ bound
  pick true e = subst (λ v. has + cond v more 0 ≤ bound) (sym e) (fits_within most has more bound (room (eqb-true answer 1 e) turn) m t)
  pick false e = subst (λ v. has + cond v more 0 ≤ bound) (sym e) (omega (arith, t))

list_within : (most lead taken bound : ℕ) (wholes : List Part) (numbers fingerprints seen answers : List ℕ) (old : List WindowPage) (parts : List PartCounts) (n has : ℕ) (said : List ℕ) (new : List WindowPage) (counts : List PartCounts) →
    InTurnWith (AnsweredAt most lead wholes numbers fingerprints seen) (takes_if_found lead wholes numbers) lead numbers old parts answers taken n has new counts said →
    most ≤ bound → taken ≤ bound → has ≤ bound
list_within most lead taken bound wholes numbers fingerprints seen answers old parts n has said new counts begins_with m t = t
list_within most lead taken bound wholes numbers fingerprints seen answers old parts n has said new counts (goes_on_with k answer had had_new now then counted counted_new told told_new before within turn s e) m t =
    subst (λ v. v ≤ bound) (sym e) (turn_fits most lead k answer had bound wholes numbers fingerprints seen now then counted counted_new turn m
    (list_within most lead taken bound wholes numbers fingerprints seen answers old parts k had told now counted before m t))

pub each_list_has_room : EachListHasRoom
each_list_has_room most lead taken bound wholes numbers fingerprints seen answers answers_new old new parts parts_new all m t =
    list_within most lead taken bound wholes numbers fingerprints seen answers old parts (length numbers) all.has answers_new new parts_new all.turns m t

-- ---- rows

parted_maps_none : (place : HeldPlace) → maps (parted place) ≡ false
parted_maps_none Free = refl
parted_maps_none Guarded = refl
parted_maps_none Aside = refl
parted_maps_none Replaced = refl

-- what is mapped next was found equal to its target
maps_equal : (belief : Belief) (place : HeldPlace) → maps (step_of belief place) ≡ true → (leads (due belief) && waiting belief) ≡ true
maps_equal Private place e = let no : true ≡ false = sym e ∙ parted_maps_none place in cc
maps_equal Chosen place e = let no : true ≡ false = sym e ∙ parted_maps_none place in cc
maps_equal Copied place e = let no : true ≡ false = sym e ∙ parted_maps_none place in cc
maps_equal (Turning Ready target) place e = let no : true ≡ false = sym e ∙ parted_maps_none place in cc
maps_equal (Turning Held (Frame slot n)) place e = cc
maps_equal (Turning Held Zeros) place e = cc
maps_equal (Turning Equal target) place e = refl
maps_equal (Turning LettingGo target) place e = let no : true ≡ false = sym e ∙ parted_maps_none place in cc
maps_equal (Shown slot n homing) place e = let no : true ≡ false = sym e ∙ parted_maps_none place in cc
maps_equal (Leaving slot) place e = let no : true ≡ false = sym e ∙ parted_maps_none place in cc

not_stuck : (b : Bool) (step : HoldStep) → maps (cond b Over step) ≡ true → b ≡ false
not_stuck true step e = cc
not_stuck false step e = refl

its_step : (b : Bool) (step : HoldStep) → maps (cond b Over step) ≡ true → maps step ≡ true
its_step true step e = cc
its_step false step e = e

step_leads : (belief : Belief) (byte : ℕ) → maps (step_by belief byte) ≡ true → leads (due belief) ≡ true
step_leads belief byte e = first_of (leads (due belief)) (waiting belief) (maps_equal belief (place_in byte) (its_step (is_stuck byte) (step_of belief (place_in byte)) e))

step_asks : (belief : Belief) (byte : ℕ) → maps (step_by belief byte) ≡ true → is_asked byte belief ≡ true
step_asks belief byte e =
    let waits : waiting belief ≡ true = rest_of (leads (due belief)) (waiting belief) (maps_equal belief (place_in byte) (its_step (is_stuck byte) (step_of belief (place_in byte)) e)) in
    let free : is_stuck byte ≡ false = not_stuck (is_stuck byte) (step_of belief (place_in byte)) e in
    subst (λ v. (not v && waiting belief) ≡ true) (sym free) waits

maps_soon : (step : HoldStep) → maps step ≡ true → rank step < 6
maps_soon Over e = cc
maps_soon CompareStep e = cc
maps_soon CompareZeros e = cc
maps_soon MapStep e = omega arith
maps_soon GiveBack e = omega arith
maps_soon PutBack e = cc
maps_soon EndWatch e = cc

-- a page in whose place something is mapped by an order that it got now
mapped_may : (facts : WindowFacts) (byte : ℕ) (old new : WindowPage) (part part_new : PartCounts) → Asks facts byte old new part part_new → (known_of old).ordered ≡ false → maps (step_by (belief_of new) byte) ≡ true → MayBeLent facts old
mapped_may facts byte old new part part_new a free e = pick (is_asked byte (belief_of old)) refl where
  b : Bars
  b = bars_of facts (known_of old)

  order : Order
  order = order_due (lender_of facts (known_of old))

  pick : (is : Bool) → is_asked byte (belief_of old) ≡ is → MayBeLent facts old
  pick true is =
      let l : Lends (IsOrdered order) b old new part part_new = a.order is in
      let its : order ≡ due (prepared b (known_of old).belief) = ap (λ v. cond v Wait (due (prepared b (known_of old).belief))) free in
      let then : (known_of new).belief ≡ prepared b (known_of old).belief = l.lender.belief ∙ ap (λ v. cond v (known_of old).belief (prepared b (known_of old).belief)) free in
      ordered_may facts order old new part part_new l (ap leads its ∙ ap (λ v. leads (due v)) (sym then) ∙ step_leads (belief_of new) byte e)
  pick false is =
      let asks : is_asked byte (belief_of old) ≡ true = step_asks (belief_of old) byte (subst (λ v. maps (step_by (belief_of v) byte) ≡ true) (a.page is) e) in
      let no : true ≡ false = sym asks ∙ is in
      cc

pub each_map_may : EachMapMay
each_map_may table pins lead first n row order old new parts parts_new page o can m within at free =
    let run : IsRun order.step first order.first order.count new row = (o.next can).run (maps_soon order.step m) in
    let place : ℕ = order.first + n in
    let byte : ℕ = slice_index_or row place 0 in
    let inside : place < length row = omega (arith, within, run.within) in
    let found : (y : WindowPage) × (slice_get new (first + place) ≡ Some y) = some_page new (first + place) (omega (arith, slice_get_within old (first + place) page at, (o.asked can).length)) in
    let its : step_by (belief_of found.0) byte ≡ order.step = sym (ap (λ v. option_map_or (λ x. step_by (belief_of x) byte) v Over) found.1) ∙ run.each n within in
    let b : PageBecomes (Asks (facts_there table pins (first + place)) byte) page found.0 = (o.asked can).inside place page found.0 inside at found.1 in
    mapped_may (facts_there table pins (first + place)) byte page found.0 b.part b.part_after b.becomes free (subst (λ v. maps v ≡ true) (sym its) m)
