-- Pages of a list, one more.
use Rattle.std.proofs.Common.{◌≡◌, ◌∙◌, ℕ, zero, suc, ◌+◌, ◌*◌, ◌<◌, ◌≤◌, Bool, true, false, ◌&&◌, List, [], ◌∷◌, length, Some, refl, ap, sym, subst, arith}
use Rattle.std.proofs.lemmas.Bool.{leb-true}
use Rattle.std.specs.Prelude.{nat_le, nat_lt, slice_get, slice_set}
use Rattle.page_holds.specs.Rows.{PageChanges}
use Rattle.page_lender.specs.declared.order.Order.{Order}
use Rattle.page_lender.specs.declared.order.Outcome.{Outcome}
use Rattle.page_lender.specs.declared.order.Outcome.TheVariants.{Done, Refused, Lent}
use Rattle.window_pages.specs.Bytes.{known_of}
use Rattle.window_pages.specs.Counted.{counts_then}
use Rattle.window_pages.specs.Known.{takes}
use Rattle.window_pages.specs.declared.counts.PartCounts.{PartCounts}
use Rattle.window_pages.specs.declared.facts.WindowFacts.{WindowFacts}
use Rattle.window_pages.specs.declared.page.WindowPage.{WindowPage}
use Rattle.window_tables.proofs.Counts.{counted_more}
use Rattle.window_tables.proofs.Places.{set_length, set_own}
use Rattle.window_tables.specs.Tables.{Counted, OneChanges, has_parts, part_at}
use Rattle.lend_steps.specs.Holds.{ToGiveBack, ToHold, is_crowded_out, is_given_back, is_kept, is_ordered, is_passed_by, is_refused}
use Rattle.lend_steps.specs.Asks.{Answered, InVain, ToAsk, is_asked, is_crowded, is_found, is_in_vain, is_left_out, is_not_free, sees}
use Rattle.lend_steps.specs.Copies.{CameOfCopy, ToCopy, is_chosen, is_left, is_good, is_changed, is_zeros, is_nothing}
use Rattle.lend_steps.specs.Lists.{Deed, Followed, Told, Turn, follows, stays, is_there, is_not_there}
use Rattle.lend_steps.specs.Loans.{CameOfLoan, is_unheard, is_without_frame, is_without_slot, is_given}
use Rattle.lend_steps.specs.Releases.{FindsAt, OrderedTo, ToRelease, asks, at_once, passes, refused_first}
use Rattle.lend_steps.specs.declared.copies.CopyOutcome.{CopyOutcome}
use Rattle.lend_steps.specs.declared.loans.LoanReply.{LoanReply}

set_same : {X : Type 0} (xs : List X) (p : ℕ) (x : X) → slice_get xs p ≡ Some x → slice_set xs p x ≡ xs
set_same [] p x e = refl
set_same (y ∷ xs) zero x e = let is : y ≡ x = cc in ap (λ v. v ∷ xs) (sym is)
set_same (y ∷ xs) (suc p) x e = ap (λ v. y ∷ v) (set_same xs p x e)

set_twice : {X : Type 0} (xs : List X) (p : ℕ) (x y : X) → slice_set (slice_set xs p x) p y ≡ slice_set xs p y
set_twice [] p x y = refl
set_twice (z ∷ xs) zero x y = refl
set_twice (z ∷ xs) (suc p) x y = ap (λ v. z ∷ v) (set_twice xs p x y)

-- a page whose counts follow leaves those of its table right
one_follows : (lead place : ℕ) (old : List WindowPage) (parts : List PartCounts) (x : WindowPage) (part : PartCounts) (y : WindowPage) (part_new : PartCounts) → slice_get old place ≡ Some x →
    slice_get parts (part_at lead place) ≡ Some part → Followed x part y part_new → Counted lead old parts →
    Counted lead (slice_set old place y) (slice_set parts (part_at lead place) part_new)
one_follows lead place old parts x part y part_new e f (stays new q a b) c =
    let is : slice_set old place new ≡ old = ap (λ v. slice_set old place v) a ∙ set_same old place x e in
    let are : slice_set parts (part_at lead place) q ≡ parts = ap (λ v. slice_set parts (part_at lead place) v) b ∙ set_same parts (part_at lead place) part f in
    subst (λ v. Counted lead v (slice_set parts (part_at lead place) q)) (sym is) (subst (λ v. Counted lead old v) (sym are) c)
one_follows lead place old parts x part y part_new e f (follows between new q r s a) c =
    let before : Counted lead (slice_set old place between) (slice_set parts (part_at lead place) q) = one_follows lead place old parts x part between q e f s c in
    let one : OneChanges (λ v w. v ≡ v) lead place (slice_set old place between) (slice_set old place new) (slice_set parts (part_at lead place) q) (slice_set parts (part_at lead place) r) = record {
      before = between;
      after = new;
      part = q;
      is_there = set_own old place x between e;
      is_part = set_own parts (part_at lead place) part q f;
      changed = sym (set_twice old place between new);
      follows = ap (λ v. slice_set parts (part_at lead place) v) a ∙ sym (set_twice parts (part_at lead place) q (counts_then between new q));
      becomes = refl;
    } in
    counted_more (λ v w. v ≡ v) lead place (slice_set old place between) (slice_set old place new) (slice_set parts (part_at lead place) q) (slice_set parts (part_at lead place) r) one before

-- The counts of the parts stay right, and each page has its part still.
pub record Keeps (lead : ℕ) (old new : List WindowPage) (parts parts_new : List PartCounts) : Type 0 where
  pub counted : Counted lead old parts → Counted lead new parts_new
  pub parted : has_parts lead old parts ≡ true → has_parts lead new parts_new ≡ true

pub change_keeps : (Becomes : WindowPage → WindowPage → PartCounts → PartCounts → Type 0) (lead place : ℕ) (old new : List WindowPage) (parts parts_new : List PartCounts)
    (o : PageChanges Becomes lead place old new parts parts_new) → Followed o.before o.part o.after o.part_after → Keeps lead old new parts parts_new
change_keeps Becomes lead place old new parts parts_new o f =
    let long : length old ≡ length new = sym (ap (λ v. length v) o.changed ∙ set_length old place o.after) in
    let many : length parts ≡ length parts_new = sym (ap (λ v. length v) o.follows ∙ set_length parts (part_at lead place) o.part_after) in
    record {
      counted = λ c.
          subst (λ v. Counted lead v parts_new) (sym o.changed)
          (subst (λ v. Counted lead (slice_set old place o.after) v) (sym o.follows) (one_follows lead place old parts o.before o.part o.after o.part_after o.is_there o.is_part f c));
      parted = λ h.
          subst (λ n. (nat_lt lead 512 && nat_le (n + lead) (512 * length parts_new)) ≡ true) long
          (subst (λ n. (nat_lt lead 512 && nat_le (length old + lead) (512 * n)) ≡ true) many h);
    }

pub turn_keeps : (Does : Deed) (lead number answer : ℕ) (old new : List WindowPage) (parts parts_new : List PartCounts) →
    ((x y : WindowPage) (p q : PartCounts) → Does answer x y p q → Followed x p y q) → Turn Does lead number answer old new parts parts_new → Keeps lead old new parts parts_new
turn_keeps Does lead number answer old new parts parts_new f (is_there o) =
    change_keeps (Does answer) lead number old new parts parts_new o (f o.before o.after o.part o.part_after o.becomes)
turn_keeps Does lead number answer old new parts parts_new f (is_not_there l a b p) = record {
  counted = λ c. subst (λ v. Counted lead v parts_new) (sym b) (subst (λ v. Counted lead old v) (sym p) c);
  parted = λ h. subst (λ v. has_parts lead v parts_new ≡ true) (sym b) (subst (λ v. has_parts lead old v ≡ true) (sym p) h);
}

second_of : (a b : Bool) → (a && b) ≡ true → b ≡ true
second_of true b h = h
second_of false b h = cc

-- the part of a page is there
pub part_there : (lead place : ℕ) (pages : List WindowPage) (parts : List PartCounts) → has_parts lead pages parts ≡ true → place < length pages → part_at lead place < length parts
part_there lead place pages parts h l =
    let fits : length pages + lead ≤ 512 * length parts = leb-true (length pages + lead) (512 * length parts) (second_of (nat_lt lead 512) (nat_le (length pages + lead) (512 * length parts)) h) in
    omega (arith, fits, l)

-- ---- one page

pub told_follows : (outcome : Outcome) (x y : WindowPage) (p q : PartCounts) → Told outcome x y p q → Followed x p y q
told_follows outcome x y p q t = pick (takes outcome (known_of x)) refl where
  pick : (is : Bool) → takes outcome (known_of x) ≡ is → Followed x p y q
  pick true e = follows x y p q (stays x p refl refl) ((t.done e).counts)
  pick false e = stays y q (t.page e) (t.counts e)

pub told_joined : (outcome : Outcome) (old x y : WindowPage) (part p q : PartCounts) → Followed old part x p → Told outcome x y p q → Followed old part y q
told_joined outcome old x y part p q f t = pick (takes outcome (known_of x)) refl where
  pick : (is : Bool) → takes outcome (known_of x) ≡ is → Followed old part y q
  pick true e = follows x y p q f ((t.done e).counts)
  pick false e = subst (λ v. Followed old part v q) (sym (t.page e)) (subst (λ v. Followed old part x v) (sym (t.counts e)) f)

pub to_copy_follows : (facts : WindowFacts) (is_ready : Bool) (fingerprint a : ℕ) (x y : WindowPage) (p q : PartCounts) → ToCopy facts is_ready fingerprint a x y p q → Followed x p y q
to_copy_follows facts is_ready fingerprint a x y p q (is_chosen order can c e) =
    follows c.between y c.part_between q (follows x c.between p c.part_between (stays x p refl refl) c.chosen.counts) c.ordered.counts
to_copy_follows facts is_ready fingerprint a x y p q (is_left can e b d) = stays y q b d

pub copied_follows : (facts : WindowFacts) (a : ℕ) (x y : WindowPage) (p q : PartCounts) (came : CopyOutcome) → CameOfCopy facts a x y p q came → Followed x p y q
copied_follows facts a x y p q came (is_good order c e) = follows c.between y c.part_between q (told_follows Done x c.between p c.part_between c.told) c.ordered.counts
copied_follows facts a x y p q came (is_changed c e) = follows c.between y c.part_between q (told_follows Refused x c.between p c.part_between c.told) c.forgotten.counts
copied_follows facts a x y p q came (is_zeros t e) = told_follows Refused x y p q t
copied_follows facts a x y p q came (is_nothing e b d) = stays y q b d

pub loaned_follows : (frames a : ℕ) (x y : WindowPage) (p q : PartCounts) (reply : LoanReply) → CameOfLoan frames a x y p q reply → Followed x p y q
loaned_follows frames a x y p q reply (is_unheard t e) = told_follows Refused x y p q t
loaned_follows frames a x y p q reply (is_without_frame c e) = follows c.between y c.part_between q (told_follows Refused x c.between p c.part_between c.told) c.last.counts
loaned_follows frames a x y p q reply (is_without_slot c e) = follows c.between y c.part_between q (told_follows Refused x c.between p c.part_between c.told) c.last.counts
loaned_follows frames a x y p q reply (is_given slot frame t e) = told_follows (Lent slot frame) x y p q t

pub ordered_follows : (facts : WindowFacts) (order : Order) (x y : WindowPage) (p q : PartCounts) → OrderedTo facts order x y p q → Followed x p y q
ordered_follows facts order x y p q (at_once h l) = follows x y p q (stays x p refl refl) l.counts
ordered_follows facts order x y p q (refused_first first one two r s h l t m) =
    follows two y s q (told_joined Refused x one two p r s (follows x one p r (stays x p refl refl) l.counts) t) m.counts

pub released_follows : (facts : WindowFacts) (is : Bool) (x y : WindowPage) (p q : PartCounts) → ToRelease facts is x y p q → Followed x p y q
released_follows facts is x y p q r = ordered_follows facts r.order x y p q r.ordered

pub finds_keeps : (facts : WindowFacts) (pins : List ℕ) (lead place room count count_new : ℕ) (old new : List WindowPage) (parts parts_new : List PartCounts) (places places_new : List ℕ) →
    FindsAt facts pins lead place room count count_new old new parts parts_new places places_new → Keeps lead old new parts parts_new
finds_keeps facts pins lead place room count count_new old new parts parts_new places places_new (passes h e a b d) = record {
  counted = λ c. subst (λ v. Counted lead v parts_new) (sym a) (subst (λ v. Counted lead old v) (sym b) c);
  parted = λ i. subst (λ v. has_parts lead v parts_new ≡ true) (sym a) (subst (λ v. has_parts lead old v ≡ true) (sym b) i);
}
finds_keeps facts pins lead place room count count_new old new parts parts_new places places_new (asks is l h o e d) =
    change_keeps (λ x y p q. ToRelease facts is x y p q) lead place old new parts parts_new o (released_follows facts is o.before o.after o.part o.part_after o.becomes)

pub to_ask_follows : (facts : WindowFacts) (has_room passing : Bool) (a : ℕ) (x y : WindowPage) (p q : PartCounts) → ToAsk facts has_room passing a x y p q → Followed x p y q
to_ask_follows facts has_room passing a x y p q (is_not_free h e b d) = stays y q b d
to_ask_follows facts has_room passing a x y p q (is_crowded h r e n) = follows x y p q (stays x p refl refl) n.counts
to_ask_follows facts has_room passing a x y p q (is_asked h r e b d) = stays y q b d

in_vain_follows : (whole other : Bool) (fingerprint : ℕ) (x y : WindowPage) (p q : PartCounts) → InVain whole other fingerprint x y p q → Followed x p y q
in_vain_follows whole other fingerprint x y p q v = pick (sees whole other fingerprint v.between) refl where
  first : Followed x p v.between v.part_between
  first = follows x v.between p v.part_between (stays x p refl refl) v.asked.counts

  pick : (is : Bool) → sees whole other fingerprint v.between ≡ is → Followed x p y q
  pick true e = follows v.between y v.part_between q first ((v.seen e).counts)
  pick false e = subst (λ w. Followed x p w q) (sym (v.kept e)) (subst (λ w. Followed x p v.between w) (sym (v.kept_part e)) first)

pub answered_follows : (whole other has_room : Bool) (fingerprint a : ℕ) (x y : WindowPage) (p q : PartCounts) → Answered whole other has_room fingerprint a x y p q → Followed x p y q
answered_follows whole other has_room fingerprint a x y p q (is_in_vain h e v) = in_vain_follows whole other fingerprint x y p q v
answered_follows whole other has_room fingerprint a x y p q (is_left_out h r e n) = follows x y p q (stays x p refl refl) n.counts
answered_follows whole other has_room fingerprint a x y p q (is_found h r e b d) = stays y q b d

pub to_hold_follows : (facts : WindowFacts) (is_split : Bool) (a : ℕ) (x y : WindowPage) (p q : PartCounts) → ToHold facts is_split a x y p q → Followed x p y q
to_hold_follows facts is_split a x y p q (is_ordered order can l h e) = follows x y p q (stays x p refl refl) l.counts
to_hold_follows facts is_split a x y p q (is_refused order between part_between can l h t e) = told_joined Refused x between y p part_between q (follows x between p part_between (stays x p refl refl) l.counts) t
to_hold_follows facts is_split a x y p q (is_passed_by can e b d) = stays y q b d

pub to_give_back_follows : (facts : WindowFacts) (is_split has_room : Bool) (a : ℕ) (x y : WindowPage) (p q : PartCounts) → ToGiveBack facts is_split has_room a x y p q → Followed x p y q
to_give_back_follows facts is_split has_room a x y p q (is_given_back order can r c e) =
    follows c.between y c.part_between q (follows x c.between p c.part_between (stays x p refl refl) c.chosen.counts) c.ordered.counts
to_give_back_follows facts is_split has_room a x y p q (is_crowded_out can r e n) = follows x y p q (stays x p refl refl) n.counts
to_give_back_follows facts is_split has_room a x y p q (is_kept can e b d) = stays y q b d
