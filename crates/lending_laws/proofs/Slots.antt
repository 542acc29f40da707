-- Each slot that a host gave is one page's at each moment.
use Rattle.std.proofs.Common.{◌≡◌, ◌∙◌, ℕ, zero, suc, ◌+◌, Bool, true, false, cond, not, ◌&&◌, List, inl, inr, Option, Some, None, refl, ap, sym, subst}
use Rattle.std.specs.Prelude.{nat_eq, option_and_then, replicate, slice_get}
use Rattle.std.proofs.lemmas.Bool.{eq-eqb, eqb-false, eqb-true}
use Rattle.page_lender.specs.Decisions.{account, account_then, due, is_barred, is_private, order_at, order_home, touches, waiting}
use Rattle.page_lender.specs.Events.{Fits}
use Rattle.page_lender.specs.Lender.{discarded_of}
use Rattle.page_lender.proofs.Outcomes.{dropped_account}
use Rattle.page_lender.specs.declared.belief.Belief.{Belief}
use Rattle.page_lender.specs.declared.belief.Belief.TheVariants.{Private, Chosen, Copied, Turning, Shown, Leaving}
use Rattle.page_lender.specs.declared.belief.Homing.{Homing}
use Rattle.page_lender.specs.declared.belief.Homing.TheVariants.{Off, InPlace, Elsewhere}
use Rattle.page_lender.specs.declared.belief.Stage.{Stage}
use Rattle.page_lender.specs.declared.belief.Stage.TheVariants.{Ready, Held, Equal, LettingGo}
use Rattle.page_lender.specs.declared.belief.Target.{Target}
use Rattle.page_lender.specs.declared.belief.Target.TheVariants.{Zeros}
use Rattle.page_lender.specs.declared.order.Order.{Order}
use Rattle.page_lender.specs.declared.order.Outcome.{Outcome}
use Rattle.page_lender.specs.declared.order.Outcome.TheVariants.{Done, Lent, Refused, Unknown}
use Rattle.window_events.specs.Windows.{Mappings, is_bare}
use Rattle.window_events.specs.declared.page.View.{View}
use Rattle.window_events.specs.declared.page.View.TheVariants.{Own, Over}
use Rattle.window_pages.specs.Bytes.{belief_of, known_of}
use Rattle.window_pages.specs.Changed.{left_alone}
use Rattle.window_pages.specs.Known.{chosen_as}
use Rattle.window_pages.specs.Laws.{new_page}
use Rattle.window_pages.specs.Lives.{OneChanges, WasDetached}
use Rattle.window_pages.specs.declared.page.WindowPage.{WindowPage}
use Rattle.lending_laws.specs.Histories.{Begins, Calls, CallsAt, CarriedOut, DetachesAt, Given, GivesWhatItMay, IsTold, IsToldAt, Moment, NextComes, Pending, begins, calls, carries_out, chooses, detaches, gives_up, happens, hears, is_told, left_beside, next_comes, notes, only_free, orders, slots_after, with_slot, without_account, without_slot}
use Rattle.lending_laws.specs.Slots.{EachSlotIsOnes, NoSlotIsLost, NoneIsReleasedShown, slot_of}
use Rattle.lending_laws.proofs.Beliefs.{IsFine, fits_at, turning_touches}
use Rattle.lending_laws.proofs.Kept.{IsKept, history_kept}

-- ---- how one page's account changes, and the slots with it

data Turns (old new : Option ℕ) (slots next : ℕ → Bool) : Type 0 where
  stays : new ≡ old → next ≡ slots → Turns old new slots next
  gains : (slot : ℕ) → old ≡ None → new ≡ Some slot → slots slot ≡ false → next ≡ with_slot slot slots → Turns old new slots next
  loses : (slot : ℕ) → old ≡ Some slot → new ≡ None → next ≡ without_slot slot slots → Turns old new slots next

free_slot : (b : Bool) → not b ≡ true → b ≡ false
free_slot true e = cc
free_slot false e = refl

-- an outcome of an order at the page leaves the account
same_account : (order : Order) (outcome : Outcome) (old new : Option ℕ) (slots : ℕ → Bool) → touches order ≡ true → new ≡ account_then order outcome old → Turns old new slots (slots_after order outcome slots)
same_account Order.Wait outcome old new slots t e = cc
same_account Order.Copy outcome old new slots t e = stays e refl
same_account Order.Lend outcome old new slots t e = cc
same_account (Order.Hold target) outcome old new slots t e = stays e refl
same_account (Order.Compare target) outcome old new slots t e = stays e refl
same_account (Order.Map target) outcome old new slots t e = stays e refl
same_account (Order.LetGo target) outcome old new slots t e = stays e refl
same_account (Order.TakeHome in_place) outcome old new slots t e = stays e refl
same_account (Order.Release slot) outcome old new slots t e = cc

told_turns : (b : Belief) (outcome : Outcome) (new : Option ℕ) (slots : ℕ → Bool) → new ≡ account_then (due b) outcome (account b) → GivesWhatItMay only_free slots outcome →
    Turns (account b) new slots (slots_after (due b) outcome slots)
told_turns Private outcome new slots e g = stays e refl
told_turns Chosen outcome new slots e g = stays e refl
told_turns Copied Done new slots e g = stays e refl
told_turns Copied (Lent slot n) new slots e g = gains slot refl e (free_slot (slots slot) g) refl
told_turns Copied Refused new slots e g = stays e refl
told_turns Copied Unknown new slots e g = stays e refl
told_turns (Turning stage target) outcome new slots e g = same_account (order_at stage target) outcome (account (Turning stage target)) new slots (turning_touches stage target) e
told_turns (Shown slot n Off) outcome new slots e g = stays e refl
told_turns (Shown slot n InPlace) outcome new slots e g = stays e refl
told_turns (Shown slot n Elsewhere) outcome new slots e g = stays e refl
told_turns (Leaving slot) Done new slots e g = loses slot refl e refl
told_turns (Leaving slot) (Lent other n) new slots e g = stays e refl
told_turns (Leaving slot) Refused new slots e g = stays e refl
told_turns (Leaving slot) Unknown new slots e g = stays e refl

-- ---- one page changes

record Turned (k : ℕ) (olds news : List WindowPage) : Type 0 where
  others : (j : ℕ) → (j ≡ k → ⊥) → slot_of news j ≡ slot_of olds j

same_slot : (a b : ℕ) (o : Option ℕ) → o ≡ Some a → o ≡ Some b → a ≡ b
same_slot a b o e f = let is : Some a ≡ Some b = sym e ∙ f in cc

ones_stay : (k : ℕ) (olds news : List WindowPage) (slots : ℕ → Bool) → Turned k olds news → slot_of news k ≡ slot_of olds k → EachSlotIsOnes olds slots → EachSlotIsOnes news slots
ones_stay k olds news slots t e h = record {
  kept = λ slot s. let found = h.kept slot s in (found.0, same found.0 ∙ found.1);
  given = λ i slot s. h.given i slot (sym (same i) ∙ s);
  apart = λ i j slot s r. h.apart i j slot (sym (same i) ∙ s) (sym (same j) ∙ r);
} where
  same : (i : ℕ) → slot_of news i ≡ slot_of olds i
  same i = pick (nat_eq i k) refl where
    pick : (b : Bool) → nat_eq i k ≡ b → slot_of news i ≡ slot_of olds i
    pick true b = let is : i ≡ k = eqb-true i k b in subst (λ j. slot_of news j ≡ slot_of olds j) (sym is) e
    pick false b = t.others i (eqb-false i k b)

none_some : (o : Option ℕ) (slot : ℕ) → o ≡ None → o ≡ Some slot → ⊥
none_some o slot e f = cc

ones_gain : (k its : ℕ) (olds news : List WindowPage) (slots : ℕ → Bool) → Turned k olds news → slot_of olds k ≡ None → slot_of news k ≡ Some its → slots its ≡ false → EachSlotIsOnes olds slots →
    EachSlotIsOnes news (with_slot its slots)
ones_gain k its olds news slots t was is free h = record { kept = kept; given = given; apart = apart } where
  not_k : (i slot : ℕ) → slot_of olds i ≡ Some slot → i ≡ k → ⊥
  not_k i slot e s = none_some (slot_of olds k) slot was (subst (λ j. slot_of olds j ≡ Some slot) s e)

  kept : (slot : ℕ) → cond (nat_eq its slot) true (slots slot) ≡ true → (i : ℕ) × (slot_of news i ≡ Some slot)
  kept slot s = pick (nat_eq its slot) refl s where
    pick : (b : Bool) → nat_eq its slot ≡ b → cond b true (slots slot) ≡ true → (i : ℕ) × (slot_of news i ≡ Some slot)
    pick true e g = (k, is ∙ ap (λ v. Some v) (eqb-true its slot e))
    pick false e g = let found = h.kept slot g in (found.0, t.others found.0 (not_k found.0 slot found.1) ∙ found.1)

  given : (i slot : ℕ) → slot_of news i ≡ Some slot → cond (nat_eq its slot) true (slots slot) ≡ true
  given i slot s = pick (nat_eq i k) refl where
    either : (b : Bool) → slots slot ≡ true → cond b true (slots slot) ≡ true
    either true g = refl
    either false g = g

    pick : (b : Bool) → nat_eq i k ≡ b → cond (nat_eq its slot) true (slots slot) ≡ true
    pick true e =
        let at_k : slot_of news k ≡ Some slot = subst (λ j. slot_of news j ≡ Some slot) (eqb-true i k e) s in
        ap (λ b. cond b true (slots slot)) (eq-eqb its slot (same_slot its slot (slot_of news k) is at_k))
    pick false e = either (nat_eq its slot) (h.given i slot (sym (t.others i (eqb-false i k e)) ∙ s))

  new_one : (j slot : ℕ) → slot_of news k ≡ Some slot → (j ≡ k → ⊥) → slot_of news j ≡ Some slot → ⊥
  new_one j slot s ne r =
      let same : its ≡ slot = same_slot its slot (slot_of news k) is s in
      let old : slots slot ≡ true = h.given j slot (sym (t.others j ne) ∙ r) in
      let none : slots slot ≡ false = ap (λ v. slots v) (sym same) ∙ free in
      cc

  apart : (i j slot : ℕ) → slot_of news i ≡ Some slot → slot_of news j ≡ Some slot → i ≡ j
  apart i j slot s r = pick (nat_eq i k) (nat_eq j k) refl refl where
    pick : (a b : Bool) → nat_eq i k ≡ a → nat_eq j k ≡ b → i ≡ j
    pick true true e f = eqb-true i k e ∙ sym (eqb-true j k f)
    pick true false e f = absurd (new_one j slot (subst (λ v. slot_of news v ≡ Some slot) (eqb-true i k e) s) (eqb-false j k f) r)
    pick false true e f = absurd (new_one i slot (subst (λ v. slot_of news v ≡ Some slot) (eqb-true j k f) r) (eqb-false i k e) s)
    pick false false e f = h.apart i j slot (sym (t.others i (eqb-false i k e)) ∙ s) (sym (t.others j (eqb-false j k f)) ∙ r)

ones_lose : (k its : ℕ) (olds news : List WindowPage) (slots : ℕ → Bool) → Turned k olds news → slot_of olds k ≡ Some its → slot_of news k ≡ None → EachSlotIsOnes olds slots →
    EachSlotIsOnes news (without_slot its slots)
ones_lose k its olds news slots t was is h = record { kept = kept; given = given; apart = apart } where
  not_k : (i slot : ℕ) → slot_of news i ≡ Some slot → i ≡ k → ⊥
  not_k i slot e s = none_some (slot_of news k) slot is (subst (λ j. slot_of news j ≡ Some slot) s e)

  kept : (slot : ℕ) → cond (nat_eq its slot) false (slots slot) ≡ true → (i : ℕ) × (slot_of news i ≡ Some slot)
  kept slot s = pick (nat_eq its slot) refl s where
    pick : (b : Bool) → nat_eq its slot ≡ b → cond b false (slots slot) ≡ true → (i : ℕ) × (slot_of news i ≡ Some slot)
    pick true e g = cc
    pick false e g =
        let found = h.kept slot g in
        (found.0, t.others found.0 (λ s. eqb-false its slot e (same_slot its slot (slot_of olds k) was (subst (λ j. slot_of olds j ≡ Some slot) s found.1))) ∙ found.1)

  given : (i slot : ℕ) → slot_of news i ≡ Some slot → cond (nat_eq its slot) false (slots slot) ≡ true
  given i slot s = pick (nat_eq its slot) refl where
    old : slot_of olds i ≡ Some slot
    old = sym (t.others i (not_k i slot s)) ∙ s

    pick : (b : Bool) → nat_eq its slot ≡ b → cond b false (slots slot) ≡ true
    pick true e = absurd (not_k i slot s (h.apart i k slot old (was ∙ ap (λ v. Some v) (eqb-true its slot e))))
    pick false e = h.given i slot old

  apart : (i j slot : ℕ) → slot_of news i ≡ Some slot → slot_of news j ≡ Some slot → i ≡ j
  apart i j slot s r = h.apart i j slot (sym (t.others i (not_k i slot s)) ∙ s) (sym (t.others j (not_k j slot r)) ∙ r)

turned_ones : (k : ℕ) (olds news : List WindowPage) (slots next : ℕ → Bool) → Turned k olds news → Turns (slot_of olds k) (slot_of news k) slots next → EachSlotIsOnes olds slots → EachSlotIsOnes news next
turned_ones k olds news slots next t (stays e s) h = subst (λ v. EachSlotIsOnes news v) (sym s) (ones_stay k olds news slots t e h)
turned_ones k olds news slots next t (gains its was is free s) h = subst (λ v. EachSlotIsOnes news v) (sym s) (ones_gain k its olds news slots t was is free h)
turned_ones k olds news slots next t (loses its was is s) h = subst (λ v. EachSlotIsOnes news v) (sym s) (ones_lose k its olds news slots t was is h)

one_turned : (k : ℕ) (x y : WindowPage) (olds news : List WindowPage) → OneChanges k x y olds news → Turned k olds news
one_turned k x y olds news c = record { others = λ j ne. ap (λ o. option_and_then (λ page. account (belief_of page)) o) (c.others j ne) }

pub slot_at : (pages : List WindowPage) (k : ℕ) (x : WindowPage) → slice_get pages k ≡ Some x → slot_of pages k ≡ account (belief_of x)
slot_at pages k x e = ap (λ o. option_and_then (λ page. account (belief_of page)) o) e

-- ---- calls leave the account

chosen_account : (b : Belief) (rest z : Bool) → account (cond (is_private b && rest) (chosen_as z) b) ≡ account b
chosen_account Private false z = refl
chosen_account Private true true = refl
chosen_account Private true false = refl
chosen_account Chosen rest z = refl
chosen_account Copied rest z = refl
chosen_account (Turning stage target) rest z = refl
chosen_account (Shown slot n homing) rest z = refl
chosen_account (Leaving slot) rest z = refl

discarded_account : (b : Belief) (busy : Bool) → account (cond busy b (discarded_of b)) ≡ account b
discarded_account b true = refl
discarded_account Private false = refl
discarded_account Chosen false = refl
discarded_account Copied false = refl
discarded_account (Turning stage target) false = dropped_account stage target
discarded_account (Shown slot n homing) false = refl
discarded_account (Leaving slot) false = refl

call_account : (p : ℕ) (w : Mappings) (x y : WindowPage) (before next : Pending) → Calls p w x before y next → account (belief_of y) ≡ account (belief_of x)
call_account p w x y before next (chooses old new part after is_zeros bars pending h) =
    ap account h.lender.belief ∙ chosen_account (belief_of old) (not (is_barred bars)) is_zeros
call_account p w x y before next (orders old new part after order bars pending h) = h.lender.account
call_account p w x y before next (hears old new part after notice pending page e v busy h) = h.lender.account
call_account p w x y before next (gives_up old new pending page e v g) = ap account g.belief ∙ discarded_account (belief_of old) ((known_of old).ordered && touches (due (belief_of old)))
call_account p w x y before next (notes old new pending k) = ap account k.belief

calls_ones : (first i : ℕ) (old new : Moment) → EachSlotIsOnes old.pages old.slots → CallsAt first i old new → EachSlotIsOnes new.pages new.slots
calls_ones first k old new h c =
    turned_ones k old.pages new.pages old.slots new.slots (one_turned k c.before c.after old.pages new.pages c.pages)
    (stays (slot_at new.pages k c.after c.pages.after ∙ call_account (first + k) old.world c.before c.after (old.orders k) c.pending c.call ∙ sym (slot_at old.pages k c.before c.pages.before)) c.slots) h

-- ---- an outcome

order_is_due : (p : ℕ) (b : Belief) (ordered : Bool) (w : Mappings) (pending : Pending) (order : Order) (outcome : Outcome) → IsTold outcome order pending → IsFine p b ordered w pending → order ≡ due b
order_is_due p b ordered w pending order Done t f = let g : IsFine p b ordered w (CarriedOut order) = subst (λ v. IsFine p b ordered w v) t f in g.0.is_due
order_is_due p b ordered w pending order (Lent slot n) t f = let g : IsFine p b ordered w (Given order) = subst (λ v. IsFine p b ordered w v) t f in g.0.is_due
order_is_due p b ordered w pending order Refused t f = let g : IsFine p b ordered w (Given order) = subst (λ v. IsFine p b ordered w v) t f in g.0.is_due
order_is_due p b ordered w pending order Unknown (inl t) f = let g : IsFine p b ordered w (Given order) = subst (λ v. IsFine p b ordered w v) t f in g.0.is_due
order_is_due p b ordered w pending order Unknown (inr t) f = let g : IsFine p b ordered w (CarriedOut order) = subst (λ v. IsFine p b ordered w v) t f in g.0.is_due

told_ones : (first count i : ℕ) (old new : Moment) → IsKept first count old → EachSlotIsOnes old.pages old.slots → IsToldAt only_free i old new → EachSlotIsOnes new.pages new.slots
told_ones first count k old new f h c =
    let is : c.order ≡ due (belief_of c.before) =
    order_is_due (first + k) (belief_of c.before) (known_of c.before).ordered old.world (old.orders k) c.order c.outcome c.told (f.fine k c.before c.pages.before) in
    let turns : Turns (account (belief_of c.before)) (account (belief_of c.after)) old.slots (slots_after (due (belief_of c.before)) c.outcome old.slots) =
    told_turns (belief_of c.before) c.outcome (account (belief_of c.after)) old.slots c.done.lender.account c.gives in
    let named : Turns (account (belief_of c.before)) (account (belief_of c.after)) old.slots new.slots =
    subst (λ v. Turns (account (belief_of c.before)) (account (belief_of c.after)) old.slots v) (sym (c.slots ∙ ap (λ o. slots_after o c.outcome old.slots) is)) turns in
    turned_ones k old.pages new.pages old.slots new.slots (one_turned k c.before c.after old.pages new.pages c.pages)
    (subst (λ v. Turns (slot_of old.pages k) v old.slots new.slots) (sym (slot_at new.pages k c.after c.pages.after))
    (subst (λ v. Turns v (account (belief_of c.after)) old.slots new.slots) (sym (slot_at old.pages k c.before c.pages.before)) named)) h

-- ---- where no page has a slot

new_slot : (n i : ℕ) → slot_of (replicate n new_page) i ≡ None
new_slot zero i = refl
new_slot (suc n) zero = refl
new_slot (suc n) (suc i) = new_slot n i

no_ones : (pages : List WindowPage) (slots : ℕ → Bool) → ((i : ℕ) → slot_of pages i ≡ None) → ((s : ℕ) → slots s ≡ false) → EachSlotIsOnes pages slots
no_ones pages slots p s = record {
  kept = λ slot e. let none : slots slot ≡ false = s slot in cc;
  given = λ i slot e. let none : slot_of pages i ≡ None = p i in cc;
  apart = λ i j slot e f. let none : slot_of pages i ≡ None = p i in cc;
}

left_account : (b : Belief) → account (left_alone b) ≡ None
left_account b = pick (waiting b) where
  pick : (t : Bool) → account (cond t (Turning LettingGo Zeros) Private) ≡ None
  pick true = refl
  pick false = refl

next_ones : (first count : ℕ) (old new : Moment) → NextComes first count old new → EachSlotIsOnes new.pages new.slots
next_ones first count old new c = no_ones new.pages new.slots (λ i. pick i (slice_get new.pages i) refl) c.slots where
  pick : (i : ℕ) (o : Option WindowPage) → slice_get new.pages i ≡ o → option_and_then (λ page. account (belief_of page)) (slice_get new.pages i) ≡ None
  pick i None e = ap (λ o. option_and_then (λ page. account (belief_of page)) o) e
  pick i (Some x) e =
      let d : WasDetached i old.pages x = c.pages.each i x e in
      slot_at new.pages i x e ∙ ap (λ k. account k.belief) d.becomes.known ∙ left_account (belief_of d.page)

-- the page's slot counts no more
detached_ones : (first count k : ℕ) (old new : Moment) → EachSlotIsOnes old.pages old.slots → DetachesAt first count k old new → EachSlotIsOnes new.pages new.slots
detached_ones first count k old new h c = turned_ones k old.pages new.pages old.slots new.slots (one_turned k c.before c.after old.pages new.pages c.pages) (pick (account (belief_of c.before)) refl) h where
  none : slot_of new.pages k ≡ None
  none = slot_at new.pages k c.after c.pages.after ∙ ap (λ v. account v.belief) c.becomes.known ∙ left_account (belief_of c.before)

  was : slot_of old.pages k ≡ account (belief_of c.before)
  was = slot_at old.pages k c.before c.pages.before

  pick : (o : Option ℕ) → account (belief_of c.before) ≡ o → Turns (slot_of old.pages k) (slot_of new.pages k) old.slots new.slots
  pick None e = stays (none ∙ sym (was ∙ e)) (c.slots ∙ ap (λ o. without_account o old.slots) e)
  pick (Some its) e = loses its (was ∙ e) none (c.slots ∙ ap (λ o. without_account o old.slots) e)

begins_ones : (first count : ℕ) (m : Moment) → Begins first count m → EachSlotIsOnes m.pages m.slots
begins_ones first count m b = no_ones m.pages m.slots (λ i. subst (λ v. slot_of v i ≡ None) (sym b.pages) (new_slot count i)) b.slots

same_ones : (pages next : List WindowPage) (slots after : ℕ → Bool) → next ≡ pages → after ≡ slots → EachSlotIsOnes pages slots → EachSlotIsOnes next after
same_ones pages next slots after p s h = subst (λ v. EachSlotIsOnes v after) (sym p) (subst (λ v. EachSlotIsOnes pages v) (sym s) h)

pub no_slot_is_lost : NoSlotIsLost
no_slot_is_lost first count m (begins its b) = begins_ones first count its b
no_slot_is_lost first count m (calls old new i h c) = calls_ones first i old new (no_slot_is_lost first count old h) c
no_slot_is_lost first count m (carries_out old new i h c) = same_ones old.pages new.pages old.slots new.slots c.pages c.slots (no_slot_is_lost first count old h)
no_slot_is_lost first count m (is_told old new i h c) = told_ones first count i old new (history_kept only_free first count old h) (no_slot_is_lost first count old h) c
no_slot_is_lost first count m (happens old new h c) = same_ones old.pages new.pages old.slots new.slots c.pages c.slots (no_slot_is_lost first count old h)
no_slot_is_lost first count m (detaches old new i h c) = detached_ones first count i old new (no_slot_is_lost first count old h) c
no_slot_is_lost first count m (left_beside old new h c) = same_ones old.pages new.pages old.slots new.slots c.pages c.slots (no_slot_is_lost first count old h)
no_slot_is_lost first count m (next_comes old new h c) = next_ones first count old new c

-- ---- a release

turning_releases : (stage : Stage) (target : Target) (slot : ℕ) → Order.Release slot ≡ order_at stage target → ⊥
turning_releases Ready target slot e = cc
turning_releases Held target slot e = cc
turning_releases Equal target slot e = cc
turning_releases LettingGo target slot e = cc

home_releases : (homing : Homing) (slot : ℕ) → Order.Release slot ≡ order_home homing → ⊥
home_releases Off slot e = cc
home_releases InPlace slot e = cc
home_releases Elsewhere slot e = cc

pub releases_own : (b : Belief) (slot : ℕ) → Order.Release slot ≡ due b → b ≡ Leaving slot
releases_own Private slot e = cc
releases_own Chosen slot e = cc
releases_own Copied slot e = cc
releases_own (Turning stage target) slot e = absurd (turning_releases stage target slot e)
releases_own (Shown its n homing) slot e = absurd (home_releases homing slot e)
releases_own (Leaving its) slot e = let same : slot ≡ its = cc in ap (λ v. Leaving v) (sym same)

unbared : (view : View) → not (is_bare view) ≡ true → is_bare view ≡ false
unbared (Own x) e = refl
unbared (Over n (Some x)) e = refl
unbared (Over n None) e = cc

pub none_is_released_shown : NoneIsReleasedShown
none_is_released_shown first count m h i j slot x page e s a l =
    let f : IsFine (first + i) (belief_of x) (known_of x).ordered m.world (Given (Order.Release slot)) =
    subst (λ v. IsFine (first + i) (belief_of x) (known_of x).ordered m.world v) s ((history_kept only_free first count m h).fine i x e) in
    let is : belief_of x ≡ Leaving slot = releases_own (belief_of x) slot f.0.is_due in
    let own : slot_of m.pages i ≡ Some slot = slot_at m.pages i x e ∙ ap account is in
    let same : j ≡ i = (no_slot_is_lost first count m h).apart j i slot a own in
    let there : slice_get m.world.pages (first + i) ≡ Some page = ap (λ v. slice_get m.world.pages (first + v)) (sym same) ∙ l in
    let fits : Fits (Leaving slot) page = subst (λ v. Fits v page) is (fits_at (first + i) (belief_of x) m.world page f.1 there) in
    unbared page.view fits.view
