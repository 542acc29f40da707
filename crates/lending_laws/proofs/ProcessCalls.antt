-- A call for the pages of a window goes on in the process, where other windows stay.
use Rattle.std.proofs.Common.{◌≡◌, ◌∙◌, ℕ, Bool, true, false, not, cond, refl, ap, sym, subst}
use Rattle.std.proofs.lemmas.Bool.{eqb-false, eqb-true}
use Rattle.std.specs.Prelude.{nat_eq}
use Rattle.page_lender.specs.declared.order.Outcome.{Outcome}
use Rattle.page_lender.specs.declared.order.Outcome.TheVariants.{Done, Lent, Refused, Unknown}
use Rattle.lending_laws.specs.Histories.{CallsAt, GivesWhatItMay, IsToldAt, Moment}
use Rattle.lending_laws.specs.ProcessCalls.{EachCallGoesOnInAll, GivesFor}
use Rattle.lending_laws.specs.Processes.{GivesApart, IsAlone, IsToldIn, OthersStay, Process, ProcessHistory, Span, calls, is_told, may_give, moment_of, moment_with}
use Rattle.lending_laws.proofs.Kept.{IsKept, history_kept}
use Rattle.lending_laws.proofs.Lender.{Goes, Reaches, call_reaches, goes_calls, goes_stays, goes_told}
use Rattle.lending_laws.proofs.Processes.{each_page_of_all_is_read, each_window_is_alone}

-- the process where window k is at this moment
abbrev pub with_window : ℕ → Moment → Process → Process
with_window k m x = record {
  is_open = x.is_open;
  pages = λ j. cond (nat_eq j k) m.pages (x.pages j);
  orders = λ j. cond (nat_eq j k) m.orders (x.orders j);
  slots = λ j. cond (nat_eq j k) m.slots (x.slots j);
  stored = m.stored;
  world = m.world;
}

pub its_own : {A : Type 0} (k : ℕ) (own before : A) → cond (nat_eq k k) own before ≡ own
its_own {A} k own before = pick (nat_eq k k) refl where
  pick : (b : Bool) → nat_eq k k ≡ b → cond b own before ≡ own
  pick true e = refl
  pick false e = absurd (eqb-false k k e refl)

pub of_others : {A : Type 0} (j k : ℕ) (own before : A) → (j ≡ k → ⊥) → cond (nat_eq j k) own before ≡ before
of_others {A} j k own before n = pick (nat_eq j k) refl where
  pick : (b : Bool) → nat_eq j k ≡ b → cond b own before ≡ before
  pick true e = absurd (n (eqb-true j k e))
  pick false e = refl

pub is_there : (k : ℕ) (m : Moment) (x : Process) → moment_of k (with_window k m x) ≡ m
is_there k m x = pick (nat_eq k k) refl where
  pick : (b : Bool) → nat_eq k k ≡ b → record { pages = cond b m.pages (x.pages k); orders = cond b m.orders (x.orders k); slots = cond b m.slots (x.slots k); stored = m.stored; world = m.world } ≡ m
  pick true e = refl
  pick false e = absurd (eqb-false k k e refl)

pub others_stay : (k : ℕ) (m : Moment) (x : Process) → OthersStay k x (with_window k m x)
others_stay k m x j n = record { is_open = refl; pages = of_others j k m.pages (x.pages j) n; orders = of_others j k m.orders (x.orders j) n; slots = of_others j k m.slots (x.slots j) n }

pub both_stay : (k : ℕ) (a b c : Process) → OthersStay k a b → OthersStay k b c → OthersStay k a c
both_stay k a b c s t j n = record {
  is_open = (t j n).is_open ∙ (s j n).is_open;
  pages = (t j n).pages ∙ (s j n).pages;
  orders = (t j n).orders ∙ (s j n).orders;
  slots = (t j n).slots ∙ (s j n).slots;
}

-- what a host gives for one window it may give in the process
may_too : (f : Bool) (k : ℕ) (x : Process) (g : (ℕ → Bool) → ℕ → Bool) (slots : ℕ → Bool) (outcome : Outcome) → GivesFor f k x g → GivesWhatItMay g slots outcome → GivesWhatItMay (may_give f) slots outcome
may_too f k x g slots Done h e = tt
may_too f k x g slots (Lent slot n) h e = h.may slots slot e
may_too f k x g slots Refused h e = tt
may_too f k x g slots Unknown h e = tt

is_free : (slots : ℕ → Bool) (slot : ℕ) → may_give true slots slot ≡ true → slots slot ≡ false
is_free slots slot e = pick (slots slot) refl where
  pick : (b : Bool) → slots slot ≡ b → slots slot ≡ false
  pick true s = absurd (clash (slots slot) e s) where
    clash : (b : Bool) → not b ≡ true → b ≡ true → ⊥
    clash b e f = cc
  pick false s = s

gives_apart : (f : Bool) (k : ℕ) (x now : Process) (g : (ℕ → Bool) → ℕ → Bool) (outcome : Outcome) → GivesFor f k x g → OthersStay k x now → GivesWhatItMay g (now.slots k) outcome → GivesApart f now.slots outcome
gives_apart f k x now g Done h s e = tt
gives_apart false k x now g (Lent slot n) h s e = tt
gives_apart true k x now g (Lent slot n) h s e = λ j. pick j (nat_eq j k) refl where
  pick : (j : ℕ) (b : Bool) → nat_eq j k ≡ b → now.slots j slot ≡ false
  pick j true i = subst (λ v. now.slots v slot ≡ false) (sym (eqb-true j k i)) (is_free (now.slots k) slot (h.may (now.slots k) slot e))
  pick j false i = ap (λ v. v slot) (s j (eqb-false j k i)).slots ∙ h.apart (now.slots k) slot j refl e (eqb-false j k i)
gives_apart f k x now g Refused h s e = tt
gives_apart f k x now g Unknown h s e = tt

told_in : (f : Bool) (k i : ℕ) (x old new : Process) (g : (ℕ → Bool) → ℕ → Bool) → GivesFor f k x g → OthersStay k x old → IsToldAt g i (moment_of k old) (moment_of k new) → IsToldIn f k i old new
told_in f k i x old new g h s t = record {
  told = record {
    before = t.before;
    after = t.after;
    part = t.part;
    part_after = t.part_after;
    pages = t.pages;
    order = t.order;
    outcome = t.outcome;
    told = t.told;
    done = t.done;
    noted = t.noted;
    gives = may_too f k x g (old.slots k) t.outcome h t.gives;
    orders = t.orders;
    slots = t.slots;
    stored = t.stored;
    world = t.world;
  };
  apart = gives_apart f k x old g t.outcome h s t.gives;
}

-- ---- what a window goes through

-- The process is at a moment of its history, where window k is at this one.
pub record ProcessAt (f : Bool) (spans : ℕ → Span) (k : ℕ) (old : Process) (m : Moment) : Type 0 where
  pub new : Process
  pub history : ProcessHistory f spans new
  pub at : moment_of k new ≡ m
  pub is_open : new.is_open k ≡ true
  pub others : OthersStay k old new

pub window_goes : (f : Bool) (spans : ℕ → Span) (k : ℕ) (x : Process) (g : (ℕ → Bool) → ℕ → Bool) (m : Moment) → ProcessHistory f spans x → x.is_open k ≡ true → GivesFor f k x g →
    Goes g (spans k).first (moment_of k x) m → ProcessAt f spans k x m
window_goes f spans k x g m h o a goes_stays = record { new = x; history = h; at = refl; is_open = o; others = λ j n. record { is_open = refl; pages = refl; orders = refl; slots = refl } }
window_goes f spans k x g m h o a (goes_calls now next i s c) =
    let was : ProcessAt f spans k x now = window_goes f spans k x g now h o a s in
    let new : Process = with_window k m was.new in
    let from_there : CallsAt (spans k).first i (moment_of k was.new) m = subst (λ v. CallsAt (spans k).first i v m) (sym was.at) c in
    let call : CallsAt (spans k).first i (moment_of k was.new) (moment_of k new) = subst (λ v. CallsAt (spans k).first i (moment_of k was.new) v) (sym (is_there k m was.new)) from_there in
    record {
      new = new;
      history = calls was.new new k i was.history (record { before = was.is_open; after = was.is_open }) (others_stay k m was.new) call;
      at = is_there k m was.new;
      is_open = was.is_open;
      others = both_stay k x was.new new was.others (others_stay k m was.new);
    }
window_goes f spans k x g m h o a (goes_told now next i s t) =
    let was : ProcessAt f spans k x now = window_goes f spans k x g now h o a s in
    let new : Process = with_window k m was.new in
    let from_there : IsToldAt g i (moment_of k was.new) m = subst (λ v. IsToldAt g i v m) (sym was.at) t in
    let told : IsToldAt g i (moment_of k was.new) (moment_of k new) = subst (λ v. IsToldAt g i (moment_of k was.new) v) (sym (is_there k m was.new)) from_there in
    record {
      new = new;
      history = is_told was.new new k i was.history (record { before = was.is_open; after = was.is_open }) (others_stay k m was.new) (told_in f k i x was.new new g a was.others told);
      at = is_there k m was.new;
      is_open = was.is_open;
      others = both_stay k x was.new new was.others (others_stay k m was.new);
    }

-- what is kept of window k alone is kept of it in the process
pub kept_in : (f : Bool) (spans : ℕ → Span) (k : ℕ) (x : Process) → ProcessHistory f spans x → x.is_open k ≡ true → IsKept (spans k).first (spans k).count (moment_of k x)
kept_in f spans k x h o =
    let alone : IsAlone f spans k x = each_window_is_alone f spans k x h o in
    let kept : IsKept (spans k).first (spans k).count (moment_with k alone.stored x) = history_kept (may_give f) (spans k).first (spans k).count (moment_with k alone.stored x) alone.history in
    record { many = kept.many; fine = kept.fine; reads = λ i l. each_page_of_all_is_read f spans k i x h o l }

pub each_call_goes_on_in_all : EachCallGoesOnInAll
each_call_goes_on_in_all f spans k x g pages h o a c =
    let r : Reaches g (spans k).first (moment_of k x) pages = call_reaches g (spans k).first (spans k).count (moment_of k x) pages (kept_in f spans k x h o) c in
    let p : ProcessAt f spans k x r.new = window_goes f spans k x g r.new h o a r.goes in
    record {
      new = p.new;
      history = p.history;
      has = ap (λ v. v.pages) p.at ∙ r.has;
      is_open = p.is_open;
      others = p.others;
      stored = ap (λ v. v.stored) p.at ∙ r.stored;
      world = ap (λ v. v.world) p.at ∙ r.world;
      reads = λ j i t l. each_page_of_all_is_read f spans j i p.new p.history t l;
    }
