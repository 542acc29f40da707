-- Where a page goes that is lent beside a frame.
use Rattle.std.proofs.Common.{◌≡◌, ℕ, ◌+◌, ◌<◌, Bool, true, false, cond, List, [], ◌∷◌, length, Option, Some, None, refl, sym, ap, subst, ◌∙◌, arith, zero, suc, ◌⊎◌, inl, inr}
use Rattle.std.specs.Prelude.{◌&&◌, nat_lt, count_by, is_some}
use Rattle.std.proofs.lemmas.Bool.{false≢true, ltb-true, lt-ltb, le-ltb, cases_eq}
use Rattle.std.specs.List.{position_or_len}
use Rattle.std.proofs.lemmas.List.Recursion.{is_count_by}
use Rattle.std.proofs.lemmas.List.Sums.{position_or_len_is}
use Rattle.lent_slots.specs.declared.holding.Holding.{Holding}
use Rattle.lent_slots.specs.declared.fault.SlotFault.TheVariants.{NoSlot, NoFrame}
use Rattle.lent_slots.specs.Slots.{MachineView, IsFull}
use Rattle.lent_slots.specs.Totals.{held_slots, frames_in_use}
use Rattle.share_domain.specs.declared.fault.LendFault.TheVariants as fault
use Rattle.share_domain.specs.Domains.{machine_at, no_machine}
use Rattle.share_domain.specs.Open.{is_open, first_open, OpenRefusesNone, OpenRefusesNothing}

abbrev held : List (Option Holding) → ℕ
held [] = 0
held (slot ∷ slots) = cond (is_some slot) (1 + held slots) (held slots)

held_is : (slots : List (Option Holding)) → held slots ≡ count_by is_some slots
held_is slots = is_count_by held is_some refl (λ slot rest. refl) slots

-- slots none of which is free are all held
all_held : (slots : List (Option Holding)) → IsFull slots → held slots ≡ length slots
all_held [] full = refl
all_held (None ∷ slots) full = absurd (full 0 refl)
all_held (Some h ∷ slots) full = let rest = all_held slots (λ ppn e. full (suc ppn) e) in omega (arith, rest)

both : (a b : Bool) → (a && b) ≡ true → (a ≡ true) × (b ≡ true)
both true b e = (refl, e)
both false b e = absurd (false≢true e)

pub open_refuses_none : OpenRefusesNone
open_refuses_none m NoSlot is full =
    let less = ltb-true (held_slots m) (length m.slots) (both (nat_lt (held_slots m) (length m.slots)) (nat_lt (frames_in_use m + 1) (length m.frames)) is).0 in
    let all = all_held m.slots full in
    let count = held_is m.slots in
    absurd (omega (arith, less, all, count))
open_refuses_none m NoFrame is refused =
    let less = ltb-true (frames_in_use m + 1) (length m.frames) (both (nat_lt (held_slots m) (length m.slots)) (nat_lt (frames_in_use m + 1) (length m.frames)) is).1 in
    let spent = refused.1 in
    absurd (omega (arith, less, spent))

-- the machines before this one aren't open
pub record NoneOpen (machines : List MachineView) (m : ℕ) : Type 0 where
  pub before : (k : ℕ) → k < m → is_open (machine_at machines k) ≡ false

pub none_open_yet : (machines : List MachineView) → NoneOpen machines 0
none_open_yet machines = record { before = λ k less. absurd (omega (arith, less)) }

pub one_more : (machines : List MachineView) (m : ℕ) → NoneOpen machines m → is_open (machine_at machines m) ≡ false → NoneOpen machines (m + 1)
one_more machines m none shut = record { before = λ k less. pick k less (cases_eq k m) } where
  pick : (k : ℕ) → k < m + 1 → ((k ≡ m) ⊎ (k ≡ m → ⊥)) → is_open (machine_at machines k) ≡ false
  pick k less (inl same) = ap (λ (i : ℕ). is_open (machine_at machines i)) same ∙ shut
  pick k less (inr other) = none.before k (omega (arith, less, other))

pub first_is : (machines : List MachineView) (m : ℕ) → m < length machines → NoneOpen machines m → is_open (machine_at machines m) ≡ true → m ≡ first_open machines
first_is machines m less none open_here =
    let at : position_or_len is_open machines ≡ m = position_or_len_is is_open machines m no_machine (omega (arith, less)) none.before (λ l. open_here) in
    let within : nat_lt (position_or_len is_open machines) (length machines) ≡ true = lt-ltb (position_or_len is_open machines) (length machines) (omega (arith, at, less)) in
    sym (ap (λ (b : Bool). cond b (position_or_len is_open machines) 0) within ∙ at)

pub none_is : (machines : List MachineView) (m : ℕ) → m ≡ length machines → NoneOpen machines m → 0 ≡ first_open machines
none_is machines m all none =
    let at : position_or_len is_open machines ≡ m = position_or_len_is is_open machines m no_machine (omega (arith, all)) none.before (λ l. absurd (omega (arith, l, all))) in
    let past : nat_lt (position_or_len is_open machines) (length machines) ≡ false = le-ltb (position_or_len is_open machines) (length machines) (omega (arith, at, all)) in
    sym (ap (λ (b : Bool). cond b (position_or_len is_open machines) 0) past)

-- the first machine that is open, where one is
record FirstOpen (machines : List MachineView) : Type 0 where
  m : ℕ
  within : m < length machines
  none : NoneOpen machines m
  is : is_open (machine_at machines m) ≡ true

least : (machines : List MachineView) (m k n : ℕ) → m < length machines → is_open (machine_at machines m) ≡ true → k + n ≡ m → NoneOpen machines k → FirstOpen machines
least machines m k zero within is at none =
    let same : k ≡ m = omega (arith, at) in
    record { m = m; within = within; none = subst (λ (i : ℕ). NoneOpen machines i) same none; is = is }
least machines m k (suc n) within is at none =
    pick (is_open (machine_at machines k)) refl (λ shut. least machines m (k + 1) n within is (omega (arith, at)) (one_more machines k none shut)) where
      pick : (b : Bool) → is_open (machine_at machines k) ≡ b → (is_open (machine_at machines k) ≡ false → FirstOpen machines) → FirstOpen machines
      pick true e later = record { m = k; within = omega (arith, within, at); none = none; is = e }
      pick false e later = later e

first_is_open : (machines : List MachineView) (m : ℕ) → m < length machines → is_open (machine_at machines m) ≡ true → is_open (machine_at machines (first_open machines)) ≡ true
first_is_open machines m within is =
    let f = least machines m 0 m within is (omega arith) (none_open_yet machines) in
    ap (λ (i : ℕ). is_open (machine_at machines i)) (sym (first_is machines f.m f.within f.none f.is)) ∙ f.is

pub open_refuses_nothing : OpenRefusesNothing
open_refuses_nothing d m client fault.NoClient within is here refused = refused here
open_refuses_nothing d m client fault.NoSlot within is here refused =
    open_refuses_none (machine_at d.machines (first_open d.machines)) NoSlot (first_is_open d.machines m within is) refused.1
open_refuses_nothing d m client fault.NoFrame within is here refused =
    open_refuses_none (machine_at d.machines (first_open d.machines)) NoFrame (first_is_open d.machines m within is) (refused.1, refused.2)
