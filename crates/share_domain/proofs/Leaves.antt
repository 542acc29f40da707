-- A client's slots are released one after the other.
use Rattle.std.proofs.Common.{◌≡◌, ℕ, zero, suc, ◌+◌, ◌-◌, ◌<◌, ◌≤◌, true, false, List, [], ◌∷◌, ◌++◌, length, take, drop, Option, Some, None, refl, ap, sym, subst, ◌∙◌, arith, append_assoc}
use Rattle.std.specs.Prelude.{slice_get, slice_set, is_some}
use Rattle.std.proofs.lemmas.Bool.{false≢true}
use Rattle.std.proofs.lemmas.List.{length-set, length-take, take-append-drop, append-nil, take_more_set, drop-set-lt, drop-drop}
use Rattle.lent_slots.specs.Slots.{MachineView}
use Rattle.share_domain.specs.declared.client.Presence.{Presence}
use Rattle.share_domain.specs.declared.client.Presence.TheVariants.{Out, Leaving}
use Rattle.share_domain.specs.declared.holding.Slot.{Slot}
use Rattle.share_domain.specs.Domains.{DomainView, with_machines, with_client, with_released, freed_in}
use Rattle.share_domain.specs.Leaving.{Leaves, Left, first_slot, is_here, left_by}
use Rattle.share_domain.specs.Numbers.{frame_number}

-- no slot is left
pub left_none : (frames client n : ℕ) (machines : List MachineView) → first_slot client machines ≡ None → left_by frames client n machines ≡ record { numbers = []; machines = machines }
unfolding left_by
left_none frames client zero machines e = refl
left_none frames client (suc n) machines e = rw e refl

-- no room is left
pub left_zero : (frames client : ℕ) (machines : List MachineView) → left_by frames client 0 machines ≡ record { numbers = []; machines = machines }
unfolding left_by
left_zero frames client machines = refl

-- the first slot is released
pub left_step : (frames client n : ℕ) (machines : List MachineView) (slot : Slot) → first_slot client machines ≡ Some slot
    → left_by frames client (suc n) machines ≡ record {
      numbers = frame_number (freed_in frames slot machines) ∷ (left_by frames client n (with_released slot machines)).numbers;
      machines = (left_by frames client n (with_released slot machines)).machines;
    }
unfolding left_by
left_step frames client n machines slot e = rw e refl

-- a slot is listed if there is one, and room
pub some_listed : (frames client n : ℕ) (machines : List MachineView) (slot : Slot) → first_slot client machines ≡ Some slot → 1 ≤ n → 1 ≤ length (left_by frames client n machines).numbers
some_listed frames client zero machines slot e some = absurd (omega arith)
some_listed frames client (suc n) machines slot e some = omega (arith, ap (λ (l : Left). length l.numbers) (left_step frames client n machines slot e))

-- so many of a client's slots were released, from these machines on
pub record Released (client : ℕ) (room : List ℕ) (start : DomainView) (i : ℕ) (freed : List ℕ) (now : DomainView) : Type 0 where
  pub same : now ≡ with_machines start now.machines
  pub size : length freed ≡ length room
  pub machines : (n : ℕ) → i + n ≡ length room → (left_by start.frames client n now.machines).machines ≡ (left_by start.frames client (length room) start.machines).machines
  pub written : (n : ℕ) → i + n ≡ length room → take i freed ++ (left_by start.frames client n now.machines).numbers ≡ (left_by start.frames client (length room) start.machines).numbers
  pub rest : drop i freed ≡ drop i room

pub released_none : (client : ℕ) (room : List ℕ) (start : DomainView) → Released client room start 0 room start
released_none client room start = record {
  same = refl;
  size = refl;
  machines = λ n e. ap (λ (k : ℕ). (left_by start.frames client k start.machines).machines) (omega (arith, e));
  written = λ n e. ap (λ (k : ℕ). (left_by start.frames client k start.machines).numbers) (omega (arith, e));
  rest = refl;
}

-- one slot more
pub released_more : (client : ℕ) (room : List ℕ) (start : DomainView) (i : ℕ) (freed : List ℕ) (now after : DomainView) (slot : Slot) (frame : ℕ) → i < length room
    → Released client room start i freed now → first_slot client now.machines ≡ Some slot → frame ≡ frame_number (freed_in now.frames slot now.machines)
    → after ≡ with_machines now (with_released slot now.machines) → Released client room start (i + 1) (slice_set freed i frame) after
released_more client room start i freed now after slot frame less r e ef ea =
    let machines : after.machines ≡ with_released slot now.machines = ap (λ (d : DomainView). d.machines) ea in
    let frames : now.frames ≡ start.frames = ap (λ (d : DomainView). d.frames) r.same in
    let there : i < length freed = omega (arith, r.size) in
    let is : frame ≡ frame_number (freed_in start.frames slot now.machines) = ef ∙ ap (λ (k : ℕ). frame_number (freed_in k slot now.machines)) frames in
    record {
      same = ea ∙ ap (λ (d : DomainView). with_machines d (with_released slot now.machines)) r.same ∙ ap (λ (l : List MachineView). with_machines start l) (sym machines);
      size = length-set freed i frame ∙ r.size;
      machines = λ n en.
          ap (λ (l : List MachineView). (left_by start.frames client n l).machines) machines
          ∙ sym (ap (λ (l : Left). l.machines) (left_step start.frames client n now.machines slot e)) ∙ r.machines (suc n) (omega (arith, en));
      written = λ n en.
          let rest : List ℕ = (left_by start.frames client n (with_released slot now.machines)).numbers in
          ap (λ (l : List ℕ). l ++ (left_by start.frames client n after.machines).numbers) (take_more_set freed i frame there)
          ∙ ap (λ (l : List MachineView). (take i freed ++ frame ∷ []) ++ (left_by start.frames client n l).numbers) machines
          ∙ append_assoc (take i freed) (frame ∷ []) rest
          ∙ ap (λ (k : ℕ). take i freed ++ k ∷ rest) is
          ∙ ap (λ (l : Left). take i freed ++ l.numbers) (sym (left_step start.frames client n now.machines slot e)) ∙ r.written (suc n) (omega (arith, en));
      rest = drop-set-lt (i + 1) freed i frame (omega arith) ∙ next i freed room r.rest;
    } where
      next : (i : ℕ) (xs ys : List ℕ) → drop i xs ≡ drop i ys → drop (i + 1) xs ≡ drop (i + 1) ys
      next i xs ys same = sym (drop-drop 1 i xs) ∙ ap (λ (l : List ℕ). drop 1 l) same ∙ drop-drop 1 i ys

-- what is so when no more is released
pub record AllReleased (client : ℕ) (room : List ℕ) (start : DomainView) (i : ℕ) (freed : List ℕ) (now : DomainView) : Type 0 where
  pub count : i ≡ length (left_by start.frames client (length room) start.machines).numbers
  pub written : freed ≡ (left_by start.frames client (length room) start.machines).numbers ++ drop i room
  pub after : now ≡ with_machines start (left_by start.frames client (length room) start.machines).machines

all_released : (client : ℕ) (room : List ℕ) (start : DomainView) (i n : ℕ) (freed : List ℕ) (now : DomainView) → i + n ≡ length room → Released client room start i freed now
    → left_by start.frames client n now.machines ≡ record { numbers = []; machines = now.machines } → AllReleased client room start i freed now
all_released client room start i n freed now en r e =
    let all : take i freed ≡ (left_by start.frames client (length room) start.machines).numbers =
    sym (append-nil (take i freed)) ∙ ap (λ (l : Left). take i freed ++ l.numbers) (sym e) ∙ r.written n en in
    record {
      count = omega (arith, length-take i freed, r.size, ap (λ (l : List ℕ). length l) all);
      written = sym (take-append-drop i freed) ∙ ap (λ (l : List ℕ). l ++ drop i freed) all ∙ ap (λ (l : List ℕ). (left_by start.frames client (length room) start.machines).numbers ++ l) r.rest;
      after = r.same ∙ ap (λ (l : List MachineView). with_machines start l) (ap (λ (l : Left). l.machines) (sym e) ∙ r.machines n en);
    }

pub released_all : (client : ℕ) (room : List ℕ) (start : DomainView) (i : ℕ) (freed : List ℕ) (now : DomainView) → i ≤ length room → Released client room start i freed now
    → first_slot client now.machines ≡ None → AllReleased client room start i freed now
released_all client room start i freed now few r e = all_released client room start i (length room - i) freed now (omega arith) r (left_none start.frames client (length room - i) now.machines e)

pub room_used : (client : ℕ) (room : List ℕ) (start : DomainView) (i : ℕ) (freed : List ℕ) (now : DomainView) → i ≡ length room → Released client room start i freed now
    → AllReleased client room start (length freed) freed now
room_used client room start i freed now e r =
    subst (λ (k : ℕ). AllReleased client room start k freed now) (e ∙ sym r.size)
    (all_released client room start i 0 freed now (omega (arith, e)) r (left_zero start.frames client now.machines))

-- whether there is a slot
pub none_of : (o : Option Slot) → is_some o ≡ false → o ≡ None
none_of None e = refl
none_of (Some slot) e = absurd (false≢true (sym e))

pub some_of : (o : Option Slot) → is_some o ≡ true → (slot : Slot) × (o ≡ Some slot)
some_of None e = absurd (false≢true e)
some_of (Some slot) e = (slot, refl)

-- a client that is here has a number within the list
pub here_within : (clients : List Presence) (client : ℕ) → is_here (slice_get clients client) ≡ true → client < length clients
here_within [] client e = absurd (false≢true e)
here_within (p ∷ clients) zero e = omega arith
here_within (p ∷ clients) (suc client) e = omega (arith, here_within clients client e)

-- a client that has no slot is out
pub leaves_out : (client : ℕ) (room : List ℕ) (old new : DomainView) → is_here (slice_get old.clients client) ≡ true → first_slot client old.machines ≡ None
    → new ≡ with_client old client Out → Leaves client 0 room room old new
leaves_out client room old new here e en =
    let none : left_by old.frames client (length room) old.machines ≡ record { numbers = []; machines = old.machines } = left_none old.frames client (length room) old.machines e in
    record {
      here = here;
      counted = sym (ap (λ (l : Left). length l.numbers) none);
      none = (λ z. e, λ z. refl);
      written = sym (ap (λ (l : Left). l.numbers ++ room) none);
      now = en ∙ rw (none, e) refl;
    }

-- a client that has a slot is leaving
pub leaves_some : (client count : ℕ) (room after : List ℕ) (old mid new : DomainView) (slot : Slot) → is_here (slice_get old.clients client) ≡ true
    → first_slot client old.machines ≡ Some slot → 1 ≤ length room → mid ≡ with_client old client Leaving
    → count ≡ length (left_by mid.frames client (length room) mid.machines).numbers
    → after ≡ (left_by mid.frames client (length room) mid.machines).numbers ++ drop count room
    → new ≡ with_machines mid (left_by mid.frames client (length room) mid.machines).machines → Leaves client count room after old new
leaves_some client count room after old mid new slot here e some em ec et en =
    let frames : mid.frames ≡ old.frames = ap (λ (d : DomainView). d.frames) em in
    let machines : mid.machines ≡ old.machines = ap (λ (d : DomainView). d.machines) em in
    let left : left_by mid.frames client (length room) mid.machines ≡ left_by old.frames client (length room) old.machines =
    ap (λ (k : ℕ). left_by k client (length room) mid.machines) frames ∙ ap (λ (l : List MachineView). left_by old.frames client (length room) l) machines in
    let counted : count ≡ length (left_by old.frames client (length room) old.machines).numbers = ec ∙ ap (λ (l : Left). length l.numbers) left in
    record {
      here = here;
      counted = counted;
      none = (λ z. absurd (omega (arith, z, counted, some_listed old.frames client (length room) old.machines slot e some)), λ z. absurd (clash (sym e ∙ z)));
      written = et ∙ ap (λ (l : Left). l.numbers ++ drop count room) left;
      now = en ∙ ap (λ (l : Left). with_machines mid l.machines) left ∙ ap (λ (d : DomainView). with_machines d (left_by old.frames client (length room) old.machines).machines) em ∙ rw e refl;
    } where
      clash : {s : Slot} → Some s ≡ None → ⊥
      clash h = cc
