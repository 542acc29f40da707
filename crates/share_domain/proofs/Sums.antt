-- Sums over the machines so far.
use Rattle.std.proofs.Common.{◌≡◌, ℕ, ◌+◌, ◌-◌, ◌<◌, refl, List, length, take, get_or, ap, ◌∙◌, arith}
use Rattle.std.specs.Prelude.{sum_by, count_by}
use Rattle.std.proofs.lemmas.List.{take_all}
use Rattle.std.proofs.lemmas.List.Sums.{sum_by_more}
use Rattle.lent_slots.specs.Slots.{MachineView}
use Rattle.lent_slots.specs.Totals.{held_slots, shared_slots, frames_in_use}
use Rattle.share_domain.specs.declared.client.Presence.{Presence}
use Rattle.share_domain.specs.declared.report.DomainReport.{DomainReport}
use Rattle.share_domain.specs.Totals.{is_present, totals_of}

-- one machine more
pub sum_next : (f : MachineView → ℕ) (machines : List MachineView) (i sum x : ℕ) (machine : MachineView) → i < length machines → machine ≡ get_or machines i machine
    → sum ≡ sum_by f (take i machines) → x ≡ f machine → sum + x ≡ sum_by f (take (i + 1) machines)
sum_next f machines i sum x machine less is so_far e =
    omega (arith, sum_by_more f machines i machine less, ap f is, so_far, e)

-- all machines
pub sum_all : (f : MachineView → ℕ) (machines : List MachineView) (i sum : ℕ) → i ≡ length machines → sum ≡ sum_by f (take i machines) → sum ≡ sum_by f machines
sum_all f machines i sum e so_far = so_far ∙ ap (λ (l : List MachineView). sum_by f l) (take_all i machines (omega arith))

pub totals_are : (machines : List MachineView) (clients : List Presence) (m c s f shared r : ℕ) → m ≡ length machines → c ≡ count_by is_present clients
    → s ≡ sum_by held_slots machines → f ≡ sum_by frames_in_use machines → shared ≡ sum_by shared_slots machines → r ≡ s - f
    → ◌≡◌ {A = DomainReport} (record { machines = m; clients = c; slots = s; frames = f; shared = shared; reclaimed = r }) (totals_of machines clients)
totals_are machines clients m c s f shared r em ec es ef eh er = rw (er, em, ec, es, ef, eh) refl
