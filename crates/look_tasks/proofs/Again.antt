-- What a chore uses over many runs.
use Rattle.std.proofs.Common.{◌≡◌, ℕ, ◌+◌, ◌-◌, ◌*◌, ◌/◌, ◌<◌, ◌≤◌, List, [], ◌∷◌, ap, arith}
use Rattle.std.specs.Prelude.{min, max}
use Rattle.std.proofs.Math.Nat.{lt-div-mul-add, mul_comm, mul-add}
use Rattle.look_tasks.specs.Budgets.{share_of}
use Rattle.look_tasks.specs.Chores.{Run, InTime, KeepsToATenth, again_at, first, never, time_for, used}

-- the time for so much, rounded up, is enough
is_enough : (share took : ℕ) → 1 ≤ share → took * 1000 ≤ share * time_for share took
is_enough share took h =
    let above : took * 1000 + share - 1 < (took * 1000 + share - 1) / share * share + share = lt-div-mul-add {a = took * 1000 + share - 1} {b = share} (omega (arith, h)) in
    let is : (took * 1000 + share - 1) / share * share ≡ share * time_for share took = mul_comm (time_for share took) share in
    omega (arith, above, is, h)

-- where two runs follow each other in time, the time between them is enough for the first
apart : (begun after least time : ℕ) → min never (begun + max least time) ≤ after → after < never → begun + time ≤ after
apart begun after least time h k = omega (arith, h, k)

more_time : (share a b : ℕ) → a ≤ b → share * a ≤ share * b
more_time share a b h =
    let is : share * (a + (b - a)) ≡ share * a + share * (b - a) = mul-add share a (b - a) in
    let whole : share * (a + (b - a)) ≡ share * b = ap (λ k. share * k) (omega (arith, h)) in
    omega (arith, is, whole)

-- the first of these runs began no later than the last
first_before : (percent : ℕ) (r : Run) (rs : List Run) → InTime percent r rs → r.begun < never → first r rs ≤ r.begun
first_before percent r [] h k = omega arith
first_before percent r (q ∷ qs) h k =
    let one : q.begun + time_for (share_of percent) q.took ≤ r.begun = apart q.begun r.begun q.least (time_for (share_of percent) q.took) h.0 k in
    omega (arith, one, first_before percent q qs h.1 (omega (arith, one, k)))

pub keeps_to_a_tenth : KeepsToATenth
keeps_to_a_tenth percent r [] h k = omega arith
keeps_to_a_tenth percent r (q ∷ qs) h k =
    let share : ℕ = share_of percent in
    let time : ℕ = time_for share q.took in
    let one : q.begun + time ≤ r.begun = apart q.begun r.begun q.least time h.0 k in
    let sooner : q.begun < never = omega (arith, one, k) in
    let rest : 1000 * used qs ≤ share * (q.begun - first q qs) = keeps_to_a_tenth percent q qs h.1 sooner in
    let before : first q qs ≤ q.begun = first_before percent q qs h.1 sooner in
    let paid : q.took * 1000 ≤ share * time = is_enough share q.took (omega arith) in
    let both : share * (time + (q.begun - first q qs)) ≡ share * time + share * (q.begun - first q qs) = mul-add share time (q.begun - first q qs) in
    let whole : share * (time + (q.begun - first q qs)) ≤ share * (r.begun - first q qs) = more_time share _ _ (omega (arith, one, before)) in
    omega (arith, rest, paid, both, whole)
