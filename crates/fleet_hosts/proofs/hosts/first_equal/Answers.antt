use Rattle.std.proofs.Common.{◌≡◌, ℕ, List, length, sym, ◌∙◌, arith, Bor}
use Rattle.std.specs.Str.{bytes_eq}
use Rattle.std.proofs.lemmas.List.Sums.{fails_before_first, position_or_len_is}
use Rattle.fleet_hosts.proofs.Firsts.{found_at, found_behind}
use Rattle.fleet_hosts.proofs.hosts.first_equal.Goals as goal

pub returns-then-is_same-clause-value : goal.returns-then-is_same-clause-value
returns-then-is_same-clause-value c =
    sym (found_at (λ other. bytes_eq other.now c.args.name.now) c.args.names.now c.loop-at.at _ c.loop-at.invariant (sym c.is_same.ensures ∙ c.if-is_same.true))

pub loop-at-preserved : goal.loop-at-preserved
loop-at-preserved c =
    found_behind (λ other. bytes_eq other.now c.args.name.now) c.args.names.now c.loop-at.at _ c.loop-at.invariant c.loop-at-test.true (sym c.is_same.ensures ∙ c.if-is_same.false)

pub returns-clause-value : goal.returns-clause-value
returns-clause-value c =
    let names = c.args.names.now in
    let is_this = λ (other : Bor (List ℕ)). bytes_eq other.now c.args.name.now in
    sym (position_or_len_is is_this names (length names) c.args.name (omega arith)
    (λ k lt. fails_before_first is_this names k c.args.name (omega (arith, lt, c.loop-at.invariant, c.loop-at-test.false)))
    (λ lt. absurd (omega (arith, lt))))
