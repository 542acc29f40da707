use Rattle.std.proofs.Common.{ℕ, ◌≤◌, ◌<◌, length, arith}
use Rattle.std.proofs.lemmas.List.Elements.{All-more}
use Rattle.std.proofs.lemmas.List.Sums.{sum_by_more}
use Rattle.page_model.proofs.machine_shape.are_pages.Goals as goal

pub loop-own-preserved : goal.loop-own-preserved
loop-own-preserved c =
    let pages = c.args.pages.now in
    let i = c.loop-own.own-index in
    let within : i < length pages = omega arith in
    record {
      left = omega (arith, sum_by_more (λ (x : ℕ). x) pages i 0 within);
      some = All-more (λ n. 1 ≤ n) pages i 0 within c.loop-own.invariant.some (omega arith);
    }
