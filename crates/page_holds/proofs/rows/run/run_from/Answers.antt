use Rattle.std.proofs.Common.{rules, ◌≡◌, ◌∙◌, true, false, sym, arith}
use Rattle.page_holds.proofs.RowRuns.{run_ends, run_last, runs_more, runs_none}
use Rattle.page_holds.proofs.rows.run.run_from.Goals as goal

pub loop-n-init : goal.loop-n-init
loop-n-init c = runs_none c.args.step c.args.first c.args.begin c.args.pages.now c.args.row.now c.requires.step

pub loop-n-preserved : goal.loop-n-preserved
loop-n-preserved c =
    let yes : c.runs_on-goes_on.result ≡ true = search rules in
    runs_more c.args.step c.args.first c.args.begin c.loop-n.n c.args.pages.now c.args.row.now c.loop-n.invariant (sym c.runs_on-goes_on.ensures ∙ yes)

pub returns-then-not-goes_on : goal.returns-then-not-goes_on
returns-then-not-goes_on c =
    let no : c.runs_on-goes_on.result ≡ false = search rules in
    run_ends c.args.step c.args.first c.args.begin c.loop-n.n c.args.pages.now c.args.row.now (omega arith) (omega (arith, c.loop-n-test.true)) c.loop-n.invariant (sym c.runs_on-goes_on.ensures ∙ no)

pub returns : goal.returns
returns c = run_last c.args.step c.args.first c.args.begin c.loop-n.n c.args.pages.now c.args.row.now (omega arith) (omega (arith, c.loop-n-test.false)) c.loop-n.invariant
