use Rattle.std.proofs.Common.{◌≡◌, ◌+◌, List, [], ◌∷◌, ◌++◌, ap, ◌∙◌, arith}
use Rattle.page_model.specs.Parts.{Totals}
use Rattle.watched_machine.specs.Reports.{last_of}
use Rattle.watched_machine.specs.Lists.{published}
use Rattle.watched_machine.proofs.Lists.{last_of_added}
use Rattle.worked_machines.proofs.watches.reports.console.publish_all.Goals as goal
use Rattle.worked_machines.proofs.watches.reports.console.publish_all.Goals.{in-Ok, in-Err}

pub loop-before-preserved : goal.loop-before-preserved
loop-before-preserved g c =
    let old = published c.loop-before.publisher in let new = published c.publish.new.self in let r = c.mixed.result in
    elim c.match-publish.branch [
      | in-Ok w ↦
          let list : new ≡ old ++ r ∷ [] = w.in-Ok.ensures.published.list in
          let last : (last_of new).entries ≡ c.loop-before.before + 1 =
          ap (λ (l : List Totals). (last_of l).entries) list ∙ (ap (λ (t : Totals). t.entries) (last_of_added old r) ∙ c.mixed.ensures) in
          omega (arith, last)
      | in-Err w ↦ let list : new ≡ old = w.in-Err.ensures.published in omega (arith, ap (λ (l : List Totals). (last_of l).entries) list, c.loop-before.invariant)
    ]
