use Rattle.std.proofs.Common.{◌≡◌, ◌+◌, List, [], ◌∷◌, ◌++◌, ap, sym, ◌∙◌, arith}
use Rattle.page_model.specs.Parts.{Totals}
use Rattle.watched_machine.specs.Reports.{last_of}
use Rattle.watched_machine.specs.Lists.{published, publisher_id, watch_id}
use Rattle.watched_machine.proofs.Lists.{last_of_added}
use Rattle.worked_machines.proofs.watches.reports.published.publish_each.Goals as goal
use Rattle.worked_machines.proofs.watches.reports.published.publish_each.Goals.{in-Ok, in-Err}

pub loop-before-preserved : goal.loop-before-preserved
loop-before-preserved g c =
    let old = published c.loop-before.publisher in let new = published c.publish.new.self in let r = c.mixed-report.result in
    let same : watch_id c.loop-before.watch ≡ publisher_id c.publish.new.self = c.loop-before.invariant.1 ∙ sym c.publish.ensures.same in
    elim c.match-publish.branch [
      | in-Ok w ↦
          let list : new ≡ old ++ r ∷ [] = w.in-Ok.ensures.published.list in
          let last : (last_of new).entries ≡ c.loop-before.before + 1 =
          ap (λ (l : List Totals). (last_of l).entries) list ∙ (ap (λ (t : Totals). t.entries) (last_of_added old r) ∙ c.mixed-report.ensures) in
          (omega (arith, last), rw w.watch-is (w.read_published.ensures.same ∙ same))
      | in-Err w ↦
          let list : new ≡ old = w.in-Err.ensures.published in
          (omega (arith, ap (λ (l : List Totals). (last_of l).entries) list, c.loop-before.invariant.0), rw w.watch-is same)
    ]
