use Rattle.std.proofs.Common.{◌≡◌, ap, arith}
use Rattle.page_model.specs.Parts.{Totals}
use Rattle.merge_machine.specs.View.{journal_of, memory_of}
use Rattle.watched_machine.specs.Lists.{published}
use Rattle.watched_machine.proofs.Publishing.{not_older, fronts_after}
use Rattle.watched_machine.proofs.merger.Merger.publish.Goals as goal

pub publish-requires : goal.publish-requires
publish-requires g c =
    let s = c.args.self.now in let m = s.merger in
    let entries : c.report-report.result.entries ≡ (memory_of m).entries = ap (λ (r : Totals). r.entries) c.report-report.ensures in
    record { not_older = omega (arith, entries, not_older g.H.HashFunction.hash_of (memory_of m) (journal_of m) (published s.publisher) m.replayed s.reports) }

pub invariant_of-self : goal.invariant_of-self
invariant_of-self g c =
    let s = c.args.self.now in let m = s.merger in record {
      reports = fronts_after g.H.HashFunction.hash_of (memory_of m) (journal_of m) s.publisher c.publish.new.self c.report-report.result c.publish.result m.replayed c.report-report.ensures s.reports c.publish.ensures.published;
    }
