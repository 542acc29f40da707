use Rattle.merge_machine.specs.View.{journal_of, machine_of, memory_of}
use Rattle.merge_run.proofs.Observing.{fronts_next, none_later_than, observes_once}
use Rattle.merge_run.proofs.rounds.serve_and_show.Goals as goal

pub observe-observer-requires : goal.observe-observer-requires
observe-observer-requires g c =
    let before = c.args.merger.now in
    let after = c.serve_round-served.new.merger in
    let O = g.O.Observer in
    let hash = g.H.HashFunction.hash_of in
    let fronts = fronts_next hash (machine_of before) (machine_of after) (journal_of before) (journal_of after) (O.kept c.args.observer) c.serve_round-served.ensures.same.machine c.serve_round-served.ensures.journal c.requires.fronts in
    none_later_than hash (memory_of after) (journal_of after) (O.kept c.args.observer) c.report-report.result c.report-report.ensures after.replayed fronts

pub returns-clause-observer : goal.returns-clause-observer
returns-clause-observer g c =
    let before = c.args.merger.now in
    let after = c.serve_round-served.new.merger in
    let O = g.O.Observer in
    let round = c.serve_round-served.ensures in
    let shown = c.observe-observer.ensures in
    observes_once g.H.HashFunction.hash_of O.name O.kept O.becomes c.args.observer c.observe-observer.result (machine_of before) (memory_of after) c.serve_round-served.result (journal_of before)
    (journal_of after) c.report-report.result c.report-report.ensures after.replayed round.same.machine round.journal c.requires.fronts shown.name shown.kept shown.becomes
