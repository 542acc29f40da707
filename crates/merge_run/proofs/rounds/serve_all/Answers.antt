use Rattle.std.proofs.Common.{refl, ◌∙◌}
use Rattle.std.specs.Prelude.{length}
use Rattle.merge_machine.specs.View.{journal_of, machine_of}
use Rattle.merge_run.proofs.Observing.{observes_nothing, observes_then}
use Rattle.merge_run.proofs.rounds.serve_all.Goals as goal

pub loop-init : goal.loop-init
loop-init g c =
    let O = g.O.Observer in
    let merger = c.args.merger.now in
    let observed = observes_nothing g.H.HashFunction.hash_of O.name O.kept O.becomes c.args.observer (machine_of merger) (journal_of merger) c.requires.fronts in
    record { names = refl; guests = refl; limit = refl; machine = refl; observed = observed }

pub loop-preserved : goal.loop-preserved
loop-preserved g c =
    let before = c.loop.merger in
    let after = c.serve_and_show-shown.new.merger in
    let O = g.O.Observer in
    let so_far = c.loop.invariant in
    let round = c.serve_and_show-shown.ensures in
    let observed = observes_then g.H.HashFunction.hash_of O.name O.kept O.becomes c.args.observer c.loop.observer c.serve_and_show-shown.result.0 (machine_of before) (machine_of after) (length (journal_of c.args.merger.now)) c.serve_and_show-shown.result.1 (journal_of before)
    (journal_of after) round.same.machine round.journal so_far.observed round.observer in
    record {
      names = round.same.names ∙ so_far.names;
      guests = round.same.guests ∙ so_far.guests;
      limit = round.same.limit ∙ so_far.limit;
      machine = round.same.machine ∙ so_far.machine;
      observed = observed;
    }

pub loop-preserved-then-served-gt0 : goal.loop-preserved-then-served-gt0
loop-preserved-then-served-gt0 g c =
    let before = c.loop.merger in
    let after = c.serve_and_show-shown.new.merger in
    let O = g.O.Observer in
    let so_far = c.loop.invariant in
    let round = c.serve_and_show-shown.ensures in
    let observed = observes_then g.H.HashFunction.hash_of O.name O.kept O.becomes c.args.observer c.loop.observer c.serve_and_show-shown.result.0 (machine_of before) (machine_of after) (length (journal_of c.args.merger.now)) c.serve_and_show-shown.result.1 (journal_of before)
    (journal_of after) round.same.machine round.journal so_far.observed round.observer in
    record {
      names = round.same.names ∙ so_far.names;
      guests = round.same.guests ∙ so_far.guests;
      limit = round.same.limit ∙ so_far.limit;
      machine = round.same.machine ∙ so_far.machine;
      observed = observed;
    }

pub returns-then-have_ended-clause-observer : goal.returns-then-have_ended-clause-observer
returns-then-have_ended-clause-observer g c =
    let before = c.loop.merger in
    let after = c.serve_and_show-shown.new.merger in
    let O = g.O.Observer in
    let round = c.serve_and_show-shown.ensures in
    observes_then g.H.HashFunction.hash_of O.name O.kept O.becomes c.args.observer c.loop.observer c.serve_and_show-shown.result.0 (machine_of before) (machine_of after) (length (journal_of c.args.merger.now)) c.serve_and_show-shown.result.1 (journal_of before)
    (journal_of after) round.same.machine round.journal c.loop.invariant.observed round.observer
