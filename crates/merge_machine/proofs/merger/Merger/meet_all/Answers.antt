use Rattle.std.proofs.Common.{rules, ◌∙◌, sym, arith}
use Rattle.merge_core.specs.Shown.{state_of}
use Rattle.share_rings.specs.Ends.{end_view}
use Rattle.merge_machine.specs.Machines.{opening}
use Rattle.merge_machine.proofs.Ends.{keeps_views}
use Rattle.merge_machine.proofs.Lists.{maps_length}
use Rattle.merge_machine.proofs.merger.Merger.meet_all.Goals as goal

pub invariant_of-self : goal.invariant_of-self
invariant_of-self g c =
    let m = c.args.self.now in
    let size = maps_length end_view end_view c.meet_each.new.ends.items m.ends.items c.meet_each.ensures.ends in
    record {
      kept = keeps_views g.H.HashFunction.hash_of (opening (state_of m.core)) m.journal.items m.ends.items c.meet_each.new.ends.items c.meet_each.ensures.ends m.kept;
      replayed = m.replayed;
      members = rw size m.members;
      guests = m.guests ∙ sym size;
      few = omega (arith, size, m.few);
      counted = m.counted;
      within = m.within;
      room = search rules;
    }
