use Rattle.std.proofs.Common.{refl}
use Rattle.fleet_census.specs.Holders.{no_holder}
use Rattle.fleet_census.specs.Steps.{guest_after, no_guest}
use Rattle.fleet_census.proofs.Found.{counted_more}
use Rattle.fleet_census.proofs.guest.count_guests.Goals as goal

pub loop-holder-preserved : goal.loop-holder-preserved
loop-holder-preserved c = record {
  counted = λ rising. counted_more no_guest (guest_after c.args.content.now) (λ guest. refl) c.args.guests.now c.loop-holder.guests c.args.holders.now c.loop-holder.holder-index rising c.loop-holder-test.true
      (c.loop-holder.invariant.counted rising) c.add.new.self c.loop-holder.auto.guests (c.requires c.loop-holder.holder-index no_holder c.loop-holder-test.true) c.add.ensures;
}
