use Rattle.std.proofs.Common.{◌∙◌, refl, arith}
use Rattle.part_scans.proofs.Kept.{noted_more, noted_none}
use Rattle.window_tables.proofs.Places.{set_length}
use Rattle.part_scans.proofs.glances.find_numbers.Goals as goal

pub loop-k-init : goal.loop-k-init
loop-k-init c = record { noted = noted_none c.args.first c.args.pages.now c.args.places.now c.args.numbers.now; length = refl }

pub loop-k-preserved : goal.loop-k-preserved
loop-k-preserved c = record {
  noted = noted_more c.args.first c.args.pages.now c.args.places.now c.loop-k.k c.loop-k.numbers c.listed_number.result (omega (arith, c.loop-k-test.true, c.loop-k.invariant.length)) c.loop-k.invariant.noted c.listed_number.ensures;
  length = set_length c.loop-k.numbers c.loop-k.k c.listed_number.result ∙ c.loop-k.invariant.length;
}
