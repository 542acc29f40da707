use Rattle.std.proofs.Common.{◌+◌, ◌/◌, refl}
use Rattle.std.proofs.lemmas.Option.{slice_get-get_or}
use Rattle.lend_steps.proofs.Turns.{part_there}
use Rattle.lend_steps.proofs.holds.to_give_back_there.Goals as goal

pub returns : goal.returns
returns c = record {
  before = _;
  after = c.to_give_back_one-answer.new.page;
  part = _;
  part_after = c.to_give_back_one-answer.new.part;
  is_there = slice_get-get_or c.args.pages.now c.args.place _ c.requires.place;
  is_part = slice_get-get_or c.args.parts.now ((c.args.place + c.args.lead) / 512) _ (part_there c.args.lead c.args.place c.args.pages.now c.args.parts.now c.requires.parts c.requires.place);
  changed = refl;
  follows = refl;
  becomes = c.to_give_back_one-answer.ensures;
}
