use Rattle.std.proofs.Common.{rules, ◌<◌, length}
use Rattle.page_holds.specs.Orders.{facts_there}
use Rattle.part_scans.proofs.Kept.{changes_there}
use Rattle.part_scans.specs.Scans.{Follows}
use Rattle.window_tables.specs.Tables.{part_at}
use Rattle.part_scans.proofs.beside.follow_at.Goals as goal

pub returns : goal.returns
returns c =
    let inside : part_at c.args.lead c.args.place < length c.args.parts.now = search rules in
    changes_there (Follows c.args.scan.now (facts_there c.args.table.now c.args.pins.now c.args.place) c.args.memory c.args.is_beside c.args.place c.args.byte c.follow_one.result) c.args.lead c.args.place c.args.pages.now c.args.parts.now _ c.follow_one.new.page _ c.follow_one.new.part c.requires.place inside c.follow_one.ensures
