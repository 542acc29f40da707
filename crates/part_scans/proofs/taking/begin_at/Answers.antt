use Rattle.std.proofs.Common.{rules, ◌<◌, length}
use Rattle.std.specs.Prelude.{◌||◌}
use Rattle.page_holds.specs.Orders.{facts_there}
use Rattle.page_looks.specs.Steps.{has_memory}
use Rattle.part_scans.proofs.Kept.{changes_there}
use Rattle.part_scans.specs.Scans.{Begins}
use Rattle.window_tables.specs.Tables.{part_at}
use Rattle.part_scans.proofs.taking.begin_at.Goals as goal

pub returns : goal.returns
returns c =
    let inside : part_at c.args.lead c.args.place < length c.args.parts.now = search rules in
    changes_there (Begins c.args.scan.now (facts_there c.args.table.now c.args.pins.now c.args.place) c.args.memory (c.args.all || has_memory c.args.memory) c.args.place c.begin_one.result) c.args.lead c.args.place c.args.pages.now c.args.parts.now _ c.begin_one.new.page _ c.begin_one.new.part c.requires.place inside c.begin_one.ensures
