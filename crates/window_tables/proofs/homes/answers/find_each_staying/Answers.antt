use Rattle.std.proofs.Common.{◌+◌, ◌<◌, false, length, get_or, arith}
use Rattle.window_pages.specs.Laws.{new_page}
use Rattle.window_tables.specs.Homes.{stays_at}
use Rattle.window_tables.proofs.Homing.{answers_more, staying}
use Rattle.window_tables.proofs.homes.answers.find_each_staying.Goals as goal

pub loop-n-preserved : goal.loop-n-preserved
loop-n-preserved c =
    let inside : c.loop-n.n < length c.loop-n.copies = omega (arith, c.loop-n-test.true, c.loop-n.invariant.length) in
    let within : c.args.first + c.loop-n.n < length c.args.pages.now = omega (arith, c.requires, c.loop-n-test.true) in
    answers_more (stays_at c.args.table.now c.args.pins.now c.args.why.now c.args.first) c.args.first c.loop-n.n c.args.pages.now c.args.copies.now c.loop-n.copies new_page c.stays-answer.result c.loop-n.invariant inside within
    (staying c.args.table.now c.args.pins.now c.args.why.now c.facts_of-facts.result c.args.first c.loop-n.n (get_or c.loop-n.copies c.loop-n.n false) c.stays-answer.result (get_or c.args.pages.now (c.args.first + c.loop-n.n) new_page) c.stays-answer.ensures c.facts_of-facts.ensures)
