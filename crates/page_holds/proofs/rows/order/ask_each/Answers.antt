use Rattle.std.proofs.Common.{◌+◌, sym, subst}
use Rattle.std.specs.Prelude.{slice_index_or}
use Rattle.page_holds.proofs.RowsKept.{Keeps, asks_follow, keeps}
use Rattle.page_holds.specs.Orders.{facts_there}
use Rattle.page_holds.specs.Rows.{Asks, PageBecomes, PageChanges}
use Rattle.window_tables.proofs.Places.{changed_more}
use Rattle.window_tables.specs.Changes.{Changed}
use Rattle.page_holds.proofs.rows.order.ask_each.Goals as goal

pub loop-n-preserved : goal.loop-n-preserved
loop-n-preserved c =
    let o : PageChanges (Asks c.facts_of-facts.result (slice_index_or c.args.row.now c.loop-n.n 0)) c.args.lead (c.args.first + c.loop-n.n) c.loop-n.pages c.ask_at.new.pages c.loop-n.parts c.ask_at.new.parts = c.ask_at.ensures in
    let k : Keeps c.args.lead c.loop-n.pages c.ask_at.new.pages c.loop-n.parts c.ask_at.new.parts =
    keeps (Asks c.facts_of-facts.result (slice_index_or c.args.row.now c.loop-n.n 0)) c.args.lead (c.args.first + c.loop-n.n) c.loop-n.pages c.ask_at.new.pages c.loop-n.parts c.ask_at.new.parts o
    (asks_follow c.facts_of-facts.result (slice_index_or c.args.row.now c.loop-n.n 0) o.before o.after o.part o.part_after o.becomes) in
    let its : PageBecomes (Asks (facts_there c.args.table.now c.args.pins.now (c.args.first + c.loop-n.n)) (slice_index_or c.args.row.now c.loop-n.n 0)) o.before o.after = record {
      part = o.part;
      part_after = o.part_after;
      becomes = subst (λ f. Asks f (slice_index_or c.args.row.now c.loop-n.n 0) o.before o.after o.part o.part_after) c.facts_of-facts.ensures o.becomes;
    } in
    record {
      changed =
          subst (λ v. Changed (λ n. PageBecomes (Asks (facts_there c.args.table.now c.args.pins.now (c.args.first + n)) (slice_index_or c.args.row.now n 0))) c.args.first (c.loop-n.n + 1) c.args.pages.now v) (sym o.changed)
          (changed_more (λ n. PageBecomes (Asks (facts_there c.args.table.now c.args.pins.now (c.args.first + n)) (slice_index_or c.args.row.now n 0))) c.args.first c.loop-n.n c.args.pages.now c.loop-n.pages o.before o.after c.loop-n.invariant.changed o.is_there its);
      counted = λ h. k.counted (c.loop-n.invariant.counted h);
      parts = k.parted c.loop-n.invariant.parts;
    }
