use Rattle.std.proofs.Common.{rules, ◌≡◌, ◌∙◌, ◌+◌, true, false, sym}
use Rattle.window_tables.proofs.Behind.{range_marked, range_unmarked, still_counted}
use Rattle.window_tables.specs.Changes.{marks}
use Rattle.window_tables.proofs.changes.note.Goals as goal

pub returns-then-marks : goal.returns-then-marks
returns-then-marks c =
    let is : marks c.args.what c.args.count ≡ true = sym c.marks-marks.ensures ∙ c.if-marks.true in
    record {
      noted = search rules;
      pages = λ h. range_marked c.args.what c.args.first c.args.count c.args.pages.now c.change_each.new.pages c.begin_at.new.pages is c.change_each.ensures.pages c.begin_at.ensures;
      counted = λ h. still_counted c.args.lead (c.args.first + c.args.count) c.change_each.new.pages c.begin_at.new.pages c.change_each.new.parts c.begin_at.ensures (c.change_each.ensures.counted h);
      same = λ h. cc;
      same_parts = λ h. cc;
    }

pub returns-else-marks : goal.returns-else-marks
returns-else-marks c =
    let is : marks c.args.what c.args.count ≡ false = sym c.marks-marks.ensures ∙ c.if-marks.false in
    record {
      noted = search rules;
      pages = λ h. range_unmarked c.args.what c.args.first c.args.count c.args.pages.now c.change_each.new.pages is c.change_each.ensures.pages;
      counted = c.change_each.ensures.counted;
      same = λ h. cc;
      same_parts = λ h. cc;
    }
