use Rattle.std.proofs.Common.{◌≡◌, ◌+◌, ◌≤◌, length, sym, subst, arith}
use Rattle.window_tables.specs.Changes.{Changed, IsNow}
use Rattle.window_tables.specs.Tables.{OneChanges}
use Rattle.window_tables.proofs.Counts.{counted_more, parts_stay}
use Rattle.window_tables.proofs.Places.{changed_more, unchanged}
use Rattle.window_tables.proofs.changes.change_each.Goals as goal

pub loop-behind-init : goal.loop-behind-init
loop-behind-init c = record {
  changed = unchanged (IsNow c.args.what) c.args.first c.args.pages.now;
  counted = λ h. h;
  parts = c.requires.parts;
}

pub change_at-requires : goal.change_at-requires
change_at-requires c =
    let within : c.args.first + c.args.count ≤ length c.args.pages.now = c.requires.within in
    let long : length c.loop-behind.pages ≡ length c.args.pages.now = c.loop-behind.invariant.changed.length in
    record {
      parts = c.loop-behind.invariant.parts;
      place = omega (arith, within, long, c.loop-behind-test.true);
      behind = omega arith;
    }

pub loop-behind-preserved : goal.loop-behind-preserved
loop-behind-preserved c =
    let o : OneChanges (IsNow c.args.what c.loop-behind.behind) c.args.lead (c.args.first + c.loop-behind.behind) c.loop-behind.pages c.change_at.new.pages c.loop-behind.parts c.change_at.new.parts = c.change_at.ensures in
    record {
      changed =
          subst (λ v. Changed (IsNow c.args.what) c.args.first (c.loop-behind.behind + 1) c.args.pages.now v) (sym o.changed)
          (changed_more (IsNow c.args.what) c.args.first c.loop-behind.behind c.args.pages.now c.loop-behind.pages o.before o.after c.loop-behind.invariant.changed o.is_there o.becomes);
      counted = λ h.
          counted_more (IsNow c.args.what c.loop-behind.behind) c.args.lead (c.args.first + c.loop-behind.behind) c.loop-behind.pages c.change_at.new.pages c.loop-behind.parts c.change_at.new.parts o (c.loop-behind.invariant.counted h);
      parts = parts_stay (IsNow c.args.what c.loop-behind.behind) c.args.lead (c.args.first + c.loop-behind.behind) c.loop-behind.pages c.change_at.new.pages c.loop-behind.parts c.change_at.new.parts o c.loop-behind.invariant.parts;
    }

pub returns : goal.returns
returns c =
    let e : c.loop-behind.behind ≡ c.args.count = omega arith in
    record {
      pages = subst (λ n. Changed (IsNow c.args.what) c.args.first n c.args.pages.now c.loop-behind.pages) e c.loop-behind.invariant.changed;
      counted = c.loop-behind.invariant.counted;
    }
