use Rattle.std.proofs.Common.{◌≡◌, ◌-◌, ◌<◌, length, get_or, arith, refl}
use Rattle.std.proofs.lemmas.List.{get_or_read_under, length-drop}
use Rattle.page_census.proofs.Tallied.{Counts, fits, right_more, new_one, old_one}
use Rattle.page_census.proofs.tally.count_copies.Goals as goal
use Rattle.page_census.proofs.tally.count_copies.Goals.{then-before-eq0, else-before-eq0}

pub overflow_add-before : goal.overflow_add-before
overflow_add-before g c =
    let so_far = c.loop-left.invariant in
    let classes = c.args.classes.now in
    let counts = c.loop-left.copies.items in
    let left = c.loop-left.left in
    let counts_are : Counts c.args.bound classes counts left c.loop-left.distinct = record { right = so_far.right; different_is = so_far.different } in
    let some : 0 < left = omega (arith, c.loop-left-test.true) in
    let len : length counts ≡ c.args.bound = omega (arith, so_far.len, c.loop-left.copies.ok.0) in
    let low : get_or classes (left - 1) 0 < c.args.bound = c.requires.below (left - 1) 0 (omega (arith, some, so_far.within)) in
    let read : c.index-before.result.now ≡ get_or counts (get_or classes (left - 1) 0) 0 = get_or_read_under counts (get_or classes (left - 1) 0) (length counts) c.index-before.result.now 0 c.index-before.ensures (omega (arith, low, len)) refl in
    let few = fits c.args.bound classes counts left c.loop-left.distinct c.index-before.result.now counts_are some so_far.within len low read in
    omega (arith, few, length-drop left classes, c.requires.few, some, so_far.within)

pub loop-left-preserved : goal.loop-left-preserved
loop-left-preserved g c =
    let so_far = c.loop-left.invariant in
    let classes = c.args.classes.now in
    let counts = c.loop-left.copies.items in
    let left = c.loop-left.left in
    let counts_are : Counts c.args.bound classes counts left c.loop-left.distinct = record { right = so_far.right; different_is = so_far.different } in
    let some : 0 < left = omega (arith, c.loop-left-test.true) in
    let len : length counts ≡ c.args.bound = omega (arith, so_far.len, c.loop-left.copies.ok.0) in
    let low : get_or classes (left - 1) 0 < c.args.bound = c.requires.below (left - 1) 0 (omega (arith, some, so_far.within)) in
    let read : c.index-before.result.now ≡ get_or counts (get_or classes (left - 1) 0) 0 = get_or_read_under counts (get_or classes (left - 1) 0) (length counts) c.index-before.result.now 0 c.index-before.ensures (omega (arith, low, len)) refl in
    let shorter = length-drop (left - 1) classes in
    let before = length-drop left classes in
    record {
      within = omega (arith, so_far.within);
      len = so_far.len;
      right = right_more c.args.bound classes counts left c.loop-left.distinct c.index-before.result.now counts_are some so_far.within len low read;
      different = elim c.if-before-eq0.branch [
        | then-before-eq0 w ↦ let more = new_one c.args.bound classes counts left c.loop-left.distinct c.index-before.result.now counts_are some so_far.within len low read w.if-before-eq0.true in omega (arith, more, w.distinct-is)
        | else-before-eq0 w ↦ let same = old_one c.args.bound classes counts left c.loop-left.distinct c.index-before.result.now counts_are some so_far.within len low read w.if-before-eq0.false in omega (arith, same, w.distinct-is)
      ];
      few = elim c.if-before-eq0.branch [
        | then-before-eq0 w ↦ omega (arith, w.distinct-is, so_far.few, shorter, before, some, so_far.within)
        | else-before-eq0 w ↦ omega (arith, w.distinct-is, so_far.few, shorter, before, some, so_far.within)
      ];
    }
