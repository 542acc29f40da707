use Rattle.std.proofs.Common.{◌≡◌, ◌+◌, ◌-◌, get_or, ap, arith, length}
use Rattle.page_census.proofs.Gathered.{counted_more, length_more, length_within}
use Rattle.page_census.proofs.numbers.numbers_of.Goals as goal

pub overflow_add-end : goal.overflow_add-end
overflow_add-end g c =
    let pages = g.S.PageSource.pages in
    let is = ap (λ guest. length (pages guest.source)) c.index-guests-guest.is in
    let most = length_within pages c.args.guests.now c.loop-guest.guest c.index-guests-guest.result c.loop-guest-test.true in
    omega (arith, is, most, c.loop-guest.invariant.at, c.requires.count, c.requires.marks, c.requires.few, c.count.ensures)

pub offset_bounds-marks-start : goal.offset_bounds-marks-start
offset_bounds-marks-start g c =
    let pages = g.S.PageSource.pages in
    let is = ap (λ guest. length (pages guest.source)) c.index-guests-guest.is in
    let most = length_within pages c.args.guests.now c.loop-guest.guest c.index-guests-guest.result c.loop-guest-test.true in
    omega (arith, is, most, c.loop-guest.invariant.at, c.requires.count, c.requires.marks, c.requires.few, c.count.ensures)

pub slice_bounds-guest_numbers-end : goal.slice_bounds-guest_numbers-end
slice_bounds-guest_numbers-end g c =
    let pages = g.S.PageSource.pages in
    let is = ap (λ guest. length (pages guest.source)) c.index-guests-guest.is in
    let most = length_within pages c.args.guests.now c.loop-guest.guest c.index-guests-guest.result c.loop-guest-test.true in
    omega (arith, is, most, c.loop-guest.invariant.at, c.requires.count, c.requires.marks, c.requires.few, c.count.ensures)

pub offset_bounds-classes-start : goal.offset_bounds-classes-start
offset_bounds-classes-start g c =
    let pages = g.S.PageSource.pages in
    let is = ap (λ guest. length (pages guest.source)) c.index-guests-guest.is in
    let most = length_within pages c.args.guests.now c.loop-guest.guest c.index-guests-guest.result c.loop-guest-test.true in
    omega (arith, is, most, c.loop-guest.invariant.at, c.requires.count, c.requires.marks, c.requires.few, c.count.ensures)

pub slice_bounds-guest_numbers-end-in-loop-guest : goal.slice_bounds-guest_numbers-end-in-loop-guest
slice_bounds-guest_numbers-end-in-loop-guest g c =
    let pages = g.S.PageSource.pages in
    let is = ap (λ guest. length (pages guest.source)) c.index-guests-guest.is in
    let most = length_within pages c.args.guests.now c.loop-guest.guest c.index-guests-guest.result c.loop-guest-test.true in
    omega (arith, is, most, c.loop-guest.invariant.at, c.requires.count, c.requires.marks, c.requires.few, c.count.ensures)

pub loop-guest-preserved : goal.loop-guest-preserved
loop-guest-preserved g c =
    let pages = g.S.PageSource.pages in
    let so_far = c.loop-guest.invariant in
    let guests = c.args.guests.now in
    let guest = c.index-guests-guest.result in
    let lt = c.loop-guest-test.true in
    let start = c.loop-guest.start in
    let n = c.count.result in
    let is : length (pages guest.source) ≡ length (pages (get_or guests c.loop-guest.guest guest).source) = ap (λ guest. length (pages guest.source)) c.index-guests-guest.is in
    let more = length_more pages guests c.loop-guest.guest guest lt in
    let count : n ≡ length (pages (get_or guests c.loop-guest.guest guest).source) = omega (arith, c.count.ensures, is) in
    let width : start + n - start ≡ n = omega arith in
    record {
      at = omega (arith, count, more, so_far.at);
      right = rw c.push_reserved.ensures.items (counted_more pages c.args.copies.now guests c.loop-guest.guest guest lt c.args.marks.now c.args.classes.now start n count c.loop-guest.numbers.items _ c.in_ok-own.own (rw width at c.in_ok-own.ensures) so_far.right);
      len = omega (arith, so_far.len, c.push_reserved.ensures.len);
      room = omega (arith, so_far.room, c.push_reserved.ensures.capacity);
    }
