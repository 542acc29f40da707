use Rattle.std.proofs.Common.{◌≡◌, ◌≤◌, length, map, length-drop, arith, ◌∙◌}
use Rattle.digest_text.specs.Unread.{rows_left}
use Rattle.fleet_census.specs.Tournaments.{leaves}
use Rattle.fleet_census.proofs.Raised.{at_full, at_last, at_more, content_fault, high, low, none_up_to, one_copy, too_many_pages, up_to}
use Rattle.fleet_census.proofs.Takes.{all_ended, all_sound}
use Rattle.fleet_census.proofs.all.count_all.Goals as goal

pub returns-then-first-clause-counted : goal.returns-then-first-clause-counted
returns-then-first-clause-counted g c fleet long zeros behind tallied =
    let so_far = c.loop-turn.invariant in
    let t = c.loop-turn.tournament in
    let entries = leaves t.files t.entries.items in
    let at = so_far.counted fleet long zeros behind tallied in
    let len : length entries ≡ length fleet = omega (arith, length-drop t.files t.entries.items, t.len, so_far.files, long) in
    let few : length fleet ≤ 65536 = omega (arith, long, c.requires.few) in
    let every = c.args.every in
    let turn = c.loop-turn._turn in
    at_last fleet every turn entries _ c.loop-turn.tally at c.first-first.result c.first-first.ensures so_far.own len few c.if-first.true

pub returns-then-first-clause-read : goal.returns-then-first-clause-read
returns-then-first-clause-read g c files long chained =
    let so_far = c.loop-turn.invariant in
    let t = c.loop-turn.tournament in
    let entries = leaves t.files t.entries.items in
    let len : length entries ≡ length files = omega (arith, length-drop t.files t.entries.items, t.len, so_far.files, long) in
    all_sound files entries _ (so_far.chained files long chained) (λ file lt.
    all_ended entries c.first-first.result c.first-first.ensures so_far.own (omega (arith, len, long, c.requires.few)) c.if-first.true file (omega (arith, lt, len)))

pub returns-then-last-clause-read : goal.returns-then-last-clause-read
returns-then-last-clause-read g c files long chained =
    let so_far = c.loop-turn.invariant in
    let t = c.loop-turn.tournament in
    let entries = leaves t.files t.entries.items in
    let len : length entries ≡ length files = omega (arith, length-drop t.files t.entries.items, t.len, so_far.files, long) in
    all_sound files entries _ (so_far.chained files long chained) (λ file lt.
    all_ended entries c.first-last.result c.first-last.ensures so_far.own (omega (arith, len, long, c.requires.few)) c.if-last.true file (omega (arith, lt, len)))

pub count-requires-clause-holders : goal.count-requires-clause-holders
count-requires-clause-holders g c =
    let so_far = c.loop-turn.invariant in
    rw c.deref.ensures.value (λ k d lt. let low = (c.in-Ok.ensures {u = tt}).holders k d lt in omega (arith, low, so_far.guests, so_far.readers))

pub returns-then-not-count-clause-counted : goal.returns-then-not-count-clause-counted
returns-then-not-count-clause-counted g c fleet long zeros behind tallied =
    let so_far = c.loop-turn.invariant in
    let t = c.loop-turn.tournament in
    let entries = leaves t.files t.entries.items in
    let at = so_far.counted fleet long zeros behind tallied in
    let len : length entries ≡ length fleet = omega (arith, length-drop t.files t.entries.items, t.len, so_far.files, long) in
    let few : length fleet ≤ 65536 = omega (arith, long, c.requires.few) in
    let every = c.args.every in
    let turn = c.loop-turn._turn in
    let first = c.first-first.result in
    let gathered = (c.in-Ok.ensures {u = tt}).gathered fleet (omega (arith, long, so_far.readers)) zeros (up_to fleet every turn entries _ c.loop-turn.tally at c.first-first.result c.first-first.ensures so_far.own len few c.if-first.false) in
    let some : 1 ≤ c.in-Ok.content.copies = rw gathered.is (one_copy fleet every turn entries _ c.loop-turn.tally at c.first-first.result c.first-first.ensures so_far.own len few c.if-first.false) in
    let counted = (c.if-not-count.ensures {u = tt}).counted fleet at.bound first.digest (low fleet every turn entries _ c.loop-turn.tally at c.first-first.result c.first-first.ensures so_far.own len few c.if-first.false) c.requires.every (omega (arith, so_far.guests, long)) at.tallied
    (none_up_to fleet every turn entries _ c.loop-turn.tally at c.first-first.result c.first-first.ensures so_far.own len few c.if-first.false) gathered.is some
    (rw c.deref.ensures.value gathered.rising) (rw c.deref.ensures.value gathered.known) in
    too_many_pages fleet every first.digest (high fleet every turn entries _ c.loop-turn.tally at c.first-first.result c.first-first.ensures so_far.own len few c.if-first.false) counted

pub returns-in-Err-clause-read : goal.returns-in-Err-clause-read
returns-in-Err-clause-read g c files long chained =
    let so_far = c.loop-turn.invariant in
    (c.in-Err.ensures {u = tt}).read files (omega (arith, long, so_far.readers)) (so_far.chained files long chained)

pub returns-in-Err-clause-counted : goal.returns-in-Err-clause-counted
returns-in-Err-clause-counted g c fleet long zeros behind tallied =
    let so_far = c.loop-turn.invariant in
    let t = c.loop-turn.tournament in
    let entries = leaves t.files t.entries.items in
    let at = so_far.counted fleet long zeros behind tallied in
    let len : length entries ≡ length fleet = omega (arith, length-drop t.files t.entries.items, t.len, so_far.files, long) in
    let few : length fleet ≤ 65536 = omega (arith, long, c.requires.few) in
    let every = c.args.every in
    let turn = c.loop-turn._turn in
    let gathered = (c.in-Err.ensures {u = tt}).gathered fleet (omega (arith, long, so_far.readers)) zeros (up_to fleet every turn entries _ c.loop-turn.tally at c.first-first.result c.first-first.ensures so_far.own len few c.if-first.false) in
    content_fault fleet every turn entries _ c.loop-turn.tally at c.first-first.result c.first-first.ensures so_far.own len few c.if-first.false (leaves c.gather.new.tournament.files c.gather.new.tournament.entries.items) (map
    (rows_left {A = g.row.A.Denot} g.R.Read.remaining) c.gather.new.readers) c.gather.new.holders.items c.loop-turn.tally c.in-Err.fault c.requires.every gathered

pub returns-then-last-clause-counted : goal.returns-then-last-clause-counted
returns-then-last-clause-counted g c fleet long zeros behind tallied =
    let so_far = c.loop-turn.invariant in
    let t = c.loop-turn.tournament in
    let entries = leaves t.files t.entries.items in
    let at = so_far.counted fleet long zeros behind tallied in
    let len : length entries ≡ length fleet = omega (arith, length-drop t.files t.entries.items, t.len, so_far.files, long) in
    let few : length fleet ≤ 65536 = omega (arith, long, c.requires.few) in
    let every = c.args.every in
    let turn = c.loop-turn._turn in
    at_last fleet every turn entries _ c.loop-turn.tally at c.first-last.result c.first-last.ensures so_far.own len few c.if-last.true

pub returns-else-last-clause-counted : goal.returns-else-last-clause-counted
returns-else-last-clause-counted g c fleet long zeros behind tallied =
    let so_far = c.loop-turn.invariant in
    let t = c.loop-turn.tournament in
    let entries = leaves t.files t.entries.items in
    let at = so_far.counted fleet long zeros behind tallied in
    let len : length entries ≡ length fleet = omega (arith, length-drop t.files t.entries.items, t.len, so_far.files, long) in
    let few : length fleet ≤ 65536 = omega (arith, long, c.requires.few) in
    let every = c.args.every in
    let turn = c.loop-turn._turn in
    at_full fleet every turn entries _ c.loop-turn.tally at c.first-last.result c.first-last.ensures so_far.own len few c.if-last.false c.loop-turn-test.false c.requires.every

pub loop-turn-preserved : goal.loop-turn-preserved
loop-turn-preserved g c =
    let so_far = c.loop-turn.invariant in
    let next = c.in-Ok.ensures {u = tt} in
    record {
      files = next.files ∙ so_far.files;
      readers = c.gather.auto.readers ∙ so_far.readers;
      own = next.own;
      room = omega (arith, next.room, so_far.room);
      guests = (c.if-not-count.ensures {u = tt}).guests ∙ so_far.guests;
      classes = (c.if-not-count.ensures {u = tt}).classes;
      lengths = (c.if-not-count.ensures {u = tt}).lengths ∙ so_far.lengths;
      chained = λ files long chained. next.read files (omega (arith, long, so_far.readers)) (so_far.chained files long chained);
      counted = λ fleet long zeros behind tallied.
          let t = c.loop-turn.tournament in
          let entries = leaves t.files t.entries.items in
          let at = so_far.counted fleet long zeros behind tallied in
          let len : length entries ≡ length fleet = omega (arith, length-drop t.files t.entries.items, t.len, so_far.files, long) in
          let few : length fleet ≤ 65536 = omega (arith, long, c.requires.few) in
          let every = c.args.every in
          let turn = c.loop-turn._turn in
          let first = c.first-first.result in
          let gathered = (c.in-Ok.ensures {u = tt}).gathered fleet (omega (arith, long, so_far.readers)) zeros (up_to fleet every turn entries _ c.loop-turn.tally at c.first-first.result c.first-first.ensures so_far.own len few c.if-first.false) in
          let some : 1 ≤ c.in-Ok.content.copies = rw gathered.is (one_copy fleet every turn entries _ c.loop-turn.tally at c.first-first.result c.first-first.ensures so_far.own len few c.if-first.false) in
          let counted = (c.if-not-count.ensures {u = tt}).counted fleet at.bound first.digest (low fleet every turn entries _ c.loop-turn.tally at c.first-first.result c.first-first.ensures so_far.own len few c.if-first.false) c.requires.every (omega (arith, so_far.guests, long)) at.tallied
          (none_up_to fleet every turn entries _ c.loop-turn.tally at c.first-first.result c.first-first.ensures so_far.own len few c.if-first.false) gathered.is some
          (rw c.deref.ensures.value gathered.rising) (rw c.deref.ensures.value gathered.known) in
          at_more fleet every turn entries _ c.loop-turn.tally at c.first-first.result c.first-first.ensures so_far.own len few c.if-first.false (leaves c.gather.new.tournament.files c.gather.new.tournament.entries.items) (map
          (rows_left {A = g.row.A.Denot} g.R.Read.remaining) c.gather.new.readers) c.count.new.self c.requires.every gathered.behind counted;
    }
