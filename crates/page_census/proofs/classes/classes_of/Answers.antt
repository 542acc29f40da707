use Rattle.std.proofs.Common.{◌≡◌, ◌<◌, ◌≤◌, length, ap, arith}
use Rattle.std.proofs.lemmas.List.{get_or_default}
use Rattle.page_census.specs.Contents.{AreSteady, contents, content_at}
use Rattle.page_census.specs.Classes.{class_of}
use Rattle.page_census.specs.Fingerprints.{Sure, seen}
use Rattle.page_census.proofs.Fingerprints.{alike_seen, length-seen}
use Rattle.page_census.proofs.Noted.{none_known, noted}
use Rattle.page_census.proofs.classes.classes_of.Goals as goal

pub loop-number-init : goal.loop-number-init
loop-number-init g c =
    let pages = contents g.S.PageSource.pages c.args.guests.now in
    let all = seen c.args.by pages c.args.marks.now in
    let same_len : length all ≡ length pages = length-seen pages c.args.marks.now c.args.by in
    let steady = AreSteady g.S.PageSource.is_steady c.args.guests.now in
    let known = c.in_ok-known.known in
    let none = none_known (Sure c.args.by steady) all c.args.marks.now known.heads.items _ (omega (arith, same_len, c.requires.count)) (omega (arith, same_len, c.requires.count, c.requires.few))
    (alike_seen pages c.args.marks.now c.args.by steady c.requires.apart) c.in_ok-known.ensures.heads in
    let empty = c.in_ok-known.ensures.empty in
    record {
      classed = rw (empty.0, empty.1) none;
      len = omega (arith, ap length empty.0, known.classes.ok.0);
      own = c.in_ok-own.ensures;
      other = c.in_ok-other.ensures;
      class_room = c.in_ok-known.ensures.room.0;
      link_room = c.in_ok-known.ensures.room.1;
    }

pub loop-number-preserved : goal.loop-number-preserved
loop-number-preserved g c =
    let so_far = c.loop-number.invariant in
    let known = c.loop-number.known in
    let pages = contents g.S.PageSource.pages c.args.guests.now in
    let all = seen c.args.by pages c.args.marks.now in
    let same_len : length all ≡ length pages = length-seen pages c.args.marks.now c.args.by in
    let steady = Sure c.args.by (AreSteady g.S.PageSource.is_steady c.args.guests.now) in
    let here : c.loop-number.number ≡ length known.classes.items = omega (arith, so_far.len, known.classes.ok.0) in
    let more : length known.classes.items < length all = omega (arith, here, c.loop-number-test.true, c.requires.count, same_len) in
    let low : c.in_ok-class.class ≤ length known.classes.items = omega (arith, c.in_ok-class.ensures.below, known.classes.ok.0) in
    let len : known.classes.len ≡ length known.classes.items = omega (arith, known.classes.ok.0) in
    let is : steady → c.in_ok-class.class ≡ class_of all (content_at all (length known.classes.items)) = λ s. rw len at (c.in_ok-class.ensures.right s) in
    let after = noted steady all c.args.marks.now known.classes.items known.links.items known.heads.items so_far.classed c.in_ok-class.class more low is c.note.new.known.heads.items (rw here at c.note.ensures.heads) in
    record {
      classed = rw (c.note.ensures.classes, rw here at c.note.ensures.links) after;
      len = omega (arith, so_far.len, c.note.ensures.len);
      own = so_far.own;
      other = so_far.other;
      class_room = omega (arith, so_far.class_room, c.note.ensures.capacities.0);
      link_room = omega (arith, so_far.link_room, c.note.ensures.capacities.1);
    }

pub returns-clause-below : goal.returns-clause-below
returns-clause-below g c = λ k d lt.
    let low = c.loop-number.invariant.classed.below k lt in
    let most = c.loop-number.invariant.classed.done in
    rw (get_or_default c.loop-number.known.classes.items k d 0 lt) (omega (arith, low, most, c.requires.count, length-seen (contents g.S.PageSource.pages c.args.guests.now) c.args.marks.now c.args.by))
