use Rattle.std.proofs.Common.{◌<◌, length, map, refl, arith, ◌∙◌}
use Rattle.std.proofs.lemmas.List.Elements.{All-push}
use Rattle.digest_text.specs.Unread.{rows_left}
use Rattle.fleet_census.specs.Tournaments.{leaves}
use Rattle.fleet_census.specs.declared.content.Holder.{Holder}
use Rattle.fleet_census.proofs.Gathered.{gathered_fault, nothing_so_far, so_far_done, so_far_full, so_far_more, too_many}
use Rattle.fleet_census.proofs.gather.gather.Goals as goal

pub loop-turn-init : goal.loop-turn-init
loop-turn-init g c = record {
  files = c.requires.files;
  readers = refl;
  own = c.requires.own;
  room = c.clear.ensures.capacity;
  len = omega (arith, c.clear.ensures.len);
  holders = rw c.clear.ensures.items (λ k d lt. absurd (omega arith));
  zero = omega arith;
  few = omega arith;
  chained = λ files long chained. chained;
  gathered = λ fleet long zeros behind. rw c.clear.ensures.items (nothing_so_far fleet c.args.digest _ _ behind);
}

pub loop-turn-preserved : goal.loop-turn-preserved
loop-turn-preserved g c =
    let so_far = c.loop-turn.invariant in
    let took = c.in-Ok-Some.ensures {u = tt} in
    let holder = rw c.in-Ok-Some.field-0-is at took.holder in
    let more = c.in-Some.ensures {u = tt} in
    record {
      files = took.files ∙ so_far.files;
      readers = c.take_holder.auto.readers ∙ so_far.readers;
      own = took.own;
      room = omega (arith, c.push_reserved.ensures.capacity, so_far.room);
      len = omega (arith, c.push_reserved.ensures.len, so_far.len);
      holders = rw c.push_reserved.ensures.items (All-push (λ (h : Holder). h.file < length c.args.readers.now) c.loop-turn.holders.items c.in-Ok-Some.holder so_far.holders (omega (arith, holder.0, so_far.readers)));
      zero = rw more (omega (arith, holder.1, so_far.zero));
      few = rw more (omega (arith, so_far.few));
      chained = λ files long chained. took.read files (omega (arith, long, so_far.readers)) (so_far.chained files long chained);
      gathered = λ fleet long zeros behind.
          let before = so_far.gathered fleet long zeros behind in
          let next = rw c.in-Ok-Some.field-0-is at (took.taken fleet before.count (omega (arith, long, so_far.readers)) before.behind) in
          rw c.push_reserved.ensures.items (so_far_more fleet c.args.digest c.loop-turn.turn _ _ _ _ before _ _ c.args.zeros.now c.in-Ok-Some.holder zeros next c.in-Some.more more);
    }

pub returns-in_default-clause-gathered : goal.returns-in_default-clause-gathered
returns-in_default-clause-gathered g c fleet long zeros behind =
    let so_far = c.loop-turn.invariant in
    let before = so_far.gathered fleet long zeros behind in
    let next = rw c.in-Ok-Some.field-0-is at ((c.in-Ok-Some.ensures {u = tt}).taken fleet before.count (omega (arith, long, so_far.readers)) before.behind) in
    too_many fleet c.args.digest c.loop-turn.turn _ _ _ _ before _ _ c.args.zeros.now c.in-Ok-Some.holder zeros next (c.in_default.ensures {u = tt})

pub returns-in-Ok-None-clause-read : goal.returns-in-Ok-None-clause-read
returns-in-Ok-None-clause-read g c files long chained =
    let so_far = c.loop-turn.invariant in
    (c.in-Ok-None.ensures {u = tt}).read files (omega (arith, long, so_far.readers)) (so_far.chained files long chained)

pub returns-in-Ok-None-clause-gathered : goal.returns-in-Ok-None-clause-gathered
returns-in-Ok-None-clause-gathered g c fleet long zeros behind =
    let so_far = c.loop-turn.invariant in
    let before = so_far.gathered fleet long zeros behind in
    let last = rw c.in-Ok-None.field-0-is at ((c.in-Ok-None.ensures {u = tt}).taken fleet before.count (omega (arith, long, so_far.readers)) before.behind) in
    so_far_done fleet c.args.digest c.loop-turn.turn _ _ _ _ before _ _ last

pub returns-in-Err-clause-read : goal.returns-in-Err-clause-read
returns-in-Err-clause-read g c files long chained =
    let so_far = c.loop-turn.invariant in
    (c.in-Err.ensures {u = tt}).read files (omega (arith, long, so_far.readers)) (so_far.chained files long chained)

pub returns-in-Err-clause-gathered : goal.returns-in-Err-clause-gathered
returns-in-Err-clause-gathered g c fleet long zeros behind =
    let so_far = c.loop-turn.invariant in
    let before = so_far.gathered fleet long zeros behind in
    gathered_fault fleet c.args.digest (leaves c.take_holder.new.tournament.files c.take_holder.new.tournament.entries.items) (map (rows_left {A = g.row.A.Denot} g.R.Read.remaining) c.take_holder.new.readers) c.loop-turn.holders.items c.in-Err.fault ((c.in-Err.ensures {u = tt}).taken fleet before.count
    (omega (arith, long, so_far.readers)) before.behind)

pub returns-clause-gathered : goal.returns-clause-gathered
returns-clause-gathered g c fleet long zeros behind =
    let so_far = c.loop-turn.invariant in
    let before = so_far.gathered fleet long zeros behind in
    so_far_full fleet c.args.digest c.loop-turn.turn _ _ _ _ before (omega (arith, long, c.loop-turn-test.false, before.enough, before.within, so_far.readers))
