use Rattle.std.proofs.Common.{◌≡◌, ◌≤◌, ◌+◌, length, replicate, vec_capacity}
use Rattle.page_model.specs.declared.limits.TheConstants.{MAX_GUESTS}
use Rattle.merge_machine.specs.Taking.{TookSo}
use Rattle.merge_machine.proofs.take_requests.take_requests.Given as goal

-- each turn so far took a request
abbrev pub invariant-loop-turn : goal.invariant-loop-turn
invariant-loop-turn g l = record {
  took : TookSo l.fn.ends.items l.ends.items l.fn.journal.items l.journal.items (replicate MAX_GUESTS 0) l.owed;
  owed : length l.owed ≡ MAX_GUESTS;
  within : length l.journal.items ≤ length l.fn.journal.items + l.most;
  least : length l.fn.journal.items + l._turn ≤ length l.journal.items;
  capacity : vec_capacity l.journal ≡ vec_capacity l.fn.journal;
}
