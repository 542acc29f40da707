use denote.Param.Send.{Quiet-if}
use Rattle.std.proofs.Common.{rules}
use Rattle.merge_run.proofs.whole_run.run_threads.Goals as goal

-- An allocator that is sent to a thread leaves nothing behind: `search` doesn't look at both cases of a lifetime by itself.
pub scoped-requires : goal.scoped-requires
scoped-requires g c =
    record { at = λ scope. (c.requires.ready, (c.requires.fronts, (record { owned = c.type_bounds.send-A.owned; leaving = λ k. search (Quiet-if, rules) }, search rules, search rules, search rules, search rules, search rules))) }
