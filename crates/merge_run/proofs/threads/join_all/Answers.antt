use Rattle.std.proofs.Common.{append_assoc, arith}
use Rattle.std.proofs.lemmas.Grind.{common_steps}
use Rattle.merge_run.proofs.Doing.{done_more, tasks_more}
use Rattle.merge_run.proofs.threads.join_all.Goals as goal

pub loop-handle-preserved : goal.loop-handle-preserved
loop-handle-preserved g c =
    let so_far = c.loop-handle.invariant in
    let push = c.push_reserved.ensures in
    record {
      done = rw (tasks_more c.loop-handle.yielded c.in-Some.handle, push.items) (done_more _ _ _ _ so_far.done c.join.ensures);
      len = grind (arith, common_steps);
      room = grind (arith, common_steps);
      whole = grind (arith, common_steps, c.in-Some.ensures.steps, append_assoc);
    }
