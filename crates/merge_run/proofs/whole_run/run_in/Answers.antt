use Rattle.std.proofs.Common.{arith}
use Rattle.merge_run.proofs.Doing.{done_handles, first_done}
use Rattle.merge_run.proofs.whole_run.run_in.Goals as goal

pub returns : goal.returns
returns g c =
    let handles = c.start_all.new.handles in
    let done = c.join_all.new.done.items in
    let same = done_handles handles.items done c.join_all.ensures in
    record {
      run = record {
        same = c.serve_all-observer.ensures.same;
        most = omega (arith, same, c.start_all.ensures.most);
        tasks_done = first_done handles.items c.args.crew.tasks.items done c.start_all.ensures.started c.join_all.ensures;
        ended = λ i e low. c.serve_all-observer.ensures.ended i e (omega (arith, low, same, c.len.ensures, handles.ok.0));
      };
      observer = c.serve_all-observer.ensures.observer;
    }
