-- One task more is made, started and done.
use Rattle.std.proofs.Common.{◌≡◌, zero, suc, true, List, [], ◌∷◌, ◌++◌, refl, ap, sym, subst, ◌∙◌, length, map, take, arith}
use Rattle.std.proofs.lemmas.List.{length-map, map-append}
use Rattle.std.proofs.lemmas.List.Elements.{All-append}
use Rattle.std.proofs.Math.Seq.{append_snoc}
use Rattle.std.specs.Prelude.{All}
use Rattle.std.specs.declared.vec.Vec.{Vec}
use Rattle.std.specs.declared.thread.PromisedHandle.{PromisedHandle}
use Rattle.page_model.specs.declared.request.Request.{Request}
use Rattle.share_rings.specs.declared.port.Port.{Port}
use Rattle.share_rings.specs.Closing.{last_closed}
use Rattle.share_rings.specs.Ends.{closed_name, closed_sent, closed_got, closed_capacity, port_name, port_capacity}
use Rattle.merge_run.specs.Tasks.{IsDone, AreDone, tasks_of, ports_of, lists_of, task_requests, all_sent}
use Rattle.merge_run.specs.declared.task.Task.{Task}
use Rattle.merge_run.specs.declared.task.DoneTask.{DoneTask}
use Rattle.merge_run.specs.declared.task.DoesTask.{DoesTask}
use Rattle.merge_machine.proofs.Lists.{pushed_alike}
use Rattle.merge_machine.specs.Scripts.{with_close}

all_of_one : {X : Type 0} (P : X → Type 0) (x : X) → P x → All P (x ∷ [])
all_of_one P x p zero d low = p
all_of_one P x p (suc k) d low = absurd (omega (arith, low))

pub nothing_in : {X : Type 0} (xs : List X) → length xs ≡ 0 → xs ≡ []
nothing_in [] none = refl
nothing_in (x ∷ xs) none = absurd (omega (arith, none))

pub first_of : {X : Type 0} (P : X → Type 0) (x : X) (xs : List X) → All P (x ∷ xs) → P x
first_of P x xs all = all zero x (omega arith)

pub rest_of : {X : Type 0} (P : X → Type 0) (x : X) (xs : List X) → All P (x ∷ xs) → All P xs
rest_of P x xs all k d low = all (suc k) d (omega (arith, low))

pub all_more : {X : Type 0} (P : X → Type 0) (xs : List X) (x : X) → All P xs → P x → All P (xs ++ x ∷ [])
all_more P xs x before here = All-append P xs (x ∷ []) before (all_of_one P x here)

module _ {A : Type 0} where
  -- one port fewer is left
  pub ports_more : {Y : Type 0} (f : Port A → Y) (tasks : List (Task A)) (task : Task A) (port : Port A) (rest : List (Port A)) (all : List Y) → map (λ (t : Task A). f t.port) tasks ++ map f (port ∷ rest) ≡ all → task.port ≡ port
      → map (λ (t : Task A). f t.port) (tasks ++ task ∷ []) ++ map f rest ≡ all
  ports_more f tasks task port rest all before here =
      let shown = map (λ (t : Task A). f t.port) tasks in
      ap (λ ys. ys ++ map f rest) (map-append (λ (t : Task A). f t.port) tasks (task ∷ []))
      ∙ append_snoc shown (f task.port) (map f rest) ∙ ap (λ p. shown ++ f p ∷ map f rest) here ∙ before

  pub requests_more : (tasks : List (Task A)) (task : Task A) (scripts : List (Vec Request A)) → task_requests tasks ≡ all_sent scripts → task_requests (tasks ++ task ∷ []) ≡ all_sent (scripts ++ task.script ∷ [])
  requests_more tasks task scripts before = pushed_alike (λ (t : Task A). with_close t.script.items) (λ s. with_close s.items) tasks scripts task task.script before refl

  pub done_more : (tasks : List (Task A)) (task : Task A) (done : List (DoneTask A)) (d : DoneTask A) → AreDone tasks done → IsDone task d → AreDone (tasks ++ task ∷ []) (done ++ d ∷ [])
  done_more tasks task done d are is =
      let ports : ports_of (done ++ d ∷ []) ≡ ports_of done ++ d.port ∷ [] = map-append (λ (t : DoneTask A). t.port) done (d ∷ []) in
      let lists : lists_of (done ++ d ∷ []) ≡ lists_of done ++ d.verdicts ∷ [] = map-append (λ (t : DoneTask A). t.verdicts) done (d ∷ []) in
      record {
        ends = rw ports (pushed_alike closed_name (λ (t : Task A). port_name t.port) (ports_of done) tasks d.port task are.ends is.ends);
        capacities = rw ports (pushed_alike closed_capacity (λ (t : Task A). port_capacity t.port) (ports_of done) tasks d.port task are.capacities is.capacity);
        scripts = rw ports (pushed_alike closed_sent (λ (t : Task A). with_close t.script.items) (ports_of done) tasks d.port task are.scripts is.script);
        drained = rw ports (all_more (λ p. last_closed (closed_got p) ≡ true) (ports_of done) d.port are.drained is.drained);
        verdicts = rw (ports, lists) (pushed_alike (λ v. v.items) closed_got (lists_of done) (ports_of done) d.verdicts d.port are.verdicts is.verdicts);
      }

  pub tasks_more : (handles : List (PromisedHandle (DoneTask A) (DoesTask A))) (handle : PromisedHandle (DoneTask A) (DoesTask A)) → tasks_of (handles ++ handle ∷ []) ≡ tasks_of handles ++ handle.promise.0.value ∷ []
  tasks_more handles handle = map-append (λ h. h.promise.0.value) handles (handle ∷ [])

  done_length : (tasks : List (Task A)) (done : List (DoneTask A)) → AreDone tasks done → length done ≡ length tasks
  done_length tasks done are =
      sym (length-map done (λ (t : DoneTask A). t.port)) ∙ sym (length-map (ports_of done) closed_name) ∙ ap length are.ends
      ∙ length-map tasks (λ (t : Task A). port_name t.port)

  -- as many are done as threads were started
  pub done_handles : (handles : List (PromisedHandle (DoneTask A) (DoesTask A))) (done : List (DoneTask A)) → AreDone (tasks_of handles) done → length done ≡ length handles
  done_handles handles done are = done_length (tasks_of handles) done are ∙ length-map handles (λ h. h.promise.0.value)

  -- what is done are the first of the tasks
  pub first_done : (handles : List (PromisedHandle (DoneTask A) (DoesTask A))) (tasks : List (Task A)) (done : List (DoneTask A)) → tasks_of handles ≡ take (length handles) tasks → AreDone (tasks_of handles) done → AreDone (take (length done) tasks) done
  first_done handles tasks done started are =
      let which : tasks_of handles ≡ take (length done) tasks = started ∙ ap (λ n. take n tasks) (sym (done_handles handles done are)) in
      subst (λ (ts : List (Task A)). AreDone ts done) which are
