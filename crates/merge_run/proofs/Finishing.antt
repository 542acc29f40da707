-- What is known once the guests have ended.
use Rattle.std.proofs.Common.{◌≡◌, ℕ, suc, zero, ◌<◌, ◌≤◌, Bool, true, false, not, None, Result, Ok, Err, inl, inr, List, [], ◌∷◌, length, get_or, take, map, refl, ap, sym, subst, ◌∙◌, arith}
use Rattle.std.proofs.lemmas.Grind.{common_steps}
use Rattle.std.proofs.lemmas.Bool.Decides.{nat_tests}
use Rattle.std.specs.Prelude.{All, ◌⊎◌, IfOk, IfErr, IsErrAnd, MatchResult}
use Rattle.std.specs.declared.vec.Vec.{Vec}
use Rattle.page_model.specs.declared.hashing.HashFunction.{Ghosts}
use Rattle.page_model.specs.declared.request.Request.{Request}
use Rattle.page_model.specs.declared.verdict.Verdict.{Verdict}
use Rattle.std.specs.List.{list_any, position, prefix_len}
use Rattle.share_rings.specs.declared.closed_port.ClosedPort.{ClosedPort}
use Rattle.share_rings.specs.declared.port.Port.{Port}
use Rattle.share_rings.specs.declared.merger_end.MergerEnd.{MergerEnd}
use Rattle.share_rings.specs.Closing.{is_closed, last_closed, last_passes}
use Rattle.share_rings.specs.Ends.{port_capacity, closed_sent, closed_got, closed_capacity, closed_view}
use Rattle.merge_machine.specs.Fresh.{IsFreshPort}
use Rattle.merge_machine.specs.Kept.{closed_views, port_capacities}
use Rattle.merge_machine.specs.Limits.{IsMachine}
use Rattle.merge_core.specs.Shown.{state_of}
use Rattle.merge_machine.specs.Machines.{opening}
use Rattle.merge_settle.specs.Settling.{Settles}
use Rattle.page_model.specs.Limits.{shapes}
use Rattle.page_model.specs.Replay.{empty_state}
use Rattle.merge_run.specs.Runs.{IsWholeRun, NotRunFor}
use Rattle.merge_settle.specs.Settling.{is_running, is_undrained}
use Rattle.merge_run.specs.Tasks.{AreDone, all_sent}
use Rattle.merge_run.specs.Turns.{HaveEnded}
use Rattle.merge_settle.specs.View.{settled_ports, settled_journal, settled_core}
use Rattle.merge_machine.specs.declared.config.Config.{Config}
use Rattle.merge_run.specs.declared.finished.Finished.{Finished}
use Rattle.merge_run.specs.declared.run_fault.RunFault.{RunFault}
use Rattle.merge_run.specs.declared.run_fault.RunFault.TheVariants.{OutOfMemory, NoThread}
use Rattle.merge_run.specs.declared.task.Task.{Task}
use Rattle.merge_run.specs.declared.task.DoneTask.{DoneTask}
use Rattle.merge_machine.proofs.Lists.{maps_length, maps_at, some_of}
use Rattle.merge_machine.specs.Scripts.{with_close, entries_needed}

all_pass : {X : Type 0} (p : X → Bool) (xs : List X) → ((i : ℕ) (d : X) → i < length xs → p (get_or xs i d) ≡ false) → prefix_len (λ x. not (p x)) xs ≡ length xs
all_pass p [] fails = refl
all_pass p (x ∷ xs) fails =
    let first : p x ≡ false = fails zero x (omega arith) in
    let rest = all_pass p xs (λ i d l. fails (suc i) d (omega arith)) in grind (arith, ap not first)

-- where the test fails at each place, none passes
position_none : {X : Type 0} (p : X → Bool) (xs : List X) → ((i : ℕ) (d : X) → i < length xs → p (get_or xs i d) ≡ false) → position p xs ≡ None
position_none p xs fails = rw (all_pass p xs fails) (grind (arith, nat_tests))

any_of_last : {X : Type 0} (p : X → Bool) (xs : List X) → last_passes p xs ≡ true → list_any p xs ≡ true
any_of_last p [] h = grind arith
any_of_last p (x ∷ []) h = grind arith
any_of_last p (x ∷ y ∷ ys) h = grind (arith, any_of_last p (y ∷ ys))

map_after : {X Y Z : Type 0} (f : X → Y) (h : Y → Z) (xs : List X) → map (λ x. h (f x)) xs ≡ map h (map f xs)
map_after f h [] = refl
map_after f h (x ∷ xs) = ap (λ zs. h (f x) ∷ zs) (map_after f h xs)

maps_after : {X Y Z : Type 0} (f : X → Y) (h : Y → Z) (xs ys : List X) → map f xs ≡ map f ys → map (λ x. h (f x)) xs ≡ map (λ x. h (f x)) ys
maps_after f h xs ys e = map_after f h xs ∙ ap (map h) e ∙ sym (map_after f h ys)

module _ {A : Type 0} where
  pub whole_done : (tasks : List (Task A)) (done : List (DoneTask A)) → AreDone (take (length done) tasks) done → length done ≡ length tasks → AreDone tasks done
  whole_done tasks done are whole =
      let all : take (length done) tasks ≡ tasks = grind (arith, common_steps, whole) in
      subst (λ (ts : List (Task A)). AreDone ts done) all are

  pub none_running : (n : ℕ) (ends : List (MergerEnd A)) → n ≡ length ends → HaveEnded n ends → position is_running ends ≡ None
  none_running n ends all ended = position_none is_running ends (λ i e low. ap not (ended i e (omega (arith, low, all))))

  pub none_undrained : (ports : List (ClosedPort A)) → All (λ p. last_closed (closed_got p) ≡ true) ports → position is_undrained ports ≡ None
  none_undrained ports drained = position_none is_undrained ports (λ i p low. ap not (any_of_last is_closed (closed_got (get_or ports i p)) (drained i p low)))

  pub same_capacities : (xs ys : List (ClosedPort A)) → closed_views xs ≡ closed_views ys → map closed_capacity xs ≡ map closed_capacity ys
  same_capacities xs ys e = maps_after closed_view (λ v. v.2) xs ys e

  pub same_sent : (xs ys : List (ClosedPort A)) → closed_views xs ≡ closed_views ys → map closed_sent xs ≡ map closed_sent ys
  same_sent xs ys e = maps_after closed_view (λ v. v.1.0) xs ys e

  pub same_got : (xs ys : List (ClosedPort A)) → closed_views xs ≡ closed_views ys → map closed_got xs ≡ map closed_got ys
  same_got xs ys e = maps_after closed_view (λ v. v.1.1) xs ys e

  -- memory or a thread was wanting where there is such a machine, and its journal has room
  wanting : (config : Config A) (scripts : List (Vec Request A)) (fault : RunFault) → IsMachine config → entries_needed scripts ≤ config.journal → (fault ≡ OutOfMemory) ⊎ (fault ≡ NoThread) → NotRunFor config scripts fault
  wanting config scripts fault machine room (inl memory) = subst (λ f. NotRunFor config scripts f) (sym memory) (machine, room)
  wanting config scripts fault machine room (inr thread) = subst (λ f. NotRunFor config scripts f) (sym thread) (machine, room)

  pub wanting_memory : {X : Type 0} (P : X → Type 0) (config : Config A) (scripts : List (Vec Request A)) (result : Result X RunFault) → IsMachine config → entries_needed scripts ≤ config.journal → IsErrAnd result (λ fault. fault ≡ OutOfMemory)
      → MatchResult result P (λ fault. NotRunFor config scripts fault)
  wanting_memory P config scripts (Ok x) machine room is = absurd is
  wanting_memory P config scripts (Err fault) machine room is = wanting config scripts fault machine room (inl is)

  -- all ports are of rings of that capacity
  of_ring : (ring : ℕ) (fresh : List (Port A)) (ports : List (ClosedPort A)) → All (IsFreshPort ring) fresh → map closed_capacity ports ≡ port_capacities fresh → All (λ p. closed_capacity p ≡ ring) ports
  of_ring ring fresh ports are same = λ i p low.
      let each = maps_length closed_capacity port_capacity ports fresh same in
      let q = some_of fresh (omega (arith, low, each)) in
      maps_at closed_capacity port_capacity ports fresh i p q same low ∙ (are i q (omega (arith, low, each))).capacity_is

  -- what is known of a run, taken together: as many ports and lists of verdicts as scripts
  pub whole_run : {H O : Type 0} {ghosts : Ghosts H} (hash : ℕ → List ℕ → ℕ) (c : Config A) (scripts : List (Vec Request A)) (fresh : List (Port A)) (result : Result (Finished H A ghosts × O) RunFault)
      → IsMachine c → entries_needed scripts ≤ c.journal → length scripts ≡ length c.pages.items → All (IsFreshPort c.ring) fresh
      → IfOk result (λ r. Settles hash (settled_ports r.0.settled) (settled_journal r.0.settled) (settled_core r.0.settled))
      → IfOk result (λ r. opening (state_of (settled_core r.0.settled)) ≡ empty_state c.frames (shapes c.salts.items c.pages.items))
      → IfOk result (λ r. map closed_capacity (settled_ports r.0.settled) ≡ port_capacities fresh)
      → IfOk result (λ r. map closed_sent (settled_ports r.0.settled) ≡ all_sent scripts)
      → IfOk result (λ r. map (λ list. list.items) r.0.verdicts.items ≡ map closed_got (settled_ports r.0.settled))
      → IfErr result (λ fault. (fault ≡ OutOfMemory) ⊎ (fault ≡ NoThread))
      → MatchResult result (λ r. IsWholeRun hash c scripts r.0.settled r.0.verdicts.items) (λ fault. NotRunFor c scripts fault)
  whole_run hash c scripts fresh (Err fault) limits room each are settles machine rings sent got why = wanting c scripts fault limits room why
  whole_run hash c scripts fresh (Ok (f, o)) limits room each are settles machine rings sent got why =
      let ports = maps_length closed_sent (λ (x : Vec Request A). with_close x.items) (settled_ports f.settled) scripts sent ∙ each in
      record {
        limits = limits;
        room = room;
        settles = settles;
        machine = machine;
        guests = (ports, maps_length (λ (x : Vec Verdict A). x.items) closed_got f.verdicts.items (settled_ports f.settled) got ∙ ports);
        rings = of_ring c.ring fresh (settled_ports f.settled) are rings;
        sent = sent;
        got = got;
      }
