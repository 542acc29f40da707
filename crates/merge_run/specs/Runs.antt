-- What can be run, what a whole run is, and why a machine is not run to its end.
use Rattle.std.specs.Prelude.{◌≡◌, ℕ, ◌<◌, ◌≤◌, false, All, List, length, map}
use Rattle.std.specs.declared.vec.Vec.{Vec}
use Rattle.page_model.specs.Limits.{shapes}
use Rattle.page_model.specs.Replay.{empty_state}
use Rattle.page_model.specs.declared.hashing.HashFunction.{Ghosts}
use Rattle.page_model.specs.declared.request.Request.{Request}
use Rattle.page_model.specs.declared.verdict.Verdict.{Verdict}
use Rattle.share_rings.specs.Closing.{has_close}
use Rattle.share_rings.specs.Ends.{closed_sent, closed_got, closed_capacity}
use Rattle.merge_core.specs.Shown.{state_of}
use Rattle.merge_machine.specs.declared.config.Config.{Config}
use Rattle.merge_machine.specs.declared.config.Fault.{Fault}
use Rattle.merge_machine.specs.declared.config.Fault.TheVariants as machine
use Rattle.merge_run.specs.declared.run_fault.RunFault.{RunFault}
use Rattle.merge_run.specs.declared.run_fault.RunFault.TheVariants.{Frames, Guests, Pages, Ring, Journal, OutOfMemory, Stopped, NoThread}
use Rattle.merge_machine.specs.Limits.{IsMachine, NoMachineFor}
use Rattle.merge_machine.specs.Machines.{opening}
use Rattle.merge_machine.specs.Scripts.{entries_needed}
use Rattle.merge_settle.specs.Settling.{Settles}
use Rattle.merge_settle.specs.View.{settled_journal, settled_ports, settled_core}
use Rattle.merge_settle.specs.declared.settled.Settled.{Settled}
use Rattle.merge_run.specs.Tasks.{all_sent}

-- why there is no machine, as a fault of the run
abbrev pub run_fault_of : Fault → RunFault
run_fault_of machine.Frames = Frames
run_fault_of machine.Guests = Guests
run_fault_of machine.Pages = Pages
run_fault_of machine.Ring = Ring
run_fault_of machine.Journal = Journal
run_fault_of machine.OutOfMemory = OutOfMemory

module _ {A : Type 0} where
  -- These scripts can be run on the machine of this configuration: no script contains a close, and there is one script for
  -- each of its guests if there is such a machine.
  pub record CanBeRun (c : Config A) (scripts : List (Vec Request A)) : Type 0 where
    pub each : IsMachine c → length scripts ≡ length c.pages.items
    pub plain : All (λ script. has_close script.items ≡ false) scripts

  -- The first cause for which the machine was not run with these scripts. Lack of memory or of a thread is the cause only if
  -- there is such a machine, with room in its journal for all that the guests send.
  abbrev pub NotRunFor : Config A → List (Vec Request A) → RunFault → Type 0
  NotRunFor c scripts Frames = NoMachineFor c machine.Frames
  NotRunFor c scripts Guests = NoMachineFor c machine.Guests
  NotRunFor c scripts Pages = NoMachineFor c machine.Pages
  NotRunFor c scripts Ring = NoMachineFor c machine.Ring
  NotRunFor c scripts Journal = NoMachineFor c machine.Journal
  NotRunFor c scripts OutOfMemory = IsMachine c × (entries_needed scripts ≤ c.journal)
  NotRunFor c scripts (Stopped full) = IsMachine c × (c.journal < entries_needed scripts)
  NotRunFor c scripts NoThread = IsMachine c × (entries_needed scripts ≤ c.journal)

module _ {H A : Type 0} {ghosts : Ghosts H} where
  -- The run of these scripts on the machine of this configuration: there is such a machine, with room in its journal for all
  -- that the guests send. It is settled. Each guest sent its script and a close over rings of the configuration's capacity,
  -- and these are the verdicts that it received.
  pub record IsWholeRun (hash : ℕ → List ℕ → ℕ) (c : Config A) (scripts : List (Vec Request A)) (settled : Settled H A ghosts)
      (verdicts : List (Vec Verdict A)) : Type 0 where
    pub limits : IsMachine c
    pub room : entries_needed scripts ≤ c.journal
    pub settles : Settles hash (settled_ports settled) (settled_journal settled) (settled_core settled)
    pub machine : opening (state_of (settled_core settled)) ≡ empty_state c.frames (shapes c.salts.items c.pages.items)
    pub guests : (length (settled_ports settled) ≡ length c.pages.items) × (length verdicts ≡ length c.pages.items)
    pub rings : All (λ port. closed_capacity port ≡ c.ring) (settled_ports settled)
    pub sent : map closed_sent (settled_ports settled) ≡ all_sent scripts
    pub got : map (λ list. list.items) verdicts ≡ map closed_got (settled_ports settled)
