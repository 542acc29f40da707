-- When a machine is settled, and what is then known of it.
use Rattle.std.specs.Prelude.{◌≡◌, ℕ, ◌<◌, Bool, true, false, not, List, length, Option, Some, None, All, slice_index_or}
use Rattle.std.specs.List.{position}
use Rattle.page_model.specs.Pages.{State, totals}
use Rattle.page_model.specs.Replay.{state_after, verdicts_of}
use Rattle.page_model.specs.Journal.{asked, answers}
use Rattle.page_model.specs.Stored.{byte_at, last_stored}
use Rattle.page_model.specs.Reports.{AddUp}
use Rattle.page_model.specs.declared.limits.TheConstants.{PAGE_BYTES}
use Rattle.page_model.specs.declared.request.Entry.{Entry}
use Rattle.merge_core.specs.Shown.{Shown, state_of}
use Rattle.share_rings.specs.declared.merger_end.MergerEnd.{MergerEnd}
use Rattle.share_rings.specs.declared.closed_port.ClosedPort.{ClosedPort}
use Rattle.share_rings.specs.Closing.{is_close, has_close, has_closed, last_closed, last_passes, front}
use Rattle.share_rings.specs.Ends.{closed_sent, closed_got, end_given}
use Rattle.merge_machine.specs.Machines.{opening}
use Rattle.merge_settle.specs.Frames.{frames_of, distinct_numbers}
use Rattle.merge_settle.specs.declared.unsettled.SettleFault.{SettleFault}
use Rattle.merge_settle.specs.declared.unsettled.SettleFault.TheVariants.{Running, Undrained}

module _ {A : Type 0} where
  -- the guest's `Closed` was not given
  abbrev pub is_running : MergerEnd A → Bool
  is_running e = not (has_closed (end_given e))

  -- the guest has not received its `Closed`
  abbrev pub is_undrained : ClosedPort A → Bool
  is_undrained p = not (has_closed (closed_got p))

  -- what one guest sent and received, against the journal
  pub record SettlesGuest (hash : ℕ → List ℕ → ℕ) (machine : State) (journal : List Entry) (guest : ℕ) (port : ClosedPort A) : Type 0 where
    -- what it sent is its part of the journal, and what it received are the replay's verdicts there
    pub sent : closed_sent port ≡ asked guest journal
    pub got : closed_got port ≡ answers hash machine guest journal
    -- one verdict for each request
    pub each : length (closed_got port) ≡ length (closed_sent port)
    -- `Close` is the last that it sent, and there is only one; the same for `Closed` in what it received
    pub close_last : last_passes is_close (closed_sent port) ≡ true
    pub close_once : has_close (front (closed_sent port)) ≡ false
    pub closed_last : last_closed (closed_got port) ≡ true
    pub closed_once : has_closed (front (closed_got port)) ≡ false

  -- A settled machine with these ports, this journal, and a core that shows this.
  pub record Settles (hash : ℕ → List ℕ → ℕ) (ports : List (ClosedPort A)) (journal : List Entry) (core : Shown) : Type 0 where
    -- each guest has received one verdict for each request that it sent, in order, and they are those of the replay
    pub guests : (i : ℕ) (d : ClosedPort A) → i < length ports
        → SettlesGuest hash (opening (state_of core)) journal i (slice_index_or ports i d)
    -- the journal holds the requests of these guests and no others
    pub members : All (λ e. e.guest < length ports) journal
    -- memory is as left by one thread that replays the journal on plain page contents
    pub memory : state_of core ≡ state_after hash (opening (state_of core)) journal
    -- each page reads the bytes last stored to it
    pub stored : (guest ppn at : ℕ) → at < PAGE_BYTES
        → byte_at (state_of core) guest ppn at ≡ last_stored journal (verdicts_of hash (opening (state_of core)) journal) guest ppn at
    -- the frames reclaimed are the pages mapped less the distinct frames that the pages name
    pub adds_up : AddUp (totals (state_of core).entries (state_of core).guests)
    pub frames : (totals (state_of core).entries (state_of core).guests).frames ≡ distinct_numbers (frames_of core.pmap)

-- the fault of the lowest guest that has not received its `Closed`, if there is one
abbrev pub undrained_fault : Option ℕ → Option SettleFault
undrained_fault None = None
undrained_fault (Some i) = Some (Undrained i)

-- the fault of the lowest guest whose `Closed` was not given, or the other fault if there is no such guest
abbrev pub running_fault : Option ℕ → Option SettleFault → Option SettleFault
running_fault None undrained = undrained
running_fault (Some i) undrained = Some (Running i)

-- the lowest guest whose `Closed` was not given, or else the lowest that has not received it
abbrev pub first_fault : {A : Type 0} → List (MergerEnd A) → List (ClosedPort A) → Option SettleFault
first_fault ends ports = running_fault (position is_running ends) (undrained_fault (position is_undrained ports))
