-- Where the state is that of a journal's replay.
use Rattle.std.proofs.Common.{◌≡◌, ℕ, ◌<◌, List, map, ap, sym, subst, ◌∙◌}
use Rattle.page_model.specs.Pages.{State, totals}
use Rattle.page_model.specs.Reports.{AddUp}
use Rattle.page_model.proofs.InUse.{report_adds_up}
use Rattle.page_model.specs.Replay.{verdicts_of}
use Rattle.page_model.specs.Stored.{byte_at, last_stored}
use Rattle.page_model.specs.declared.limits.TheConstants.{PAGE_BYTES}
use Rattle.page_model.specs.declared.request.Entry.{Entry}
use Rattle.page_model.proofs.LastStored.{reads_last_stored}
use Rattle.merge_machine.specs.Machines.{shape_of, opening, IsReplayOf}

-- a byte is the one last stored
pub reads_last : (hash : ℕ → List ℕ → ℕ) (s : State) (journal : List Entry) (guest ppn at : ℕ) → at < PAGE_BYTES → IsReplayOf hash s journal → byte_at s guest ppn at ≡ last_stored journal (verdicts_of hash (opening s) journal) guest ppn at
unfolding opening
reads_last hash s journal guest ppn at below replayed =
    ap (λ (t : State). byte_at t guest ppn at) replayed ∙ reads_last_stored journal hash s.total (map shape_of s.guests) guest ppn at below

-- and the report's numbers are to each other as they should be
pub reports_add_up : (hash : ℕ → List ℕ → ℕ) (s : State) (journal : List Entry) → IsReplayOf hash s journal → AddUp (totals s.entries s.guests)
unfolding opening
reports_add_up hash s journal replayed =
    subst (λ (t : State). AddUp (totals t.entries t.guests)) (sym replayed) (report_adds_up journal hash s.total (map shape_of s.guests))
