-- What C gets: an answer, and what its room holds afterwards.
use Rattle.std.specs.Prelude.{ℕ, nat_le, if◌then◌else◌, List, ◌++◌, length, drop, Option, Some, None, Result, Ok, Err}
use Rattle.c_surface.specs.declared.status.TheConstants as status
use Rattle.page_model.specs.Pages.{State, totals}
use Rattle.page_model.specs.Parts.{Totals as Report}
use Rattle.page_model.specs.declared.request.Request.{Request}
use Rattle.page_model.specs.declared.request.RequestFault.{RequestFault}
use Rattle.page_model.specs.declared.verdict.Verdict.{Verdict}
use Rattle.page_model.specs.declared.verdict.Verdict.TheVariants as v
use Rattle.share_domain.specs.declared.number.TheConstants.{NO_FRAME}
use Rattle.share_domain.specs.Numbers.{frame_number}
use Rattle.pageshare_c.specs.declared.hashed_core.HashedCore.{HashedCore}
use Rattle.pageshare_c.specs.declared.answer.Answer.{Answer}
use Rattle.pageshare_c.specs.declared.answer.Refusal.{Refusal}
use Rattle.pageshare_c.specs.declared.answer.Refusal.TheVariants.{NoMachine}
use Rattle.pageshare_c.specs.declared.answer.Totals.{Totals}
use Rattle.pageshare_c.specs.Codes.{status_of, code_of, count_of}
use Rattle.pageshare_c.specs.Framed.{frame_after, frame_freed, page_frame, frame_left}
use Rattle.pageshare_c.specs.Outcomes.{outcome, store_outcome, lend_outcome}

-- the answer to a request: its verdict, the named page's frame afterwards, and a frame that is free since
abbrev pub answer_of : Result Verdict Refusal → Option ℕ → Option ℕ → Answer
answer_of (Ok verdict) frame freed = record {
  status = status.OK;
  verdict = code_of verdict;
  count = count_of verdict;
  frame = frame_number frame;
  freed = frame_number freed;
}
answer_of (Err refusal) frame freed = record { status = status_of refusal; verdict = 0; count = 0; frame = NO_FRAME; freed = NO_FRAME }

-- the answer to a request of the machine behind a handle, which shows old and then new
abbrev pub answer_to : Option HashedCore → Option HashedCore → ℕ → Result Request RequestFault → Answer
answer_to old new guest asked = answer_of (outcome old guest asked) (frame_after new guest asked) (frame_freed old guest asked)

-- the same for a page that is stored whole
abbrev pub store_answer : Option HashedCore → Option HashedCore → ℕ → ℕ → List ℕ → Answer
store_answer old new guest ppn page = answer_of (store_outcome old guest ppn page) (page_frame new guest ppn) None

-- the same for a page that is lent
abbrev pub lend_answer : Option HashedCore → Option HashedCore → ℕ → ℕ → List ℕ → Answer
lend_answer old new guest ppn page = answer_of (lend_outcome old guest ppn page) (page_frame new guest ppn) (frame_left old guest ppn page)

-- the value, or if there is none, the old one
abbrev pub value_or : {X : Type 0} → X → Result X Refusal → X
value_or old (Ok x) = x
value_or old (Err refusal) = old

-- the room with these bytes at its start, if they fit
abbrev pub overlaid : List ℕ → List ℕ → List ℕ
overlaid room bytes = if nat_le (length bytes) (length room) then bytes ++ drop (length bytes) room else room

-- the room of a load: it begins with the bytes that were loaded
abbrev pub loaded : List ℕ → Result Verdict Refusal → List ℕ
loaded room (Ok (v.Bytes bytes)) = overlaid room bytes.items
loaded room _ = room

-- the room of a take-back: it holds the page's text if the page was released
abbrev pub taken : List ℕ → Result Verdict Refusal → Result (List ℕ) Refusal → List ℕ
taken room (Ok (v.Released freed)) text = value_or room text
taken room _ text = room

-- the six numbers of a report
abbrev pub numbers : Report → Totals
numbers r = record {
  entries = r.entries;
  mapped = r.mapped;
  shared = r.shared;
  frames = r.frames;
  reclaimed = r.reclaimed;
  hints = r.hints;
}

-- the room of a count
abbrev pub counted : Totals → Result Verdict Refusal → Totals
counted room (Ok (v.Totals report)) = numbers report
counted room _ = room

-- the numbers of the machine's report, if there is a machine
abbrev pub counts : Option State → Result Totals Refusal
counts None = Err NoMachine
counts (Some s) = Ok (numbers (totals s.entries s.guests))
