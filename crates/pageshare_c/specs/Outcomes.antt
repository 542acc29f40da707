-- What a request of C does to the machine behind a handle.
use Rattle.std.specs.Prelude.{ℕ, ◌+◌, nat_le, nat_lt, if◌then◌else◌, List, length, Option, Some, None, Result, Ok, Err}
use Rattle.std.specs.Option.{option_map}
use Rattle.page_lending.specs.Lending.{page_stored, page_lent}
use Rattle.page_lending.specs.declared.pieces.TheConstants.{STORES_A_PAGE}
use Rattle.page_model.specs.Pages.{State}
use Rattle.page_model.specs.Steps.{Step, step}
use Rattle.page_model.specs.declared.request.Request.{Request}
use Rattle.page_model.specs.declared.request.RequestFault.{RequestFault}
use Rattle.page_model.specs.declared.request.RequestFault.TheVariants.{Length, Crosses}
use Rattle.page_model.specs.declared.verdict.Verdict.{Verdict}
use Rattle.merge_core.specs.Shown.{state_of}
use Rattle.merge_core.specs.declared.counting.TheConstants.{MAX_REQUESTS}
use Rattle.pageshare_c.specs.Hashed.{shown_in, hash_in}
use Rattle.pageshare_c.specs.declared.hashed_core.HashedCore.{HashedCore}
use Rattle.pageshare_c.specs.declared.answer.Refusal.{Refusal}
use Rattle.pageshare_c.specs.declared.answer.Refusal.TheVariants as r

-- the model's state behind a handle, if it holds a machine
abbrev pub seen : Option HashedCore → Option State
seen held = option_map (λ c. state_of (shown_in c)) held

-- the request that C's arguments name, if there is one
abbrev pub named : Result Request RequestFault → Result Request Refusal
named (Ok request) = Ok request
named (Err Length) = Err r.Length
named (Err Crosses) = Err r.Crosses

-- why a machine in the state s refuses a call of this guest that counts as so many requests, if it does: it has no such
-- guest, or cannot count so many more
abbrev pub refusal_for : ℕ → State → ℕ → Option Refusal
refusal_for requests s guest =
    if nat_le (length s.guests) guest
    then Some r.NoGuest
    else if nat_lt MAX_REQUESTS (s.entries + requests)
    then Some r.Full
    else None

-- the refusal if there is one, and otherwise this
abbrev pub unless : {X : Type 0} → Option Refusal → Result X Refusal → Result X Refusal
unless None result = result
unless (Some refusal) result = Err refusal

-- the request that a machine in the state s accepts
abbrev pub accepted : State → ℕ → Result Request RequestFault → Result Request Refusal
accepted s guest asked = unless (refusal_for 1 s guest) (named asked)

-- the verdict of the model's step, if the request is accepted
abbrev pub verdict_of : (ℕ → List ℕ → ℕ) → State → ℕ → Result Request Refusal → Result Verdict Refusal
verdict_of hash s guest (Ok request) = Ok (step hash s guest request).verdict
verdict_of hash s guest (Err refusal) = Err refusal

-- the state after the model's step, if the request is accepted
abbrev pub stepped : (ℕ → List ℕ → ℕ) → State → ℕ → Result Request Refusal → State
stepped hash s guest (Ok request) = (step hash s guest request).state
stepped hash s guest (Err refusal) = s

-- what a machine in the state s answers, and its state after that
abbrev pub answered : (ℕ → List ℕ → ℕ) → State → ℕ → Result Request RequestFault → Result Verdict Refusal
answered hash s guest asked = verdict_of hash s guest (accepted s guest asked)

abbrev pub answered_state : (ℕ → List ℕ → ℕ) → State → ℕ → Result Request RequestFault → State
answered_state hash s guest asked = stepped hash s guest (accepted s guest asked)

-- what the machine behind a handle answers, if there is one, and its state after that
abbrev pub outcome : Option HashedCore → ℕ → Result Request RequestFault → Result Verdict Refusal
outcome None guest asked = Err r.NoMachine
outcome (Some c) guest asked = answered (hash_in c) (state_of (shown_in c)) guest asked

abbrev pub state_after : Option HashedCore → ℕ → Result Request RequestFault → Option State
state_after None guest asked = None
state_after (Some c) guest asked = Some (answered_state (hash_in c) (state_of (shown_in c)) guest asked)

-- the model's steps of a whole page that is stored, which count as 64 requests, if a machine in the state s accepts them
abbrev pub store_steps : (ℕ → List ℕ → ℕ) → State → ℕ → ℕ → List ℕ → Result Step Refusal
store_steps hash s guest ppn page = unless (refusal_for STORES_A_PAGE s guest) (Ok (page_stored hash s guest ppn page))

-- the same of one that is lent, of at most 65 requests
abbrev pub lend_steps : (ℕ → List ℕ → ℕ) → State → ℕ → ℕ → List ℕ → Result Step Refusal
lend_steps hash s guest ppn page = unless (refusal_for (STORES_A_PAGE + 1) s guest) (Ok (page_lent hash s guest ppn page))

-- the verdict of such steps, and the state after them
abbrev pub verdict_in : Result Step Refusal → Result Verdict Refusal
verdict_in (Ok steps) = Ok steps.verdict
verdict_in (Err refusal) = Err refusal

abbrev pub state_in : State → Result Step Refusal → State
state_in s (Ok steps) = steps.state
state_in s (Err refusal) = s

-- what the machine behind a handle answers to a store of a whole page, and its state after that
abbrev pub store_outcome : Option HashedCore → ℕ → ℕ → List ℕ → Result Verdict Refusal
store_outcome None guest ppn page = Err r.NoMachine
store_outcome (Some c) guest ppn page = verdict_in (store_steps (hash_in c) (state_of (shown_in c)) guest ppn page)

abbrev pub state_stored : Option HashedCore → ℕ → ℕ → List ℕ → Option State
state_stored None guest ppn page = None
state_stored (Some c) guest ppn page = Some
    (state_in (state_of (shown_in c)) (store_steps (hash_in c) (state_of (shown_in c)) guest ppn page))

-- the same for a page that is lent
abbrev pub lend_outcome : Option HashedCore → ℕ → ℕ → List ℕ → Result Verdict Refusal
lend_outcome None guest ppn page = Err r.NoMachine
lend_outcome (Some c) guest ppn page = verdict_in (lend_steps (hash_in c) (state_of (shown_in c)) guest ppn page)

abbrev pub state_lent : Option HashedCore → ℕ → ℕ → List ℕ → Option State
state_lent None guest ppn page = None
state_lent (Some c) guest ppn page = Some (state_in (state_of (shown_in c)) (lend_steps (hash_in c) (state_of (shown_in c)) guest ppn page))
