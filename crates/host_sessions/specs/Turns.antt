-- What the pages, questions and slots of one message do, one after the other.
use Rattle.std.specs.Prelude.{◌≡◌, ℕ, Bool, ◌||◌, ◌&&◌, ◌==◌, not, nat_eq, nat_lt, if◌then◌else◌, ◌-◌, ◌<◌, ◌≤◌, List, [], ◌∷◌, ◌++◌, map, replicate, Option, Result, Ok, Err, MatchResult}
use Rattle.std.specs.List.{list_any}
use Rattle.host_messages.specs.declared.item.Question.{Question}
use Rattle.host_messages.specs.declared.item.Lent.{Lent}
use Rattle.share_domain.specs.declared.number.TheConstants.{NO_FRAME}
use Rattle.frame_fingerprints.specs.Held.{is_held}
use Rattle.recent_fingerprints.specs.declared.note.PageName.{PageName}
use Rattle.recent_fingerprints.specs.Notes.{Recent, was_noted, with_note}
use Rattle.share_domain.specs.declared.holding.Loan.{Loan}
use Rattle.share_domain.specs.declared.fault.LendFault.{LendFault}
use Rattle.share_domain.specs.declared.fault.NoSuchSlot.{NoSuchSlot}
use Rattle.share_domain.specs.Domains.{DomainView, release_answer, after_release}
use Rattle.fingerprint_domain.specs.Known.{LendsFound, RefusesFound}
use Rattle.share_domain.specs.Totals.{slots_of}
use Rattle.share_domain.specs.Numbers.{frame_number, slot_by, slot_number}

-- ---- questions

abbrev pub page_of : ℕ → Question → PageName
page_of client q = record { client = client; number = q.page }

-- the answer to a client's question: whether another page was noted with the fingerprint, or a frame in use has it
abbrev pub answer_to : List (Option ℕ) → ℕ → Question → Recent → Bool
answer_to frames client q recent = was_noted (page_of client q) q.fingerprint recent || is_held q.fingerprint frames

-- whether a question is noted. A passing one isn't. Nor is one about a fingerprint that a frame in use has: anyone who asks about it
-- gets the same answer by that frame
abbrev pub is_to_note : List (Option ℕ) → Question → Bool
is_to_note frames q = not (q.is_passing || is_held q.fingerprint frames)

-- the last questions after one
abbrev pub after_question : List (Option ℕ) → ℕ → Question → Recent → Recent
after_question frames client q recent = if is_to_note frames q then with_note (page_of client q) q.fingerprint recent else recent

-- the answers to a client's questions, where the frames in use have these fingerprints; and the last questions after them
unfoldable pub answers_to : List (Option ℕ) → ℕ → List Question → Recent → List Bool
answers_to frames client [] recent = []
answers_to frames client (q ∷ qs) recent = answer_to frames client q recent ∷ answers_to frames client qs (after_question frames client q recent)

unfoldable pub asked : List (Option ℕ) → ℕ → List Question → Recent → Recent
asked frames client [] recent = recent
asked frames client (q ∷ qs) recent = asked frames client qs (after_question frames client q recent)

-- ---- releases

-- the number of the frame that a release freed. A slot that isn't the client's frees none
abbrev pub number_freed : Result (Option ℕ) NoSuchSlot → ℕ
number_freed (Ok frame) = frame_number frame
number_freed (Err fault) = NO_FRAME

-- the numbers of the frames that a client's releases freed, and the domain after them
unfoldable pub freed_by : ℕ → List ℕ → DomainView → List ℕ
freed_by client [] d = []
freed_by client (s ∷ ss) d = number_freed (release_answer client (slot_by s) d) ∷ freed_by client ss (after_release client (slot_by s) d)

unfoldable pub after_releases : ℕ → List ℕ → DomainView → DomainView
after_releases client [] d = d
after_releases client (s ∷ ss) d = after_releases client ss (after_release client (slot_by s) d)

-- ---- lends

-- what a client learns of a page
abbrev pub not_lent : Lent
not_lent = record { slot = 0; frame = NO_FRAME; sharers = 0 }

abbrev pub lent_by : Result Loan LendFault → Lent
lent_by (Ok loan) = record { slot = slot_number loan.slot; frame = loan.frame; sharers = loan.sharers }
lent_by (Err fault) = not_lent

-- whether a page was lent
abbrev pub is_lent : Lent → Bool
is_lent lent = not (lent.frame == NO_FRAME)

-- the slots of the pages that were lent
unfoldable pub slots_in : List Lent → List ℕ
slots_in [] = []
slots_in (lent ∷ loans) = if is_lent lent then lent.slot ∷ slots_in loans else slots_in loans

-- the domain lends the page, or refuses it
abbrev pub Answers : ℕ → ℕ → List ℕ → Result Loan LendFault → DomainView → DomainView → Type 0
Answers salt client page answer old new = MatchResult answer
    (λ loan. LendsFound salt client page loan old new)
    (λ fault. RefusesFound salt client page fault old × (new ≡ old))

-- a page of a client: what it learns of it, and the domain then
pub record Lends (salt client : ℕ) (page : List ℕ) (lent : Lent) (old new : DomainView) : Type 0 where
  pub answer : Result Loan LendFault
  pub answers : Answers salt client page answer old new
  pub lent-is : lent ≡ lent_by answer

-- a client that has as many slots as it may have gets no more
pub record LendsOne (salt client quota : ℕ) (page : List ℕ) (lent : Lent) (old new : DomainView) : Type 0 where
  pub within : slots_of client old.machines < quota → Lends salt client page lent old new
  pub full : quota ≤ slots_of client old.machines → (lent ≡ not_lent) × (new ≡ old)

-- the pages of a message, one after the other
unfoldable pub LendsInTurn : ℕ → ℕ → ℕ → List (List ℕ) → List Lent → DomainView → DomainView → Type 0
LendsInTurn salt client quota [] [] old new = new ≡ old
LendsInTurn salt client quota (page ∷ pages) [] old new = ⊥
LendsInTurn salt client quota [] (lent ∷ loans) old new = ⊥
LendsInTurn salt client quota (page ∷ pages) (lent ∷ loans) old new =
    (mid : DomainView) × LendsOne salt client quota page lent old mid × LendsInTurn salt client quota pages loans mid new

-- how many of a message's pages may be lent, and how many may not
abbrev pub offered : ℕ → ℕ → ℕ
offered count most = if nat_lt most count then most else count

abbrev pub held_back : ℕ → ℕ → ℕ
held_back count most = count - offered count most

-- The pages that may be lent, one after the other. For each of the others the reply has an item, too: it isn't lent. They change nothing.
pub record LendsSome (salt client quota : ℕ) (pages : List (List ℕ)) (others : ℕ) (loans : List Lent) (old new : DomainView) : Type 0 where
  pub lent : List Lent
  pub lends : LendsInTurn salt client quota pages lent old new
  pub loans-is : loans ≡ lent ++ replicate others not_lent

-- ---- loans that are taken back

-- a page was lent, in one of these frames
abbrev pub is_among : List ℕ → Lent → Bool
is_among frames lent = is_lent lent && list_any (λ f. nat_eq f lent.frame) frames

-- what becomes of a loan when those in these frames are taken back, and what is taken back
abbrev pub kept_by : List ℕ → Lent → Lent
kept_by frames lent = if is_among frames lent then not_lent else lent

abbrev pub back_by : List ℕ → Lent → Lent
back_by frames lent = if is_among frames lent then lent else not_lent

-- the reply then, and the slots that are released
abbrev pub kept_of : List ℕ → List Lent → List Lent
kept_of frames loans = map (kept_by frames) loans

abbrev pub back_of : List ℕ → List Lent → List ℕ
back_of frames loans = slots_in (map (back_by frames) loans)
