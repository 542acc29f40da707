-- Clients and their slots, as C names them: what each call answers, and what the handle holds afterwards.
use Rattle.std.specs.Prelude.{◌≡◌, ◌≢◌, ℕ, ◌==◌, if◌then◌else◌, List, length, slice_get, Option, Some, None, Result, Ok, Err, MatchResult}
use Rattle.c_surface.specs.Statuses.{number_or, room_status, lend_status}
use Rattle.c_surface.specs.Totals.{totals_of}
use Rattle.c_surface.specs.declared.status.TheConstants as status
use Rattle.c_surface.specs.declared.totals.DomainTotals.{DomainTotals}
use Rattle.recent_fingerprints.specs.Notes.{forgotten}
use Rattle.share_domain.specs.declared.number.TheConstants.{NO_FRAME}
use Rattle.share_domain.specs.declared.holding.Loan.{Loan}
use Rattle.share_domain.specs.declared.holding.Slot.{Slot}
use Rattle.share_domain.specs.declared.fault.LendFault.{LendFault}
use Rattle.share_domain.specs.declared.fault.NoSuchSlot.{NoSuchSlot}
use Rattle.share_domain.specs.Domains.{DomainView, next_client, entered, page_machine, LendsIn, RefusesIn, release_answer, after_release}
use Rattle.share_domain.specs.Leaving.{Leaves, is_here}
use Rattle.share_domain.specs.Numbers.{frame_number, slot_number}
use Rattle.share_domain.specs.Totals.{domain_totals}
use Rattle.pageshare_c.specs.Domains.{hash_of}
use Rattle.pageshare_c.specs.Hosts.{changed, made_status, of_made, showing, shows}
use Rattle.pageshare_c.specs.declared.hosted.Hosted.{Hosted}
use Rattle.pageshare_c.specs.declared.hosted.Hosted.TheVariants.{Begun, Made}
use Rattle.pageshare_c.specs.declared.hosted.MadeDomain.{MadeDomain}
use Rattle.pageshare_c.specs.declared.loan.DomainLoan.{DomainLoan}

-- a client enters
abbrev pub enter_status : Option Hosted → ℕ
enter_status old = made_status (λ m. room_status (next_client (shows m))) old

abbrev pub client_after : ℕ → Option Hosted → ℕ
client_after client old = of_made client (λ m. number_or client (next_client (shows m))) old

abbrev pub after_enter : Option Hosted → Option Hosted
after_enter old = changed (λ m. showing (entered (shows m) (next_client (shows m))) m) old

-- what C gets of a page that wasn't lent
abbrev pub not_lent : ℕ → DomainLoan
not_lent why = record { status = why; frame = NO_FRAME; slot = 0; sharers = 0 }

-- what C gets of a page, by what became of it; nothing becomes of it without a domain
abbrev pub loan_of : Option (Result Loan LendFault) → DomainLoan
loan_of None = not_lent status.NO_MACHINE
loan_of (Some (Err fault)) = not_lent (lend_status fault)
loan_of (Some (Ok loan)) = record { status = status.OK; frame = loan.frame; slot = slot_number loan.slot; sharers = loan.sharers }

-- what became of a client's page at a domain
abbrev pub Becomes : ℕ → List ℕ → Result Loan LendFault → MadeDomain → MadeDomain → Type 0
Becomes client page result old new = MatchResult result
    (λ loan. LendsIn (page_machine (hash_of old.domain) (shows old) page) client page loan (shows old) (shows new) × (new ≡ showing (shows new) old))
    (λ fault. RefusesIn (page_machine (hash_of old.domain) (shows old) page) client fault (shows old) × (new ≡ old))

-- the same at a handle
abbrev pub BecomesAt : ℕ → List ℕ → Option (Result Loan LendFault) → Option Hosted → Option Hosted → Type 0
BecomesAt client page None None new = new ≡ None
BecomesAt client page None (Some (Begun b)) new = new ≡ Some (Begun b)
BecomesAt client page None (Some (Made m)) new = ⊥
BecomesAt client page (Some result) None new = ⊥
BecomesAt client page (Some result) (Some (Begun b)) new = ⊥
BecomesAt client page (Some result) (Some (Made m)) None = ⊥
BecomesAt client page (Some result) (Some (Made m)) (Some (Begun b)) = ⊥
BecomesAt client page (Some result) (Some (Made m)) (Some (Made n)) = Becomes client page result m n

-- a client's page was to be lent, and the answer is what became of it
pub record LendsAt (client : ℕ) (page : List ℕ) (answer : DomainLoan) (old new : Option Hosted) : Type 0 where
  pub became : Option (Result Loan LendFault)
  pub says : answer ≡ loan_of became
  pub lends : BecomesAt client page became old new

-- a client's slot is released, if it is the client's
abbrev pub released_status : Result (Option ℕ) NoSuchSlot → ℕ
released_status (Ok frame) = status.OK
released_status (Err fault) = status.NOT_ITS_SLOT

abbrev pub freed_or : ℕ → Result (Option ℕ) NoSuchSlot → ℕ
freed_or old (Ok frame) = frame_number frame
freed_or old (Err fault) = old

abbrev pub release_status : ℕ → Slot → Option Hosted → ℕ
release_status client slot old = made_status (λ m. released_status (release_answer client slot (shows m))) old

abbrev pub freed_after : ℕ → Slot → ℕ → Option Hosted → ℕ
freed_after client slot freed old = of_made freed (λ m. freed_or freed (release_answer client slot (shows m))) old

abbrev pub after_release_at : ℕ → Slot → Option Hosted → Option Hosted
after_release_at client slot old = changed (λ m. showing (after_release client slot (shows m)) m) old

-- a client leaves: there is room for no frame, or no such client
abbrev pub leave_status : ℕ → List ℕ → Option Hosted → ℕ
leave_status client room old =
    made_status (λ m. if length room == 0 then status.LENGTH else if is_here (slice_get (shows m).clients client) then status.OK else status.NO_CLIENT) old

-- the questions of a client that leaves are forgotten
abbrev pub forgetting : ℕ → MadeDomain → MadeDomain
forgetting client m = record m { recent = forgotten client m.recent }

abbrev pub LeavesDomain : ℕ → ℕ → List ℕ → List ℕ → Option Hosted → Option Hosted → Type 0
LeavesDomain client count room after None new = ⊥
LeavesDomain client count room after (Some (Begun b)) new = ⊥
LeavesDomain client count room after (Some (Made m)) None = ⊥
LeavesDomain client count room after (Some (Made m)) (Some (Begun b)) = ⊥
LeavesDomain client count room after (Some (Made m)) (Some (Made n)) = Leaves client count room after (shows m) (shows n) × (n ≡ forgetting client (showing (shows n) m))

-- A client left, in part or for good, by share_domain's words; or the call was refused, and nothing changed. room and before are what
-- the caller's memory held for the freed frames and for their number.
pub record LeavesAt (client result : ℕ) (room after : List ℕ) (before count : ℕ) (old new : Option Hosted) : Type 0 where
  pub cause : result ≡ leave_status client room old
  pub left : result ≡ status.OK → LeavesDomain client count room after old new
  pub kept : result ≢ status.OK → (after ≡ room) × (count ≡ before) × (new ≡ old)

-- what C reads of a report
abbrev pub totals_after : DomainTotals → Option Hosted → DomainTotals
totals_after totals old = of_made totals (λ m. totals_of (domain_totals (shows m))) old
