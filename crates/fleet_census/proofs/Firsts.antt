-- What a reader's first line says.
use Rattle.std.proofs.Common.{◌≡◌, ℕ, [], refl, sym, ◌∙◌}
use Rattle.std.specs.Prelude.{Option, Some, None, Ok, Err, IfSome}
use Rattle.std.specs.Option.{option_map}
use Rattle.guest_digests.specs.declared.line.DigestLine.{DigestLine}
use Rattle.digest_text.specs.Unread.{IsNext}
use Rattle.digest_text.specs.declared.head.DigestHead.{DigestHead}
use Rattle.digest_text.specs.declared.read_fault.ReadFault.{ReadFault}
use Rattle.fleet_census.specs.Faults.{fault_of}
use Rattle.fleet_census.specs.Openings.{IsFirstRead}
use Rattle.fleet_census.specs.States.{Said}
use Rattle.fleet_census.specs.declared.entry.TheConstants.{AT_END}
use Rattle.fleet_census.specs.declared.fault.FleetFault.{FleetFault}
use Rattle.fleet_census.specs.declared.first.First.{First}
use Rattle.fleet_census.proofs.Lefts.{rest_of}
use Rattle.fleet_census.proofs.ReadOn.{end_read, fault_read, if_some, line_read}

-- what a head says
abbrev pub SaysHead : Option DigestHead → First → Type 0
SaysHead None first = Unit {0}
SaysHead (Some head) first = (first.salt ≡ head.salt) × (first.pages ≡ head.pages) × (first.every ≡ head.sample)

line_first : (file : ℕ) (line : DigestLine) (first : First) (said : Said) (left : Option Said) (head : Option DigestHead)
    → first.entry ≡ record { digest = line.digest; copies = line.copies; file = file } → SaysHead head first → IsNext said left head (Ok (Some line)) → IsFirstRead file said left (Ok first)
line_first file line first said None head entry says next = absurd next
line_first file line first said (Some left) head entry says next = (
  rw entry (line_read file line said (Some left) head next),
  λ rows e.
      let heads = rw next.known at says in
      let more = rest_of left rows (record { head = next.of; line = line }) (sym e ∙ next.rows_are) in
      rw more.2 (record { salt = heads.0; pages = heads.1; every = heads.2 }),
)

end_first : (file : ℕ) (first : First) (said : Said) (left : Option Said) (head : Option DigestHead) → first ≡ record { entry = AT_END; salt = 0; pages = 0; every = 0 }
    → IsNext said left head (Ok None) → IsFirstRead file said left (Ok first)
end_first file first said None head is next = absurd next
end_first file first said (Some left) head is next =
    rw is (
      end_read file said (Some left) head next,
      λ rows e. let none : [] ≡ rows = let h = next.0 in cc in rw (← none) (record { salt = refl; pages = refl; every = refl }),
    )

pub first_line : (file : ℕ) (line : DigestLine) (first : First) (rows_left now : Option Said) (head : Option DigestHead)
    → first.entry ≡ record { digest = line.digest; copies = line.copies; file = file } → SaysHead head first
    → IfSome rows_left (λ (said : Said). IsNext said now head (Ok (Some line))) → IfSome rows_left (λ (said : Said). IsFirstRead file said now (Ok first))
first_line file line first rows_left now head entry says next = if_some rows_left (λ (said : Said). IsNext said now head (Ok (Some line))) _ (λ said. line_first file line first said now head entry says) next

pub first_end : (file : ℕ) (rows_left now : Option Said) (head : Option DigestHead)
    → IfSome rows_left (λ (said : Said). IsNext said now head (Ok None)) → IfSome rows_left (λ (said : Said). IsFirstRead file said now (Ok (record { entry = AT_END; salt = 0; pages = 0; every = 0 })))
first_end file rows_left now head next = if_some rows_left (λ (said : Said). IsNext said now head (Ok None)) _ (λ said. end_first file _ said now head refl) next

pub first_fault : (file : ℕ) (fault : ReadFault) (rows_left now : Option Said) (head : Option DigestHead) (file_fault : FleetFault) → file_fault ≡ fault_of file fault
    → IfSome rows_left (λ (said : Said). IsNext said now head (Err fault)) → IfSome rows_left (λ (said : Said). IsFirstRead file said now (Err file_fault))
first_fault file fault rows_left now head file_fault e next = rw e (if_some rows_left (λ (said : Said). IsNext said now head (Err fault)) _ (λ said. fault_read file fault said now head) next)

-- a head that is read
pub says_head : {H : Type 0} (found : Option H) (now : H → DigestHead) (head : Option DigestHead) (first : First) → option_map now found ≡ head
    → IfSome found (λ (h : H). (first.salt ≡ (now h).salt) × (first.pages ≡ (now h).pages) × (first.every ≡ (now h).sample)) → SaysHead head first
says_head None now head first e says = rw (← e) tt
says_head (Some h) now head first e says = rw (← e) says
