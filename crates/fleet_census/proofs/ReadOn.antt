-- What a reader's next line says of its file.
use Rattle.std.proofs.Common.{◌≡◌, ℕ, ◌<◌, List, length, map, get_or, set, refl, ◌∙◌, inl, inr}
use Rattle.std.proofs.lemmas.List.{get_or-map}
use Rattle.std.proofs.Math.Seq.{map-set}
use Rattle.std.specs.Prelude.{Option, Some, None, Result, Ok, Err, IfSome}
use Rattle.guest_digests.specs.declared.line.DigestLine.{DigestLine}
use Rattle.digest_text.specs.Unread.{IsNext}
use Rattle.digest_text.specs.declared.head.DigestHead.{DigestHead}
use Rattle.digest_text.specs.declared.read_fault.ReadFault.{ReadFault}
use Rattle.digest_text.specs.declared.read_fault.ReadFault.TheVariants as reads
use Rattle.fleet_census.specs.Faults.{fault_of}
use Rattle.fleet_census.specs.States.{IsRead, IsReadOn, Said}
use Rattle.fleet_census.specs.declared.entry.Entry.{Entry}
use Rattle.fleet_census.specs.declared.entry.TheConstants.{AT_END}
use Rattle.fleet_census.specs.declared.fault.FleetFault.{FleetFault}

pub if_some : (o : Option Said) (P Q : Said → Type 0) → ((said : Said) → P said → Q said) → IfSome o P → IfSome o Q
if_some None P Q then h = h
if_some (Some said) P Q then h = then said h

pub line_read : (file : ℕ) (line : DigestLine) (said : Said) (left : Option Said) (head : Option DigestHead) → IsNext said left head (Ok (Some line))
    → IsRead file said left (Ok (record { digest = line.digest; copies = line.copies; file = file }))
line_read file line said None head next = absurd next
line_read file line said (Some left) head next = inr (record { head = next.of; own = refl; rows_are = next.rows_are })

pub end_read : (file : ℕ) (said : Said) (left : Option Said) (head : Option DigestHead) → IsNext said left head (Ok None) → IsRead file said left (Ok AT_END)
end_read file said None head next = absurd next
end_read file said (Some left) head next = inl (refl, next.0, next.1 ∙ next.0)

pub fault_read : (file : ℕ) (fault : ReadFault) (said : Said) (left : Option Said) (head : Option DigestHead) → IsNext said left head (Err fault) → IsRead file said left (Err (fault_of file fault))
fault_read file reads.OutOfMemory said None head next = absurd next
fault_read file (reads.Read error) said None head next = absurd next
fault_read file (reads.Line line) said None head next = absurd next
fault_read file reads.OutOfMemory said (Some left) head next = tt
fault_read file (reads.Read error) said (Some left) head next = tt
fault_read file (reads.Line line) said (Some left) head next = (refl, next.0)

module _ {T : Type 0} (rows_left : T → Option Said) (readers : List T) (file : ℕ) (within : file < length readers) (d new : T) where
  pub on : (result : Result Entry FleetFault) → IfSome (rows_left (get_or readers file d)) (λ (said : Said). IsRead file said (rows_left new) result)
      → IsReadOn file (map rows_left readers) (map rows_left (set readers file new)) result
  on result read =
      let here : get_or (map rows_left readers) file None ≡ rows_left (get_or readers file d) = get_or-map rows_left readers file d None within in
      record { now = rows_left new; others = map-set rows_left readers file new; next = rw here read }

  pub line_on : (line : DigestLine) (head : Option DigestHead) → IfSome (rows_left (get_or readers file d)) (λ (said : Said). IsNext said (rows_left new) head (Ok (Some line)))
      → IsReadOn file (map rows_left readers) (map rows_left (set readers file new)) (Ok (record { digest = line.digest; copies = line.copies; file = file }))
  line_on line head next = on _ (if_some (rows_left (get_or readers file d)) (λ (said : Said). IsNext said (rows_left new) head (Ok (Some line))) _ (λ said. line_read file line said (rows_left new) head) next)

  pub end_on : (head : Option DigestHead) → IfSome (rows_left (get_or readers file d)) (λ (said : Said). IsNext said (rows_left new) head (Ok None))
      → IsReadOn file (map rows_left readers) (map rows_left (set readers file new)) (Ok AT_END)
  end_on head next = on _ (if_some (rows_left (get_or readers file d)) (λ (said : Said). IsNext said (rows_left new) head (Ok None)) _ (λ said. end_read file said (rows_left new) head) next)

  pub fault_on : (fault : ReadFault) (head : Option DigestHead) (file_fault : FleetFault) → file_fault ≡ fault_of file fault
      → IfSome (rows_left (get_or readers file d)) (λ (said : Said). IsNext said (rows_left new) head (Err fault))
      → IsReadOn file (map rows_left readers) (map rows_left (set readers file new)) (Err file_fault)
  fault_on fault head file_fault e next = rw e (on (Err (fault_of file fault)) (if_some (rows_left (get_or readers file d)) (λ (said : Said). IsNext said (rows_left new) head (Err fault)) _ (λ said. fault_read file fault said (rows_left new) head) next))
