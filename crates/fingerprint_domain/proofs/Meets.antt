-- When equal pages meet.
use Rattle.std.proofs.Common.{◌≡◌, ◌∙◌, ℕ, ◌<◌, List, length, Some, refl, ap, ◌⊎◌, inl, inr}
use Rattle.page_digest.specs.Hashes.{fold_hash}
use Rattle.share_domain.specs.declared.holding.Loan.{Loan}
use Rattle.share_domain.specs.Domains.{DomainView, machine_at}
use Rattle.share_domain.specs.Open.{first_open}
use Rattle.share_domain.proofs.Open.{open_refuses_nothing}
use Rattle.fingerprint_domain.specs.Known.{AllRefuse, EqualPagesMeet, HasBytes, HasFingerprint, IsRefused, IsUnmistaken, OpenRefusesNothing}

its_bytes : (salt : ℕ) (page : List ℕ) (d : DomainView) (m : ℕ) → IsUnmistaken salt page d → HasFingerprint salt (fold_hash salt page) (machine_at d.machines m) → HasBytes page (machine_at d.machines m)
its_bytes salt page d m unmistaken has = record { mpn = has.mpn; has = has.has ∙ ap (λ (bytes : List ℕ). Some bytes) (unmistaken m has.mpn has.bytes has.has has.is) }

meet : (salt client m : ℕ) (page : List ℕ) (loan : Loan) (d : DomainView)
    → HasFingerprint salt (fold_hash salt page) (machine_at d.machines loan.slot.machine) ⊎ (AllRefuse salt (fold_hash salt page) client d × (loan.slot.machine ≡ first_open d.machines))
    → m < length d.machines → HasBytes page (machine_at d.machines m) → (IsRefused m client d → ⊥) → IsUnmistaken salt page d → HasBytes page (machine_at d.machines loan.slot.machine)
meet salt client m page loan d (inl has) lt bytes takes unmistaken = its_bytes salt page d loan.slot.machine unmistaken has
meet salt client m page loan d (inr all) lt bytes takes unmistaken =
    absurd (takes (all.0 m lt (record { mpn = bytes.mpn; bytes = page; has = bytes.has; is = refl })))

pub equal_pages_meet : EqualPagesMeet
equal_pages_meet salt client m page loan old new found lt bytes takes unmistaken = meet salt client m page loan old found.goes lt bytes takes unmistaken

pub open_refuses : OpenRefusesNothing
open_refuses salt client m page fault d lt is here refused = open_refuses_nothing d m client fault lt is here refused.refuses
