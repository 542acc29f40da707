-- What became of a page that was to be lent, at a handle.
use Rattle.std.proofs.Common.{◌≡◌, ℕ, List, Option, Some, ap, sym, subst}
use Rattle.std.specs.Prelude.{Result, Ok, Err, MatchResult}
use Rattle.share_domain.specs.declared.holding.Loan.{Loan}
use Rattle.share_domain.specs.declared.fault.LendFault.{LendFault}
use Rattle.share_domain.specs.Domains.{LendsIn, RefusesIn, page_machine}
use Rattle.pageshare_c.specs.Domains.{hash_of, view_of, with_view}
use Rattle.pageshare_c.specs.Leases.{Becomes, LendsAt, loan_of}
use Rattle.pageshare_c.specs.declared.hashed_domain.HashedDomain.{HashedDomain}
use Rattle.pageshare_c.specs.declared.hosted.Hosted.{Hosted}
use Rattle.pageshare_c.specs.declared.hosted.Hosted.TheVariants.{Made}
use Rattle.pageshare_c.specs.declared.hosted.MadeDomain.{MadeDomain}
use Rattle.pageshare_c.specs.declared.loan.DomainLoan.{DomainLoan}

-- the domain lent the page or refused it, and is by the same hash as before
pub lent_at : (client : ℕ) (page : List ℕ) (loan_given : DomainLoan) (result : Result Loan LendFault) (old : Hosted) (m : MadeDomain) (d : HashedDomain) → old ≡ Made m → loan_given ≡ loan_of (Some result)
    → MatchResult result (λ loan. LendsIn (page_machine (hash_of m.domain) (view_of m.domain) page) client page loan (view_of m.domain) (view_of d))
    (λ fault. RefusesIn (page_machine (hash_of m.domain) (view_of m.domain) page) client fault (view_of m.domain) × (d ≡ m.domain))
    → d ≡ with_view (view_of d) m.domain → LendsAt client page loan_given (Some old) (Some (Made (record { domain = d; recent = m.recent })))
lent_at client page loan_given result old m d is says lends same =
    subst (λ (h : Hosted). LendsAt client page loan_given (Some h) (Some (Made (record { domain = d; recent = m.recent })))) (sym is)
    (record { became = Some result; says = says; lends = go result lends }) where
      go : (r : Result Loan LendFault) → MatchResult r (λ loan. LendsIn (page_machine (hash_of m.domain) (view_of m.domain) page) client page loan (view_of m.domain) (view_of d))
          (λ fault. RefusesIn (page_machine (hash_of m.domain) (view_of m.domain) page) client fault (view_of m.domain) × (d ≡ m.domain))
          → Becomes client page r m (record { domain = d; recent = m.recent })
      go (Ok loan) l = (l, ap (λ (x : HashedDomain). record { domain = x; recent = m.recent }) same)
      go (Err fault) l = (l.0, ap (λ (x : HashedDomain). record { domain = x; recent = m.recent }) l.1)
