-- A domain, by the hash that it was made with: what it shows, and the hash.
use Rattle.std.specs.Prelude.{ℕ, zero, suc, List}
use Rattle.page_digest.specs.Hashes.{sha256_hash, fold_hash}
use Rattle.share_domain.specs.Domains.{DomainView}
use Rattle.pageshare_c.specs.declared.hashed_domain.HashedDomain.{HashedDomain}
use Rattle.pageshare_c.specs.declared.hashed_domain.HashedDomain.TheVariants.{Sha256, Fold, WideSha256}

abbrev pub view_of : HashedDomain → DomainView
view_of (Sha256 d) = d
view_of (Fold d) = d
view_of (WideSha256 d) = d

abbrev pub hash_of : HashedDomain → ℕ → List ℕ → ℕ
hash_of (Sha256 d) = sha256_hash
hash_of (Fold d) = fold_hash
hash_of (WideSha256 d) = sha256_hash

-- the number by which C names the hash
abbrev pub number_of : HashedDomain → ℕ
number_of (Sha256 d) = 0
number_of (Fold d) = 1
number_of (WideSha256 d) = 2

-- the domain whose hash has this number
abbrev pub domain_by : ℕ → DomainView → HashedDomain
domain_by zero d = Sha256 d
domain_by (suc zero) d = Fold d
domain_by (suc (suc n)) d = WideSha256 d

-- the domain by the same hash that shows this
abbrev pub with_view : DomainView → HashedDomain → HashedDomain
with_view view (Sha256 d) = Sha256 view
with_view view (Fold d) = Fold view
with_view view (WideSha256 d) = WideSha256 view
