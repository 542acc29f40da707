-- A core, by the hash that its machine was made with: what it shows, and the hash.
use Rattle.std.specs.Prelude.{◌≡◌, ℕ, List}
use Rattle.page_digest.specs.Hashes.{sha256_hash, fold_hash}
use Rattle.merge_core.specs.Shown.{Shown}
use Rattle.pageshare_c.specs.declared.hashed_core.HashedCore.{HashedCore}
use Rattle.pageshare_c.specs.declared.hashed_core.HashedCore.TheVariants.{Sha256, Fold, WideSha256}

abbrev pub shown_in : HashedCore → Shown
shown_in (Sha256 c) = c
shown_in (Fold c) = c
shown_in (WideSha256 c) = c

abbrev pub hash_in : HashedCore → ℕ → List ℕ → ℕ
hash_in (Sha256 c) = sha256_hash
hash_in (Fold c) = fold_hash
hash_in (WideSha256 c) = sha256_hash

-- the number by which C names the hash
abbrev pub hash_number : HashedCore → ℕ
hash_number (Sha256 c) = 0
hash_number (Fold c) = 1
hash_number (WideSha256 c) = 2

-- both have one hash
abbrev pub SameHash : HashedCore → HashedCore → Type 0
SameHash old new = hash_number new ≡ hash_number old

-- the core with other things to show
abbrev pub with_shown : (Shown → Shown) → HashedCore → HashedCore
with_shown f (Sha256 c) = Sha256 (f c)
with_shown f (Fold c) = Fold (f c)
with_shown f (WideSha256 c) = WideSha256 (f c)
