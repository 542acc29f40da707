-- The stated functions of the hash types: each a function of a salt and the bytes of a page.
use Rattle.std.specs.Prelude.{ℕ, ◌+◌, ◌*◌, ◌^◌, ◌==◌, if◌then◌else◌, List, [], ◌∷◌, ◌++◌, take, slice_index, slice_index_or}
use Rattle.std.specs.Hash.{le_bytes}
use Rattle.std.specs.Hash.FoldHasher.{initial, write, finish}
use Rattle.std.specs.Int.{w32, w64, w128, from_be_bytes, to_be_bytes}
use Rattle.sha2.specs.Sha256.{sha256}

-- the message that is digested: the page alone under salt 0, and otherwise the salt's four big-endian bytes and the page
abbrev pub salted : ℕ → List ℕ → List ℕ
salted salt page = if salt == 0 then page else to_be_bytes w32 salt ++ page

-- the first eight bytes of the message's SHA-256 digest (FIPS 180-4), read big-endian
unfoldable pub sha256_hash : ℕ → List ℕ → ℕ
sha256_hash salt page = from_be_bytes w64 (take 8 (sha256 (salted salt page)))

-- the first sixteen bytes of the message's SHA-256 digest, read big-endian
unfoldable pub content_digest : ℕ → List ℕ → ℕ
content_digest salt page = from_be_bytes w128 (take 16 (sha256 (salted salt page)))

-- the result of std's fast hasher that was fed the salt's four bytes, the lowest first, and then the page
abbrev pub fold_hash : ℕ → List ℕ → ℕ
fold_hash salt page = finish (write (write initial (le_bytes 4 salt)) page)

-- byte 0
abbrev pub first_byte_hash : ℕ → List ℕ → ℕ
first_byte_hash salt page = slice_index page 0

-- byte 0 above byte 1, which has the low 32 bits
abbrev pub two_byte_hash : ℕ → List ℕ → ℕ
two_byte_hash salt page = slice_index page 0 * 2 ^ 32 + slice_index page 1

-- the hashes of four pages, each under the salt at its place
abbrev pub four_hashes : (ℕ → List ℕ → ℕ) → List ℕ → List ℕ → List ℕ → List ℕ → List ℕ → List ℕ
four_hashes hash salts a b c d =
    hash (slice_index salts 0) a ∷ hash (slice_index salts 1) b ∷ hash (slice_index salts 2) c ∷ hash (slice_index salts 3) d ∷ []

-- the hashes of eight pages, each under the salt at its place
abbrev pub eight_hashes : (ℕ → List ℕ → ℕ) → List ℕ → List (List ℕ) → List ℕ
eight_hashes hash salts pages =
    let at = λ (n : ℕ). hash (slice_index salts n) (slice_index_or pages n []) in
    at 0 ∷ at 1 ∷ at 2 ∷ at 3 ∷ at 4 ∷ at 5 ∷ at 6 ∷ at 7 ∷ []
