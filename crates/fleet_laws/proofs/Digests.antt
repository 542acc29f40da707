-- A digest has 128 bits.
use Rattle.std.proofs.Common.{ℕ, zero, suc, ◌<◌, ◌^◌, List, [], ◌∷◌, take, arith}
use Rattle.std.proofs.lemmas.List.Elements.{All-append, All-cons, All-head, All-nil, All-tail, All-take}
use Rattle.std.specs.Int.{byte_at, from_be_bytes, to_be_bytes, w32, w128}
use Rattle.std.specs.Prelude.{All, slice_index}
use Rattle.sha2.specs.Sha256.{digest_bytes, final_hash, initial_hash_256, sha256}
use Rattle.page_digest.specs.Hashes.{content_digest, salted}

abbrev IsByte : ℕ → Type 0
IsByte b = b < 256

byte_low : (i n : ℕ) → byte_at i n < 256
byte_low zero n = omega arith
byte_low (suc i) n = omega arith

word_low : (n : ℕ) → All IsByte (to_be_bytes w32 n)
word_low n =
    All-cons IsByte (byte_at 3 n) (byte_at 2 n ∷ byte_at 1 n ∷ byte_at 0 n ∷ []) (byte_low 3 n) (
    All-cons IsByte (byte_at 2 n) (byte_at 1 n ∷ byte_at 0 n ∷ []) (byte_low 2 n) (
    All-cons IsByte (byte_at 1 n) (byte_at 0 n ∷ []) (byte_low 1 n) (
    All-cons IsByte (byte_at 0 n) [] (byte_low 0 n) (All-nil IsByte))))

bytes_low : (h : List ℕ) (n : ℕ) → All IsByte (digest_bytes h n)
unfolding digest_bytes
bytes_low h zero = All-nil IsByte
bytes_low h (suc n) = All-append IsByte (digest_bytes h n) (to_be_bytes w32 (slice_index h n)) (bytes_low h n) (word_low (slice_index h n))

-- what bytes hold of a number of 128 bits
number_low : (bytes : List ℕ) → ((i : ℕ) → slice_index bytes i < 256) → from_be_bytes w128 bytes < 2 ^ 128
number_low bytes low = omega (arith, low 0, low 1, low 2, low 3, low 4, low 5, low 6, low 7, low 8, low 9, low 10, low 11, low 12, low 13, low 14, low 15)

each_low : (bytes : List ℕ) → All IsByte bytes → (i : ℕ) → slice_index bytes i < 256
each_low [] low i = omega arith
each_low (b ∷ bytes) low zero = All-head IsByte b bytes low
each_low (b ∷ bytes) low (suc i) = each_low bytes (All-tail IsByte b bytes low) i

pub digest_low : (salt : ℕ) (page : List ℕ) → content_digest salt page < 2 ^ 128
unfolding content_digest sha256
digest_low salt page =
    let hash = final_hash initial_hash_256 (salted salt page) in
    number_low (take 16 (digest_bytes hash 8)) (each_low (take 16 (digest_bytes hash 8)) (All-take IsByte 16 (digest_bytes hash 8) (bytes_low hash 8)))
