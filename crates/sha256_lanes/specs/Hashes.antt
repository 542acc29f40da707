-- The hash of a message that is already padded.
use Rattle.std.specs.Prelude.{ℕ, ◌*◌, ◌/◌, List, length, take, drop}
use Rattle.std.specs.Int.{w64, w128, from_be_bytes}
use Rattle.sha2.specs.Sha256.{digest_bytes, hash_after, initial_hash_256}

-- the block that has n blocks before it
abbrev pub block_at : List ℕ → ℕ → List ℕ
block_at padded n = take 64 (drop (n * 64) padded)

-- the message's hash value after all of its blocks
abbrev pub hash_value : List ℕ → List ℕ
hash_value padded = hash_after initial_hash_256 padded (length padded / 64)

-- the first eight bytes of the message's digest, read big-endian
unfoldable pub leading_number : List ℕ → ℕ
leading_number padded = from_be_bytes w64 (take 8 (digest_bytes (hash_value padded) 8))

-- the first sixteen bytes of the message's digest, read big-endian
unfoldable pub leading_digest : List ℕ → ℕ
leading_digest padded = from_be_bytes w128 (take 16 (digest_bytes (hash_value padded) 8))
