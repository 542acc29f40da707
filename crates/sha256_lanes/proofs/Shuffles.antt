-- What stands where after bytes and lanes have moved.
use Rattle.std.proofs.Common.{◌≡◌, ℕ, ◌+◌, ◌*◌, ◌/◌, ◌%◌, ◌<◌, List, [], ◌∷◌, ◌++◌, length, slice_index, slice_index_or, Fits, w8, refl, ◌∙◌, arith}
use Rattle.std.proofs.lemmas.List.{get_or-append-add, get_or_append_left}
use Rattle.std.proofs.lemmas.Simd.{Each1-get_or}
use Rattle.std.specs.Simd.Lanes.{Each1}
use Rattle.sha2.specs.Sha256.{word_at}
use Rattle.sha256_lanes.proofs.Lanes.{in_each, of_four}
use Rattle.sha256_lanes.specs.Lanes.{lane, one_of}

-- ---- words of sixteen bytes

-- a word's four bytes, the highest first, below whatever stands above them
abbrev above : (ℕ → ℕ) → ℕ → ℕ → ℕ
above byte i rest = byte (i + 3) + 256 * (byte (i + 2) + 256 * (byte (i + 1) + 256 * (byte i + 256 * rest)))

abbrev word : (ℕ → ℕ) → ℕ → ℕ
word byte i = byte i * 16777216 + byte (i + 1) * 65536 + byte (i + 2) * 256 + byte (i + 3)

-- four words
abbrev all : (ℕ → ℕ) → ℕ
all byte = above byte 0 (above byte 4 (above byte 8 (above byte 12 0)))

-- a number's four words, the lowest first
abbrev parts : ℕ → List ℕ
parts n = n % 4294967296 ∷ n / 4294967296 % 4294967296 ∷ n / 4294967296 / 4294967296 % 4294967296 ∷ n / 4294967296 / 4294967296 / 4294967296 % 4294967296 ∷ []

module _ (byte : ℕ → ℕ) (small : (i : ℕ) → i < 16 → byte i < 256) where
  parted : (i rest : ℕ) → i + 3 < 16 → (above byte i rest % 4294967296 ≡ word byte i) × (above byte i rest / 4294967296 ≡ rest)
  parted i rest lt =
      let b0 = small i (omega arith) in
      let b1 = small (i + 1) (omega arith) in
      let b2 = small (i + 2) (omega arith) in
      let b3 = small (i + 3) lt in
      (omega (arith, b0, b1, b2, b3), omega (arith, b0, b1, b2, b3))

  four_words : (k : ℕ) → k < 4 → slice_index (parts (all byte)) k ≡ word byte (4 * k)
  four_words =
      let p = parted 0 _ (omega arith) in
      let q = parted 4 _ (omega arith) in
      let r = parted 8 _ (omega arith) in
      let s = parted 12 0 (omega arith) in
      in_each _ p.0 (rw p.1 q.0) (rw (p.1, q.1) r.0) (rw (p.1, q.1, r.1) s.0)

-- a vector of bytes, read as words: a swizzle takes its bytes from the vector twice over
module _ (bytes : List ℕ) (len : length bytes ≡ 16) (fits : Each1 (Fits w8) bytes) where
  abbrev twice : ℕ → ℕ
  twice i = slice_index_or (bytes ++ bytes) i 0

  once : (i : ℕ) → i < 16 → twice i ≡ slice_index bytes i
  once i lt = get_or_append_left bytes bytes 0 i (omega (arith, len))

  below : (i : ℕ) → i < 16 → twice i < 256
  below i lt = rw (once i lt) (Each1-get_or (Fits w8) bytes i 0 (omega (arith, len)) fits).fits

  pub words_of : (k : ℕ) → k < 4 → slice_index (parts (all twice)) k ≡ word_at bytes (4 * k)
  words_of k lt =
      four_words twice below k lt
      ∙ rw (once (4 * k) (omega arith), once (4 * k + 1) (omega arith), once (4 * k + 2) (omega arith), once (4 * k + 3) (omega arith)) refl

-- ---- four vectors by their lanes

-- lane k of a, b, c and d, where a stands before c and b before d
abbrev across : List ℕ → List ℕ → List ℕ → List ℕ → ℕ → List ℕ
across a b c d k = slice_index_or (a ++ c) k 0 ∷ slice_index_or (b ++ d) k 0 ∷ slice_index_or (a ++ c) (4 + k) 0 ∷ slice_index_or (b ++ d) (4 + k) 0 ∷ []

abbrev At : List ℕ → List ℕ → List ℕ → List ℕ → ℕ → ℕ → Type 0
At a b c d j k = slice_index (lane slice_index j (across a b c d 0 ∷ across a b c d 1 ∷ across a b c d 2 ∷ across a b c d 3 ∷ [])) k ≡ slice_index (one_of j a b c d) k

abbrev Transposed : List ℕ → List ℕ → List ℕ → List ℕ → Type 0
Transposed a b c d = (j k : ℕ) → j < 4 → k < 4 → At a b c d j k

written_out : (a0 a1 a2 a3 b0 b1 b2 b3 c0 c1 c2 c3 d0 d1 d2 d3 : ℕ)
    → Transposed (a0 ∷ a1 ∷ a2 ∷ a3 ∷ []) (b0 ∷ b1 ∷ b2 ∷ b3 ∷ []) (c0 ∷ c1 ∷ c2 ∷ c3 ∷ []) (d0 ∷ d1 ∷ d2 ∷ d3 ∷ [])
written_out a0 a1 a2 a3 b0 b1 b2 b3 c0 c1 c2 c3 d0 d1 d2 d3 j k ltj ltk =
    let P = At (a0 ∷ a1 ∷ a2 ∷ a3 ∷ []) (b0 ∷ b1 ∷ b2 ∷ b3 ∷ []) (c0 ∷ c1 ∷ c2 ∷ c3 ∷ []) (d0 ∷ d1 ∷ d2 ∷ d3 ∷ []) in
    in_each (λ n. P n k)
    (in_each (P 0) refl refl refl refl k ltk)
    (in_each (P 1) refl refl refl refl k ltk)
    (in_each (P 2) refl refl refl refl k ltk)
    (in_each (P 3) refl refl refl refl k ltk)
    j ltj

pub transposes : (a b c d : List ℕ) → length a ≡ 4 → length b ≡ 4 → length c ≡ 4 → length d ≡ 4 → Transposed a b c d
transposes a b c d la lb lc ld =
    of_four (λ x. Transposed x b c d) (λ a0 a1 a2 a3.
    of_four (λ x. Transposed (a0 ∷ a1 ∷ a2 ∷ a3 ∷ []) x c d) (λ b0 b1 b2 b3.
    of_four (λ x. Transposed (a0 ∷ a1 ∷ a2 ∷ a3 ∷ []) (b0 ∷ b1 ∷ b2 ∷ b3 ∷ []) x d) (λ c0 c1 c2 c3.
    of_four (λ x. Transposed (a0 ∷ a1 ∷ a2 ∷ a3 ∷ []) (b0 ∷ b1 ∷ b2 ∷ b3 ∷ []) (c0 ∷ c1 ∷ c2 ∷ c3 ∷ []) x)
    (written_out a0 a1 a2 a3 b0 b1 b2 b3 c0 c1 c2 c3)
    d ld) c lc) b lb) a la

-- ---- four vectors by the lanes of their halves

module _ (x y : List ℕ) (len : length x ≡ 8) where
  of_first : (k : ℕ) → k < 8 → slice_index_or (x ++ y) k 0 ≡ slice_index x k
  of_first k lt = get_or_append_left x y 0 k (omega (arith, len))

  of_second : (k : ℕ) → slice_index_or (x ++ y) (8 + k) 0 ≡ slice_index y k
  of_second k = rw (← len) (get_or-append-add x y k 0)

-- lane k of each lower half and then lane k of each upper half, where a stands before c and b before d
abbrev halves : List ℕ → List ℕ → List ℕ → List ℕ → ℕ → List ℕ
halves a b c d k =
    slice_index_or (a ++ c) k 0 ∷ slice_index_or (b ++ d) k 0 ∷ slice_index_or (a ++ c) (8 + k) 0 ∷ slice_index_or (b ++ d) (8 + k) 0
    ∷ slice_index_or (a ++ c) (4 + k) 0 ∷ slice_index_or (b ++ d) (4 + k) 0 ∷ slice_index_or (a ++ c) (12 + k) 0 ∷ slice_index_or (b ++ d) (12 + k) 0 ∷ []

module _ (a b c d : List ℕ) (la : length a ≡ 8) (lb : length b ≡ 8) where
  abbrev crossed : List (List ℕ)
  crossed = halves a b c d 0 ∷ halves a b c d 1 ∷ halves a b c d 2 ∷ halves a b c d 3 ∷ []

  pub transposes_lower : (j k : ℕ) → j < 4 → k < 4 → slice_index (lane slice_index j crossed) k ≡ slice_index (one_of j a b c d) k
  transposes_lower j k ltj ltk =
      in_each (λ n. slice_index (lane slice_index n crossed) k ≡ slice_index (one_of n a b c d) k)
      (in_each (λ n. slice_index (lane slice_index 0 crossed) n ≡ slice_index a n) (of_first a c la 0 (omega arith)) (of_first a c la 1 (omega arith)) (of_first a c la 2 (omega arith)) (of_first a c la 3 (omega arith)) k ltk)
      (in_each (λ n. slice_index (lane slice_index 1 crossed) n ≡ slice_index b n) (of_first b d lb 0 (omega arith)) (of_first b d lb 1 (omega arith)) (of_first b d lb 2 (omega arith)) (of_first b d lb 3 (omega arith)) k ltk)
      (in_each (λ n. slice_index (lane slice_index 2 crossed) n ≡ slice_index c n) (of_second a c la 0) (of_second a c la 1) (of_second a c la 2) (of_second a c la 3) k ltk)
      (in_each (λ n. slice_index (lane slice_index 3 crossed) n ≡ slice_index d n) (of_second b d lb 0) (of_second b d lb 1) (of_second b d lb 2) (of_second b d lb 3) k ltk)
      j ltj

  pub transposes_upper : (j k : ℕ) → j < 4 → k < 4 → slice_index (lane slice_index (4 + j) crossed) k ≡ slice_index (one_of j a b c d) (4 + k)
  transposes_upper j k ltj ltk =
      in_each (λ n. slice_index (lane slice_index (4 + n) crossed) k ≡ slice_index (one_of n a b c d) (4 + k))
      (in_each (λ n. slice_index (lane slice_index 4 crossed) n ≡ slice_index a (4 + n)) (of_first a c la 4 (omega arith)) (of_first a c la 5 (omega arith)) (of_first a c la 6 (omega arith)) (of_first a c la 7 (omega arith)) k ltk)
      (in_each (λ n. slice_index (lane slice_index 5 crossed) n ≡ slice_index b (4 + n)) (of_first b d lb 4 (omega arith)) (of_first b d lb 5 (omega arith)) (of_first b d lb 6 (omega arith)) (of_first b d lb 7 (omega arith)) k ltk)
      (in_each (λ n. slice_index (lane slice_index 6 crossed) n ≡ slice_index c (4 + n)) (of_second a c la 4) (of_second a c la 5) (of_second a c la 6) (of_second a c la 7) k ltk)
      (in_each (λ n. slice_index (lane slice_index 7 crossed) n ≡ slice_index d (4 + n)) (of_second b d lb 4) (of_second b d lb 5) (of_second b d lb 6) (of_second b d lb 7) k ltk)
      j ltj

-- ---- eight lanes of two vectors of four

abbrev eight : (ℕ → ℕ) → List ℕ
eight f = f 0 ∷ f 1 ∷ f 2 ∷ f 3 ∷ f 4 ∷ f 5 ∷ f 6 ∷ f 7 ∷ []

abbrev Joined : List ℕ → List ℕ → Type 0
Joined low high =
    ((j : ℕ) → j < 4 → slice_index (eight (λ k. slice_index (low ++ high) k)) j ≡ slice_index low j)
    × ((j : ℕ) → j < 4 → slice_index (eight (λ k. slice_index (low ++ high) k)) (4 + j) ≡ slice_index high j)

pub joins : (low high : List ℕ) → length low ≡ 4 → length high ≡ 4 → Joined low high
joins low high ll lh =
    of_four (λ x. Joined x high) (λ a0 a1 a2 a3.
    of_four (Joined (a0 ∷ a1 ∷ a2 ∷ a3 ∷ [])) (λ b0 b1 b2 b3. (in_each _ refl refl refl refl, in_each _ refl refl refl refl)) high lh) low ll
