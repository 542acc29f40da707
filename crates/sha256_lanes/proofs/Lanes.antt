-- What holds in each lane of a vector, and for each message.
use Rattle.std.proofs.Common.{◌≡◌, ℕ, zero, suc, ◌+◌, ◌<◌, ◌≤◌, ◌-◌, ◌*◌, ◌/◌, ◌%◌, ◌^◌, List, [], ◌∷◌, length, slice_index, slice_index_or, slice_set, bit_and, bit_or, bit_xor, Fits, w32, arith, map, refl, ap, ◌∙◌}
use Rattle.std.proofs.lemmas.List.{get_or-map, get_or-replicate, length-map, length-replicate, map-set}
use Rattle.std.proofs.lemmas.Simd.{Each1-get_or, get_or-chunk, get_or-zip2, length-zip2}
use Rattle.std.specs.Int.{rotate_right}
use Rattle.std.specs.Prelude.{replicate}
use Rattle.std.specs.Simd.Lanes.{zip2, Each1, chunk}
use Rattle.sha2.specs.Sha256.{ch, maj, round_constants}
use Rattle.sha256_lanes.proofs.Bits.{chosen, most}
use Rattle.sha256_lanes.specs.Lanes.{lane}

-- from four lanes to each of them
pub in_each : (P : ℕ → Type 0) → P 0 → P 1 → P 2 → P 3 → (j : ℕ) → j < 4 → P j
in_each P p0 p1 p2 p3 zero lt = p0
in_each P p0 p1 p2 p3 (suc zero) lt = p1
in_each P p0 p1 p2 p3 (suc (suc zero)) lt = p2
in_each P p0 p1 p2 p3 (suc (suc (suc zero))) lt = p3
in_each P p0 p1 p2 p3 (suc (suc (suc (suc n)))) lt = absurd (omega arith)

-- from vectors that are written out to all vectors
pub of_four : (P : List ℕ → Type 0) → ((a b c d : ℕ) → P (a ∷ b ∷ c ∷ d ∷ [])) → (x : List ℕ) → length x ≡ 4 → P x
of_four P p (a ∷ b ∷ c ∷ d ∷ []) len = p a b c d
of_four P p [] len = absurd (omega arith)
of_four P p (a ∷ []) len = absurd (omega arith)
of_four P p (a ∷ b ∷ []) len = absurd (omega arith)
of_four P p (a ∷ b ∷ c ∷ []) len = absurd (omega arith)
of_four P p (a ∷ b ∷ c ∷ d ∷ e ∷ x) len = absurd (omega arith)

-- an operation on two vectors
both : (n : ℕ) (f : ℕ → ℕ → ℕ) (x y : List ℕ) (j : ℕ) → length x ≡ n → length y ≡ n → j < n → slice_index (zip2 f x y) j ≡ f (slice_index x j) (slice_index y j)
both n f x y j lx ly lt = get_or-zip2 f x y j 0 0 0 (omega (arith, lx)) (omega (arith, ly))

again : (n : ℕ) (f : ℕ → ℕ → ℕ) (x y : List ℕ) → length x ≡ n → length y ≡ n → length (zip2 f x y) ≡ n
again n f x y lx ly = omega (arith, length-zip2 f x y (omega (arith, lx, ly)), lx)

-- an operation on a vector and one number
with_one : (n : ℕ) (f : ℕ → ℕ → ℕ) (x : List ℕ) (k j : ℕ) → length x ≡ n → j < n → slice_index (zip2 f x (replicate n k)) j ≡ f (slice_index x j) k
with_one n f x k j lx lt = both n f x (replicate n k) j lx (length-replicate n k) lt ∙ ap (f (slice_index x j)) (get_or-replicate n j k 0 lt)

pub shifts_right : (n k : ℕ) (x : List ℕ) → length x ≡ n → (j : ℕ) → j < n → slice_index (zip2 (λ v m. v / 2 ^ m) x (replicate n k)) j ≡ slice_index x j / 2 ^ k
shifts_right n k x lx j lt = with_one n (λ v m. v / 2 ^ m) x k j lx lt

pub rotates_right : (n k : ℕ) (x : List ℕ) → 0 < k → k < 32 → length x ≡ n → (j : ℕ) → j < n
    → slice_index (zip2 bit_or (zip2 (λ v m. v / 2 ^ m) x (replicate n k)) (zip2 (λ v m. v * 2 ^ m % 2 ^ 32) x (replicate n (32 - k)))) j
    ≡ rotate_right w32 (slice_index x j) k
rotates_right n k x some few lx j lt =
    let by : k % 32 ≡ k = omega arith in
    let back : (32 - k) % 32 ≡ 32 - k = omega arith in
    let down = zip2 (λ v m. v / 2 ^ m) x (replicate n k) in
    let up = zip2 (λ v m. v * 2 ^ m % 2 ^ 32) x (replicate n (32 - k)) in
    rw (
      both n bit_or down up j (again n _ x (replicate n k) lx (length-replicate n k)) (again n _ x (replicate n (32 - k)) lx (length-replicate n (32 - k))) lt,
      with_one n (λ v m. v / 2 ^ m) x k j lx lt,
      with_one n (λ v m. v * 2 ^ m % 2 ^ 32) x (32 - k) j lx lt,
      by,
      back,
    ) refl

lane_lt : (n : ℕ) (x : List ℕ) (j : ℕ) → length x ≡ n → Each1 (Fits w32) x → j < n → slice_index x j < 2 ^ 32
lane_lt n x j len fit lt = (Each1-get_or (Fits w32) x j 0 (omega (arith, len)) fit).fits

module _ (n : ℕ) (x y z : List ℕ) (lx : length x ≡ n) (ly : length y ≡ n) (lz : length z ≡ n) where
  pub chooses : Each1 (Fits w32) x → Each1 (Fits w32) y → Each1 (Fits w32) z
      → (j : ℕ) → j < n → slice_index (zip2 bit_xor z (zip2 bit_and x (zip2 bit_xor y z))) j ≡ ch (slice_index x j) (slice_index y j) (slice_index z j)
  chooses fx fy fz j lt =
      let differ = zip2 bit_xor y z in
      let ld : length differ ≡ n = again n bit_xor y z ly lz in
      rw (both n bit_xor z (zip2 bit_and x differ) j lz (again n bit_and x differ lx ld) lt, both n bit_and x differ j lx ld lt, both n bit_xor y z j ly lz lt)
      (chosen (slice_index x j) (slice_index y j) (slice_index z j) (lane_lt n x j lx fx lt) (lane_lt n y j ly fy lt) (lane_lt n z j lz fz lt))

  pub has_most : (j : ℕ) → j < n → slice_index (zip2 bit_xor y (zip2 bit_and (zip2 bit_xor x y) (zip2 bit_xor y z))) j ≡ maj (slice_index x j) (slice_index y j) (slice_index z j)
  has_most j lt =
      let before = zip2 bit_xor x y in
      let after = zip2 bit_xor y z in
      let lb : length before ≡ n = again n bit_xor x y lx ly in
      let la : length after ≡ n = again n bit_xor y z ly lz in
      rw (both n bit_xor y (zip2 bit_and before after) j ly (again n bit_and before after lb la) lt, both n bit_and before after j lb la lt, both n bit_xor x y j lx ly lt, both n bit_xor y z j ly lz lt)
      (most (slice_index x j) (slice_index y j) (slice_index z j))

-- the first n of eight equal numbers
pub constant_lane : (n t j : ℕ) → n ≤ 8 → t < 64 → j < n
    → slice_index (chunk 0 n (slice_index_or (map (λ (k : ℕ). replicate 8 k) round_constants) t [])) j ≡ slice_index round_constants t
constant_lane n t j few high lt =
    let table = map (λ (k : ℕ). replicate 8 k) round_constants in
    let here : 0 + j ≡ j = omega arith in
    get_or-chunk 0 n (slice_index_or table t []) j 0 lt ∙ ap (slice_index (slice_index_or table t [])) here
    ∙ ap (λ (v : List ℕ). slice_index v j) (get_or-map (λ (k : ℕ). replicate 8 k) round_constants t 0 [] high)
    ∙ get_or-replicate 8 j (slice_index round_constants t) 0 (omega arith)

module _ {V : Type 0} (word : V → ℕ → ℕ) where
  -- word k of message j
  pub word_of : (j k : ℕ) (x : List V) (d : V) → k < length x → slice_index (lane word j x) k ≡ word (slice_index_or x k d) j
  word_of j k x d lt = get_or-map (λ v. word v j) x k d 0 lt

  -- a vector that is written puts a word into each message's
  pub lane_set : (j t : ℕ) (x : List V) (v : V) → lane word j (slice_set x t v) ≡ slice_set (lane word j x) t (word v j)
  lane_set j t x v = map-set (λ u. word u j) x t v

  pub length-lane : (j : ℕ) (x : List V) → length (lane word j x) ≡ length x
  length-lane j x = length-map x (λ v. word v j)

-- word k of message j, in vectors that are lists of numbers
pub word_in : (j k : ℕ) (x : List (List ℕ)) → slice_index (slice_index_or x k []) j ≡ slice_index (lane slice_index j x) k
word_in j k [] = refl
word_in j zero (v ∷ x) = refl
word_in j (suc k) (v ∷ x) = word_in j k x
