-- A padded message by its blocks, and its hash value by theirs.
use Rattle.std.proofs.Common.{◌≡◌, ℕ, suc, ◌+◌, ◌-◌, ◌*◌, ◌/◌, ◌^◌, ◌<◌, ◌≤◌, List, [], ◌∷◌, ◌++◌, length, map, take, drop, slice_index, slice_index_or, refl, sym, ap, ◌∙◌, arith, mod-lt, pow_pos, length-append, length-drop}
use Rattle.std.proofs.lemmas.List.{append_assoc, drop-append-le, drop-drop, drop_at, get_or_default, take-append-le, take_all, take_at}
use Rattle.std.specs.Int.{w64, w128, from_be_bytes}
use Rattle.sha2.specs.Sha256.{compress, digest_bytes, hash_after, initial_hash_256}
use Rattle.sha2.proofs.Absorbing256.{hash_after_next}
use Rattle.sha256_lanes.specs.Hashes.{block_at, hash_value, leading_number, leading_digest}
use Rattle.sha256_lanes.specs.Lanes.{one_of, four_words_of}
use Rattle.sha256_lanes.proofs.Lanes.{in_each}

module _ (first middle last : List ℕ) (lf : length first ≡ 64) (ll : length last ≡ 64) where
  pub length_whole : length (first ++ middle ++ last) ≡ 128 + length middle
  length_whole = omega (arith, length-append (first ++ middle) last, length-append first middle)

  pub first_of : take 64 (first ++ middle ++ last) ≡ first
  first_of = rw (append_assoc first middle last) (take_at first (middle ++ last) 64 lf)

  -- what follows the first block
  past_first : (k : ℕ) → drop (64 + k) (first ++ middle ++ last) ≡ drop k (middle ++ last)
  past_first k = rw (append_assoc first middle last) (sym (drop-drop k 64 (first ++ (middle ++ last))) ∙ ap (drop k) (drop_at first (middle ++ last) 64 lf))

  pub middle_of : (n : ℕ) → 64 * n + 64 ≤ length middle → take 64 (drop ((n + 1) * 64) (first ++ middle ++ last)) ≡ take 64 (drop (64 * n) middle)
  middle_of n fits =
      let at : (n + 1) * 64 ≡ 64 + 64 * n = omega arith in
      let within : drop (64 * n) (middle ++ last) ≡ drop (64 * n) middle ++ last = drop-append-le (64 * n) middle last (omega arith) in
      let long : 64 ≤ length (drop (64 * n) middle) = omega (arith, length-drop (64 * n) middle) in
      rw (at, past_first (64 * n), within) (take-append-le 64 (drop (64 * n) middle) last long)

  pub last_of : take 64 (drop (length (first ++ middle ++ last) - 64) (first ++ middle ++ last)) ≡ last
  last_of =
      let at : length (first ++ middle ++ last) - 64 ≡ 64 + length middle = omega (arith, length_whole) in
      rw (at, past_first (length middle), drop_at middle last (length middle) refl) (take_all 64 last (omega arith))

-- one more block
pub block_taken : (padded : List ℕ) (n : ℕ) (before after block : List ℕ) → before ≡ hash_after initial_hash_256 padded n
    → block ≡ take 64 (drop (n * 64) padded) → after ≡ compress before block → after ≡ hash_after initial_hash_256 padded (n + 1)
block_taken padded n before after block eb ek ea = ea ∙ rw (eb, ek) refl ∙ sym (hash_after_next initial_hash_256 padded n)

-- no block yet
pub none_taken : (padded before : List ℕ) → before ≡ initial_hash_256 → before ≡ hash_after initial_hash_256 padded 0
unfolding hash_after
none_taken padded before eb = eb

compress-lt : (h b : List ℕ) (i : ℕ) → i < 4 → slice_index (compress h b) i < 2 ^ 32
unfolding compress
compress-lt h b = in_each (λ i. slice_index (compress h b) i < 2 ^ 32) (mod-lt _ (pow_pos 32)) (mod-lt _ (pow_pos 32)) (mod-lt _ (pow_pos 32)) (mod-lt _ (pow_pos 32))

-- each of the first words of a message's hash value has 32 bits
value-lt : (padded : List ℕ) → 64 ≤ length padded → (i : ℕ) → i < 4 → slice_index (hash_value padded) i < 2 ^ 32
value-lt padded some i lt =
    let n = length padded / 64 - 1 in
    let blocks : length padded / 64 ≡ n + 1 = omega (arith, some) in
    let end : hash_value padded ≡ compress (hash_after initial_hash_256 padded n) (take 64 (drop (n * 64) padded)) =
    ap (hash_after initial_hash_256 padded) blocks ∙ hash_after_next initial_hash_256 padded n in
    rw end (compress-lt _ _ i lt)

-- the first eight bytes are the first two words
two_words : (h : List ℕ) → slice_index h 0 < 2 ^ 32 → slice_index h 1 < 2 ^ 32
    → from_be_bytes w64 (take 8 (digest_bytes h 8)) ≡ slice_index h 0 * 2 ^ 32 + slice_index h 1
unfolding digest_bytes
two_words h high low = omega arith

-- the first sixteen bytes are the first four words
four_words : (h : List ℕ) → slice_index h 0 < 2 ^ 32 → slice_index h 1 < 2 ^ 32 → slice_index h 2 < 2 ^ 32 → slice_index h 3 < 2 ^ 32
    → from_be_bytes w128 (take 16 (digest_bytes h 8)) ≡ four_words_of h
unfolding digest_bytes
four_words h one two three four = omega arith

-- the number of a message from its hash value
pub number_is : (padded hash : List ℕ) (number : ℕ) → 64 ≤ length padded → hash ≡ hash_value padded
    → number ≡ slice_index hash 0 * 2 ^ 32 + slice_index hash 1 → number ≡ leading_number padded
unfolding leading_number
number_is padded hash number some eh en =
    let small = value-lt padded some in
    en ∙ rw eh (sym (two_words (hash_value padded) (small 0 (omega arith)) (small 1 (omega arith))))

-- and its digest
pub digest_is : (padded hash : List ℕ) (number : ℕ) → 64 ≤ length padded → hash ≡ hash_value padded
    → number ≡ four_words_of hash → number ≡ leading_digest padded
unfolding leading_digest
digest_is padded hash number some eh en =
    let small = value-lt padded some in
    en ∙ rw eh (sym (four_words (hash_value padded) (small 0 (omega arith)) (small 1 (omega arith)) (small 2 (omega arith)) (small 3 (omega arith))))

-- the blocks that four messages in a row have at one place
pub blocks_from : (messages : List (List ℕ)) (n from : ℕ) (e f g h x y z w : List ℕ) → from + 4 ≤ length messages
    → x ≡ block_at (slice_index_or messages from e) n → y ≡ block_at (slice_index_or messages (from + 1) f) n
    → z ≡ block_at (slice_index_or messages (from + 2) g) n → w ≡ block_at (slice_index_or messages (from + 3) h) n
    → (j : ℕ) → j < 4 → one_of j x y z w ≡ block_at (slice_index_or messages (from + j) []) n
blocks_from messages n from e f g h x y z w within ex ey ez ew =
    let first : from + 0 ≡ from = omega arith in
    in_each (λ j. one_of j x y z w ≡ block_at (slice_index_or messages (from + j) []) n)
    (rw first (ex ∙ ap (λ message. block_at message n) (get_or_default messages from e [] (omega (arith, within)))))
    (ey ∙ ap (λ message. block_at message n) (get_or_default messages (from + 1) f [] (omega (arith, within))))
    (ez ∙ ap (λ message. block_at message n) (get_or_default messages (from + 2) g [] (omega (arith, within))))
    (ew ∙ ap (λ message. block_at message n) (get_or_default messages (from + 3) h [] (omega (arith, within))))

-- the blocks that four messages have at one place
pub blocks_of : (at : List ℕ → List ℕ) (a b c d x y z w : List ℕ) → x ≡ at a → y ≡ at b → z ≡ at c → w ≡ at d
    → (j : ℕ) → j < 4 → one_of j x y z w ≡ at (one_of j a b c d)
blocks_of at a b c d x y z w ex ey ez ew = in_each (λ j. one_of j x y z w ≡ at (one_of j a b c d)) ex ey ez ew

-- what four messages of one length have in common with the first
pub each_long : (n : ℕ) (a b c d : List ℕ) → length a ≡ n → length b ≡ length a → length c ≡ length a → length d ≡ length a
    → (j : ℕ) → j < 4 → length (one_of j a b c d) ≡ n
each_long n a b c d la lb lc ld = in_each (λ j. length (one_of j a b c d) ≡ n) la (omega (arith, la, lb)) (omega (arith, la, lc)) (omega (arith, la, ld))

-- the numbers of four messages from the number of each
pub four_of : (f : List ℕ → ℕ) (a b c d numbers : List ℕ) → length numbers ≡ 4 → ((j : ℕ) → j < 4 → slice_index numbers j ≡ f (one_of j a b c d))
    → numbers ≡ f a ∷ f b ∷ f c ∷ f d ∷ []
four_of f a b c d [] four each = absurd (omega arith)
four_of f a b c d (p ∷ []) four each = absurd (omega arith)
four_of f a b c d (p ∷ q ∷ []) four each = absurd (omega arith)
four_of f a b c d (p ∷ q ∷ r ∷ []) four each = absurd (omega arith)
four_of f a b c d (p ∷ q ∷ r ∷ s ∷ t ∷ more) four each = absurd (omega arith)
four_of f a b c d (p ∷ q ∷ r ∷ s ∷ []) four each = rw (each 0 (omega arith), each 1 (omega arith), each 2 (omega arith), each 3 (omega arith)) refl

-- the numbers of all messages from the number of each
pub all_of : (f : List ℕ → ℕ) (messages : List (List ℕ)) (numbers : List ℕ) → length numbers ≡ length messages
    → ((j : ℕ) → j < length messages → slice_index numbers j ≡ f (slice_index_or messages j [])) → numbers ≡ map f messages
all_of f [] [] same each = refl
all_of f [] (p ∷ numbers) same each = absurd (omega arith)
all_of f (m ∷ messages) [] same each = absurd (omega arith)
all_of f (m ∷ messages) (p ∷ numbers) same each =
    rw (each 0 (omega arith)) (ap (λ rest. f m ∷ rest) (all_of f messages numbers (omega (arith, same)) (λ j lt. each (suc j) (omega (arith, lt)))))
