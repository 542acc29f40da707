-- The words that rounds take, and what the rounds leave.
use Rattle.std.proofs.Common.{◌≡◌, ◌≢◌, ℕ, zero, suc, ◌+◌, ◌-◌, ◌*◌, ◌<◌, ◌≤◌, List, [], ◌∷◌, length, slice_index, slice_index_or, slice_set, refl, sym, ap, ◌∙◌, inl, inr, arith, add-one, length-set}
use Rattle.std.proofs.lemmas.Bool.{cases_lt}
use Rattle.std.proofs.lemmas.List.{get_or-set_other, get_or-set_same}
use Rattle.std.proofs.lemmas.Simd.{get_or-chunk}
use Rattle.std.specs.Simd.Lanes.{chunk}
use Rattle.sha2.specs.Sha256.{add32, add_state, compress, next_word, round, round_constants, rounds, schedule, word_at}
use Rattle.sha2.proofs.Schedule256.{slice_index-schedule_first, slice_index-schedule_next}
use Rattle.sha256_lanes.proofs.Lanes.{word_of}
use Rattle.sha256_lanes.specs.Lanes.{lane}
use Rattle.sha256_lanes.specs.Schedules.{Schedules}

-- ---- sums in another order than the standard's

pub first_sum : (h sigma chosen constant word : ℕ)
    → add32 (add32 (add32 (add32 h constant) word) sigma) chosen ≡ add32 (add32 (add32 (add32 h sigma) chosen) constant) word
first_sum h sigma chosen constant word = omega arith

pub word_sum : (newest seventh sigma oldest : ℕ)
    → add32 (add32 sigma (add32 oldest seventh)) newest ≡ add32 (add32 (add32 newest seventh) sigma) oldest
word_sum newest seventh sigma oldest = omega arith

-- ---- rounds

-- no round yet
pub no_round : (start words : List ℕ) → start ≡ rounds start words 0
unfolding rounds
no_round start words = refl

-- one round more
pub one_round : (start words : List ℕ) (t : ℕ) (before after : List ℕ) (constant word : ℕ) → before ≡ rounds start words t
    → constant ≡ slice_index round_constants t → word ≡ slice_index words t → after ≡ round before constant word
    → after ≡ rounds start words (t + 1)
unfolding rounds
one_round start words t before after constant word eb ec ew ea = rw add-one (ea ∙ rw (eb, ec, ew) refl)

-- rounds look at no word past those that they take
pub same_rounds : (start v w : List ℕ) (n : ℕ) → ((t : ℕ) → t < n → slice_index v t ≡ slice_index w t) → rounds start v n ≡ rounds start w n
unfolding rounds
same_rounds start v w zero same = refl
same_rounds start v w (suc n) same =
    rw (same_rounds start v w n (λ t lt. same t (omega arith)), same n (omega arith)) refl

-- the whole of a block
pub whole_block : (start words block after : List ℕ) → ((t : ℕ) → t < 64 → slice_index words t ≡ slice_index (schedule block 48) t)
    → after ≡ add_state start (rounds start words 64) → after ≡ compress start block
unfolding compress
whole_block start words block after same e = e ∙ ap (add_state start) (same_rounds start words (schedule block 48) 64 same)

-- ---- the schedule

-- a word that is read from the 16 bytes that stand in a block from one place on
pub word_within : (block : List ℕ) (at k : ℕ) → k < 4 → word_at (chunk at 16 block) (4 * k) ≡ word_at block (at + 4 * k)
word_within block at k lt =
    let byte : (i : ℕ) → i < 4 → slice_index (chunk at 16 block) (4 * k + i) ≡ slice_index block (at + 4 * k + i) =
    λ i few.
    let place : at + (4 * k + i) ≡ at + 4 * k + i = omega arith in
    get_or-chunk at 16 block (4 * k + i) 0 (omega arith) ∙ ap (slice_index block) place in
    rw (get_or-chunk at 16 block (4 * k) 0 (omega arith), byte 1 (omega arith), byte 2 (omega arith), byte 3 (omega arith)) refl

-- a further word of the schedule
pub word_put : (words block : List ℕ) (t word : ℕ) → t < length words → Schedules words block t
    → word ≡ slice_index (schedule block 48) t → Schedules (slice_set words t word) block (t + 1)
word_put words block t word fits so_far is k lt = elim (cases_lt k t) [
  | inl before ↦
      let other : k ≢ t = omega arith in
      get_or-set_other words t k word 0 other ∙ so_far k before
  | inr last ↦
      let same : t ≡ k = omega arith in
      rw (← same) (get_or-set_same words t word 0 fits ∙ is)
]

-- four further words
pub four_put : (words block : List ℕ) (t v w x y : ℕ) → t + 4 ≤ length words → Schedules words block t
    → v ≡ slice_index (schedule block 48) t → w ≡ slice_index (schedule block 48) (t + 1)
    → x ≡ slice_index (schedule block 48) (t + 2) → y ≡ slice_index (schedule block 48) (t + 3)
    → Schedules (slice_set (slice_set (slice_set (slice_set words t v) (t + 1) w) (t + 2) x) (t + 3) y) block (t + 4)
four_put words block t v w x y room so_far ev ew ex ey =
    let with_v = slice_set words t v in
    let with_w = slice_set with_v (t + 1) w in
    let with_x = slice_set with_w (t + 2) x in
    let room_v : length with_v ≡ length words = length-set words t v in
    let room_w : length with_w ≡ length words = length-set with_v (t + 1) w ∙ room_v in
    let room_x : length with_x ≡ length words = length-set with_w (t + 2) x ∙ room_w in
    let one = word_put words block t v (omega arith) so_far ev in
    let two = word_put with_v block (t + 1) w (omega (arith, room_v)) one ew in
    let three = word_put with_w block (t + 2) x (omega (arith, room_w)) (λ k upto. two k (omega arith)) ex in
    λ k upto. word_put with_x block (t + 3) y (omega (arith, room_x)) (λ n before. three n (omega arith)) ey k (omega arith)

-- the first 16 words are the block's own
pub own_word : (block : List ℕ) (t word : ℕ) → t < 16 → word ≡ word_at block (4 * t) → word ≡ slice_index (schedule block 48) t
own_word block t word few is = is ∙ sym (slice_index-schedule_first block 48 t few)

-- each other word follows from four before it
pub later_word : (words block : List ℕ) (t word : ℕ) → 16 ≤ t → t < 64 → Schedules words block t
    → word ≡ next_word words t → word ≡ slice_index (schedule block 48) t
later_word words block t word late below so_far is =
    let known : (back : ℕ) → 1 ≤ back → back ≤ 16 → slice_index words (t - back) ≡ slice_index (schedule block 48) (t - back) =
    λ back some upto. so_far (t - back) (omega arith) in
    is
    ∙ rw (known 2 (omega arith) (omega arith), known 7 (omega arith) (omega arith), known 15 (omega arith) (omega arith), known 16 (omega arith) (omega arith)) refl
    ∙ sym (slice_index-schedule_next block 48 t late (omega arith))

-- ---- the sums of two states' words
module _ {V : Type 0} (word : V → ℕ → ℕ) (j : ℕ) (x y : List V) where
  pub sum_at : (k : ℕ) (d e : V) (sum : ℕ) → k < length x → k < length y → sum ≡ add32 (word (slice_index_or x k d) j) (word (slice_index_or y k e) j)
      → sum ≡ add32 (slice_index (lane word j x) k) (slice_index (lane word j y) k)
  sum_at k d e sum in_x in_y is = is ∙ rw (word_of word j k x d in_x, word_of word j k y e in_y) refl

  abbrev Sums : ℕ → ℕ → Type 0
  Sums k sum = sum ≡ add32 (slice_index (lane word j x) k) (slice_index (lane word j y) k)

  pub sums : (a b c d e f g h : ℕ) → Sums 0 a → Sums 1 b → Sums 2 c → Sums 3 d → Sums 4 e → Sums 5 f → Sums 6 g → Sums 7 h
      → a ∷ b ∷ c ∷ d ∷ e ∷ f ∷ g ∷ h ∷ [] ≡ add_state (lane word j x) (lane word j y)
  sums a b c d e f g h ea eb ec ed ee ef eg eh = rw (ea, eb, ec, ed, ee, ef, eg, eh) refl
