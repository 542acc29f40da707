-- What is read of a list is spelled so, and what is spelled so is read.
use Rattle.std.proofs.Common.{◌≡◌, ℕ, zero, suc, ◌+◌, ◌*◌, ◌-◌, ◌^◌, ◌<◌, ◌≤◌, List, [], ◌∷◌, ◌++◌, length, get_or, take, drop, refl, sym, ap, ◌∙◌, append_assoc, arith, inl, inr}
use Rattle.std.specs.Int.{w32, w64, from_le_bytes, to_le_bytes}
use Rattle.std.specs.List.{flat_map, AllByRecursion}
use Rattle.std.proofs.lemmas.Bool.{cases_lt}
use Rattle.std.proofs.lemmas.List.{take_at, drop_at, take-append-drop, length-append, length-take, length-drop, get_or-drop, get_or-take, get_or_past, nil_from_length, append-nil, take_all, drop-drop}
use Rattle.std.proofs.lemmas.List.Concat.{flat_map-cons}
use Rattle.std.proofs.lemmas.Nat.{le_bytes_4, le_bytes_8}
use Rattle.host_messages.specs.Reading.{items_at}

abbrev pub IsBytes : List ℕ → Type 0
IsBytes bytes = (i : ℕ) → get_or bytes i 0 < 256

pub IsBytes-drop : (n : ℕ) (bytes : List ℕ) → IsBytes bytes → IsBytes (drop n bytes)
IsBytes-drop n bytes h i = rw get_or-drop (h (n + i))

pub IsBytes-take : (n : ℕ) (bytes : List ℕ) → IsBytes bytes → IsBytes (take n bytes)
IsBytes-take n bytes h i =
    elim (cases_lt i n) [
      | inl lt ↦ rw (get_or-take n bytes i 0 lt) (h i)
      | inr le ↦ rw (get_or_past (take n bytes) i 0 (omega (arith, length-take n bytes))) (omega arith)
    ]

-- An item whose bytes are so many, and read and spelled are inverse.
pub record IsItem {X : Type 0} (width : ℕ) (spelled : X → List ℕ) (item : List ℕ → X) (fits : X → Type 0) : Type 0 where
  pub wide : (x : X) → length (spelled x) ≡ width
  pub again : (x : X) → fits x → item (spelled x) ≡ x
  pub back : (bytes : List ℕ) → length bytes ≡ width → IsBytes bytes → spelled (item bytes) ≡ bytes
  pub below : (bytes : List ℕ) → length bytes ≡ width → IsBytes bytes → fits (item bytes)

pub items_again : {X : Type 0} (width : ℕ) (spelled : X → List ℕ) (item : List ℕ → X) (fits : X → Type 0) → IsItem width spelled item fits
    → (xs : List X) → AllByRecursion fits xs → items_at width item (length xs) (flat_map spelled xs) ≡ xs
unfolding items_at
items_again width spelled item fits is [] all = refl
items_again width spelled item fits is (x ∷ xs) all =
    let front : take width (spelled x ++ flat_map spelled xs) ≡ spelled x = take_at (spelled x) (flat_map spelled xs) width (is.wide x) in
    let rest : drop width (spelled x ++ flat_map spelled xs) ≡ flat_map spelled xs = drop_at (spelled x) (flat_map spelled xs) width (is.wide x) in
    rw (flat_map-cons spelled x xs, front, rest, is.again x all.0, items_again width spelled item fits is xs all.1) refl

pub items_len : {X : Type 0} (width : ℕ) (spelled : X → List ℕ) (item : List ℕ → X) (fits : X → Type 0) → IsItem width spelled item fits
    → (xs : List X) → length (flat_map spelled xs) ≡ length xs * width
items_len width spelled item fits is [] = omega arith
items_len width spelled item fits is (x ∷ xs) =
    rw flat_map-cons (omega (arith, length-append (spelled x) (flat_map spelled xs), is.wide x, items_len width spelled item fits is xs))

pub record ReadBack {X : Type 0} (spelled : X → List ℕ) (fits : X → Type 0) (xs : List X) (bytes : List ℕ) : Type 0 where
  pub same : flat_map spelled xs ≡ bytes
  pub fit : AllByRecursion fits xs

pub items_back : {X : Type 0} (width : ℕ) (spelled : X → List ℕ) (item : List ℕ → X) (fits : X → Type 0) → IsItem width spelled item fits
    → (n : ℕ) (bytes : List ℕ) → length bytes ≡ n * width → IsBytes bytes → ReadBack spelled fits (items_at width item n bytes) bytes
unfolding items_at
items_back width spelled item fits is zero bytes len are = record { same = sym (nil_from_length bytes (omega (arith, len))); fit = tt }
items_back width spelled item fits is (suc n) bytes len are =
    let front_len : length (take width bytes) ≡ width = omega (arith, length-take width bytes, len) in
    let front_are = IsBytes-take width bytes are in
    let front : spelled (item (take width bytes)) ≡ take width bytes = is.back (take width bytes) front_len front_are in
    let rest = items_back width spelled item fits is n (drop width bytes) (omega (arith, len, length-drop width bytes)) (IsBytes-drop width bytes are) in
    record {
      same = rw (flat_map-cons spelled (item (take width bytes)) (items_at width item n (drop width bytes)), front, rest.same) (take-append-drop width bytes);
      fit = (is.below (take width bytes) front_len front_are, rest.fit);
    }

pub items_count : {X : Type 0} (width : ℕ) (item : List ℕ → X) (n : ℕ) (bytes : List ℕ) → length (items_at width item n bytes) ≡ n
unfolding items_at
items_count width item zero bytes = refl
items_count width item (suc n) bytes = ap suc (items_count width item n (drop width bytes))

-- ---- reading them one after the other, as a loop does

pub reads_on : {X : Type 0} (width : ℕ) (item : List ℕ → X) (front : List X) (count i : ℕ) (bytes : List ℕ) (total : List X) → i < count
    → front ++ items_at width item (count - i) bytes ≡ total → (front ++ item (take width bytes) ∷ []) ++ items_at width item (count - (i + 1)) (drop width bytes) ≡ total
unfolding items_at
reads_on width item front count i bytes total lt so_far =
    let k : count - i ≡ suc (count - (i + 1)) = omega arith in
    let one : front ++ items_at width item (count - i) bytes ≡ front ++ (item (take width bytes) ∷ items_at width item (count - (i + 1)) (drop width bytes)) = rw k refl in
    append_assoc front (item (take width bytes) ∷ []) (items_at width item (count - (i + 1)) (drop width bytes)) ∙ sym one ∙ so_far

pub is_read : {X : Type 0} (width : ℕ) (item : List ℕ → X) (front : List X) (count i : ℕ) (bytes : List ℕ) (total : List X) → count ≤ i
    → front ++ items_at width item (count - i) bytes ≡ total → front ≡ total
unfolding items_at
is_read width item front count i bytes total le so_far =
    let k : count - i ≡ 0 = omega arith in
    let one : front ++ items_at width item (count - i) bytes ≡ front = rw k (append-nil front) in
    sym one ∙ so_far

pub less_left : (width count i len : ℕ) → i < count → len ≡ (count - i) * width → len - width ≡ (count - (i + 1)) * width
less_left width count i len lt e =
    let k : count - i ≡ suc (count - (i + 1)) = omega arith in
    let one : len ≡ suc (count - (i + 1)) * width = e ∙ ap (λ (n : ℕ). n * width) k in
    omega (arith, one)

pub enough_left : (width count i len : ℕ) → i < count → len ≡ (count - i) * width → width ≤ len
enough_left width count i len lt e =
    let k : count - i ≡ suc (count - (i + 1)) = omega arith in
    let one : len ≡ suc (count - (i + 1)) * width = e ∙ ap (λ (n : ℕ). n * width) k in
    omega (arith, one)

-- ---- numbers

pub le4_back : (bytes : List ℕ) → 4 ≤ length bytes → IsBytes bytes → to_le_bytes w32 (from_le_bytes w32 bytes) ≡ take 4 bytes
le4_back (a ∷ b ∷ c ∷ d ∷ rest) long are = le_bytes_4 (a ∷ b ∷ c ∷ d ∷ []) _ refl (IsBytes-take 4 (a ∷ b ∷ c ∷ d ∷ rest) are) refl
le4_back (a ∷ b ∷ c ∷ []) long are = absurd (omega (arith, long))
le4_back (a ∷ b ∷ []) long are = absurd (omega (arith, long))
le4_back (a ∷ []) long are = absurd (omega (arith, long))
le4_back [] long are = absurd (omega (arith, long))

pub le8_back : (bytes : List ℕ) → 8 ≤ length bytes → IsBytes bytes → to_le_bytes w64 (from_le_bytes w64 bytes) ≡ take 8 bytes
le8_back (a ∷ b ∷ c ∷ d ∷ e ∷ f ∷ g ∷ h ∷ rest) long are = le_bytes_8 (a ∷ b ∷ c ∷ d ∷ e ∷ f ∷ g ∷ h ∷ []) _ refl (IsBytes-take 8 (a ∷ b ∷ c ∷ d ∷ e ∷ f ∷ g ∷ h ∷ rest) are) refl
le8_back (a ∷ b ∷ c ∷ d ∷ e ∷ f ∷ g ∷ []) long are = absurd (omega (arith, long))
le8_back (a ∷ b ∷ c ∷ d ∷ e ∷ f ∷ []) long are = absurd (omega (arith, long))
le8_back (a ∷ b ∷ c ∷ d ∷ e ∷ []) long are = absurd (omega (arith, long))
le8_back (a ∷ b ∷ c ∷ d ∷ []) long are = absurd (omega (arith, long))
le8_back (a ∷ b ∷ c ∷ []) long are = absurd (omega (arith, long))
le8_back (a ∷ b ∷ []) long are = absurd (omega (arith, long))
le8_back (a ∷ []) long are = absurd (omega (arith, long))
le8_back [] long are = absurd (omega (arith, long))

pub u32_below : (bytes : List ℕ) → IsBytes bytes → from_le_bytes w32 bytes < 2 ^ 32
u32_below bytes fits = omega (arith, fits 0, fits 1, fits 2, fits 3)

pub u64_below : (bytes : List ℕ) → IsBytes bytes → from_le_bytes w64 bytes < 2 ^ 64
u64_below bytes fits = omega (arith, fits 0, fits 1, fits 2, fits 3, fits 4, fits 5, fits 6, fits 7)

-- the last bytes, all of them
pub take_last : (n at : ℕ) (bytes : List ℕ) → length bytes ≡ at + n → take n (drop at bytes) ≡ drop at bytes
take_last n at bytes len = take_all n (drop at bytes) (omega (arith, len, length-drop at bytes))

pub drop_more : (m n : ℕ) (xs : List ℕ) → drop n (drop m xs) ≡ drop (m + n) xs
drop_more m n xs = drop-drop n m xs
