-- The fields of a packed entry's two words, and the bytes of the words.
use Prim.Native.Nat.{zero, suc}
use Rattle.std.proofs.Common.{◌≢◌, [], ◌∷◌, ◌≡◌, ℕ, ◌+◌, ◌*◌, ◌/◌, ◌%◌, ◌<◌, ◌^◌, Bool, true, false, cond, eqb, List, ◌++◌, length, get_or, take, drop, Some, None, IsSome, refl, ap, ◌∙◌, arith, rules}
use Rattle.std.proofs.lemmas.Nat.{from_be_bytes-to_be_bytes_8, be_bytes_8}
use Rattle.std.proofs.lemmas.List.{get_or-drop, take-append-drop, length-take, length-drop, take_all}
use Rattle.std.specs.Int.{w64, to_be_bytes, from_be_bytes}
use Rattle.packed_entries.specs.declared.entry.Entry.{Entry}
use Rattle.packed_entries.specs.declared.entry.Entry.TheVariants.{Shared, Hint}
use Rattle.packed_entries.specs.declared.packed.Packed.{Packed}
use Rattle.packed_entries.specs.Packing.{tail_word, hint_word, bits_of, word_at, unpacked, unpacked_words, linked_entry}
use Rattle.packed_entries.specs.Places.{packed_or, with_link}

-- the fields that were put together
pub mpn_in : (m c l t : ℕ) → c < 65536 → l < 8388608 → t < 2 → m < 16777216 → bits_of (tail_word m c l t) 40 24 ≡ m
mpn_in m c l t hc hl ht hm = omega arith

pub count_in : (m c l t : ℕ) → c < 65536 → l < 8388608 → t < 2 → bits_of (tail_word m c l t) 24 16 ≡ c
count_in m c l t hc hl ht = omega arith

pub link_in : (m c l t : ℕ) → l < 8388608 → t < 2 → bits_of (tail_word m c l t) 1 23 ≡ l
link_in m c l t hl ht = omega arith

pub tag_in : (m c l t : ℕ) → t < 2 → bits_of (tail_word m c l t) 0 1 ≡ t
tag_in m c l t ht = omega arith

pub key_in : (k g p : ℕ) → k < 4294967296 → g < 256 → p < 16777216 → bits_of (hint_word k g p) 32 32 ≡ k
key_in k g p hk hg hp = omega arith

pub guest_in : (k g p : ℕ) → g < 256 → p < 16777216 → bits_of (hint_word k g p) 24 8 ≡ g
guest_in k g p hg hp = omega arith

pub ppn_in : (k g p : ℕ) → p < 16777216 → bits_of (hint_word k g p) 0 24 ≡ p
ppn_in k g p hp = omega arith

-- a word of its fields
pub tail_of : (s : ℕ) → s < 18446744073709551616 → tail_word (bits_of s 40 24) (bits_of s 24 16) (bits_of s 1 23) (bits_of s 0 1) ≡ s
tail_of s h = omega arith

-- the same of a word without a count and a tag
pub tail_of_hint : (s : ℕ) → s < 18446744073709551616 → bits_of s 24 16 ≡ 0 → bits_of s 0 1 ≢ 1 → tail_word (bits_of s 40 24) 0 (bits_of s 1 23) 0 ≡ s
tail_of_hint s h c t = omega arith

pub hint_of : (s : ℕ) → s < 18446744073709551616 → hint_word (bits_of s 32 32) (bits_of s 24 8) (bits_of s 0 24) ≡ s
hint_of s h = omega arith

-- two words that are read from the bytes that they were written to
pub words_read : (a b : ℕ) → a < 2 ^ 64 → b < 2 ^ 64 → unpacked (to_be_bytes w64 a ++ to_be_bytes w64 b) ≡ unpacked_words a b
words_read a b ha hb =
    let first : word_at (to_be_bytes w64 a ++ to_be_bytes w64 b) 0 ≡ a = from_be_bytes-to_be_bytes_8 a ha in
    let second : word_at (to_be_bytes w64 a ++ to_be_bytes w64 b) 8 ≡ b = from_be_bytes-to_be_bytes_8 b hb in
    rw (first, second) refl

pub shared_read : (h m c l : ℕ) → m < 16777216 → c < 65536 → l < 8388608 → unpacked_words h (tail_word m c l 1) ≡ Some (record { entry = Shared h m c; link = l })
shared_read h m c l hm hc hl =
    rw (tag_in m c l 1 (omega arith), mpn_in m c l 1 hc hl (omega arith) hm, count_in m c l 1 hc hl (omega arith), link_in m c l 1 hl (omega arith)) refl

pub hint_read : (k g p m l : ℕ) → k < 4294967296 → g < 256 → p < 16777216 → m < 16777216 → l < 8388608 → unpacked_words (hint_word k g p) (tail_word m 0 l 0) ≡ Some (record { entry = Hint k g p m; link = l })
hint_read k g p m l hk hg hp hm hl =
    rw (tag_in m 0 l 0 (omega arith), mpn_in m 0 l 0 (omega arith) hl (omega arith) hm, count_in m 0 l 0 (omega arith) hl (omega arith), link_in m 0 l 0 hl (omega arith), key_in k g p hk hg hp, guest_in k g p hg hp, ppn_in k g p hp) refl

take_fits : (n : ℕ) (bs : List ℕ) → ((i : ℕ) → get_or bs i 0 < 256) → (i : ℕ) → get_or (take n bs) i 0 < 256
take_fits zero bs h i = omega arith
take_fits (suc n) [] h i = omega arith
take_fits (suc n) (x ∷ xs) h zero = h zero
take_fits (suc n) (x ∷ xs) h (suc i) = take_fits n xs (λ j. h (suc j)) i

both : (a b x y whole : List ℕ) → a ≡ x → b ≡ y → x ++ y ≡ whole → a ++ b ≡ whole
both a b x y whole e f g = rw (e, f) g

-- the words that are read, written again
pub words_written : (n : ℕ) (bs : List ℕ) → n ≡ 8 → length bs ≡ n + 8 → ((i : ℕ) → get_or bs i 0 < 256) → to_be_bytes w64 (from_be_bytes w64 (take n bs)) ++ to_be_bytes w64 (from_be_bytes w64 (take n (drop n bs))) ≡ bs
words_written n bs e len fits =
    let lens = length-take n bs in
    let left = length-drop n bs in
    let a : to_be_bytes w64 (from_be_bytes w64 (take n bs)) ≡ take n bs = be_bytes_8 (take n bs) _ (omega (arith, lens)) (take_fits n bs fits) refl in
    let tail_fits : (i : ℕ) → get_or (drop n bs) i 0 < 256 = λ i. rw (get_or-drop n bs i 0) (fits (n + i)) in
    let whole : take n (drop n bs) ≡ drop n bs = take_all n (drop n bs) (omega (arith, left)) in
    let b : to_be_bytes w64 (from_be_bytes w64 (drop n bs)) ≡ drop n bs = be_bytes_8 (drop n bs) _ (omega (arith, left)) tail_fits refl in
    both _ _ (take n bs) (drop n bs) bs a (ap (λ x. to_be_bytes w64 (from_be_bytes w64 x)) whole ∙ b) (take-append-drop n bs)

pub bytes_are : (bs : List ℕ) (first second : ℕ) → length bs ≡ 16 → ((i : ℕ) → get_or bs i 0 < 256) → first ≡ word_at bs 0 → second ≡ word_at bs 8 → to_be_bytes w64 first ++ to_be_bytes w64 second ≡ bs
bytes_are bs first second len fits f s = rw (f, s) (words_written 8 bs refl len fits)

pub packed_is : (p : Packed) (e : Entry) (l : ℕ) → p.entry ≡ e → l ≡ p.link → Some (record { entry = e; link = l }) ≡ Some p
packed_is p e l h k = rw (← h, k) refl

-- ---- another link
-- the second word without its link, and this link
abbrev pub relinked_word : ℕ → ℕ → ℕ
relinked_word s l = s / 16777216 * 16777216 + s % 2 + l * 2

mpn_stays : (s l : ℕ) → l < 8388608 → bits_of (relinked_word s l) 40 24 ≡ bits_of s 40 24
mpn_stays s l h = omega arith

count_stays : (s l : ℕ) → l < 8388608 → bits_of (relinked_word s l) 24 16 ≡ bits_of s 24 16
count_stays s l h = omega arith

tag_stays : (s l : ℕ) → bits_of (relinked_word s l) 0 1 ≡ bits_of s 0 1
tag_stays s l = omega arith

link_is : (s l : ℕ) → l < 8388608 → bits_of (relinked_word s l) 1 23 ≡ l
link_is s l h = omega arith

pub relinked_fits : (s l : ℕ) → s < 18446744073709551616 → l < 8388608 → relinked_word s l < 18446744073709551616
relinked_fits s l h k = omega arith

relinked_step : (t c : Bool) (a b : Entry) (l l' : ℕ) → IsSome (linked_entry (cond t (Some a) (cond c (Some b) None)) l) → linked_entry (cond t (Some a) (cond c (Some b) None)) l' ≡ Some (with_link (packed_or (linked_entry (cond t (Some a) (cond c (Some b) None)) l)) l')
relinked_step true c a b l l' h = refl
relinked_step false true a b l l' h = refl
relinked_step false false a b l l' h = search rules

pub words_relinked : (f s l : ℕ) → l < 8388608 → IsSome (unpacked_words f s) → unpacked_words f (relinked_word s l) ≡ Some (with_link (packed_or (unpacked_words f s)) l)
words_relinked f s l k h =
    rw (mpn_stays s l k, count_stays s l k, tag_stays s l, link_is s l k)
    (relinked_step (eqb (bits_of s 0 1) 1) (eqb (bits_of s 24 16) 0) _ _ (bits_of s 1 23) l h)
