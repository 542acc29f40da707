-- The first four fields of a line, whatever stands behind them.
use Rattle.std.proofs.Common.{◌≡◌, ℕ, suc, ◌+◌, ◌-◌, ◌≤◌, ◌^◌, Bool, true, not, List, [], ◌∷◌, ◌++◌, length, take, get_or, Option, Some, None, refl, sym, ap, subst, ◌∙◌, arith, append_assoc, length-append, inl, inr}
use Rattle.std.specs.List.{list_all, position_or_len, before_first, after_first}
use Rattle.std.proofs.lemmas.Bool.{cases_Bool, cases_lt, eqb-true, le-ltb, lt-ltb}
use Rattle.std.proofs.lemmas.List.Sums.{passes_at_first, split_at_first}
use Rattle.std.proofs.Math.Seq.{take-append_seam}
use Rattle.std.proofs.lemmas.Option.{same_Some}
use Rattle.text_words.proofs.Spelled.{after_at, before_at, within_at}
use Rattle.digest_text.specs.Fields.{field_in, head_in, is_comma, number_in, sample_in, ◌>>=◌}
use Rattle.digest_text.specs.Names.{name_in}
use Rattle.digest_text.specs.Repeats.{Spells}
use Rattle.digest_text.specs.declared.head.DigestHead.{DigestHead}

-- what was found first, where more was found by it
pub found_first : {A B : Type 0} (o : Option A) (f : A → Option B) (y : B) → (o >>= f) ≡ Some y → (x : A) × (o ≡ Some x) × (f x ≡ Some y)
found_first None f y h = cc h
found_first (Some x) f y h = (x, refl, h)

-- no element before the first that passes does
pub none_before : (p : ℕ → Bool) (xs : List ℕ) → list_all (λ b. not (p b)) (before_first p xs) ≡ true
none_before p [] = refl
none_before p (x ∷ xs) = elim (cases_Bool (p x)) [
  | inl passes ↦ rw passes refl
  | inr fails ↦ let one : 1 + position_or_len p xs ≡ suc (position_or_len p xs) = omega arith in rw (fails, one, fails, none_before p xs) refl
]

-- a field with its comma, and what is left behind it
pub record IsField (bytes word rest : List ℕ) : Type 0 where
  pub whole : bytes ≡ word ++ 44 ∷ rest
  pub again : (more : List ℕ) → field_in (word ++ 44 ∷ more) ≡ Some (word, more)

-- bytes without a comma, and then a comma
pub field_before : (word more : List ℕ) → list_all (λ b. not (is_comma b)) word ≡ true → field_in (word ++ 44 ∷ more) ≡ Some (word, more)
unfolding field_in
field_before word more free =
    rw (within_at is_comma word more 44 free refl, before_at is_comma word more 44 free refl, after_at is_comma word more 44 free refl) refl

pub is_field : (bytes word rest : List ℕ) → field_in bytes ≡ Some (word, rest) → IsField bytes word rest
unfolding field_in
is_field bytes word rest h = elim (cases_lt (position_or_len is_comma bytes) (length bytes)) [
  | inl within ↦
      let parts = same_Some (before_first is_comma bytes, after_first is_comma bytes) (word, rest) (rw (lt-ltb _ _ within) at h) in
      let comma : get_or bytes (position_or_len is_comma bytes) 0 ≡ 44 = eqb-true _ 44 (passes_at_first is_comma bytes 0 within) in
      let free : list_all (λ b. not (is_comma b)) word ≡ true = ap (λ (xs : List ℕ). list_all (λ b. not (is_comma b)) xs) (sym (ap (λ (x : List ℕ × List ℕ). x.0) parts)) ∙ none_before is_comma bytes in
      record {
        whole = split_at_first is_comma bytes 0 within
            ∙ ap (λ (b : ℕ). before_first is_comma bytes ++ b ∷ after_first is_comma bytes) comma
            ∙ ap (λ (x : List ℕ × List ℕ). x.0 ++ 44 ∷ x.1) parts;
        again = λ more. field_before word more free;
      }
  | inr none ↦ let nothing = rw (le-ltb _ _ none) at h in cc nothing
]

-- bytes that spell the first four fields, and what is left behind them
pub record IsHeadOf (bytes : List ℕ) (head : DigestHead) (rest : List ℕ) : Type 0 where
  pub front : List ℕ
  pub whole : bytes ≡ front ++ rest
  pub spells : Spells front head

-- four fields in front of more, with no brackets
apart : (a b c d more : List ℕ) → (a ++ 44 ∷ (b ++ 44 ∷ (c ++ 44 ∷ (d ++ 44 ∷ [])))) ++ more ≡ a ++ 44 ∷ (b ++ 44 ∷ (c ++ 44 ∷ (d ++ 44 ∷ more)))
apart a b c d more =
    append_assoc a (44 ∷ (b ++ 44 ∷ (c ++ 44 ∷ (d ++ 44 ∷ [])))) more
    ∙ ap (λ (xs : List ℕ). a ++ 44 ∷ xs) (append_assoc b (44 ∷ (c ++ 44 ∷ (d ++ 44 ∷ []))) more
    ∙ ap (λ (xs : List ℕ). b ++ 44 ∷ xs) (append_assoc c (44 ∷ (d ++ 44 ∷ [])) more
    ∙ ap (λ (xs : List ℕ). c ++ 44 ∷ xs) (append_assoc d (44 ∷ []) more)))

-- four fields of their form spell a head, whatever stands behind them
spelled : (a b c d guest : List ℕ) (salt pages sample : ℕ)
    → ((more : List ℕ) → field_in (a ++ 44 ∷ more) ≡ Some (a, more)) → name_in a ≡ Some guest
    → ((more : List ℕ) → field_in (b ++ 44 ∷ more) ≡ Some (b, more)) → number_in (2 ^ 32 - 1) b ≡ Some salt
    → ((more : List ℕ) → field_in (c ++ 44 ∷ more) ≡ Some (c, more)) → number_in (2 ^ 64 - 1) c ≡ Some pages
    → ((more : List ℕ) → field_in (d ++ 44 ∷ more) ≡ Some (d, more)) → sample_in d ≡ Some sample
    → Spells (a ++ 44 ∷ (b ++ 44 ∷ (c ++ 44 ∷ (d ++ 44 ∷ [])))) (record { guest = guest; salt = salt; pages = pages; sample = sample })
unfolding head_in
spelled a b c d guest salt pages sample fa na fb nb fc nc fd nd = record {
  before = λ more. rw (
    apart a b c d more,
    fa (b ++ 44 ∷ (c ++ 44 ∷ (d ++ 44 ∷ more))),
    na,
    fb (c ++ 44 ∷ (d ++ 44 ∷ more)),
    nb,
    fc (d ++ 44 ∷ more),
    nc,
    fd more,
    nd,
  ) refl;
}

pub is_head : (bytes : List ℕ) (head : DigestHead) (rest : List ℕ) → head_in bytes ≡ Some (head, rest) → IsHeadOf bytes head rest
unfolding head_in
is_head bytes head rest h =
    let first = found_first (field_in bytes) _ (head, rest) h in
    let guest = found_first (name_in first.0.0) _ (head, rest) first.2 in
    let second = found_first (field_in first.0.1) _ (head, rest) guest.2 in
    let salt = found_first (number_in (2 ^ 32 - 1) second.0.0) _ (head, rest) second.2 in
    let third = found_first (field_in second.0.1) _ (head, rest) salt.2 in
    let pages = found_first (number_in (2 ^ 64 - 1) third.0.0) _ (head, rest) third.2 in
    let fourth = found_first (field_in third.0.1) _ (head, rest) pages.2 in
    let sample = found_first (sample_in fourth.0.0) _ (head, rest) fourth.2 in
    let same = same_Some _ (head, rest) sample.2 in
    let a = is_field bytes first.0.0 first.0.1 first.1 in
    let b = is_field first.0.1 second.0.0 second.0.1 second.1 in
    let c = is_field second.0.1 third.0.0 third.0.1 third.1 in
    let d = is_field third.0.1 fourth.0.0 fourth.0.1 fourth.1 in
    let left : fourth.0.1 ≡ rest = ap (λ (x : DigestHead × List ℕ). x.1) same in
    record {
      front = first.0.0 ++ 44 ∷ (second.0.0 ++ 44 ∷ (third.0.0 ++ 44 ∷ (fourth.0.0 ++ 44 ∷ [])));
      whole = a.whole
          ∙ ap (λ (xs : List ℕ). first.0.0 ++ 44 ∷ xs) (b.whole
          ∙ ap (λ (xs : List ℕ). second.0.0 ++ 44 ∷ xs) (c.whole
          ∙ ap (λ (xs : List ℕ). third.0.0 ++ 44 ∷ xs) (d.whole
          ∙ ap (λ (xs : List ℕ). fourth.0.0 ++ 44 ∷ xs) left)))
          ∙ sym (apart first.0.0 second.0.0 third.0.0 fourth.0.0 rest);
      spells = subst (Spells (first.0.0 ++ 44 ∷ (second.0.0 ++ 44 ∷ (third.0.0 ++ 44 ∷ (fourth.0.0 ++ 44 ∷ []))))) (ap (λ (x : DigestHead × List ℕ). x.0) same)
          (spelled first.0.0 second.0.0 third.0.0 fourth.0.0 guest.0 salt.0 pages.0 sample.0 a.again guest.1 b.again salt.1 c.again pages.1 d.again sample.1);
    }

-- what is left of a line is no longer than the line
pub head_within : (bytes : List ℕ) (head : DigestHead) (rest : List ℕ) → head_in bytes ≡ Some (head, rest) → length rest ≤ length bytes
head_within bytes head rest h =
    let found = is_head bytes head rest h in
    let long = ap length found.whole in
    omega (arith, long, length-append found.front rest)

-- what stands in front of what is left spells the first four fields
pub head_spelled : (bytes : List ℕ) (head : DigestHead) (rest : List ℕ) → head_in bytes ≡ Some (head, rest) → Spells (take (length bytes - length rest) bytes) head
head_spelled bytes head rest h =
    let found = is_head bytes head rest h in
    let long = ap length found.whole in
    let size : length bytes - length rest ≡ length found.front = omega (arith, long, length-append found.front rest) in
    let front : take (length bytes - length rest) bytes ≡ found.front =
    ap (λ (k : ℕ). take k bytes) size ∙ ap (take (length found.front)) found.whole ∙ take-append_seam found.front rest in
    rw front found.spells
