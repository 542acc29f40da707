-- A text that was written, read back.
use Rattle.std.proofs.Common.{◌≡◌, ℕ, suc, ◌+◌, ◌-◌, ◌<◌, ◌≤◌, ◌^◌, ◌==◌, ◌&&◌, not, if◌then◌else◌, Bool, true, false, inl, inr, List, [], ◌∷◌, ◌++◌, length, map, Option, Some, None, Ok, Err, refl, sym, ap, ◌∙◌, arith, nat_lt}
use Rattle.std.specs.Prelude.{All}
use Rattle.std.specs.List.{list_all, position_or_len}
use Rattle.std.specs.List.Sorted.{IsStrictlyIncreasing}
use Rattle.std.specs.Str.{bytes_eq}
use Rattle.std.proofs.lemmas.Bool.{cases_Bool, eq-eqb, eqb-true, le-ltb, lt-ltb, ltb-true}
use Rattle.std.proofs.lemmas.List.Sums.{get_or-le-sum_by, sum_by-cons}
use Rattle.text_words.proofs.Spelled.{after_at, before_at, within_at}
use Rattle.guest_digests.specs.Counted.{all_copies}
use Rattle.guest_digests.specs.Samples.{is_kept}
use Rattle.guest_digests.specs.declared.line.DigestLine.{DigestLine}
use Rattle.digest_text.specs.Fields.{Row}
use Rattle.digest_text.specs.Reread.{AreLines, IsHead}
use Rattle.digest_text.specs.declared.fault.Cause.TheVariants as causes
use Rattle.digest_text.specs.Rows.{after_row, check_header, digest_of, ended, header, is_feed, is_of_guest, left_before, line_after, rises, rows_after, sampled_by, sampling_of}
use Rattle.digest_text.specs.Written.{head_text, lines_text, rows_of, rows_text}
use Rattle.digest_text.specs.declared.head.DigestHead.{DigestHead}
use Rattle.digest_text.specs.declared.so_far.SoFar.{SoFar}
use Rattle.digest_text.proofs.Back.{bare, line_apart, line_back, one_line}
use Rattle.digest_text.proofs.Steps.{digest_split, rows_end, rows_step}

-- a line that its type keeps, and that the sample keeps
record IsLine (head : DigestHead) (line : DigestLine) : Type 0 where
  fits : line.digest < 2 ^ 128
  some : 1 ≤ line.copies
  few : line.copies < 2 ^ 64
  kept : is_kept (sampled_by head) line.digest ≡ true

-- what the lines say so far, where `left` pages are left
abbrev noted : DigestHead → ℕ → ℕ → SoFar
noted head digest left = record { head = head; sampling = sampled_by head; digest = digest; left = Some left }

rising_tail : (x : ℕ) (xs : List ℕ) → IsStrictlyIncreasing (x ∷ xs) → IsStrictlyIncreasing xs
rising_tail x xs rising k within =
    let next : suc k + 1 ≡ suc (k + 1) = omega arith in
    rw next at (rising (suc k) (omega (arith, within)))

module _ (head : DigestHead) where
  -- one more row is noted
  row_noted : (so_far : Option SoFar) (line : DigestLine) (left : ℕ) → is_of_guest so_far head ≡ true → rises so_far line.digest ≡ true
      → sampling_of so_far head ≡ sampled_by head → left_before so_far head ≡ Some left → is_kept (sampled_by head) line.digest ≡ true → line.copies ≤ left
      → after_row so_far (record { head = head; line = line }) ≡ Ok (noted head line.digest (left - line.copies))
  unfolding after_row
  row_noted so_far line left same rising sampling before kept few =
      let within : nat_lt left line.copies ≡ false = le-ltb left line.copies few in
      rw (same, rising, sampling, kept, before, within) (none (nat_lt 1 head.sample))
    where
      none : (b : Bool) → (if b && false then Err causes.Total else Ok (noted head line.digest (left - line.copies))) ≡ Ok (noted head line.digest (left - line.copies))
      none true = refl
      none false = refl

  -- a line is read, and others behind it
  line_read : (n : ℕ) (so_far : Option SoFar) (line : DigestLine) (left : ℕ) (rest : List ℕ) (rows : List Row) → IsHead head → IsLine head line
      → is_of_guest so_far head ≡ true → rises so_far line.digest ≡ true → sampling_of so_far head ≡ sampled_by head → left_before so_far head ≡ Some left → line.copies ≤ left
      → rows_after (line_after n) (Some (noted head line.digest (left - line.copies))) rest ≡ Ok rows
      → rows_after n so_far (bare head line ++ 10 ∷ rest) ≡ Ok (record { head = head; line = line } ∷ rows)
  line_read n so_far line left rest rows h l same rising sampling before few more =
      let free = one_line head line h l.few in
      let within : position_or_len is_feed (bare head line ++ 10 ∷ rest) < length (bare head line ++ 10 ∷ rest) = ltb-true _ _ (within_at is_feed (bare head line) rest 10 free refl) in
      rows_step n so_far (bare head line ++ 10 ∷ rest) within
      ∙ rw (
        before_at is_feed (bare head line) rest 10 free refl,
        after_at is_feed (bare head line) rest 10 free refl,
        line_back head line h l.fits l.some l.few,
        row_noted so_far line left same rising sampling before l.kept few,
        more,
      ) refl

  same_head : is_of_guest (Some (noted head 0 0)) head ≡ true
  same_head = rw (bytes_same head.guest, eq-eqb head.salt head.salt refl, eq-eqb head.pages head.pages refl, eq-eqb head.sample head.sample refl) refl
    where
      bytes_same : (xs : List ℕ) → bytes_eq xs xs ≡ true
      bytes_same [] = refl
      bytes_same (x ∷ xs) = rw (eq-eqb x x refl) (bytes_same xs)

  -- the end, once all pages are listed where they must be
  end_listed : (n digest left : ℕ) → (head.sample ≡ 1 → 0 ≡ left) → ended {X = Row} n (Some (noted head digest left)) ≡ Ok []
  end_listed n digest left all = elim (cases_Bool (head.sample == 1)) [
    | inl whole ↦ let none : left ≡ 0 = sym (all (eqb-true head.sample 1 whole)) in rw (whole, none) refl
    | inr part ↦ rw part refl
  ]

  -- lines behind others
  lines_read : (lines : List DigestLine) (n digest left : ℕ) → IsHead head → All (IsLine head) lines → IsStrictlyIncreasing (digest ∷ map (λ line. line.digest) lines)
      → all_copies lines ≤ left → (head.sample ≡ 1 → all_copies lines ≡ left)
      → rows_after n (Some (noted head digest left)) (lines_text (head_text head) lines) ≡ Ok (rows_of head lines)
  lines_read [] n digest left h each rising few whole = rows_end n (Some (noted head digest left)) ∙ end_listed n digest left whole
  lines_read (line ∷ lines) n digest left h each rising few whole =
      let rest : List ℕ = lines_text (head_text head) lines in
      let sum = sum_by-cons (λ (l : DigestLine). l.copies) line lines in
      let least : line.copies ≤ left = omega (arith, few, sum) in
      let above : digest < line.digest = rising 0 (omega arith) in
      let more = lines_read lines (line_after n) line.digest (left - line.copies) h (λ k d lt. each (suc k) d (omega arith)) (rising_tail digest (line.digest ∷ map (λ (l : DigestLine). l.digest) lines) rising) (omega (arith, few, sum)) (λ one. omega (arith, whole one, sum)) in
      ap (rows_after n (Some (noted head digest left))) (line_apart head line rest)
      ∙ line_read n (Some (noted head digest left)) line left rest (rows_of head lines) h (each 0 line (omega arith)) same_head (lt-ltb digest line.digest above) refl refl least more

  -- all lines
  all_read : (lines : List DigestLine) (n : ℕ) → IsHead head → All (IsLine head) lines → IsStrictlyIncreasing (map (λ line. line.digest) lines)
      → all_copies lines ≤ head.pages → (head.sample ≡ 1 → all_copies lines ≡ head.pages)
      → rows_after n None (lines_text (head_text head) lines) ≡ Ok (rows_of head lines)
  all_read [] n h each rising few whole = rows_end n None
  all_read (line ∷ lines) n h each rising few whole =
      let rest : List ℕ = lines_text (head_text head) lines in
      let sum = sum_by-cons (λ (l : DigestLine). l.copies) line lines in
      let least : line.copies ≤ head.pages = omega (arith, few, sum) in
      let more = lines_read lines (line_after n) line.digest (head.pages - line.copies) h (λ k d lt. each (suc k) d (omega arith)) rising (omega (arith, few, sum)) (λ one. omega (arith, whole one, sum)) in
      ap (rows_after n None) (line_apart head line rest)
      ∙ line_read n None line head.pages rest (rows_of head lines) h (each 0 line (omega arith)) refl refl refl refl least more

  are_lines : (lines : List DigestLine) → IsHead head → AreLines head lines → All (IsLine head) lines
  are_lines lines h l k d within = record {
    fits = l.fits k d within;
    some = l.some k d within;
    few = omega (arith, get_or-le-sum_by (λ (line : DigestLine). line.copies) lines k d within, l.few, h.pages);
    kept = l.kept k d within;
  }

  -- the first line is the header
  behind_header : (first rest : List ℕ) → list_all (λ b. not (b == 10)) first ≡ true → check_header first ≡ Ok tt → digest_of (first ++ 10 ∷ rest) ≡ rows_after 1 None rest
  behind_header first rest free right =
      let within : position_or_len is_feed (first ++ 10 ∷ rest) < length (first ++ 10 ∷ rest) = ltb-true _ _ (within_at is_feed first rest 10 free refl) in
      digest_split (first ++ 10 ∷ rest) within
      ∙ rw (before_at is_feed first rest 10 free refl, after_at is_feed first rest 10 free refl, right) refl

  pub rereads : (lines : List DigestLine) → IsHead head → AreLines head lines → digest_of (rows_text head lines) ≡ Ok (rows_of head lines)
  rereads lines h l =
      behind_header header (lines_text (head_text head) lines) refl refl ∙ all_read lines 1 h (are_lines lines h l) l.rising l.few l.whole
