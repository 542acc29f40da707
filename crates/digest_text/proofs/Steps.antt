-- The rows that are left, line by line.
use Rattle.std.proofs.Common.{◌≡◌, ◌≢◌, ℕ, ◌+◌, ◌<◌, ◌≤◌, Bool, List, [], ◌∷◌, ◌++◌, length, take, drop, Option, Some, None, Result, Ok, Err, refl, sym, ap, ◌∙◌, arith, length-append, inl, inr}
use Rattle.std.specs.Prelude.{IfSome}
use Rattle.std.specs.List.{position_or_len, before_first, after_first, slice_split}
use Rattle.std.specs.Option.{option_map}
use Rattle.std.specs.Io.KnownBytes.{Keeps}
use Rattle.std.proofs.lemmas.Bool.{cases_Bool, cases_lt, le-ltb, lt-ltb}
use Rattle.std.proofs.lemmas.List.{drop-append-le, length-take-le, take-append-le}
use Rattle.std.proofs.lemmas.List.Splits.{length-slice_split, slice_split_first}
use Rattle.guest_digests.specs.declared.line.DigestLine.{DigestLine}
use Rattle.digest_text.specs.Fields.{Row, counted_in, row_in}
use Rattle.digest_text.specs.Left.{IsBroken, IsFound}
use Rattle.digest_text.specs.Noted.{IsNoted, IsRow, IsTaken}
use Rattle.digest_text.specs.Repeats.{Spells}
use Rattle.digest_text.specs.Rows.{◌>>=◌, at_line, check_header, digest_of, ended, is_feed, line_after, rows_after, rows_in, with_row}
use Rattle.digest_text.specs.Unread.{IsNext}
use Rattle.digest_text.specs.declared.buffered.Found.{Found}
use Rattle.digest_text.specs.declared.buffered.Found.TheVariants.{Broken, End}
use Rattle.digest_text.specs.declared.buffered.Found.TheVariants.{Line as FoundLine}
use Rattle.digest_text.specs.declared.fault.Cause.{Cause}
use Rattle.digest_text.specs.declared.fault.Cause.TheVariants as causes
use Rattle.digest_text.specs.declared.fault.LineFault.{LineFault}
use Rattle.digest_text.specs.declared.head.DigestHead.{DigestHead}
use Rattle.digest_text.specs.declared.read_fault.ReadFault.TheVariants.{Line}
use Rattle.digest_text.specs.declared.so_far.SoFar.{SoFar}
use Rattle.digest_text.proofs.Sought.{position_within}

-- a line that was read and noted
pub row_taken : (old new : Option SoFar) (bytes : List ℕ) (row : Row) → Some row ≡ row_in bytes → IsNoted old new row (Ok tt) → IsTaken old new bytes (Ok row.line)
row_taken old None bytes row e h = absurd h
row_taken old (Some new) bytes row e h = record {
  after = new;
  noted = refl;
  read = rw (← e) (rw h.0 (rw h.1 refl));
}

row_read : (front rest bytes : List ℕ) (head : DigestHead) (line : DigestLine) → Spells front head → bytes ≡ front ++ rest → length bytes ≤ 256 → counted_in rest ≡ Some line
    → row_in bytes ≡ Some (record { head = head; line = line })
unfolding row_in
row_read front rest bytes head line spells apart few counted =
    rw (le-ltb 256 (length bytes) few) (rw apart (rw (spells.before rest, counted) refl))

-- a line that begins with the bytes of a line before it
pub row_repeated : (old new : SoFar) (front rest bytes : List ℕ) (line : DigestLine) → Spells front old.head → bytes ≡ front ++ rest → length bytes ≤ 256
    → counted_in rest ≡ Some line → IsNoted (Some old) (Some new) (record { head = old.head; line = line }) (Ok tt) → IsRow (Some old) (Some new) bytes line
row_repeated old new front rest bytes line spells apart few counted h =
    row_taken (Some old) (Some new) bytes (record { head = old.head; line = line }) (sym (row_read front rest bytes old.head line spells apart few counted)) h

-- a list without such an element is one part
split_whole : (p : ℕ → Bool) (xs : List ℕ) → position_or_len p xs ≡ length xs → slice_split p xs ≡ xs ∷ []
split_whole p [] h = refl
split_whole p (x ∷ xs) h = elim (cases_Bool (p x)) [
  | inl passes ↦ let none = rw passes at h in absurd (omega (arith, none))
  | inr fails ↦ let later = rw fails at h in let more : position_or_len p xs ≡ length xs = omega (arith, later) in rw (fails, split_whole p xs more) refl
]

module _ (n : ℕ) (so_far : Option SoFar) where
  piece_step : (line : List ℕ) (pieces : List (List ℕ)) → 0 < length pieces
      → rows_in n so_far (line ∷ pieces) ≡ (at_line (line_after n) (with_row so_far (row_in line)) >>= λ x. rows_in (line_after n) (Some x.0) pieces >>= λ rows. Ok (x.1 ∷ rows))
  unfolding rows_in
  piece_step line [] h = absurd (omega arith)
  piece_step line (next ∷ pieces) h = refl

  pub rows_step : (bytes : List ℕ) → position_or_len is_feed bytes < length bytes
      → rows_after n so_far bytes ≡ (at_line (line_after n) (with_row so_far (row_in (before_first is_feed bytes))) >>= λ x. rows_after (line_after n) (Some x.0) (after_first is_feed bytes) >>= λ rows. Ok (x.1 ∷ rows))
  rows_step bytes h = rw (slice_split_first is_feed bytes 0 h) (piece_step (before_first is_feed bytes) (slice_split is_feed (after_first is_feed bytes)) (omega (arith, length-slice_split is_feed (after_first is_feed bytes))))

  pub rows_end : rows_after n so_far [] ≡ ended n so_far
  unfolding rows_in
  rows_end = refl

  last_piece : (bytes : List ℕ) → bytes ≢ [] → rows_in n so_far (bytes ∷ []) ≡ Err (record { line = line_after n; cause = causes.Form })
  unfolding rows_in
  last_piece [] h = absurd (h refl)
  last_piece (b ∷ bytes) h = refl

  rows_whole : (bytes : List ℕ) → bytes ≢ [] → position_or_len is_feed bytes ≡ length bytes → rows_after n so_far bytes ≡ Err (record { line = line_after n; cause = causes.Form })
  rows_whole bytes some none = rw (split_whole is_feed bytes none) (last_piece bytes some)

long_row : (bytes : List ℕ) → 256 < length bytes → row_in bytes ≡ None
unfolding row_in
long_row bytes h = rw (lt-ltb 256 (length bytes) h) refl

before_long : (bytes : List ℕ) → position_or_len is_feed bytes < length bytes → 256 < position_or_len is_feed bytes → 256 < length (before_first is_feed bytes)
before_long bytes within long = omega (arith, length-take-le (position_or_len is_feed bytes) bytes (omega (arith, within)), long)

at_most : (bytes : List ℕ) → length bytes ≤ position_or_len is_feed bytes → position_or_len is_feed bytes ≡ length bytes
at_most [] h = refl
at_most (b ∷ bytes) h = elim (cases_Bool (is_feed b)) [
  | inl passes ↦ let none = rw passes at h in absurd (omega (arith, none))
  | inr fails ↦ let later = rw fails at h in let more : position_or_len is_feed bytes ≡ length bytes = at_most bytes (omega (arith, later)) in rw fails (omega (arith, more))
]

rows_broken : (n : ℕ) (so_far : Option SoFar) (bytes : List ℕ) → bytes ≢ [] → IsBroken bytes → rows_after n so_far bytes ≡ Err (record { line = line_after n; cause = causes.Form })
rows_broken n so_far bytes some broken = elim broken [
  | inl none ↦ rows_whole n so_far bytes some none
  | inr long ↦ elim (cases_lt (position_or_len is_feed bytes) (length bytes)) [
    | inl within ↦ rows_step n so_far bytes within ∙ rw (long_row (before_first is_feed bytes) (before_long bytes within long)) refl
    | inr ge ↦ rows_whole n so_far bytes some (at_most bytes ge)
  ]
]

-- the first line, where more stands behind what was read
module _ (unread rest : List ℕ) (count : ℕ) (few : count < length unread) (first : position_or_len is_feed unread ≡ count) where
  place : position_or_len is_feed (unread ++ rest) ≡ count
  place = position_within is_feed unread rest (omega (arith, first, few)) ∙ first

  pub here : position_or_len is_feed (unread ++ rest) < length (unread ++ rest)
  here = omega (arith, place, few, length-append unread rest)

  pub line_is : before_first is_feed (unread ++ rest) ≡ take count unread
  line_is = ap (λ (k : ℕ). take k (unread ++ rest)) place ∙ take-append-le count unread rest (omega (arith, few))

  pub rest_is : after_first is_feed (unread ++ rest) ≡ drop (count + 1) unread ++ rest
  rest_is = ap (λ (k : ℕ). drop (k + 1) (unread ++ rest)) place ∙ drop-append-le (count + 1) unread rest (omega (arith, few))

module _ (n next : ℕ) (counted : next ≡ line_after n) (so_far : Option SoFar) where
  -- a line is read
  pub next_row : (old rest others : Option (List ℕ)) (unread after : List ℕ) (count : ℕ) (new : Option SoFar) (line : DigestLine)
      → Keeps old (option_map (λ more. unread ++ more) rest) → count < length unread → position_or_len is_feed unread ≡ count → after ≡ drop (count + 1) unread
      → others ≡ rest → IsRow so_far new (take count unread) line
      → IfSome (option_map (rows_after n so_far) old) (λ rows. IsNext rows (option_map (rows_after next new) (option_map (λ more. after ++ more) others)) (option_map (λ s. s.head) new) (Ok (Some line)))
  next_row None rest others unread after count new line keeps few first is same row = tt
  next_row (Some bytes) None others unread after count new line keeps few first is same row = absurd keeps
  next_row (Some bytes) (Some rest) others unread after count new line keeps few first is same row = rw same (record {
    of = row.after.head;
    known = rw row.noted refl;
    rows_are = rw (← keeps, is, row.noted, counted) (rows_step n so_far (unread ++ rest) (here unread rest count few first) ∙ rw (line_is unread rest count few first, row.read, rest_is unread rest count few first) refl);
  })

  -- a line is at fault
  pub next_fault : (old rest : Option (List ℕ)) (unread : List ℕ) (count : ℕ) (new : Option SoFar) (cause : Cause)
      → Keeps old (option_map (λ more. unread ++ more) rest) → count < length unread → position_or_len is_feed unread ≡ count
      → (with_row so_far (row_in (take count unread)) ≡ Err cause) × (new ≡ so_far)
      → IfSome (option_map (rows_after n so_far) old) (λ rows. IsNext rows (option_map (rows_after n new) (option_map (λ more. unread ++ more) rest)) (option_map (λ s. s.head) new) (Err (Line (record { line = next; cause = cause }))))
  next_fault None rest unread count new cause keeps few first fault = tt
  next_fault (Some bytes) None unread count new cause keeps few first fault = absurd keeps
  next_fault (Some bytes) (Some rest) unread count new cause keeps few first fault = (
    rw (← keeps, counted) (rows_step n so_far (unread ++ rest) (here unread rest count few first) ∙ rw (line_is unread rest count few first, fault.0) refl),
    rw (keeps, fault.1) refl,
  )

  -- a line is cut off or too long
  pub next_broken : (old new : Option (List ℕ)) → Keeps old new → IfSome new (λ bytes. (bytes ≢ []) × IsBroken bytes)
      → IfSome (option_map (rows_after n so_far) old) (λ rows. IsNext rows (option_map (rows_after n so_far) new) (option_map (λ s. s.head) so_far) (Err (Line (record { line = next; cause = causes.Form }))))
  next_broken None new keeps h = tt
  next_broken (Some bytes) None keeps h = absurd keeps
  next_broken (Some bytes) (Some same) keeps h = (rw (← keeps, counted) (rows_broken n so_far same h.0 h.1), rw keeps refl)

module _ (n : ℕ) (so_far : Option SoFar) where
  -- the end
  pub next_end : (old new : Option (List ℕ)) → Keeps old new → IfSome new (λ bytes. bytes ≡ []) → ended {X = Row} n so_far ≡ Ok []
      → IfSome (option_map (rows_after n so_far) old) (λ rows. IsNext rows (option_map (rows_after n so_far) new) (option_map (λ s. s.head) so_far) (Ok None))
  next_end None new keeps h e = tt
  next_end (Some bytes) None keeps h e = absurd keeps
  next_end (Some bytes) (Some same) keeps h e = (rw (← keeps, h) (rows_end n so_far ∙ e), rw keeps refl)

  -- copies are missing at the end
  pub next_lacking : (old new : Option (List ℕ)) (fault : LineFault) → Keeps old new → IfSome new (λ bytes. bytes ≡ []) → ended {X = Row} n so_far ≡ Err fault
      → IfSome (option_map (rows_after n so_far) old) (λ rows. IsNext rows (option_map (rows_after n so_far) new) (option_map (λ s. s.head) so_far) (Err (Line fault)))
  next_lacking None new fault keeps h e = tt
  next_lacking (Some bytes) None fault keeps h e = absurd keeps
  next_lacking (Some bytes) (Some same) fault keeps h e = (rw (← keeps, h) (rows_end n so_far ∙ e), rw keeps refl)

-- the first line
pub digest_split : (text : List ℕ) → position_or_len is_feed text < length text
    → digest_of text ≡ (at_line 1 (check_header (before_first is_feed text)) >>= λ _. rows_after 1 None (after_first is_feed text))
unfolding digest_of
digest_split text h = rw (lt-ltb (position_or_len is_feed text) (length text) h) refl

digest_whole : (text : List ℕ) → position_or_len is_feed text ≡ length text → digest_of text ≡ Err (record { line = 1; cause = causes.Form })
unfolding digest_of
digest_whole text h = rw (le-ltb (position_or_len is_feed text) (length text) (omega (arith, h))) refl

-- the first line is the header
pub first_read : (old rest others : Option (List ℕ)) (unread after : List ℕ) (count : ℕ)
    → Keeps old (option_map (λ more. unread ++ more) rest) → count < length unread → position_or_len is_feed unread ≡ count → after ≡ drop (count + 1) unread
    → others ≡ rest → check_header (take count unread) ≡ Ok tt
    → IfSome old (λ text. option_map (rows_after 1 None) (option_map (λ more. after ++ more) others) ≡ Some (digest_of text))
first_read None rest others unread after count keeps few first is same e = tt
first_read (Some text) None others unread after count keeps few first is same e = absurd keeps
first_read (Some text) (Some rest) others unread after count keeps few first is same e =
    rw (same, ← keeps, is) (ap Some (sym (digest_split (unread ++ rest) (here unread rest count few first) ∙ rw (line_is unread rest count few first, e, rest_is unread rest count few first) refl)))

-- the first line is another
pub first_fault : (old rest : Option (List ℕ)) (unread : List ℕ) (count : ℕ) (cause : Cause)
    → Keeps old (option_map (λ more. unread ++ more) rest) → count < length unread → position_or_len is_feed unread ≡ count → check_header (take count unread) ≡ Err cause
    → IfSome old (λ text. digest_of text ≡ Err (record { line = 1; cause = cause }))
first_fault None rest unread count cause keeps few first e = tt
first_fault (Some text) None unread count cause keeps few first e = absurd keeps
first_fault (Some text) (Some rest) unread count cause keeps few first e =
    rw (← keeps) (digest_split (unread ++ rest) (here unread rest count few first) ∙ rw (line_is unread rest count few first, e) refl)

long_header : (bytes : List ℕ) → 256 < length bytes → check_header bytes ≡ Err causes.Form
long_header bytes h = rw (lt-ltb 256 (length bytes) h) refl

digest_broken : (text : List ℕ) → IsBroken text → digest_of text ≡ Err (record { line = 1; cause = causes.Form })
digest_broken text broken = elim broken [
  | inl none ↦ digest_whole text none
  | inr long ↦ elim (cases_lt (position_or_len is_feed text) (length text)) [
    | inl within ↦ digest_split text within ∙ rw (long_header (before_first is_feed text) (before_long text within long)) refl
    | inr ge ↦ digest_whole text (at_most text ge)
  ]
]

-- there is no first line, or it is cut off or too long
pub first_other : (old new : Option (List ℕ)) (unread : List ℕ) (found : Found) → ((n : ℕ) → found ≡ FoundLine n → ⊥) → Keeps old new → IsFound found unread new
    → IfSome old (λ text. digest_of text ≡ Err (record { line = 1; cause = causes.Form }))
first_other None new unread found other keeps h = tt
first_other (Some text) None unread found other keeps h = absurd keeps
first_other (Some text) (Some same) unread (FoundLine n) other keeps h = absurd (other n refl)
first_other (Some text) (Some same) unread Broken other keeps h = rw (← keeps) (digest_broken same h.1)
first_other (Some text) (Some same) unread End other keeps h = rw (← keeps, h) (digest_whole [] refl)

pub is_right : (answer : Result (Unit {0}) Cause) → ((cause : Cause) → answer ≡ Err cause → ⊥) → answer ≡ Ok tt
is_right (Ok done) h = refl
is_right (Err cause) h = absurd (h cause refl)
