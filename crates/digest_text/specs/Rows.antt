-- What the lines of a digest say together, or the first fault among them.
use Rattle.std.specs.Prelude.{ℕ, ◌+◌, ◌-◌, ◌^◌, ◌==◌, ◌&&◌, not, nat_lt, min, Bool, true, false, if◌then◌else◌, is_none, List, [], ◌∷◌, codes, count_by, length, ◌||◌, Option, Some, None, Result, Ok, Err}
use Rattle.std.specs.List.{slice_split, position_or_len, before_first, after_first}
use Rattle.std.specs.Str.{bytes_eq}
use Rattle.guest_digests.specs.Samples.{Sampled, is_kept}
use Rattle.digest_text.specs.Fields.{Row, is_comma, row_in}
use Rattle.digest_text.specs.declared.fault.Cause.{Cause}
use Rattle.digest_text.specs.declared.fault.Cause.TheVariants as causes
use Rattle.digest_text.specs.declared.fault.LineFault.{LineFault}
use Rattle.digest_text.specs.declared.head.DigestHead.{DigestHead}
use Rattle.digest_text.specs.declared.row.TheConstants.{MAX_LINE_BYTES}
use Rattle.digest_text.specs.declared.so_far.SoFar.{SoFar}

-- an answer passed on to what is asked next: the first fault is the answer of the whole
infixl 10 ◌>>=◌
abbrev pub ◌>>=◌ : {A B F : Type 0} → Result A F → (A → Result B F) → Result B F
(Ok x) >>= f = f x
(Err e) >>= f = Err e

abbrev pub sampled_by : DigestHead → Sampled
sampled_by head = record { salt = head.salt; every = head.sample }

abbrev pub is_same_head : DigestHead → DigestHead → Bool
is_same_head a b = bytes_eq a.guest b.guest && a.salt == b.salt && a.pages == b.pages && a.sample == b.sample

-- the head is that of the lines so far; None: there is no line yet
abbrev pub is_of_guest : Option SoFar → DigestHead → Bool
is_of_guest None head = true
is_of_guest (Some so_far) head = is_same_head so_far.head head

-- the digest is greater than those so far
abbrev pub rises : Option SoFar → ℕ → Bool
rises None digest = true
rises (Some so_far) digest = nat_lt so_far.digest digest

-- how many of all pages no line so far lists; None: the lines list more
abbrev pub left_before : Option SoFar → DigestHead → Option ℕ
left_before None head = Some head.pages
left_before (Some so_far) head = so_far.left

-- the same after some copies
abbrev pub less : Option ℕ → ℕ → Option ℕ
less None copies = None
less (Some left) copies = if nat_lt left copies then None else Some (left - copies)

-- the guest's salt and which digests are kept, as the first line says
abbrev pub sampling_of : Option SoFar → DigestHead → Sampled
sampling_of None head = sampled_by head
sampling_of (Some so_far) head = so_far.sampling

-- what the lines say so far after one more, or its first fault
unfoldable pub after_row : Option SoFar → Row → Result SoFar Cause
after_row so_far row =
    if not (is_of_guest so_far row.head) then Err causes.Guest
    else if not (rises so_far row.line.digest) then Err causes.Order
    else if not (is_kept (sampling_of so_far row.head) row.line.digest) then Err causes.Sample
    else if nat_lt 1 row.head.sample && is_none (less (left_before so_far row.head) row.line.copies) then Err causes.Total
    else Ok (record {
      head = row.head;
      sampling = sampling_of so_far row.head;
      digest = row.line.digest;
      left = less (left_before so_far row.head) row.line.copies;
    })

-- a row, and what the lines say so far with it
abbrev pub with_row : Option SoFar → Option Row → Result (SoFar × Row) Cause
with_row so_far None = Err causes.Form
with_row so_far (Some row) = after_row so_far row >>= λ after. Ok (after, row)

-- a line's fault is reported with its number
abbrev pub at_line : {X : Type 0} → ℕ → Result X Cause → Result X LineFault
at_line n (Ok x) = Ok x
at_line n (Err cause) = Err (record { line = n; cause = cause })

-- the number of the line after line n; numbers end at 2^64 - 1
abbrev pub line_after : ℕ → ℕ
line_after n = min (n + 1) (2 ^ 64 - 1)

-- as many copies are listed as there are pages
abbrev pub is_all : Option ℕ → Bool
is_all None = false
is_all (Some left) = left == 0

-- What comes at the end, after line n: where each content is kept, all pages must be listed.
abbrev pub ended : {X : Type 0} → ℕ → Option SoFar → Result (List X) LineFault
ended n None = Ok []
ended n (Some so_far) =
    if so_far.head.sample == 1 && not (is_all so_far.left) then Err (record { line = n; cause = causes.Total }) else Ok []

-- what comes after the last line feed, behind line n: a line that is cut off, or nothing
abbrev pub cut_off : {X : Type 0} → ℕ → Option SoFar → List ℕ → Result (List X) LineFault
cut_off n so_far [] = ended n so_far
cut_off n so_far (b ∷ bytes) = Err (record { line = line_after n; cause = causes.Form })

-- What lines say, if what the lines before them say is so_far and the last of those is line n. Each line ends with a line feed, so
-- what comes after the last one is no line, and must be empty.
unfoldable pub rows_in : ℕ → Option SoFar → List (List ℕ) → Result (List Row) LineFault
rows_in n so_far [] = ended n so_far
rows_in n so_far (bytes ∷ []) = cut_off n so_far bytes
rows_in n so_far (bytes ∷ line ∷ lines) = at_line (line_after n) (with_row so_far (row_in bytes)) >>= λ x.
    rows_in (line_after n) (Some x.0) (line ∷ lines) >>= λ rows. Ok (x.1 ∷ rows)

abbrev pub is_feed : ℕ → Bool
is_feed b = b == 10

-- the same of all that comes after line n
abbrev pub rows_after : ℕ → Option SoFar → List ℕ → Result (List Row) LineFault
rows_after n so_far bytes = rows_in n so_far (slice_split is_feed bytes)

abbrev pub header : List ℕ
header = codes "guest,salt,pages,sample,digest,copies"

-- the first line: it has six fields, and is the header
abbrev pub check_header : List ℕ → Result (Unit {0}) Cause
check_header bytes =
    if nat_lt MAX_LINE_BYTES (length bytes) || not (count_by is_comma bytes == 5) then Err causes.Form
    else if not (bytes_eq bytes header) then Err causes.Head
    else Ok tt

-- What a digest's text says: its rows, or its first fault.
unfoldable pub digest_of : List ℕ → Result (List Row) LineFault
digest_of text = if nat_lt (position_or_len is_feed text) (length text)
    then (at_line 1 (check_header (before_first is_feed text)) >>= λ _. rows_after 1 None (after_first is_feed text))
    else Err (record { line = 1; cause = causes.Form })
