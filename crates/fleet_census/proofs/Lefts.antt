-- What is left of a file's lines.
use Rattle.std.proofs.Common.{◌≡◌, ◌≢◌, ℕ, ◌+◌, ◌-◌, ◌^◌, ◌<◌, ◌≤◌, ◌⊎◌, cond, eqb, List, [], ◌∷◌, ◌++◌, refl, sym, ap, ◌∙◌, arith, inl, inr, append_assoc}
use Rattle.std.proofs.lemmas.Bool.{eq-eqb, ne_eqb}
use Rattle.std.proofs.lemmas.List.Sums.{sum_by-cons}
use Rattle.std.specs.Prelude.{Option, Some, None, Ok, Err, IfSome}
use Rattle.guest_digests.specs.Counted.{listed_copies}
use Rattle.guest_digests.specs.declared.line.DigestLine.{DigestLine}
use Rattle.digest_text.specs.Fields.{Row}
use Rattle.digest_text.specs.Rows.{◌>>=◌}
use Rattle.digest_text.specs.declared.fault.LineFault.{LineFault}
use Rattle.fleet_census.specs.Fleets.{copies_of, lines_of}
use Rattle.fleet_census.specs.States.{From, IsBehind, IsChained, IsLeft, IsRead, IsUnread, Said, lines_left}
use Rattle.fleet_census.specs.declared.entry.Entry.{Entry}
use Rattle.fleet_census.specs.declared.entry.TheConstants.{AT_END, NO_FILE}
use Rattle.fleet_census.specs.declared.fault.FleetFault.TheVariants.{Line}

counted_line : (digest : ℕ) (line : DigestLine) (lines : List DigestLine) → listed_copies digest (line ∷ lines) ≡ cond (eqb line.digest digest) line.copies 0 + listed_copies digest lines
counted_line digest line lines = sum_by-cons (λ (l : DigestLine). cond (eqb l.digest digest) l.copies 0) line lines

-- lines that rise list no digest before the first
pub none_before : (digest low : ℕ) (lines : List DigestLine) → From low lines → digest < low → listed_copies digest lines ≡ 0
none_before digest low [] from less = refl
none_before digest low (line ∷ lines) from less =
    let other : line.digest ≢ digest = omega (arith, from.0) in
    let rest = none_before digest (line.digest + 1) lines from.2 (omega (arith, from.0)) in
    counted_line digest line lines ∙ rw (ne_eqb line.digest digest other) (omega (arith, rest))

-- the first line was taken
pub line_taken : (lines : List DigestLine) (bound digest : ℕ) (line : DigestLine) (rest : List DigestLine) → IsLeft lines bound (line ∷ rest)
    → line.digest ≡ digest → (listed_copies digest lines ≡ line.copies) × IsLeft lines (digest + 1) rest
line_taken lines bound digest line rest left is =
    let none = none_before digest (line.digest + 1) rest left.from.2 (omega arith) in
    let within : bound ≤ digest = omega (arith, left.from.0) in (
      left.same digest within ∙ counted_line digest line rest ∙ rw (eq-eqb line.digest digest is) (omega (arith, none)),
      record {
        same = λ other above.
            let ne : line.digest ≢ other = omega arith in
            left.same other (omega arith) ∙ counted_line other line rest ∙ rw (ne_eqb line.digest other ne) (omega arith);
        from = rw is at left.from.2;
      },
    )

-- what is left begins later than the bound
pub left_raised : (lines : List DigestLine) (bound above : ℕ) (left : List DigestLine) → IsLeft lines bound left → bound ≤ above → From above left → IsLeft lines above left
left_raised lines bound above left is within from = record { same = λ digest low. is.same digest (omega arith); from = from }

pub none_between : (lines : List DigestLine) (bound above : ℕ) (left : List DigestLine) (digest : ℕ) → IsLeft lines bound left → From above left
    → bound ≤ digest → digest < above → listed_copies digest lines ≡ 0
none_between lines bound above left digest is from low high = is.same digest low ∙ none_before digest above left from high

more_done : (done : List Row) (row : Row) (left : Said)
    → ((left >>= λ more. Ok (row ∷ more)) >>= λ rest. Ok (done ++ rest)) ≡ (left >>= λ rest. Ok ((done ++ row ∷ []) ++ rest))
more_done done row (Ok rest) = rw (append_assoc done (row ∷ []) rest) refl
more_done done row (Err fault) = refl

-- what a file says is read on, or its fault is reported
pub chained_on : (file : ℕ) (said : Said) (rows_left now : Option Said) (entry : Entry) → IsChained said rows_left
    → IfSome rows_left (λ (before : Said). IsRead file before now (Ok entry)) → IsChained said now
chained_on file said None now entry chained read = let e = chained.is in absurd cc
chained_on file said (Some before) None entry chained read = absurd read
chained_on file said (Some before) (Some after) entry chained read =
    let same : chained.left ≡ before = let e = chained.is in cc in
    elim read [
      | inl ended ↦ record { done = chained.done; left = after; is = refl; whole = chained.whole ∙ rw (same, ended.1, ended.2) refl }
      | inr line ↦
          let row : Row = record { head = line.head; line = record { digest = entry.digest; copies = entry.copies } } in
          record { done = chained.done ++ row ∷ []; left = after; is = refl; whole = chained.whole ∙ rw (same, line.rows_are) (more_done chained.done row after) }
    ]

-- where there is no next line, nothing is left to read
pub no_row_left : (file : ℕ) (rows_left now : Option Said) (entry : Entry) (left : Said) → rows_left ≡ Some left → file < 2 ^ 32 - 1
    → IfSome rows_left (λ (before : Said). IsRead file before now (Ok entry)) → entry.file ≡ NO_FILE → now ≡ Some (Ok [])
no_row_left file None now entry left is low read none = absurd cc
no_row_left file (Some before) None entry left is low read none = absurd read
no_row_left file (Some before) (Some after) entry left is low read none = elim read [
  | inl ended ↦ ap Some ended.2
  | inr line ↦ absurd (omega (arith, line.own, none, low))
]

pub chained_fault : (file number : ℕ) (said : Said) (rows_left now : Option Said) (fault : LineFault) → IsChained said rows_left
    → IfSome rows_left (λ (before : Said). IsRead file before now (Err (Line number fault))) → (number ≡ file) × (said ≡ Err fault)
chained_fault file number said None now fault chained read = let e = chained.is in absurd cc
chained_fault file number said (Some before) None fault chained read = absurd read
chained_fault file number said (Some before) (Some after) fault chained read =
    let same : chained.left ≡ Err fault = let e = chained.is in let same_rows = read.1 in cc in
    (read.0, chained.whole ∙ rw same refl)

-- the line of an entry of a file
own_line : (entry : Entry) (file : ℕ) (lines : List DigestLine) → entry.file ≡ file → file < 2 ^ 32 - 1
    → lines_left entry lines ≡ record { digest = entry.digest; copies = entry.copies } ∷ lines
own_line entry file lines own low = let ne : entry.file ≢ NO_FILE = omega arith in rw (ne_eqb entry.file NO_FILE ne) refl

-- what is left where a line came first
pub rest_of : (left : Said) (rows : List Row) (row : Row) → Ok rows ≡ (left >>= λ more. Ok (row ∷ more)) → (rest : List Row) × (left ≡ Ok rest) × (rows ≡ row ∷ rest)
rest_of (Ok rest) rows row e = (rest, refl, cc)
rest_of (Err fault) rows row e = absurd cc

module _ (rows : List Row) (bound : ℕ) where
  -- what comes next of a file was read
  pub read_behind : (file : ℕ) (rows_left now : Option Said) (entry : Entry) → IsUnread rows bound rows_left → file < 2 ^ 32 - 1
      → IfSome rows_left (λ (before : Said). IsRead file before now (Ok entry)) → IsBehind rows bound entry now
  read_behind file None now entry unread low read = let e = unread.is in absurd cc
  read_behind file (Some before) None entry unread low read = absurd read
  read_behind file (Some before) (Some after) entry unread low read =
      let same : before ≡ Ok unread.rest = let e = unread.is in cc in
      elim read [
        | inl ended ↦
            let none : unread.rest ≡ [] = let e = ended.1 in cc in
            record { rest = []; is = rw ended.2 refl; at_end = λ e. refl; left = rw ended.0 (rw none at unread.left) }
        | inr line ↦
            let row : Row = record { head = line.head; line = record { digest = entry.digest; copies = entry.copies } } in
            let more = rest_of after unread.rest row (sym same ∙ line.rows_are) in
            let is : Some after ≡ Some (Ok more.0) = ap (λ (left : Said). Some left) more.1 in
            record {
              rest = more.0;
              is = is;
              at_end = λ e. absurd (omega (arith, line.own));
              left = rw (own_line entry file (lines_of more.0) line.own low) (rw more.2 at unread.left);
            }
      ]

  -- a line that was read is taken
  pub behind_taken : (digest : ℕ) (entry : Entry) (file : ℕ) (rows_left : Option Said) → IsBehind rows bound entry rows_left → entry.file ≡ file → file < 2 ^ 32 - 1
      → entry.digest ≡ digest → IsUnread rows (digest + 1) rows_left × (copies_of digest rows ≡ entry.copies) × (bound ≤ digest) × (1 ≤ entry.copies)
  behind_taken digest entry file rows_left behind own low is =
      let left : IsLeft (lines_of rows) bound (record { digest = entry.digest; copies = entry.copies } ∷ lines_of behind.rest) = rw (own_line entry file (lines_of behind.rest) own low) at behind.left in
      let both = line_taken (lines_of rows) bound digest (record { digest = entry.digest; copies = entry.copies }) (lines_of behind.rest) left is in
      (record { rest = behind.rest; is = behind.is; left = both.1 }, both.0, rw is at left.from.0, left.from.1)

  -- what is left begins with the entry's line
  from_above : (above : ℕ) (entry : Entry) (file : ℕ) (rows_left : Option Said) (behind : IsBehind rows bound entry rows_left)
      → (entry ≡ AT_END) ⊎ ((entry.file ≡ file) × (above ≤ entry.digest)) → file < 2 ^ 32 - 1
      → From above (lines_left entry (lines_of behind.rest))
  from_above above entry file rows_left behind (inl ended) low =
      let none = behind.at_end (rw ended refl) in
      rw (none, ended) tt
  from_above above entry file rows_left behind (inr own) low =
      let left = rw (own_line entry file (lines_of behind.rest) own.0 low) at behind.left in
      rw (own_line entry file (lines_of behind.rest) own.0 low) (own.1, left.from.1, left.from.2)

  -- where all that is left comes later, the bound may be raised
  pub behind_raised : (above : ℕ) (entry : Entry) (file : ℕ) (rows_left : Option Said) → IsBehind rows bound entry rows_left → bound ≤ above
      → (entry ≡ AT_END) ⊎ ((entry.file ≡ file) × (above ≤ entry.digest)) → file < 2 ^ 32 - 1
      → IsBehind rows above entry rows_left × ((digest : ℕ) → bound ≤ digest → digest < above → copies_of digest rows ≡ 0)
  behind_raised above entry file rows_left behind within which low =
      let from = from_above above entry file rows_left behind which low in (
        record {
          rest = behind.rest;
          is = behind.is;
          at_end = behind.at_end;
          left = left_raised (lines_of rows) bound above (lines_left entry (lines_of behind.rest)) behind.left within from;
        },
        λ digest ge lt. none_between (lines_of rows) bound above (lines_left entry (lines_of behind.rest)) digest behind.left from ge lt,
      )

  -- the entry of a line lists a digest from the bound on
  pub behind_low : (entry : Entry) (file : ℕ) (rows_left : Option Said) → IsBehind rows bound entry rows_left → entry.file ≡ file → file < 2 ^ 32 - 1 → bound ≤ entry.digest
  behind_low entry file rows_left behind own low =
      let left : IsLeft (lines_of rows) bound (record { digest = entry.digest; copies = entry.copies } ∷ lines_of behind.rest) = rw (own_line entry file (lines_of behind.rest) own low) at behind.left in
      left.from.0
