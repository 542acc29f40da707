-- The lines of a whole text rise, and each lists a copy at least.
use Rattle.std.proofs.Common.{◌≡◌, ℕ, ◌+◌, ◌≤◌, Bool, true, false, cond, List, [], ◌∷◌, refl, sym, arith}
use Rattle.std.proofs.lemmas.Bool.{ltb-true}
use Rattle.std.specs.Prelude.{Option, Some, None, Result, Ok, Err, not, nat_lt, is_none, ◌&&◌, ◌==◌}
use Rattle.guest_digests.specs.Samples.{is_kept}
use Rattle.digest_text.specs.Fields.{Row, row_in}
use Rattle.digest_text.specs.Rows.{◌>>=◌, after_row, at_line, ended, is_all, is_of_guest, left_before, less, line_after, rises, rows_in, sampling_of, with_row}
use Rattle.digest_text.specs.declared.fault.Cause.{Cause}
use Rattle.digest_text.specs.declared.fault.Cause.TheVariants as causes
use Rattle.digest_text.specs.declared.fault.LineFault.{LineFault}
use Rattle.digest_text.specs.declared.so_far.SoFar.{SoFar}
use Rattle.fleet_census.specs.Fleets.{lines_of}
use Rattle.fleet_census.specs.States.{From}
use Rattle.fleet_census.proofs.SomeCopies.{some_row}

-- an answer that was passed on came from one
passed_on : {A B F : Type 0} (r : Result A F) (f : A → Result B F) (y : B) → (r >>= f) ≡ Ok y → (x : A) × (r ≡ Ok x) × (f x ≡ Ok y)
passed_on (Ok x) f y e = (x, refl, e)
passed_on (Err fault) f y e = absurd cc

not_at_fault : {X : Type 0} (n : ℕ) (r : Result X Cause) (x : X) → at_line n r ≡ Ok x → r ≡ Ok x
not_at_fault n (Ok y) x e = let same : y ≡ x = cc in rw same refl
not_at_fault n (Err cause) x e = absurd cc

-- the digest that lines begin with, after what was said so far
abbrev lowest : Option SoFar → ℕ
lowest None = 0
lowest (Some so_far) = so_far.digest + 1

rises_above : (so_far : Option SoFar) (digest : ℕ) → rises so_far digest ≡ true → lowest so_far ≤ digest
rises_above None digest e = omega arith
rises_above (Some so_far) digest e = omega (arith, ltb-true so_far.digest digest e)

unless_faults : (guest order sample total : Bool) (after new : SoFar)
    → cond (not guest) (Err causes.Guest) (cond (not order) (Err causes.Order) (cond (not sample) (Err causes.Sample) (cond total (Err causes.Total) (Ok after)))) ≡ Ok new
    → (order ≡ true) × (after ≡ new)
unless_faults false order sample total after new e = absurd cc
unless_faults true false sample total after new e = absurd cc
unless_faults true true false total after new e = absurd cc
unless_faults true true true true after new e = absurd cc
unless_faults true true true false after new e = (refl, cc)

row_rises : (so_far : Option SoFar) (row : Row) (new : SoFar) → after_row so_far row ≡ Ok new → (lowest so_far ≤ row.line.digest) × (new.digest ≡ row.line.digest)
unfolding after_row
row_rises so_far row new e =
    let sound = unless_faults (is_of_guest so_far row.head) (rises so_far row.line.digest) (is_kept (sampling_of so_far row.head) row.line.digest)
    (nat_lt 1 row.head.sample && is_none (less (left_before so_far row.head) row.line.copies)) _ new e in
    (rises_above so_far row.line.digest sound.0, let same = sound.1 in cc)

line_rises : (so_far : Option SoFar) (read : Option Row) (bytes : List ℕ) → read ≡ row_in bytes → (x : SoFar × Row) → with_row so_far read ≡ Ok x
    → (lowest so_far ≤ x.1.line.digest) × (x.0.digest ≡ x.1.line.digest) × (1 ≤ x.1.line.copies)
line_rises so_far None bytes is x e = absurd cc
line_rises so_far (Some row) bytes is x e =
    let noted = passed_on (after_row so_far row) _ x e in
    let row_is : row ≡ x.1 = let h = noted.2 in cc in
    let after_is : noted.0 ≡ x.0 = let h = noted.2 in cc in
    let rising = row_rises so_far row noted.0 noted.1 in
    let copies = some_row bytes row (sym is) in
    rw (← row_is, ← after_is) (rising.0, rising.1, copies)

whole_end : (n : ℕ) (b : Bool) (cause : LineFault) (rows : List Row) → cond b (Err cause) (Ok []) ≡ Ok rows → rows ≡ []
whole_end n true cause rows e = absurd cc
whole_end n false cause rows e = cc

no_more : (n : ℕ) (so_far : Option SoFar) (rows : List Row) → ended n so_far ≡ Ok rows → rows ≡ []
no_more n None rows e = cc
no_more n (Some so_far) rows e = whole_end n (so_far.head.sample == 1 && not (is_all so_far.left)) (record { line = n; cause = causes.Total }) rows e

pub rows_from : (n : ℕ) (so_far : Option SoFar) (pieces : List (List ℕ)) (rows : List Row) → rows_in n so_far pieces ≡ Ok rows → From (lowest so_far) (lines_of rows)
unfolding rows_in
rows_from n so_far [] rows e = let none = no_more n so_far rows e in rw none tt
rows_from n so_far ([] ∷ []) rows e = let none = no_more n so_far rows e in rw none tt
rows_from n so_far ((b ∷ bytes) ∷ []) rows e = absurd cc
rows_from n so_far (bytes ∷ line ∷ lines) rows e =
    let first = passed_on (at_line (line_after n) (with_row so_far (row_in bytes))) _ rows e in
    let next = passed_on (rows_in (line_after n) (Some first.0.0) (line ∷ lines)) _ rows first.2 in
    let is : first.0.1 ∷ next.0 ≡ rows = let h = next.2 in cc in
    let noted = line_rises so_far (row_in bytes) bytes refl first.0 (not_at_fault (line_after n) (with_row so_far (row_in bytes)) first.0 first.1) in
    let rest : From (first.0.0.digest + 1) (lines_of next.0) = rows_from (line_after n) (Some first.0.0) (line ∷ lines) next.0 next.1 in
    let rest_on : From (first.0.1.line.digest + 1) (lines_of next.0) = rw (← noted.1) rest in
    rw (← is) (noted.0, noted.2, rest_on)
