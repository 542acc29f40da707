-- A line of the form lists a copy at least.
use Rattle.std.proofs.Common.{◌≡◌, ◌≢◌, ℕ, ◌≤◌, ◌^◌, ◌-◌, Bool, true, false, cond, eqb, List, refl, arith}
use Rattle.std.proofs.lemmas.Bool.{eqb-false}
use Rattle.std.specs.Prelude.{Option, Some, None, length, nat_lt}
use Rattle.digest_text.specs.Fields.{◌>>=◌, Row, copies_in, counted_in, digest_in, field_in, head_in, number_in, row_in}
use Rattle.digest_text.proofs.Fronts.{found_first}
use Rattle.guest_digests.specs.declared.line.DigestLine.{DigestLine}

some_unless : (none : Bool) (n copies : ℕ) → eqb n 0 ≡ none → cond none None (Some n) ≡ Some copies → 1 ≤ copies
some_unless true n copies zero e = absurd cc
some_unless false n copies zero e = let same : n ≡ copies = cc in let some : n ≢ 0 = eqb-false n 0 zero in omega arith

some_copies : (word : List ℕ) (copies : ℕ) → copies_in word ≡ Some copies → 1 ≤ copies
unfolding copies_in
some_copies word copies e =
    let read = found_first (number_in (2 ^ 64 - 1) word) (λ n. cond (eqb n 0) None (Some n)) copies e in
    some_unless (eqb read.0 0) read.0 copies refl read.2

some_counted : (bytes : List ℕ) (line : DigestLine) → counted_in bytes ≡ Some line → 1 ≤ line.copies
unfolding counted_in
some_counted bytes line e =
    let field = found_first (field_in bytes) _ line e in
    let digest = found_first (digest_in field.0.0) _ line field.2 in
    let copies = found_first (copies_in field.0.1) _ line digest.2 in
    let same : copies.0 ≡ line.copies = let h = copies.2 in cc in
    omega (arith, same, some_copies field.0.1 copies.0 copies.1)

short_row : (long : Bool) (r : Option Row) (row : Row) → cond long None r ≡ Some row → r ≡ Some row
short_row true r row e = absurd cc
short_row false r row e = e

from_parts : (bytes : List ℕ) (row : Row) → (head_in bytes >>= λ head. counted_in head.1 >>= λ line. Some (record { head = head.0; line = line })) ≡ Some row → 1 ≤ row.line.copies
from_parts bytes row e =
    let head = found_first (head_in bytes) _ row e in
    let line = found_first (counted_in head.0.1) _ row head.2 in
    let same : line.0.copies ≡ row.line.copies = let h = line.2 in cc in
    omega (arith, same, some_counted head.0.1 line.0 line.1)

pub some_row : (bytes : List ℕ) (row : Row) → row_in bytes ≡ Some row → 1 ≤ row.line.copies
unfolding row_in
some_row bytes row e = from_parts bytes row (short_row (nat_lt 256 (length bytes)) (head_in bytes >>= λ head. counted_in head.1 >>= λ line. Some (record { head = head.0; line = line })) row e)
