-- What is left.
use Rattle.std.proofs.Common.{◌≡◌, ℕ, ◌+◌, ◌-◌, ◌*◌, ◌/◌, ◌≤◌, Bool, true, false, cond, ◌||◌, List, [], ◌∷◌, refl, arith}
use Rattle.std.specs.Prelude.{max, nat_eq, nat_le}
use Rattle.std.proofs.lemmas.Bool.{leb-true, eqb-true}
use Rattle.look_tasks.specs.Rooms.{spare_of, most_of, fits}
use Rattle.look_tasks.specs.RoomLaws.{LeavesEnough, LeavesATenth, takes, gives, Move, moved, after, StaysWithin}

-- where some fit, they are within the most
within : (most taken count : ℕ) → 1 ≤ count → fits most taken count ≡ true → taken + count ≤ most
within most taken count some e = pick (nat_eq count 0) refl e where
  pick : (b : Bool) → nat_eq count 0 ≡ b → (b || nat_le (taken + count) most) ≡ true → taken + count ≤ most
  pick true n f = absurd (omega (arith, some, eqb-true count 0 n))
  pick false n f = leb-true (taken + count) most f

pub leaves_enough : LeavesEnough
leaves_enough limit taken count some e =
    let w : taken + count ≤ limit - spare_of limit = within (most_of limit) taken count some e in
    omega (arith, w, some)

tenth : (limit spare : ℕ) → spare ≡ max (limit / 10) 4000 → (4000 ≤ spare) × (limit ≤ 10 * spare + 9)
tenth limit spare e = (omega (arith, e), omega (arith, e))

pub leaves_a_tenth : LeavesATenth
leaves_a_tenth limit taken count some e =
    let l : taken + count + spare_of limit ≤ limit = leaves_enough limit taken count some e in
    let t = tenth limit (spare_of limit) refl in
    (omega (arith, l, t.0), omega (arith, l, t.1))

one_within : (most taken : ℕ) (m : Move) → taken ≤ most → moved most taken m ≤ most
one_within most taken (gives count) l = omega (arith, l)
one_within most taken (takes count) l = pick (fits most taken count) refl where
  pick : (b : Bool) → fits most taken count ≡ b → cond b (taken + count) taken ≤ most
  pick false e = l
  pick true e = other (nat_eq count 0) refl e where
    other : (b : Bool) → nat_eq count 0 ≡ b → (b || nat_le (taken + count) most) ≡ true → taken + count ≤ most
    other true n f = omega (arith, l, eqb-true count 0 n)
    other false n f = leb-true (taken + count) most f

all_within : (most taken : ℕ) (ms : List Move) → taken ≤ most → after most taken ms ≤ most
all_within most taken [] l = l
all_within most taken (m ∷ ms) l = all_within most (moved most taken m) ms (one_within most taken m l)

pub stays_within : StaysWithin
stays_within limit ms = all_within (most_of limit) 0 ms (omega arith)
