-- What holds whatever looks find.
use Rattle.std.specs.Prelude.{◌≡◌, ℕ, ◌+◌, ◌*◌, ◌/◌, ◌<◌, ◌≤◌, max, Bool, true, false, List, [], ◌∷◌}
use Rattle.look_tasks.specs.declared.times.LookFinds.{LookFinds}
use Rattle.look_tasks.specs.declared.times.LookTimes.{LookTimes}
use Rattle.look_tasks.specs.declared.times.TheConstants.{EAGER_LOOKS}
use Rattle.look_tasks.specs.Times.{begun, made_eager, is_much, is_calm_look, looked, pause_of}

-- what happens: a window or a lender is new, or a look has found something, with a lender or without
pub data Happened : Type 0 where
  news : Happened
  finds : LookFinds → Bool → Happened

abbrev pub then : LookTimes → Happened → LookTimes
then t news = made_eager t
then t (finds f may_lend) = looked t f may_lend

-- after all this, of which the latest is the first
abbrev pub after : ℕ → List Happened → LookTimes
after period [] = begun period
after period (x ∷ xs) = then (after period xs) x

-- The next look comes within two and a quarter periods, and not at once.
abbrev pub StaysInBounds : Type 0
StaysInBounds =
    (period : ℕ) (xs : List Happened) → 1 ≤ period →
    (1 ≤ (after period xs).now_ms) × ((after period xs).now_ms ≤ 2 * period + period / 4)

-- after looks with a lender, of which the latest is the first
abbrev pub lending : LookTimes → List LookFinds → LookTimes
lending t [] = t
lending t (f ∷ fs) = looked (lending t fs) f true

abbrev pub many : List LookFinds → ℕ
many [] = 0
many (f ∷ fs) = many fs + 1

-- Whatever was before, each of so many looks after something new is followed by the next within a quarter of a period.
abbrev pub EagerComesSooner : Type 0
EagerComesSooner =
    (t : LookTimes) (f : LookFinds) (fs : List LookFinds) → many (f ∷ fs) ≤ EAGER_LOOKS →
    (lending (made_eager t) (f ∷ fs)).now_ms ≡ max (t.period_ms / 4) 1

-- So is a look that found much.
abbrev pub MuchComesSooner : Type 0
MuchComesSooner = (t : LookTimes) (f : LookFinds) (may_lend : Bool) → is_much f ≡ true → (looked t f may_lend).now_ms ≡ max (t.period_ms / 4) 1

-- After a look that found more than next to nothing the next comes within a period.
abbrev pub FoundComesInTime : Type 0
FoundComesInTime = (t : LookTimes) (f : LookFinds) (may_lend : Bool) → is_calm_look f ≡ false → 1 ≤ t.period_ms → (looked t f may_lend).now_ms ≤ t.period_ms

-- after looks without anything new, of which the latest is the first, all with a lender or all without
abbrev pub calmly : Bool → LookTimes → List LookFinds → LookTimes
calmly may_lend t [] = t
calmly may_lend t (f ∷ fs) = looked (calmly may_lend t fs) f may_lend

pub data AllCalm : List LookFinds → Type 0 where
  none : AllCalm []
  more : {f : LookFinds} → {fs : List LookFinds} → is_calm_look f ≡ true → AllCalm fs → AllCalm (f ∷ fs)

-- Looks in a row that find next to nothing are two periods apart in the end.
abbrev pub CalmComesLater : Type 0
CalmComesLater =
    (may_lend : Bool) (t : LookTimes) (fs : List LookFinds) → t.eager ≡ 0 → 4 ≤ t.period_ms → AllCalm fs → 44 ≤ many fs →
    2 * t.period_ms ≤ (calmly may_lend t fs).now_ms

-- Pages that nobody else has are asked about again at one look in 4 to 512.
abbrev pub TurnsStayInBounds : Type 0
TurnsStayInBounds = (period : ℕ) (xs : List Happened) → (4 ≤ (after period xs).turns) × ((after period xs).turns ≤ 512)

-- Two looks begin as far apart as they are to, or further.
abbrev pub LooksAreApart : Type 0
LooksAreApart = (t : LookTimes) (took : ℕ) → t.now_ms ≤ took + pause_of t took

-- A pause is a sixteenth of that at least, and after a long calm as long as the look was.
abbrev pub PausesAreEnough : Type 0
PausesAreEnough = (t : LookTimes) (took : ℕ) → (t.now_ms < 16 * pause_of t took) × (30 ≤ t.calm → took ≤ pause_of t took)
