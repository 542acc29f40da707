-- At one look in how many pages are asked about again.
use Rattle.std.proofs.Common.{ℕ, ◌*◌, ◌/◌, ◌≤◌, Bool, true, false, cond, [], ◌∷◌, arith}
use Rattle.std.specs.Prelude.{max, min}
use Rattle.look_tasks.specs.declared.times.LookTimes.{LookTimes}
use Rattle.look_tasks.specs.declared.times.TheConstants.{TURNS_LEAST, TURNS_MOST}
use Rattle.look_tasks.specs.Times.{is_cheap, is_dear}
use Rattle.look_tasks.specs.TimeLaws.{news, finds, after, TurnsStayInBounds}

abbrev turned : LookTimes → Bool → Bool → ℕ
turned t b c = cond b (min (t.turns * 2) TURNS_MOST) (cond c (max (t.turns / 2) TURNS_LEAST) t.turns)

one : (t : LookTimes) (b c : Bool) → 4 ≤ t.turns → t.turns ≤ 512 → (4 ≤ turned t b c) × (turned t b c ≤ 512)
one t true c least most = (omega (arith, least), omega arith)
one t false true least most = (omega arith, omega (arith, most))
one t false false least most = (least, most)

pub turns_stay_in_bounds : TurnsStayInBounds
turns_stay_in_bounds period [] = (omega arith, omega arith)
turns_stay_in_bounds period (news ∷ xs) = turns_stay_in_bounds period xs
turns_stay_in_bounds period (finds f may_lend ∷ xs) =
    let before = turns_stay_in_bounds period xs in
    one (after period xs) (is_dear (after period xs) f) (is_cheap (after period xs) f) before.0 before.1
