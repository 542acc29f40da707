-- What letting debts off does to a budget.
use Rattle.std.proofs.Common.{◌≡◌, ◌∙◌, ℕ, ◌+◌, ◌-◌, ◌*◌, ◌≤◌, Bool, true, false, cond, List, [], ◌∷◌, refl, ap, arith}
use Rattle.std.specs.Prelude.{min}
use Rattle.std.proofs.lemmas.Bool.{le-leb, leb-true}
use Rattle.look_tasks.specs.Budgets.{Ledger, Call, settles, credits, settled, credited, may_work, due, by_saved, by_share, by_credit}
use Rattle.look_tasks.specs.Stretches.{after, lets_off, LettingOffIsWrong, NothingIsLetOff}

-- A thread with a whole processor uses a nanosecond more than is owed at most, and then waits until that is paid. The one is let off.
pub letting_off_is_wrong : LettingOffIsWrong
letting_off_is_wrong most h =
    let b : Ledger = record { percent = 100; burst = 100; saved_most = 0; owed_most = 0; credit_most = 0; time = 0; spent = 0; saved = 0; owed = 0; credit = 0 } in
    let cs : List Call = settles 0 (most + 1) ∷ settles most (most + 1) ∷ [] in
    let to : Ledger = after (lets_off most) b cs in
    let none : to.owed ≤ 0 = omega arith in
    let used : 100 * (most + 1 - 0) ≤ 100 * (to.time - 0) + 100 * (0 + 0 + 0 + 0 + (most + 1 - to.spent)) = h b cs (most + 1) (omega arith) (le-leb to.owed 0 none) (omega arith) in
    absurd (omega (arith, used))

-- no more is owed than was due
owes_less : (d s h c : ℕ) → d - s - h - c ≤ d
owes_less d s h c = omega arith

due_within : (most longest : ℕ) (b : Ledger) (spent : ℕ) → b.owed_most + longest ≤ most → b.owed ≤ most →
    spent - b.spent ≤ cond (may_work b) longest 0 → due b spent ≤ most
due_within most longest b spent l o w = pick (may_work b) refl w where
  pick : (m : Bool) → may_work b ≡ m → spent - b.spent ≤ cond m longest 0 → due b spent ≤ most
  pick true m k = omega (arith, l, k, leb-true b.owed b.owed_most m)
  pick false m k = omega (arith, o, k)

is_all : (x most : ℕ) → x ≤ most → min x most ≡ x
is_all x most l = omega arith

pub nothing_is_let_off : NothingIsLetOff
nothing_is_let_off most longest b [] l o w = refl
nothing_is_let_off most longest b (settles now spent ∷ cs) l o w =
    let now_owed : (settled b now spent).owed ≤ most =
    omega (arith, owes_less (due b spent) (by_saved b spent) (by_share b now spent) (by_credit b now spent), due_within most longest b spent l o w.0) in
    let same : lets_off most b (settles now spent) ≡ settled b now spent =
    ap (λ x. record (settled b now spent) { owed = x }) (is_all (settled b now spent).owed most now_owed) in
    ap (λ x. after (lets_off most) x cs) same ∙ nothing_is_let_off most longest (settled b now spent) cs l now_owed w.1
nothing_is_let_off most longest b (credits ns ∷ cs) l o w =
    let same : lets_off most b (credits ns) ≡ credited b ns = ap (λ x. record (credited b ns) { owed = x }) (is_all b.owed most o) in
    ap (λ x. after (lets_off most) x cs) same ∙ nothing_is_let_off most longest (credited b ns) cs l o w
