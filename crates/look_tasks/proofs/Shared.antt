-- What a thread uses that does these tasks by a budget.
use Rattle.std.proofs.Common.{◌≡◌, ◌∙◌, ℕ, ◌+◌, ◌-◌, ◌*◌, ◌/◌, ◌<◌, ◌≤◌, Bool, true, false, cond, List, [], ◌∷◌, ◌++◌, refl, ap, sym, subst, arith}
use Rattle.std.specs.Prelude.{min, nat_eq}
use Rattle.std.proofs.lemmas.Bool.{leb-false}
use Rattle.std.proofs.lemmas.Nat.{le-div}
use Rattle.look_tasks.proofs.Timed.{awake_then}
use Rattle.look_tasks.specs.Shares.{KeepsToItsShare, after_moves, calls_of}
use Rattle.look_tasks.proofs.Stretched.{one_order_more}
use Rattle.look_tasks.specs.Budgets.{Call, Ledger, called, credits, may_work, rate, settled, settles, wait_of}
use Rattle.look_tasks.specs.Stretches.{after, given}

after_more : (cs : List Call) (b : Ledger) (c : Call) → after called b (cs ++ c ∷ []) ≡ called (after called b cs) c
after_more [] b c = refl
after_more (d ∷ cs) b c = after_more cs (called b d) c

given_more : (cs : List Call) (now spent : ℕ) → given (cs ++ settles now spent ∷ []) ≡ given cs
given_more [] now spent = refl
given_more (settles n s ∷ cs) now spent = given_more cs now spent
given_more (credits ns ∷ cs) now spent = ap (λ k. ns + k) (given_more cs now spent)

-- no call changes the rates
record SameRates (b c : Ledger) : Type 0 where
  percent : c.percent ≡ b.percent
  burst : c.burst ≡ b.burst

rates_stay : (cs : List Call) (b : Ledger) → SameRates b (after called b cs)
rates_stay [] b = record { percent = refl; burst = refl }
rates_stay (settles now spent ∷ cs) b =
    let s : SameRates (settled b now spent) (after called (settled b now spent) cs) = rates_stay cs (settled b now spent) in
    record { percent = s.percent; burst = s.burst }
rates_stay (credits ns ∷ cs) b =
    let s : SameRates (called b (credits ns)) (after called (called b (credits ns)) cs) = rates_stay cs (called b (credits ns)) in
    record { percent = s.percent; burst = s.burst }

rate_is : (b : Ledger) → 1 ≤ b.percent → b.percent ≤ b.burst → 1 ≤ rate b
rate_is b p q = pick (nat_eq b.credit 0) where
  pick : (c : Bool) → 1 ≤ cond c b.percent b.burst
  pick true = p
  pick false = omega (arith, p, q)

reaches : (owed most r : ℕ) → most < owed → 1 ≤ r → 1 * r ≤ min owed 10000000000 * 100 + r - 1
reaches owed most r h k = omega arith

-- a thread that needn't wait may work
works_awake : (b : Ledger) → 1 ≤ b.percent → b.percent ≤ b.burst → wait_of b ≡ 0 → may_work b ≡ true
works_awake b p q e = pick (may_work b) refl e where
  pick : (w : Bool) → may_work b ≡ w → cond w 0 ((min b.owed 10000000000 * 100 + rate b - 1) / rate b) ≡ 0 → may_work b ≡ true
  pick true i f = i
  pick false i f =
      let owes : b.owed_most < b.owed = leb-false b.owed b.owed_most i in
      let one : 1 ≤ rate b = rate_is b p q in
      let long : 1 ≤ (min b.owed 10000000000 * 100 + rate b - 1) / rate b =
      le-div 1 (min b.owed 10000000000 * 100 + rate b - 1) (rate b) (omega (arith, one)) (reaches b.owed b.owed_most (rate b) owes one) in
      absurd (omega (arith, long, f))

-- what is used is within these
abbrev Within : Ledger → Ledger → ℕ → ℕ → Type 0
Within b to credit used = 100 * (used - b.spent) ≤ b.percent * (to.time - b.time) + 100 * (b.saved + b.credit + credit + b.owed_most + (used - to.spent))

pub keeps_to_its_share : KeepsToItsShare
keeps_to_its_share t b ms now spent used p q w h =
    let before : Ledger = after called b (calls_of ms) in
    let to : Ledger = settled before now spent in
    let calls : List Call = calls_of ms ++ settles now spent ∷ [] in
    let same : SameRates b before = rates_stay (calls_of ms) b in
    let awake : wait_of to ≡ 0 = awake_then (after_moves t b ms) now (wait_of to) w in
    let may : may_work to ≡ true = works_awake to (omega (arith, p, same.percent)) (omega (arith, q, same.percent, same.burst)) awake in
    let all : after called b calls ≡ to = after_more (calls_of ms) b (settles now spent) in
    let used_all : (after called b calls).spent ≤ used = subst (λ (l : Ledger). l.spent ≤ used) (sym all) h in
    let within : Within b (after called b calls) (given calls) used = one_order_more b calls used q (ap may_work all ∙ may) used_all in
    let with_to : Within b to (given calls) used = subst (λ (l : Ledger). Within b l (given calls) used) all within in
    subst (λ k. Within b to k used) (given_more (calls_of ms) now spent) with_to
