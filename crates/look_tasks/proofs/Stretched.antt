-- What is used over a stretch of calls.
use Rattle.std.proofs.Common.{◌≡◌, ◌∙◌, ℕ, ◌+◌, ◌-◌, ◌*◌, ◌≤◌, List, [], ◌∷◌, refl, ap, sym, subst, arith}
use Rattle.std.specs.Prelude.{min, max}
use Rattle.std.proofs.lemmas.Bool.{leb-true}
use Rattle.std.proofs.Math.Nat.{mul-add}
use Rattle.look_tasks.specs.Budgets.{Ledger, Call, settles, credits, settled, credited, called, due, by_saved, share, by_share, extra, by_credit}
use Rattle.look_tasks.specs.Stretches.{after, given, EveryStretch, OneOrderMore, by_order_only}
use Rattle.look_tasks.proofs.Paid.{min_first, min_second, whole, pays, bursts, whole_burst}

-- what holds from one moment to a later one
record Ran (b to : Ledger) (credit : ℕ) : Type 0 where
  later : b.time ≤ to.time
  more : b.spent ≤ to.spent
  pays : 100 * (to.spent - b.spent) + 100 * b.owed + 100 * to.saved + 100 * to.credit ≤ b.percent * (to.time - b.time) + 100 * to.owed + 100 * b.saved + 100 * b.credit + 100 * credit
  bursts : 100 * (to.spent - b.spent) + 100 * b.owed + 100 * to.saved ≤ b.burst * (to.time - b.time) + 100 * to.owed + 100 * b.saved

trans_le : (x y z : ℕ) → x ≤ y → y ≤ z → x ≤ z
trans_le x y z h k = omega arith

later_by : (a b : ℕ) → max a b - a ≡ b - a
later_by a b = omega arith

settled_ran : (b : Ledger) (now spent : ℕ) → b.percent ≤ b.burst → Ran b (settled b now spent) 0
settled_ran b now spent order =
    let s : ℕ = by_saved b spent in
    let h : ℕ = by_share b now spent in
    let c : ℕ = by_credit b now spent in
    let kept : ℕ = min b.saved_most ((b.saved - s) + (share b now - h)) in
    let p : ℕ = b.percent * (now - b.time) in
    let q : ℕ = (b.burst - b.percent) * (now - b.time) in
    let used : max b.spent spent - b.spent ≡ spent - b.spent = later_by b.spent spent in
    let passed : max b.time now - b.time ≡ now - b.time = later_by b.time now in
    let by_shares : 100 * (spent - b.spent) + 100 * b.owed + 100 * kept + 100 * (b.credit - c) ≤ p + 100 * (due b spent - s - h - c) + 100 * b.saved + 100 * b.credit =
    pays b.saved b.owed b.credit (spent - b.spent) (share b now) p s h c kept (min_first _ _) (min_second _ _) (min_first _ _) (min_second _ _)
    (credit_at_most b now spent) (min_second _ _) (min_second _ _) (whole p) in
    let by_bursts : 100 * (spent - b.spent) + 100 * b.owed + 100 * kept ≤ (p + q) + 100 * (due b spent - s - h - c) + 100 * b.saved =
    bursts b.saved b.owed (spent - b.spent) (share b now) (extra b now) p q s h c kept (min_first _ _) (min_second _ _) (min_first _ _) (min_second _ _)
    (extra_at_most b now spent) (min_second _ _) (min_second _ _) (whole p) (whole q) in
    let is_burst : p + q ≡ b.burst * (now - b.time) = whole_burst b.percent b.burst (now - b.time) order in
    record {
      later = later b.time now;
      more = later b.spent spent;
      pays = subst (λ u. 100 * u + 100 * b.owed + 100 * kept + 100 * (b.credit - c) ≤ b.percent * (max b.time now - b.time) + 100 * (due b spent - s - h - c) + 100 * b.saved + 100 * b.credit + 100 * 0) (sym used)
          (subst (λ t. 100 * (spent - b.spent) + 100 * b.owed + 100 * kept + 100 * (b.credit - c) ≤ b.percent * t + 100 * (due b spent - s - h - c) + 100 * b.saved + 100 * b.credit + 100 * 0) (sym passed) (omega (arith, by_shares)));
      bursts = subst (λ u. 100 * u + 100 * b.owed + 100 * kept ≤ b.burst * (max b.time now - b.time) + 100 * (due b spent - s - h - c) + 100 * b.saved) (sym used)
          (subst (λ t. 100 * (spent - b.spent) + 100 * b.owed + 100 * kept ≤ b.burst * t + 100 * (due b spent - s - h - c) + 100 * b.saved) (sym passed)
          (subst (λ x. 100 * (spent - b.spent) + 100 * b.owed + 100 * kept ≤ x + 100 * (due b spent - s - h - c) + 100 * b.saved) is_burst by_bursts));
    } where
      later : (x y : ℕ) → x ≤ max x y
      later x y = omega arith

      credit_at_most : (b : Ledger) (now spent : ℕ) → by_credit b now spent ≤ b.credit
      credit_at_most b now spent = trans_le _ _ _ (min_first (min (extra b now) b.credit) (due b spent - by_saved b spent - by_share b now spent)) (min_second (extra b now) b.credit)

      extra_at_most : (b : Ledger) (now spent : ℕ) → by_credit b now spent ≤ extra b now
      extra_at_most b now spent = trans_le _ _ _ (min_first (min (extra b now) b.credit) (due b spent - by_saved b spent - by_share b now spent)) (min_first (extra b now) b.credit)

-- a credit
credited_ran : (b : Ledger) (ns : ℕ) → Ran b (credited b ns) ns
credited_ran b ns = record { later = omega arith; more = omega arith; pays = omega arith; bursts = omega arith }

-- one call, and those after it
in_two : (a b c : ℕ) → a ≤ b → b ≤ c → c - a ≡ (b - a) + (c - b)
in_two a b c h k = omega arith

joined : (b mid to : Ledger) (one more all : ℕ) → one + more ≡ all → mid.percent ≡ b.percent → mid.burst ≡ b.burst → Ran b mid one → Ran mid to more → Ran b to all
joined b mid to one more all e p q r s =
    let split : b.percent * (to.time - b.time) ≡ b.percent * (mid.time - b.time) + b.percent * (to.time - mid.time) =
    ap (λ t. b.percent * t) (in_two b.time mid.time to.time r.later s.later) ∙ mul-add b.percent (mid.time - b.time) (to.time - mid.time) in
    let burst_split : b.burst * (to.time - b.time) ≡ b.burst * (mid.time - b.time) + b.burst * (to.time - mid.time) =
    ap (λ t. b.burst * t) (in_two b.time mid.time to.time r.later s.later) ∙ mul-add b.burst (mid.time - b.time) (to.time - mid.time) in
    let spent : to.spent - b.spent ≡ (mid.spent - b.spent) + (to.spent - mid.spent) = in_two b.spent mid.spent to.spent r.more s.more in
    let second : 100 * (to.spent - mid.spent) + 100 * mid.owed + 100 * to.saved + 100 * to.credit ≤ b.percent * (to.time - mid.time) + 100 * to.owed + 100 * mid.saved + 100 * mid.credit + 100 * more =
    subst (λ k. 100 * (to.spent - mid.spent) + 100 * mid.owed + 100 * to.saved + 100 * to.credit ≤ k * (to.time - mid.time) + 100 * to.owed + 100 * mid.saved + 100 * mid.credit + 100 * more) p s.pays in
    let second_burst : 100 * (to.spent - mid.spent) + 100 * mid.owed + 100 * to.saved ≤ b.burst * (to.time - mid.time) + 100 * to.owed + 100 * mid.saved =
    subst (λ k. 100 * (to.spent - mid.spent) + 100 * mid.owed + 100 * to.saved ≤ k * (to.time - mid.time) + 100 * to.owed + 100 * mid.saved) q s.bursts in
    record {
      later = omega (arith, r.later, s.later);
      more = omega (arith, r.more, s.more);
      pays = omega (arith, e, split, spent, second, r.pays);
      bursts = omega (arith, burst_split, spent, second_burst, r.bursts);
    }

ran : (b : Ledger) (cs : List Call) → b.percent ≤ b.burst → Ran b (after called b cs) (given cs)
ran b [] order = record { later = omega arith; more = omega arith; pays = omega arith; bursts = omega arith }
ran b (settles now spent ∷ cs) order = joined b (settled b now spent) (after called (settled b now spent) cs) 0 (given cs) (given cs) (omega arith) refl refl (settled_ran b now spent order) (ran (settled b now spent) cs order)
ran b (credits ns ∷ cs) order = joined b (credited b ns) (after called (credited b ns) cs) ns (given cs) (ns + given cs) refl refl refl (credited_ran b ns) (ran (credited b ns) cs order)

pub every_stretch : EveryStretch called
every_stretch b cs order =
    let r : Ran b (after called b cs) (given cs) = ran b cs order in
    record { share = omega (arith, r.pays); burst = omega (arith, r.bursts) }

pub one_order_more : OneOrderMore called
one_order_more b cs spent order may more =
    let r : Ran b (after called b cs) (given cs) = ran b cs order in
    let owes : (after called b cs).owed ≤ (after called b cs).owed_most = leb-true (after called b cs).owed (after called b cs).owed_most may in
    let same : (after called b cs).owed_most ≡ b.owed_most = owed_most_stays b cs in
    omega (arith, r.pays, r.more, owes, same, more)
  where
    owed_most_stays : (b : Ledger) (cs : List Call) → (after called b cs).owed_most ≡ b.owed_most
    owed_most_stays b [] = refl
    owed_most_stays b (settles now spent ∷ cs) = owed_most_stays (settled b now spent) cs
    owed_most_stays b (credits ns ∷ cs) = owed_most_stays (credited b ns) cs

-- a budget that forgets what is owed, in which two orders of 100 take no time at all
pub forgets : EveryStretch by_order_only → ⊥
forgets h =
    let b : Ledger = record { percent = 10; burst = 10; saved_most = 0; owed_most = 0; credit_most = 0; time = 0; spent = 0; saved = 0; owed = 0; credit = 0 } in
    let two : 100 * 200 ≤ 10 * 0 + 100 * (0 + 0 + 0 + 100) = (h b (settles 0 100 ∷ settles 0 200 ∷ []) (omega arith)).share in
    absurd (omega (arith, two))
