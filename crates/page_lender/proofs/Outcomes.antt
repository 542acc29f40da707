-- Where each outcome leads, and what the host has then.
use Rattle.std.proofs.Common.{◌≡◌, ◌∙◌, ℕ, Bool, true, false, cond, Option, Some, None, refl, sym}
use Rattle.page_lender.specs.Decisions.{account, account_then, dropped, due, is_barred, order_at, order_home, prepared, target_slot, unshown}
use Rattle.page_lender.specs.Lender.{done_of, obeyed_at, shown_as}
use Rattle.page_lender.specs.declared.bars.Bars.{Bars}
use Rattle.page_lender.specs.declared.belief.Belief.{Belief}
use Rattle.page_lender.specs.declared.belief.Belief.TheVariants.{Private, Chosen, Copied, Turning, Shown, Leaving}
use Rattle.page_lender.specs.declared.belief.Homing.{Homing}
use Rattle.page_lender.specs.declared.belief.Homing.TheVariants.{Off, InPlace, Elsewhere}
use Rattle.page_lender.specs.declared.belief.Stage.{Stage}
use Rattle.page_lender.specs.declared.belief.Stage.TheVariants.{Ready, Held, Equal, LettingGo}
use Rattle.page_lender.specs.declared.belief.Target.{Target}
use Rattle.page_lender.specs.declared.belief.Target.TheVariants.{Frame, Zeros}
use Rattle.page_lender.specs.declared.order.Outcome.{Outcome}
use Rattle.page_lender.specs.declared.order.Outcome.TheVariants.{Done, Lent, Refused, Unknown}

unshown_account : (target : Target) → account (unshown target) ≡ target_slot target
unshown_account (Frame slot n) = refl
unshown_account Zeros = refl

shown_account : (target : Target) → account (shown_as target) ≡ target_slot target
shown_account (Frame slot n) = refl
shown_account Zeros = refl

-- a page that isn't to show its target keeps its slot
pub dropped_account : (stage : Stage) (target : Target) → account (dropped stage target) ≡ target_slot target
dropped_account Ready target = unshown_account target
dropped_account Held target = refl
dropped_account Equal target = refl
dropped_account LettingGo target = refl

pub prepared_account : (bars : Bars) (belief : Belief) → account (prepared bars belief) ≡ account belief
prepared_account bars Private = refl
prepared_account bars Chosen = pick (is_barred bars) where
  pick : (b : Bool) → account (cond b Private Chosen) ≡ None
  pick true = refl
  pick false = refl
prepared_account bars Copied = pick (is_barred bars) where
  pick : (b : Bool) → account (cond b Private Copied) ≡ None
  pick true = refl
  pick false = refl
prepared_account bars (Turning stage target) = pick (is_barred bars) where
  pick : (b : Bool) → account (cond b (dropped stage target) (Turning stage target)) ≡ target_slot target
  pick true = dropped_account stage target
  pick false = refl
prepared_account bars (Shown slot n homing) = refl
prepared_account bars (Leaving slot) = refl

-- only orders to the host change what it has
turning_account : (stage : Stage) (target : Target) (outcome : Outcome) (old : Option ℕ) → account_then (order_at stage target) outcome old ≡ old
turning_account Ready target outcome old = refl
turning_account Held target outcome old = refl
turning_account Equal target outcome old = refl
turning_account LettingGo target outcome old = refl

home_account : (homing : Homing) (outcome : Outcome) (old : Option ℕ) → account_then (order_home homing) outcome old ≡ old
home_account Off outcome old = refl
home_account InPlace outcome old = refl
home_account Elsewhere outcome old = refl

obeyed_account : (stage : Stage) (target : Target) → account (obeyed_at stage target) ≡ target_slot target
obeyed_account Ready target = refl
obeyed_account Held target = refl
obeyed_account Equal target = shown_account target
obeyed_account LettingGo target = unshown_account target

turning_keeps : (stage : Stage) (target : Target) (outcome : Outcome) → account (done_of (Turning stage target) outcome) ≡ target_slot target
turning_keeps stage target Done = obeyed_account stage target
turning_keeps stage target (Lent other m) = refl
turning_keeps stage target Refused = dropped_account stage target
turning_keeps stage target Unknown = refl

home_keeps : (slot n : ℕ) (homing : Homing) (outcome : Outcome) → account (done_of (Shown slot n homing) outcome) ≡ Some slot
home_keeps slot n Off Done = refl
home_keeps slot n InPlace Done = refl
home_keeps slot n Elsewhere Done = refl
home_keeps slot n homing (Lent other m) = refl
home_keeps slot n homing Refused = refl
home_keeps slot n homing Unknown = refl

pub done_account : (belief : Belief) (outcome : Outcome) → account (done_of belief outcome) ≡ account_then (due belief) outcome (account belief)
done_account Private Done = refl
done_account Private (Lent other m) = refl
done_account Private Refused = refl
done_account Private Unknown = refl
done_account Chosen Done = refl
done_account Chosen (Lent other m) = refl
done_account Chosen Refused = refl
done_account Chosen Unknown = refl
done_account Copied Done = refl
done_account Copied (Lent other m) = refl
done_account Copied Refused = refl
done_account Copied Unknown = refl
done_account (Turning stage target) outcome = turning_keeps stage target outcome ∙ sym (turning_account stage target outcome (target_slot target))
done_account (Shown slot n homing) outcome = home_keeps slot n homing outcome ∙ sym (home_account homing outcome (Some slot))
done_account (Leaving slot) Done = refl
done_account (Leaving slot) (Lent other m) = refl
done_account (Leaving slot) Refused = refl
done_account (Leaving slot) Unknown = refl
