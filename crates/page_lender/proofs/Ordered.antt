-- What `next` of a page's lender says, in one record.
use Rattle.std.proofs.Common.{◌≡◌, ◌∙◌, Bool, true, false, cond, not, ◌&&◌, ◌||◌, refl, ap, sym}
use Rattle.page_lender.specs.Decisions.{dropped, due, homing_by, prepared, touches, leads, moves, order_home, unshown, waiting, waits_at, shows, is_barred, must_own}
use Rattle.page_lender.specs.declared.bars.Bars.{Bars}
use Rattle.page_lender.specs.declared.belief.Belief.{Belief}
use Rattle.page_lender.specs.declared.belief.Belief.TheVariants.{Private, Chosen, Copied, Turning, Shown, Leaving}
use Rattle.page_lender.specs.declared.belief.Homing.{Homing}
use Rattle.page_lender.specs.declared.belief.Homing.TheVariants.{Off, InPlace, Elsewhere}
use Rattle.page_lender.specs.declared.belief.Stage.{Stage}
use Rattle.page_lender.specs.declared.belief.Stage.TheVariants.{Ready, Held, Equal, LettingGo}
use Rattle.page_lender.specs.declared.belief.Target.{Target}
use Rattle.page_lender.specs.declared.belief.Target.TheVariants.{Frame, Zeros}

second : (a b c : Bool) → (a && b && c) ≡ true → b ≡ true
second true true c h = refl
second true false c h = cc
second false b c h = cc

third : (a b c : Bool) → (a && b && c) ≡ true → c ≡ true
third true true true h = refl
third true true false h = cc
third true false c h = cc
third false b c h = cc

one_of : (a b c d e f : Bool) → b ≡ true → (a || b || c || d || e || f) ≡ true
one_of true b c d e f h = refl
one_of false true c d e f h = refl
one_of false false c d e f h = cc

-- a page that is to get a copy of its own gets no frame
home_leads : (homing : Homing) → leads (order_home homing) ≡ false
home_leads Off = refl
home_leads InPlace = refl
home_leads Elsewhere = refl

-- an order for a page that isn't to show its target leads to no frame, and gives it no other memory
unshown_leads : (target : Target) → leads (due (unshown target)) ≡ false
unshown_leads (Frame slot n) = refl
unshown_leads Zeros = refl

unshown_moves : (target : Target) → moves (due (unshown target)) ≡ false
unshown_moves (Frame slot n) = refl
unshown_moves Zeros = refl

unshown_touches : (target : Target) → touches (due (unshown target)) ≡ false
unshown_touches (Frame slot n) = refl
unshown_touches Zeros = refl

dropped_leads : (stage : Stage) (target : Target) → leads (due (dropped stage target)) ≡ false
dropped_leads Ready target = unshown_leads target
dropped_leads Held target = refl
dropped_leads Equal target = refl
dropped_leads LettingGo target = refl

dropped_moves : (stage : Stage) (target : Target) → moves (due (dropped stage target)) ≡ false
dropped_moves Ready target = unshown_moves target
dropped_moves Held target = refl
dropped_moves Equal target = refl
dropped_moves LettingGo target = refl

pub barred_leads : (bars : Bars) (belief : Belief) → is_barred bars ≡ true → leads (due (prepared bars belief)) ≡ false
barred_leads bars Private h = refl
barred_leads bars Chosen h = ap (λ v. leads (due (cond v Private Chosen))) h
barred_leads bars Copied h = ap (λ v. leads (due (cond v Private Copied))) h
barred_leads bars (Turning stage target) h = ap (λ v. leads (due (cond v (dropped stage target) (Turning stage target)))) h ∙ dropped_leads stage target
barred_leads bars (Shown slot n homing) h = home_leads (homing_by bars)
barred_leads bars (Leaving slot) h = refl

pub pinned_moves : (bars : Bars) (belief : Belief) → bars.pinned ≡ true → moves (due (prepared bars belief)) ≡ false
pinned_moves bars belief h = by belief where
  barred : is_barred bars ≡ true
  barred = one_of bars.called bars.pinned bars.inherited bars.locked bars.left bars.ended h

  stays : (m : Bool) → moves (order_home (cond m InPlace Off)) ≡ false
  stays true = refl
  stays false = refl

  by : (b : Belief) → moves (due (prepared bars b)) ≡ false
  by Private = refl
  by Chosen = ap (λ v. moves (due (cond v Private Chosen))) barred
  by Copied = ap (λ v. moves (due (cond v Private Copied))) barred
  by (Turning stage target) = ap (λ v. moves (due (cond v (dropped stage target) (Turning stage target)))) barred ∙ dropped_moves stage target
  by (Shown slot n homing) = ap (λ p. moves (order_home (cond (must_own bars) (cond p InPlace Elsewhere) Off))) h ∙ stays (must_own bars)
  by (Leaving slot) = refl

-- the page's call may go on, and its lender touches it no more
pub quiet : (bars : Bars) (belief : Belief) (free : Bool) → is_barred bars ≡ true → (free && not (waiting belief) && not (must_own bars && shows belief)) ≡ true →
    touches (due (prepared bars belief)) ≡ false
quiet bars Private free h g = refl
quiet bars Chosen free h g = ap (λ v. touches (due (cond v Private Chosen))) h
quiet bars Copied free h g = ap (λ v. touches (due (cond v Private Copied))) h
quiet bars (Turning stage target) free h g = ap (λ v. touches (due (cond v (dropped stage target) (Turning stage target)))) h ∙ by stage (second free (not (waits_at stage)) (not (must_own bars && false)) g) where
  by : (s : Stage) → not (waits_at s) ≡ true → touches (due (dropped s target)) ≡ false
  by Ready w = unshown_touches target
  by Held w = cc
  by Equal w = cc
  by LettingGo w = cc
quiet bars (Shown slot n homing) free h g = pick (must_own bars) refl where
  pick : (m : Bool) → must_own bars ≡ m → touches (order_home (cond (must_own bars) (cond bars.pinned InPlace Elsewhere) Off)) ≡ false
  pick true e = let no : false ≡ true = sym (ap (λ v. not (v && true)) e) ∙ third free true (not (must_own bars && true)) g in cc
  pick false e = ap (λ v. touches (order_home (cond v (cond bars.pinned InPlace Elsewhere) Off))) e
quiet bars (Leaving slot) free h g = refl
