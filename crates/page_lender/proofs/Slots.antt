-- Orders name what is the page's own, and the account stays right of what the host has.
use Rattle.std.proofs.Common.{◌≡◌, ◌∙◌, refl}
use Rattle.page_lender.specs.Decisions.{account, due, order_at, order_home}
use Rattle.page_lender.specs.Slots.{NamesOwn, KeepsAccount}
use Rattle.page_lender.specs.declared.belief.Belief.{Belief}
use Rattle.page_lender.specs.declared.belief.Belief.TheVariants.{Private, Chosen, Copied, Turning, Shown, Leaving}
use Rattle.page_lender.specs.declared.belief.Homing.{Homing}
use Rattle.page_lender.specs.declared.belief.Homing.TheVariants.{Off, InPlace, Elsewhere}
use Rattle.page_lender.specs.declared.belief.Stage.{Stage}
use Rattle.page_lender.specs.declared.belief.Stage.TheVariants.{Ready, Held, Equal, LettingGo}
use Rattle.page_lender.specs.declared.belief.Target.{Target}
use Rattle.page_lender.specs.declared.belief.Target.TheVariants.{Frame, Zeros}
use Rattle.page_lender.specs.declared.order.Order.TheVariants.{Wait, Copy, Lend, Hold, Compare, Map, LetGo, TakeHome, Release}
use Rattle.page_lender.specs.declared.order.Outcome.TheVariants.{Done, Lent, Refused, Unknown}

turning_names : (stage : Stage) (target : Target) → NamesOwn (order_at stage target) (Turning stage target)
turning_names Ready target = tt
turning_names Held (Frame slot n) = refl
turning_names Held Zeros = tt
turning_names Equal (Frame slot n) = refl
turning_names Equal Zeros = refl
turning_names LettingGo target = tt

home_names : (homing : Homing) (belief : Belief) → NamesOwn (order_home homing) belief
home_names Off belief = tt
home_names InPlace belief = tt
home_names Elsewhere belief = tt

pub due_names : (belief : Belief) → NamesOwn (due belief) belief
due_names Private = tt
due_names Chosen = tt
due_names Copied = refl
due_names (Turning stage target) = turning_names stage target
due_names (Shown slot n homing) = home_names homing (Shown slot n homing)
due_names (Leaving slot) = refl

pub keeps_account : KeepsAccount
keeps_account belief Wait outcome before after n o r h = h ∙ r
keeps_account belief Copy outcome before after n o r h = h ∙ r
keeps_account belief (Hold target) outcome before after n o r h = h ∙ r
keeps_account belief (Compare target) outcome before after n o r h = h ∙ r
keeps_account belief (Map target) outcome before after n o r h = h ∙ r
keeps_account belief (LetGo target) outcome before after n o r h = h ∙ r
keeps_account belief (TakeHome in_place) outcome before after n o r h = h ∙ r
keeps_account belief Lend Done before after n o r h = cc
keeps_account belief Lend (Lent slot m) before after n o r h = h
keeps_account belief Lend Refused before after n o r h = h ∙ r ∙ n
keeps_account belief Lend Unknown before after n o r h = cc
keeps_account belief (Release slot) Done before after n o r h = h
keeps_account belief (Release slot) (Lent other m) before after n o r h = cc
keeps_account belief (Release slot) Refused before after n o r h = h ∙ r ∙ n
keeps_account belief (Release slot) Unknown before after n o r h = cc
