-- What is believed of a page after each outcome and notice.
use Rattle.std.specs.Prelude.{ℕ}
use Rattle.page_lender.specs.Decisions.{dropped, unshown}
use Rattle.page_lender.specs.declared.belief.Belief.{Belief}
use Rattle.page_lender.specs.declared.belief.Belief.TheVariants.{Private, Chosen, Copied, Turning, Shown, Leaving}
use Rattle.page_lender.specs.declared.belief.Homing.{Homing}
use Rattle.page_lender.specs.declared.belief.Homing.TheVariants.{Off, InPlace, Elsewhere}
use Rattle.page_lender.specs.declared.belief.Stage.{Stage}
use Rattle.page_lender.specs.declared.belief.Stage.TheVariants.{Ready, Held, Equal, LettingGo}
use Rattle.page_lender.specs.declared.belief.Target.{Target}
use Rattle.page_lender.specs.declared.belief.Target.TheVariants.{Frame, Zeros}
use Rattle.page_lender.specs.declared.order.Outcome.{Outcome}
use Rattle.page_lender.specs.declared.order.Outcome.TheVariants.{Done, Lent, Refused, Unknown}
use Rattle.page_lender.specs.declared.order.Notice.{Notice}
use Rattle.page_lender.specs.declared.order.Notice.TheVariants.{Written, Discarded}

-- the page shows its target
abbrev pub shown_as : Target → Belief
shown_as (Frame slot n) = Shown slot n Off
shown_as Zeros = Private

-- the order of a stage was done
abbrev pub obeyed_at : Stage → Target → Belief
obeyed_at Ready target = Turning Held target
obeyed_at Held target = Turning Equal target
obeyed_at Equal target = shown_as target
obeyed_at LettingGo target = unshown target

-- the order to take a page home was done, if it was given
abbrev pub home : Homing → ℕ → ℕ → Belief
home Off slot n = Shown slot n Off
home InPlace slot n = Leaving slot
home Elsewhere slot n = Leaving slot

-- the order was done
abbrev pub obeyed : Belief → Belief
obeyed Private = Private
obeyed Chosen = Copied
obeyed Copied = Copied
obeyed (Turning stage target) = obeyed_at stage target
obeyed (Shown slot n homing) = home homing slot n
obeyed (Leaving slot) = Private

-- the host gave a slot with a frame
abbrev pub given : Belief → ℕ → ℕ → Belief
given Private slot n = Private
given Chosen slot n = Chosen
given Copied slot n = Turning Ready (Frame slot n)
given (Turning stage target) slot n = Turning stage target
given (Shown old m homing) slot n = Shown old m homing
given (Leaving old) slot n = Leaving old

-- the order wasn't done
abbrev pub refused : Belief → Belief
refused Private = Private
refused Chosen = Private
refused Copied = Private
refused (Turning stage target) = dropped stage target
refused (Shown slot n homing) = Shown slot n Off
refused (Leaving slot) = Leaving slot

-- nothing is known of the order
abbrev pub doubted_at : Stage → Stage
doubted_at Ready = LettingGo
doubted_at Held = Held
doubted_at Equal = Equal
doubted_at LettingGo = LettingGo

abbrev pub doubted : Belief → Belief
doubted Private = Private
doubted Chosen = Chosen
doubted Copied = Copied
doubted (Turning stage target) = Turning (doubted_at stage) target
doubted (Shown slot n homing) = Shown slot n Off
doubted (Leaving slot) = Leaving slot

-- a copy over the frame was found
abbrev pub written_of : Belief → Belief
written_of Private = Private
written_of Chosen = Chosen
written_of Copied = Copied
written_of (Turning stage target) = Turning stage target
written_of (Shown slot n homing) = Leaving slot
written_of (Leaving slot) = Leaving slot

-- the page was given up
abbrev pub discarded_of : Belief → Belief
discarded_of Private = Private
discarded_of Chosen = Private
discarded_of Copied = Copied
discarded_of (Turning stage target) = dropped stage target
discarded_of (Shown slot n homing) = Leaving slot
discarded_of (Leaving slot) = Leaving slot

-- after an outcome of the order that was due
abbrev pub done_of : Belief → Outcome → Belief
done_of belief Done = obeyed belief
done_of belief (Lent slot n) = given belief slot n
done_of belief Refused = refused belief
done_of belief Unknown = doubted belief

-- after a notice
abbrev pub heard_of : Belief → Notice → Belief
heard_of belief Written = written_of belief
heard_of belief Discarded = discarded_of belief
