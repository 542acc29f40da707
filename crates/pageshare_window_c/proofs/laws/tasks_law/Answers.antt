use Rattle.std.proofs.Common.{refl}
use Rattle.look_tasks.specs.declared.task.Task.TheVariants.{Over, Sleep, Begin, Attend, Release, Window, Look, Return, GiveBack, Ask, Copy, Lend, Hold, End}
use Rattle.pageshare_window_c.specs.Tasks.{EachTaskHasNumbers}
use Rattle.pageshare_window_c.proofs.laws.tasks_law.Goals as goal

each_has : EachTaskHasNumbers
each_has Over = refl
each_has (Sleep ns) = refl
each_has Begin = refl
each_has Attend = refl
each_has Release = refl
each_has Window = refl
each_has (Look part) = refl
each_has (Return part) = refl
each_has GiveBack = refl
each_has Ask = refl
each_has Copy = refl
each_has Lend = refl
each_has Hold = refl
each_has End = refl

pub returns : goal.returns
returns c = each_has
