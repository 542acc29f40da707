-- The numbers of what the thread that looks does next.
use Rattle.std.specs.Prelude.{◌≡◌, ℕ, nat_eq, if◌then◌else◌}
use Rattle.look_tasks.specs.declared.task.Task.{Task}
use Rattle.look_tasks.specs.declared.task.Task.TheVariants.{Over, Sleep, Begin, Attend, Release, Window, Look, Return, GiveBack, Ask, Copy, Lend, Hold, End}
use Rattle.pageshare_window_c.specs.declared.tasks.WindowTask.{WindowTask}

abbrev pub numbers : ℕ → ℕ → ℕ → WindowTask
numbers kind ns part = record { ns = ns; part = part; kind = kind }

-- a task's numbers: its kind, how long the thread sleeps, and the part
abbrev pub task_numbers : Task → WindowTask
task_numbers Over = numbers 0 0 0
task_numbers (Sleep ns) = numbers 1 ns 0
task_numbers Begin = numbers 2 0 0
task_numbers Attend = numbers 3 0 0
task_numbers Release = numbers 4 0 0
task_numbers Window = numbers 5 0 0
task_numbers (Look part) = numbers 6 0 part
task_numbers (Return part) = numbers 7 0 part
task_numbers GiveBack = numbers 8 0 0
task_numbers Ask = numbers 9 0 0
task_numbers Copy = numbers 10 0 0
task_numbers Lend = numbers 11 0 0
task_numbers Hold = numbers 12 0 0
task_numbers End = numbers 13 0 0

-- the task with these numbers; of any other kind nothing is done
abbrev pub early_task : WindowTask → Task
early_task t =
    if nat_eq t.kind 1 then Sleep t.ns
    else (if nat_eq t.kind 2 then Begin else (if nat_eq t.kind 3 then Attend else (if nat_eq t.kind 4 then Release else (if nat_eq t.kind 5 then Window else Over))))

abbrev pub late_task : WindowTask → Task
late_task t =
    if nat_eq t.kind 9 then Ask
    else (if nat_eq t.kind 10 then Copy else (if nat_eq t.kind 11 then Lend else (if nat_eq t.kind 12 then Hold else (if nat_eq t.kind 13 then End else early_task t))))

abbrev pub task_by : WindowTask → Task
task_by t = if nat_eq t.kind 6 then Look t.part else (if nat_eq t.kind 7 then Return t.part else (if nat_eq t.kind 8 then GiveBack else late_task t))

-- each task is the one with its numbers
abbrev pub EachTaskHasNumbers : Type 0
EachTaskHasNumbers = (task : Task) → task_by (task_numbers task) ≡ task
