-- What a scan keeps of each page of its part, in a byte.
use Rattle.std.specs.Prelude.{ℕ, ◌+◌, ◌/◌, ◌%◌, ◌==◌, Bool, true, false, not, ◌&&◌, ◌||◌, nat_eq, if◌then◌else◌}
use Rattle.page_looks.specs.Idle.{is_again, is_idle, is_young}
use Rattle.page_looks.specs.declared.finds.step.FindStep.{FindStep}
use Rattle.page_looks.specs.declared.finds.step.FindStep.TheVariants.{Over, FindCopy, Glance, Read, Count, Idle, Zeros}
use Rattle.page_looks.specs.declared.idle.look.PageLooks.{PageLooks}
use Rattle.part_scans.specs.declared.seen.Seen.{Seen}

-- which step has this number; the end by any other
abbrev pub step_by : ℕ → FindStep
step_by number =
    if number == 1 then FindCopy else (if number == 2 then Glance else (if number == 3 then Read
    else (if number == 4 then Count else (if number == 5 then Idle else (if number == 6 then Zeros else Over)))))

abbrev pub step_number : FindStep → ℕ
step_number Over = 0
step_number FindCopy = 1
step_number Glance = 2
step_number Read = 3
step_number Count = 4
step_number Idle = 5
step_number Zeros = 6

-- what stands for a bit that is set, or not
abbrev pub bit : Bool → ℕ → ℕ
bit is_set value = if is_set then value else 0

abbrev pub has_bit : ℕ → ℕ → Bool
has_bit byte value = nat_eq (byte / value % 2) 1

abbrev pub seen_in : ℕ → Seen
seen_in byte = record {
  step = step_by (byte % 8);
  taken = has_bit byte 8;
  changed = has_bit byte 16;
  again = has_bit byte 32;
  memory = has_bit byte 64;
  young = has_bit byte 128;
}

abbrev pub byte_of : Seen → ℕ
byte_of seen = step_number seen.step + bit seen.taken 8 + bit seen.changed 16 + bit seen.again 32 + bit seen.memory 64 + bit seen.young 128

-- a step is left
abbrev pub has_step : FindStep → Bool
has_step Over = false
has_step FindCopy = true
has_step Glance = true
has_step Read = true
has_step Count = true
has_step Idle = false
has_step Zeros = false

-- the page is read, or its last fingerprint counts
abbrev pub counts : FindStep → Bool
counts Over = false
counts FindCopy = false
counts Glance = false
counts Read = true
counts Count = true
counts Idle = true
counts Zeros = true

-- it was idle, and isn't
abbrev pub has_changed : PageLooks → PageLooks → Bool
has_changed before after = is_idle before && not (is_idle after)

-- what is kept of a page once a step has come to this
abbrev pub seen_then : Seen → FindStep → PageLooks → PageLooks → Seen
seen_then seen next before after = record {
  step = next;
  taken = seen.taken;
  changed = seen.changed || has_changed before after;
  again = seen.again || (is_again before && counts next);
  memory = seen.memory;
  young = seen.memory && is_young after;
}
