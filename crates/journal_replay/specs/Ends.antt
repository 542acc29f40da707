-- Readers and writers: when a call on one failed, and what reading all and writing all do to their bytes.
use Rattle.std.specs.Prelude.{ℕ, ◌<◌, ◌≤◌, ◌==◌, ◌&&◌, ◌++◌, ◌≡◌, nat_lt, is_some, Bool, true, false, List, length, take}
use Rattle.std.specs.Prelude.{Option, Result, Ok, Err, IfSome, IfErr, OnOk, OnErr}
use Rattle.std.specs.Io.KnownBytes.{Appends, Consumes}
use Rattle.page_model.specs.declared.limits.TheConstants.{MAX_TEXT_BYTES}
use Rattle.journal_replay.specs.declared.ends.Noted.{Noted}
use Rattle.text_words.specs.declared.fault.TextFault.{TextFault}
use Rattle.text_words.specs.declared.fault.TextFault.TheVariants as faults

-- the inner reader or writer
abbrev pub inner_of : {T : Type 0} → Noted T → T
inner_of noted = noted.inner

-- whether a call on it failed
abbrev pub failed_of : {T : Type 0} → Noted T → Bool
failed_of noted = is_some noted.error

-- a write failed: it returned an error, or wrote 0 of some bytes
abbrev pub write_failed : {E : Type 0} → Result ℕ E → List ℕ → Bool
write_failed (Ok n) bytes = n == 0 && nat_lt 0 (length bytes)
write_failed (Err e) bytes = true

-- known bytes grew by a front of these bytes
abbrev pub AppendsFront : Option (List ℕ) → Option (List ℕ) → List ℕ → Type 0
AppendsFront old new bytes = (n : ℕ) × Appends old new (take n bytes)

-- at most this many bytes were read
abbrev pub ReadsUpTo : ℕ → Option (List ℕ) → Option (List ℕ) → Type 0
ReadsUpTo most old new = (bytes : List ℕ) × Consumes old new bytes × (length bytes ≤ most)

-- known bytes grew by what comes before `ahead` in a whole text
pub record Sends (old new : Option (List ℕ)) (ahead whole : List ℕ) : Type 0 where
  pub sent : List ℕ
  pub appends : Appends old new sent
  pub rest : sent ++ ahead ≡ whole

-- All of a text was written. Else the answer is `Write`, the writer has failed, and a front of the text went out. old and new:
-- what the writer holds.
pub record WritesAll
    (old new : Option (List ℕ)) (has_failed : Bool) (text : List ℕ) (r : Result (Unit {0}) TextFault)
    : Type 0 where
  pub ok : OnOk r (Appends old new text)
  pub fine : OnOk r (has_failed ≡ false)
  pub err : OnErr r (AppendsFront old new text)
  pub failed : OnErr r (has_failed ≡ true)
  pub fault : IfErr r (λ e. e ≡ faults.Write)

-- A text stands behind what a buffer held, some of which may have been written. Else the answer is `Write`, the writer has
-- failed, and a front of `cut` went out. ahead: what the buffer holds now; whole: what it held, and the text.
pub record Buffers
    (old new : Option (List ℕ)) (has_failed : Bool) (ahead whole cut : List ℕ) (r : Result (Unit {0}) TextFault)
    : Type 0 where
  pub sends : OnOk r (Sends old new ahead whole)
  pub fine : OnOk r (has_failed ≡ false)
  pub err : OnErr r (AppendsFront old new cut)
  pub failed : OnErr r (has_failed ≡ true)
  pub fault : IfErr r (λ e. e ≡ faults.Write)

-- the fault says that a read failed
abbrev pub is_read_fault : TextFault → Bool
is_read_fault faults.Read = true
is_read_fault faults.Write = false
is_read_fault (faults.Line n cause) = false
is_read_fault (faults.Truncated n) = false
is_read_fault faults.Count = false
is_read_fault faults.OutOfMemory = false
is_read_fault faults.Long = false

-- the fault says that a write failed
abbrev pub is_write_fault : TextFault → Bool
is_write_fault faults.Write = true
is_write_fault faults.Read = false
is_write_fault (faults.Line n cause) = false
is_write_fault (faults.Truncated n) = false
is_write_fault faults.Count = false
is_write_fault faults.OutOfMemory = false
is_write_fault faults.Long = false

-- the answer is that a read failed, and that a write did
abbrev pub has_read_fault : {X : Type 0} → Result X TextFault → Bool
has_read_fault (Ok x) = false
has_read_fault (Err fault) = is_read_fault fault

abbrev pub has_write_fault : {X : Type 0} → Result X TextFault → Bool
has_write_fault (Ok x) = false
has_write_fault (Err fault) = is_write_fault fault

-- Why reading all failed. known: what the reader had.
abbrev pub NotRead : Option (List ℕ) → TextFault → Type 0
NotRead known faults.OutOfMemory = Unit {0}
NotRead known faults.Read = Unit {0}
NotRead known faults.Long = IfSome known (λ text. MAX_TEXT_BYTES < length text)
NotRead known (faults.Line n cause) = ⊥
NotRead known (faults.Truncated n) = ⊥
NotRead known faults.Count = ⊥
NotRead known faults.Write = ⊥
