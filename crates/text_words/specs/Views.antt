-- How what the code returns is compared with what the definitions say.
use Rattle.std.specs.Prelude.{◌≡◌, Result, Ok, Err}
use Rattle.text_words.specs.declared.fault.TextFault.{TextFault}
use Rattle.text_words.specs.declared.fault.TextFault.TheVariants as faults

-- A call returns this fault, and `read` is what the definitions say of the same bytes: the same fault, unless memory ran out.
-- No call that reads a text's bytes returns Read or Write.
abbrev pub Fails : {Y : Type 0} → TextFault → Result Y TextFault → Type 0
Fails (faults.Line n cause) read = read ≡ Err (faults.Line n cause)
Fails (faults.Truncated n) read = read ≡ Err (faults.Truncated n)
Fails faults.Count read = read ≡ Err faults.Count
Fails faults.OutOfMemory read = Unit {0}
Fails faults.Read read = ⊥
Fails faults.Write read = ⊥
Fails faults.Long read = read ≡ Err faults.Long

-- a call returns what `read` says, with its value seen by view, unless memory ran out
abbrev pub Gives : {X Y : Type 0} → (X → Y) → Result X TextFault → Result Y TextFault → Type 0
Gives view (Ok x) read = read ≡ Ok (view x)
Gives view (Err e) read = Fails e read
