-- Looks at a text that fail.
use Rattle.std.proofs.Common.{Result, ap}
use Rattle.text_words.specs.declared.fault.TextFault.{TextFault}
use Rattle.text_words.specs.declared.fault.TextFault.TheVariants as faults
use Rattle.text_words.specs.Views.{Fails}
use Rattle.text_words.specs.Words.{◌>>=◌}

-- where the first look fails, so does what goes on from it
pub fails_on : {X Y : Type 0} (e : TextFault) (r : Result X TextFault) (f : X → Result Y TextFault) → Fails e r → Fails e (r >>= f)
fails_on (faults.Line n cause) r f h = ap (λ x. x >>= f) h
fails_on (faults.Truncated n) r f h = ap (λ x. x >>= f) h
fails_on faults.Count r f h = ap (λ x. x >>= f) h
fails_on faults.OutOfMemory r f h = tt
fails_on faults.Long r f h = ap (λ x. x >>= f) h
fails_on faults.Read r f h = absurd h
fails_on faults.Write r f h = absurd h
