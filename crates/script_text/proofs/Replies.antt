-- What serving a text answers.
use Rattle.std.proofs.Common.{◌≡◌, ℕ, List, length, Result, Ok, Err, true, refl, ap, nat_lt}
use Rattle.std.proofs.lemmas.Bool.{lt-ltb}
use Rattle.page_model.specs.declared.limits.TheConstants.{MAX_TEXT_BYTES}
use Rattle.text_words.specs.declared.fault.TextFault.{TextFault}
use Rattle.text_words.specs.Words.{◌>>=◌}
use Rattle.journal_replay.proofs.Refusals.{KnowsLong}
use Rattle.script_text.specs.Texts.{Script, script_of}
use Rattle.script_text.specs.Served.{serial_printed, serial_answer}

-- too long a text is answered as such
pub long_script : (hash : ℕ → List ℕ → ℕ) → KnowsLong (serial_answer hash)
unfolding serial_answer script_of
long_script hash text h = let test : nat_lt MAX_TEXT_BYTES (length text) ≡ true = lt-ltb MAX_TEXT_BYTES (length text) h in rw test refl

-- what is done with a text's script, or not
goes_on : (ℕ → List ℕ → ℕ) → Result Script TextFault → Result (List ℕ) TextFault
goes_on hash said = said >>= λ s. Ok (serial_printed hash s)

-- a script is printed
pub script_printed : (hash : ℕ → List ℕ → ℕ) (text : List ℕ) (s : Script) → script_of text ≡ Ok s → serial_answer hash text ≡ Ok (serial_printed hash s)
unfolding serial_answer goes_on
script_printed hash text s h = ap (goes_on hash) h

-- and the fault of what is none stays
pub script_fault : (hash : ℕ → List ℕ → ℕ) (text : List ℕ) (fault : TextFault) → script_of text ≡ Err fault → serial_answer hash text ≡ Err fault
unfolding serial_answer goes_on
script_fault hash text fault h = ap (goes_on hash) h
