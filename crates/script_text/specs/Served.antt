-- What the engine of scripts writes.
use Rattle.std.specs.Prelude.{ℕ, List, Option, Result, Ok}
use Rattle.page_model.specs.Limits.{shapes}
use Rattle.page_model.specs.Replay.{empty_state}
use Rattle.journal_replay.specs.Replayed.{printed_from, Writes}
use Rattle.text_words.specs.Words.{◌>>=◌}
use Rattle.text_words.specs.declared.fault.TextFault.{TextFault}
use Rattle.script_text.specs.Order.{serial_order}
use Rattle.script_text.specs.Texts.{Script, script_of}

-- what serving a script in its serial order prints, under a hash
abbrev pub serial_printed : (ℕ → List ℕ → ℕ) → Script → List ℕ
serial_printed hash s = printed_from hash (empty_state s.frames (shapes s.salts s.pages)) (serial_order s.scripts)

-- what a text's script prints, or the text's first fault
unfoldable pub serial_answer : (ℕ → List ℕ → ℕ) → List ℕ → Result (List ℕ) TextFault
serial_answer hash text = script_of text >>= λ s. Ok (serial_printed hash s)

-- what the engine does with the bytes
abbrev pub Serves : (ℕ → List ℕ → ℕ) → Option (List ℕ) → Option (List ℕ) → Option (List ℕ) → Result (Unit {0}) TextFault → Type 0
Serves hash input old new r = Writes (serial_answer hash) input old new r
