-- What a reader of lines returns before it makes a request, and the request that it stands for.
use Rattle.std.specs.Prelude.{◌≡◌, ◌<◌, ℕ, true, Result, Ok}
use Rattle.page_model.specs.declared.request.Entry.{Entry}
use Rattle.page_model.specs.declared.request.Request.{Request}
use Rattle.page_model.specs.declared.request.Request.TheVariants as requests
use Rattle.text_words.specs.declared.fault.Cause.{Cause}
use Rattle.journal_text.specs.declared.request.Line.{Line}
use Rattle.journal_text.specs.declared.request.Line.TheVariants.{Enters, Ends}
use Rattle.journal_text.specs.declared.said.Said.{Said}
use Rattle.journal_text.specs.declared.said.Said.TheVariants.{Propose, Store, Load, Release, Count, Close}
use Rattle.journal_text.specs.declared.said.SaidBy.{SaidBy}
use Rattle.text_words.specs.Words.{◌>>=◌, spelled, is_bytes_word}
use Rattle.journal_text.specs.Requests.{stored, loaded}

-- what is asked for, or what is wrong with its numbers
abbrev pub asked_of : Said → Result Request Cause
asked_of (Propose ppn) = Ok (requests.Propose ppn)
asked_of (Store ppn at word) = stored ppn at (spelled word.now)
asked_of (Load ppn at len) = loaded ppn at len
asked_of (Release ppn) = Ok (requests.Release ppn)
asked_of Count = Ok requests.Count
asked_of Close = Ok requests.Close

-- the entry of a guest's line
abbrev pub entry_of : SaidBy → Result Entry Cause
entry_of line = do
  request ← asked_of line.said
  Ok (record { guest = line.guest; request = request })

-- a line, with the entry in place of what was said
abbrev pub entered : Line SaidBy → Result (Line Entry) Cause
entered (Enters line) = entry_of line >>= λ entry. Ok (Enters entry)
entered (Ends count) = Ok (Ends count)

-- what a line says, or its fault, with the entry in place of what was said
abbrev pub all_entered : Result (Line SaidBy) Cause → Result (Line Entry) Cause
all_entered read = read >>= entered

-- the bytes of a store are spelled
abbrev pub IsSpelled : Said → Type 0
IsSpelled (Propose ppn) = Unit {0}
IsSpelled (Store ppn at word) = is_bytes_word word.now ≡ true
IsSpelled (Load ppn at len) = Unit {0}
IsSpelled (Release ppn) = Unit {0}
IsSpelled Count = Unit {0}
IsSpelled Close = Unit {0}

-- it isn't the guest's end
abbrev pub IsNoClose : Said → Type 0
IsNoClose (Propose ppn) = Unit {0}
IsNoClose (Store ppn at word) = Unit {0}
IsNoClose (Load ppn at len) = Unit {0}
IsNoClose (Release ppn) = Unit {0}
IsNoClose Count = Unit {0}
IsNoClose Close = ⊥

-- the line's guest is one of the first n, and its bytes are spelled
abbrev pub IsSaidBelow : ℕ → Line SaidBy → Type 0
IsSaidBelow n (Enters line) = (line.guest < n) × IsSpelled line.said
IsSaidBelow n (Ends count) = Unit {0}
