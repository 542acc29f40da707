-- How an engine ends, whatever it does with its input.
use Rattle.std.proofs.Common.{◌≡◌, inl, inr, ◌<◌, ◌++◌, ℕ, List, length, Option, Some, None, Result, Ok, Err, true, refl, ap, sym, subst, nat_lt}
use Rattle.std.specs.Prelude.{IfSome, IfErr, OnOk, IsOk, IsErr, codes}
use Rattle.std.specs.Io.KnownBytes.{Appends}
use Rattle.std.proofs.KnownBytes.{Keeps-refl}
use Rattle.std.proofs.lemmas.Bool.{lt-ltb}
use Rattle.page_model.specs.declared.limits.TheConstants.{MAX_TEXT_BYTES}
use Rattle.text_words.specs.declared.fault.TextFault.{TextFault}
use Rattle.text_words.specs.declared.fault.TextFault.TheVariants as faults
use Rattle.journal_text.specs.Texts.{Journal, journal_of}
use Rattle.text_words.specs.Views.{Fails}
use Rattle.text_words.specs.Words.{◌>>=◌}
use Rattle.journal_replay.specs.Ends.{AppendsFront, NotRead}
use Rattle.text_words.specs.Printed.{fault_line}
use Rattle.journal_replay.specs.Replayed.{answer_of, printed, written_for, WritesFault, NotPrinted, Refuses, Refused, Writes}

-- an input that is too long has that fault
abbrev pub KnowsLong : (List ℕ → Result (List ℕ) TextFault) → Type 0
KnowsLong answer = (text : List ℕ) → MAX_TEXT_BYTES < length text → answer text ≡ Err faults.Long

-- a replay's answer to too long a text
pub too_long : (hash : ℕ → List ℕ → ℕ) → KnowsLong (answer_of hash)
unfolding answer_of journal_of
too_long hash text h = let test : nat_lt MAX_TEXT_BYTES (length text) ≡ true = lt-ltb MAX_TEXT_BYTES (length text) h in rw test refl

-- what a text's journal prints is the text's answer
pub answer_ok : (hash : ℕ → List ℕ → ℕ) (text : List ℕ) (j : Journal) → journal_of text ≡ Ok j → answer_of hash text ≡ Ok (printed hash j)
unfolding answer_of
answer_ok hash text j h = let f : Result Journal TextFault → Result (List ℕ) TextFault = λ r. r >>= λ x. Ok (printed hash x) in ap f h

-- a text's fault is its answer
pub answer_err : (hash : ℕ → List ℕ → ℕ) (text : List ℕ) (fault : TextFault) → journal_of text ≡ Err fault → answer_of hash text ≡ Err fault
unfolding answer_of
answer_err hash text fault h = let f : Result Journal TextFault → Result (List ℕ) TextFault = λ r. r >>= λ x. Ok (printed hash x) in ap f h

-- what holds of long texts holds where the input is long
longer : (input : Option (List ℕ)) (P : List ℕ → Type 0) → ((text : List ℕ) → MAX_TEXT_BYTES < length text → P text) → IfSome input (λ text. MAX_TEXT_BYTES < length text) → IfSome input P
longer None P f h = tt
longer (Some text) P f h = f text h

-- where reading failed, nothing was written
pub unread : (answer : List ℕ → Result (List ℕ) TextFault) (input old : Option (List ℕ)) (e : TextFault) → KnowsLong answer → NotRead input e → Writes answer input old old (Err e)
unread answer input old faults.OutOfMemory long h = Keeps-refl old
unread answer input old faults.Read long h = Keeps-refl old
unread answer input old faults.Long long h = (longer input (λ text. answer text ≡ Err faults.Long) long h, Keeps-refl old)
unread answer input old (faults.Line n cause) long h = absurd h
unread answer input old (faults.Truncated n) long h = absurd h
unread answer input old faults.Count long h = absurd h
unread answer input old faults.Write long h = absurd h

-- what holds of the text that was read holds of the input
pub on_input : (input : Option (List ℕ)) (text : List ℕ) (P : List ℕ → Type 0) → IfSome input (λ bytes. text ≡ bytes) → P text → IfSome input P
on_input None text P same h = tt
on_input (Some bytes) text P same h = subst P same h

-- where a text was read, its output went out, or the answer says why it didn't
pub prints : (answer : List ℕ → Result (List ℕ) TextFault) (input old new : Option (List ℕ)) (text out : List ℕ) (r : Result (Unit {0}) TextFault)
    → IfSome input (λ bytes. text ≡ bytes) → answer text ≡ Ok out → OnOk r (Appends old new out) → IfErr r (λ e. NotPrinted old new out e)
    → Writes answer input old new r
prints answer input old new text out (Ok done) same read ok err =
    let P : Result (List ℕ) TextFault → Type 0 = λ a. IsOk a × Appends old new (written_for a) in
    let Q : List ℕ → Type 0 = λ bytes. IsOk (answer bytes) × Appends old new (written_for (answer bytes)) in
    on_input input text Q same (subst P (sym read) (refl, ok))
prints answer input old new text out (Err faults.Write) same read ok err =
    let P : Result (List ℕ) TextFault → Type 0 = λ a. AppendsFront old new (written_for a) in
    let Q : List ℕ → Type 0 = λ bytes. AppendsFront old new (written_for (answer bytes)) in
    on_input input text Q same (subst P (sym read) err)
prints answer input old new text out (Err faults.OutOfMemory) same read ok err = err
prints answer input old new text out (Err (faults.Line n cause)) same read ok err = absurd err
prints answer input old new text out (Err (faults.Truncated n)) same read ok err = absurd err
prints answer input old new text out (Err faults.Count) same read ok err = absurd err
prints answer input old new text out (Err faults.Read) same read ok err = absurd err
prints answer input old new text out (Err faults.Long) same read ok err = absurd err

-- a fault of the text, for which a line is printed
abbrev HasLine : TextFault → Type 0
HasLine (faults.Line n cause) = Unit {0}
HasLine (faults.Truncated n) = Unit {0}
HasLine faults.Count = Unit {0}
HasLine faults.OutOfMemory = ⊥
HasLine faults.Read = ⊥
HasLine faults.Write = ⊥
HasLine faults.Long = ⊥

printed_as : (old new : Option (List ℕ)) (fault : TextFault) (answer : Result (List ℕ) TextFault) → answer ≡ Err fault → Appends old new (fault_line fault ++ codes "\n") → WritesFault fault old new answer
printed_as old new fault answer e h = let P : Result (List ℕ) TextFault → Type 0 = λ a. Appends old new (written_for a) in (e, subst P (sym e) h)

printed_on : (answer : List ℕ → Result (List ℕ) TextFault) (input old new : Option (List ℕ)) (text : List ℕ) (fault : TextFault)
    → IfSome input (λ bytes. text ≡ bytes) → answer text ≡ Err fault → Appends old new (fault_line fault ++ codes "\n") → IfSome input (λ bytes. WritesFault fault old new (answer bytes))
printed_on answer input old new text fault same read h =
    let Q : List ℕ → Type 0 = λ bytes. WritesFault fault old new (answer bytes) in
    on_input input text Q same (printed_as old new fault (answer text) read h)

prints_line : (answer : List ℕ → Result (List ℕ) TextFault) (input old new : Option (List ℕ)) (text : List ℕ) (fault : TextFault) → HasLine fault
    → IfSome input (λ bytes. text ≡ bytes) → answer text ≡ Err fault → Appends old new (fault_line fault ++ codes "\n") → Writes answer input old new (Err fault)
prints_line answer input old new text (faults.Line n cause) is same read h = printed_on answer input old new text (faults.Line n cause) same read h
prints_line answer input old new text (faults.Truncated n) is same read h = printed_on answer input old new text (faults.Truncated n) same read h
prints_line answer input old new text faults.Count is same read h = printed_on answer input old new text faults.Count same read h
prints_line answer input old new text faults.OutOfMemory is same read h = absurd is
prints_line answer input old new text faults.Read is same read h = absurd is
prints_line answer input old new text faults.Write is same read h = absurd is
prints_line answer input old new text faults.Long is same read h = absurd is

-- where the text is at fault, the fault's line was written, or the answer says why it wasn't
refuses : (answer : List ℕ → Result (List ℕ) TextFault) (input old new : Option (List ℕ)) (text : List ℕ) (fault : TextFault) (r : Result (Unit {0}) TextFault) → HasLine fault
    → IfSome input (λ bytes. text ≡ bytes) → answer text ≡ Err fault → IsErr r → IfErr r (λ e. Refuses fault old new e) → Writes answer input old new r
refuses answer input old new text fault (Ok done) is same read err why = cc
refuses answer input old new text fault (Err e) is same read err why =
    let R : TextFault → Type 0 = λ x. Writes answer input old new (Err x) in
    let P : Result (List ℕ) TextFault → Type 0 = λ a. AppendsFront old new (written_for a) in
    let Q : List ℕ → Type 0 = λ bytes. AppendsFront old new (written_for (answer bytes)) in
    elim why [
      | inl line ↦ subst R (sym line.0) (prints_line answer input old new text fault is same read line.1)
      | inr other ↦ elim other [
        | inl front ↦ subst R (sym front.0) (on_input input text Q same (subst P (sym read) front.1))
        | inr memory ↦ subst R (sym memory.0) memory.1
      ]
    ]

-- what holds at an answer holds at the one that it is
as_answered : (answer : List ℕ → Result (List ℕ) TextFault) (input old new : Option (List ℕ)) (r : Result (Unit {0}) TextFault) (fault : TextFault) → r ≡ Err fault → Writes answer input old new (Err fault) → Writes answer input old new r
as_answered answer input old new r fault is h = let R : Result (Unit {0}) TextFault → Type 0 = λ x. Writes answer input old new x in subst R (sym is) h

-- Where a text couldn't be read and its fault was handed on, the engine's promise holds. by_fault: the text's own faults are
-- the input's.
pub refused : {X : Type 0} (answer : List ℕ → Result (List ℕ) TextFault) (input old new : Option (List ℕ)) (text : List ℕ) (said : Result X TextFault) (fault : TextFault) (r : Result (Unit {0}) TextFault)
    → ((e : TextFault) → said ≡ Err e → answer text ≡ Err e) → IfSome input (λ bytes. text ≡ bytes) → Fails fault said → Refused fault old new r → Writes answer input old new r
refused answer input old new text said (faults.Line n cause) r by_fault same fails h = refuses answer input old new text (faults.Line n cause) r tt same (by_fault _ fails) h.0 h.1
refused answer input old new text said (faults.Truncated n) r by_fault same fails h = refuses answer input old new text (faults.Truncated n) r tt same (by_fault _ fails) h.0 h.1
refused answer input old new text said faults.Count r by_fault same fails h = refuses answer input old new text faults.Count r tt same (by_fault _ fails) h.0 h.1
refused answer input old new text said faults.OutOfMemory r by_fault same fails h = as_answered answer input old new r faults.OutOfMemory h.0 h.1
refused answer input old new text said faults.Long r by_fault same fails h =
    let Q : List ℕ → Type 0 = λ bytes. answer bytes ≡ Err faults.Long in
    as_answered answer input old new r faults.Long h.0 (on_input input text Q same (by_fault _ fails), h.1)
refused answer input old new text said faults.Read r by_fault same fails h = absurd fails
refused answer input old new text said faults.Write r by_fault same fails h = absurd fails
