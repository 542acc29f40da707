-- A replay's lines.
use Rattle.std.proofs.Common.{◌≡◌, ◌+◌, ◌<◌, ◌++◌, suc, ℕ, List, [], ◌∷◌, length, drop, get_or, refl, ap, sym, ◌∙◌, append_assoc, add-one}
use Rattle.std.proofs.Math.Seq.{drop-cons}
use Rattle.page_model.specs.Pages.{State}
use Rattle.page_model.specs.Replay.{state_after, verdicts_of}
use Rattle.page_model.specs.Steps.{step}
use Rattle.page_model.specs.declared.request.Entry.{Entry}
use Rattle.journal_replay.specs.Replayed.{served_line, verdict_lines, lines_from, report_text, printed_from}

-- behind the last entry stands the report
pub printed_none : (hash : ℕ → List ℕ → ℕ) (s : State) → printed_from hash s [] ≡ report_text s
unfolding printed_from state_after verdicts_of
printed_none hash s = refl

-- an entry's line, and what is printed after it
pub printed_more : (hash : ℕ → List ℕ → ℕ) (s : State) (e : Entry) (es : List Entry)
    → printed_from hash s (e ∷ es) ≡ served_line hash s e ++ printed_from hash (step hash s e.guest e.request).state es
unfolding printed_from state_after verdicts_of
printed_more hash s e es =
    let after : State = (step hash s e.guest e.request).state in
    append_assoc (served_line hash s e) (verdict_lines es (verdicts_of hash after es)) (report_text (state_after hash after es))

-- some entries, and then more
pub printed_append : (hash : ℕ → List ℕ → ℕ) (s : State) (es later : List Entry) → printed_from hash s (es ++ later) ≡ lines_from hash s es ++ printed_from hash (state_after hash s es) later
unfolding state_after verdicts_of
printed_append hash s [] later = refl
printed_append hash s (e ∷ es) later =
    let line : List ℕ = served_line hash s e in
    let after : State = (step hash s e.guest e.request).state in
    printed_more hash s e (es ++ later) ∙ ap (λ (xs : List ℕ). line ++ xs) (printed_append hash after es later) ∙ sym (append_assoc line (lines_from hash after es) (printed_from hash (state_after hash after es) later))

-- entries, and the report behind them
pub printed_whole : (hash : ℕ → List ℕ → ℕ) (s : State) (es : List Entry) → printed_from hash s es ≡ lines_from hash s es ++ report_text (state_after hash s es)
unfolding printed_from
printed_whole hash s es = refl

-- no entry is left
pub state_none : (hash : ℕ → List ℕ → ℕ) (s : State) → state_after hash s [] ≡ s
unfolding state_after
state_none hash s = refl

lines_more : (hash : ℕ → List ℕ → ℕ) (s : State) (e : Entry) (es : List Entry)
    → lines_from hash s (e ∷ es) ≡ served_line hash s e ++ lines_from hash (step hash s e.guest e.request).state es
unfolding verdicts_of
lines_more hash s e es = refl

state_more : (hash : ℕ → List ℕ → ℕ) (s : State) (e : Entry) (es : List Entry) → state_after hash s (e ∷ es) ≡ state_after hash (step hash s e.guest e.request).state es
unfolding state_after
state_more hash s e es = refl

-- the entry at a place, and those behind it
parts_at : (es : List Entry) (i : ℕ) (e : Entry) → i < length es → e ≡ get_or es i e → drop i es ≡ e ∷ drop (i + 1) es
parts_at es i e h same = rw add-one (drop-cons es i e h ∙ ap (λ (x : Entry). x ∷ drop (suc i) es) (sym same))

pub lines_at : (hash : ℕ → List ℕ → ℕ) (s : State) (es : List Entry) (i : ℕ) (e : Entry) → i < length es → e ≡ get_or es i e
    → lines_from hash s (drop i es) ≡ served_line hash s e ++ lines_from hash (step hash s e.guest e.request).state (drop (i + 1) es)
lines_at hash s es i e h same = ap (λ (left : List Entry). lines_from hash s left) (parts_at es i e h same) ∙ lines_more hash s e (drop (i + 1) es)

pub state_at : (hash : ℕ → List ℕ → ℕ) (s : State) (es : List Entry) (i : ℕ) (e : Entry) → i < length es → e ≡ get_or es i e
    → state_after hash s (drop i es) ≡ state_after hash (step hash s e.guest e.request).state (drop (i + 1) es)
state_at hash s es i e h same = ap (λ (left : List Entry). state_after hash s left) (parts_at es i e h same) ∙ state_more hash s e (drop (i + 1) es)
