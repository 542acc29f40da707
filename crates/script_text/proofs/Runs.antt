-- What is sent while the entries that wait are served.
use Rattle.std.proofs.Common.{◌≡◌, ℕ, List, [], ◌++◌, Option, sym, ap, ◌∙◌, append_assoc, append-nil}
use Rattle.page_model.specs.Pages.{State}
use Rattle.page_model.specs.Replay.{state_after}
use Rattle.page_model.specs.declared.request.Entry.{Entry}
use Rattle.journal_replay.specs.Ends.{AppendsFront, Sends}
use Rattle.journal_replay.specs.Replayed.{lines_from, printed_from, report_text}
use Rattle.journal_replay.proofs.Prints.{printed_append, printed_none}
use Rattle.journal_replay.proofs.Sent.{front_more, sends_front, sends_more, sends_trans}

-- of all that is to be printed, the lines of some entries come first
run_first : (hash : ℕ → List ℕ → ℕ) (a b : Option (List ℕ)) (out whole : List ℕ) (s : State) (run later all : List Entry) → all ≡ run ++ later → Sends a b (out ++ printed_from hash s all) whole
    → Sends a b ((out ++ lines_from hash s run) ++ printed_from hash (state_after hash s run) later) whole
run_first hash a b out whole s run later all same h =
    let lines : List ℕ = lines_from hash s run in
    let rest : List ℕ = printed_from hash (state_after hash s run) later in
    let parts : out ++ printed_from hash s all ≡ (out ++ lines) ++ rest = ap (λ (es : List Entry). out ++ printed_from hash s es) same ∙ ap (λ (xs : List ℕ). out ++ xs) (printed_append hash s run later) ∙ sym (append_assoc out lines rest) in
    rw parts at h

-- some entries were served
pub run_sent : (hash : ℕ → List ℕ → ℕ) (a b c : Option (List ℕ)) (out ahead whole : List ℕ) (s : State) (run later all : List Entry) → all ≡ run ++ later → Sends a b (out ++ printed_from hash s all) whole
    → Sends b c ahead (out ++ lines_from hash s run) → Sends a c (ahead ++ printed_from hash (state_after hash s run) later) whole
run_sent hash a b c out ahead whole s run later all same h next =
    let rest : List ℕ = printed_from hash (state_after hash s run) later in
    sends_trans a b c ((out ++ lines_from hash s run) ++ rest) (ahead ++ rest) whole (run_first hash a b out whole s run later all same h) (sends_more b c ahead (out ++ lines_from hash s run) rest next)

-- or the writer failed among their lines
pub run_cut : (hash : ℕ → List ℕ → ℕ) (a b c : Option (List ℕ)) (out whole : List ℕ) (s : State) (run later all : List Entry) → all ≡ run ++ later → Sends a b (out ++ printed_from hash s all) whole
    → AppendsFront b c (out ++ lines_from hash s run) → AppendsFront a c whole
run_cut hash a b c out whole s run later all same h front =
    let rest : List ℕ = printed_from hash (state_after hash s run) later in
    sends_front a b c ((out ++ lines_from hash s run) ++ rest) whole (run_first hash a b out whole s run later all same h) (front_more b c (out ++ lines_from hash s run) rest front)

-- the last entries were served
pub last_sent : (hash : ℕ → List ℕ → ℕ) (a b c : Option (List ℕ)) (out ahead whole : List ℕ) (s after : State) (run all : List Entry) → all ≡ run → after ≡ state_after hash s run → Sends a b (out ++ printed_from hash s all) whole
    → Sends b c ahead (out ++ lines_from hash s run) → Sends a c (ahead ++ report_text after) whole
last_sent hash a b c out ahead whole s after run all same state h next =
    let sends : Sends a c (ahead ++ printed_from hash (state_after hash s run) []) whole = run_sent hash a b c out ahead whole s run [] all (same ∙ sym (append-nil run)) h next in
    let report : printed_from hash (state_after hash s run) [] ≡ report_text after = printed_none hash (state_after hash s run) ∙ ap report_text (sym state) in
    rw report at sends

-- or the writer failed among their lines
pub last_cut : (hash : ℕ → List ℕ → ℕ) (a b c : Option (List ℕ)) (out whole : List ℕ) (s : State) (run all : List Entry) → all ≡ run → Sends a b (out ++ printed_from hash s all) whole
    → AppendsFront b c (out ++ lines_from hash s run) → AppendsFront a c whole
last_cut hash a b c out whole s run all same h front = run_cut hash a b c out whole s run [] all (same ∙ sym (append-nil run)) h front
