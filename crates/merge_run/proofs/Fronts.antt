-- Reports of the fronts of a journal: what stays true of them as the journal grows, and as one more is published.
use Rattle.std.proofs.Common.{◌≡◌, ℕ, List, [], ◌∷◌, ◌++◌, length, take, ap, sym, ◌∙◌, arith}
use Rattle.std.proofs.lemmas.List.{take-append-le, length-append}
use Rattle.std.proofs.lemmas.List.Elements.{All-nil, All-cons, All-head, All-tail, All-append}
use Rattle.std.proofs.Math.Seq.{take-length}
use Rattle.page_model.specs.Pages.{State, totals}
use Rattle.page_model.specs.Parts.{Totals}
use Rattle.page_model.specs.declared.request.Entry.{Entry}
use Rattle.page_model.proofs.Entries.{entries_counted}
use Rattle.merge_machine.specs.Machines.{opening, IsReplayOf}
use Rattle.merge_run.specs.Fronts.{report_after, IsOfFront, AreOfFronts}

-- a front of a journal is a front of a longer one
of_longer : (hash : ℕ → List ℕ → ℕ) (machine : State) (journal more : List Entry) (r : Totals) → IsOfFront hash machine journal r → IsOfFront hash machine (journal ++ more) r
of_longer hash machine journal more r h =
    (omega (arith, h.0, length-append journal more), h.1 ∙ ap (λ es. report_after hash machine es) (sym (take-append-le r.entries journal more h.0)))

pub are_of_longer : (hash : ℕ → List ℕ → ℕ) (machine : State) (journal more : List Entry) (reports : List Totals) → AreOfFronts hash machine journal reports → AreOfFronts hash machine (journal ++ more) reports
are_of_longer hash machine journal more [] h = All-nil (IsOfFront hash machine (journal ++ more))
are_of_longer hash machine journal more (r ∷ reports) h =
    let P = IsOfFront hash machine journal in let Q = IsOfFront hash machine (journal ++ more) in
    All-cons Q r reports (of_longer hash machine journal more r (All-head P r reports h)) (are_of_longer hash machine journal more reports (All-tail P r reports h))

-- the state of a replay counts the whole journal, and its report is that of the replay
pub counts_all : (hash : ℕ → List ℕ → ℕ) (s : State) (journal : List Entry) → IsReplayOf hash s journal → s.entries ≡ length journal
unfolding opening
counts_all hash s journal replayed = omega (arith, ap (λ (t : State). t.entries) replayed, entries_counted hash (opening s) journal)

pub report_of_whole : (hash : ℕ → List ℕ → ℕ) (s : State) (journal : List Entry) → IsReplayOf hash s journal → totals s.entries s.guests ≡ report_after hash (opening s) journal
report_of_whole hash s journal replayed = ap (λ (t : State). totals t.entries t.guests) replayed

-- so that report is one of a front, the whole journal
pub of_whole : (hash : ℕ → List ℕ → ℕ) (s : State) (journal : List Entry) → IsReplayOf hash s journal → IsOfFront hash (opening s) journal (totals s.entries s.guests)
of_whole hash s journal replayed =
    let all = counts_all hash s journal replayed in
    (omega (arith, all), report_of_whole hash s journal replayed ∙ ap (λ es. report_after hash (opening s) es) (sym (take-length journal) ∙ ap (λ n. take n journal) (sym all)))

-- and it may be published next
pub with_whole : (hash : ℕ → List ℕ → ℕ) (s : State) (journal : List Entry) (reports : List Totals) → IsReplayOf hash s journal → AreOfFronts hash (opening s) journal reports → AreOfFronts hash (opening s) journal (reports ++ totals s.entries s.guests ∷ [])
with_whole hash s journal reports replayed h =
    let P = IsOfFront hash (opening s) journal in
    All-append P reports (totals s.entries s.guests ∷ []) h (All-cons P (totals s.entries s.guests) [] (of_whole hash s journal replayed) (All-nil P))
