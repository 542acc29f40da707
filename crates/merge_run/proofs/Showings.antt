-- What an observer was shown, as its run goes on.
use Rattle.std.proofs.Common.{◌≡◌, ℕ, ◌+◌, ◌≤◌, List, [], ◌∷◌, ◌++◌, length, take, refl, ap, sym, subst, ◌∙◌, arith}
use Rattle.std.proofs.lemmas.List.{take-append-le, length-append}
use Rattle.std.proofs.Math.Seq.{take-length}
use Rattle.page_model.specs.Pages.{State, totals}
use Rattle.page_model.specs.Parts.{Totals}
use Rattle.page_model.specs.declared.request.Entry.{Entry}
use Rattle.merge_machine.specs.Machines.{opening, IsReplayOf}
use Rattle.merge_run.specs.Fronts.{report_after}
use Rattle.merge_run.specs.Showings.{Showing, round_limit, IsShownNext, ShownAllAlong, BecomesBy, WasShown, GrowsBy}
use Rattle.merge_run.proofs.Fronts.{report_of_whole}

-- the calls, and then further calls
calls_then : {O : Type 0} (becomes : O → Totals → ℕ → O → Type 0) (first middle last : O) (showings later : List Showing) → BecomesBy becomes first showings middle → BecomesBy becomes middle later last → BecomesBy becomes first (showings ++ later) last
calls_then becomes first middle last [] later calls after = subst (λ o. BecomesBy becomes o later last) calls after
calls_then becomes first middle last (s ∷ showings) later calls after = (calls.0, calls.1, calls_then becomes calls.0 middle last showings later calls.2 after)

module _ (hash : ℕ → List ℕ → ℕ) (machine : State) where
  -- what was shown of a journal was shown of a longer one
  next_of_longer : (journal more : List Entry) (before : ℕ) (s : Showing) → IsShownNext hash machine journal before s → IsShownNext hash machine (journal ++ more) before s
  next_of_longer journal more before s next =
      record {
        few = next.few;
        front = omega (arith, next.front, length-append journal more);
        report = next.report ∙ ap (λ es. report_after hash machine es) (sym (take-append-le (before + s.served) journal more next.front));
      }

  -- the whole journal is shown, after so many entries more
  pub whole_next : (journal more : List Entry) (s : Showing) → length more ≡ s.served → s.served ≤ round_limit → s.report ≡ report_after hash machine (journal ++ more) → ShownAllAlong hash machine (journal ++ more) (length journal) (s ∷ [])
  whole_next journal more s count few is =
      let there : length journal + s.served ≡ length (journal ++ more) = omega (arith, count, length-append journal more) in
      let whole : take (length journal + s.served) (journal ++ more) ≡ journal ++ more = ap (λ n. take n (journal ++ more)) there ∙ take-length (journal ++ more) in
      (record { few = few; front = omega (arith, there); report = is ∙ ap (λ es. report_after hash machine es) (sym whole) }, there)

  -- what was shown of a journal, and then of what came after it
  pub along_then : (journal more : List Entry) (from : ℕ) (showings later : List Showing) → ShownAllAlong hash machine journal from showings → ShownAllAlong hash machine (journal ++ more) (length journal) later → ShownAllAlong hash machine (journal ++ more) from (showings ++ later)
  along_then journal more from [] later all after = subst (λ n. ShownAllAlong hash machine (journal ++ more) n later) (sym all) after
  along_then journal more from (s ∷ showings) later along after = (next_of_longer journal more from s along.0, along_then journal more (from + s.served) showings later along.1 after)

-- shown a part of the run, and then the part after it
pub shown_then : (hash : ℕ → List ℕ → ℕ) {O : Type 0} (becomes : O → Totals → ℕ → O → Type 0) (first middle last : O) (machine machine' : State) (from served : ℕ) (journal journal' : List Entry)
    → machine' ≡ machine → GrowsBy served journal journal' → WasShown becomes hash first middle machine from journal → WasShown becomes hash middle last machine' (length journal) journal'
    → WasShown becomes hash first last machine' from journal'
shown_then hash becomes first middle last machine machine' from served journal journal' same grows before after =
    let all = before.showings ++ after.showings in
    let here = subst (λ es. ShownAllAlong hash machine es (length journal) after.showings) grows.entries (subst (λ m. ShownAllAlong hash m journal' (length journal) after.showings) same after.along) in
    let along = along_then hash machine journal grows.more from before.showings after.showings before.along here in
    record {
      showings = all;
      calls = calls_then becomes first middle last before.showings after.showings before.calls after.calls;
      along = subst (λ m. ShownAllAlong hash m journal' from all) (sym same) (subst (λ es. ShownAllAlong hash machine es from all) (sym grows.entries) along);
    }

-- a round was served, and then the report of the whole journal was shown
pub shown_once : (hash : ℕ → List ℕ → ℕ) {O : Type 0} (becomes : O → Totals → ℕ → O → Type 0) (before after : O) (s : State) (served : ℕ) (journal journal' : List Entry) (report : Totals)
    → report ≡ totals s.entries s.guests → IsReplayOf hash s journal' → GrowsBy served journal journal' → becomes before report served after
    → WasShown becomes hash before after (opening s) (length journal) journal'
shown_once hash becomes before after s served journal journal' report is replayed grows called =
    let next : Showing = record { report = report; served = served } in
    let whole : report ≡ report_after hash (opening s) (journal ++ grows.more) = is ∙ report_of_whole hash s journal' replayed ∙ ap (λ es. report_after hash (opening s) es) grows.entries in
    record {
      showings = next ∷ [];
      calls = (after, called, refl);
      along = subst (λ es. ShownAllAlong hash (opening s) es (length journal) (next ∷ [])) (sym grows.entries) (whole_next hash (opening s) journal grows.more next grows.count grows.few whole);
    }
