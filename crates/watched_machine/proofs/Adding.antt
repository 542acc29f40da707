-- A log's step keeps its rule: where the counter is the number that was known one report is added, and else none.
use Rattle.std.proofs.Common.{◌≡◌, ◌==◌, ℕ, ◌+◌, ◌<◌, Bool, true, false, List, [], ◌∷◌, ◌++◌, length, refl, ap, sym, subst, ◌∙◌, inl, arith, None, length-append}
use prog.Atomic.{either}
use Rattle.std.proofs.lemmas.Bool.{eqb-true}
use Rattle.logbook.specs.Pages.{Cell, cell, Moves, Goes, no_nib, step, keeps}
use Rattle.page_model.specs.Parts.{Totals}
use Rattle.watched_machine.specs.Counting.{CountsReports, AddsReport}
use Rattle.watched_machine.proofs.Fronts.{front_of_longer, longest_front}

module _ (known : List Totals) (report : Totals) (count : ℕ) where
  abbrev Next : List Cell → List Totals → Type 0
  Next cells log =
      Goes CountsReports (λ all. []) (λ before after answer. Unit {0}) 0 (known, (no_nib, None)) (λ n. either (n == count) (count + 1) n)
      (AddsReport (step 0 count (count + 1) report) (known, (no_nib, None))) cells log

  abbrev counted : List Totals → List Cell
  counted log = (length log, true) ∷ (0, true) ∷ []

  added : (log : List Totals) → known ≡ log → (length log == count) ≡ true → Next (counted log) log
  added log same e =
      (keeps, report ∷ [], None, tt, record { words = rw (e, length-append log (report ∷ [])) (ap (λ n. (n + 1, true) ∷ (0, true) ∷ []) (sym (eqb-true (length log) count e))) }, inl (refl, refl), rw e (ap (λ l. l ++ report ∷ []) (sym same)))

  left : (log : List Totals) → (length log == count) ≡ false → Next (counted log) log
  left log e =
      let same : length log ≡ length (log ++ []) = omega (arith, length-append log []) in
      (keeps, [], None, tt, record { words = rw e (ap (λ n. (n, true) ∷ (0, true) ∷ []) same) }, inl (refl, refl), rw e tt)

  pub adds_one : length known ≡ count
      → Moves CountsReports (λ all. []) (λ before after answer. Unit {0}) 0 (known, (no_nib, None)) (λ n. either (n == count) (count + 1) n)
      (AddsReport (step 0 count (count + 1) report) (known, (no_nib, None)))
  adds_one long cells log holds front away =
      let P : List Cell → Type 0 = λ cs. (0 < length cs) × ((cell cs 0).1 ≡ true) × Next cs log in
      subst P (sym holds.words) (omega arith, refl, goes (length log == count) refl) where
        goes : (b : Bool) → (length log == count) ≡ b → Next (counted log) log
        goes true e = added log (longest_front known log (front_of_longer known log front) (long ∙ sym (eqb-true (length log) count e))) e
        goes false e = left log e
