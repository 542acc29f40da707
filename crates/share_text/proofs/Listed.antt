-- Lines of verdicts, a verdict or a guest at a time.
use Rattle.std.proofs.Common.{◌≡◌, ◌+◌, ◌<◌, ◌++◌, ℕ, List, length, drop, get_or, map, ap}
use Rattle.std.specs.Prelude.{codes}
use Rattle.std.specs.declared.vec.Vec.{Vec}
use Rattle.page_model.specs.declared.verdict.Verdict.{Verdict}
use Rattle.journal_text.specs.Printed.{verdict_line}
use Rattle.journal_text.proofs.Written.{left_at}
use Rattle.share_text.specs.Runs.{guest_lines, lists_lines}

pub verdicts_at : (guest : ℕ) (vs : List Verdict) (i : ℕ) (v : Verdict) → i < length vs → v ≡ get_or vs i v
    → guest_lines guest (drop i vs) ≡ (verdict_line guest v ++ codes "\n") ++ guest_lines guest (drop (i + 1) vs)
verdicts_at guest vs i v h same = ap (λ (left : List Verdict). guest_lines guest left) (left_at vs i v h same)

module _ {A : Type 0} where
  -- the lists of verdicts, as lists
  abbrev pub items_of : List (Vec Verdict A) → List (List Verdict)
  items_of lists = map (λ list. list.items) lists

  pub lists_at : (guest : ℕ) (lists : List (Vec Verdict A)) (i : ℕ) (list : Vec Verdict A) → i < length lists → list ≡ get_or lists i list
      → lists_lines guest (items_of (drop i lists)) ≡ guest_lines guest list.items ++ lists_lines (guest + 1) (items_of (drop (i + 1) lists))
  lists_at guest lists i list h same = ap (λ (left : List (Vec Verdict A)). lists_lines guest (items_of left)) (left_at lists i list h same)
