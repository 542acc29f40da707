-- One guest's end among all of them.
use Rattle.std.proofs.Common.{◌≡◌, ℕ, ◌<◌, false, List, length, get_or, set, refl, ap, sym, ◌∙◌}
use Rattle.page_model.specs.Pages.{State}
use Rattle.page_model.specs.declared.request.Entry.{Entry}
use Rattle.page_model.proofs.Journals.{length-answers}
use Rattle.share_rings.specs.declared.merger_end.MergerEnd.{MergerEnd}
use Rattle.share_rings.specs.Closing.{is_close, is_closed, has_close, has_closed}
use Rattle.page_model.specs.declared.request.Request.{Request}
use Rattle.page_model.specs.declared.verdict.Verdict.{Verdict}
use Rattle.share_rings.specs.Ends.{PairName, end_name, end_taken, end_given, end_view}
use Rattle.merge_machine.specs.Kept.{Keeps}
use Rattle.merge_machine.specs.Steps.{AtGuest}
use Rattle.merge_machine.proofs.Lists.{get_at}
use Rattle.merge_machine.proofs.Ends.{keeps_here}
use Rattle.merge_machine.proofs.Closes.{none_beside}

module _ {A : Type 0} where
  abbrev pub at_guest : (ends : List (MergerEnd A)) (g : ℕ) (before after : MergerEnd A) → before ≡ get_or ends g before → g < length ends → AtGuest g ends (set ends g after)
  at_guest ends g before after at l = record { before = before; after = after; here = get_at ends g before at l; others = refl }

  -- ends that show the same are of the same rings
  pub name_of : (e f : MergerEnd A) → end_view e ≡ end_view f → end_name e ≡ end_name f
  name_of e f same = ap (λ (v : PairName A × (List Request × List Verdict) × ℕ). v.0) same

  -- all that was taken is answered, so no `Close` was taken where no `Closed` was given
  pub not_closing : (hash : ℕ → List ℕ → ℕ) (machine : State) (ends : List (MergerEnd A)) (journal : List Entry) (g : ℕ) (e : MergerEnd A) → Keeps hash machine ends journal → g < length ends → e ≡ get_or ends g e → has_closed (end_given e) ≡ false → has_close (end_taken e) ≡ false
  not_closing hash machine ends journal g e k l at none =
      let here = keeps_here hash machine ends journal g e k l at in
      let same : length (end_given e) ≡ length (end_taken e) = ap length here.1 ∙ (length-answers hash machine g journal ∙ sym (ap length here.0)) in
      none_beside is_closed is_close (end_given e) (end_taken e) e.answered same none
