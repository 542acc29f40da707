-- A request that has changed the pages has been applied, once it is counted.
use Rattle.std.proofs.Common.{◌≡◌, ◌+◌, ℕ, List, length, refl, ap, ◌∙◌}
use Rattle.page_model.specs.Steps.{Outcome, Step, counted, answered, step}
use Rattle.page_model.specs.declared.request.Request.{Request}
use Rattle.page_model.specs.declared.request.Request.TheVariants.{Propose, Store, Load, Release, Count, Close}
use Rattle.page_model.specs.declared.verdict.Verdict.{Verdict}
use Rattle.merge_core.specs.Applying.{Applies}
use Rattle.merge_core.specs.Shown.{Shown, state_of}
use Rattle.merge_core.specs.Stays.{FramesStay}
use Rattle.merge_core.specs.View.{pmap_of, guests_of}
use Rattle.merge_core.specs.declared.held.Held.{Held}
use Rattle.merge_core.proofs.Lengths.{at_page_len, proposed_len, stored_len, released_len}

-- what a contract sees of a core
abbrev pub shown : {H A : Type 0} → ℕ → Held H A → Shown
shown entries held = record { entries = entries; pmap = pmap_of held; frames = held.frames; table = held.table }

answered_len : (hash : ℕ → List ℕ → ℕ) (c : Shown) (guest : ℕ) (r : Request) → length (answered hash (counted (state_of c)) guest r).guests ≡ length (state_of c).guests
unfolding answered
answered_len hash c guest (Propose ppn) = at_page_len (state_of c).guests guest ppn _ (λ salt slot. proposed_len hash (state_of c).guests guest ppn salt slot)
answered_len hash c guest (Store r) = at_page_len (state_of c).guests guest r.ppn _ (λ salt slot. stored_len (length c.frames) (state_of c).guests guest r.ppn r.at r.bytes salt slot)
answered_len hash c guest (Load r) = at_page_len (state_of c).guests guest r.ppn _ (λ _ _. refl)
answered_len hash c guest (Release ppn) = at_page_len (state_of c).guests guest ppn _ (λ salt slot. released_len (state_of c).guests guest ppn salt slot)
answered_len hash c guest Count = refl
answered_len hash c guest Close = refl

module _ {H A : Type 0} (hash : ℕ → List ℕ → ℕ) (guest : ℕ) (r : Request) (verdict : Verdict) (entries : ℕ) (old new : Held H A) where
  -- the step that an outcome makes, in a machine of so many frames
  abbrev made : ℕ → Outcome → Step
  made total outcome = record { state = record { total = total; guests = outcome.guests; entries = entries + 1 }; verdict = outcome.verdict }

  pub applied : record { guests = guests_of new; verdict = verdict } ≡ answered hash (counted (state_of (shown entries old))) guest r →
      length new.frames ≡ length old.frames → FramesStay guest r verdict (shown entries old) (shown (entries + 1) new) →
      Applies hash guest r verdict (shown entries old) (shown (entries + 1) new)
  unfolding step
  applied outcome total stay =
      record {
        step = ap (λ n. made n (record { guests = guests_of new; verdict = verdict })) total ∙ ap (made (length old.frames)) outcome;
        stay = stay;
        entries = refl;
        guests = ap (λ (o : Outcome). length o.guests) outcome ∙ answered_len hash (shown entries old) guest r;
      }
