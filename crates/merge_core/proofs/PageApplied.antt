-- A whole page has been stored or lent, once its requests are counted.
use Rattle.std.proofs.Common.{◌≡◌, ◌+◌, ℕ, true, false, cond, List, length, None, Ok, Err, refl, ap, sym, ◌∙◌, arith}
use Rattle.page_model.specs.Steps.{Outcome, Step, proposed, at_page, answered, step}
use Rattle.page_model.specs.Stored.{is_done}
use Rattle.page_model.specs.declared.request.Request.TheVariants.{Propose}
use Rattle.page_model.specs.declared.verdict.Verdict.{Verdict}
use Rattle.page_lending.specs.Lending.{page_stored, page_lent}
use Rattle.page_lending.specs.Laws.{at_once}
use Rattle.page_lending.proofs.Stores.{store_at, stored_at_once}
use Rattle.merge_core.specs.Lending.{StoresPage, Lends, LendsPage, page_outcome}
use Rattle.merge_core.specs.Shown.{Shown, state_of}
use Rattle.merge_core.specs.Stays.{OthersKeep}
use Rattle.merge_core.specs.View.{pmap_of, guests_of}
use Rattle.merge_core.specs.declared.held.Held.{Held}
use Rattle.merge_core.specs.declared.lent.Lent.{Lent}
use Rattle.merge_core.proofs.Applied.{shown}
use Rattle.merge_core.proofs.Lengths.{at_page_len, proposed_len, stored_len}

module _ {H A : Type 0} (hash : ℕ → List ℕ → ℕ) (guest ppn : ℕ) (page : List ℕ) (size : length page ≡ 4096) (verdict : Verdict) (entries : ℕ) (old new : Held H A) where
  -- the step that an outcome makes, in a machine of so many frames
  abbrev made : ℕ → Outcome → Step
  made total outcome = record { state = record { total = total; guests = outcome.guests; entries = entries + 64 }; verdict = outcome.verdict }

  pub page_applied : record { guests = guests_of new; verdict = verdict } ≡ store_at (length old.frames) (guests_of old) guest ppn 0 page →
      length new.frames ≡ length old.frames → OthersKeep old.frames guest ppn verdict (pmap_of old) (pmap_of new) →
      StoresPage hash guest ppn page verdict (shown entries old) (shown (entries + 64) new)
  page_applied outcome total stay =
      record {
        step = ap (λ n. made n (record { guests = guests_of new; verdict = verdict })) total ∙ ap (made (length old.frames)) outcome ∙ sym (stored_at_once hash (state_of (shown entries old)) guest ppn page size);
        stay = stay;
        entries = refl;
        guests = ap (λ (o : Outcome). length o.guests) outcome ∙ at_page_len (guests_of old) guest ppn _ (λ salt slot. stored_len (length old.frames) (guests_of old) guest ppn 0 page salt slot);
      }

-- the step of a page's stores alone, and that of its stores and its proposal
module _ {H A : Type 0} (hash : ℕ → List ℕ → ℕ) (guest ppn : ℕ) (page : List ℕ) (size : length page ≡ 4096) (entries : ℕ) (old new : Held H A) where
  abbrev stores : Outcome
  stores = page_outcome (length old.frames) (guests_of old) guest ppn page

  abbrev before : Shown
  before = shown entries old

  stored_is : page_stored hash (state_of before) guest ppn page ≡ at_once (state_of before) stores
  stored_is = stored_at_once hash (state_of before) guest ppn page size

  -- what the model lends, by what the stores do
  abbrev lent_after : Step → Step
  lent_after s = cond (is_done s.verdict) (step hash s.state guest (Propose ppn)) s

  lent_is : page_lent hash (state_of before) guest ppn page ≡ lent_after (at_once (state_of before) stores)
  unfolding page_lent
  lent_is = ap lent_after stored_is

  stored_verdict : (page_stored hash (state_of before) guest ppn page).verdict ≡ stores.verdict
  stored_verdict = ap (λ (s : Step). s.verdict) stored_is

  guests_len : length stores.guests ≡ length (guests_of old)
  guests_len = at_page_len (guests_of old) guest ppn _ (λ salt slot. stored_len (length old.frames) (guests_of old) guest ppn 0 page salt slot)

  pub lent_applied : (lent : Lent) → LendsPage hash guest ppn page (Ok lent) old new → Lends hash guest ppn page lent before (shown (entries + 64 + 1) new)
  unfolding step answered
  lent_applied lent l =
      let done : is_done stores.verdict ≡ true = sym l.done in
      let proposal : Outcome = at_page stores.guests guest ppn (λ salt slot. proposed hash stores.guests guest ppn salt slot) in
      let outcome : (let o : Outcome = record { guests = guests_of new; verdict = lent.verdict } in o) ≡ proposal = rw done at l.step in
      let both : (let s : Step = record { state = state_of (shown (entries + 64 + 1) new); verdict = lent.verdict } in s) ≡ lent_after (at_once (state_of before) stores) =
      rw done (ap (λ (n : ℕ). let s : Step = record { state = record { total = n; guests = guests_of new; entries = entries + 64 + 1 }; verdict = lent.verdict } in s) l.total
      ∙ ap (λ (o : Outcome). let s : Step = record { state = record { total = length old.frames; guests = o.guests; entries = entries + 64 + 1 }; verdict = o.verdict } in s) outcome) in
      record {
        step = both ∙ sym lent_is;
        stay = rw stored_verdict l.stay;
        freed = rw stored_verdict l.freed;
        free = l.free;
        entries = omega arith;
        guests = ap (λ (o : Outcome). length o.guests) outcome ∙ at_page_len stores.guests guest ppn _ (λ salt slot. proposed_len hash stores.guests guest ppn salt slot) ∙ guests_len;
      }

  pub refused_applied : (refusal : Verdict) → LendsPage hash guest ppn page (Err refusal) old new → Lends hash guest ppn page (record { verdict = refusal; freed = None }) before (shown (entries + 64) new)
  refused_applied refusal l =
      let undone : is_done stores.verdict ≡ false = sym l.done in
      let outcome : (let o : Outcome = record { guests = guests_of new; verdict = refusal } in o) ≡ stores = rw undone at l.step in
      let both : (let s : Step = record { state = state_of (shown (entries + 64) new); verdict = refusal } in s) ≡ lent_after (at_once (state_of before) stores) =
      rw undone (ap (λ (n : ℕ). let s : Step = record { state = record { total = n; guests = guests_of new; entries = entries + 64 }; verdict = refusal } in s) l.total
      ∙ ap (λ (o : Outcome). let s : Step = record { state = record { total = length old.frames; guests = o.guests; entries = entries + 64 }; verdict = o.verdict } in s) outcome) in
      record {
        step = both ∙ sym lent_is;
        stay = rw stored_verdict l.stay;
        freed = rw stored_verdict l.freed;
        free = l.free;
        entries = omega arith;
        guests = ap (λ (o : Outcome). length o.guests) outcome ∙ guests_len;
      }
