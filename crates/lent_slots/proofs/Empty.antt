-- Slots of which none is held.
use Rattle.std.proofs.Common.{◌≡◌, ℕ, zero, suc, ◌<◌, ◌≤◌, cond, List, [], ◌∷◌, ◌⊎◌, inl, inr, length, replicate, Option, Some, None, IsSome, is_some, refl, ap, sym, subst, ◌∙◌, arith}
use Rattle.std.specs.Prelude.{slice_get, count_by, nat_lt}
use Rattle.std.proofs.lemmas.Bool.{cases_lt, lt-ltb, le-ltb}
use Rattle.std.specs.Option.{option_map}
use Rattle.std.proofs.lemmas.List.{length-replicate}
use Rattle.std.proofs.lemmas.List.Folds.{sum_by-replicate}
use Rattle.std.proofs.lemmas.Option.{none-some}
use Rattle.page_model.specs.declared.limits.TheConstants.{MAX_FRAMES, MAX_PAGES}
use Rattle.page_model.specs.Pages.{Slot, Unmapped, State, page_at}
use Rattle.page_model.specs.Limits.{shapes}
use Rattle.page_model.specs.Replay.{empty_state}
use Rattle.machine_frames.specs.FrameMap.{FrameMap, frame, no_frames, used}
use Rattle.merge_core.specs.Shown.{Shown, state_of, FramesOfPages}
use Rattle.merge_core.specs.Stays.{frame_at}
use Rattle.lent_slots.specs.declared.holding.Holding.{Holding}
use Rattle.lent_slots.specs.Fits.{Fits, ListsFree, Counts, Sound, times_free}
use Rattle.lent_slots.proofs.Tags.{bit, zeros, chain_length, chain_new}
use Rattle.lent_slots.specs.Slots.{holding, has_frame, sharers}
use Rattle.lent_slots.specs.Tags.{chain}
use Rattle.lent_slots.proofs.Moves.{taken_at, not_taken}

-- no slot is held
pub none_held : (n k : ℕ) → holding (replicate n None) k ≡ None
none_held zero k = refl
none_held (suc n) zero = refl
none_held (suc n) (suc k) = none_held n k

pub none_shared : (n m : ℕ) → sharers m (replicate n None) ≡ 0
none_shared n m = sum_by-replicate (λ (o : Option Holding). cond (has_frame m o) 1 0) n None ∙ omega arith

pub none_is : (n : ℕ) → count_by (λ (o : Option Holding). is_some o) (replicate n None) ≡ 0
none_is n = sum_by-replicate (λ (o : Option Holding). cond (is_some o) 1 0) n None ∙ omega arith

pub none_used : (n : ℕ) → used (no_frames n) ≡ 0
none_used n = sum_by-replicate (λ (o : Option (List ℕ)). cond (is_some o) 1 0) n None ∙ omega arith

-- a new core's pages are the slots
abbrev new_state : ℕ → ℕ → ℕ → State
new_state total count salt = empty_state total (shapes (salt ∷ []) (count ∷ []))

unmapped_there : (n k : ℕ) → k < n → slice_get {X = Slot} (replicate n Unmapped) k ≡ Some Unmapped
unmapped_there zero k h = absurd (omega arith)
unmapped_there (suc n) zero h = refl
unmapped_there (suc n) (suc k) h = unmapped_there n k (omega arith)

page_there : (total count salt k : ℕ) → k < count → IsSome (page_at (new_state total count salt).guests 0 k)
page_there total count salt k h = ap (λ (o : Option Slot). is_some (option_map (λ (slot : Slot). let p : ℕ × Slot = (salt, slot) in p) o)) (unmapped_there count k h)

all_free : (n m : ℕ) → frame (replicate n None) m ≡ None
all_free zero m = refl
all_free (suc n) zero = refl
all_free (suc n) (suc m) = all_free n m

no_page : (c : Shown) (total k : ℕ) (o : Option ℕ) → c.frames ≡ no_frames total → FramesOfPages c → frame_at c.pmap 0 k ≡ o → o ≡ None
no_page c total k None frames whole e = refl
no_page c total k (Some m) frames whole e = absurd (not_taken (frame c.frames m) (ap (λ (f : FrameMap). frame f m) frames ∙ all_free total m) (taken_at c 0 k m whole e))

pub fits_new : (c : Shown) (total count salt : ℕ) → state_of c ≡ new_state total count salt → c.frames ≡ no_frames total → FramesOfPages c → Fits (replicate count None) c
fits_new c total count salt state frames whole = record {
  one = ap (λ (s : State). length s.guests) state;
  pages = λ k less. ap (λ (s : State). is_some (page_at s.guests 0 k)) state ∙ page_there total count salt k (omega (arith, less, length-replicate {A = Option Holding} count None));
  frames = λ k. no_page c total k (frame_at c.pmap 0 k) frames whole refl ∙ sym (ap (option_map (λ (h : Holding). h.frame)) (none_held count k));
}

pub counts_new : (count total : ℕ) → Counts (replicate count None) total (replicate total 0)
counts_new count total = record { size = length-replicate total 0; each = λ m less. zeros total m ∙ sym (none_shared count m) }

none_within : (count total k : ℕ) (h : Holding) → holding (replicate count None) k ≡ Some h → h.frame < total
none_within count total k h e = absurd (none-some h (sym (none_held count k) ∙ e))

pub sound_new : (c : Shown) (free : List ℕ) (total count : ℕ) → Fits (replicate count None) c → ListsFree (replicate count None) free → c.frames ≡ no_frames total
    → 2 ≤ total → total ≤ MAX_FRAMES → count ≤ MAX_PAGES → Sound c (replicate count None) free (replicate total 0)
sound_new c free total count fits listed frames least most few =
    let size : length c.frames ≡ total = ap length frames ∙ length-replicate {A = Option (List ℕ)} total None in
    record {
      fits = fits;
      listed = listed;
      counted = subst (λ (n : ℕ). Counts (replicate count None) n (replicate total 0)) (sym size) (counts_new count total);
      within = λ k h e. none_within count (length c.frames) k h e;
      spare = omega (arith, size, ap used frames, none_used total, least);
      few = (omega (arith, few, length-replicate {A = Option Holding} count None), omega (arith, size, most));
    }

-- the free slots are all of them
free_there : (count q : ℕ) → times_free (slice_get {X = Option Holding} (replicate count None) q) ≡ bit (nat_lt q count)
free_there count q = pick (cases_lt q count) where
  inside : (n k : ℕ) → k < n → slice_get {X = Option Holding} (replicate n None) k ≡ Some None
  inside zero k h = absurd (omega arith)
  inside (suc n) zero h = refl
  inside (suc n) (suc k) h = inside n k (omega arith)

  outside : (n k : ℕ) → n ≤ k → slice_get {X = Option Holding} (replicate n None) k ≡ None
  outside zero k h = refl
  outside (suc n) zero h = absurd (omega arith)
  outside (suc n) (suc k) h = outside n k (omega arith)

  pick : ((q < count) ⊎ (count ≤ q)) → times_free (slice_get {X = Option Holding} (replicate count None) q) ≡ bit (nat_lt q count)
  pick (inl l) = ap times_free (inside count q l) ∙ sym (ap bit (lt-ltb q count l))
  pick (inr l) = ap times_free (outside count q l) ∙ sym (ap bit (le-ltb q count l))

pub lists_new : (count : ℕ) → ListsFree (replicate count None) (chain (replicate count 0) 0 count)
lists_new count = record {
  once = λ q. chain_new count q ∙ sym (free_there count q);
  count = omega (arith, chain_length (replicate count 0) 0 count, none_is count, length-replicate {A = Option Holding} count None);
}
