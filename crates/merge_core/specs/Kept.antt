-- What stays as it was, and what still holds, after a change of a core's parts.
use Rattle.std.specs.Prelude.{◌≡◌, ℕ, List, length}
use Rattle.page_model.specs.declared.verdict.Verdict.{Verdict}
use Rattle.merge_core.specs.Stays.{OthersKeep}
use Rattle.merge_core.specs.View.{pmap_of, Whole}
use Rattle.merge_core.specs.declared.held.Held.{Held}

-- Only the notes on frames may have changed: the core is sound, and its frames, its table and its pages' frames are as before.
pub record OnlyNotes {H A : Type 0} (hash : ℕ → List ℕ → ℕ) (old new : Held H A) : Type 0 where
  pub whole : Whole hash new
  pub frames : new.frames ≡ old.frames
  pub table : new.table ≡ old.table
  pub pmap : pmap_of new ≡ pmap_of old

-- A request on this page was served with this verdict: the core is sound, it has as many frames as before, and which page has
-- which frame changed as the verdict says.
pub record Served {H A : Type 0} (hash : ℕ → List ℕ → ℕ) (guest ppn : ℕ) (verdict : Verdict) (old new : Held H A) : Type 0 where
  pub whole : Whole hash new
  pub total : length new.frames ≡ length old.frames
  pub stay : OthersKeep old.frames guest ppn verdict (pmap_of old) (pmap_of new)
