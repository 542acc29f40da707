-- Which page's frame a request changes, and to what. All other pages keep their frames.
use Rattle.std.specs.Prelude.{◌≡◌, ℕ, Option, Some, None}
use Rattle.std.specs.Option.{option_and_then}
use Rattle.page_model.specs.Pages.{page_at}
use Rattle.page_model.specs.declared.request.Request.{Request}
use Rattle.page_model.specs.declared.request.Request.TheVariants.{Propose, Store, Load, Release, Count, Close}
use Rattle.page_model.specs.declared.verdict.Verdict.{Verdict}
use Rattle.page_model.specs.declared.verdict.Verdict.TheVariants as v
use Rattle.machine_frames.specs.FrameMap.{FrameMap, frame}
use Rattle.merge_core.specs.Pmap.{Pmap, frame_of}
use Rattle.merge_core.specs.Shown.{Shown}

-- the frame of a page, none if the page is unmapped
abbrev pub frame_at : Pmap → ℕ → ℕ → Option ℕ
frame_at pmap guest ppn = option_and_then (λ x. frame_of x.1) (page_at pmap guest ppn)

-- what happens to the frame of the page that a request names
pub data Change : Type 0 where
  Keeps : Change
  TakesFree : Change
  JoinsAnother : Change
  GivesUp : Change

-- what each verdict says about the named page's frame
abbrev pub change_at : Verdict → Change
change_at v.NoPage = Keeps
change_at v.Unmapped = Keeps
change_at v.Already = Keeps
change_at (v.Joined peers) = JoinsAnother
change_at v.Paired = JoinsAnother
change_at v.Hinted = Keeps
change_at v.Kept = Keeps
change_at v.Replaced = Keeps
change_at v.Ineligible = Keeps
change_at v.Mapped = TakesFree
change_at v.Stored = Keeps
change_at v.Copied = TakesFree
change_at v.Taken = Keeps
change_at v.NoFrame = Keeps
change_at (v.Bytes bytes) = Keeps
change_at (v.Released freed) = GivesUp
change_at (v.Totals report) = Keeps
change_at v.Closed = Keeps

-- the page now has a frame that was free
pub record HasFree (free : FrameMap) (now : Option ℕ) : Type 0 where
  pub mpn : ℕ
  pub has : now ≡ Some mpn
  pub was_free : frame free mpn ≡ None

-- the page now has the frame of another page
pub record HasTheirs (guest ppn : ℕ) (old new : Pmap) : Type 0 where
  pub other : ℕ
  pub place : ℕ
  pub mpn : ℕ
  pub apart : other ≡ guest → place ≡ ppn → ⊥
  pub theirs : frame_at old other place ≡ Some mpn
  pub has : frame_at new guest ppn ≡ Some mpn

-- the named page's frame after such a change, if the frames free before were those free in `free`
abbrev pub NamedFrame : Change → FrameMap → ℕ → ℕ → Pmap → Pmap → Type 0
NamedFrame Keeps free guest ppn old new = frame_at new guest ppn ≡ frame_at old guest ppn
NamedFrame TakesFree free guest ppn old new = HasFree free (frame_at new guest ppn)
NamedFrame JoinsAnother free guest ppn old new = HasTheirs guest ppn old new
NamedFrame GivesUp free guest ppn old new = frame_at new guest ppn ≡ None

-- each page has the frame that it had
pub record AllKeep (old new : Pmap) : Type 0 where
  pub keeps : (guest ppn : ℕ) → frame_at new guest ppn ≡ frame_at old guest ppn

-- Each page but the named one has the frame that it had. So has the named one at each verdict but these: at Mapped and
-- Copied it has a frame that was free, at Joined and Paired that of another page, with which it now shares it, and at
-- Released it has none.
pub record OthersKeep (free : FrameMap) (guest ppn : ℕ) (verdict : Verdict) (old new : Pmap) : Type 0 where
  pub named : NamedFrame (change_at verdict) free guest ppn old new
  pub others : (other place : ℕ) → (other ≡ guest → place ≡ ppn → ⊥) → frame_at new other place ≡ frame_at old other place

-- the frames of all pages after a guest's request, answered with this verdict
abbrev pub FramesStay : ℕ → Request → Verdict → Shown → Shown → Type 0
FramesStay guest (Propose ppn) verdict old new = OthersKeep old.frames guest ppn verdict old.pmap new.pmap
FramesStay guest (Store r) verdict old new = OthersKeep old.frames guest r.ppn verdict old.pmap new.pmap
FramesStay guest (Load r) verdict old new = AllKeep old.pmap new.pmap
FramesStay guest (Release ppn) verdict old new = OthersKeep old.frames guest ppn verdict old.pmap new.pmap
FramesStay guest Count verdict old new = AllKeep old.pmap new.pmap
FramesStay guest Close verdict old new = AllKeep old.pmap new.pmap
