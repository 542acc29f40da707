-- The bytes of frames stay: a frame that pages have before and after holds what it held, unless a store wrote it in place.
use Rattle.std.specs.Prelude.{◌≡◌, ◌≢◌, ℕ, if◌then◌else◌, List, Option, Some, None}
use Rattle.page_model.specs.declared.request.Request.{Request}
use Rattle.page_model.specs.declared.request.Request.TheVariants.{Propose, Store, Load, Release, Count, Close}
use Rattle.page_model.specs.declared.verdict.Verdict.{Verdict}
use Rattle.page_lending.specs.Lending.{page_stored}
use Rattle.machine_frames.specs.FrameMap.{frame, IsTaken}
use Rattle.merge_core.specs.Pmap.{Pmap}
use Rattle.merge_core.specs.Shown.{Shown, FramesOfPages, state_of}
use Rattle.merge_core.specs.Stays.{frame_at}
use Rattle.merge_core.specs.Applying.{Applies}
use Rattle.merge_core.specs.Lending.{StoresPage, Lends, TakesBack, keeps_own, has_joined}
use Rattle.merge_core.specs.declared.lent.Lent.{Lent}
use Rattle.merge_core.specs.declared.lent.Returned.{Returned}

-- each frame that is taken before and after holds the bytes that it held, except the written one, if there is one
pub record BytesStay (written : Option ℕ) (old new : Shown) : Type 0 where
  pub same : (mpn : ℕ) → IsTaken old.frames mpn → IsTaken new.frames mpn → written ≢ Some mpn → frame new.frames mpn ≡ frame old.frames mpn

-- The frame that a store to a page writes in place: the page's own, at Stored and Taken. At Mapped and Copied it writes one that
-- was free.
abbrev pub written_by_store : Verdict → Option ℕ → Option ℕ
written_by_store verdict own = if keeps_own verdict then own else None

-- the frame that a guest's request writes in place, if pages then have these frames: only a store does
abbrev pub written_by : ℕ → Request → Verdict → Pmap → Option ℕ
written_by guest (Propose ppn) verdict pmap = None
written_by guest (Store r) verdict pmap = written_by_store verdict (frame_at pmap guest r.ppn)
written_by guest (Load r) verdict pmap = None
written_by guest (Release ppn) verdict pmap = None
written_by guest Count verdict pmap = None
written_by guest Close verdict pmap = None

-- the frame that a lend writes in place: the one that its stores write, unless the page then joined others
abbrev pub written_by_lend : Verdict → Verdict → Option ℕ → Option ℕ
written_by_lend stored verdict own = if has_joined verdict then None else written_by_store stored own

-- over each request
abbrev pub RequestKeepsBytes : Type 0
RequestKeepsBytes =
    (hash : ℕ → List ℕ → ℕ) (guest : ℕ) (request : Request) (verdict : Verdict) (old new : Shown) → FramesOfPages new →
    Applies hash guest request verdict old new → BytesStay (written_by guest request verdict new.pmap) old new

-- over the stores of a whole page
abbrev pub StoresKeepBytes : Type 0
StoresKeepBytes =
    (hash : ℕ → List ℕ → ℕ) (guest ppn : ℕ) (page : List ℕ) (verdict : Verdict) (old new : Shown) → FramesOfPages new →
    StoresPage hash guest ppn page verdict old new → BytesStay (written_by_store verdict (frame_at new.pmap guest ppn)) old new

-- over a lend
abbrev pub LendKeepsBytes : Type 0
LendKeepsBytes =
    (hash : ℕ → List ℕ → ℕ) (guest ppn : ℕ) (page : List ℕ) (lent : Lent) (old new : Shown) → FramesOfPages new →
    Lends hash guest ppn page lent old new →
    BytesStay (written_by_lend (page_stored hash (state_of old) guest ppn page).verdict lent.verdict (frame_at new.pmap guest ppn)) old new

-- over a page taken back
abbrev pub TakingBackKeepsBytes : Type 0
TakingBackKeepsBytes =
    (hash : ℕ → List ℕ → ℕ) (guest ppn : ℕ) (returned : Returned) (before after : List ℕ) (old new : Shown) → FramesOfPages new →
    TakesBack hash guest ppn returned before after old new → BytesStay None old new
