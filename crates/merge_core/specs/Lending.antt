-- What storing, lending and taking back a whole page do to a core.
use Rattle.std.specs.Prelude.{◌≡◌, ◌+◌, ◌≤◌, ◌&&◌, if◌then◌else◌}
use Rattle.std.specs.Prelude.{ℕ, ⊤, Bool, true, false, List, length, Option, Some, None, IfSome, is_some, Result, Ok, Err, is_ok}
use Rattle.page_model.specs.Pages.{Guest}
use Rattle.page_model.specs.Steps.{Outcome, stored, proposed, at_page}
use Rattle.page_model.specs.Stored.{is_done, text_at}
use Rattle.page_model.specs.declared.request.Request.TheVariants.{Release}
use Rattle.page_model.specs.declared.verdict.Verdict.{Verdict}
use Rattle.page_model.specs.declared.verdict.Verdict.TheVariants as v
use Rattle.page_lending.specs.Lending.{page_stored, page_lent}
use Rattle.page_lending.specs.declared.pieces.TheConstants.{STORES_A_PAGE}
use Rattle.machine_frames.specs.FrameMap.{FrameMap, frame}
use Rattle.merge_core.specs.Pmap.{Pmap}
use Rattle.merge_core.specs.Shown.{Shown, state_of}
use Rattle.merge_core.specs.Stays.{frame_at, Change, Keeps, TakesFree, JoinsAnother, GivesUp, change_at, NamedFrame, OthersKeep}
use Rattle.merge_core.specs.Applying.{Applies}
use Rattle.merge_core.specs.View.{pmap_of, guests_of}
use Rattle.merge_core.specs.declared.held.Held.{Held}
use Rattle.merge_core.specs.declared.lent.Lent.{Lent}
use Rattle.merge_core.specs.declared.lent.Returned.{Returned}

-- A guest's whole page was stored. The model takes the steps of the page's stores, of which the first one gets the verdict, and
-- the frames of all pages are as that verdict says.
pub record StoresPage (hash : ℕ → List ℕ → ℕ) (guest ppn : ℕ) (page : List ℕ) (verdict : Verdict) (old new : Shown) : Type 0 where
  pub step : record { state = state_of new; verdict = verdict } ≡ page_stored hash (state_of old) guest ppn page
  pub stay : OthersKeep old.frames guest ppn verdict old.pmap new.pmap
  pub entries : new.entries ≡ old.entries + STORES_A_PAGE
  pub guests : length (state_of new).guests ≡ length (state_of old).guests

-- one store of a whole page
abbrev pub page_outcome : ℕ → List Guest → ℕ → ℕ → List ℕ → Outcome
page_outcome total guests guest ppn page = at_page guests guest ppn (λ salt slot. stored total guests guest ppn 0 page salt slot)

-- the verdict of a proposal by which the page now has the frame of another
abbrev pub has_joined : Verdict → Bool
has_joined v.NoPage = false
has_joined v.Unmapped = false
has_joined v.Already = false
has_joined (v.Joined peers) = true
has_joined v.Paired = true
has_joined v.Hinted = false
has_joined v.Kept = false
has_joined v.Replaced = false
has_joined v.Ineligible = false
has_joined v.Mapped = false
has_joined v.Stored = false
has_joined v.Copied = false
has_joined v.Taken = false
has_joined v.NoFrame = false
has_joined (v.Bytes bytes) = false
has_joined (v.Released freed) = false
has_joined (v.Totals report) = false
has_joined v.Closed = false

-- the verdict of a store to a page that had a frame, and keeps it for itself
abbrev pub keeps_own : Verdict → Bool
keeps_own v.Stored = true
keeps_own v.Taken = true
keeps_own _ = false

-- what happens to a page's frame in two changes
abbrev pub both_changes : Change → Change → Change
both_changes first Keeps = first
both_changes first TakesFree = TakesFree
both_changes first JoinsAnother = JoinsAnother
both_changes first GivesUp = GivesUp

-- Each page but the lent one has the frame that it had. The lent one has that of another page if its proposal says so, and
-- otherwise the one that its stores gave it.
pub record LendKeeps (free : FrameMap) (guest ppn : ℕ) (stored verdict : Verdict) (old new : Pmap) : Type 0 where
  pub named : NamedFrame (both_changes (change_at stored) (change_at verdict)) free guest ppn old new
  pub others : (other place : ℕ) → (other ≡ guest → place ≡ ppn → ⊥) → frame_at new other place ≡ frame_at old other place

-- what a lend does to the guests: what the stores do, and, unless they were refused, what the proposal then does
abbrev pub lent_outcome : (ℕ → List ℕ → ℕ) → ℕ → List Guest → ℕ → ℕ → List ℕ → Outcome
lent_outcome hash total guests guest ppn page =
    let stored = page_outcome total guests guest ppn page in
    let after = at_page stored.guests guest ppn (λ salt slot. proposed hash stored.guests guest ppn salt slot) in
    if is_done stored.verdict then after else stored

-- the verdict of a lend, and the frame that it freed: an error is the refusal of its stores
abbrev pub lend_verdict : Result Lent Verdict → Verdict
lend_verdict (Ok lent) = lent.verdict
lend_verdict (Err refusal) = refusal

abbrev pub lend_freed : Result Lent Verdict → Option ℕ
lend_freed (Ok lent) = lent.freed
lend_freed (Err refusal) = None

-- the frame that a lend frees: the page's own, if the page kept it at its stores and now has another's
abbrev pub own_freed : Verdict → Verdict → Option ℕ → Option ℕ
own_freed stored verdict own = if keeps_own stored && has_joined verdict then own else None

-- what a lend does to the parts of a core
pub record LendsPage {H A : Type 0} (hash : ℕ → List ℕ → ℕ) (guest ppn : ℕ) (page : List ℕ) (result : Result Lent Verdict)
    (old new : Held H A) : Type 0 where
  pub total : length new.frames ≡ length old.frames
  pub step : record { guests = guests_of new; verdict = lend_verdict result }
      ≡ lent_outcome hash (length old.frames) (guests_of old) guest ppn page
  pub done : is_ok result ≡ is_done (page_outcome (length old.frames) (guests_of old) guest ppn page).verdict
  pub stay :
      LendKeeps old.frames guest ppn (page_outcome (length old.frames) (guests_of old) guest ppn page).verdict (lend_verdict result)
      (pmap_of old) (pmap_of new)
  pub freed : lend_freed result
      ≡ own_freed (page_outcome (length old.frames) (guests_of old) guest ppn page).verdict (lend_verdict result)
      (frame_at (pmap_of old) guest ppn)
  pub free : IfSome (lend_freed result) (λ mpn. frame new.frames mpn ≡ None)

-- A guest's page was lent. The model takes the steps of its stores and of its proposal, or of the stores alone if they were
-- refused. The freed frame is the one that the page had for itself, if it now shares another, and is free.
pub record Lends (hash : ℕ → List ℕ → ℕ) (guest ppn : ℕ) (page : List ℕ) (lent : Lent) (old new : Shown) : Type 0 where
  pub step : record { state = state_of new; verdict = lent.verdict } ≡ page_lent hash (state_of old) guest ppn page
  pub stay : LendKeeps old.frames guest ppn (page_stored hash (state_of old) guest ppn page).verdict lent.verdict old.pmap new.pmap
  pub freed : lent.freed ≡ own_freed (page_stored hash (state_of old) guest ppn page).verdict lent.verdict (frame_at old.pmap guest ppn)
  pub free : IfSome lent.freed (λ mpn. frame new.frames mpn ≡ None)
  pub entries : new.entries ≤ old.entries + STORES_A_PAGE + 1
  pub guests : length (state_of new).guests ≡ length (state_of old).guests

-- the model's verdict of a release
abbrev pub release_verdict : Returned → Verdict
release_verdict Returned.NoPage = v.NoPage
release_verdict Returned.Unmapped = v.Unmapped
release_verdict (Returned.Released freed) = v.Released (is_some freed)

-- what the caller's room holds afterwards: the page's bytes if it was mapped, and otherwise what it held before
abbrev pub room_after : Returned → List ℕ → Option (List ℕ) → Option (List ℕ)
room_after Returned.NoPage room text = Some room
room_after Returned.Unmapped room text = Some room
room_after (Returned.Released freed) room text = text

-- a freed frame was the page's, and is free
abbrev pub FreesOwn : Returned → Option ℕ → FrameMap → Type 0
FreesOwn Returned.NoPage own frames = ⊤
FreesOwn Returned.Unmapped own frames = ⊤
FreesOwn (Returned.Released freed) own frames = IfSome freed (λ mpn. (own ≡ Some mpn) × (frame frames mpn ≡ None))

-- A guest's page was taken back: the room holds its bytes, and then it was released.
pub record TakesBack (hash : ℕ → List ℕ → ℕ) (guest ppn : ℕ) (returned : Returned) (before after : List ℕ) (old new : Shown) : Type 0 where
  pub applies : Applies hash guest (Release ppn) (release_verdict returned) old new
  pub room : Some after ≡ room_after returned before (text_at (state_of old).guests guest ppn)
  pub freed : FreesOwn returned (frame_at old.pmap guest ppn) new.frames
