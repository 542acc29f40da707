-- What stays after a request of C, beyond what the model's state shows: the frames of pages.
use Rattle.std.specs.Prelude.{◌≡◌, ℕ, List, Option, Some, None, Result, Ok, Err}
use Rattle.page_model.specs.declared.request.Request.{Request}
use Rattle.page_model.specs.declared.request.RequestFault.{RequestFault}
use Rattle.page_model.specs.declared.verdict.Verdict.{Verdict}
use Rattle.page_lending.specs.Lending.{page_stored}
use Rattle.merge_core.specs.Lending.{LendKeeps}
use Rattle.merge_core.specs.Shown.{Shown, state_of}
use Rattle.merge_core.specs.Stays.{FramesStay, OthersKeep}
use Rattle.pageshare_c.specs.Hashed.{shown_in, hash_in, SameHash, with_shown}
use Rattle.pageshare_c.specs.declared.hashed_core.HashedCore.{HashedCore}
use Rattle.pageshare_c.specs.declared.answer.Refusal.{Refusal}

-- A served request leaves each page its frame, but for the named page at `Mapped`, `Copied`, `Joined`, `Paired` and
-- `Released`. A refused one changes nothing at all.
abbrev pub CoreKeeps : ℕ → Result Request RequestFault → Result Verdict Refusal → Shown → Shown → Type 0
CoreKeeps guest (Ok request) (Ok verdict) old new = FramesStay guest request verdict old new
CoreKeeps guest (Err fault) (Ok verdict) old new = ⊥
CoreKeeps guest asked (Err refusal) old new = new ≡ old

-- the same for the machine behind a handle, which keeps its hash; a handle that holds none still holds none
abbrev pub FramesKept : ℕ → Result Request RequestFault → Result Verdict Refusal → Option HashedCore → Option HashedCore → Type 0
FramesKept guest asked outcome None new = new ≡ None
FramesKept guest asked outcome (Some old) None = ⊥
FramesKept guest asked outcome (Some old) (Some new) = CoreKeeps guest asked outcome (shown_in old) (shown_in new) × SameHash old new

-- A stored page leaves each other page its frame, and has the frame that the verdict says. A refused call changes nothing.
abbrev pub CoreStores : ℕ → ℕ → Result Verdict Refusal → Shown → Shown → Type 0
CoreStores guest ppn (Ok verdict) old new = OthersKeep old.frames guest ppn verdict old.pmap new.pmap
CoreStores guest ppn (Err refusal) old new = new ≡ old

-- the same for the machine behind a handle
abbrev pub StoreKept : ℕ → ℕ → Result Verdict Refusal → Option HashedCore → Option HashedCore → Type 0
StoreKept guest ppn outcome None new = new ≡ None
StoreKept guest ppn outcome (Some old) None = ⊥
StoreKept guest ppn outcome (Some old) (Some new) = CoreStores guest ppn outcome (shown_in old) (shown_in new) × SameHash old new

-- A lent page leaves each other page its frame, and has the frame that the verdicts of its first store and of its proposal say.
-- A refused call changes nothing.
abbrev pub CoreLends : (ℕ → List ℕ → ℕ) → ℕ → ℕ → List ℕ → Result Verdict Refusal → Shown → Shown → Type 0
CoreLends hash guest ppn page (Ok verdict) old new = LendKeeps old.frames guest ppn
    (page_stored hash (state_of old) guest ppn page).verdict verdict old.pmap new.pmap
CoreLends hash guest ppn page (Err refusal) old new = new ≡ old

-- the same for the machine behind a handle
abbrev pub LendKept : ℕ → ℕ → List ℕ → Result Verdict Refusal → Option HashedCore → Option HashedCore → Type 0
LendKept guest ppn page outcome None new = new ≡ None
LendKept guest ppn page outcome (Some old) None = ⊥
LendKept guest ppn page outcome (Some old) (Some new) = CoreLends (hash_in old) guest ppn page outcome (shown_in old) (shown_in new)
    × SameHash old new

-- the count of requests begins anew, and all else stays
abbrev pub restarted : Shown → Shown
restarted c = record { entries = 0; pmap = c.pmap; frames = c.frames; table = c.table }

-- the same of the core behind a handle
abbrev pub restarted_core : HashedCore → HashedCore
restarted_core c = with_shown restarted c
