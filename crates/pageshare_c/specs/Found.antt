-- A page of the machine behind a handle: what it reads as, and which frame it has.
use Rattle.std.specs.Prelude.{◌≡◌, ℕ, List, Option, Some, None, Result, Ok, Err}
use Rattle.page_model.specs.Pages.{SlotOf, Unmapped, Private, Shared, State, page_at}
use Rattle.page_model.specs.Stored.{text_at}
use Rattle.machine_frames.specs.FrameMap.{frame}
use Rattle.merge_core.specs.Shown.{Shown, state_of}
use Rattle.pageshare_c.specs.Hashed.{shown_in}
use Rattle.pageshare_c.specs.declared.hashed_core.HashedCore.{HashedCore}
use Rattle.pageshare_c.specs.declared.answer.Refusal.{Refusal}
use Rattle.pageshare_c.specs.declared.answer.Refusal.TheVariants as r

-- a value of a page, if there is such a page
abbrev pub of_page : {X : Type 0} → Option X → Result X Refusal
of_page None = Err r.NoPage
of_page (Some x) = Ok x

-- the bytes of a page: zeros if it is unmapped
abbrev pub text_in : State → ℕ → ℕ → Result (List ℕ) Refusal
text_in s guest ppn = of_page (text_at s.guests guest ppn)

-- the same for the machine behind a handle
abbrev pub text_of : Option State → ℕ → ℕ → Result (List ℕ) Refusal
text_of None guest ppn = Err r.NoMachine
text_of (Some s) guest ppn = text_in s guest ppn

-- the number of a page's frame
abbrev pub frame_in : Option (ℕ × SlotOf ℕ) → Result ℕ Refusal
frame_in None = Err r.NoPage
frame_in (Some (salt, Unmapped)) = Err r.Unmapped
frame_in (Some (salt, Private mpn hint)) = Ok mpn
frame_in (Some (salt, Shared mpn)) = Ok mpn

-- the same for a page of a core
abbrev pub found_in : Shown → ℕ → ℕ → Result ℕ Refusal
found_in c guest ppn = frame_in (page_at c.pmap guest ppn)

-- the same for the machine behind a handle
abbrev pub frame_found : Option HashedCore → ℕ → ℕ → Result ℕ Refusal
frame_found None guest ppn = Err r.NoMachine
frame_found (Some c) guest ppn = found_in (shown_in c) guest ppn

-- the frame holds what the page reads as
abbrev pub HoldsText : Option HashedCore → ℕ → ℕ → ℕ → Type 0
HoldsText None guest ppn mpn = Unit {0}
HoldsText (Some c) guest ppn mpn = frame (shown_in c).frames mpn ≡ text_at (state_of (shown_in c)).guests guest ppn
