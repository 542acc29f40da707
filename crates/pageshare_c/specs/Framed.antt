-- The frames that an answer names: the named page's, and one that is free since the request.
use Rattle.std.specs.Prelude.{◌≡◌, ℕ, ⊤, Bool, true, false, if◌then◌else◌, List, Option, Some, None, IfSome, Result, Ok, Err}
use Rattle.page_lending.specs.Lending.{page_stored}
use Rattle.page_model.specs.Steps.{Step}
use Rattle.page_model.specs.declared.request.Request.{Request}
use Rattle.page_model.specs.declared.request.Request.TheVariants.{Propose, Store, Load, Release, Count, Close}
use Rattle.page_model.specs.declared.request.RequestFault.{RequestFault}
use Rattle.page_model.specs.declared.verdict.Verdict.{Verdict}
use Rattle.page_model.specs.declared.verdict.Verdict.TheVariants as v
use Rattle.machine_frames.specs.FrameMap.{frame}
use Rattle.merge_core.specs.Lending.{own_freed}
use Rattle.merge_core.specs.Pmap.{Pmap}
use Rattle.merge_core.specs.Shown.{Shown, state_of}
use Rattle.merge_core.specs.Stays.{frame_at}
use Rattle.merge_core.specs.declared.lent.Returned.{Returned}
use Rattle.pageshare_c.specs.Hashed.{shown_in, hash_in}
use Rattle.pageshare_c.specs.declared.hashed_core.HashedCore.{HashedCore}
use Rattle.pageshare_c.specs.declared.answer.Refusal.{Refusal}
use Rattle.pageshare_c.specs.Outcomes.{answered, lend_steps}

-- the frame of the page that a request names, if there is one
abbrev pub named_frame : Pmap → ℕ → Request → Option ℕ
named_frame pmap guest (Propose ppn) = frame_at pmap guest ppn
named_frame pmap guest (Store r) = frame_at pmap guest r.ppn
named_frame pmap guest (Load r) = frame_at pmap guest r.ppn
named_frame pmap guest (Release ppn) = frame_at pmap guest ppn
named_frame pmap guest Count = None
named_frame pmap guest Close = None

-- the frame that a request may free, if there is one: that of the page which it proposes or releases
abbrev pub own_frame : Pmap → ℕ → Request → Option ℕ
own_frame pmap guest (Propose ppn) = frame_at pmap guest ppn
own_frame pmap guest (Store r) = None
own_frame pmap guest (Load r) = None
own_frame pmap guest (Release ppn) = frame_at pmap guest ppn
own_frame pmap guest Count = None
own_frame pmap guest Close = None

-- the verdict of a page that no longer has the frame which it had alone
abbrev pub frees : Verdict → Bool
frees (v.Joined pages) = true
frees v.Paired = true
frees (v.Released freed) = freed
frees _ = false

-- the frame that is free since this verdict, if the page's was own
abbrev pub freed_at : Verdict → Option ℕ → Option ℕ
freed_at verdict own = if frees verdict then own else None

-- the frame that is free since this outcome, if there is one
abbrev pub freed_by : Result Verdict Refusal → Pmap → ℕ → Result Request RequestFault → Option ℕ
freed_by (Ok verdict) pmap guest (Ok request) = freed_at verdict (own_frame pmap guest request)
freed_by (Ok verdict) pmap guest (Err fault) = None
freed_by (Err refusal) pmap guest asked = None

-- the frame that is free since a page was taken back
abbrev pub freed_in : Returned → Option ℕ
freed_in Returned.NoPage = None
freed_in Returned.Unmapped = None
freed_in (Returned.Released freed) = freed

-- the frame of the page that C's arguments name
abbrev pub asked_frame : Pmap → ℕ → Result Request RequestFault → Option ℕ
asked_frame pmap guest (Ok request) = named_frame pmap guest request
asked_frame pmap guest (Err fault) = None

-- the same for the machine behind a handle
abbrev pub frame_after : Option HashedCore → ℕ → Result Request RequestFault → Option ℕ
frame_after None guest asked = None
frame_after (Some c) guest asked = asked_frame (shown_in c).pmap guest asked

-- the frame that is free since a request of the machine behind a handle
abbrev pub frame_freed : Option HashedCore → ℕ → Result Request RequestFault → Option ℕ
frame_freed None guest asked = None
frame_freed (Some c) guest asked = freed_by (answered (hash_in c) (state_of (shown_in c)) guest asked) (shown_in c).pmap guest asked

-- the frame of a page of the machine behind a handle
abbrev pub page_frame : Option HashedCore → ℕ → ℕ → Option ℕ
page_frame None guest ppn = None
page_frame (Some c) guest ppn = frame_at (shown_in c).pmap guest ppn

-- the frame that is free since these steps of a lend, by the verdict of its stores and the page's frame before
abbrev pub left_by : Result Step Refusal → Verdict → Option ℕ → Option ℕ
left_by (Ok steps) first own = own_freed first steps.verdict own
left_by (Err refusal) first own = None

-- the frame that is free since a page of this core was lent
abbrev pub left_in : (ℕ → List ℕ → ℕ) → Shown → ℕ → ℕ → List ℕ → Option ℕ
left_in hash c guest ppn page = left_by (lend_steps hash (state_of c) guest ppn page)
    (page_stored hash (state_of c) guest ppn page).verdict (frame_at c.pmap guest ppn)

-- the same for the machine behind a handle
abbrev pub frame_left : Option HashedCore → ℕ → ℕ → List ℕ → Option ℕ
frame_left None guest ppn page = None
frame_left (Some c) guest ppn page = left_in (hash_in c) (shown_in c) guest ppn page

-- the freed frame, if there is one, is free
abbrev pub IsFree : Option ℕ → Shown → Type 0
IsFree freed c = IfSome freed (λ mpn. frame c.frames mpn ≡ None)

-- the same for the machine behind a handle
abbrev pub LeftFree : Option ℕ → Option HashedCore → Type 0
LeftFree freed None = ⊤
LeftFree freed (Some c) = IsFree freed (shown_in c)
