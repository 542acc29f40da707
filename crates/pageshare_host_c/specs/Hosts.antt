-- What a handle holds: how a host is begun and made.
use Rattle.std.specs.Prelude.{◌≡◌, ℕ, ◌+◌, Bool, true, false, ◌==◌, if◌then◌else◌, Option, Some, None, is_some}
use Rattle.c_surface.specs.Handles.{Adds, Makes}
use Rattle.c_surface.specs.declared.status.TheConstants as status
use Rattle.host_sessions.specs.Steps.{HostView}
use Rattle.host_sessions.specs.Made.{empty_host}
use Rattle.pageshare_host_c.specs.Given.{WaitingView}
use Rattle.pageshare_host_c.specs.Shapes.{begin_cause, config_of}
use Rattle.pageshare_host_c.specs.declared.hosted.Hosted.{Hosted}
use Rattle.pageshare_host_c.specs.declared.hosted.Hosted.TheVariants.{Waiting, Made}
use Rattle.pageshare_host_c.specs.declared.shape.HostShape.{HostShape}

-- a value of the host, or if there is none that is made, another one
abbrev pub of_made : {X : Type 0} → X → (HostView → X) → Option Hosted → X
of_made none f None = none
of_made none f (Some (Waiting w)) = none
of_made none f (Some (Made h)) = f h

-- a status of the host, or that there is none which is made
abbrev pub made_status : (HostView → ℕ) → Option Hosted → ℕ
made_status found old = of_made status.NO_MACHINE found old

-- What a call does to a host that is made, by what C sees of it; otherwise what C sees is this, and nothing changed.
abbrev pub AtHost : Type 0 → (HostView → HostView → Type 0) → Option Hosted → Option Hosted → Type 0
AtHost otherwise does None new = otherwise × (new ≡ None)
AtHost otherwise does (Some (Waiting w)) new = otherwise × (new ≡ Some (Waiting w))
AtHost otherwise does (Some (Made h)) None = ⊥
AtHost otherwise does (Some (Made h)) (Some (Waiting w)) = ⊥
AtHost otherwise does (Some (Made h)) (Some (Made n)) = does h n

-- a host of this shape is begun, and waits for the frames of all its machines
abbrev pub BeginsHost : HostShape → Option Hosted → Option Hosted → ℕ → Type 0
BeginsHost shape old new result = Makes (begin_cause shape (is_some old)) (Waiting (record { shape = shape; given = 0 })) old new result

-- a host that was begun, with the frames of one machine more: with those of the last one it is made
abbrev pub next_stage : WaitingView → Hosted
next_stage w = if w.given + 1 == w.shape.machines then Made (empty_host (config_of w.shape)) else Waiting (record { shape = w.shape; given = w.given + 1 })

abbrev pub one_added : Option Hosted → Option Hosted
one_added None = None
one_added (Some (Waiting w)) = Some (next_stage w)
one_added (Some (Made h)) = Some (Made h)

-- whether a host waits for no frames: all its machines have theirs
abbrev pub awaits_none : Hosted → Bool
awaits_none (Waiting w) = false
awaits_none (Made h) = true

-- how many frames the next machine has, or 0 if the host waits for none
abbrev pub frames_awaited : Hosted → ℕ
frames_awaited (Waiting w) = w.shape.frames
frames_awaited (Made h) = 0

-- the first cause for which a region of so many pages isn't added, or OK
abbrev pub add_cause : ℕ → Option Hosted → ℕ
add_cause pages None = status.NO_MACHINE
add_cause pages (Some h) = if awaits_none h then status.NO_MACHINE else if pages == frames_awaited h then status.OK else status.REGION

-- the frames of one machine are added, or not
abbrev pub AddsFrames : ℕ → Option Hosted → Option Hosted → ℕ → Type 0
AddsFrames pages old new result = Adds (add_cause pages old) (one_added old) old new result
