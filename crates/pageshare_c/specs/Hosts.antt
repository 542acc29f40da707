-- What a domain's handle holds: how it is begun and made.
use Rattle.std.specs.Prelude.{ℕ, ◌+◌, Bool, true, false, ◌==◌, if◌then◌else◌, Option, Some, None, is_some}
use Rattle.c_surface.specs.Handles.{Adds, Makes}
use Rattle.c_surface.specs.declared.status.TheConstants as status
use Rattle.recent_fingerprints.specs.Notes.{Recent, nothing_noted}
use Rattle.share_domain.specs.Domains.{DomainView}
use Rattle.share_domain.specs.Made.{empty_domain}
use Rattle.pageshare_c.specs.Domains.{domain_by, view_of, with_view}
use Rattle.pageshare_c.specs.Given.{BegunView}
use Rattle.pageshare_c.specs.Shapes.{begin_cause, config_of, make_cause}
use Rattle.pageshare_c.specs.declared.hosted.Hosted.{Hosted}
use Rattle.pageshare_c.specs.declared.hosted.Hosted.TheVariants.{Begun, Made}
use Rattle.pageshare_c.specs.declared.hosted.MadeDomain.{MadeDomain}
use Rattle.pageshare_c.specs.declared.shape.DomainShape.{DomainShape}

-- a value of the domain, or if there is none that is made, another one
abbrev pub of_made : {X : Type 0} → X → (MadeDomain → X) → Option Hosted → X
of_made none f None = none
of_made none f (Some (Begun b)) = none
of_made none f (Some (Made m)) = f m

-- a status of the domain, or that there is none which is made
abbrev pub made_status : (MadeDomain → ℕ) → Option Hosted → ℕ
made_status found old = of_made status.NO_MACHINE found old

-- the handle with another domain, if there is one that is made
abbrev pub changed : (MadeDomain → MadeDomain) → Option Hosted → Option Hosted
changed f None = None
changed f (Some (Begun b)) = Some (Begun b)
changed f (Some (Made m)) = Some (Made (f m))

-- what a domain that is made shows, with its hash and its questions as they are
abbrev pub shows : MadeDomain → DomainView
shows m = view_of m.domain

abbrev pub showing : DomainView → MadeDomain → MadeDomain
showing view m = record m { domain = with_view view m.domain }

-- a domain of this shape with no client in, and no question asked
abbrev pub made_of : DomainShape → ℕ → Recent → Hosted
made_of s hash recent = Made (record { domain = domain_by hash (empty_domain (config_of s)); recent = recent })

-- a domain of this shape with no frames yet, and no question asked
abbrev pub begun_of : DomainShape → ℕ → Hosted
begun_of s hash = Begun (record { shape = s; hash = hash; given = 0; recent = nothing_noted s.recent s.clients s.seed })

-- a domain with frames of its own is made
abbrev pub MakesDomain : DomainShape → ℕ → Option Hosted → Option Hosted → ℕ → Type 0
MakesDomain s hash old new result = Makes (make_cause s hash (is_some old)) (made_of s hash (nothing_noted s.recent s.clients s.seed)) old new result

-- a domain is begun, whose frames come in regions of so many pages
abbrev pub BeginsDomain : DomainShape → ℕ → ℕ → Option Hosted → Option Hosted → ℕ → Type 0
BeginsDomain s hash pages old new result = Makes (begin_cause s hash pages (is_some old)) (begun_of s hash) old new result

-- a domain that was begun, with the frames of one machine more: with those of the last one it is made
abbrev pub next_stage : BegunView → Hosted
next_stage b =
    if b.given + 1 == b.shape.machines then made_of b.shape b.hash b.recent
    else Begun (record { shape = b.shape; hash = b.hash; given = b.given + 1; recent = b.recent })

abbrev pub one_added : Option Hosted → Option Hosted
one_added None = None
one_added (Some (Begun b)) = Some (next_stage b)
one_added (Some (Made m)) = Some (Made m)

-- whether a domain waits for no frames: all its machines have theirs
abbrev pub awaits_none : Hosted → Bool
awaits_none (Begun b) = false
awaits_none (Made m) = true

-- how many frames the next machine has, or 0 if there is none
abbrev pub frames_awaited : Hosted → ℕ
frames_awaited (Begun b) = b.shape.frames
frames_awaited (Made m) = 0

-- the first cause for which a region of so many pages isn't added, or OK
abbrev pub add_cause : ℕ → Option Hosted → ℕ
add_cause pages None = status.NO_MACHINE
add_cause pages (Some h) = if awaits_none h then status.NO_MACHINE else if pages == frames_awaited h then status.OK else status.REGION

-- the frames of one machine are added, or not
abbrev pub AddsFrames : ℕ → Option Hosted → Option Hosted → ℕ → Type 0
AddsFrames pages old new result = Adds (add_cause pages old) (one_added old) old new result
