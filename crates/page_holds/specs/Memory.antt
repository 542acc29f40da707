-- Where the bytes of a page are while it is held, and what steps do with them.
use Rattle.std.specs.Prelude.{◌≡◌, ℕ, Bool, true, false, List, replicate, Option, Some, None, unwrap_or}
use Rattle.page_lender.specs.declared.belief.Belief.{Belief}
use Rattle.page_lender.specs.declared.belief.Belief.TheVariants.{Private, Chosen, Copied, Turning, Shown, Leaving}
use Rattle.page_lender.specs.declared.belief.Stage.{Stage}
use Rattle.page_lender.specs.declared.belief.Stage.TheVariants.{Ready, Held, Equal, LettingGo}
use Rattle.page_lender.specs.declared.belief.Target.{Target}
use Rattle.page_lender.specs.declared.belief.Target.TheVariants.{Frame, Zeros}
use Rattle.page_holds.specs.declared.place.HeldPlace.{HeldPlace}
use Rattle.page_holds.specs.declared.place.HeldPlace.TheVariants.{Free, Guarded, Aside, Replaced}
use Rattle.page_holds.specs.declared.place.HoldStep.{HoldStep}
use Rattle.page_holds.specs.declared.place.HoldStep.TheVariants.{Over, Compare, CompareZeros, Map, GiveBack, PutBack, EndWatch}
use Rattle.page_holds.specs.declared.place.Taking.{Taking}
use Rattle.page_holds.specs.declared.place.Taking.TheVariants.{Refused as NotTaken, Watched, Guarded as TakenGuarded, Aside as TakenAside}

-- The bytes that the page's guest stored last, those at its place, if any are, and those aside.
pub record Spot : Type 0 where
  pub content : List ℕ
  pub here : Option (List ℕ)
  pub aside : Option (List ℕ)

abbrev pub zeros : List ℕ
zeros = replicate 4096 0

-- a page with these bytes when its hold has begun
abbrev pub begun : Taking → List ℕ → Spot
begun NotTaken bytes = record { content = bytes; here = Some bytes; aside = None }
begun Watched bytes = record { content = bytes; here = Some bytes; aside = None }
begun TakenGuarded bytes = record { content = bytes; here = Some bytes; aside = None }
begun TakenAside bytes = record { content = bytes; here = None; aside = Some bytes }

-- the page's memory
abbrev pub memory : HeldPlace → Spot → Option (List ℕ)
memory Free spot = spot.here
memory Guarded spot = spot.here
memory Aside spot = spot.aside
memory Replaced spot = spot.here

-- the bytes that are to be shown in place of the page's memory: its frame's, or zeros
abbrev pub bytes_of : (ℕ → List ℕ) → Target → List ℕ
bytes_of frames (Frame slot n) = frames n
bytes_of frames Zeros = zeros

abbrev pub target : (ℕ → List ℕ) → Belief → List ℕ
target frames Private = zeros
target frames Chosen = zeros
target frames Copied = zeros
target frames (Turning stage its) = bytes_of frames its
target frames (Shown slot n homing) = frames n
target frames (Leaving slot) = zeros

-- What the system did in a step with a page of which this is believed and whose memory is there: what it refuses changes nothing. Where nothing is
-- at a page's place when its watch ends, anyone who reads it finds zeros.
pub data Did (frames : ℕ → List ℕ) (belief : Belief) (place : HeldPlace) : HoldStep → Bool → Spot → Spot → Type 0 where
  refuses : (step : HoldStep) (spot : Spot) → Did frames belief place step false spot spot
  rests : (spot : Spot) → Did frames belief place Over true spot spot
  compares : (spot : Spot) → memory place spot ≡ Some (target frames belief) → Did frames belief place Compare true spot spot
  compares_zeros : (spot : Spot) → memory place spot ≡ Some zeros → Did frames belief place CompareZeros true spot spot
  maps : (spot : Spot) → Did frames belief place Map true spot (record spot { here = Some (target frames belief) })
  gives_back : (spot : Spot) → Did frames belief place GiveBack true spot (record spot { here = Some zeros })
  puts_back : (spot : Spot) → Did frames belief place PutBack true spot (record spot { here = spot.aside })
  ends_watch : (spot : Spot) → Did frames belief place EndWatch true spot (record spot { here = Some (unwrap_or spot.here zeros) })

-- writes to the page wait for certain, since it was held
abbrev pub is_held_at : Stage → Bool
is_held_at Ready = false
is_held_at Held = true
is_held_at Equal = true
is_held_at LettingGo = false

abbrev pub is_held : Belief → Bool
is_held Private = false
is_held Chosen = false
is_held Copied = false
is_held (Turning stage target) = is_held_at stage
is_held (Shown slot n homing) = false
is_held (Leaving slot) = false

-- its memory is at its place, so that its guest may write it there
abbrev pub is_at_place : HeldPlace → Bool
is_at_place Free = true
is_at_place Guarded = true
is_at_place Aside = false
is_at_place Replaced = false
