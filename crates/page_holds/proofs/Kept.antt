-- What is believed of a page in a hold fits its bytes, whatever comes of a step.
use Rattle.std.proofs.Common.{◌≡◌, ◌∙◌, ℕ, Bool, true, false, List, Option, Some, None, refl, ap, sym}
use Rattle.std.specs.Prelude.{option_map, unwrap_or, if◌then◌else◌}
use Rattle.page_lender.specs.Decisions.{dropped, equal_to, is_barred, prepared, unshown, waiting}
use Rattle.page_lender.specs.Lender.{done_of, doubted, doubted_at, given, home, obeyed, obeyed_at, refused, shown_as}
use Rattle.page_lender.specs.declared.bars.Bars.{Bars}
use Rattle.page_lender.specs.declared.belief.Belief.{Belief}
use Rattle.page_lender.specs.declared.belief.Belief.TheVariants.{Private, Chosen, Copied, Turning, Shown, Leaving}
use Rattle.page_lender.specs.declared.belief.Homing.{Homing}
use Rattle.page_lender.specs.declared.belief.Homing.TheVariants.{Off, InPlace, Elsewhere}
use Rattle.page_lender.specs.declared.belief.Stage.{Stage}
use Rattle.page_lender.specs.declared.belief.Stage.TheVariants.{Ready, Held, Equal, LettingGo}
use Rattle.page_lender.specs.declared.belief.Target.{Target}
use Rattle.page_lender.specs.declared.belief.Target.TheVariants.{Frame, Zeros}
use Rattle.page_lender.specs.declared.order.Outcome.{Outcome}
use Rattle.page_lender.specs.declared.order.Outcome.TheVariants.{Done, Lent, Unknown, Refused as NotDone}
use Rattle.window_pages.specs.Bytes.{belief_of, known_of}
use Rattle.window_pages.specs.declared.counts.PartCounts.{PartCounts}
use Rattle.window_pages.specs.declared.page.WindowPage.{WindowPage}
use Rattle.page_holds.specs.Memory.{Did, Spot, bytes_of, compares, compares_zeros, ends_watch, gives_back, maps, memory, puts_back, refuses, rests, target, zeros}
use Rattle.page_holds.specs.Steps.{Took, is_taken, parted, place_after, step_of, still_watched, zeros_parted}
use Rattle.page_holds.specs.declared.place.HeldPlace.{HeldPlace}
use Rattle.page_holds.specs.declared.place.HeldPlace.TheVariants.{Free, Guarded, Aside, Replaced}
use Rattle.page_holds.specs.declared.place.HoldStep.{HoldStep}
use Rattle.page_holds.specs.declared.place.HoldStep.TheVariants.{Over, Compare, CompareZeros, Map, GiveBack, PutBack, EndWatch}

-- the bytes that the page was found to have
abbrev pub found_of : (ℕ → List ℕ) → Belief → Option (List ℕ)
found_of frames belief = option_map (bytes_of frames) (equal_to belief)

-- where its bytes are
abbrev pub Lies : HeldPlace → Spot → Type 0
Lies Free spot = spot.here ≡ Some spot.content
Lies Guarded spot = spot.here ≡ Some spot.content
Lies Aside spot = (spot.here ≡ None) × (spot.aside ≡ Some spot.content)
Lies Replaced spot = unwrap_or spot.here zeros ≡ spot.content

-- Its bytes are where they are said to be, and are those that it was found to have.
pub record Right (frames : ℕ → List ℕ) (belief : Belief) (place : HeldPlace) (spot : Spot) : Type 0 where
  pub lies : Lies place spot
  pub found : (bytes : List ℕ) → found_of frames belief ≡ Some bytes → bytes ≡ spot.content

-- what a taken outcome makes of a belief
pub data Turned (outcome : Option Outcome) (before after : Belief) : Type 0 where
  stays : after ≡ before → Turned outcome before after
  turns : (its : Outcome) → outcome ≡ Some its → after ≡ done_of before its → Turned outcome before after

pub turned : (outcome : Option Outcome) (old new : WindowPage) (part after : PartCounts) → Took outcome old new part after → Turned outcome (belief_of old) (belief_of new)
turned outcome old new part after t = pick outcome (is_taken outcome (known_of old)) refl t where
  pick : (o : Option Outcome) (is : Bool) → is_taken o (known_of old) ≡ is → Took o old new part after → Turned o (belief_of old) (belief_of new)
  pick o false e t = stays (ap (λ z. belief_of z) (t.page e))
  pick None true e t = cc
  pick (Some its) true e t =
      let h = t.done its refl e in
      turns its refl h.lender.belief

unshown_finds : (frames : ℕ → List ℕ) (its : Target) (bytes : List ℕ) → found_of frames (unshown its) ≡ Some bytes → ⊥
unshown_finds frames (Frame slot n) bytes f = cc
unshown_finds frames Zeros bytes f = cc

shown_finds : (frames : ℕ → List ℕ) (its : Target) (bytes : List ℕ) → found_of frames (shown_as its) ≡ Some bytes → ⊥
shown_finds frames (Frame slot n) bytes f = cc
shown_finds frames Zeros bytes f = cc

home_finds : (frames : ℕ → List ℕ) (homing : Homing) (slot n : ℕ) (bytes : List ℕ) → found_of frames (home homing slot n) ≡ Some bytes → ⊥
home_finds frames Off slot n bytes f = cc
home_finds frames InPlace slot n bytes f = cc
home_finds frames Elsewhere slot n bytes f = cc

dropped_finds : (frames : ℕ → List ℕ) (stage : Stage) (its : Target) (bytes : List ℕ) → found_of frames (dropped stage its) ≡ Some bytes → ⊥
dropped_finds frames Ready its bytes f = unshown_finds frames its bytes f
dropped_finds frames Held its bytes f = cc
dropped_finds frames Equal its bytes f = cc
dropped_finds frames LettingGo its bytes f = cc

-- only a comparison finds bytes
abbrev pub is_compared_at : Stage → Bool
is_compared_at Ready = false
is_compared_at Held = true
is_compared_at Equal = false
is_compared_at LettingGo = false

abbrev pub is_compared : Belief → Bool
is_compared Private = false
is_compared Chosen = false
is_compared Copied = false
is_compared (Turning stage its) = is_compared_at stage
is_compared (Shown slot n homing) = false
is_compared (Leaving slot) = false

turning_finds : (frames : ℕ → List ℕ) (stage : Stage) (its : Target) (bytes : List ℕ) → is_compared_at stage ≡ false → found_of frames (obeyed_at stage its) ≡ Some bytes → ⊥
turning_finds frames Ready its bytes e f = cc
turning_finds frames Held its bytes e f = cc
turning_finds frames Equal its bytes e f = shown_finds frames its bytes f
turning_finds frames LettingGo its bytes e f = unshown_finds frames its bytes f

obeyed_finds : (frames : ℕ → List ℕ) (b : Belief) (bytes : List ℕ) → is_compared b ≡ false → found_of frames (obeyed b) ≡ Some bytes → ⊥
obeyed_finds frames Private bytes e f = cc
obeyed_finds frames Chosen bytes e f = cc
obeyed_finds frames Copied bytes e f = cc
obeyed_finds frames (Turning stage its) bytes e f = turning_finds frames stage its bytes e f
obeyed_finds frames (Shown slot n homing) bytes e f = home_finds frames homing slot n bytes f
obeyed_finds frames (Leaving slot) bytes e f = cc

given_found : (frames : ℕ → List ℕ) (b : Belief) (slot n : ℕ) (bytes : List ℕ) → found_of frames (given b slot n) ≡ Some bytes → found_of frames b ≡ Some bytes
given_found frames Private slot n bytes f = f
given_found frames Chosen slot n bytes f = f
given_found frames Copied slot n bytes f = f
given_found frames (Turning stage its) slot n bytes f = f
given_found frames (Shown old m homing) slot n bytes f = f
given_found frames (Leaving old) slot n bytes f = f

refused_finds : (frames : ℕ → List ℕ) (b : Belief) (bytes : List ℕ) → found_of frames (refused b) ≡ Some bytes → ⊥
refused_finds frames Private bytes f = cc
refused_finds frames Chosen bytes f = cc
refused_finds frames Copied bytes f = cc
refused_finds frames (Turning stage its) bytes f = dropped_finds frames stage its bytes f
refused_finds frames (Shown slot n homing) bytes f = cc
refused_finds frames (Leaving slot) bytes f = cc

doubted_turning : (frames : ℕ → List ℕ) (stage : Stage) (its : Target) (bytes : List ℕ) → found_of frames (Turning (doubted_at stage) its) ≡ Some bytes → found_of frames (Turning stage its) ≡ Some bytes
doubted_turning frames Ready its bytes f = f
doubted_turning frames Held its bytes f = f
doubted_turning frames Equal its bytes f = f
doubted_turning frames LettingGo its bytes f = f

doubted_found : (frames : ℕ → List ℕ) (b : Belief) (bytes : List ℕ) → found_of frames (doubted b) ≡ Some bytes → found_of frames b ≡ Some bytes
doubted_found frames Private bytes f = f
doubted_found frames Chosen bytes f = f
doubted_found frames Copied bytes f = f
doubted_found frames (Turning stage its) bytes f = doubted_turning frames stage its bytes f
doubted_found frames (Shown slot n homing) bytes f = f
doubted_found frames (Leaving slot) bytes f = f

pub done_found : (frames : ℕ → List ℕ) (b : Belief) (its : Outcome) (bytes : List ℕ) → is_compared b ≡ false → found_of frames (done_of b its) ≡ Some bytes → found_of frames b ≡ Some bytes
done_found frames b Done bytes e f = absurd (obeyed_finds frames b bytes e f)
done_found frames b (Lent slot n) bytes e f = given_found frames b slot n bytes f
done_found frames b NotDone bytes e f = absurd (refused_finds frames b bytes f)
done_found frames b Unknown bytes e f = doubted_found frames b bytes f

-- bars that are looked at find nothing
pub prepared_found : (frames : ℕ → List ℕ) (b : Belief) (bars : Bars) (bytes : List ℕ) → found_of frames (prepared bars b) ≡ Some bytes → found_of frames b ≡ Some bytes
prepared_found frames Private bars bytes f = f
prepared_found frames Chosen bars bytes f = pick (is_barred bars) f where
  pick : (t : Bool) → found_of frames (if t then Private else Chosen) ≡ Some bytes → found_of frames Chosen ≡ Some bytes
  pick true f = f
  pick false f = f
prepared_found frames Copied bars bytes f = pick (is_barred bars) f where
  pick : (t : Bool) → found_of frames (if t then Private else Copied) ≡ Some bytes → found_of frames Copied ≡ Some bytes
  pick true f = f
  pick false f = f
prepared_found frames (Turning stage its) bars bytes f = pick (is_barred bars) f where
  pick : (t : Bool) → found_of frames (if t then dropped stage its else Turning stage its) ≡ Some bytes → found_of frames (Turning stage its) ≡ Some bytes
  pick true f = absurd (dropped_finds frames stage its bytes f)
  pick false f = f
prepared_found frames (Shown slot n homing) bars bytes f = f
prepared_found frames (Leaving slot) bars bytes f = f

-- How a page of which this is believed is held: it rests, and no write to it waits; it is let go; it is compared; or it was found equal.
pub data Holds : Belief → Type 0 where
  rests_so : (b : Belief) → waiting b ≡ false → ((at : HeldPlace) → step_of b at ≡ parted at) → Holds b
  is_let_go : (its : Target) → Holds (Turning LettingGo its)
  is_held_so : (its : Target) → Holds (Turning Held its)
  is_equal : (its : Target) → Holds (Turning Equal its)

turning_holds : (stage : Stage) (its : Target) → Holds (Turning stage its)
turning_holds Ready its = rests_so (Turning Ready its) refl (λ at. refl)
turning_holds Held its = is_held_so its
turning_holds Equal its = is_equal its
turning_holds LettingGo its = is_let_go its

pub holds : (b : Belief) → Holds b
holds Private = rests_so Private refl (λ at. refl)
holds Chosen = rests_so Chosen refl (λ at. refl)
holds Copied = rests_so Copied refl (λ at. refl)
holds (Turning stage its) = turning_holds stage its
holds (Shown slot n homing) = rests_so (Shown slot n homing) refl (λ at. refl)
holds (Leaving slot) = rests_so (Leaving slot) refl (λ at. refl)

-- the page's memory has its bytes
pub memory_is : (place : HeldPlace) (spot : Spot) (bytes : List ℕ) → Lies place spot → memory place spot ≡ Some bytes → bytes ≡ spot.content
memory_is Free spot bytes l m = cc
memory_is Guarded spot bytes l m = cc
memory_is Aside spot bytes l m = let k : spot.aside ≡ Some spot.content = l.1 in cc
memory_is Replaced spot bytes l m = sym (ap (λ z. unwrap_or z zeros) m) ∙ l

parted_maps : (place : HeldPlace) → parted place ≡ Map → ⊥
parted_maps Free e = cc
parted_maps Guarded e = cc
parted_maps Aside e = cc
parted_maps Replaced e = cc

parted_gives : (place : HeldPlace) → parted place ≡ GiveBack → ⊥
parted_gives Free e = cc
parted_gives Guarded e = cc
parted_gives Aside e = cc
parted_gives Replaced e = cc

parted_ends : parted Aside ≡ EndWatch → ⊥
parted_ends e = cc

-- what is mapped was found equal
map_found : (frames : ℕ → List ℕ) (b : Belief) (place : HeldPlace) → Holds b → step_of b place ≡ Map → found_of frames b ≡ Some (target frames b)
map_found frames b place (rests_so its w p) e = absurd (parted_maps place (sym (p place) ∙ e))
map_found frames b place (is_let_go its) e = absurd (parted_maps place e)
map_found frames b place (is_held_so (Frame slot n)) e = cc
map_found frames b place (is_held_so Zeros) e = cc
map_found frames b place (is_equal its) e = refl

-- what is given back was found to be zeros
given_back_found : (frames : ℕ → List ℕ) (b : Belief) (place : HeldPlace) → Holds b → step_of b place ≡ GiveBack → found_of frames b ≡ Some zeros
given_back_found frames b place (rests_so its w p) e = absurd (parted_gives place (sym (p place) ∙ e))
given_back_found frames b place (is_let_go its) e = absurd (parted_gives place e)
given_back_found frames b place (is_held_so (Frame slot n)) e = cc
given_back_found frames b place (is_held_so Zeros) e = cc
given_back_found frames b place (is_equal (Frame slot n)) e = cc
given_back_found frames b place (is_equal Zeros) e = refl

-- an empty place is left only to a page that was found to be zeros
aside_found : (frames : ℕ → List ℕ) (b : Belief) → Holds b → step_of b Aside ≡ EndWatch → found_of frames b ≡ Some zeros
aside_found frames b (rests_so its w p) e = absurd (parted_ends (sym (p Aside) ∙ e))
aside_found frames b (is_let_go its) e = cc
aside_found frames b (is_held_so (Frame slot n)) e = cc
aside_found frames b (is_held_so Zeros) e = cc
aside_found frames b (is_equal (Frame slot n)) e = cc
aside_found frames b (is_equal Zeros) e = refl

parted_puts : (place : HeldPlace) → parted place ≡ PutBack → place ≡ Aside
parted_puts Free e = cc
parted_puts Guarded e = cc
parted_puts Aside e = refl
parted_puts Replaced e = cc

zeros_parted_puts : (place : HeldPlace) → zeros_parted place ≡ PutBack → place ≡ Aside
zeros_parted_puts Free e = cc
zeros_parted_puts Guarded e = cc
zeros_parted_puts Aside e = cc
zeros_parted_puts Replaced e = cc

-- only what is aside is put back
put_from_aside : (b : Belief) (place : HeldPlace) → Holds b → step_of b place ≡ PutBack → place ≡ Aside
put_from_aside b place (rests_so its w p) e = parted_puts place (sym (p place) ∙ e)
put_from_aside b place (is_let_go its) e = parted_puts place e
put_from_aside b place (is_held_so (Frame slot n)) e = cc
put_from_aside b place (is_held_so Zeros) e = cc
put_from_aside b place (is_equal (Frame slot n)) e = cc
put_from_aside b place (is_equal Zeros) e = zeros_parted_puts place e

still_lies : (frames : ℕ → List ℕ) (b : Belief) (place : HeldPlace) (spot : Spot) → step_of b place ≡ EndWatch → Right frames b place spot → Lies (still_watched place) spot
still_lies frames b Free spot e r = r.lies
still_lies frames b Guarded spot e r = r.lies
still_lies frames b Aside spot e r = ap (λ z. unwrap_or z zeros) r.lies.0 ∙ r.found zeros (aside_found frames b (holds b) e)
still_lies frames b Replaced spot e r = r.lies

left_lies : (frames : ℕ → List ℕ) (b : Belief) (place : HeldPlace) (spot : Spot) → step_of b place ≡ EndWatch → Right frames b place spot → unwrap_or spot.here zeros ≡ spot.content
left_lies frames b Free spot e r = ap (λ z. unwrap_or z zeros) r.lies
left_lies frames b Guarded spot e r = ap (λ z. unwrap_or z zeros) r.lies
left_lies frames b Aside spot e r = ap (λ z. unwrap_or z zeros) r.lies.0 ∙ r.found zeros (aside_found frames b (holds b) e)
left_lies frames b Replaced spot e r = r.lies

put_lies : (place : HeldPlace) (spot : Spot) → place ≡ Aside → Lies place spot → spot.aside ≡ Some spot.content
put_lies Free spot e l = cc
put_lies Guarded spot e l = cc
put_lies Aside spot e l = l.1
put_lies Replaced spot e l = cc

refused_lies : (frames : ℕ → List ℕ) (b : Belief) (place : HeldPlace) (spot : Spot) (step : HoldStep) → step_of b place ≡ step → Right frames b place spot →
    Lies (place_after step place false) spot
refused_lies frames b place spot Over e r = r.lies
refused_lies frames b place spot Compare e r = r.lies
refused_lies frames b place spot CompareZeros e r = r.lies
refused_lies frames b place spot Map e r = r.lies
refused_lies frames b place spot GiveBack e r = r.lies
refused_lies frames b place spot PutBack e r = r.lies
refused_lies frames b place spot EndWatch e r = still_lies frames b place spot e r

-- after a step the bytes are where they are said to be
pub lies_after : (frames : ℕ → List ℕ) (b : Belief) (place : HeldPlace) (step : HoldStep) (is_done : Bool) (spot next : Spot) → step_of b place ≡ step →
    Did frames b place step is_done spot next → Right frames b place spot → Lies (place_after step place is_done) next
lies_after frames b place its is_done x y e (refuses step spot) r = refused_lies frames b place spot step e r
lies_after frames b place its is_done x y e (rests spot) r = r.lies
lies_after frames b place its is_done x y e (compares spot m) r = r.lies
lies_after frames b place its is_done x y e (compares_zeros spot m) r = r.lies
lies_after frames b place its is_done x y e (maps spot) r = r.found (target frames b) (map_found frames b place (holds b) e)
lies_after frames b place its is_done x y e (gives_back spot) r = r.found zeros (given_back_found frames b place (holds b) e)
lies_after frames b place its is_done x y e (puts_back spot) r = put_lies place spot (put_from_aside b place (holds b) e) r.lies
lies_after frames b place its is_done x y e (ends_watch spot) r = ap (λ z. Some z) (left_lies frames b place spot e r)
