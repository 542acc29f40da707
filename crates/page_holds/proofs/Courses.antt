-- The bytes of a page in a hold are its own, whatever course the hold takes.
use Rattle.std.proofs.Common.{◌≡◌, ◌∙◌, ℕ, Bool, true, false, List, Option, Some, None, refl, ap, sym}
use Rattle.std.specs.Prelude.{unwrap_or, if◌then◌else◌}
use Rattle.page_lender.specs.Decisions.{prepared, waiting}
use Rattle.page_lender.specs.Lender.{done_of}
use Rattle.page_lender.specs.declared.bars.Bars.{Bars}
use Rattle.page_lender.specs.declared.belief.Belief.{Belief}
use Rattle.page_lender.specs.declared.belief.Belief.TheVariants.{Private, Chosen, Copied, Turning, Shown, Leaving}
use Rattle.page_lender.specs.declared.belief.Stage.TheVariants.{Ready, Held, Equal, LettingGo}
use Rattle.page_lender.specs.declared.belief.Target.{Target}
use Rattle.page_lender.specs.declared.belief.Target.TheVariants.{Frame, Zeros}
use Rattle.page_lender.specs.declared.order.Outcome.{Outcome}
use Rattle.page_lender.specs.declared.order.Outcome.TheVariants.{Done, Refused as NotDone}
use Rattle.window_pages.specs.Bytes.{belief_of, known_of}
use Rattle.window_pages.specs.declared.page.WindowPage.{WindowPage}
use Rattle.page_holds.specs.Laws.{Course, EachHoldIsRight, asks, begins, comes_out, writes}
use Rattle.page_holds.specs.Memory.{Did, Spot, begun, bytes_of, compares, compares_zeros, is_at_place, is_held, ends_watch, gives_back, maps, puts_back, refuses, rests, zeros}
use Rattle.page_holds.specs.Steps.{asks_for, outcome_for, place_after, place_of, step_of}
use Rattle.page_holds.specs.declared.place.HeldPlace.{HeldPlace}
use Rattle.page_holds.specs.declared.place.HeldPlace.TheVariants.{Free, Guarded, Aside, Replaced}
use Rattle.page_holds.specs.declared.place.HoldStep.{HoldStep}
use Rattle.page_holds.specs.declared.place.HoldStep.TheVariants.{Compare, CompareZeros}
use Rattle.page_holds.specs.declared.place.Taking.{Taking}
use Rattle.page_holds.specs.declared.place.Taking.TheVariants.{Refused as NotTaken, Watched, Guarded as TakenGuarded, Aside as TakenAside}
use Rattle.page_holds.proofs.Kept.{Lies, Right, Turned, done_found, found_of, is_compared, lies_after, memory_is, prepared_found, stays, turned, turns}

-- a belief that no comparison led to has found what it had found
found_before : (frames : ℕ → List ℕ) (outcome : Option Outcome) (b y : Belief) (bytes : List ℕ) → is_compared b ≡ false → Turned outcome b y →
    found_of frames y ≡ Some bytes → found_of frames b ≡ Some bytes
found_before frames outcome b y bytes c (stays e) f = ap (λ z. found_of frames z) (sym e) ∙ f
found_before frames outcome b y bytes c (turns its o s) f = done_found frames b its bytes c (ap (λ z. found_of frames z) (sym s) ∙ f)

-- a comparison that says equal has found the target's bytes
same_found : (frames : ℕ → List ℕ) (its : Target) (y : Belief) (outcome : Outcome) (bytes : List ℕ) → outcome ≡ Done → y ≡ done_of (Turning Held its) outcome →
    found_of frames y ≡ Some bytes → bytes ≡ bytes_of frames its
same_found frames its y outcome bytes o s f =
    let is : y ≡ Turning Equal its = s ∙ ap (λ z. done_of (Turning Held its) z) o in
    let got : Some (bytes_of frames its) ≡ Some bytes = ap (λ z. found_of frames z) (sym is) ∙ f in
    cc

-- one that says no has found nothing
differs_found : (frames : ℕ → List ℕ) (its : Target) (y : Belief) (outcome : Outcome) (bytes : List ℕ) → Some NotDone ≡ Some outcome → y ≡ done_of (Turning Held its) outcome →
    found_of frames y ≡ Some bytes → ⊥
differs_found frames its y outcome bytes o s f =
    let was : outcome ≡ NotDone = cc in
    let is : y ≡ Turning LettingGo its = s ∙ ap (λ z. done_of (Turning Held its) z) was in
    let none : found_of frames (Turning LettingGo its) ≡ Some bytes = ap (λ z. found_of frames z) (sym is) ∙ f in
    cc

-- a page that was held, and is compared with its frame
held_right : (frames : ℕ → List ℕ) (slot n : ℕ) (y : Belief) (place : HeldPlace) (step : HoldStep) (is_done : Bool) (spot next : Spot) → Compare ≡ step →
    Did frames (Turning Held (Frame slot n)) place step is_done spot next → Turned (outcome_for step (Turning Held (Frame slot n)) is_done) (Turning Held (Frame slot n)) y → Right frames (Turning Held (Frame slot n)) place spot →
    (bytes : List ℕ) → found_of frames y ≡ Some bytes → bytes ≡ next.content
held_right frames slot n y place its is_done x z e d (stays q) r bytes f = let none : found_of frames (Turning Held (Frame slot n)) ≡ Some bytes = ap (λ v. found_of frames v) (sym q) ∙ f in cc
held_right frames slot n y place its is_done x z e (refuses step spot) (turns o q s) r bytes f =
    absurd (differs_found frames (Frame slot n) y o bytes (ap (λ v. outcome_for v (Turning Held (Frame slot n)) false) e ∙ q) s f)
held_right frames slot n y place its is_done x z e (compares spot m) (turns o q s) r bytes f =
    let is : o ≡ Done = cc in
    let same : bytes ≡ frames n = same_found frames (Frame slot n) y o bytes is s f in
    same ∙ memory_is place spot (frames n) r.lies m
held_right frames slot n y place its is_done x z e (rests spot) t r bytes f = cc
held_right frames slot n y place its is_done x z e (compares_zeros spot m) t r bytes f = cc
held_right frames slot n y place its is_done x z e (maps spot) t r bytes f = cc
held_right frames slot n y place its is_done x z e (gives_back spot) t r bytes f = cc
held_right frames slot n y place its is_done x z e (puts_back spot) t r bytes f = cc
held_right frames slot n y place its is_done x z e (ends_watch spot) t r bytes f = cc

-- one that is compared with zeros
zeros_right : (frames : ℕ → List ℕ) (y : Belief) (place : HeldPlace) (step : HoldStep) (is_done : Bool) (spot next : Spot) → CompareZeros ≡ step →
    Did frames (Turning Held Zeros) place step is_done spot next → Turned (outcome_for step (Turning Held Zeros) is_done) (Turning Held Zeros) y → Right frames (Turning Held Zeros) place spot →
    (bytes : List ℕ) → found_of frames y ≡ Some bytes → bytes ≡ next.content
zeros_right frames y place its is_done x z e d (stays q) r bytes f = let none : found_of frames (Turning Held Zeros) ≡ Some bytes = ap (λ v. found_of frames v) (sym q) ∙ f in cc
zeros_right frames y place its is_done x z e (refuses step spot) (turns o q s) r bytes f =
    absurd (differs_found frames Zeros y o bytes (ap (λ v. outcome_for v (Turning Held Zeros) false) e ∙ q) s f)
zeros_right frames y place its is_done x z e (compares_zeros spot m) (turns o q s) r bytes f =
    let is : o ≡ Done = cc in
    same_found frames Zeros y o bytes is s f ∙ memory_is place spot zeros r.lies m
zeros_right frames y place its is_done x z e (rests spot) t r bytes f = cc
zeros_right frames y place its is_done x z e (compares spot m) t r bytes f = cc
zeros_right frames y place its is_done x z e (maps spot) t r bytes f = cc
zeros_right frames y place its is_done x z e (gives_back spot) t r bytes f = cc
zeros_right frames y place its is_done x z e (puts_back spot) t r bytes f = cc
zeros_right frames y place its is_done x z e (ends_watch spot) t r bytes f = cc

content_stays : (frames : ℕ → List ℕ) (b : Belief) (place : HeldPlace) (step : HoldStep) (is_done : Bool) (spot next : Spot) → Did frames b place step is_done spot next →
    next.content ≡ spot.content
content_stays frames b place its is_done x z (refuses step spot) = refl
content_stays frames b place its is_done x z (rests spot) = refl
content_stays frames b place its is_done x z (compares spot m) = refl
content_stays frames b place its is_done x z (compares_zeros spot m) = refl
content_stays frames b place its is_done x z (maps spot) = refl
content_stays frames b place its is_done x z (gives_back spot) = refl
content_stays frames b place its is_done x z (puts_back spot) = refl
content_stays frames b place its is_done x z (ends_watch spot) = refl

-- one that isn't compared now
others_right : (frames : ℕ → List ℕ) (b y : Belief) (place : HeldPlace) (is_done : Bool) (spot next : Spot) → is_compared b ≡ false →
    Did frames b place (step_of b place) is_done spot next → Turned (outcome_for (step_of b place) b is_done) b y → Right frames b place spot →
    (bytes : List ℕ) → found_of frames y ≡ Some bytes → bytes ≡ next.content
others_right frames b y place is_done x z c d t r bytes f =
    r.found bytes (found_before frames (outcome_for (step_of b place) b is_done) b y bytes c t f) ∙ sym (content_stays frames b place (step_of b place) is_done x z d)

-- what was found of a page fits after a step
found_right : (frames : ℕ → List ℕ) (b y : Belief) (place : HeldPlace) (is_done : Bool) (spot next : Spot) → Did frames b place (step_of b place) is_done spot next →
    Turned (outcome_for (step_of b place) b is_done) b y → Right frames b place spot → (bytes : List ℕ) → found_of frames y ≡ Some bytes → bytes ≡ next.content
found_right frames Private y place is_done x z d t r bytes f = others_right frames Private y place is_done x z refl d t r bytes f
found_right frames Chosen y place is_done x z d t r bytes f = others_right frames Chosen y place is_done x z refl d t r bytes f
found_right frames Copied y place is_done x z d t r bytes f = others_right frames Copied y place is_done x z refl d t r bytes f
found_right frames (Turning Ready its) y place is_done x z d t r bytes f = others_right frames (Turning Ready its) y place is_done x z refl d t r bytes f
found_right frames (Turning Held (Frame slot n)) y place is_done x z d t r bytes f = held_right frames slot n y place Compare is_done x z refl d t r bytes f
found_right frames (Turning Held Zeros) y place is_done x z d t r bytes f = zeros_right frames y place CompareZeros is_done x z refl d t r bytes f
found_right frames (Turning Equal its) y place is_done x z d t r bytes f = others_right frames (Turning Equal its) y place is_done x z refl d t r bytes f
found_right frames (Turning LettingGo its) y place is_done x z d t r bytes f = others_right frames (Turning LettingGo its) y place is_done x z refl d t r bytes f
found_right frames (Shown slot n homing) y place is_done x z d t r bytes f = others_right frames (Shown slot n homing) y place is_done x z refl d t r bytes f
found_right frames (Leaving slot) y place is_done x z d t r bytes f = others_right frames (Leaving slot) y place is_done x z refl d t r bytes f

stepped : (frames : ℕ → List ℕ) (b y : Belief) (place : HeldPlace) (is_done : Bool) (spot next : Spot) → Did frames b place (step_of b place) is_done spot next →
    Turned (outcome_for (step_of b place) b is_done) b y → Right frames b place spot → Right frames y (place_after (step_of b place) place is_done) next
stepped frames b y place is_done spot next d t r = record {
  lies = lies_after frames b place (step_of b place) is_done spot next refl d r;
  found = found_right frames b y place is_done spot next d t r;
}

begun_lies : (taking : Taking) (bytes : List ℕ) → Lies (place_of taking) (begun taking bytes)
begun_lies NotTaken bytes = refl
begun_lies Watched bytes = refl
begun_lies TakenGuarded bytes = refl
begun_lies TakenAside bytes = (refl, refl)

-- a page to which no write waits is found equal to nothing, and isn't compared now
quiet_found : (frames : ℕ → List ℕ) (b : Belief) (bytes : List ℕ) → waiting b ≡ false → found_of frames b ≡ Some bytes → ⊥
quiet_found frames Private bytes h f = cc
quiet_found frames Chosen bytes h f = cc
quiet_found frames Copied bytes h f = cc
quiet_found frames (Turning Ready its) bytes h f = cc
quiet_found frames (Turning Held its) bytes h f = cc
quiet_found frames (Turning Equal its) bytes h f = cc
quiet_found frames (Turning LettingGo its) bytes h f = cc
quiet_found frames (Shown slot n homing) bytes h f = cc
quiet_found frames (Leaving slot) bytes h f = cc

quiet_compared : (b : Belief) → waiting b ≡ false → is_compared b ≡ false
quiet_compared Private h = refl
quiet_compared Chosen h = refl
quiet_compared Copied h = refl
quiet_compared (Turning Ready its) h = refl
quiet_compared (Turning Held its) h = cc
quiet_compared (Turning Equal its) h = refl
quiet_compared (Turning LettingGo its) h = refl
quiet_compared (Shown slot n homing) h = refl
quiet_compared (Leaving slot) h = refl

-- so nothing is found once its hold began
begun_found : (frames : ℕ → List ℕ) (b y : Belief) (outcome : Option Outcome) (bytes : List ℕ) → waiting b ≡ false → Turned outcome b y → found_of frames y ≡ Some bytes → ⊥
begun_found frames b y o bytes h t f = quiet_found frames b bytes h (found_before frames o b y bytes (quiet_compared b h) t f)

written_lies : (place : HeldPlace) (spot : Spot) (bytes : List ℕ) → is_at_place place ≡ true → Lies place (record spot { content = bytes; here = Some bytes })
written_lies Free spot bytes e = refl
written_lies Guarded spot bytes e = refl
written_lies Aside spot bytes e = cc
written_lies Replaced spot bytes e = cc

written_found : (frames : ℕ → List ℕ) (b : Belief) (bytes : List ℕ) → is_held b ≡ false → found_of frames b ≡ Some bytes → ⊥
written_found frames Private bytes h f = cc
written_found frames Chosen bytes h f = cc
written_found frames Copied bytes h f = cc
written_found frames (Turning Ready its) bytes h f = cc
written_found frames (Turning Held its) bytes h f = cc
written_found frames (Turning Equal its) bytes h f = cc
written_found frames (Turning LettingGo its) bytes h f = cc
written_found frames (Shown slot n homing) bytes h f = cc
written_found frames (Leaving slot) bytes h f = cc

-- what an order makes of a belief
asked : (frames : ℕ → List ℕ) (b y : Belief) (ordered : Bool) (bars : Bars) (bytes : List ℕ) → y ≡ (if ordered then b else prepared bars b) → found_of frames y ≡ Some bytes →
    found_of frames b ≡ Some bytes
asked frames b y true bars bytes e f = ap (λ z. found_of frames z) (sym e) ∙ f
asked frames b y false bars bytes e f = prepared_found frames b bars bytes (ap (λ z. found_of frames z) (sym e) ∙ f)

course_right : (frames : ℕ → List ℕ) (page : WindowPage) (place : HeldPlace) (spot : Spot) → Course frames page place spot → Right frames (belief_of page) place spot
course_right frames page place spot (begins old new part after taking bytes h t) =
    record {
      lies = begun_lies taking bytes;
      found = λ its f. absurd (begun_found frames (belief_of old) (belief_of new) (asks_for (belief_of old) taking) its h
          (turned (asks_for (belief_of old) taking) old new part after t) f);
    }
course_right frames page place spot (asks old new part after its its_spot order bars c l) =
    let r : Right frames (belief_of old) its its_spot = course_right frames old its its_spot c in
    record {
      lies = r.lies;
      found = λ bytes f. r.found bytes (asked frames (belief_of old) (belief_of new) (known_of old).ordered bars bytes l.lender.belief f);
    }
course_right frames page place spot (comes_out old new part after its its_spot next is_done c d t) =
    stepped frames (belief_of old) (belief_of new) its is_done its_spot next d
    (turned (outcome_for (step_of (belief_of old) its) (belief_of old) is_done) old new part after t) (course_right frames old its its_spot c)
course_right frames page place spot (writes its its_place its_spot bytes c h w) =
    record {
      lies = written_lies its_place its_spot bytes w;
      found = λ found f. absurd (written_found frames (belief_of its) found h f);
    }

own_bytes : (place : HeldPlace) (spot : Spot) (bytes : List ℕ) → Lies place spot → spot.here ≡ Some bytes → bytes ≡ spot.content
own_bytes Free spot bytes l e = cc
own_bytes Guarded spot bytes l e = cc
own_bytes Aside spot bytes l e = let none : spot.here ≡ None = l.0 in cc
own_bytes Replaced spot bytes l e = sym (ap (λ z. unwrap_or z zeros) e) ∙ l

free_bytes : (place : HeldPlace) (spot : Spot) → Lies place spot → place ≡ Free → spot.here ≡ Some spot.content
free_bytes Free spot l e = l
free_bytes Guarded spot l e = cc
free_bytes Aside spot l e = cc
free_bytes Replaced spot l e = cc

pub each_hold_is_right : EachHoldIsRight
each_hold_is_right frames page place spot c =
    let r : Right frames (belief_of page) place spot = course_right frames page place spot c in
    record {
      own = λ bytes e. own_bytes place spot bytes r.lies e;
      there = λ e. free_bytes place spot r.lies e;
    }
