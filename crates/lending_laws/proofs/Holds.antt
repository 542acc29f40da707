-- A hold, in bytes, and a history of its window say the same of a page.
use Rattle.std.proofs.Common.{◌≡◌, ◌∙◌, ℕ, ◌+◌, Bool, true, false, List, Some, refl, ap, sym, subst}
use Rattle.std.specs.Prelude.{option_map}
use Rattle.page_lender.specs.declared.belief.Belief.{Belief}
use Rattle.page_lender.specs.declared.belief.Belief.TheVariants.{Turning}
use Rattle.page_lender.specs.declared.belief.Stage.TheVariants.{Held}
use Rattle.page_lender.specs.declared.belief.Target.TheVariants.{Frame}
use Rattle.window_events.specs.Windows.{shown_in}
use Rattle.window_pages.specs.Bytes.{belief_of}
use Rattle.window_pages.specs.declared.page.WindowPage.{WindowPage}
use Rattle.page_holds.specs.Laws.{Course, asks, begins, comes_out, writes}
use Rattle.page_holds.specs.Memory.{Did, Spot, begun, compares, compares_zeros, ends_watch, gives_back, is_at_place, maps, memory, puts_back, refuses, rests, target, zeros}
use Rattle.page_holds.specs.Steps.{place_after, still_watched, step_of}
use Rattle.page_holds.specs.declared.place.HeldPlace.{HeldPlace}
use Rattle.page_holds.specs.declared.place.HeldPlace.TheVariants.{Free, Guarded, Aside, Replaced}
use Rattle.page_holds.specs.declared.place.HoldStep.{HoldStep}
use Rattle.page_holds.specs.declared.place.HoldStep.TheVariants.{Over, Compare, CompareZeros, Map, GiveBack, PutBack, EndWatch}
use Rattle.page_holds.specs.declared.place.Taking.{Taking}
use Rattle.page_holds.specs.declared.place.Taking.TheVariants.{Refused as NotTaken, Watched, Guarded as TakenGuarded, Aside as TakenAside}
use Rattle.page_holds.proofs.Courses.{each_hold_is_right}
use Rattle.lending_laws.specs.Histories.{Moment, Reads}
use Rattle.lending_laws.specs.Holds.{EachComparisonIsTrue, EachHoldReadsTheSame, EachStepAgrees, EachTruthIsInBytes, EachZeroIsTrue, IsHeldIn}
use Rattle.lending_laws.proofs.Kept.{each_page_is_read}
use Rattle.lending_laws.proofs.Outcomes.{page_shows}

-- ---- what lies aside

-- what a step leaves of the bytes
pub record Leaves (spot next : Spot) : Type 0 where
  pub content : next.content ≡ spot.content
  pub aside : next.aside ≡ spot.aside

did_leaves : (frames : ℕ → List ℕ) (b : Belief) (place : HeldPlace) (step : HoldStep) (is_done : Bool) (spot next : Spot) → Did frames b place step is_done spot next → Leaves spot next
did_leaves frames b place its is_done x z (refuses step spot) = record { content = refl; aside = refl }
did_leaves frames b place its is_done x z (rests spot) = record { content = refl; aside = refl }
did_leaves frames b place its is_done x z (compares spot m) = record { content = refl; aside = refl }
did_leaves frames b place its is_done x z (compares_zeros spot m) = record { content = refl; aside = refl }
did_leaves frames b place its is_done x z (maps spot) = record { content = refl; aside = refl }
did_leaves frames b place its is_done x z (gives_back spot) = record { content = refl; aside = refl }
did_leaves frames b place its is_done x z (puts_back spot) = record { content = refl; aside = refl }
did_leaves frames b place its is_done x z (ends_watch spot) = record { content = refl; aside = refl }

not_still : (place : HeldPlace) → still_watched place ≡ Aside → ⊥
not_still Free e = cc
not_still Guarded e = cc
not_still Aside e = cc
not_still Replaced e = cc

was_aside : (step : HoldStep) (place : HeldPlace) (is_done : Bool) → place_after step place is_done ≡ Aside → place ≡ Aside
was_aside Over place is_done e = e
was_aside Compare place is_done e = e
was_aside CompareZeros place is_done e = e
was_aside Map place true e = cc
was_aside Map place false e = e
was_aside GiveBack place true e = cc
was_aside GiveBack place false e = e
was_aside PutBack place true e = cc
was_aside PutBack place false e = e
was_aside EndWatch place true e = cc
was_aside EndWatch place false e = absurd (not_still place e)

begun_aside : (taking : Taking) (bytes found : List ℕ) → (begun taking bytes).aside ≡ Some found → found ≡ (begun taking bytes).content
begun_aside NotTaken bytes found e = cc
begun_aside Watched bytes found e = cc
begun_aside TakenGuarded bytes found e = cc
begun_aside TakenAside bytes found e = cc

-- a page whose memory is aside isn't written
not_written : (place : HeldPlace) → is_at_place place ≡ true → place ≡ Aside → ⊥
not_written Free w e = cc
not_written Guarded w e = cc
not_written Aside w e = cc
not_written Replaced w e = cc

aside_own : (frames : ℕ → List ℕ) (page : WindowPage) (place : HeldPlace) (spot : Spot) → Course frames page place spot → place ≡ Aside → (bytes : List ℕ) → spot.aside ≡ Some bytes → bytes ≡ spot.content
aside_own frames page place spot (begins old new part after taking its h t) e bytes a = begun_aside taking its bytes a
aside_own frames page place spot (asks old new part after its its_spot order bars c l) e bytes a = aside_own frames old its its_spot c e bytes a
aside_own frames page place spot (comes_out old new part after its its_spot next is_done c d t) e bytes a =
    let l : Leaves its_spot next = did_leaves frames (belief_of old) its (step_of (belief_of old) its) is_done its_spot next d in
    aside_own frames old its its_spot c (was_aside (step_of (belief_of old) its) its is_done e) bytes (sym l.aside ∙ a) ∙ sym l.content
aside_own frames page place spot (writes its its_place its_spot stored c h w) e bytes a = absurd (not_written its_place w e)

-- the page's memory has the bytes that were stored last
memory_own : (frames : ℕ → List ℕ) (page : WindowPage) (place : HeldPlace) (spot : Spot) → Course frames page place spot → (bytes : List ℕ) → memory place spot ≡ Some bytes → bytes ≡ spot.content
memory_own frames page place spot c bytes m = pick place refl m where
  own : spot.here ≡ Some bytes → bytes ≡ spot.content
  own e = (each_hold_is_right frames page place spot c).own bytes e

  pick : (v : HeldPlace) → place ≡ v → memory v spot ≡ Some bytes → bytes ≡ spot.content
  pick Free e m = own m
  pick Guarded e m = own m
  pick Aside e m = aside_own frames page place spot c e bytes m
  pick Replaced e m = own m

-- ---- what is read

held_reads : (number : List ℕ → ℕ) (frames : ℕ → List ℕ) (first count i : ℕ) (m : Moment) (place : HeldPlace) (spot : Spot) → IsHeldIn number frames first count i m place spot →
    Reads m.world (first + i) (number spot.content)
held_reads number frames first count i m place spot h =
    subst (λ v. Reads m.world (first + i) v) h.agrees.content (each_page_is_read h.may_give first count m h.history i h.within)

pub each_hold_reads_the_same : EachHoldReadsTheSame
each_hold_reads_the_same number frames first count i m place spot bytes h e =
    let r : Reads m.world (first + i) (number spot.content) = held_reads number frames first count i m place spot h in
    let own : bytes ≡ spot.content = (each_hold_is_right frames h.page place spot h.course).own bytes e in
    ap (λ o. option_map (λ page. shown_in m.world.frames page.view) o) r.there ∙ ap (λ v. Some v) (r.shows ∙ ap number (sym own))

-- ---- comparisons

compared_memory : (frames : ℕ → List ℕ) (b : Belief) (place : HeldPlace) (step : HoldStep) (is_done : Bool) (spot next : Spot) → step ≡ Compare → is_done ≡ true →
    Did frames b place step is_done spot next → memory place spot ≡ Some (target frames b)
compared_memory frames b place its is_done x z s d (refuses step spot) = cc
compared_memory frames b place its is_done x z s d (rests spot) = cc
compared_memory frames b place its is_done x z s d (compares spot m) = m
compared_memory frames b place its is_done x z s d (compares_zeros spot m) = cc
compared_memory frames b place its is_done x z s d (maps spot) = cc
compared_memory frames b place its is_done x z s d (gives_back spot) = cc
compared_memory frames b place its is_done x z s d (puts_back spot) = cc
compared_memory frames b place its is_done x z s d (ends_watch spot) = cc

compared_zeros : (frames : ℕ → List ℕ) (b : Belief) (place : HeldPlace) (step : HoldStep) (is_done : Bool) (spot next : Spot) → step ≡ CompareZeros → is_done ≡ true →
    Did frames b place step is_done spot next → memory place spot ≡ Some zeros
compared_zeros frames b place its is_done x z s d (refuses step spot) = cc
compared_zeros frames b place its is_done x z s d (rests spot) = cc
compared_zeros frames b place its is_done x z s d (compares spot m) = cc
compared_zeros frames b place its is_done x z s d (compares_zeros spot m) = m
compared_zeros frames b place its is_done x z s d (maps spot) = cc
compared_zeros frames b place its is_done x z s d (gives_back spot) = cc
compared_zeros frames b place its is_done x z s d (puts_back spot) = cc
compared_zeros frames b place its is_done x z s d (ends_watch spot) = cc

pub each_comparison_is_true : EachComparisonIsTrue
each_comparison_is_true number frames first count i m place spot next slot n y page h d e g f =
    let r : Reads m.world (first + i) (number spot.content) = held_reads number frames first count i m place spot h in
    let same : frames n ≡ spot.content = memory_own frames h.page place spot h.course (frames n) (compared_memory frames (Turning Held (Frame slot n)) place Compare true spot next refl refl d) in
    (g, f ∙ ap (λ v. Some v) (h.agrees.numbered n y f ∙ ap number same ∙ sym (page_shows m.world (first + i) (number spot.content) page r e)))

pub each_zero_is_true : EachZeroIsTrue
each_zero_is_true number frames first count i m place spot next belief page z h d e g =
    let r : Reads m.world (first + i) (number spot.content) = held_reads number frames first count i m place spot h in
    let same : zeros ≡ spot.content = memory_own frames h.page place spot h.course zeros (compared_zeros frames belief place CompareZeros true spot next refl refl d) in
    (g, page_shows m.world (first + i) (number spot.content) page r e ∙ ap number (sym same) ∙ z)

pub each_truth_is_in_bytes : EachTruthIsInBytes
each_truth_is_in_bytes number frames first count i m place spot slot n page bytes one h e t f =
    let r : Reads m.world (first + i) (number spot.content) = held_reads number frames first count i m place spot h in
    let own : bytes ≡ spot.content = memory_own frames h.page place spot h.course bytes f in
    let numbers : number spot.content ≡ number (frames n) = sym (page_shows m.world (first + i) (number spot.content) page r e) ∙ h.agrees.numbered n (shown_in m.world.frames page.view) t.1 in
    compares spot (f ∙ ap (λ v. Some v) (own ∙ one spot.content (frames n) numbers))

pub each_step_agrees : EachStepAgrees
each_step_agrees number frames w stored belief place step is_done spot next a d = record {
  content = a.content ∙ ap number (sym (did_leaves frames belief place step is_done spot next d).content);
  numbered = a.numbered;
}
