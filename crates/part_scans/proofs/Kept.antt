-- What a scan makes of a page keeps the counts of its part right.
use Rattle.std.proofs.Common.{◌≡◌, ◌∙◌, ℕ, zero, suc, ◌+◌, ◌<◌, ◌⊎◌, inl, inr, length, get_or, Bool, true, false, List, [], ◌∷◌, Some, refl, ap, sym, subst, arith}
use Rattle.std.specs.Prelude.{slice_get, slice_index_or, slice_set}
use Rattle.std.specs.Option.{option_map_or}
use Rattle.std.proofs.lemmas.Bool.{cases_eq}
use Rattle.std.proofs.lemmas.Option.{slice_get-get_or}
use Rattle.page_holds.proofs.RowsKept.{Follows, follows, stays, Keeps, byte_there, keeps}
use Rattle.page_holds.specs.Rows.{PageChanges}
use Rattle.page_lender.specs.Decisions.{is_busy}
use Rattle.page_looks.specs.Idle.{glanced_by}
use Rattle.page_looks.specs.Notes.{looks_of}
use Rattle.page_looks.specs.Steps.{Came, Glanced, IsCopy, NotesMemory, act_by, has_again, is_met}
use Rattle.page_looks.specs.declared.finds.step.FindOutcome.{FindOutcome}
use Rattle.page_looks.specs.declared.finds.step.FindStep.{FindStep}
use Rattle.page_looks.specs.declared.finds.step.FindStep.TheVariants.{Over, FindCopy, Glance, Read, Count, Idle, Zeros}
use Rattle.page_looks.specs.declared.finds.step.Memory.{Memory}
use Rattle.page_looks.specs.declared.finds.step.Sight.{Sight}
use Rattle.part_scans.specs.Scans.{GoesOn, IsTaken, changed_at, changed_before, number_of, sight_at}
use Rattle.part_scans.specs.Seen.{has_step, seen_in}
use Rattle.part_scans.specs.declared.scan.Scan.{Scan}
use Rattle.window_pages.specs.Bytes.{known_of}
use Rattle.window_pages.specs.Changed.{lender_with}
use Rattle.window_pages.specs.Known.{no_bars}
use Rattle.window_pages.specs.declared.counts.PartCounts.{PartCounts}
use Rattle.window_pages.specs.declared.facts.WindowFacts.{WindowFacts}
use Rattle.window_pages.specs.declared.page.WindowPage.{WindowPage}
use Rattle.window_tables.proofs.Places.{set_other, set_own}
use Rattle.window_tables.specs.Tables.{part_at}

-- The counts follow a page, in one change or in two.
pub data Tracks (old new : WindowPage) (part part_new : PartCounts) : Type 0 where
  once : Follows old new part part_new → Tracks old new part part_new
  twice : (middle : WindowPage) (part_middle : PartCounts) → Follows old middle part part_middle → Follows middle new part_middle part_new → Tracks old new part part_new

notes_track : (memory : Memory) (old new : WindowPage) (part after : PartCounts) → NotesMemory memory old new part after → Tracks old new part after
notes_track memory old new part after m = pick (has_again memory (known_of old)) refl where
  pick : (is : Bool) → has_again memory (known_of old) ≡ is → Tracks old new part after
  pick true e = once (follows ((m.noted e).counts))
  pick false e = once (stays (m.page e) (m.counts e))

pub taken_track : (scan : Scan) (facts : WindowFacts) (memory : Memory) (place : ℕ) (is_so : Bool) (other byte : ℕ) (old new : WindowPage) (part after : PartCounts) →
    IsTaken scan facts memory place is_so other byte old new part after → Tracks old new part after
taken_track scan facts memory place true other byte old new part after t = notes_track memory old new part after (t.page refl)
taken_track scan facts memory place false other byte old new part after t = once (stays ((t.same refl).page) ((t.same refl).counts))

copy_track : (old new : WindowPage) (part after : PartCounts) → IsCopy old new part after → Tracks old new part after
copy_track old new part after c = pick (is_busy (lender_with no_bars (known_of old))) refl where
  pick : (is : Bool) → is_busy (lender_with no_bars (known_of old)) ≡ is → Tracks old new part after
  pick false e = twice c.heard c.part_heard (follows ((c.hears e).counts)) (follows (c.stops.counts))
  pick true e = twice c.heard c.part_heard (stays ((c.busy e).page) ((c.busy e).counts)) (follows (c.stops.counts))

glance_track : (sight : Sight) (glance : ℕ) (next : FindStep) (old new : WindowPage) (part after : PartCounts) → Glanced sight glance next old new part after → Tracks old new part after
glance_track sight glance next old new part after g = pick (is_met (act_by sight glance old)) refl where
  pick : (is : Bool) → is_met (act_by sight glance old) ≡ is → Tracks old new part after
  pick true e = once (follows ((g.met e).counts))
  pick false e = once (stays ((g.same e).page) ((g.same e).counts))

came_track : (step : FindStep) (sight : Sight) (outcome : FindOutcome) (next : FindStep) (old new : WindowPage) (part after : PartCounts) →
    Came step sight outcome next old new part after → Tracks old new part after
came_track Over sight outcome next old new part after c = once (stays (c.same.page) (c.same.counts))
came_track FindCopy sight outcome next old new part after c = pick outcome.is_own refl where
  pick : (is : Bool) → outcome.is_own ≡ is → Tracks old new part after
  pick true e = copy_track old new part after (c.copy e)
  pick false e = once (stays ((c.none e).page) ((c.none e).counts))
came_track Glance sight outcome next old new part after c = glance_track sight outcome.glance next old new part after c
came_track Read sight outcome next old new part after c = once (follows (c.noted.counts))
came_track Count sight outcome next old new part after c = once (follows (c.noted.counts))
came_track Idle sight outcome next old new part after c = once (stays (c.same.page) (c.same.counts))
came_track Zeros sight outcome next old new part after c = once (stays (c.same.page) (c.same.counts))

pub goes_track : (scan : Scan) (outcome : FindOutcome) (place before byte : ℕ) (old new : WindowPage) (part after : PartCounts) → GoesOn scan outcome place before byte old new part after →
    Tracks old new part after
goes_track scan outcome place before byte old new part after g = pick (has_step (seen_in before).step) refl where
  pick : (is : Bool) → has_step (seen_in before).step ≡ is → Tracks old new part after
  pick true e = let w = g.went e in came_track (seen_in before).step (sight_at scan place) outcome w.next old new part after w.came
  pick false e = once (stays ((g.same e).page) ((g.same e).counts))

set_twice : {X : Type 0} (xs : List X) (p : ℕ) (x y : X) → slice_set (slice_set xs p x) p y ≡ slice_set xs p y
set_twice [] p x y = refl
set_twice (z ∷ xs) zero x y = refl
set_twice (z ∷ xs) (suc p) x y = ap (λ v. z ∷ v) (set_twice xs p x y)

abbrev Any : WindowPage → WindowPage → PartCounts → PartCounts → Type 0
Any old new part after = Unit {0}

pub tracks_keep : (Becomes : WindowPage → WindowPage → PartCounts → PartCounts → Type 0) (lead place : ℕ) (old new : List WindowPage) (parts parts_new : List PartCounts)
    (o : PageChanges Becomes lead place old new parts parts_new) → Tracks o.before o.after o.part o.part_after → Keeps lead old new parts parts_new
tracks_keep Becomes lead place old new parts parts_new o (once f) = keeps Becomes lead place old new parts parts_new o f
tracks_keep Becomes lead place old new parts parts_new o (twice middle part_middle f g) =
    let pages : List WindowPage = slice_set old place middle in
    let counts : List PartCounts = slice_set parts (part_at lead place) part_middle in
    let one : PageChanges Any lead place old pages parts counts = record {
      before = o.before;
      after = middle;
      part = o.part;
      part_after = part_middle;
      is_there = o.is_there;
      is_part = o.is_part;
      changed = refl;
      follows = refl;
      becomes = record {};
    } in
    let two : PageChanges Any lead place pages new counts parts_new = record {
      before = middle;
      after = o.after;
      part = part_middle;
      part_after = o.part_after;
      is_there = set_own old place o.before middle o.is_there;
      is_part = set_own parts (part_at lead place) o.part part_middle o.is_part;
      changed = o.changed ∙ sym (set_twice old place middle o.after);
      follows = o.follows ∙ sym (set_twice parts (part_at lead place) part_middle o.part_after);
      becomes = record {};
    } in
    let first : Keeps lead old pages parts counts = keeps Any lead place old pages parts counts one f in
    let second : Keeps lead pages new counts parts_new = keeps Any lead place pages new counts parts_new two g in
    record { counted = λ h. second.counted (first.counted h); parted = λ h. second.parted (first.parted h) }

-- ---- bytes of a row ----

index_get : (xs : List ℕ) (i : ℕ) → slice_index_or xs i 0 ≡ option_map_or (λ x. x) (slice_get xs i) 0
index_get [] i = refl
index_get (x ∷ xs) zero = refl
index_get (x ∷ xs) (suc i) = index_get xs i

same_byte : (xs ys : List ℕ) (i : ℕ) → slice_get xs i ≡ slice_get ys i → slice_index_or xs i 0 ≡ slice_index_or ys i 0
same_byte xs ys i e = index_get xs i ∙ (ap (λ o. option_map_or (λ x. x) o 0) e ∙ sym (index_get ys i))

pub same_changed : (xs ys : List ℕ) (i : ℕ) → slice_get xs i ≡ slice_get ys i → changed_at xs i ≡ changed_at ys i
same_changed xs ys i e = ap (λ b. (seen_in b).changed) (same_byte xs ys i e)

after : (n : ℕ) → suc n ≡ n + 1
after n = omega arith

pub changed_before_next : (row : List ℕ) (n : ℕ) → changed_at row n ≡ changed_before row (n + 1)
changed_before_next row n = subst (λ m. changed_at row n ≡ changed_before row m) (after n) refl

-- ---- where glances look ----

-- what a glance looks at, at a place of a list
abbrev IsNumber : ℕ → List WindowPage → List ℕ → ℕ → ℕ → Type 0
IsNumber first pages places k v =
    (n : ℕ) (x : WindowPage) → slice_get places k ≡ Some n → slice_get pages (first + n) ≡ Some x → v ≡ glanced_by (looks_of x) (number_of (first + n))

-- That is noted of the first places.
pub record Noted (first : ℕ) (pages : List WindowPage) (places : List ℕ) (count : ℕ) (numbers : List ℕ) : Type 0 where
  pub at : (k n : ℕ) (x : WindowPage) → k < count → slice_get places k ≡ Some n → slice_get pages (first + n) ≡ Some x → slice_get numbers k ≡ Some (glanced_by (looks_of x) (number_of (first + n)))

pub noted_none : (first : ℕ) (pages : List WindowPage) (places numbers : List ℕ) → Noted first pages places 0 numbers
noted_none first pages places numbers = record { at = λ k n x l d e. absurd (omega (arith, l)) }

pub noted_more : (first : ℕ) (pages : List WindowPage) (places : List ℕ) (count : ℕ) (numbers : List ℕ) (v : ℕ) → count < length numbers → Noted first pages places count numbers →
    IsNumber first pages places count v → Noted first pages places (count + 1) (slice_set numbers count v)
noted_more first pages places count numbers v inside before its = record { at = each } where
  each : (k n : ℕ) (x : WindowPage) → k < count + 1 → slice_get places k ≡ Some n → slice_get pages (first + n) ≡ Some x → slice_get (slice_set numbers count v) k ≡ Some (glanced_by (looks_of x) (number_of (first + n)))
  each k n x l d e = pick (cases_eq count k) where
    pick : (count ≡ k) ⊎ (count ≡ k → ⊥) → slice_get (slice_set numbers count v) k ≡ Some (glanced_by (looks_of x) (number_of (first + n)))
    pick (inr apart) = set_other numbers count k v apart ∙ before.at k n x (omega (arith, l)) d e
    pick (inl is) =
        subst (λ j. slice_get places j ≡ Some n → slice_get (slice_set numbers count v) j ≡ Some (glanced_by (looks_of x) (number_of (first + n)))) is
        (λ g. set_own numbers count (slice_index_or numbers count 0) v (byte_there numbers count inside) ∙ ap (λ w. Some w) (its n x g e)) d

-- ---- one page of a table ----

pub changes_there : (Becomes : WindowPage → WindowPage → PartCounts → PartCounts → Type 0) (lead place : ℕ) (pages : List WindowPage) (parts : List PartCounts) (d x : WindowPage) (e y : PartCounts) →
    place < length pages → part_at lead place < length parts → Becomes (get_or pages place d) x (get_or parts (part_at lead place) e) y →
    PageChanges Becomes lead place pages (slice_set pages place x) parts (slice_set parts (part_at lead place) y)
changes_there Becomes lead place pages parts d x e y l m b = record {
  before = get_or pages place d;
  after = x;
  part = get_or parts (part_at lead place) e;
  part_after = y;
  is_there = slice_get-get_or pages place d l;
  is_part = slice_get-get_or parts (part_at lead place) e m;
  changed = refl;
  follows = refl;
  becomes = b;
}
