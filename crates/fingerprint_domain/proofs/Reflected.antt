-- What lending, releasing and leaving do to the fingerprints of all frames.
use Rattle.std.proofs.Common.{◌≡◌, ◌≢◌, ℕ, ◌+◌, ◌-◌, ◌*◌, ◌<◌, ◌≤◌, Bool, true, false, cond, List, [], ◌∷◌, ◌++◌, length, get_or, map, take, drop, Option, Some, None, Result, Ok, Err, sym, refl, ap, ◌∙◌, arith, subst, ◌⊎◌, inl, inr}
use Prim.Native.Nat.{suc, zero}
use Rattle.std.specs.Prelude.{slice_set, slice_index_or, slice_get, is_some, replicate, ◌==◌}
use Rattle.std.specs.Option.{option_map, option_and_then}
use Rattle.std.proofs.lemmas.Bool.{false≢true, cases_eq, cases_lt}
use Rattle.std.proofs.lemmas.List.{get_or-set_same, get_or-set_other, get_or_past, length-set, length-map, length-append, length-replicate, replicate-append-replicate, drop_more, drop_all, set-get_or, set_past, map-set, get_or-map, get_or_append_left, get_or-append-add, set-append_left, set-append_right}
use Rattle.std.proofs.Math.Nat.{suc-mul, mul-le-mul_right}
use Rattle.std.proofs.Math.Seq.{take-append_seam}
use Rattle.page_digest.specs.Hashes.{fold_hash}
use Rattle.machine_frames.specs.FrameMap.{FrameMap, frame}
use Rattle.lent_slots.specs.declared.holding.Holding.{Holding}
use Rattle.lent_slots.specs.Slots.{MachineView, holding, is_of, sharers, lent_slots, left_free, with_free, without, released_by, released, freed}
use Rattle.share_domain.specs.declared.number.TheConstants.{NO_FRAME}
use Rattle.share_domain.specs.declared.holding.Slot.{Slot}
use Rattle.share_domain.specs.declared.holding.Loan.{Loan}
use Rattle.share_domain.specs.declared.fault.NoSuchSlot.{NoSuchSlot}
use Rattle.share_domain.specs.Domains.{DomainView, with_machines, no_machine, machine_at, held_in, region_frame, LendsIn, with_released, freed_in, release_answer, after_release}
use Rattle.share_domain.specs.Leaving.{first_slot, Left, at_first, left_by, Leaves}
use Rattle.share_domain.specs.Numbers.{frame_number}
use Rattle.share_domain.specs.declared.config.DomainConfig.{DomainConfig}
use Rattle.share_domain.specs.Made.{AreLimits, empty_domain}
use Rattle.lent_slots.specs.Totals.{empty_machine}
use Rattle.frame_fingerprints.specs.Held.{Fingerprints, none_held, with_held}
use Rattle.fingerprint_domain.specs.Known.{fingerprints_of, fingerprints_in}
use Rattle.fingerprint_domain.specs.Fits.{HasFrames, EachHas, Reflects, after_freed}

abbrev pub fingerprint_of : ℕ → Option (List ℕ) → Option ℕ
fingerprint_of salt held = option_map (λ bytes. fold_hash salt bytes) held

-- ---- one machine among all

pub machine_has : (frames : ℕ) (ms : List MachineView) (m : ℕ) → EachHas frames ms → m < length ms → HasFrames frames (machine_at ms m)
machine_has frames [] m h lt = absurd (omega arith)
machine_has frames (x ∷ ms) zero h lt = h.0
machine_has frames (x ∷ ms) (suc m) h lt = machine_has frames ms m h.1 (omega arith)

pub each_set : (frames : ℕ) (ms : List MachineView) (m : ℕ) (v : MachineView) → EachHas frames ms → HasFrames frames v → EachHas frames (slice_set ms m v)
each_set frames [] m v h has = h
each_set frames (x ∷ ms) zero v h has = (has, h.1)
each_set frames (x ∷ ms) (suc m) v h has = (h.0, each_set frames ms m v h.1 has)

pub length_of : (salt : ℕ) (frames : FrameMap) → length (fingerprints_of salt frames) ≡ length frames
length_of salt frames = length-map frames (fingerprint_of salt)

-- the number of a frame of a later machine
later_number : (frames m i : ℕ) → region_frame frames (suc m) i ≡ frames + region_frame frames m i
later_number frames m i = let e = suc-mul m frames in omega (arith, e)

first_number : (frames i : ℕ) → region_frame frames 0 i ≡ i
first_number frames i = let e : 0 * frames ≡ 0 = omega arith in omega (arith, e)

-- a machine's frame has other bytes, or none
pub frame_set : (salt frames : ℕ) (ms : List MachineView) (m i : ℕ) (held : Option (List ℕ)) (slots : List (Option Holding)) → EachHas frames ms → m < length ms → i < frames
    → fingerprints_in salt (slice_set ms m (record { slots = slots; frames = slice_set (machine_at ms m).frames i held })) ≡ slice_set (fingerprints_in salt ms) (region_frame frames m i) (fingerprint_of salt held)
frame_set salt frames [] m i held slots h lt ilt = absurd (omega arith)
frame_set salt frames (x ∷ ms) zero i held slots h lt ilt =
    let count = h.0.count in
    let len = length_of salt x.frames in
    ap (λ (l : List (Option ℕ)). l ++ fingerprints_in salt ms) (map-set (fingerprint_of salt) x.frames i held)
    ∙ sym (set-append_left (fingerprints_of salt x.frames) (fingerprints_in salt ms) i (fingerprint_of salt held) (omega (arith, count, len, ilt)))
    ∙ ap (λ (k : ℕ). slice_set (fingerprints_in salt (x ∷ ms)) k (fingerprint_of salt held)) (sym (first_number frames i))
frame_set salt frames (x ∷ ms) (suc m) i held slots h lt ilt =
    let count = h.0.count in
    let len : length (fingerprints_of salt x.frames) ≡ frames = length_of salt x.frames ∙ count in
    let number = later_number frames m i in
    let back : region_frame frames (suc m) i - frames ≡ region_frame frames m i = omega (arith, number) in
    ap (λ (l : List (Option ℕ)). fingerprints_of salt x.frames ++ l) (frame_set salt frames ms m i held slots h.1 (omega arith) ilt)
    ∙ ap (λ (k : ℕ). fingerprints_of salt x.frames ++ slice_set (fingerprints_in salt ms) k (fingerprint_of salt held)) (sym back)
    ∙ sym (set-append_right (fingerprints_of salt x.frames) (fingerprints_in salt ms) frames (region_frame frames (suc m) i) (fingerprint_of salt held) len (omega (arith, number)))

-- a machine's slots are others, and its frames the same
pub slots_set : (salt : ℕ) (ms : List MachineView) (m : ℕ) (slots : List (Option Holding)) → fingerprints_in salt (slice_set ms m (record { slots = slots; frames = (machine_at ms m).frames })) ≡ fingerprints_in salt ms
slots_set salt [] m slots = refl
slots_set salt (x ∷ ms) zero slots = refl
slots_set salt (x ∷ ms) (suc m) slots = ap (λ (l : List (Option ℕ)). fingerprints_of salt x.frames ++ l) (slots_set salt ms m slots)

-- the fingerprint of a machine's frame
pub frame_at : (salt frames : ℕ) (ms : List MachineView) (m i : ℕ) → EachHas frames ms → m < length ms → i < frames
    → slice_index_or (fingerprints_in salt ms) (region_frame frames m i) None ≡ fingerprint_of salt (frame (machine_at ms m).frames i)
frame_at salt frames [] m i h lt ilt = absurd (omega arith)
frame_at salt frames (x ∷ ms) zero i h lt ilt =
    let count = h.0.count in
    let len = length_of salt x.frames in
    ap (λ (k : ℕ). slice_index_or (fingerprints_in salt (x ∷ ms)) k None) (first_number frames i)
    ∙ get_or_append_left (fingerprints_of salt x.frames) (fingerprints_in salt ms) None i (omega (arith, count, len, ilt))
    ∙ get_or-map (fingerprint_of salt) x.frames i None None (omega (arith, count, ilt))
frame_at salt frames (x ∷ ms) (suc m) i h lt ilt =
    let count = h.0.count in
    let len : length (fingerprints_of salt x.frames) ≡ frames = length_of salt x.frames ∙ count in
    ap (λ (k : ℕ). slice_index_or (fingerprints_in salt (x ∷ ms)) k None) (later_number frames m i ∙ ap (λ (k : ℕ). k + region_frame frames m i) (sym len))
    ∙ get_or-append-add (fingerprints_of salt x.frames) (fingerprints_in salt ms) (region_frame frames m i) None
    ∙ frame_at salt frames ms m i h.1 (omega arith) ilt

-- ---- a loan

machine_there : (ms : List MachineView) (m ppn : ℕ) → slice_get (machine_at ms m).slots ppn ≡ Some None → m < length ms
machine_there [] m ppn e = absurd cc
machine_there (x ∷ ms) zero ppn e = omega arith
machine_there (x ∷ ms) (suc m) ppn e = omega (arith, machine_there ms m ppn e)

lent_within : (frames client mpn ppn : ℕ) (slots : List (Option Holding)) → mpn < frames → ((k : ℕ) (h : Holding) → holding slots k ≡ Some h → h.frame < frames)
    → (k : ℕ) (h : Holding) → holding (lent_slots client ppn mpn slots) k ≡ Some h → h.frame < frames
lent_within frames client mpn ppn slots lt within k h e =
    elim (cases_eq k ppn) [
      | inl same ↦
          elim (cases_lt ppn (length slots)) [
            | inl ppnlt ↦ is_frame (sym (get_or-set_same slots ppn (Some (record { client = client; frame = mpn })) None ppnlt) ∙ ap (λ (j : ℕ). holding (lent_slots client ppn mpn slots) j) (sym same) ∙ e)
            | inr le ↦ within k h (sym (ap (λ (l : List (Option Holding)). holding l k) (set_past slots ppn (Some (record { client = client; frame = mpn })) le)) ∙ e)
          ]
      | inr other ↦ within k h (sym (get_or-set_other slots ppn k (Some (record { client = client; frame = mpn })) None other) ∙ e)
    ] where
      is_frame : Some (record { client = client; frame = mpn }) ≡ Some h → h.frame < frames
      is_frame q = let f : h.frame ≡ mpn = ap (λ (o : Option Holding). frame_or o) (sym q) in omega (arith, f, lt) where
        frame_or : Option Holding → ℕ
        frame_or None = 0
        frame_or (Some x) = x.frame

module _ (salt m client : ℕ) (page : List ℕ) (loan : Loan) (old new : DomainView) (l : LendsIn m client page loan old new) (f f' : Fingerprints) (r : Reflects salt old f) where
  there : m < length old.machines
  there = machine_there old.machines m loan.slot.ppn l.lends.was_free

  here : HasFrames old.frames (machine_at old.machines m)
  here = machine_has old.frames old.machines m r.each there

  below : l.mpn < old.frames
  below = let w = l.lends.within in let c = here.count in omega (arith, w, c)

  abbrev lent : MachineView
  lent = record { slots = lent_slots client loan.slot.ppn l.mpn (machine_at old.machines m).slots; frames = slice_set (machine_at old.machines m).frames l.mpn (Some page) }

  machines_are : new.machines ≡ slice_set old.machines m lent
  machines_are = ap (λ (d : DomainView). d.machines) l.rest ∙ ap (λ (v : MachineView). slice_set old.machines m v) l.lends.now

  lent_has : HasFrames old.frames lent
  lent_has = record {
    count = length-set (machine_at old.machines m).frames l.mpn (Some page) ∙ here.count;
    within = lent_within old.frames client l.mpn loan.slot.ppn (machine_at old.machines m).slots below here.within;
  }

  pub lend_reflects : f'.held ≡ slice_set f.held loan.frame (Some (fold_hash salt page)) → Reflects salt new f'
  lend_reflects e = record {
    held = e ∙ ap (λ (x : List (Option ℕ)). slice_set x loan.frame (Some (fold_hash salt page))) r.held
        ∙ ap (λ (k : ℕ). slice_set (fingerprints_in salt old.machines) k (Some (fold_hash salt page))) l.number
        ∙ sym (frame_set salt old.frames old.machines m l.mpn (Some page) (lent_slots client loan.slot.ppn l.mpn (machine_at old.machines m).slots) r.each there below)
        ∙ ap (fingerprints_in salt) (sym machines_are);
    each = subst (λ (n : ℕ). EachHas n new.machines) (sym (ap (λ (d : DomainView). d.frames) l.rest))
        (subst (EachHas old.frames) (sym machines_are) (each_set old.frames old.machines m lent r.each lent_has));
    few = let few = r.few in let len : length f'.held ≡ length f.held = ap (λ (x : List (Option ℕ)). length x) e ∙ length-set f.held loan.frame (Some (fold_hash salt page)) in omega (arith, few, len);
  }

  kept_is : (held : Option (List ℕ)) → (held ≡ None) ⊎ (held ≡ Some page) → is_some (fingerprint_of salt held) ≡ true → fingerprint_of salt held ≡ Some (fold_hash salt page)
  kept_is held (inl e) s = absurd (false≢true (sym (ap (λ (o : Option (List ℕ)). is_some (fingerprint_of salt o)) e) ∙ s))
  kept_is held (inr e) s = ap (fingerprint_of salt) e

  -- a frame that has its fingerprint already has the page's bytes
  pub kept_already : is_some (slice_index_or f.held loan.frame None) ≡ true → slice_set f.held loan.frame (Some (fold_hash salt page)) ≡ f.held
  kept_already s =
      let at : slice_index_or f.held loan.frame None ≡ fingerprint_of salt (frame (machine_at old.machines m).frames l.mpn) =
      ap (λ (x : List (Option ℕ)). slice_index_or x loan.frame None) r.held ∙ ap (λ (k : ℕ). slice_index_or (fingerprints_in salt old.machines) k None) l.number
      ∙ frame_at salt old.frames old.machines m l.mpn r.each there below in
      let is = kept_is (frame (machine_at old.machines m).frames l.mpn) l.lends.held (sym (ap (λ (o : Option ℕ). is_some o) at) ∙ s) in
      ap (slice_set f.held loan.frame) (sym (at ∙ is)) ∙ set-get_or f.held loan.frame None

-- ---- a release

held_there : (ms : List MachineView) (m ppn : ℕ) (h : Holding) → holding (machine_at ms m).slots ppn ≡ Some h → m < length ms
held_there [] m ppn h e = absurd cc
held_there (x ∷ ms) zero ppn h e = omega arith
held_there (x ∷ ms) (suc m) ppn h e = omega (arith, held_there ms m ppn h e)

without_within : (frames ppn : ℕ) (slots : List (Option Holding)) → ((k : ℕ) (h : Holding) → holding slots k ≡ Some h → h.frame < frames)
    → (k : ℕ) (h : Holding) → holding (slice_set slots ppn None) k ≡ Some h → h.frame < frames
without_within frames ppn slots within k h e =
    elim (cases_eq k ppn) [
      | inl same ↦
          elim (cases_lt ppn (length slots)) [
            | inl lt ↦ absurd (nothing h (sym (get_or-set_same slots ppn None None lt) ∙ ap (λ (j : ℕ). holding (slice_set slots ppn None) j) (sym same) ∙ e))
            | inr le ↦ within k h (sym (ap (λ (l : List (Option Holding)). holding l k) (set_past slots ppn None le)) ∙ e)
          ]
      | inr other ↦ within k h (sym (get_or-set_other slots ppn k None None other) ∙ e)
    ] where
      nothing : (h : Holding) → None ≡ Some h → ⊥
      nothing h q = cc

free_length : (frames : FrameMap) (freed : Option ℕ) → length (with_free frames freed) ≡ length frames
free_length frames None = refl
free_length frames (Some mpn) = length-set frames mpn None

released_has : (frames ppn : ℕ) (v : MachineView) (held : Option Holding) → HasFrames frames v → HasFrames frames (released_by v ppn held)
released_has frames ppn v None h = h
released_has frames ppn v (Some x) h = record {
  count = free_length v.frames (left_free (slice_set v.slots ppn None) x.frame) ∙ h.count;
  within = without_within frames ppn v.slots h.within;
}

module _ (salt frames : ℕ) (ms : List MachineView) (m ppn : ℕ) (each : EachHas frames ms) (few : length (fingerprints_in salt ms) ≤ NO_FRAME) where
  freed_by_count : (h : Holding) → holding (machine_at ms m).slots ppn ≡ Some h → (b : Bool)
      → fingerprints_in salt (slice_set ms m (record { slots = slice_set (machine_at ms m).slots ppn None; frames = with_free (machine_at ms m).frames (cond b (Some h.frame) None) }))
      ≡ slice_set (fingerprints_in salt ms) (frame_number (option_map (λ mpn. region_frame frames m mpn) (cond b (Some h.frame) None))) None
  freed_by_count h e true =
      let lt = held_there ms m ppn h e in
      frame_set salt frames ms m h.frame None (slice_set (machine_at ms m).slots ppn None) each lt ((machine_has frames ms m each lt).within ppn h e)
  freed_by_count h e false = slots_set salt ms m (slice_set (machine_at ms m).slots ppn None) ∙ sym (set_past (fingerprints_in salt ms) NO_FRAME None few)

  freed_by_held : (held : Option Holding) → holding (machine_at ms m).slots ppn ≡ held
      → fingerprints_in salt (slice_set ms m (released_by (machine_at ms m) ppn held))
      ≡ slice_set (fingerprints_in salt ms) (frame_number (option_map (λ mpn. region_frame frames m mpn) (option_and_then (λ h. left_free (slice_set (machine_at ms m).slots ppn None) h.frame) held))) None
  freed_by_held None e = ap (fingerprints_in salt) (set-get_or ms m no_machine) ∙ sym (set_past (fingerprints_in salt ms) NO_FRAME None few)
  freed_by_held (Some h) e = freed_by_count h e (sharers h.frame (slice_set (machine_at ms m).slots ppn None) == 0)

pub freed_set : (salt frames : ℕ) (ms : List MachineView) (slot : Slot) → EachHas frames ms → length (fingerprints_in salt ms) ≤ NO_FRAME
    → fingerprints_in salt (with_released slot ms) ≡ slice_set (fingerprints_in salt ms) (frame_number (freed_in frames slot ms)) None
freed_set salt frames ms slot each few = freed_by_held salt frames ms slot.machine slot.ppn each few (holding (machine_at ms slot.machine).slots slot.ppn) refl

pub freed_each : (frames : ℕ) (ms : List MachineView) (slot : Slot) → EachHas frames ms → EachHas frames (with_released slot ms)
freed_each frames ms slot each =
    elim (cases_lt slot.machine (length ms)) [
      | inl lt ↦ each_set frames ms slot.machine (released slot.ppn (machine_at ms slot.machine)) each (released_has frames slot.ppn (machine_at ms slot.machine) (holding (machine_at ms slot.machine).slots slot.ppn) (machine_has frames ms slot.machine each lt))
      | inr le ↦ subst (EachHas frames) (sym (set_past ms slot.machine (released slot.ppn (machine_at ms slot.machine)) le)) each
    ]

-- the number of what a release frees, or NO_FRAME where it is refused
abbrev pub number_in : Result (Option ℕ) NoSuchSlot → ℕ
number_in (Ok frame) = frame_number frame
number_in (Err fault) = NO_FRAME

release_by : (salt : ℕ) (slot : Slot) (d : DomainView) (f f' : Fingerprints) (b : Bool) → Reflects salt d f
    → f'.held ≡ slice_set f.held (number_in (cond b (Ok (freed_in d.frames slot d.machines)) (Err (record {})))) None
    → Reflects salt (cond b (with_machines d (with_released slot d.machines)) d) f'
release_by salt slot d f f' true r e =
    let few : length (fingerprints_in salt d.machines) ≤ NO_FRAME = let n = r.few in let len : length f.held ≡ length (fingerprints_in salt d.machines) = ap (λ (x : List (Option ℕ)). length x) r.held in omega (arith, n, len) in
    record {
      held = e ∙ ap (λ (x : List (Option ℕ)). slice_set x (frame_number (freed_in d.frames slot d.machines)) None) r.held ∙ sym (freed_set salt d.frames d.machines slot r.each few);
      each = freed_each d.frames d.machines slot r.each;
      few = let n = r.few in let len : length f'.held ≡ length f.held = ap (λ (x : List (Option ℕ)). length x) e ∙ length-set f.held (frame_number (freed_in d.frames slot d.machines)) None in omega (arith, n, len);
    }
release_by salt slot d f f' false r e =
    let same : f'.held ≡ f.held = e ∙ set_past f.held NO_FRAME None r.few in
    record { held = same ∙ r.held; each = r.each; few = let n = r.few in let len : length f'.held ≡ length f.held = ap (λ (x : List (Option ℕ)). length x) same in omega (arith, n, len) }

pub release_reflects : (salt client : ℕ) (slot : Slot) (d : DomainView) (f f' : Fingerprints) → Reflects salt d f
    → f'.held ≡ slice_set f.held (number_in (release_answer client slot d)) None → Reflects salt (after_release client slot d) f'
release_reflects salt client slot d f f' r e = release_by salt slot d f f' (is_of client (held_in d.machines slot)) r e

-- ---- a leave

pub freed_length : (ts : List ℕ) (held : List (Option ℕ)) → length (after_freed ts held) ≡ length held
unfolding after_freed
freed_length [] held = refl
freed_length (t ∷ ts) held = freed_length ts (slice_set held t None) ∙ length-set held t None

pub record LeftSo (salt frames : ℕ) (ms : List MachineView) (left : Left) : Type 0 where
  pub held : fingerprints_in salt left.machines ≡ after_freed left.numbers (fingerprints_in salt ms)
  pub each : EachHas frames left.machines

-- what is left after one slot more
abbrev pub left_one : ℕ → ℕ → ℕ → List MachineView → Slot → Left
left_one frames client n ms slot = let rest = left_by frames client n (with_released slot ms) in record { numbers = frame_number (freed_in frames slot ms) ∷ rest.numbers; machines = rest.machines }

left_step : (salt frames client n : ℕ) (ms : List MachineView) → ((xs : List MachineView) → EachHas frames xs → length (fingerprints_in salt xs) ≤ NO_FRAME → LeftSo salt frames xs (left_by frames client n xs))
    → EachHas frames ms → length (fingerprints_in salt ms) ≤ NO_FRAME → (first : Option Slot) → LeftSo salt frames ms (at_first first ms (left_one frames client n ms))
unfolding after_freed
left_step salt frames client n ms ih each few None = record { held = refl; each = each }
left_step salt frames client n ms ih each few (Some slot) =
    let set = freed_set salt frames ms slot each few in
    let len : length (fingerprints_in salt (with_released slot ms)) ≡ length (fingerprints_in salt ms) = ap (λ (x : List (Option ℕ)). length x) set ∙ length-set (fingerprints_in salt ms) (frame_number (freed_in frames slot ms)) None in
    let rest = ih (with_released slot ms) (freed_each frames ms slot each) (omega (arith, few, len)) in
    record { held = rest.held ∙ ap (after_freed (left_by frames client n (with_released slot ms)).numbers) set; each = rest.each }

pub left_so : (salt frames client n : ℕ) (ms : List MachineView) → EachHas frames ms → length (fingerprints_in salt ms) ≤ NO_FRAME → LeftSo salt frames ms (left_by frames client n ms)
unfolding left_by after_freed
left_so salt frames client zero ms each few = record { held = refl; each = each }
left_so salt frames client (suc n) ms each few = left_step salt frames client n ms (λ xs e f. left_so salt frames client n xs e f) each few (first_slot client ms)

-- the fingerprints after the frames that a leave frees
pub leave_reflects : (salt client count : ℕ) (room after : List ℕ) (old new : DomainView) (f f' : Fingerprints) → Leaves client count room after old new → Reflects salt old f
    → f' ≡ with_held (after_freed (take count after) f.held) f → Reflects salt new f'
leave_reflects salt client count room after old new f f' l r e =
    let left : Left = left_by old.frames client (length room) old.machines in
    let fronts : take count after ≡ left.numbers = ap (λ (x : List ℕ). take count x) l.written ∙ ap (λ (k : ℕ). take k (left.numbers ++ drop count room)) l.counted ∙ take-append_seam left.numbers (drop count room) in
    let held : f'.held ≡ after_freed left.numbers f.held = ap (λ (x : Fingerprints). x.held) e ∙ ap (λ (x : List ℕ). after_freed x f.held) fronts in
    let few : length (fingerprints_in salt old.machines) ≤ NO_FRAME = let n = r.few in let len : length f.held ≡ length (fingerprints_in salt old.machines) = ap (λ (x : List (Option ℕ)). length x) r.held in omega (arith, n, len) in
    let so = left_so salt old.frames client (length room) old.machines r.each few in
    let machines : new.machines ≡ left.machines = ap (λ (d : DomainView). d.machines) l.now in
    record {
      held = held ∙ ap (after_freed left.numbers) r.held ∙ sym so.held ∙ ap (fingerprints_in salt) (sym machines);
      each = subst (λ (n : ℕ). EachHas n new.machines) (sym (ap (λ (d : DomainView). d.frames) l.now)) (subst (EachHas old.frames) (sym machines) so.each);
      few = let n = r.few in let len : length f'.held ≡ length f.held = ap (λ (x : List (Option ℕ)). length x) held ∙ freed_length left.numbers f.held in omega (arith, n, len);
    }

pub leave_within : (client count : ℕ) (room after : List ℕ) (old new : DomainView) → Leaves client count room after old new → count ≤ length after
leave_within client count room after old new l =
    let len : length after ≡ length (left_by old.frames client (length room) old.machines).numbers + length (drop count room) = ap (λ (x : List ℕ). length x) l.written ∙ length-append (left_by old.frames client (length room) old.machines).numbers (drop count room) in
    let counted = l.counted in
    omega (arith, len, counted)

-- ---- before the first call

none_of : (salt n : ℕ) → fingerprints_of salt (replicate n None) ≡ replicate n None
none_of salt zero = refl
none_of salt (suc n) = ap (λ (l : List (Option ℕ)). None ∷ l) (none_of salt n)

abbrev no_fingerprint : Option ℕ
no_fingerprint = None

more_none : (a b : ℕ) → replicate (a + b) no_fingerprint ≡ replicate a no_fingerprint ++ replicate b no_fingerprint
more_none a b = sym (replicate-append-replicate a b no_fingerprint)

none_in : (salt slots frames n : ℕ) → replicate (n * frames) None ≡ fingerprints_in salt (replicate n (empty_machine slots frames))
none_in salt slots frames zero = let e : 0 * frames ≡ 0 = omega arith in ap (λ (k : ℕ). replicate k None) e
none_in salt slots frames (suc n) =
    let e : suc n * frames ≡ frames + n * frames = (let m = suc-mul n frames in omega (arith, m)) in
    ap (λ (k : ℕ). replicate k None) e ∙ more_none frames (n * frames)
    ∙ ap (λ (l : List (Option ℕ)). l ++ replicate (n * frames) None) (sym (none_of salt frames))
    ∙ ap (λ (l : List (Option ℕ)). fingerprints_of salt (replicate frames None) ++ l) (none_in salt slots frames n)

free_slot : (n k : ℕ) → holding (replicate n None) k ≡ None
free_slot zero k = refl
free_slot (suc n) zero = refl
free_slot (suc n) (suc k) = free_slot n k

empty_has : (slots frames n : ℕ) → EachHas frames (replicate n (empty_machine slots frames))
empty_has slots frames zero = tt
empty_has slots frames (suc n) = (record { count = length-replicate frames None; within = λ ppn h e. absurd (nothing h (sym (free_slot slots ppn) ∙ e)) }, empty_has slots frames n) where
  nothing : (h : Holding) → None ≡ Some h → ⊥
  nothing h q = cc

pub empty_reflects : (salt seed : ℕ) (config : DomainConfig) (f : Fingerprints) (d : DomainView) → AreLimits config → d ≡ empty_domain config → f ≡ none_held (config.machines * config.frames) seed → Reflects salt d f
empty_reflects salt seed config f d limits e g =
    let held : f.held ≡ replicate (config.machines * config.frames) None = ap (λ (x : Fingerprints). x.held) g in
    subst (λ (x : DomainView). Reflects salt x f) (sym e) (record {
      held = held ∙ none_in salt config.slots config.frames config.machines;
      each = empty_has config.slots config.frames config.machines;
      few = let len : length f.held ≡ config.machines * config.frames = ap (λ (x : List (Option ℕ)). length x) held ∙ length-replicate (config.machines * config.frames) None in let m = total_few config limits in omega (arith, len, m);
    }) where
      total_few : (config : DomainConfig) → AreLimits config → config.machines * config.frames ≤ 67108864
      total_few config limits = let a = mul-le-mul_right config.frames limits.machines.1 in let b = limits.frames.1 in omega (arith, a, b)

pub total_within : (config : DomainConfig) → AreLimits config → config.machines * config.frames ≤ 67108864
total_within config limits = let a = mul-le-mul_right config.frames limits.machines.1 in let b = limits.frames.1 in omega (arith, a, b)

-- ---- one frame after the other

pub freed_more : (ts : List ℕ) (i t d : ℕ) (f f' total : Fingerprints) → i < length ts → t ≡ get_or ts i d → f' ≡ with_held (slice_set f.held t None) f
    → with_held (after_freed (drop i ts) f.held) f ≡ total → with_held (after_freed (drop (i + 1) ts) f'.held) f' ≡ total
unfolding after_freed
freed_more ts i t d f f' total lt is e so_far =
    ap (λ (x : Fingerprints). with_held (after_freed (drop (i + 1) ts) x.held) x) e
    ∙ ap (λ (k : ℕ). with_held (after_freed (drop (i + 1) ts) (slice_set f.held k None)) f) is
    ∙ sym (ap (λ (l : List ℕ). with_held (after_freed l f.held) f) (drop_more ts i d lt)) ∙ so_far

pub all_freed : (ts : List ℕ) (i : ℕ) (f total : Fingerprints) → length ts ≤ i → with_held (after_freed (drop i ts) f.held) f ≡ total → f ≡ total
unfolding after_freed
all_freed ts i f total le so_far = sym (ap (λ (l : List ℕ). with_held (after_freed l f.held) f) (drop_all i ts le)) ∙ so_far
