-- A machine stays sound as pages are lent and released.
use Rattle.std.proofs.Common.{◌≡◌, ℕ, zero, suc, ◌+◌, ◌-◌, ◌<◌, ◌≤◌, Bool, true, false, cond, List, [], ◌∷◌, length, Option, Some, None, is_some, refl, ap, sym, subst, ◌∙◌, ◌⊎◌, inl, inr, arith}
use Rattle.std.specs.Prelude.{slice_get, slice_set, slice_index, slice_index_or, count_by, ◌==◌}
use Rattle.std.proofs.lemmas.Bool.{cases_eq, ne_eqb, eq-eqb}
use Rattle.std.proofs.lemmas.List.{length-set, get_or-set_same, get_or-set_other}
use Rattle.std.proofs.lemmas.List.Sums.{sum_by-set, count_by-le-length}
use Rattle.page_model.specs.declared.limits.TheConstants.{MAX_PAGES}
use Rattle.machine_frames.specs.FrameMap.{FrameMap, used}
use Rattle.merge_core.specs.Shown.{Shown}
use Rattle.merge_core.proofs.FrameLemmas.{used_set}
use Rattle.lent_slots.specs.declared.holding.Holding.{Holding}
use Rattle.lent_slots.specs.Fits.{Fits, ListsFree, Counts, Sound, times_free}
use Rattle.lent_slots.specs.Slots.{holding, sharers, has_frame, lent_slots, left_free, with_free, IsFull}
use Rattle.lent_slots.proofs.Tags.{bit, times, times_cons}
use Rattle.lent_slots.proofs.SlotLists.{held_within, got_within, got_holding, set_same, set_other, sharers_set}

-- slots after a change of one
get_same : (slots : List (Option Holding)) (n : ℕ) (x : Option Holding) → n < length slots → slice_get (slice_set slots n x) n ≡ Some x
get_same [] n x h = absurd (omega arith)
get_same (y ∷ slots) zero x h = refl
get_same (y ∷ slots) (suc n) x h = get_same slots n x (omega arith)

get_other : (slots : List (Option Holding)) (n k : ℕ) (x : Option Holding) → (k ≡ n → ⊥) → slice_get (slice_set slots n x) k ≡ slice_get slots k
get_other [] n k x ne = refl
get_other (y ∷ slots) zero zero x ne = absurd (ne refl)
get_other (y ∷ slots) zero (suc k) x ne = refl
get_other (y ∷ slots) (suc n) zero x ne = refl
get_other (y ∷ slots) (suc n) (suc k) x ne = get_other slots n k x (λ e. ne (ap suc e))

got_held : (slots : List (Option Holding)) (n : ℕ) (h : Holding) → holding slots n ≡ Some h → slice_get slots n ≡ Some (Some h)
got_held [] n h e = cc
got_held (y ∷ slots) zero h e = ap (λ (o : Option Holding). Some o) e
got_held (y ∷ slots) (suc n) h e = got_held slots n h e

once_free : (x : Option (Option Holding)) (n : ℕ) → times_free x ≡ n + 1 → (x ≡ Some None) × (n ≡ 0)
once_free None n e = absurd (omega arith)
once_free (Some None) n e = (refl, omega arith)
once_free (Some (Some h)) n e = absurd (omega arith)

-- the first slot of the list of free slots is free, and stands there once
module _ (slots : List (Option Holding)) (free rest : List ℕ) (ppn : ℕ) (lists : ListsFree slots free) (is : free ≡ ppn ∷ rest) where
  first_is : (slice_get slots ppn ≡ Some None) × (times ppn rest ≡ 0)
  first_is =
      once_free (slice_get slots ppn) (times ppn rest)
      (sym (lists.once ppn) ∙ ap (times ppn) is ∙ omega (arith, times_cons ppn ppn rest, ap bit (eq-eqb ppn ppn refl)))

  pub first_free : slice_get slots ppn ≡ Some None
  first_free = first_is.0

  pub first_once : times ppn rest ≡ 0
  first_once = first_is.1

  pub first_within : ppn < length slots
  first_within = got_within slots ppn None first_free

  -- and the rest lists the others
  pub lists_rest : (h : Holding) → ListsFree (slice_set slots ppn (Some h)) rest
  lists_rest h = record { once = λ q. once q (cases_eq q ppn); count = count } where
    once : (q : ℕ) → ((q ≡ ppn) ⊎ (q ≡ ppn → ⊥)) → times q rest ≡ times_free (slice_get (slice_set slots ppn (Some h)) q)
    once q (inl e) = ap (λ (i : ℕ). times i rest) e ∙ first_once ∙ sym (ap times_free (ap (slice_get (slice_set slots ppn (Some h))) e ∙ get_same slots ppn (Some h) first_within))
    once q (inr n) =
        let same : times q free ≡ times q rest = ap (times q) is ∙ times_cons q ppn rest ∙ omega (arith, ap bit (ne_eqb ppn q (λ e. n (sym e)))) in
        sym same ∙ lists.once q ∙ sym (ap times_free (get_other slots ppn q (Some h) n))

    count : length rest + count_by is_some (slice_set slots ppn (Some h)) ≡ length (slice_set slots ppn (Some h))
    count =
        let held : count_by is_some (slice_set slots ppn (Some h)) + bit (is_some (holding slots ppn)) ≡ count_by is_some slots + 1 = sum_by-set (λ (o : Option Holding). bit (is_some o)) slots ppn (Some h) None first_within in
        let none : bit (is_some (holding slots ppn)) ≡ 0 = ap (λ (o : Option Holding). bit (is_some o)) (got_holding slots ppn None first_free) in
        let size : length free ≡ length rest + 1 = ap length is ∙ omega arith in
        omega (arith, held, none, size, lists.count, length-set slots ppn (Some h))

-- where the list is empty, no slot is free
pub full_slots : (slots : List (Option Holding)) (free : List ℕ) → ListsFree slots free → length free ≡ 0 → IsFull slots
full_slots slots [] lists e ppn is = absurd (let one : 0 ≡ times_free (Some None) = lists.once ppn ∙ ap times_free is in omega arith)
full_slots slots (x ∷ free) lists e ppn is = absurd (omega arith)

-- a slot that is released is listed
module _ (slots : List (Option Holding)) (free : List ℕ) (ppn : ℕ) (h : Holding) (lists : ListsFree slots free) (held : holding slots ppn ≡ Some h) where
  is_within : ppn < length slots
  is_within = held_within slots ppn h held

  pub not_listed : times ppn free ≡ 0
  not_listed = lists.once ppn ∙ ap times_free (got_held slots ppn h held)

  pub lists_more : ListsFree (slice_set slots ppn None) (ppn ∷ free)
  lists_more = record { once = λ q. once q (cases_eq q ppn); count = count } where
    once : (q : ℕ) → ((q ≡ ppn) ⊎ (q ≡ ppn → ⊥)) → times q (ppn ∷ free) ≡ times_free (slice_get (slice_set slots ppn None) q)
    once q (inl e) =
        omega (arith, times_cons q ppn free, ap bit (eq-eqb ppn q (sym e)), ap (λ (i : ℕ). times i free) e, not_listed)
        ∙ sym (ap times_free (ap (slice_get (slice_set slots ppn None)) e ∙ get_same slots ppn None is_within))
    once q (inr n) =
        times_cons q ppn free ∙ omega (arith, ap bit (ne_eqb ppn q (λ e. n (sym e)))) ∙ lists.once q ∙ sym (ap times_free (get_other slots ppn q None n))

    count : length (ppn ∷ free) + count_by is_some (slice_set slots ppn None) ≡ length (slice_set slots ppn None)
    count =
        let fewer : count_by is_some (slice_set slots ppn None) + bit (is_some (holding slots ppn)) ≡ count_by is_some slots + 0 = sum_by-set (λ (o : Option Holding). bit (is_some o)) slots ppn None None is_within in
        let one : bit (is_some (holding slots ppn)) ≡ 1 = ap (λ (o : Option Holding). bit (is_some o)) held in
        omega (arith, fewer, one, lists.count, length-set slots ppn None)

-- counts after a page was lent
module _ (slots : List (Option Holding)) (total : ℕ) (counts : List ℕ) (client ppn mpn : ℕ) (right : Counts slots total counts)
    (within : mpn < total) (there : ppn < length slots) (free : holding slots ppn ≡ None) where
  abbrev lent : List (Option Holding)
  lent = lent_slots client ppn mpn slots

  more : (m : ℕ) → sharers m lent + 0 ≡ sharers m slots + bit (mpn == m)
  more m = ap (λ (o : Option Holding). sharers m lent + bit (has_frame m o)) (sym free) ∙ sharers_set m ppn (Some (record { client = client; frame = mpn })) slots there

  pub now_sharers : slice_index counts mpn + 1 ≡ sharers mpn lent
  now_sharers = omega (arith, more mpn, ap bit (eq-eqb mpn mpn refl), right.each mpn within)

  pub counts_more : Counts lent total (slice_set counts mpn (slice_index counts mpn + 1))
  counts_more = record { size = length-set counts mpn (slice_index counts mpn + 1) ∙ right.size; each = λ m less. each m less (cases_eq m mpn) } where
    each : (m : ℕ) → m < total → ((m ≡ mpn) ⊎ (m ≡ mpn → ⊥)) → slice_index_or (slice_set counts mpn (slice_index counts mpn + 1)) m 0 ≡ sharers m lent
    each m less (inl e) =
        ap (λ (i : ℕ). slice_index_or (slice_set counts mpn (slice_index counts mpn + 1)) i 0) e ∙ get_or-set_same counts mpn (slice_index counts mpn + 1) 0 (omega (arith, within, right.size))
        ∙ now_sharers ∙ ap (λ (i : ℕ). sharers i lent) (sym e)
    each m less (inr n) =
        get_or-set_other counts mpn m (slice_index counts mpn + 1) 0 n ∙ right.each m less ∙ omega (arith, more m, ap bit (ne_eqb mpn m (λ e. n (sym e))))

pub count_fits : (slots : List (Option Holding)) (total : ℕ) (counts : List ℕ) (mpn : ℕ) → Counts slots total counts → mpn < total → length slots ≤ MAX_PAGES → slice_index counts mpn ≤ MAX_PAGES
count_fits slots total counts mpn right within few = omega (arith, right.each mpn within, count_by-le-length (has_frame mpn) slots, few)

-- counts after a slot was released
module _ (slots : List (Option Holding)) (total : ℕ) (counts : List ℕ) (ppn : ℕ) (h : Holding) (right : Counts slots total counts)
    (within : h.frame < total) (held : holding slots ppn ≡ Some h) where
  abbrev left : List (Option Holding)
  left = slice_set slots ppn None

  fewer : (m : ℕ) → sharers m left + bit (h.frame == m) ≡ sharers m slots + 0
  fewer m = ap (λ (o : Option Holding). sharers m left + bit (has_frame m o)) (sym held) ∙ sharers_set m ppn None slots (held_within slots ppn h held)

  pub left_sharers : sharers h.frame left + 1 ≡ slice_index counts h.frame
  left_sharers = omega (arith, fewer h.frame, ap bit (eq-eqb h.frame h.frame refl), right.each h.frame within)

  pub counts_fewer : Counts left total (slice_set counts h.frame (slice_index counts h.frame - 1))
  counts_fewer = record { size = length-set counts h.frame (slice_index counts h.frame - 1) ∙ right.size; each = λ m less. each m less (cases_eq m h.frame) } where
    each : (m : ℕ) → m < total → ((m ≡ h.frame) ⊎ (m ≡ h.frame → ⊥)) → slice_index_or (slice_set counts h.frame (slice_index counts h.frame - 1)) m 0 ≡ sharers m left
    each m less (inl e) =
        ap (λ (i : ℕ). slice_index_or (slice_set counts h.frame (slice_index counts h.frame - 1)) i 0) e ∙ get_or-set_same counts h.frame (slice_index counts h.frame - 1) 0 (omega (arith, within, right.size))
        ∙ omega (arith, left_sharers) ∙ ap (λ (i : ℕ). sharers i left) (sym e)
    each m less (inr n) =
        get_or-set_other counts h.frame m (slice_index counts h.frame - 1) 0 n ∙ right.each m less ∙ omega (arith, fewer m, ap bit (ne_eqb h.frame m (λ e. n (sym e))))

-- frames of slots are frames of the machine
lent_within : (slots : List (Option Holding)) (total client ppn mpn : ℕ) → ((n : ℕ) (h : Holding) → holding slots n ≡ Some h → h.frame < total) → mpn < total → ppn < length slots
    → (n : ℕ) (h : Holding) → ((n ≡ ppn) ⊎ (n ≡ ppn → ⊥)) → holding (lent_slots client ppn mpn slots) n ≡ Some h → h.frame < total
lent_within slots total client ppn mpn all within there n h (inl e) is =
    let o : Option Holding = Some (record { client = client; frame = mpn }) in
    let same : o ≡ Some h = sym (ap (holding (slice_set slots ppn o)) e ∙ set_same slots ppn o there) ∙ is in
    subst (λ (k : ℕ). k < total) (frame_same o (record { client = client; frame = mpn }) h refl same) within where
      frame_same : (o : Option Holding) (x y : Holding) → o ≡ Some x → o ≡ Some y → x.frame ≡ y.frame
      frame_same o x y e f = ap (λ (p : Option Holding). frame_or p) (sym e ∙ f) where
        frame_or : Option Holding → ℕ
        frame_or None = 0
        frame_or (Some z) = z.frame
lent_within slots total client ppn mpn all within there n h (inr ne) is = all n h (sym (set_other slots ppn n (Some (record { client = client; frame = mpn })) ne) ∙ is)

given_within : (slots : List (Option Holding)) (total ppn : ℕ) → ((n : ℕ) (h : Holding) → holding slots n ≡ Some h → h.frame < total) → ppn < length slots
    → (n : ℕ) (h : Holding) → ((n ≡ ppn) ⊎ (n ≡ ppn → ⊥)) → holding (slice_set slots ppn None) n ≡ Some h → h.frame < total
given_within slots total ppn all there n h (inl e) is = absurd (none_some (sym (ap (holding (slice_set slots ppn None)) e ∙ set_same slots ppn None there) ∙ is)) where
  none_some : None ≡ Some h → ⊥
  none_some f = cc
given_within slots total ppn all there n h (inr ne) is = all n h (sym (set_other slots ppn n None ne) ∙ is)

pub lent_sound : (core after : Shown) (slots : List (Option Holding)) (free rest counts : List ℕ) (client ppn mpn : ℕ) (page : List ℕ) → Sound core slots free counts
    → free ≡ ppn ∷ rest → Fits (lent_slots client ppn mpn slots) after → after.frames ≡ slice_set core.frames mpn (Some page) → mpn < length core.frames
    → used after.frames < length after.frames → Sound after (lent_slots client ppn mpn slots) rest (slice_set counts mpn (slice_index counts mpn + 1))
lent_sound core after slots free rest counts client ppn mpn page sound is fits frames within spare =
    let total : length core.frames ≡ length after.frames = sym (ap length frames ∙ length-set core.frames mpn (Some page)) in
    let was_free : slice_get slots ppn ≡ Some None = first_free slots free rest ppn sound.listed is in
    let there : ppn < length slots = got_within slots ppn None was_free in
    let right : Counts (lent_slots client ppn mpn slots) (length core.frames) (slice_set counts mpn (slice_index counts mpn + 1)) = counts_more slots (length core.frames) counts client ppn mpn sound.counted within there (got_holding slots ppn None was_free) in
    record {
      fits = fits;
      listed = lists_rest slots free rest ppn sound.listed is (record { client = client; frame = mpn });
      counted = subst (λ (n : ℕ). Counts (lent_slots client ppn mpn slots) n (slice_set counts mpn (slice_index counts mpn + 1))) total right;
      within = λ n h at. omega (arith, lent_within slots (length core.frames) client ppn mpn sound.within within there n h (cases_eq n ppn) at, total);
      spare = spare;
      few = (omega (arith, sound.few.0, length-set slots ppn (Some (record { client = client; frame = mpn }))), omega (arith, sound.few.1, total));
    }

with_free_size : (frames : FrameMap) (o : Option ℕ) → length (with_free frames o) ≡ length frames
with_free_size frames None = refl
with_free_size frames (Some m) = length-set frames m None

with_free_used : (frames : FrameMap) (m : ℕ) (b : Bool) → m < length frames → used (with_free frames (cond b (Some m) None)) ≤ used frames
with_free_used frames m true h = omega (arith, used_set frames m None h)
with_free_used frames m false h = omega arith

pub given_sound : (core after : Shown) (slots : List (Option Holding)) (free counts : List ℕ) (ppn : ℕ) (h : Holding) → Sound core slots free counts
    → holding slots ppn ≡ Some h → Fits (slice_set slots ppn None) after → after.frames ≡ with_free core.frames (left_free (slice_set slots ppn None) h.frame)
    → Sound after (slice_set slots ppn None) (ppn ∷ free) (slice_set counts h.frame (slice_index counts h.frame - 1))
given_sound core after slots free counts ppn h sound held fits frames =
    let within : h.frame < length core.frames = sound.within ppn h held in
    let total : length core.frames ≡ length after.frames = sym (ap length frames ∙ with_free_size core.frames (left_free (slice_set slots ppn None) h.frame)) in
    let less : used after.frames ≤ used core.frames = subst (λ (f : FrameMap). used f ≤ used core.frames) (sym frames) (with_free_used core.frames h.frame (sharers h.frame (slice_set slots ppn None) == 0) within) in
    record {
      fits = fits;
      listed = lists_more slots free ppn h sound.listed held;
      counted = subst (λ (n : ℕ). Counts (slice_set slots ppn None) n (slice_set counts h.frame (slice_index counts h.frame - 1))) total (counts_fewer slots (length core.frames) counts ppn h sound.counted within held);
      within = λ n x at. omega (arith, given_within slots (length core.frames) ppn sound.within (held_within slots ppn h held) n x (cases_eq n ppn) at, total);
      spare = omega (arith, less, sound.spare, total);
      few = (omega (arith, sound.few.0, length-set slots ppn None), omega (arith, sound.few.1, total));
    }
