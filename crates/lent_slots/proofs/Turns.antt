-- A machine stays sound as its tags change with its core.
use Rattle.std.proofs.Common.{◌≡◌, ℕ, ◌+◌, ◌-◌, ◌<◌, ◌≤◌, List, ◌∷◌, length, replicate, Option, Some, None, ap, sym, subst, ◌∙◌, arith}
use Rattle.std.specs.Prelude.{slice_get, slice_set, slice_index, slice_index_or, count_by, is_some}
use Rattle.std.proofs.lemmas.List.{length-replicate}
use Rattle.page_model.specs.declared.limits.TheConstants.{MAX_FRAMES, MAX_PAGES}
use Rattle.machine_frames.specs.FrameMap.{FrameMap, used, no_frames}
use Rattle.merge_core.specs.Shown.{Shown}
use Rattle.lent_slots.specs.declared.holding.Holding.{Holding}
use Rattle.lent_slots.specs.Fits.{Fits, Counts, Sound}
use Rattle.lent_slots.specs.Slots.{holding, lent_slots, left_free, with_free}
use Rattle.lent_slots.specs.Tags.{slots_of, next_free, chain}
use Rattle.lent_slots.proofs.SlotLists.{held_within, got_within}
use Rattle.lent_slots.proofs.Tags.{slots_length, slots_new, chain_length, chain_first, chain_set, chain_more}
use Rattle.lent_slots.proofs.Sounds.{first_free, first_once, not_listed, lent_sound, given_sound}
use Rattle.lent_slots.proofs.Empty.{sound_new, lists_new}

-- the slots free and held
pub free_and_held : (core : Shown) (tags : List ℕ) (first free : ℕ) (counts : List ℕ) → Sound core (slots_of core.pmap tags) (chain tags first free) counts
    → free + count_by is_some (slots_of core.pmap tags) ≡ length tags
free_and_held core tags first free counts sound = omega (arith, sound.listed.count, chain_length tags first free, slots_length core.pmap tags)

-- the first free slot, where there is one
module _ (core : Shown) (tags : List ℕ) (first free : ℕ) (counts : List ℕ) (sound : Sound core (slots_of core.pmap tags) (chain tags first free) counts) (some : 1 ≤ free) where
  pub begins_free : slice_get (slots_of core.pmap tags) first ≡ Some None
  begins_free = first_free (slots_of core.pmap tags) (chain tags first free) _ first sound.listed (chain_first tags first free some)

  pub begins_there : first < length tags
  begins_there = omega (arith, got_within (slots_of core.pmap tags) first None begins_free, slots_length core.pmap tags)

  pub begins_few : first < MAX_PAGES
  begins_few = omega (arith, begins_there, slots_length core.pmap tags, sound.few.0)

-- a page was lent as the page of the first free slot, and the next one is the first now
pub turned_lent : (core after : Shown) (tags : List ℕ) (first free next left client mpn : ℕ) (counts page : List ℕ) → Sound core (slots_of core.pmap tags) (chain tags first free) counts
    → 1 ≤ free → next ≡ next_free first (slice_index_or tags first 0) → left ≡ free - 1
    → slots_of after.pmap (slice_set tags first client) ≡ lent_slots client first mpn (slots_of core.pmap tags)
    → Fits (lent_slots client first mpn (slots_of core.pmap tags)) after → after.frames ≡ slice_set core.frames mpn (Some page) → mpn < length core.frames
    → used after.frames < length after.frames
    → Sound after (slots_of after.pmap (slice_set tags first client)) (chain (slice_set tags first client) next left) (slice_set counts mpn (slice_index counts mpn + 1))
turned_lent core after tags first free next left client mpn counts page sound some is fewer slots fits frames within spare =
    let second : ℕ = next_free first (slice_index_or tags first 0) in
    let rest : List ℕ = chain tags second (free - 1) in
    let begins : chain tags first free ≡ first ∷ rest = chain_first tags first free some in
    let lent = lent_sound core after (slots_of core.pmap tags) (chain tags first free) rest counts client first mpn page sound begins fits frames within spare in
    let links : chain (slice_set tags first client) next left ≡ rest =
    ap (λ (k : ℕ). chain (slice_set tags first client) k left) is ∙ ap (λ (k : ℕ). chain (slice_set tags first client) second k) fewer
    ∙ chain_set tags second (free - 1) first client (first_once (slots_of core.pmap tags) (chain tags first free) rest first sound.listed begins) in
    let counts' : List ℕ = slice_set counts mpn (slice_index counts mpn + 1) in
    subst (λ (l : List ℕ). Sound after (slots_of after.pmap (slice_set tags first client)) l counts') (sym links)
    (subst (λ (s : List (Option Holding)). Sound after s rest counts') (sym slots) lent)

-- a slot was released, and is the first free one now
pub turned_given : (core after : Shown) (tags : List ℕ) (first free more ppn link : ℕ) (h : Holding) (counts : List ℕ) → Sound core (slots_of core.pmap tags) (chain tags first free) counts
    → holding (slots_of core.pmap tags) ppn ≡ Some h → (1 ≤ free → link ≡ first + 1) → more ≡ free + 1
    → slots_of after.pmap (slice_set tags ppn link) ≡ slice_set (slots_of core.pmap tags) ppn None
    → Fits (slice_set (slots_of core.pmap tags) ppn None) after → after.frames ≡ with_free core.frames (left_free (slice_set (slots_of core.pmap tags) ppn None) h.frame)
    → Sound after (slots_of after.pmap (slice_set tags ppn link)) (chain (slice_set tags ppn link) ppn more) (slice_set counts h.frame (slice_index counts h.frame - 1))
turned_given core after tags first free more ppn link h counts sound held links is slots fits frames =
    let given = given_sound core after (slots_of core.pmap tags) (chain tags first free) counts ppn h sound held fits frames in
    let there : ppn < length tags = omega (arith, held_within (slots_of core.pmap tags) ppn h held, slots_length core.pmap tags) in
    let begins : chain (slice_set tags ppn link) ppn more ≡ ppn ∷ chain tags first free =
    chain_more tags first free ppn link more there (not_listed (slots_of core.pmap tags) (chain tags first free) ppn h sound.listed held) links is in
    let counts' : List ℕ = slice_set counts h.frame (slice_index counts h.frame - 1) in
    subst (λ (l : List ℕ). Sound after (slots_of after.pmap (slice_set tags ppn link)) l counts') (sym begins)
    (subst (λ (s : List (Option Holding)). Sound after s (ppn ∷ chain tags first free) counts') (sym slots) given)

-- a page was refused
pub turned_back : (core after : Shown) (tags : List ℕ) (first free : ℕ) (counts : List ℕ) → Sound core (slots_of core.pmap tags) (chain tags first free) counts
    → slots_of after.pmap tags ≡ slots_of core.pmap tags → Fits (slots_of core.pmap tags) after → after.frames ≡ core.frames
    → Sound after (slots_of after.pmap tags) (chain tags first free) counts
turned_back core after tags first free counts sound slots fits frames =
    let before : List (Option Holding) = slots_of core.pmap tags in
    subst (λ (s : List (Option Holding)). Sound after s (chain tags first free) counts) (sym slots) (record {
      fits = fits;
      listed = sound.listed;
      counted = subst (λ (f : FrameMap). Counts before (length f) counts) (sym frames) sound.counted;
      within = λ n h e. subst (λ (f : FrameMap). h.frame < length f) (sym frames) (sound.within n h e);
      spare = subst (λ (f : FrameMap). used f < length f) (sym frames) sound.spare;
      few = (sound.few.0, subst (λ (f : FrameMap). length f ≤ MAX_FRAMES) (sym frames) sound.few.1);
    })

-- a new machine
pub turned_new : (c : Shown) (total count : ℕ) → Fits (replicate count None) c → c.frames ≡ no_frames total → 2 ≤ total → total ≤ MAX_FRAMES → count ≤ MAX_PAGES
    → Sound c (slots_of c.pmap (replicate count 0)) (chain (replicate count 0) 0 count) (replicate total 0)
turned_new c total count fits frames least most few =
    let free : List ℕ = chain (replicate count 0) 0 count in
    let new = sound_new c free total count fits (lists_new count) frames least most few in
    subst (λ (s : List (Option Holding)). Sound c s free (replicate total 0)) (sym (slots_new c (replicate count 0) count (length-replicate count 0) fits)) new
