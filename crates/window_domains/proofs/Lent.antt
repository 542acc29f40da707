-- A domain and mappings after a page was lent.
use Rattle.std.proofs.Common.{◌≡◌, ◌≢◌, ℕ, ◌*◌, ◌<◌, Bool, true, false, List, [], ◌∷◌, length, map, Option, Some, None, refl, ap, sym, ◌∙◌, ◌⊎◌, inl, inr, subst, arith}
use Rattle.std.specs.Prelude.{slice_get, slice_set, All}
use Rattle.std.specs.Option.{option_map}
use Rattle.std.proofs.lemmas.Bool.{cases_eq, cases_Bool}
use Rattle.std.proofs.lemmas.List.{length-set, map-set, get_or-set_same, get_or-set_other}
use Rattle.std.proofs.lemmas.List.Elements.{All-set, All-weaker, All-head, All-tail}
use Rattle.std.proofs.lemmas.Option.{same_Some, none-some}
use Rattle.machine_frames.specs.FrameMap.{frame, IsTaken}
use Rattle.machine_frames.proofs.Used.{taken_within}
use Rattle.lent_slots.specs.declared.holding.Holding.{Holding}
use Rattle.lent_slots.specs.Slots.{MachineView, holding, lent_slots}
use Rattle.lent_slots.proofs.SlotLists.{got_holding, got_within, set_same, set_other}
use Rattle.share_domain.specs.declared.holding.Slot.{Slot}
use Rattle.share_domain.specs.declared.holding.Loan.{Loan}
use Rattle.share_domain.specs.Domains.{DomainView, LendsIn, with_machines, machine_at, no_machine, held_in, region_frame}
use Rattle.window_events.specs.declared.event.Event.TheVariants.{Lend, Trim}
use Rattle.window_events.specs.declared.page.Page.{Page}
use Rattle.window_events.specs.Windows as windows
use Rattle.window_events.specs.Windows.{Mappings, is_held, run, step}
use Rattle.window_domains.specs.Agreement.{bytes_at, frame_by, HasHeld, Agrees, Plays}
use Rattle.window_domains.specs.Calls.{IsToBeLent, filled}
use Rattle.window_domains.proofs.Frames as frames
use Rattle.window_domains.proofs.Frames.{the, is_there, same_machine, same_frame, frame_within, machine_within}
use Rattle.window_domains.proofs.Pages.{one_plays, none_plays, holds_none, holder, lend_possible, trim_possible}

-- A page was lent in machine m: its slot was free, and its frame was free or had these bytes.
module _ (number : List ℕ → ℕ) (d : DomainView) (slots : List (Option Slot)) (w : Mappings) (m client ppn mpn : ℕ) (bytes : List ℕ)
    (agrees : Agrees number d slots w) (free : slice_get (machine_at d.machines m).slots ppn ≡ Some None) (within : mpn < length (machine_at d.machines m).frames) where
  abbrev before : MachineView
  before = machine_at d.machines m

  abbrev lent : MachineView
  lent = record { slots = lent_slots client ppn mpn before.slots; frames = slice_set before.frames mpn (Some bytes) }

  abbrev machines : List MachineView
  machines = slice_set d.machines m lent

  abbrev after : DomainView
  after = with_machines d machines

  abbrev number_there : ℕ
  number_there = region_frame d.frames m mpn

  there : m < length d.machines
  there = machine_within d.machines m mpn within

  small : mpn < d.frames
  small = omega (arith, agrees.sizes m there, within)

  here : machine_at machines m ≡ lent
  here = get_or-set_same d.machines m lent no_machine there

  elsewhere : (k : ℕ) → k ≢ m → machine_at machines k ≡ machine_at d.machines k
  elsewhere k ne = get_or-set_other d.machines m k lent no_machine ne

  number_fits : number_there < length w.frames
  number_fits = omega (arith, agrees.count, frame_within d.frames m mpn (length d.machines) there small)

  was_free : holding before.slots ppn ≡ None
  was_free = got_holding before.slots ppn None free

  own_slot : holding (machine_at machines m).slots ppn ≡ Some (record { client = client; frame = mpn })
  own_slot = ap (λ (v : MachineView). holding v.slots ppn) here ∙ set_same before.slots ppn (Some (record { client = client; frame = mpn })) (got_within before.slots ppn None free)

  other_slot : (k q : ℕ) → (k ≡ m → q ≡ ppn → ⊥) → holding (machine_at machines k).slots q ≡ holding (machine_at d.machines k).slots q
  other_slot k q apart = pick (cases_eq k m) where
    pick : ((k ≡ m) ⊎ (k ≡ m → ⊥)) → holding (machine_at machines k).slots q ≡ holding (machine_at d.machines k).slots q
    pick (inr ne) = ap (λ (v : MachineView). holding v.slots q) (elsewhere k ne)
    pick (inl e) =
        ap (λ i. holding (machine_at machines i).slots q) e ∙ ap (λ (v : MachineView). holding v.slots q) here
        ∙ set_other before.slots ppn q (Some (record { client = client; frame = mpn })) (apart e) ∙ ap (λ i. holding (machine_at d.machines i).slots q) (sym e)

  -- a slot that was held isn't this one
  is_other : (k q : ℕ) (h : Holding) → holding (machine_at d.machines k).slots q ≡ Some h → k ≡ m → q ≡ ppn → ⊥
  is_other k q h held e f = none-some h (sym was_free ∙ ap (λ i. holding before.slots i) (sym f) ∙ ap (λ i. holding (machine_at d.machines i).slots q) (sym e) ∙ held)

  still : (slot : Slot) (h : Holding) → held_in d.machines slot ≡ Some h → held_in machines slot ≡ held_in d.machines slot
  still slot h held = other_slot slot.machine slot.ppn (is_other slot.machine slot.ppn h held)

  still_held : (slot : Option Slot) → HasHeld d slot → HasHeld after slot
  still_held None h = tt
  still_held (Some slot) h = let x = the (held_in d.machines slot) h in is_there (held_in machines slot) x.0 (still slot x.0 x.1 ∙ x.1)

  same_frame_by : (slot : Option Slot) → HasHeld d slot → frame_by after slot ≡ frame_by d slot
  same_frame_by None h = refl
  same_frame_by (Some slot) h =
      let x = the (held_in d.machines slot) h in
      ap (option_map (λ (y : Holding). region_frame d.frames slot.machine y.frame)) (still slot x.0 x.1)

  same_frames : (l : List (Option Slot)) → All (HasHeld d) l → map (frame_by after) l ≡ map (frame_by d) l
  same_frames [] all = refl
  same_frames (slot ∷ l) all =
      ap (λ (x : Option ℕ). x ∷ map (frame_by after) l) (same_frame_by slot (All-head (HasHeld d) slot l all))
      ∙ ap (λ (xs : List (Option ℕ)). frame_by d slot ∷ xs) (same_frames l (All-tail (HasHeld d) slot l all))

  -- what the frames of the machines have now
  own_frame : frame (machine_at machines m).frames mpn ≡ Some bytes
  own_frame = ap (λ (v : MachineView). frame v.frames mpn) here ∙ get_or-set_same before.frames mpn (Some bytes) None within

  other_frame : (k a : ℕ) → (k ≡ m → a ≡ mpn → ⊥) → frame (machine_at machines k).frames a ≡ frame (machine_at d.machines k).frames a
  other_frame k a apart = pick (cases_eq k m) where
    pick : ((k ≡ m) ⊎ (k ≡ m → ⊥)) → frame (machine_at machines k).frames a ≡ frame (machine_at d.machines k).frames a
    pick (inr ne) = ap (λ (v : MachineView). frame v.frames a) (elsewhere k ne)
    pick (inl e) =
        ap (λ i. frame (machine_at machines i).frames a) e ∙ ap (λ (v : MachineView). frame v.frames a) here
        ∙ get_or-set_other before.frames mpn a (Some bytes) None (apart e) ∙ ap (λ i. frame (machine_at d.machines i).frames a) (sym e)

  by_frame : (k a : ℕ) → ((k ≡ m) × (a ≡ mpn)) ⊎ (k ≡ m → a ≡ mpn → ⊥)
  by_frame k a = pick (cases_eq k m) (cases_eq a mpn) where
    pick : ((k ≡ m) ⊎ (k ≡ m → ⊥)) → ((a ≡ mpn) ⊎ (a ≡ mpn → ⊥)) → ((k ≡ m) × (a ≡ mpn)) ⊎ (k ≡ m → a ≡ mpn → ⊥)
    pick (inl e) (inl f) = inl (e, f)
    pick (inl e) (inr n) = inr (λ _ q. n q)
    pick (inr n) z = inr (λ q _. n q)

  frame_taken : (k a : ℕ) → IsTaken (machine_at d.machines k).frames a → IsTaken (machine_at machines k).frames a
  frame_taken k a taken = pick (by_frame k a) where
    pick : (((k ≡ m) × (a ≡ mpn)) ⊎ (k ≡ m → a ≡ mpn → ⊥)) → IsTaken (machine_at machines k).frames a
    pick (inl e) = is_there (frame (machine_at machines k).frames a) bytes (ap (λ i. frame (machine_at machines i).frames a) e.0 ∙ ap (λ i. frame (machine_at machines m).frames i) e.1 ∙ own_frame)
    pick (inr apart) = let x = the (frame (machine_at d.machines k).frames a) taken in is_there (frame (machine_at machines k).frames a) x.0 (other_frame k a apart ∙ x.1)

  -- a frame that is in use has its own number
  apart_number : (k a : ℕ) (b : List ℕ) → frame (machine_at d.machines k).frames a ≡ Some b → (k ≡ m → a ≡ mpn → ⊥) → region_frame d.frames k a ≡ number_there → ⊥
  apart_number k a b is apart e =
      let inside : a < length (machine_at d.machines k).frames = taken_within (machine_at d.machines k).frames a (is_there (frame (machine_at d.machines k).frames a) b is) in
      let fits : a < d.frames = omega (arith, agrees.sizes k (machine_within d.machines k a inside), inside) in
      apart (same_machine d.frames k a m mpn fits small e) (same_frame d.frames k a m mpn fits small e)

  pub lent_agrees : Agrees number after slots (record { pages = w.pages; frames = slice_set w.frames number_there (number bytes) })
  lent_agrees = record {
    holds = agrees.holds ∙ sym (same_frames slots agrees.are_held);
    are_held = All-weaker (HasHeld d) (HasHeld after) still_held slots agrees.are_held;
    contains = λ k a b is. contained k a b is (by_frame k a);
    in_use = λ slot h held. used slot h held (by_slot slot);
    count = length-set w.frames number_there (number bytes) ∙ agrees.count ∙ ap (λ k. k * d.frames) (sym (length-set d.machines m lent));
    sizes = λ k l. size k l (cases_eq k m);
  } where
    by_slot : (slot : Slot) → ((slot.machine ≡ m) × (slot.ppn ≡ ppn)) ⊎ (slot.machine ≡ m → slot.ppn ≡ ppn → ⊥)
    by_slot slot = pick (cases_eq slot.machine m) (cases_eq slot.ppn ppn) where
      pick : ((slot.machine ≡ m) ⊎ (slot.machine ≡ m → ⊥)) → ((slot.ppn ≡ ppn) ⊎ (slot.ppn ≡ ppn → ⊥)) → ((slot.machine ≡ m) × (slot.ppn ≡ ppn)) ⊎ (slot.machine ≡ m → slot.ppn ≡ ppn → ⊥)
      pick (inl e) (inl f) = inl (e, f)
      pick (inl e) (inr n) = inr (λ _ q. n q)
      pick (inr n) z = inr (λ q _. n q)

    contained : (k a : ℕ) (b : List ℕ) → bytes_at after k a ≡ Some b → (((k ≡ m) × (a ≡ mpn)) ⊎ (k ≡ m → a ≡ mpn → ⊥))
        → slice_get (slice_set w.frames number_there (number bytes)) (region_frame d.frames k a) ≡ Some (number b)
    contained k a b is (inl e) =
        let same : bytes ≡ b = same_Some bytes b (sym own_frame ∙ ap (λ i. frame (machine_at machines i).frames mpn) (sym e.0) ∙ ap (λ i. frame (machine_at machines k).frames i) (sym e.1) ∙ is) in
        let x = frames.got_within w.frames number_there number_fits in
        ap (λ i. slice_get (slice_set w.frames number_there (number bytes)) (region_frame d.frames i a)) e.0
        ∙ ap (λ i. slice_get (slice_set w.frames number_there (number bytes)) (region_frame d.frames m i)) e.1
        ∙ frames.got w.frames number_there x.0 (number bytes) x.1 ∙ ap (λ l. Some (number l)) same
    contained k a b is (inr apart) =
        let was : bytes_at d k a ≡ Some b = sym (other_frame k a apart) ∙ is in
        frames.got_other w.frames number_there (region_frame d.frames k a) (number bytes) (apart_number k a b was apart) ∙ agrees.contains k a b was

    used : (slot : Slot) (h : Holding) → held_in machines slot ≡ Some h → (((slot.machine ≡ m) × (slot.ppn ≡ ppn)) ⊎ (slot.machine ≡ m → slot.ppn ≡ ppn → ⊥)) → IsTaken (machine_at machines slot.machine).frames h.frame
    used slot h held (inl e) =
        let same : record { client = client; frame = mpn } ≡ h = same_Some (record { client = client; frame = mpn }) h
        (sym own_slot ∙ ap (λ i. holding (machine_at machines i).slots ppn) (sym e.0) ∙ ap (λ i. holding (machine_at machines slot.machine).slots i) (sym e.1) ∙ held) in
        is_there (frame (machine_at machines slot.machine).frames h.frame) bytes
        (ap (λ i. frame (machine_at machines i).frames h.frame) e.0 ∙ ap (λ (x : Holding). frame (machine_at machines m).frames x.frame) (sym same) ∙ own_frame)
    used slot h held (inr apart) =
        frame_taken slot.machine h.frame (agrees.in_use slot h (sym (other_slot slot.machine slot.ppn apart) ∙ held))

    size : (k : ℕ) → k < length machines → ((k ≡ m) ⊎ (k ≡ m → ⊥)) → length (machine_at machines k).frames ≡ d.frames
    size k l (inl e) =
        ap (λ i. length (machine_at machines i).frames) e ∙ ap (λ (v : MachineView). length v.frames) here ∙ length-set before.frames mpn (Some bytes) ∙ agrees.sizes m there
    size k l (inr ne) = ap (λ (v : MachineView). length v.frames) (elsewhere k ne) ∙ agrees.sizes k (omega (arith, length-set d.machines m lent, l))

  -- what the frame contained, if some page holds it
  pub has_number : ((frame before.frames mpn ≡ None) ⊎ (frame before.frames mpn ≡ Some bytes)) → is_held number_there w.pages ≡ true → slice_get w.frames number_there ≡ Some (number bytes)
  has_number (inr has) held = agrees.contains m mpn bytes has
  has_number (inl none) held =
      let x = holder d w.pages slots number_there agrees.holds held in
      let taken : IsTaken (machine_at d.machines x.slot.machine).frames x.h.frame = agrees.in_use x.slot x.h x.held in
      let b = the (frame (machine_at d.machines x.slot.machine).frames x.h.frame) taken in
      let inside : x.h.frame < length (machine_at d.machines x.slot.machine).frames = taken_within (machine_at d.machines x.slot.machine).frames x.h.frame taken in
      let fits : x.h.frame < d.frames = omega (arith, agrees.sizes x.slot.machine (machine_within d.machines x.slot.machine x.h.frame inside), inside) in
      let e : x.slot.machine ≡ m = same_machine d.frames x.slot.machine x.h.frame m mpn fits small x.frame in
      let f : x.h.frame ≡ mpn = same_frame d.frames x.slot.machine x.h.frame m mpn fits small x.frame in
      absurd (none-some b.0 (sym none ∙ ap (λ i. frame before.frames i) (sym f) ∙ ap (λ i. frame (machine_at d.machines i).frames x.h.frame) (sym e) ∙ b.1))

  -- that number is among those of all frames
  pub has_any : (y : ℕ) × (slice_get w.frames number_there ≡ Some y)
  has_any = frames.got_within w.frames number_there number_fits

-- a page has a slot from now on
pub page_agrees : (number : List ℕ → ℕ) (d : DomainView) (slots : List (Option Slot)) (pages : List Page) (contents : List ℕ) (p n : ℕ) (page : Page) (slot : Slot) (h : Holding)
    → Agrees number d slots (record { pages = pages; frames = contents }) → held_in d.machines slot ≡ Some h → n ≡ region_frame d.frames slot.machine h.frame
    → Agrees number d (slice_set slots p (Some slot)) (record { pages = slice_set pages p (windows.holding n page); frames = contents })
page_agrees number d slots pages contents p n page slot h agrees held is = record {
  holds = map-set (λ (x : Page). x.held) pages p (windows.holding n page) ∙ ap (λ (l : List (Option ℕ)). slice_set l p (Some n)) agrees.holds
      ∙ ap (λ (o : Option ℕ). slice_set (map (frame_by d) slots) p o) own ∙ sym (map-set (frame_by d) slots p (Some slot));
  are_held = All-set (HasHeld d) slots p (Some slot) (is_there (held_in d.machines slot) h held) agrees.are_held;
  contains = agrees.contains;
  in_use = agrees.in_use;
  count = agrees.count;
  sizes = agrees.sizes;
} where
  own : Some n ≡ frame_by d (Some slot)
  own = ap (λ (k : ℕ). Some k) is ∙ sym (ap (option_map (λ (x : Holding). region_frame d.frames slot.machine x.frame)) held)

-- what a loan says, in the form of the above
record IsLent (d new : DomainView) (m client : ℕ) (bytes : List ℕ) (loan : Loan) : Type 0 where
  mpn : ℕ
  frame_is : loan.frame ≡ region_frame d.frames m mpn
  free : slice_get (machine_at d.machines m).slots loan.slot.ppn ≡ Some None
  within : mpn < length (machine_at d.machines m).frames
  had : (frame (machine_at d.machines m).frames mpn ≡ None) ⊎ (frame (machine_at d.machines m).frames mpn ≡ Some bytes)
  now : new ≡ with_machines d (slice_set d.machines m (record { slots = lent_slots client loan.slot.ppn mpn (machine_at d.machines m).slots; frames = slice_set (machine_at d.machines m).frames mpn (Some bytes) }))
  machine_is : loan.slot.machine ≡ m

is_lent : (d new : DomainView) (m client : ℕ) (bytes : List ℕ) (loan : Loan) → LendsIn m client bytes loan d new → IsLent d new m client bytes loan
is_lent d new m client bytes loan l = record {
  mpn = l.mpn;
  frame_is = l.number;
  free = l.lends.was_free;
  within = l.lends.within;
  had = l.lends.held;
  now = l.rest ∙ ap (λ (v : MachineView). with_machines d (slice_set d.machines m v)) l.lends.now;
  machine_is = l.machine;
}

pub lends : (number : List ℕ → ℕ) (d new : DomainView) (slots : List (Option Slot)) (w : Mappings) (m client p : ℕ) (bytes : List ℕ) (loan : Loan)
    → Agrees number d slots w → LendsIn m client bytes loan d new → IsToBeLent slots w p (number bytes)
    → Plays w (Lend p loan.frame ∷ []) (Agrees number new (slice_set slots p (Some loan.slot)))
lends number d new slots w m client p bytes loan agrees l to = made (is_lent d new m client bytes loan l) where
  made : IsLent d new m client bytes loan → Plays w (Lend p loan.frame ∷ []) (Agrees number new (slice_set slots p (Some loan.slot)))
  made i =
      let n : ℕ = region_frame d.frames m i.mpn in
      let y = has_any number d slots w m client loan.slot.ppn i.mpn bytes agrees i.free i.within in
      let none : to.page.held ≡ None = holds_none d w.pages slots p to.page agrees.holds to.at to.no_slot in
      let may : (is_held n w.pages ≡ false) ⊎ (y.0 ≡ number bytes) = choose n y.0 y.1 (cases_Bool (is_held n w.pages)) (has_number number d slots w m client loan.slot.ppn i.mpn bytes agrees i.free i.within i.had) in
      let after = after number d slots w m client loan.slot.ppn i.mpn bytes agrees i.free i.within in
      let owned : held_in after.machines loan.slot ≡ Some (record { client = client; frame = i.mpn }) =
      ap (λ k. holding (machine_at after.machines k).slots loan.slot.ppn) i.machine_is ∙ own_slot number d slots w m client loan.slot.ppn i.mpn bytes agrees i.free i.within in
      let then : Agrees number after (slice_set slots p (Some loan.slot)) (record { pages = slice_set w.pages p (windows.holding n to.page); frames = slice_set w.frames n (number bytes) }) =
      page_agrees number after slots w.pages (slice_set w.frames n (number bytes)) p n to.page loan.slot (record { client = client; frame = i.mpn })
      (lent_agrees number d slots w m client loan.slot.ppn i.mpn bytes agrees i.free i.within) owned (ap (λ k. region_frame d.frames k i.mpn) (sym i.machine_is)) in
      subst (λ k. Plays w (Lend p k ∷ []) (Agrees number new (slice_set slots p (Some loan.slot)))) (sym i.frame_is)
      (one_plays w (record { pages = slice_set w.pages p (windows.holding n to.page); frames = slice_set w.frames n (number bytes) }) (Lend p n) (Agrees number new (slice_set slots p (Some loan.slot)))
      (lend_possible w p n (number bytes) y.0 to.page to.at to.buffer none y.1 may)
      (subst (λ (x : DomainView). Agrees number x (slice_set slots p (Some loan.slot)) (record { pages = slice_set w.pages p (windows.holding n to.page); frames = slice_set w.frames n (number bytes) })) (sym i.now) then)) where
        choose : (n y : ℕ) → slice_get w.frames n ≡ Some y → ((is_held n w.pages ≡ true) ⊎ (is_held n w.pages ≡ false)) → (is_held n w.pages ≡ true → slice_get w.frames n ≡ Some (number bytes))
            → (is_held n w.pages ≡ false) ⊎ (y ≡ number bytes)
        choose n y is (inl held) has = inr (same_Some y (number bytes) (sym is ∙ has held))
        choose n y is (inr free) has = inl free

pub lends_early : (number : List ℕ → ℕ) (d new : DomainView) (slots : List (Option Slot)) (w : Mappings) (m client : ℕ) (bytes : List ℕ) (loan : Loan)
    → Agrees number d slots w → LendsIn m client bytes loan d new → Plays w (filled w loan.frame (number bytes)) (Agrees number new slots)
lends_early number d new slots w m client bytes loan agrees l = made (is_lent d new m client bytes loan l) where
  made : IsLent d new m client bytes loan → Plays w (filled w loan.frame (number bytes)) (Agrees number new slots)
  made i =
      let n : ℕ = region_frame d.frames m i.mpn in
      let then : Agrees number new slots (record { pages = w.pages; frames = slice_set w.frames n (number bytes) }) =
      subst (λ (x : DomainView). Agrees number x slots (record { pages = w.pages; frames = slice_set w.frames n (number bytes) })) (sym i.now)
      (lent_agrees number d slots w m client loan.slot.ppn i.mpn bytes agrees i.free i.within) in
      subst (λ k. Plays w (filled w k (number bytes)) (Agrees number new slots)) (sym i.frame_is)
      (pick n (is_held n w.pages) refl (number_fits number d slots w m client loan.slot.ppn i.mpn bytes agrees i.free i.within)
      (has_number number d slots w m client loan.slot.ppn i.mpn bytes agrees i.free i.within i.had) then) where
        pick : (n : ℕ) (b : Bool) → is_held n w.pages ≡ b → n < length w.frames → (is_held n w.pages ≡ true → slice_get w.frames n ≡ Some (number bytes))
            → Agrees number new slots (record { pages = w.pages; frames = slice_set w.frames n (number bytes) }) → Plays w (filled w n (number bytes)) (Agrees number new slots)
        pick n true held fits has then =
            let same : slice_set w.frames n (number bytes) ≡ w.frames = frames.set_same w.frames n (number bytes) (has held) in
            rw held (none_plays w (Agrees number new slots) (subst (λ (fs : List ℕ). Agrees number new slots (record { pages = w.pages; frames = fs })) same then))
        pick n false held fits has then =
            rw held (one_plays w (record { pages = w.pages; frames = slice_set w.frames n (number bytes) }) (Trim n (number bytes)) (Agrees number new slots) (trim_possible w n (number bytes) fits held) then)

pub compares : (number : List ℕ → ℕ) (d : DomainView) (slots : List (Option Slot)) (w : Mappings) (p : ℕ) (bytes : List ℕ) (slot : Slot) (h : Holding)
    → Agrees number d slots w → held_in d.machines slot ≡ Some h → bytes_at d slot.machine h.frame ≡ Some bytes → IsToBeLent slots w p (number bytes)
    → Plays w (Lend p (region_frame d.frames slot.machine h.frame) ∷ []) (Agrees number d (slice_set slots p (Some slot)))
compares number d slots w p bytes slot h agrees held has to =
    let n : ℕ = region_frame d.frames slot.machine h.frame in
    let is : slice_get w.frames n ≡ Some (number bytes) = agrees.contains slot.machine h.frame bytes has in
    let none : to.page.held ≡ None = holds_none d w.pages slots p to.page agrees.holds to.at to.no_slot in
    let same : slice_set w.frames n (number bytes) ≡ w.frames = frames.set_same w.frames n (number bytes) is in
    let then : Agrees number d (slice_set slots p (Some slot)) (record { pages = slice_set w.pages p (windows.holding n to.page); frames = w.frames }) =
    page_agrees number d slots w.pages w.frames p n to.page slot h agrees held refl in
    one_plays w (record { pages = slice_set w.pages p (windows.holding n to.page); frames = slice_set w.frames n (number bytes) }) (Lend p n) (Agrees number d (slice_set slots p (Some slot)))
    (lend_possible w p n (number bytes) (number bytes) to.page to.at to.buffer none is (inr refl))
    (subst (λ (fs : List ℕ). Agrees number d (slice_set slots p (Some slot)) (record { pages = slice_set w.pages p (windows.holding n to.page); frames = fs })) (sym same) then)
