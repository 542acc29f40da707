-- No more frames are in use than there are.
use Rattle.std.proofs.Common.{◌≡◌, ℕ, zero, suc, ◌+◌, ◌≤◌, Bool, true, false, cond, List, [], ◌∷◌, replicate, map, Option, Some, None, refl, ap, sym, ◌∙◌, subst, inl, inr, arith}
use Rattle.std.specs.Prelude.{nat_eq, count_by}
use Rattle.std.proofs.lemmas.Bool.{eqb-true, eqb-false}
use Rattle.std.proofs.lemmas.List.Sums.{sum_by-cons}
use Rattle.page_model.specs.Pages.{Slot, Unmapped, Private, Shared, Guest, State, blank, written, is_mapped, is_shared_as, any_page, count_pages, peers, used, page_at, with_slot}
use Rattle.page_model.specs.Steps.{Outcome, stays, sets, stored, proposed, released, on_page, answered, step, counted, kept_hint}
use Rattle.page_model.specs.Replay.{Shape, empty_guest, empty_state, state_after}
use Rattle.page_model.specs.Reports.{ReportAddsUp, ReportCountsEntries, FramesSuffice}
use Rattle.page_model.specs.declared.request.Entry.{Entry}
use Rattle.page_model.specs.declared.request.Request.{Request}
use Rattle.page_model.specs.declared.request.Request.TheVariants.{Propose, Store, Load, Release, Count, Close}
use Rattle.page_model.specs.declared.verdict.Verdict.TheVariants as v
use Rattle.page_model.proofs.Anys.{AnyIsCount, any_is_count}
use Rattle.page_model.proofs.Counts.{used-le, shared-le, hinted-le}
use Rattle.page_model.proofs.Entries.{entries_counted}
use Rattle.page_model.proofs.Places.{at_same, at_other}
use Rattle.page_model.proofs.Room.{peer_count}
use Rattle.page_model.proofs.Used.{once, cleared, frames_for, used_before, used_after}
use Rattle.page_model.proofs.Matching.{key_for, Ends, joins, clashes_shared, hints, keeps, replaces, pairs, clashes_hint, unhinted, proposed_ends}

once_le : (t : Bool) → once t ≤ 1
once_le true = omega arith
once_le false = omega arith

-- a page needs at most one frame of its own
at_most_one : (salt : ℕ) (x : Slot) (gs : List Guest) → frames_for salt x gs ≤ 1
at_most_one salt Unmapped gs = omega arith
at_most_one salt (Private bytes hint) gs = omega arith
at_most_one salt (Shared bytes) gs = once_le (any_page (is_shared_as salt bytes) gs)

-- a page that needs no more than it did, and one that may need one more
used_less : (gs : List Guest) (a b salt : ℕ) (old new : Slot) → page_at gs a b ≡ Some (salt, old) → frames_for salt new (cleared gs a b) ≤ frames_for salt old (cleared gs a b) → used (with_slot gs a b new) ≤ used gs
used_less gs a b salt old new h less = omega (arith, used_before gs a b salt old h, used_after gs a b salt old new h, less)

used_more : (gs : List Guest) (a b salt : ℕ) (old new : Slot) → page_at gs a b ≡ Some (salt, old) → used (with_slot gs a b new) ≤ used gs + 1
used_more gs a b salt old new h = omega (arith, used_before gs a b salt old h, used_after gs a b salt old new h, at_most_one salt new (cleared gs a b))

-- a private page that becomes another needs no more
from_private : (gs : List Guest) (a b salt : ℕ) (bytes : List ℕ) (hint : Option ℕ) (new : Slot) → page_at gs a b ≡ Some (salt, Private bytes hint) → used (with_slot gs a b new) ≤ used gs
from_private gs a b salt bytes hint new h = used_less gs a b salt (Private bytes hint) new h (at_most_one salt new (cleared gs a b))

none_any : (t : Bool) (n : ℕ) → n ≡ 0 → AnyIsCount t n → once t ≡ 1
none_any t n e (inl h) = absurd (let some = h.1 in omega arith)
none_any t n e (inr h) = ap once h.0

-- the last page of a shared frame
last_of_content : (gs : List Guest) (a b salt : ℕ) (old : List ℕ) → page_at gs a b ≡ Some (salt, Shared old) → peers salt old gs ≡ 1 → frames_for salt (Shared old) (cleared gs a b) ≡ 1
last_of_content gs a b salt old h one =
    let rest = cleared gs a b in
    none_any (any_page (is_shared_as salt old) rest) (count_pages (is_shared_as salt old) rest) (let e : count_pages (is_shared_as salt old) rest + 1 ≡ peers salt old gs = peer_count gs a b salt old h in omega arith) (any_is_count (is_shared_as salt old) rest)

-- what a request keeps
record Fits (total : ℕ) (gs : List Guest) (o : Outcome) : Type 0 where
  after : used gs ≤ total → used o.guests ≤ total

fits_less : (total : ℕ) (gs : List Guest) (o : Outcome) (new : List Guest) → o.guests ≡ new → used new ≤ used gs → Fits total gs o
fits_less total gs o new now less = record { after = λ fits. let e : used o.guests ≡ used new = ap used now in omega arith }

still : (total : ℕ) (gs : List Guest) (o : Outcome) → o.guests ≡ gs → Fits total gs o
still total gs o e = fits_less total gs o gs e (omega arith)

-- a store that takes a frame where one is free
takes_one : (total : ℕ) (gs : List Guest) (a b salt : ℕ) (old new : Slot) (x y : Outcome) → page_at gs a b ≡ Some (salt, old) → x.guests ≡ gs → y.guests ≡ with_slot gs a b new → Fits total gs (cond (nat_eq (used gs) total) x y)
takes_one total gs a b salt old new x y h same now = pick (nat_eq (used gs) total) refl where
  pick : (t : Bool) → nat_eq (used gs) total ≡ t → Fits total gs (cond t x y)
  pick true e = still total gs x same
  pick false e = record {
    after = λ fits.
        let room : used gs ≡ total → ⊥ = eqb-false (used gs) total e in
        let n : used y.guests ≡ used (with_slot gs a b new) = ap used now in
        omega (arith, used_more gs a b salt old new h, room);
  }

stored_fits : (total : ℕ) (gs : List Guest) (a b at : ℕ) (bytes : List ℕ) (salt : ℕ) (slot : Slot) → page_at gs a b ≡ Some (salt, slot) → Fits total gs (stored total gs a b at bytes salt slot)
unfolding stored
stored_fits total gs a b at bytes salt Unmapped h = takes_one total gs a b salt Unmapped (Private (written blank at bytes) None) _ _ h refl refl
stored_fits total gs a b at bytes salt (Private old hint) h = fits_less total gs _ _ refl (from_private gs a b salt old hint (Private (written old at bytes) hint) h)
stored_fits total gs a b at bytes salt (Shared old) h = pick (nat_eq (peers salt old gs) 1) refl where
  new : Slot
  new = Private (written old at bytes) None

  pick : (t : Bool) → nat_eq (peers salt old gs) 1 ≡ t →
      Fits total gs (cond t (sets gs a b new v.Taken) (cond (nat_eq (used gs) total) (stays gs v.NoFrame) (sets gs a b new v.Copied)))
  pick true e =
      let one = last_of_content gs a b salt old h (eqb-true (peers salt old gs) 1 e) in
      fits_less total gs _ _ refl (used_less gs a b salt (Shared old) new h (omega (arith, one)))
  pick false e = takes_one total gs a b salt (Shared old) new _ _ h refl refl

released_fits : (total : ℕ) (gs : List Guest) (a b salt : ℕ) (slot : Slot) → page_at gs a b ≡ Some (salt, slot) → Fits total gs (released gs a b salt slot)
unfolding released
released_fits total gs a b salt Unmapped h = still total gs _ refl
released_fits total gs a b salt (Private old hint) h = fits_less total gs _ _ refl (used_less gs a b salt (Private old hint) Unmapped h (omega arith))
released_fits total gs a b salt (Shared old) h = fits_less total gs _ _ refl (used_less gs a b salt (Shared old) Unmapped h (omega arith))

ends_less : (hash : ℕ → List ℕ → ℕ) (gs : List Guest) (g p salt : ℕ) (bytes : List ℕ) (hint : Option ℕ) (o : Outcome) → page_at gs g p ≡ Some (salt, Private bytes hint) → Ends hash gs g p salt bytes o → used o.guests ≤ used gs
ends_less hash gs g p salt bytes hint o h (joins e now) = omega (arith, ap used now, from_private gs g p salt bytes hint (Shared bytes) h)
ends_less hash gs g p salt bytes hint o h (clashes_shared e f now) = omega (arith, ap used now)
ends_less hash gs g p salt bytes hint o h (hints un e now) = omega (arith, ap used now, from_private gs g p salt bytes hint (Private bytes (Some (key_for hash salt bytes))) h)
ends_less hash gs g p salt bytes hint o h (keeps un e now) = omega (arith, ap used now)
ends_less hash gs g p salt bytes hint o h (replaces un w ne now) =
    let left = with_slot gs w.guest w.ppn (Private w.bytes None) in
    let own : page_at left g p ≡ Some (salt, Private bytes hint) = at_other gs w.guest w.ppn (Private w.bytes None) g p (λ i j. w.apart (sym i) (sym j)) ∙ h in
    omega (arith, ap used now, from_private gs w.guest w.ppn w.salt w.bytes (Some (key_for hash salt bytes)) (Private w.bytes None) w.at, from_private left g p salt bytes hint (Private bytes (Some (key_for hash salt bytes))) own)
ends_less hash gs g p salt bytes hint o h (pairs un w s t now) =
    let left = with_slot gs w.guest w.ppn (Shared w.bytes) in
    let own : page_at left g p ≡ Some (salt, Private bytes hint) = at_other gs w.guest w.ppn (Shared w.bytes) g p (λ i j. w.apart (sym i) (sym j)) ∙ h in
    omega (arith, ap used now, from_private gs w.guest w.ppn w.salt w.bytes (Some (key_for hash salt bytes)) (Shared w.bytes) w.at, from_private left g p salt bytes hint (Shared bytes) own)
ends_less hash gs g p salt bytes hint o h (clashes_hint un w e ne now) = omega (arith, ap used now)

proposed_fits : (hash : ℕ → List ℕ → ℕ) (total : ℕ) (gs : List Guest) (g p salt : ℕ) (slot : Slot) → page_at gs g p ≡ Some (salt, slot) → Fits total gs (proposed hash gs g p salt slot)
unfolding proposed
proposed_fits hash total gs g p salt Unmapped h = still total gs _ refl
proposed_fits hash total gs g p salt (Shared bytes) h = still total gs _ refl
proposed_fits hash total gs g p salt (Private bytes hint) h =
    let left = unhinted hash gs g p salt bytes hint in
    let kept = kept_hint (key_for hash salt bytes) hint in
    let first : used left ≤ used gs = from_private gs g p salt bytes hint (Private bytes kept) h in
    let rest = ends_less hash left g p salt bytes kept _ (at_same gs g p salt (Private bytes hint) (Private bytes kept) h) (proposed_ends hash gs g p salt bytes hint h) in
    record { after = λ fits. omega (arith, rest) }

on_page_fits : (total : ℕ) (gs : List Guest) (f : ℕ → Slot → Outcome) (o : Option (ℕ × Slot)) → ((salt : ℕ) (slot : Slot) → o ≡ Some (salt, slot) → Fits total gs (f salt slot)) → Fits total gs (on_page gs f o)
on_page_fits total gs f None h = still total gs _ refl
on_page_fits total gs f (Some (salt, slot)) h = h salt slot refl

answered_fits : (hash : ℕ → List ℕ → ℕ) (s : State) (asker : ℕ) (request : Request) → Fits s.total s.guests (answered hash s asker request)
unfolding answered
answered_fits hash s asker (Propose page) = on_page_fits s.total s.guests _ (page_at s.guests asker page) (λ salt slot h. proposed_fits hash s.total s.guests asker page salt slot h)
answered_fits hash s asker (Store r) = on_page_fits s.total s.guests _ (page_at s.guests asker r.ppn) (λ salt slot h. stored_fits s.total s.guests asker r.ppn r.at r.bytes salt slot h)
answered_fits hash s asker (Load r) = on_page_fits s.total s.guests _ (page_at s.guests asker r.ppn) (λ salt slot h. still s.total s.guests _ refl)
answered_fits hash s asker (Release page) = on_page_fits s.total s.guests _ (page_at s.guests asker page) (λ salt slot h. released_fits s.total s.guests asker page salt slot h)
answered_fits hash s asker Count = still s.total s.guests _ refl
answered_fits hash s asker Close = still s.total s.guests _ refl

-- a request of a machine whose frames suffice
pub step_fits : (hash : ℕ → List ℕ → ℕ) (total : ℕ) (s : State) (asker : ℕ) (request : Request) → s.total ≡ total → used s.guests ≤ total → used (step hash s asker request).state.guests ≤ total
unfolding step
step_fits hash total s asker request e fits =
    subst (λ n. used (answered hash (counted s) asker request).guests ≤ n) e ((answered_fits hash (counted s) asker request).after (subst (λ n. used s.guests ≤ n) (sym e) fits))

step_total : (hash : ℕ → List ℕ → ℕ) (s : State) (asker : ℕ) (request : Request) → (step hash s asker request).state.total ≡ s.total
unfolding step
step_total hash s asker request = refl

run_fits : (hash : ℕ → List ℕ → ℕ) (total : ℕ) (s : State) (es : List Entry) → s.total ≡ total → used s.guests ≤ total → used (state_after hash s es).guests ≤ total
unfolding state_after
run_fits hash total s [] e fits = fits
run_fits hash total s (x ∷ es) e fits = run_fits hash total (step hash s x.guest x.request).state es (step_total hash s x.guest x.request ∙ e) (step_fits hash total s x.guest x.request e fits)

-- a new machine uses none
new_slots : (n : ℕ) → count_by is_mapped (replicate n Unmapped) ≡ 0
new_slots zero = refl
new_slots (suc n) = omega (arith, new_slots n, sum_by-cons (λ (x : Slot). cond (is_mapped x) 1 0) Unmapped (replicate n Unmapped))

new_mapped : (shapes : List Shape) → count_pages (λ _. is_mapped) (map empty_guest shapes) ≡ 0
new_mapped [] = refl
new_mapped (x ∷ shapes) = omega (arith, new_slots x.pages, new_mapped shapes, sum_by-cons (λ (g : Guest). count_by is_mapped g.slots) (empty_guest x) (map empty_guest shapes))

pub frames_suffice : (es : List Entry) → FramesSuffice es
frames_suffice es hash total shapes = run_fits hash total (empty_state total shapes) es refl (omega (arith, new_mapped shapes, used-le (map empty_guest shapes)))

pub report_adds_up : (es : List Entry) → ReportAddsUp es
report_adds_up es hash total shapes =
    let gs = (state_after hash (empty_state total shapes) es).guests in
    record { reclaimed = omega (arith, used-le gs); shared = shared-le gs; hints = hinted-le gs }

pub report_counts_entries : (es : List Entry) → ReportCountsEntries es
report_counts_entries es hash total shapes = omega (arith, entries_counted hash (empty_state total shapes) es)
