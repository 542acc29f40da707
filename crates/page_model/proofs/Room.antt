-- A machine with a frame for each of its pages never refuses one.
use Rattle.std.proofs.Common.{◌≡◌, ℕ, zero, suc, ◌+◌, ◌<◌, ◌≤◌, Bool, true, false, cond, List, [], ◌∷◌, Option, Some, None, refl, ap, sym, ◌∙◌, ◌⊎◌, inl, inr, arith}
use Rattle.std.specs.Prelude.{slice_set, count_by, nat_eq}
use Rattle.std.specs.List.{list_any}
use Rattle.std.specs.Str.{bytes_eq}
use Rattle.std.proofs.lemmas.Bool.{cases_eq, ne_eqb, or_parts, and_from, eq-eqb, true_from_ne_false}
use Rattle.std.proofs.lemmas.Slice.Eq.{bytes_eq-Decides}
use Rattle.std.proofs.lemmas.List.Sums.{sum_by-cons}
use Rattle.page_model.specs.Pages.{Slot, Unmapped, Private, Shared, Guest, State, is_mapped, is_shared_as, any_page, count_pages, peers, used, page_at, with_slot}
use Rattle.page_model.specs.Steps.{Outcome, stored, weighed, by_hint, offered, matched, proposed, released, on_page, at_page, answered, step, counted}
use Rattle.page_model.specs.Alone.{is_no_frame}
use Rattle.page_model.specs.declared.request.Request.{Request}
use Rattle.page_model.specs.declared.request.Request.TheVariants.{Propose, Store, Load, Release, Count, Close}
use Rattle.page_model.proofs.Counts.{used-le, count_le}
use Rattle.page_model.proofs.Used.{cleared, frames_for, used_before, pages_counted, once, one}

-- every page counts
abbrev pub any : ℕ → Slot → Bool
any salt slot = true

-- how many pages there are
abbrev pub pages_in : List Guest → ℕ
pages_in gs = count_pages any gs

count_cons : (p : Slot → Bool) (s : Slot) (slots : List Slot) → count_by p (s ∷ slots) ≡ cond (p s) 1 0 + count_by p slots
count_cons p s slots = sum_by-cons (λ (x : Slot). cond (p x) 1 0) s slots

slots_stay : (slots : List Slot) (b : ℕ) (y : Slot) → count_by (any 0) (slice_set slots b y) ≡ count_by (any 0) slots
slots_stay [] b y = refl
slots_stay (s ∷ slots) zero y = omega (arith, count_cons (any 0) s slots, count_cons (any 0) y slots)
slots_stay (s ∷ slots) (suc b) y = omega (arith, slots_stay slots b y, count_cons (any 0) s slots, count_cons (any 0) s (slice_set slots b y))

-- a change of a page leaves their number
pages_stay : (gs : List Guest) (a b : ℕ) (y : Slot) → pages_in (with_slot gs a b y) ≡ pages_in gs
pages_stay [] a b y = refl
pages_stay (g ∷ gs) zero b y =
    let changed : Guest = record { salt = g.salt; slots = slice_set g.slots b y } in
    omega (arith, slots_stay g.slots b y, sum_by-cons (λ (x : Guest). count_by (any x.salt) x.slots) g gs, sum_by-cons (λ (x : Guest). count_by (any x.salt) x.slots) changed gs)
pages_stay (g ∷ gs) (suc a) b y =
    omega (arith, pages_stay gs a b y, sum_by-cons (λ (x : Guest). count_by (any x.salt) x.slots) g gs, sum_by-cons (λ (x : Guest). count_by (any x.salt) x.slots) g (with_slot gs a b y))

-- as many pages as before
record Stays (gs : List Guest) (o : Outcome) : Type 0 where
  pages : pages_in o.guests ≡ pages_in gs

either : (gs : List Guest) (t : Bool) (x y : Outcome) → Stays gs x → Stays gs y → Stays gs (cond t x y)
either gs true x y h h' = h
either gs false x y h h' = h'

still : (gs : List Guest) (o : Outcome) → o.guests ≡ gs → Stays gs o
still gs o e = record { pages = ap pages_in e }

set : (gs : List Guest) (a b : ℕ) (y : Slot) (o : Outcome) → o.guests ≡ with_slot gs a b y → Stays gs o
set gs a b y o e = record { pages = ap pages_in e ∙ pages_stay gs a b y }

set_twice : (gs : List Guest) (a b : ℕ) (y : Slot) (c d : ℕ) (z : Slot) (o : Outcome) → o.guests ≡ with_slot (with_slot gs a b y) c d z → Stays gs o
set_twice gs a b y c d z o e = record { pages = ap pages_in e ∙ pages_stay (with_slot gs a b y) c d z ∙ pages_stay gs a b y }

on_page_stays : (gs : List Guest) (f : ℕ → Slot → Outcome) (o : Option (ℕ × Slot)) → ((salt : ℕ) (slot : Slot) → Stays gs (f salt slot)) → Stays gs (on_page gs f o)
on_page_stays gs f None h = record { pages = refl }
on_page_stays gs f (Some (salt, slot)) h = h salt slot

weighed_stays : (hash : ℕ → List ℕ → ℕ) (gs : List Guest) (guest ppn salt : ℕ) (bytes : List ℕ) (key a b other_salt : ℕ) (others : List ℕ) → Stays gs (weighed hash gs guest ppn salt bytes key a b other_salt others)
unfolding weighed
weighed_stays hash gs guest ppn salt bytes key a b other_salt others =
    either gs _ _ _
    (either gs _ _ _ (set_twice gs a b (Shared others) guest ppn (Shared bytes) _ refl) (still gs _ refl))
    (set_twice gs a b (Private others None) guest ppn (Private bytes (Some key)) _ refl)

held_stays : (hash : ℕ → List ℕ → ℕ) (gs : List Guest) (guest ppn salt : ℕ) (bytes : List ℕ) (key : ℕ) (holder : Option (ℕ × ℕ)) → Stays gs (by_hint hash gs guest ppn salt bytes key holder)
unfolding by_hint
held_stays hash gs guest ppn salt bytes key None = set gs guest ppn (Private bytes (Some key)) _ refl
held_stays hash gs guest ppn salt bytes key (Some (a, b)) =
    either gs _ _ _ (still gs _ refl) (on_page_stays gs _ (page_at gs a b) (λ other_salt slot. weighed_stays hash gs guest ppn salt bytes key a b other_salt _))

matched_stays : (hash : ℕ → List ℕ → ℕ) (gs : List Guest) (guest ppn salt : ℕ) (bytes : List ℕ) (code : ℕ) → Stays gs (matched hash gs guest ppn salt bytes code)
unfolding matched offered
matched_stays hash gs guest ppn salt bytes code =
    either gs _ _ _ (set gs guest ppn (Shared bytes) _ refl)
    (either gs _ _ _ (still gs _ refl) (held_stays hash gs guest ppn salt bytes _ _))

proposed_stays : (hash : ℕ → List ℕ → ℕ) (gs : List Guest) (guest ppn salt : ℕ) (slot : Slot) → Stays gs (proposed hash gs guest ppn salt slot)
unfolding proposed
proposed_stays hash gs guest ppn salt Unmapped = still gs _ refl
proposed_stays hash gs guest ppn salt (Shared bytes) = still gs _ refl
proposed_stays hash gs guest ppn salt (Private bytes hint) =
    let rest = matched_stays hash (with_slot gs guest ppn _) guest ppn salt bytes (hash salt bytes) in
    record { pages = rest.pages ∙ pages_stay gs guest ppn _ }

stored_stays : (total : ℕ) (gs : List Guest) (a b at : ℕ) (new : List ℕ) (salt : ℕ) (slot : Slot) → Stays gs (stored total gs a b at new salt slot)
unfolding stored
stored_stays total gs a b at new salt Unmapped = either gs _ _ _ (still gs _ refl) (set gs a b _ _ refl)
stored_stays total gs a b at new salt (Private old hint) = set gs a b _ _ refl
stored_stays total gs a b at new salt (Shared old) = either gs _ _ _ (set gs a b _ _ refl) (either gs _ _ _ (still gs _ refl) (set gs a b _ _ refl))

released_stays : (gs : List Guest) (a b salt : ℕ) (slot : Slot) → Stays gs (released gs a b salt slot)
unfolding released
released_stays gs a b salt Unmapped = still gs _ refl
released_stays gs a b salt (Private old hint) = set gs a b Unmapped _ refl
released_stays gs a b salt (Shared old) = set gs a b Unmapped _ refl

answered_stays : (hash : ℕ → List ℕ → ℕ) (s : State) (asker : ℕ) (request : Request) → Stays s.guests (answered hash s asker request)
unfolding answered
answered_stays hash s asker (Propose page) = on_page_stays s.guests _ (page_at s.guests asker page) (λ salt slot. proposed_stays hash s.guests asker page salt slot)
answered_stays hash s asker (Store r) = on_page_stays s.guests _ (page_at s.guests asker r.ppn) (λ salt slot. stored_stays s.total s.guests asker r.ppn r.at r.bytes salt slot)
answered_stays hash s asker (Load r) = on_page_stays s.guests _ (page_at s.guests asker r.ppn) (λ salt slot. still s.guests _ refl)
answered_stays hash s asker (Release page) = on_page_stays s.guests _ (page_at s.guests asker page) (λ salt slot. released_stays s.guests asker page salt slot)
answered_stays hash s asker Count = still s.guests _ refl
answered_stays hash s asker Close = still s.guests _ refl

-- a request leaves the number of pages
pub step_pages : (hash : ℕ → List ℕ → ℕ) (s : State) (asker : ℕ) (request : Request) → pages_in (step hash s asker request).state.guests ≡ pages_in s.guests
unfolding step
step_pages hash s asker request = (answered_stays hash (counted s) asker request).pages

one_is : (b : Bool) → one b ≡ cond b 1 0
one_is true = refl
one_is false = refl

-- no page is counted where none passes
none_in : (p : Slot → Bool) (slots : List Slot) → list_any p slots ≡ false → count_by p slots ≡ 0
none_in p [] h = refl
none_in p (s ∷ slots) h =
    let parts = or_parts (p s) (list_any p slots) h in
    let f : one (p s) ≡ 0 = ap one parts.0 in
    omega (arith, none_in p slots parts.1, count_cons p s slots, f, one_is (p s))

none_counted : (p : ℕ → Slot → Bool) (gs : List Guest) → any_page p gs ≡ false → count_pages p gs ≡ 0
none_counted p [] h = refl
none_counted p (g ∷ gs) h =
    let parts = or_parts (list_any (p g.salt) g.slots) (any_page p gs) h in
    omega (arith, none_counted p gs parts.1, none_in (p g.salt) g.slots parts.0, sum_by-cons (λ (x : Guest). count_by (p x.salt) x.slots) g gs)

mapped_le : (gs : List Guest) → count_pages (λ _. is_mapped) gs ≤ pages_in gs
mapped_le gs = count_le is_mapped (λ _. true) at_most gs where
  at_most : (s : Slot) → cond (is_mapped s) 1 0 ≤ 1
  at_most Unmapped = omega arith
  at_most (Private bytes hint) = omega arith
  at_most (Shared bytes) = omega arith

-- while a page is unmapped, a frame is free
room_unmapped : (gs : List Guest) (a b salt : ℕ) → page_at gs a b ≡ Some (salt, Unmapped) → used gs < pages_in gs
room_unmapped gs a b salt h =
    omega (arith, used-le gs, pages_counted (λ _. is_mapped) gs a b salt Unmapped (Private [] None) h, mapped_le (with_slot gs a b (Private [] None)), pages_stay gs a b (Private [] None))

pub self_shared : (salt : ℕ) (bytes : List ℕ) → is_shared_as salt bytes salt (Shared bytes) ≡ true
self_shared salt bytes = and_from (nat_eq salt salt) (bytes_eq bytes bytes) (eq-eqb salt salt refl) ((bytes_eq-Decides bytes bytes).1 refl)

-- the other pages with its salt and bytes
pub peer_count : (gs : List Guest) (a b salt : ℕ) (old : List ℕ) → page_at gs a b ≡ Some (salt, Shared old) → count_pages (is_shared_as salt old) (cleared gs a b) + 1 ≡ peers salt old gs
peer_count gs a b salt old h =
    let self : one (is_shared_as salt old salt (Shared old)) ≡ 1 = ap one (self_shared salt old) in
    omega (arith, pages_counted (is_shared_as salt old) gs a b salt (Shared old) Unmapped h, self)

no_frame_for : (salt : ℕ) (old : List ℕ) (gs : List Guest) → any_page (is_shared_as salt old) gs ≡ true → frames_for salt (Shared old) gs ≡ 0
no_frame_for salt old gs h = ap once h

-- while a shared page has a peer, a frame is free
room_shared : (gs : List Guest) (a b salt : ℕ) (old : List ℕ) → page_at gs a b ≡ Some (salt, Shared old) → (peers salt old gs ≡ 1 → ⊥) → used gs < pages_in gs
room_shared gs a b salt old h more =
    let rest = cleared gs a b in
    let counted_here : count_pages (is_shared_as salt old) rest + 1 ≡ peers salt old gs =
    peer_count gs a b salt old h in
    let again : any_page (is_shared_as salt old) rest ≡ true =
    true_from_ne_false (any_page (is_shared_as salt old) rest) (λ none. more (sym counted_here ∙ (let e : count_pages (is_shared_as salt old) rest ≡ 0 = none_counted (is_shared_as salt old) rest none in omega arith))) in
    let free : frames_for salt (Shared old) rest ≡ 0 = no_frame_for salt old rest again in
    omega (arith, used_before gs a b salt (Shared old) h, free, used-le rest, pages_counted (λ _. is_mapped) gs a b salt (Shared old) Unmapped h, mapped_le gs)

-- so a store is never refused
refuses_none : (total : ℕ) (gs : List Guest) (a b at : ℕ) (new : List ℕ) (salt : ℕ) (slot : Slot) → pages_in gs ≤ total → page_at gs a b ≡ Some (salt, slot) → is_no_frame (stored total gs a b at new salt slot).verdict ≡ false
unfolding stored
refuses_none total gs a b at new salt Unmapped fits h =
    let room = room_unmapped gs a b salt h in
    let free : nat_eq (used gs) total ≡ false = ne_eqb (used gs) total (λ e. omega arith) in
    rw free refl
refuses_none total gs a b at new salt (Private old hint) fits h = refl
refuses_none total gs a b at new salt (Shared old) fits h = pick (cases_eq (peers salt old gs) 1) where
  pick : ((peers salt old gs ≡ 1) ⊎ (peers salt old gs ≡ 1 → ⊥)) → is_no_frame (stored total gs a b at new salt (Shared old)).verdict ≡ false
  pick (inl e) = let t : nat_eq (peers salt old gs) 1 ≡ true = eq-eqb (peers salt old gs) 1 e in rw t refl
  pick (inr e) =
      let room = room_shared gs a b salt old h e in
      let t : nat_eq (peers salt old gs) 1 ≡ false = ne_eqb (peers salt old gs) 1 e in
      let free : nat_eq (used gs) total ≡ false = ne_eqb (used gs) total (λ x. omega arith) in
      rw (t, free) refl

on_page_refuses_none : (gs : List Guest) (f : ℕ → Slot → Outcome) (o : Option (ℕ × Slot)) → ((salt : ℕ) (slot : Slot) → o ≡ Some (salt, slot) → is_no_frame (f salt slot).verdict ≡ false) → is_no_frame (on_page gs f o).verdict ≡ false
on_page_refuses_none gs f None h = refl
on_page_refuses_none gs f (Some (salt, slot)) h = h salt slot refl

-- a store where there is a frame for each page
pub store_refuses_none : (total : ℕ) (gs : List Guest) (a b at : ℕ) (new : List ℕ) → pages_in gs ≤ total → is_no_frame (at_page gs a b (λ salt slot. stored total gs a b at new salt slot)).verdict ≡ false
store_refuses_none total gs a b at new fits = on_page_refuses_none gs _ (page_at gs a b) (λ salt slot h. refuses_none total gs a b at new salt slot fits h)
