-- No key stands as a hint twice.
use Rattle.std.proofs.Common.{◌≡◌, ℕ, ◌+◌, ◌≤◌, Bool, true, false, cond, List, [], ◌∷◌, replicate, map, zero, suc, Option, Some, None, refl, ap, sym, ◌∙◌, subst, ◌⊎◌, inl, inr, arith}
use Rattle.std.specs.Prelude.{nat_eq, count_by}
use Rattle.std.proofs.lemmas.Bool.{cases_eq, eq-eqb, ne_eqb, false≢true}
use Rattle.std.proofs.lemmas.List.Sums.{sum_by-cons}
use Rattle.page_model.specs.Pages.{Slot, Unmapped, Private, Shared, Guest, State, written, has_hint, count_pages, any_page, find_page, page_at, with_slot}
use Rattle.page_model.specs.Steps.{Outcome, stored, proposed, released, on_page, answered, step, counted, kept_hint}
use Rattle.page_model.specs.Replay.{Shape, empty_guest, empty_state, state_after}
use Rattle.page_model.specs.Proposals.{OneHintAKey}
use Rattle.page_model.specs.declared.request.Entry.{Entry}
use Rattle.page_model.specs.declared.request.Request.{Request}
use Rattle.page_model.specs.declared.request.Request.TheVariants.{Propose, Store, Load, Release, Count, Close}
use Rattle.page_model.proofs.Anys.{AnyIsCount, any_is_count, none_passes}
use Rattle.page_model.proofs.Finds.{find_page_none}
use Rattle.page_model.proofs.Places.{at_same, at_other}
use Rattle.page_model.proofs.Used.{one, pages_counted}
use Rattle.page_model.proofs.Matching.{key_for, Ends, joins, clashes_shared, hints, keeps, replaces, pairs, clashes_hint, unhinted, proposed_ends}

-- how many pages are the hint under a key
abbrev pub holders : ℕ → List Guest → ℕ
holders key gs = count_pages (λ _. has_hint key) gs

-- at most one page under each key
pub record HoldsOnce (gs : List Guest) : Type 0 where
  pub each : (key : ℕ) → holders key gs ≤ 1

-- how the number changes with one page
held_change : (key : ℕ) (gs : List Guest) (a b salt : ℕ) (old new : Slot) → page_at gs a b ≡ Some (salt, old) → holders key (with_slot gs a b new) + one (has_hint key old) ≡ holders key gs + one (has_hint key new)
held_change key gs a b salt old new h = pages_counted (λ _. has_hint key) gs a b salt old new h

no_count : (t : Bool) (n : ℕ) → t ≡ false → AnyIsCount t n → n ≡ 0
no_count t n e (inl h) = absurd (false≢true (sym e ∙ h.0))
no_count t n e (inr h) = h.1

-- a search that finds no hint
none_held : (key : ℕ) (gs : List Guest) → find_page (has_hint key) gs ≡ None → holders key gs ≡ 0
none_held key gs h =
    no_count (any_page (λ _. has_hint key) gs) (holders key gs) (none_passes (λ _. has_hint key) gs (λ a b salt x e. find_page_none (has_hint key) gs a b salt x h e)) (any_is_count (λ _. has_hint key) gs)

-- a page that is a hint counts
some_held : (key : ℕ) (gs : List Guest) (a b salt : ℕ) (x : Slot) → page_at gs a b ≡ Some (salt, x) → has_hint key x ≡ true → holders key (with_slot gs a b Unmapped) + 1 ≡ holders key gs
some_held key gs a b salt x h t = let f : one (has_hint key x) ≡ 1 = ap one t in omega (arith, held_change key gs a b salt x Unmapped h, f)

-- so two pages under one key are one page
pub same_holder : (gs : List Guest) → HoldsOnce gs → (key a b s c d t : ℕ) (x y : Slot) → page_at gs a b ≡ Some (s, x) → has_hint key x ≡ true → page_at gs c d ≡ Some (t, y) → has_hint key y ≡ true → (a ≡ c) × (b ≡ d)
same_holder gs once key a b s c d t x y h hx k ky = pick (cases_eq c a) (cases_eq d b) where
  two : (c ≡ a → d ≡ b → ⊥) → ⊥
  two apart =
      let rest = with_slot gs a b Unmapped in
      let there : page_at rest c d ≡ Some (t, y) = at_other gs a b Unmapped c d apart ∙ k in
      absurd (omega (arith, once.each key, some_held key gs a b s x h hx, some_held key rest c d t y there ky))

  pick : ((c ≡ a) ⊎ (c ≡ a → ⊥)) → ((d ≡ b) ⊎ (d ≡ b → ⊥)) → (a ≡ c) × (b ≡ d)
  pick (inl e) (inl f) = (sym e, sym f)
  pick (inl e) (inr f) = absurd (two (λ _ q. f q))
  pick (inr e) y' = absurd (two (λ q _. e q))

-- a page that is no more a hint than it was
pub keeps_once : (gs : List Guest) (a b salt : ℕ) (old new : Slot) → page_at gs a b ≡ Some (salt, old) → ((key : ℕ) → one (has_hint key new) ≤ one (has_hint key old)) → HoldsOnce gs → HoldsOnce (with_slot gs a b new)
keeps_once gs a b salt old new h less once = record { each = λ key. omega (arith, held_change key gs a b salt old new h, less key, once.each key) }

no_hint : (key : ℕ) (old : Slot) → 0 ≤ one (has_hint key old)
no_hint key old = omega arith

-- a page that becomes the hint under a key with none
gives_once : (gs : List Guest) (a b salt : ℕ) (old : Slot) (bytes : List ℕ) (key : ℕ) → page_at gs a b ≡ Some (salt, old) → holders key gs ≡ 0 → HoldsOnce gs → HoldsOnce (with_slot gs a b (Private bytes (Some key)))
gives_once gs a b salt old bytes key h none once = record { each = λ k. pick k (cases_eq key k) } where
  pick : (k : ℕ) → ((key ≡ k) ⊎ (key ≡ k → ⊥)) → holders k (with_slot gs a b (Private bytes (Some key))) ≤ 1
  pick k (inl e) =
      let empty : holders k gs ≡ 0 = ap (λ i. holders i gs) (sym e) ∙ none in
      let f : one (nat_eq key k) ≡ 1 = ap one (eq-eqb key k e) in
      omega (arith, held_change k gs a b salt old (Private bytes (Some key)) h, empty, f)
  pick k (inr e) =
      let f : one (nat_eq key k) ≡ 0 = ap one (ne_eqb key k e) in
      omega (arith, held_change k gs a b salt old (Private bytes (Some key)) h, once.each k, f)

fewer_kept : (k key : ℕ) (bytes : List ℕ) (hint : Option ℕ) → one (has_hint k (Private bytes (kept_hint key hint))) ≤ one (has_hint k (Private bytes hint))
fewer_kept k key bytes None = omega arith
fewer_kept k key bytes (Some own) = pick (nat_eq own key) where
  pick : (t : Bool) → one (has_hint k (Private bytes (cond t (Some own) None))) ≤ one (has_hint k (Private bytes (Some own)))
  pick true = omega arith
  pick false = omega arith

same_kept : (k : ℕ) (old new : List ℕ) (hint : Option ℕ) → one (has_hint k (Private new hint)) ≤ one (has_hint k (Private old hint))
same_kept k old new None = omega arith
same_kept k old new (Some own) = omega arith

pub unhinted_once : (hash : ℕ → List ℕ → ℕ) (gs : List Guest) (g p salt : ℕ) (bytes : List ℕ) (hint : Option ℕ) → page_at gs g p ≡ Some (salt, Private bytes hint) → HoldsOnce gs → HoldsOnce (unhinted hash gs g p salt bytes hint)
unhinted_once hash gs g p salt bytes hint h once = keeps_once gs g p salt (Private bytes hint) _ h (λ k. fewer_kept k (key_for hash salt bytes) bytes hint) once

-- what a request keeps
record Once (gs : List Guest) (o : Outcome) : Type 0 where
  after : HoldsOnce gs → HoldsOnce o.guests

same_once : (gs new : List Guest) → new ≡ gs → HoldsOnce gs → HoldsOnce new
same_once gs new e once = subst HoldsOnce (sym e) once

still : (gs : List Guest) (o : Outcome) → o.guests ≡ gs → Once gs o
still gs o e = record { after = same_once gs o.guests e }

either : (gs : List Guest) (t : Bool) (x y : Outcome) → Once gs x → Once gs y → Once gs (cond t x y)
either gs true x y h k = h
either gs false x y h k = k

ends_once : (hash : ℕ → List ℕ → ℕ) (gs : List Guest) (g p salt : ℕ) (bytes : List ℕ) (hint : Option ℕ) (o : Outcome) → page_at gs g p ≡ Some (salt, Private bytes hint) → Ends hash gs g p salt bytes o → HoldsOnce gs → HoldsOnce o.guests
ends_once hash gs g p salt bytes hint o h (joins e now) once = same_once _ _ now (keeps_once gs g p salt (Private bytes hint) (Shared bytes) h (λ k. no_hint k (Private bytes hint)) once)
ends_once hash gs g p salt bytes hint o h (clashes_shared e f now) once = same_once _ _ now once
ends_once hash gs g p salt bytes hint o h (hints un e now) once = same_once _ _ now (gives_once gs g p salt (Private bytes hint) bytes (key_for hash salt bytes) h (none_held (key_for hash salt bytes) gs e) once)
ends_once hash gs g p salt bytes hint o h (keeps un e now) once = same_once _ _ now once
ends_once hash gs g p salt bytes hint o h (replaces un w ne now) once =
    let key = key_for hash salt bytes in
    let left = with_slot gs w.guest w.ppn (Private w.bytes None) in
    let own : page_at left g p ≡ Some (salt, Private bytes hint) = at_other gs w.guest w.ppn (Private w.bytes None) g p (λ i j. w.apart (sym i) (sym j)) ∙ h in
    let f : one (nat_eq key key) ≡ 1 = ap one (eq-eqb key key refl) in
    let none : holders key left ≡ 0 = omega (arith, held_change key gs w.guest w.ppn w.salt (Private w.bytes (Some key)) (Private w.bytes None) w.at, f, once.each key) in
    let first : HoldsOnce left = keeps_once gs w.guest w.ppn w.salt (Private w.bytes (Some key)) (Private w.bytes None) w.at (λ k. no_hint k (Private w.bytes (Some key))) once in
    same_once _ _ now (gives_once left g p salt (Private bytes hint) bytes key own none first)
ends_once hash gs g p salt bytes hint o h (pairs un w s t now) once =
    let key = key_for hash salt bytes in
    let left = with_slot gs w.guest w.ppn (Shared w.bytes) in
    let own : page_at left g p ≡ Some (salt, Private bytes hint) = at_other gs w.guest w.ppn (Shared w.bytes) g p (λ i j. w.apart (sym i) (sym j)) ∙ h in
    let first : HoldsOnce left = keeps_once gs w.guest w.ppn w.salt (Private w.bytes (Some key)) (Shared w.bytes) w.at (λ k. no_hint k (Private w.bytes (Some key))) once in
    same_once _ _ now (keeps_once left g p salt (Private bytes hint) (Shared bytes) own (λ k. no_hint k (Private bytes hint)) first)
ends_once hash gs g p salt bytes hint o h (clashes_hint un w e ne now) once = same_once _ _ now once

proposed_once : (hash : ℕ → List ℕ → ℕ) (gs : List Guest) (g p salt : ℕ) (slot : Slot) → page_at gs g p ≡ Some (salt, slot) → Once gs (proposed hash gs g p salt slot)
unfolding proposed
proposed_once hash gs g p salt Unmapped h = still gs _ refl
proposed_once hash gs g p salt (Shared bytes) h = still gs _ refl
proposed_once hash gs g p salt (Private bytes hint) h = record {
  after = λ once.
      ends_once hash (unhinted hash gs g p salt bytes hint) g p salt bytes (kept_hint (key_for hash salt bytes) hint) _ (at_same gs g p salt (Private bytes hint) _ h)
      (proposed_ends hash gs g p salt bytes hint h) (unhinted_once hash gs g p salt bytes hint h once);
}

-- a page that is written or given up
set_once : (gs : List Guest) (a b salt : ℕ) (old new : Slot) (o : Outcome) → page_at gs a b ≡ Some (salt, old) → o.guests ≡ with_slot gs a b new → ((key : ℕ) → one (has_hint key new) ≤ one (has_hint key old)) → Once gs o
set_once gs a b salt old new o h now less = record { after = λ once. same_once _ _ now (keeps_once gs a b salt old new h less once) }

stored_once : (total : ℕ) (gs : List Guest) (a b at : ℕ) (bytes : List ℕ) (salt : ℕ) (slot : Slot) → page_at gs a b ≡ Some (salt, slot) → Once gs (stored total gs a b at bytes salt slot)
unfolding stored
stored_once total gs a b at bytes salt Unmapped h = either gs _ _ _ (still gs _ refl) (set_once gs a b salt Unmapped (Private _ None) _ h refl (λ k. no_hint k Unmapped))
stored_once total gs a b at bytes salt (Private old hint) h = set_once gs a b salt (Private old hint) (Private _ hint) _ h refl (λ k. same_kept k old (written old at bytes) hint)
stored_once total gs a b at bytes salt (Shared old) h =
    either gs _ _ _ (set_once gs a b salt (Shared old) (Private _ None) _ h refl (λ k. no_hint k (Shared old)))
    (either gs _ _ _ (still gs _ refl) (set_once gs a b salt (Shared old) (Private _ None) _ h refl (λ k. no_hint k (Shared old))))

released_once : (gs : List Guest) (a b salt : ℕ) (slot : Slot) → page_at gs a b ≡ Some (salt, slot) → Once gs (released gs a b salt slot)
unfolding released
released_once gs a b salt Unmapped h = still gs _ refl
released_once gs a b salt (Private old hint) h = set_once gs a b salt (Private old hint) Unmapped _ h refl (λ k. no_hint k (Private old hint))
released_once gs a b salt (Shared old) h = set_once gs a b salt (Shared old) Unmapped _ h refl (λ k. no_hint k (Shared old))

on_page_once : (gs : List Guest) (f : ℕ → Slot → Outcome) (o : Option (ℕ × Slot)) → ((salt : ℕ) (slot : Slot) → o ≡ Some (salt, slot) → Once gs (f salt slot)) → Once gs (on_page gs f o)
on_page_once gs f None h = still gs _ refl
on_page_once gs f (Some (salt, slot)) h = h salt slot refl

answered_once : (hash : ℕ → List ℕ → ℕ) (s : State) (asker : ℕ) (request : Request) → Once s.guests (answered hash s asker request)
unfolding answered
answered_once hash s asker (Propose page) = on_page_once s.guests _ (page_at s.guests asker page) (λ salt slot h. proposed_once hash s.guests asker page salt slot h)
answered_once hash s asker (Store r) = on_page_once s.guests _ (page_at s.guests asker r.ppn) (λ salt slot h. stored_once s.total s.guests asker r.ppn r.at r.bytes salt slot h)
answered_once hash s asker (Load r) = on_page_once s.guests _ (page_at s.guests asker r.ppn) (λ salt slot h. still s.guests _ refl)
answered_once hash s asker (Release page) = on_page_once s.guests _ (page_at s.guests asker page) (λ salt slot h. released_once s.guests asker page salt slot h)
answered_once hash s asker Count = still s.guests _ refl
answered_once hash s asker Close = still s.guests _ refl

pub step_once : (hash : ℕ → List ℕ → ℕ) (s : State) (asker : ℕ) (request : Request) → HoldsOnce s.guests → HoldsOnce (step hash s asker request).state.guests
unfolding step
step_once hash s asker request once = (answered_once hash (counted s) asker request).after once

run_once : (hash : ℕ → List ℕ → ℕ) (s : State) (es : List Entry) → HoldsOnce s.guests → HoldsOnce (state_after hash s es).guests
unfolding state_after
run_once hash s [] once = once
run_once hash s (e ∷ es) once = run_once hash (step hash s e.guest e.request).state es (step_once hash s e.guest e.request once)

-- a new machine has no hint
new_slots : (key n : ℕ) → count_by (has_hint key) (replicate n Unmapped) ≡ 0
new_slots key zero = refl
new_slots key (suc n) = omega (arith, new_slots key n, sum_by-cons (λ (x : Slot). cond (has_hint key x) 1 0) Unmapped (replicate n Unmapped))

new_holders : (key : ℕ) (shapes : List Shape) → holders key (map empty_guest shapes) ≡ 0
new_holders key [] = refl
new_holders key (x ∷ shapes) = omega (arith, new_slots key x.pages, new_holders key shapes, sum_by-cons (λ (g : Guest). count_by (has_hint key) g.slots) (empty_guest x) (map empty_guest shapes))

pub reachable_once : (hash : ℕ → List ℕ → ℕ) (total : ℕ) (shapes : List Shape) (es : List Entry) → HoldsOnce (state_after hash (empty_state total shapes) es).guests
reachable_once hash total shapes es = run_once hash (empty_state total shapes) es (record { each = λ key. omega (arith, new_holders key shapes) })

pub one_hint_a_key : (es : List Entry) → OneHintAKey es
one_hint_a_key es hash total shapes key = (reachable_once hash total shapes es).each key
