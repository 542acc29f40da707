-- Two pages of equal content are shared once both were proposed.
use Rattle.std.proofs.Common.{◌≡◌, ℕ, ◌≤◌, Bool, true, false, List, [], ◌∷◌, Option, Some, None, refl, ap, sym, ◌∙◌, subst, ◌⊎◌, inl, inr, arith}
use Rattle.std.proofs.lemmas.Bool.{cases_eq, eqb-true, eq-eqb, false≢true}
use Rattle.page_model.specs.Pages.{Slot, Unmapped, Private, Shared, Guest, State, bytes_of, is_mapped, has_hint, is_shared_as, is_shared_under, any_page, count_pages, page_at, with_slot}
use Rattle.page_model.specs.Steps.{Outcome, proposed, on_page, answered, step, key_of, kept_hint}
use Rattle.page_model.specs.Replay.{empty_state, state_after}
use Rattle.page_model.specs.Proposals.{HasContent, HasOwnKey, EqualPagesShare}
use Rattle.page_model.specs.declared.request.Entry.{Entry}
use Rattle.page_model.specs.declared.request.Request.TheVariants.{Propose}
use Rattle.page_model.proofs.Anys.{AnyIsCount, any_is_count, page_passing}
use Rattle.page_model.proofs.Finds.{find_page_none}
use Rattle.page_model.proofs.Places.{at_same, at_other, Changed, here, elsewhere, same_page, at_changed}
use Rattle.page_model.proofs.Room.{self_shared}
use Rattle.page_model.proofs.Used.{one, pages_counted}
use Rattle.page_model.proofs.Matching.{key_for, Unmatched, Holder, Ends, joins, clashes_shared, hints, keeps, replaces, pairs, clashes_hint, unhinted, proposed_ends}
use Rattle.page_model.proofs.Hints.{HoldsOnce, same_holder, unhinted_once, step_once, reachable_once}

-- a page with a frame is shared or private
data Present (gs : List Guest) (g p salt : ℕ) (bytes : List ℕ) : Type 0 where
  is_shared : page_at gs g p ≡ Some (salt, Shared bytes) → Present gs g p salt bytes
  is_private : (hint : Option ℕ) → page_at gs g p ≡ Some (salt, Private bytes hint) → Present gs g p salt bytes

slot_is : (gs : List Guest) (g p salt : ℕ) (x y : Slot) → page_at gs g p ≡ Some (salt, x) → x ≡ y → page_at gs g p ≡ Some (salt, y)
slot_is gs g p salt x y h e = h ∙ ap (λ (z : Slot). let w : ℕ × Slot = (salt, z) in Some w) e

present_as : (gs : List Guest) (g p salt : ℕ) (bytes : List ℕ) (slot : Slot) → page_at gs g p ≡ Some (salt, slot) → is_mapped slot ≡ true → bytes_of slot ≡ bytes → Present gs g p salt bytes
present_as gs g p salt bytes Unmapped h m e = absurd (false≢true m)
present_as gs g p salt bytes (Private old hint) h m e = is_private hint (slot_is gs g p salt _ _ h (ap (λ b. Private b hint) e))
present_as gs g p salt bytes (Shared old) h m e = is_shared (slot_is gs g p salt _ _ h (ap Shared e))

present : (gs : List Guest) (g p salt : ℕ) (bytes : List ℕ) → HasContent gs g p salt bytes → Present gs g p salt bytes
present gs g p salt bytes c = present_as gs g p salt bytes c.slot c.at c.mapped c.is

-- a change of one page that keeps its content keeps that of every page
content_kept : (gs : List Guest) (a b t : ℕ) (old new : Slot) → page_at gs a b ≡ Some (t, old) → is_mapped new ≡ true → bytes_of new ≡ bytes_of old → (g p salt : ℕ) (bytes : List ℕ) → HasContent gs g p salt bytes → HasContent (with_slot gs a b new) g p salt bytes
content_kept gs a b t old new h m e g p salt bytes c = pick (cases_eq g a) (cases_eq p b) where
  apart_case : (g ≡ a → p ≡ b → ⊥) → HasContent (with_slot gs a b new) g p salt bytes
  apart_case apart = record { slot = c.slot; at = at_other gs a b new g p apart ∙ c.at; mapped = c.mapped; is = c.is }

  pick : ((g ≡ a) ⊎ (g ≡ a → ⊥)) → ((p ≡ b) ⊎ (p ≡ b → ⊥)) → HasContent (with_slot gs a b new) g p salt bytes
  pick (inl i) (inl j) =
      let mine : page_at gs a b ≡ Some (salt, c.slot) = ap (λ x. page_at gs x b) (sym i) ∙ ap (page_at gs g) (sym j) ∙ c.at in
      let same = same_page (page_at gs a b) t salt old c.slot h mine in
      let now : page_at (with_slot gs a b new) g p ≡ Some (t, new) = ap (λ x. page_at (with_slot gs a b new) x p) i ∙ ap (page_at (with_slot gs a b new) a) j ∙ at_same gs a b t old new h in
      record { slot = new; at = now ∙ ap (λ (x : ℕ). let w : ℕ × Slot = (x, new) in Some w) same.0; mapped = m; is = e ∙ ap bytes_of same.1 ∙ c.is }
  pick (inl i) (inr j) = apart_case (λ _ q. j q)
  pick (inr i) y = apart_case (λ q _. i q)

-- a shared page is found by its content
any_of_some : (t : Bool) (n : ℕ) → 1 ≤ n → AnyIsCount t n → t ≡ true
any_of_some t n some (inl h) = h.0
any_of_some t n some (inr h) = absurd (let none = h.1 in omega arith)

shared_found : (gs : List Guest) (g p salt : ℕ) (bytes : List ℕ) → page_at gs g p ≡ Some (salt, Shared bytes) → any_page (is_shared_as salt bytes) gs ≡ true
shared_found gs g p salt bytes h =
    let q = is_shared_as salt bytes in
    let self : one (q salt (Shared bytes)) ≡ 1 = ap one (self_shared salt bytes) in
    any_of_some (any_page q gs) (count_pages q gs) (omega (arith, pages_counted q gs g p salt (Shared bytes) Unmapped h, self)) (any_is_count q gs)

-- a page that does not pass before or after its change makes no page pass
none_of_none : (t : Bool) (n : ℕ) → n ≡ 0 → AnyIsCount t n → t ≡ false
none_of_none t n none (inl h) = absurd (let some = h.1 in omega arith)
none_of_none t n none (inr h) = h.0

count_of_none : (t : Bool) (n : ℕ) → t ≡ false → AnyIsCount t n → n ≡ 0
count_of_none t n e (inl h) = absurd (false≢true (sym e ∙ h.0))
count_of_none t n e (inr h) = h.1

stays_false : (q : ℕ → Slot → Bool) (gs : List Guest) (a b t : ℕ) (old new : Slot) → page_at gs a b ≡ Some (t, old) → q t new ≡ false → any_page q gs ≡ false → any_page q (with_slot gs a b new) ≡ false
stays_false q gs a b t old new h now none =
    let before : count_pages q gs ≡ 0 = count_of_none (any_page q gs) (count_pages q gs) none (any_is_count q gs) in
    let f : one (q t new) ≡ 0 = ap one now in
    none_of_none (any_page q (with_slot gs a b new)) (count_pages q (with_slot gs a b new)) (omega (arith, pages_counted q gs a b t old new h, f)) (any_is_count q (with_slot gs a b new))

still_unmatched : (hash : ℕ → List ℕ → ℕ) (gs : List Guest) (salt : ℕ) (bytes : List ℕ) (a b t : ℕ) (old : Slot) (new : List ℕ) (hint : Option ℕ) → page_at gs a b ≡ Some (t, old) → Unmatched hash gs salt bytes → Unmatched hash (with_slot gs a b (Private new hint)) salt bytes
still_unmatched hash gs salt bytes a b t old new hint h un = record {
  content = stays_false (is_shared_as salt bytes) gs a b t old (Private new hint) h refl un.content;
  code = stays_false (is_shared_under hash (hash salt bytes)) gs a b t old (Private new hint) h refl un.code;
}

-- a shared page under the hash of a content with its own key has this content
own_under : (hash : ℕ → List ℕ → ℕ) (gs : List Guest) (salt : ℕ) (bytes : List ℕ) → HasOwnKey hash gs salt bytes → (a b t : ℕ) (slot : Slot) → page_at gs a b ≡ Some (t, slot) → is_shared_under hash (hash salt bytes) t slot ≡ true → any_page (is_shared_as salt bytes) gs ≡ true
own_under hash gs salt bytes own a b t Unmapped h e = absurd (false≢true e)
own_under hash gs salt bytes own a b t (Private old hint) h e = absurd (false≢true e)
own_under hash gs salt bytes own a b t (Shared old) h e =
    let same = own a b t old (record { slot = Shared old; at = h; mapped = refl; is = refl }) (ap key_of (eqb-true _ _ e)) in
    let at : page_at gs a b ≡ Some (salt, Shared bytes) = slot_is gs a b t _ _ h (ap Shared same.1) ∙ ap (λ (x : ℕ). let w : ℕ × Slot = (x, Shared bytes) in Some w) same.0 in
    shared_found gs a b salt bytes at

no_clash : (hash : ℕ → List ℕ → ℕ) (gs : List Guest) (salt : ℕ) (bytes : List ℕ) → HasOwnKey hash gs salt bytes → any_page (is_shared_as salt bytes) gs ≡ false → any_page (is_shared_under hash (hash salt bytes)) gs ≡ true → ⊥
no_clash hash gs salt bytes own none some =
    let w = page_passing (is_shared_under hash (hash salt bytes)) gs some in
    false≢true (sym none ∙ own_under hash gs salt bytes own w.guest w.ppn w.salt w.slot w.at w.passes)

-- the key stays the content's own once a hint of the page is gone
own_unhinted : (hash : ℕ → List ℕ → ℕ) (gs : List Guest) (g p salt : ℕ) (bytes : List ℕ) (hint : Option ℕ) → page_at gs g p ≡ Some (salt, Private bytes hint) → HasOwnKey hash gs salt bytes → HasOwnKey hash (unhinted hash gs g p salt bytes hint) salt bytes
own_unhinted hash gs g p salt bytes hint h own a b t others c e = pick (at_changed gs g p salt (Private bytes hint) (Private bytes (kept_hint (key_for hash salt bytes) hint)) h a b t c.slot c.at) where
  pick : Changed gs g p salt (Private bytes (kept_hint (key_for hash salt bytes) hint)) a b t c.slot → (t ≡ salt) × (others ≡ bytes)
  pick (here i j s x) = (s, sym c.is ∙ ap bytes_of x)
  pick (elsewhere apart at) = own a b t others (record { slot = c.slot; at = at; mapped = c.mapped; is = c.is }) e

-- what the first of two proposals leaves: its page is shared, or the hint of its content
data Ready (hash : ℕ → List ℕ → ℕ) (gs : List Guest) (g p h q salt : ℕ) (bytes : List ℕ) : Type 0 where
  first_shared : page_at gs g p ≡ Some (salt, Shared bytes) → HasContent gs h q salt bytes → Ready hash gs g p h q salt bytes
  first_hinted : page_at gs g p ≡ Some (salt, Private bytes (Some (key_for hash salt bytes))) → (hint : Option ℕ) → page_at gs h q ≡ Some (salt, Private bytes hint) → Unmatched hash gs salt bytes → Ready hash gs g p h q salt bytes

-- a hint whose content has another key is another page
other_content : (hash : ℕ → List ℕ → ℕ) (gs : List Guest) (g p h q salt : ℕ) (bytes : List ℕ) (hint : Option ℕ)
    → page_at gs h q ≡ Some (salt, Private bytes hint) → (w : Holder gs g p (key_for hash salt bytes))
    → (key_for hash w.salt w.bytes ≡ key_for hash salt bytes → ⊥) → h ≡ w.guest → q ≡ w.ppn → ⊥
other_content hash gs g p h q salt bytes hint at w ne i j =
    let mine : page_at gs h q ≡ Some (w.salt, Private w.bytes (Some (key_for hash salt bytes))) = ap (λ x. page_at gs x q) i ∙ ap (page_at gs w.guest) j ∙ w.at in
    let same = same_page (page_at gs h q) w.salt salt (Private w.bytes (Some (key_for hash salt bytes))) (Private bytes hint) mine at in
    ne (ap (λ x. key_for hash x w.bytes) same.0 ∙ ap (λ x. key_for hash salt x) (ap bytes_of same.1))

private_of : (gs : List Guest) (g p salt : ℕ) (bytes : List ℕ) → any_page (is_shared_as salt bytes) gs ≡ false → HasContent gs g p salt bytes → (hint : Option ℕ) × (page_at gs g p ≡ Some (salt, Private bytes hint))
private_of gs g p salt bytes none c = pick (present gs g p salt bytes c) where
  pick : Present gs g p salt bytes → (hint : Option ℕ) × (page_at gs g p ≡ Some (salt, Private bytes hint))
  pick (is_shared at) = absurd (false≢true (sym none ∙ shared_found gs g p salt bytes at))
  pick (is_private hint at) = (hint, at)

first_ends : (hash : ℕ → List ℕ → ℕ) (gs : List Guest) (g p h q salt : ℕ) (bytes : List ℕ) (hint : Option ℕ) (o : Outcome) → (g ≡ h → p ≡ q → ⊥)
    → page_at gs g p ≡ Some (salt, Private bytes hint) → HasContent gs h q salt bytes → HasOwnKey hash gs salt bytes → Ends hash gs g p salt bytes o
    → Ready hash o.guests g p h q salt bytes
first_ends hash gs g p h q salt bytes hint o apart at c own ends = pick ends where
  key : ℕ
  key = key_for hash salt bytes

  back : h ≡ g → q ≡ p → ⊥
  back i j = apart (sym i) (sym j)

  moved : (new : List Guest) → o.guests ≡ new → Ready hash new g p h q salt bytes → Ready hash o.guests g p h q salt bytes
  moved new now r = subst (λ n. Ready hash n g p h q salt bytes) (sym now) r

  pick : Ends hash gs g p salt bytes o → Ready hash o.guests g p h q salt bytes
  pick (joins e now) =
      moved _ now (first_shared (at_same gs g p salt (Private bytes hint) (Shared bytes) at) (content_kept gs g p salt (Private bytes hint) (Shared bytes) at refl refl h q salt bytes c))
  pick (clashes_shared e f now) = absurd (no_clash hash gs salt bytes own e f)
  pick (hints un e now) =
      let two = private_of gs h q salt bytes un.content c in
      moved _ now (first_hinted (at_same gs g p salt (Private bytes hint) (Private bytes (Some key)) at) two.0 (at_other gs g p (Private bytes (Some key)) h q back ∙ two.1)
      (still_unmatched hash gs salt bytes g p salt (Private bytes hint) bytes (Some key) at un))
  pick (keeps un e now) =
      let two = private_of gs h q salt bytes un.content c in
      moved _ now (first_hinted e two.0 two.1 un)
  pick (replaces un w ne now) =
      let two = private_of gs h q salt bytes un.content c in
      let stale : Slot = Private w.bytes None in
      let left = with_slot gs w.guest w.ppn stale in
      let mine : page_at left g p ≡ Some (salt, Private bytes hint) = at_other gs w.guest w.ppn stale g p (λ i j. w.apart (sym i) (sym j)) ∙ at in
      let other : page_at left h q ≡ Some (salt, Private bytes two.0) = at_other gs w.guest w.ppn stale h q (other_content hash gs g p h q salt bytes two.0 two.1 w ne) ∙ two.1 in
      let un2 : Unmatched hash left salt bytes = still_unmatched hash gs salt bytes w.guest w.ppn w.salt (Private w.bytes (Some key)) w.bytes None w.at un in
      moved _ now (first_hinted (at_same left g p salt (Private bytes hint) (Private bytes (Some key)) mine) two.0 (at_other left g p (Private bytes (Some key)) h q back ∙ other)
      (still_unmatched hash left salt bytes g p salt (Private bytes hint) bytes (Some key) mine un2))
  pick (pairs un w s t now) =
      let left = with_slot gs w.guest w.ppn (Shared w.bytes) in
      let mine : page_at left g p ≡ Some (salt, Private bytes hint) = at_other gs w.guest w.ppn (Shared w.bytes) g p (λ i j. w.apart (sym i) (sym j)) ∙ at in
      let c2 : HasContent left h q salt bytes = content_kept gs w.guest w.ppn w.salt (Private w.bytes (Some key)) (Shared w.bytes) w.at refl refl h q salt bytes c in
      moved _ now (first_shared (at_same left g p salt (Private bytes hint) (Shared bytes) mine) (content_kept left g p salt (Private bytes hint) (Shared bytes) mine refl refl h q salt bytes c2))
  pick (clashes_hint un w e ne now) =
      let same = own w.guest w.ppn w.salt w.bytes (record { slot = Private w.bytes (Some key); at = w.at; mapped = refl; is = refl }) e in
      absurd (ne same.0 same.1)

-- both pages are shared
record BothShared (gs : List Guest) (g p h q salt : ℕ) (bytes : List ℕ) : Type 0 where
  first : page_at gs g p ≡ Some (salt, Shared bytes)
  second : page_at gs h q ≡ Some (salt, Shared bytes)

-- the second proposal finds its content among the shared pages
second_joins : (hash : ℕ → List ℕ → ℕ) (gs : List Guest) (g p h q salt : ℕ) (bytes : List ℕ) (hint : Option ℕ) (o : Outcome) → (g ≡ h → p ≡ q → ⊥)
    → page_at gs g p ≡ Some (salt, Shared bytes) → page_at gs h q ≡ Some (salt, Private bytes hint) → Ends hash gs h q salt bytes o
    → BothShared o.guests g p h q salt bytes
second_joins hash gs g p h q salt bytes hint o apart one two ends = pick ends where
  refuted : any_page (is_shared_as salt bytes) gs ≡ false → ⊥
  refuted none = false≢true (sym none ∙ shared_found gs g p salt bytes one)

  pick : Ends hash gs h q salt bytes o → BothShared o.guests g p h q salt bytes
  pick (joins e now) = record {
    first = ap (λ n. page_at n g p) now ∙ at_other gs h q (Shared bytes) g p apart ∙ one;
    second = ap (λ n. page_at n h q) now ∙ at_same gs h q salt (Private bytes hint) (Shared bytes) two;
  }
  pick (clashes_shared e f now) = absurd (refuted e)
  pick (hints un e now) = absurd (refuted un.content)
  pick (keeps un e now) = absurd (refuted un.content)
  pick (replaces un w ne now) = absurd (refuted un.content)
  pick (pairs un w s t now) = absurd (refuted un.content)
  pick (clashes_hint un w e ne now) = absurd (refuted un.content)

-- the second proposal finds the first page as the hint
second_pairs : (hash : ℕ → List ℕ → ℕ) (gs : List Guest) (g p h q salt : ℕ) (bytes : List ℕ) (hint : Option ℕ) (o : Outcome) → (g ≡ h → p ≡ q → ⊥)
    → HoldsOnce gs → page_at gs g p ≡ Some (salt, Private bytes (Some (key_for hash salt bytes))) → page_at gs h q ≡ Some (salt, Private bytes hint)
    → Unmatched hash gs salt bytes → Ends hash gs h q salt bytes o → BothShared o.guests g p h q salt bytes
second_pairs hash gs g p h q salt bytes hint o apart once at two un ends = pick ends where
  key : ℕ
  key = key_for hash salt bytes

  held : has_hint key (Private bytes (Some key)) ≡ true
  held = eq-eqb key key refl

  -- the hint that it finds
  place : (w : Holder gs h q key) → (g ≡ w.guest) × (p ≡ w.ppn)
  place w = same_holder gs once key g p salt w.guest w.ppn w.salt (Private bytes (Some key)) (Private w.bytes (Some key)) at held w.at held

  found : (w : Holder gs h q key) → (w.salt ≡ salt) × (w.bytes ≡ bytes)
  found w =
      let there = place w in
      let mine : page_at gs g p ≡ Some (w.salt, Private w.bytes (Some key)) = ap (λ x. page_at gs x p) there.0 ∙ ap (page_at gs w.guest) there.1 ∙ w.at in
      let same = same_page (page_at gs g p) w.salt salt (Private w.bytes (Some key)) (Private bytes (Some key)) mine at in
      (same.0, ap bytes_of same.1)

  pick : Ends hash gs h q salt bytes o → BothShared o.guests g p h q salt bytes
  pick (joins e now) = absurd (false≢true (sym un.content ∙ e))
  pick (clashes_shared e f now) = absurd (false≢true (sym un.code ∙ f))
  pick (hints u e now) = absurd (false≢true (sym (find_page_none (has_hint key) gs g p salt (Private bytes (Some key)) e at) ∙ held))
  pick (keeps u e now) = let same = same_holder gs once key g p salt h q salt (Private bytes (Some key)) (Private bytes (Some key)) at held e held in absurd (apart same.0 same.1)
  pick (replaces u w ne now) = let same = found w in absurd (ne (ap (λ x. key_for hash x w.bytes) same.0 ∙ ap (λ x. key_for hash salt x) same.1))
  pick (pairs u w s t now) =
      let there = place w in
      let same = found w in
      let left = with_slot gs w.guest w.ppn (Shared w.bytes) in
      let shared : page_at left w.guest w.ppn ≡ Some (w.salt, Shared w.bytes) = at_same gs w.guest w.ppn w.salt (Private w.bytes (Some key)) (Shared w.bytes) w.at in
      let mine : page_at left g p ≡ Some (w.salt, Shared w.bytes) = ap (λ x. page_at left x p) there.0 ∙ ap (page_at left w.guest) there.1 ∙ shared in
      let other : page_at left h q ≡ Some (salt, Private bytes hint) = at_other gs w.guest w.ppn (Shared w.bytes) h q (λ i j. w.apart (sym i) (sym j)) ∙ two in
      record {
        first = ap (λ n. page_at n g p) now ∙ at_other left h q (Shared bytes) g p apart ∙ slot_is left g p w.salt _ _ mine (ap Shared same.1) ∙ ap (λ (x : ℕ). let y : ℕ × Slot = (x, Shared bytes) in Some y) same.0;
        second = ap (λ n. page_at n h q) now ∙ at_same left h q salt (Private bytes hint) (Shared bytes) other;
      }
  pick (clashes_hint u w e ne now) = let same = found w in absurd (ne same.0 same.1)

-- a proposal of a page with a frame
record Proposes (hash : ℕ → List ℕ → ℕ) (s : State) (g p salt : ℕ) (slot : Slot) : Type 0 where
  is : (step hash s g (Propose p)).state.guests ≡ (proposed hash s.guests g p salt slot).guests

proposes : (hash : ℕ → List ℕ → ℕ) (s : State) (g p salt : ℕ) (slot : Slot) → page_at s.guests g p ≡ Some (salt, slot) → Proposes hash s g p salt slot
unfolding step answered
proposes hash s g p salt slot h = record { is = ap (λ o. (on_page s.guests (λ (t : ℕ) (x : Slot). proposed hash s.guests g p t x) o).guests) h }

shared_stays : (hash : ℕ → List ℕ → ℕ) (gs : List Guest) (g p salt : ℕ) (bytes : List ℕ) → (proposed hash gs g p salt (Shared bytes)).guests ≡ gs
unfolding proposed
shared_stays hash gs g p salt bytes = refl

first_step : (hash : ℕ → List ℕ → ℕ) (s : State) (g p h q salt : ℕ) (bytes : List ℕ) → (g ≡ h → p ≡ q → ⊥) → HasContent s.guests g p salt bytes → HasContent s.guests h q salt bytes → HasOwnKey hash s.guests salt bytes → Ready hash (step hash s g (Propose p)).state.guests g p h q salt bytes
first_step hash s g p h q salt bytes apart one two own = pick (present s.guests g p salt bytes one) where
  Goal : List Guest → Type 0
  Goal gs = Ready hash gs g p h q salt bytes

  pick : Present s.guests g p salt bytes → Goal (step hash s g (Propose p)).state.guests
  pick (is_shared at) =
      subst Goal (sym ((proposes hash s g p salt (Shared bytes) at).is ∙ shared_stays hash s.guests g p salt bytes)) (first_shared at two)
  pick (is_private hint at) =
      let kept = kept_hint (key_for hash salt bytes) hint in
      let left = unhinted hash s.guests g p salt bytes hint in
      let c : HasContent left h q salt bytes = content_kept s.guests g p salt (Private bytes hint) (Private bytes kept) at refl refl h q salt bytes two in
      subst Goal (sym (proposes hash s g p salt (Private bytes hint) at).is)
      (first_ends hash left g p h q salt bytes kept _ apart (at_same s.guests g p salt (Private bytes hint) (Private bytes kept) at) c (own_unhinted hash s.guests g p salt bytes hint at own) (proposed_ends hash s.guests g p salt bytes hint at))

second_step : (hash : ℕ → List ℕ → ℕ) (s : State) (g p h q salt : ℕ) (bytes : List ℕ) → (g ≡ h → p ≡ q → ⊥) → HoldsOnce s.guests → Ready hash s.guests g p h q salt bytes → BothShared (step hash s h (Propose q)).state.guests g p h q salt bytes
second_step hash s g p h q salt bytes apart once ready = pick ready where
  Goal : List Guest → Type 0
  Goal gs = BothShared gs g p h q salt bytes

  after_shared : page_at s.guests g p ≡ Some (salt, Shared bytes) → Present s.guests h q salt bytes → Goal (step hash s h (Propose q)).state.guests
  after_shared one (is_shared at) =
      subst Goal (sym ((proposes hash s h q salt (Shared bytes) at).is ∙ shared_stays hash s.guests h q salt bytes)) (record { first = one; second = at })
  after_shared one (is_private hint at) =
      let kept : Slot = Private bytes (kept_hint (key_for hash salt bytes) hint) in
      subst Goal (sym (proposes hash s h q salt (Private bytes hint) at).is)
      (second_joins hash (unhinted hash s.guests h q salt bytes hint) g p h q salt bytes _ _ apart (at_other s.guests h q kept g p apart ∙ one) (at_same s.guests h q salt (Private bytes hint) kept at) (proposed_ends hash s.guests h q salt bytes hint at))

  pick : Ready hash s.guests g p h q salt bytes → Goal (step hash s h (Propose q)).state.guests
  pick (first_shared one two) = after_shared one (present s.guests h q salt bytes two)
  pick (first_hinted one hint at un) =
      let left_hint = kept_hint (key_for hash salt bytes) hint in
      let kept : Slot = Private bytes left_hint in
      subst Goal (sym (proposes hash s h q salt (Private bytes hint) at).is)
      (second_pairs hash (unhinted hash s.guests h q salt bytes hint) g p h q salt bytes left_hint _ apart (unhinted_once hash s.guests h q salt bytes hint at once) (at_other s.guests h q kept g p apart ∙ one) (at_same s.guests h q salt (Private bytes hint) kept at)
      (still_unmatched hash s.guests salt bytes h q salt (Private bytes hint) bytes left_hint at un) (proposed_ends hash s.guests h q salt bytes hint at))

both_steps : (hash : ℕ → List ℕ → ℕ) (s : State) (g p h q salt : ℕ) (bytes : List ℕ) → (g ≡ h → p ≡ q → ⊥) → HoldsOnce s.guests → HasContent s.guests g p salt bytes → HasContent s.guests h q salt bytes → HasOwnKey hash s.guests salt bytes →
    BothShared (state_after hash s (record { guest = g; request = Propose p } ∷ record { guest = h; request = Propose q } ∷ [])).guests g p h q salt bytes
unfolding state_after
both_steps hash s g p h q salt bytes apart once one two own =
    second_step hash (step hash s g (Propose p)).state g p h q salt bytes apart (step_once hash s g (Propose p) once) (first_step hash s g p h q salt bytes apart one two own)

pub equal_pages_share : (es : List Entry) → EqualPagesShare es
equal_pages_share es hash total shapes g p h q salt bytes apart one two own =
    let both = both_steps hash (state_after hash (empty_state total shapes) es) g p h q salt bytes apart (reachable_once hash total shapes es) one two own in
    (both.first, both.second)
