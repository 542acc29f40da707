-- The keys under which pages can be found are listed: they are keys under which pages were proposed.
use Rattle.std.proofs.Common.{◌≡◌, ℕ, zero, suc, Bool, true, false, cond, List, [], ◌∷◌, replicate, map, Option, Some, None, refl, ap, sym, ◌∙◌, subst, ◌⊎◌, inl, inr, arith}
use Rattle.std.specs.Prelude.{⊤, slice_get, nat_eq}
use Rattle.std.specs.List.{Contains}
use Rattle.std.proofs.lemmas.Bool.{cases_Bool, eqb-true, eqb-false}
use Rattle.page_model.specs.Pages.{Slot, Unmapped, Private, Shared, Guest, State, blank, written, page_at, with_slot}
use Rattle.page_model.specs.Steps.{Outcome, stored, proposed, released, on_page, answered, step, counted, key_of, kept_hint}
use Rattle.page_model.specs.Replay.{Shape, empty_guest}
use Rattle.page_model.specs.declared.request.Request.{Request}
use Rattle.page_model.specs.declared.request.Request.TheVariants.{Propose, Store, Load, Release, Count, Close}
use Rattle.page_model.proofs.Places.{at_same, at_other, Changed, here, elsewhere, at_changed}
use Rattle.page_model.proofs.Matching.{key_for, Holder, Ends, joins, clashes_shared, hints, keeps, replaces, pairs, clashes_hint, unhinted, proposed_ends}
use Rattle.page_model.proofs.Used.{own_slot}
use Rattle.salt_laws.specs.Apart.{SaltedKey, key_of_page, key_proposed}
use Rattle.salt_laws.proofs.Hiding.{only, owns, owns_with, owns_page, only_other}

-- each of these keys is listed: P says of a salt and a key whether it is
pub record KeysListed (P : ℕ → ℕ → Type 0) (keys : List SaltedKey) : Type 0 where
  pub each : (salt key : ℕ) → Contains keys (salt, key) → P salt key

pub only_key : (P : ℕ → ℕ → Type 0) (salt key : ℕ) → KeysListed P ((salt, key) ∷ []) → P salt key
only_key P salt key listed = listed.each salt key (0, omega arith, refl)

-- no key is listed for this salt and for another
pub record Separate (P : ℕ → ℕ → Type 0) (salt : ℕ) : Type 0 where
  pub each : (other key : ℕ) → P salt key → P other key → other ≡ salt

pub not_other : (P : ℕ → ℕ → Type 0) (salt other key : ℕ) → Separate P salt → P salt key → P other key → nat_eq other salt ≡ false → ⊥
not_other P salt other key apart own there h = eqb-false other salt h (apart.each other key own there)

-- so two pages that can be found under one key are both of this salt, or neither is
other_holder : (P : ℕ → ℕ → Type 0) (salt t u key : ℕ) → Separate P salt → P t key → P u key → nat_eq t salt ≡ false → nat_eq u salt ≡ false
other_holder P salt t u key apart mine there h = pick (cases_Bool (nat_eq u salt)) where
  pick : ((nat_eq u salt ≡ true) ⊎ (nat_eq u salt ≡ false)) → nat_eq u salt ≡ false
  pick (inl e) = absurd (not_other P salt t key apart (subst (λ i. P i key) (eqb-true u salt e) there) mine h)
  pick (inr e) = e

-- the key under which a page can be found is listed: its hint's, or that of a shared page's content
abbrev pub IsListed : (ℕ → List ℕ → ℕ) → (ℕ → ℕ → Type 0) → ℕ → Slot → Type 0
IsListed hash P salt Unmapped = ⊤
IsListed hash P salt (Private bytes None) = ⊤
IsListed hash P salt (Private bytes (Some key)) = P salt key
IsListed hash P salt (Shared bytes) = P salt (key_of (hash salt bytes))

-- that is so of each page
pub record PagesListed (hash : ℕ → List ℕ → ℕ) (P : ℕ → ℕ → Type 0) (gs : List Guest) : Type 0 where
  pub each : (a b salt : ℕ) (x : Slot) → page_at gs a b ≡ Some (salt, x) → IsListed hash P salt x

module _ (hash : ℕ → List ℕ → ℕ) (P : ℕ → ℕ → Type 0) where
  listed_set : (gs : List Guest) (a b t : ℕ) (old new : Slot) → PagesListed hash P gs → page_at gs a b ≡ Some (t, old) → IsListed hash P t new → PagesListed hash P (with_slot gs a b new)
  listed_set gs a b t old new all h is = record { each = λ c d s x k. pick c d s x (at_changed gs a b t old new h c d s x k) } where
    pick : (c d s : ℕ) (x : Slot) → Changed gs a b t new c d s x → IsListed hash P s x
    pick c d s x (here e f i j) = subst (λ y. IsListed hash P s y) (sym j) (subst (λ n. IsListed hash P n new) (sym i) is)
    pick c d s x (elsewhere ne k) = all.each c d s x k

  hint_kept : (t key : ℕ) (bytes : List ℕ) (hint : Option ℕ) → IsListed hash P t (Private bytes hint) → IsListed hash P t (Private bytes (kept_hint key hint))
  hint_kept t key bytes None h = tt
  hint_kept t key bytes (Some k) h = pick (nat_eq k key) where
    pick : (b : Bool) → IsListed hash P t (Private bytes (cond b (Some k) None))
    pick true = h
    pick false = tt

  hint_written : (t : ℕ) (old new : List ℕ) (hint : Option ℕ) → IsListed hash P t (Private old hint) → IsListed hash P t (Private new hint)
  hint_written t old new None h = tt
  hint_written t old new (Some k) h = h

  -- the guests once a private page's own hint under another key is gone
  pub unhinted_listed : (gs : List Guest) (g p t : ℕ) (bytes : List ℕ) (hint : Option ℕ) → PagesListed hash P gs → page_at gs g p ≡ Some (t, Private bytes hint) → PagesListed hash P (unhinted hash gs g p t bytes hint)
  unhinted_listed gs g p t bytes hint all h =
      let key = key_for hash t bytes in
      listed_set gs g p t (Private bytes hint) (Private bytes (kept_hint key hint)) all h (hint_kept t key bytes hint (all.each g p t (Private bytes hint) h))

-- what a request leaves, where own says whether it is one of a guest with this salt
pub record Kept (hash : ℕ → List ℕ → ℕ) (P : ℕ → ℕ → Type 0) (salt : ℕ) (own : Bool) (gs new : List Guest) : Type 0 where
  pub listed : PagesListed hash P new
  pub owners : (c : ℕ) → owns salt new c ≡ owns salt gs c
  pub hidden : own ≡ false → only salt new ≡ only salt gs

module _ (hash : ℕ → List ℕ → ℕ) (P : ℕ → ℕ → Type 0) (salt : ℕ) (own : Bool) where
  kept_same : (gs new : List Guest) → PagesListed hash P gs → new ≡ gs → Kept hash P salt own gs new
  kept_same gs new all e = record { listed = subst (PagesListed hash P) (sym e) all; owners = λ c. ap (λ n. owns salt n c) e; hidden = λ h. ap (only salt) e }

  kept_set : (gs new : List Guest) (a b t : ℕ) (old y : Slot) → PagesListed hash P gs → page_at gs a b ≡ Some (t, old) → (own ≡ false → nat_eq t salt ≡ false) → IsListed hash P t y → new ≡ with_slot gs a b y → Kept hash P salt own gs new
  kept_set gs new a b t old y all h link is now = record {
    listed = subst (PagesListed hash P) (sym now) (listed_set hash P gs a b t old y all h is);
    owners = λ c. ap (λ n. owns salt n c) now ∙ owns_with salt gs a b y c;
    hidden = λ e. ap (only salt) now ∙ only_other salt gs a b y (owns_page salt gs a b t old h ∙ link e);
  }

  kept_then : (gs mid new : List Guest) → Kept hash P salt own gs mid → Kept hash P salt own mid new → Kept hash P salt own gs new
  kept_then gs mid new one two = record { listed = two.listed; owners = λ c. two.owners c ∙ one.owners c; hidden = λ h. two.hidden h ∙ one.hidden h }

  either : (gs : List Guest) (t : Bool) (x y : Outcome) → Kept hash P salt own gs x.guests → Kept hash P salt own gs y.guests → Kept hash P salt own gs (cond t x y).guests
  either gs true x y h k = h
  either gs false x y h k = k

  stored_kept : (total : ℕ) (gs : List Guest) (a b at : ℕ) (bytes : List ℕ) (t : ℕ) (slot : Slot) → PagesListed hash P gs → (own ≡ false → nat_eq t salt ≡ false) → page_at gs a b ≡ Some (t, slot) → Kept hash P salt own gs (stored total gs a b at bytes t slot).guests
  unfolding stored
  stored_kept total gs a b at bytes t Unmapped all link h =
      either gs _ _ _ (kept_same gs _ all refl) (kept_set gs _ a b t Unmapped (Private (written blank at bytes) None) all h link tt refl)
  stored_kept total gs a b at bytes t (Private old hint) all link h =
      kept_set gs _ a b t (Private old hint) (Private (written old at bytes) hint) all h link (hint_written hash P t old (written old at bytes) hint (all.each a b t (Private old hint) h)) refl
  stored_kept total gs a b at bytes t (Shared old) all link h =
      let done = kept_set gs _ a b t (Shared old) (Private (written old at bytes) None) all h link tt refl in
      either gs _ _ _ done (either gs _ _ _ (kept_same gs _ all refl) done)

  released_kept : (gs : List Guest) (a b t : ℕ) (slot : Slot) → PagesListed hash P gs → (own ≡ false → nat_eq t salt ≡ false) → page_at gs a b ≡ Some (t, slot) → Kept hash P salt own gs (released gs a b t slot).guests
  unfolding released
  released_kept gs a b t Unmapped all link h = kept_same gs _ all refl
  released_kept gs a b t (Private old hint) all link h = kept_set gs _ a b t (Private old hint) Unmapped all h link tt refl
  released_kept gs a b t (Shared old) all link h = kept_set gs _ a b t (Shared old) Unmapped all h link tt refl

module _ (hash : ℕ → List ℕ → ℕ) (P : ℕ → ℕ → Type 0) (salt : ℕ) (own : Bool) (apart : Separate P salt) where
  -- a proposal of a private page whose hint under another key is gone
  ends_kept : (gs : List Guest) (g p t : ℕ) (bytes : List ℕ) (hint : Option ℕ) (o : Outcome) → PagesListed hash P gs → (own ≡ false → nat_eq t salt ≡ false) → P t (key_for hash t bytes) → page_at gs g p ≡ Some (t, Private bytes hint) → Ends hash gs g p t bytes o → Kept hash P salt own gs o.guests
  ends_kept gs g p t bytes hint o all link listed h ends = pick ends where
    key : ℕ
    key = key_for hash t bytes

    own_set : (left new : List Guest) (y : Slot) → PagesListed hash P left → page_at left g p ≡ Some (t, Private bytes hint) → IsListed hash P t y → new ≡ with_slot left g p y → Kept hash P salt own left new
    own_set left new y before mine is now = kept_set hash P salt own left new g p t (Private bytes hint) y before mine link is now

    holder : (w : Holder gs g p key) → P w.salt key
    holder w = all.each w.guest w.ppn w.salt (Private w.bytes (Some key)) w.at

    -- the page that is the hint changes first
    both_set : (w : Holder gs g p key) (x y : Slot) → IsListed hash P w.salt x → IsListed hash P t y → o.guests ≡ with_slot (with_slot gs w.guest w.ppn x) g p y → Kept hash P salt own gs o.guests
    both_set w x y there is now =
        let left = with_slot gs w.guest w.ppn x in
        let first : Kept hash P salt own gs left = kept_set hash P salt own gs left w.guest w.ppn w.salt (Private w.bytes (Some key)) x all w.at (λ e. other_holder P salt t w.salt key apart listed (holder w) (link e)) there refl in
        let mine : page_at left g p ≡ Some (t, Private bytes hint) = at_other gs w.guest w.ppn x g p (λ i j. w.apart (sym i) (sym j)) ∙ h in
        kept_then hash P salt own gs left o.guests first (own_set left o.guests y first.listed mine is now)

    pick : Ends hash gs g p t bytes o → Kept hash P salt own gs o.guests
    pick (joins e now) = own_set gs o.guests (Shared bytes) all h listed now
    pick (clashes_shared e f now) = kept_same hash P salt own gs o.guests all now
    pick (hints un e now) = own_set gs o.guests (Private bytes (Some key)) all h listed now
    pick (keeps un e now) = kept_same hash P salt own gs o.guests all now
    pick (replaces un w ne now) = both_set w (Private w.bytes None) (Private bytes (Some key)) tt listed now
    pick (pairs un w s b now) =
        let same : key_for hash w.salt w.bytes ≡ key = ap (λ i. key_for hash i w.bytes) s ∙ ap (λ i. key_for hash t i) b in
        both_set w (Shared w.bytes) (Shared bytes) (subst (P w.salt) (sym same) (holder w)) listed now
    pick (clashes_hint un w e ne now) = kept_same hash P salt own gs o.guests all now

  proposed_kept : (gs : List Guest) (g p t : ℕ) (slot : Slot) → PagesListed hash P gs → (own ≡ false → nat_eq t salt ≡ false) → KeysListed P (key_of_page hash (Some (t, slot))) → page_at gs g p ≡ Some (t, slot) → Kept hash P salt own gs (proposed hash gs g p t slot).guests
  unfolding proposed
  proposed_kept gs g p t Unmapped all link listed h = kept_same hash P salt own gs _ all refl
  proposed_kept gs g p t (Shared bytes) all link listed h = kept_same hash P salt own gs _ all refl
  proposed_kept gs g p t (Private bytes hint) all link listed h =
      let key = key_for hash t bytes in
      let left = unhinted hash gs g p t bytes hint in
      let new : Slot = Private bytes (kept_hint key hint) in
      let first : Kept hash P salt own gs left = kept_set hash P salt own gs left g p t (Private bytes hint) new all h link (hint_kept hash P t key bytes hint (all.each g p t (Private bytes hint) h)) refl in
      kept_then hash P salt own gs left _ first
      (ends_kept left g p t bytes (kept_hint key hint) _ first.listed link (only_key P t key listed) (at_same gs g p t (Private bytes hint) new h) (proposed_ends hash gs g p t bytes hint h))

module _ (hash : ℕ → List ℕ → ℕ) (P : ℕ → ℕ → Type 0) (salt : ℕ) (apart : Separate P salt) where
  on_page_kept : (gs : List Guest) (a b : ℕ) (f : ℕ → Slot → Outcome) (o : Option (ℕ × Slot)) → page_at gs a b ≡ o → PagesListed hash P gs →
      ((t : ℕ) (slot : Slot) → o ≡ Some (t, slot) → page_at gs a b ≡ Some (t, slot) → (owns salt gs a ≡ false → nat_eq t salt ≡ false) → Kept hash P salt (owns salt gs a) gs (f t slot).guests) →
      Kept hash P salt (owns salt gs a) gs (on_page gs f o).guests
  on_page_kept gs a b f None at all h = kept_same hash P salt _ gs _ all refl
  on_page_kept gs a b f (Some (t, slot)) at all h = h t slot refl at (λ e. sym (owns_page salt gs a b t slot at) ∙ e)

  answered_kept : (s : State) (a : ℕ) (r : Request) → PagesListed hash P s.guests → KeysListed P (key_proposed hash s.guests a r) → Kept hash P salt (owns salt s.guests a) s.guests (answered hash s a r).guests
  unfolding answered
  answered_kept s a (Propose page) all listed =
      on_page_kept s.guests a page _ (page_at s.guests a page) refl all
      (λ t slot e at link. proposed_kept hash P salt (owns salt s.guests a) apart s.guests a page t slot all link (subst (λ (o : Option (ℕ × Slot)). KeysListed P (key_of_page hash o)) e listed) at)
  answered_kept s a (Store r) all listed =
      on_page_kept s.guests a r.ppn _ (page_at s.guests a r.ppn) refl all
      (λ t slot e at link. stored_kept hash P salt (owns salt s.guests a) s.total s.guests a r.ppn r.at r.bytes t slot all link at)
  answered_kept s a (Load r) all listed = on_page_kept s.guests a r.ppn _ (page_at s.guests a r.ppn) refl all (λ t slot e at link. kept_same hash P salt (owns salt s.guests a) s.guests _ all refl)
  answered_kept s a (Release page) all listed =
      on_page_kept s.guests a page _ (page_at s.guests a page) refl all
      (λ t slot e at link. released_kept hash P salt (owns salt s.guests a) s.guests a page t slot all link at)
  answered_kept s a Count all listed = kept_same hash P salt _ s.guests _ all refl
  answered_kept s a Close all listed = kept_same hash P salt _ s.guests _ all refl

  pub step_kept : (s : State) (a : ℕ) (r : Request) → PagesListed hash P s.guests → KeysListed P (key_proposed hash s.guests a r) → Kept hash P salt (owns salt s.guests a) s.guests (step hash s a r).state.guests
  unfolding step
  step_kept s a r all listed = answered_kept (counted s) a r all listed

-- on a new machine no page can be found
new_slot : (n b : ℕ) (x : Slot) → slice_get (replicate n Unmapped) b ≡ Some x → Unmapped ≡ x
new_slot zero b x h = cc
new_slot (suc n) zero x h = cc
new_slot (suc n) (suc b) x h = new_slot n b x h

new_page : (shapes : List Shape) (a b t : ℕ) (x : Slot) → page_at (map empty_guest shapes) a b ≡ Some (t, x) → Unmapped ≡ x
new_page [] a b t x h = cc
new_page (shape ∷ shapes) zero b t x h = let own = own_slot shape.salt t (slice_get (replicate shape.pages Unmapped) b) x h in new_slot shape.pages b x own.1
new_page (shape ∷ shapes) (suc a) b t x h = new_page shapes a b t x h

pub new_listed : (hash : ℕ → List ℕ → ℕ) (P : ℕ → ℕ → Type 0) (shapes : List Shape) → PagesListed hash P (map empty_guest shapes)
new_listed hash P shapes = record { each = λ a b t x h. subst (λ y. IsListed hash P t y) (new_page shapes a b t x h) tt }
