-- A request of a guest with one salt: it does the same, and is answered the same, once all pages of other salts are unmapped.
use Rattle.std.proofs.Common.{◌≡◌, ℕ, ◌≤◌, Bool, true, false, cond, ◌&&◌, List, Option, Some, None, refl, ap, sym, ◌∙◌, subst, ◌⊎◌, inl, inr, arith}
use Rattle.std.specs.Prelude.{nat_eq}
use Rattle.std.specs.Str.{bytes_eq}
use Rattle.std.proofs.lemmas.Bool.{cases_Bool, eqb-true, eqb-false, ne_eqb, false≢true}
use Rattle.page_model.specs.Pages.{Slot, Unmapped, Private, Shared, Guest, State, blank, bytes_of, written, has_hint, is_shared_as, is_shared_under, peers, used, find_page, page_at, with_slot}
use Rattle.page_model.specs.Steps.{Outcome, stays, sets, stored, key_of, kept_hint, weighed, on_page, by_hint, offered, matched, proposed, released, answered}
use Rattle.page_model.specs.Alone.{is_no_frame}
use Rattle.salt_laws.specs.Apart.{without_totals, key_of_page, key_proposed}
use Rattle.page_model.specs.declared.request.Request.{Request}
use Rattle.page_model.specs.declared.request.Request.TheVariants.{Propose, Store, Load, Release, Count, Close}
use Rattle.page_model.specs.declared.verdict.Verdict.{Verdict}
use Rattle.page_model.specs.declared.verdict.Verdict.TheVariants as v
use Rattle.page_model.proofs.Finds.{find_page_passes}
use Rattle.page_model.proofs.Matching.{key_for, unhinted}
use Rattle.salt_laws.proofs.Hiding.{only, owns, owns_with, owns_page, only_own, only_page, OthersFail, any_only, find_only, others_content, peers_only, used_only}
use Rattle.salt_laws.proofs.Listed.{KeysListed, IsListed, PagesListed, Separate, not_other, unhinted_listed, only_key}

-- an outcome, once all pages of other salts are unmapped
abbrev pub hide : ℕ → Outcome → Outcome
hide salt o = record { guests = only salt o.guests; verdict = o.verdict }

-- a decision that is the same
decide : (salt : ℕ) (t u : Bool) (x y x' y' : Outcome) → t ≡ u → x ≡ hide salt x' → y ≡ hide salt y' → cond t x y ≡ hide salt (cond u x' y')
decide salt true u x y x' y' e h k = rw (← e) h
decide salt false u x y x' y' e h k = rw (← e) k

-- one page of this salt changes
own_sets : (salt : ℕ) (gs : List Guest) (a b : ℕ) (x : Slot) (w : Verdict) → owns salt gs a ≡ true → sets (only salt gs) a b x w ≡ hide salt (sets gs a b x w)
own_sets salt gs a b x w h = ap (λ (new : List Guest). let o : Outcome = record { guests = new; verdict = w } in o) (sym (only_own salt gs a b x h))

-- two pages change
own_sets_both : (salt : ℕ) (gs : List Guest) (c d : ℕ) (y : Slot) (a b : ℕ) (x : Slot) (w : Verdict) → owns salt gs c ≡ true → owns salt gs a ≡ true → sets (with_slot (only salt gs) c d y) a b x w ≡ hide salt (sets (with_slot gs c d y) a b x w)
own_sets_both salt gs c d y a b x w k h =
    ap (λ n. sets n a b x w) (sym (only_own salt gs c d y k)) ∙ own_sets salt (with_slot gs c d y) a b x w (owns_with salt gs c d y a ∙ h)

own_weighed : (hash : ℕ → List ℕ → ℕ) (salt : ℕ) (gs : List Guest) (a b : ℕ) (bytes : List ℕ) (key c d t : ℕ) (others : List ℕ) → owns salt gs a ≡ true → owns salt gs c ≡ true →
    weighed hash (only salt gs) a b salt bytes key c d t others ≡ hide salt (weighed hash gs a b salt bytes key c d t others)
unfolding weighed
own_weighed hash salt gs a b bytes key c d t others h k =
    let fresh : Bool = nat_eq (key_of (hash t others)) key in
    let equal : Bool = nat_eq t salt && bytes_eq others bytes in
    decide salt fresh fresh _ _ _ _ refl
    (decide salt equal equal _ _ _ (stays gs v.Ineligible) refl (own_sets_both salt gs c d (Shared others) a b (Shared bytes) v.Paired k h) refl)
    (own_sets_both salt gs c d (Private others None) a b (Private bytes (Some key)) v.Replaced k h)

own_on_page : (salt : ℕ) (gs : List Guest) (f g : ℕ → Slot → Outcome) (o : Option (ℕ × Slot)) → ((t : ℕ) (x : Slot) → o ≡ Some (t, x) → f t x ≡ hide salt (g t x)) → on_page (only salt gs) f o ≡ hide salt (on_page gs g o)
own_on_page salt gs f g None h = refl
own_on_page salt gs f g (Some (t, x)) h = h t x refl

own_at_page : (salt : ℕ) (gs : List Guest) (a b : ℕ) (f g : ℕ → Slot → Outcome) → owns salt gs a ≡ true → ((t : ℕ) (x : Slot) → page_at gs a b ≡ Some (t, x) → f t x ≡ hide salt (g t x)) →
    on_page (only salt gs) f (page_at (only salt gs) a b) ≡ hide salt (on_page gs g (page_at gs a b))
own_at_page salt gs a b f g h k = ap (on_page (only salt gs) f) (only_page salt gs a b h) ∙ own_on_page salt gs f g (page_at gs a b) k

own_by_hint : (hash : ℕ → List ℕ → ℕ) (salt : ℕ) (gs : List Guest) (a b : ℕ) (bytes : List ℕ) (key : ℕ) (o : Option (ℕ × ℕ)) → owns salt gs a ≡ true → ((c d : ℕ) → o ≡ Some (c, d) → owns salt gs c ≡ true) →
    by_hint hash (only salt gs) a b salt bytes key o ≡ hide salt (by_hint hash gs a b salt bytes key o)
unfolding by_hint
own_by_hint hash salt gs a b bytes key None h holder = own_sets salt gs a b (Private bytes (Some key)) v.Hinted h
own_by_hint hash salt gs a b bytes key (Some (c, d)) h holder =
    let own : Bool = nat_eq c a && nat_eq d b in
    decide salt own own _ _ (stays gs v.Kept) _ refl refl
    (own_at_page salt gs c d _ _ (holder c d refl) (λ t x e. own_weighed hash salt gs a b bytes key c d t (bytes_of x) h (holder c d refl)))

-- a store that isn't refused a frame finds one, and so it does once the pages of other salts are unmapped
not_full : (gs : List Guest) (y : Outcome) (t : Bool) → is_no_frame (cond t (stays gs v.NoFrame) y).verdict ≡ false → t ≡ false
not_full gs y true h = h
not_full gs y false h = refl

still_room : (salt : ℕ) (gs : List Guest) (total : ℕ) → used gs ≤ total → nat_eq (used gs) total ≡ false → nat_eq (used (only salt gs)) total ≡ false
still_room salt gs total fits h =
    let room : used gs ≡ total → ⊥ = eqb-false (used gs) total h in
    ne_eqb (used (only salt gs)) total (λ e. room (omega (arith, used_only salt gs)))

own_framed : (salt : ℕ) (gs : List Guest) (total a b : ℕ) (x : Slot) (w : Verdict) → owns salt gs a ≡ true → used gs ≤ total → is_no_frame (cond (nat_eq (used gs) total) (stays gs v.NoFrame) (sets gs a b x w)).verdict ≡ false →
    cond (nat_eq (used (only salt gs)) total) (stays (only salt gs) v.NoFrame) (sets (only salt gs) a b x w) ≡ hide salt (cond (nat_eq (used gs) total) (stays gs v.NoFrame) (sets gs a b x w))
own_framed salt gs total a b x w h fits free =
    let room : nat_eq (used gs) total ≡ false = not_full gs (sets gs a b x w) (nat_eq (used gs) total) free in
    decide salt _ _ _ _ _ _ (still_room salt gs total fits room ∙ sym room) refl (own_sets salt gs a b x w h)

own_stored : (salt total : ℕ) (gs : List Guest) (a b at : ℕ) (bytes : List ℕ) (slot : Slot) → owns salt gs a ≡ true → used gs ≤ total → is_no_frame (stored total gs a b at bytes salt slot).verdict ≡ false →
    stored total (only salt gs) a b at bytes salt slot ≡ hide salt (stored total gs a b at bytes salt slot)
unfolding stored
own_stored salt total gs a b at bytes Unmapped h fits free = own_framed salt gs total a b (Private (written blank at bytes) None) v.Mapped h fits free
own_stored salt total gs a b at bytes (Private old hint) h fits free = own_sets salt gs a b (Private (written old at bytes) hint) v.Stored h
own_stored salt total gs a b at bytes (Shared old) h fits free =
    ap (λ n. cond (nat_eq n 1) (sets (only salt gs) a b new v.Taken) copied) (peers_only salt old gs) ∙ pick (nat_eq (peers salt old gs) 1) free where
      new : Slot
      new = Private (written old at bytes) None

      copied : Outcome
      copied = cond (nat_eq (used (only salt gs)) total) (stays (only salt gs) v.NoFrame) (sets (only salt gs) a b new v.Copied)

      copy : Outcome
      copy = cond (nat_eq (used gs) total) (stays gs v.NoFrame) (sets gs a b new v.Copied)

      pick : (t : Bool) → is_no_frame (cond t (sets gs a b new v.Taken) copy).verdict ≡ false → cond t (sets (only salt gs) a b new v.Taken) copied ≡ hide salt (cond t (sets gs a b new v.Taken) copy)
      pick true f = own_sets salt gs a b new v.Taken h
      pick false f = own_framed salt gs total a b new v.Copied h fits f

own_released : (salt : ℕ) (gs : List Guest) (a b : ℕ) (slot : Slot) → owns salt gs a ≡ true → released (only salt gs) a b salt slot ≡ hide salt (released gs a b salt slot)
unfolding released
own_released salt gs a b Unmapped h = refl
own_released salt gs a b (Private old hint) h = own_sets salt gs a b Unmapped (v.Released true) h
own_released salt gs a b (Shared old) h =
    ap (λ n. sets (only salt gs) a b Unmapped (v.Released (nat_eq n 1))) (peers_only salt old gs) ∙ own_sets salt gs a b Unmapped (v.Released (nat_eq (peers salt old gs) 1)) h

-- two outcomes that are alike once all pages of other salts are unmapped, but for the numbers of a report
pub record Alike (salt : ℕ) (x o : Outcome) : Type 0 where
  pub guests : x.guests ≡ only salt o.guests
  pub verdict : without_totals x.verdict ≡ without_totals o.verdict

alike : (salt : ℕ) (x o : Outcome) → x ≡ hide salt o → Alike salt x o
alike salt x o e = record { guests = ap (λ (y : Outcome). y.guests) e; verdict = ap (λ (y : Outcome). without_totals y.verdict) e }

-- the state once all pages of other salts are unmapped, with its own number of entries
abbrev pub small : ℕ → State → ℕ → State
small salt s n = record { total = s.total; guests = only salt s.guests; entries = n }

-- a page of this salt
own_salted : (salt : ℕ) (gs : List Guest) (a b : ℕ) (f g : ℕ → Slot → Outcome) → owns salt gs a ≡ true → ((x : Slot) → page_at gs a b ≡ Some (salt, x) → f salt x ≡ hide salt (g salt x)) →
    on_page (only salt gs) f (page_at (only salt gs) a b) ≡ hide salt (on_page gs g (page_at gs a b))
own_salted salt gs a b f g h k =
    own_at_page salt gs a b f g h
    (λ t x e.
    let same : t ≡ salt = eqb-true t salt (sym (owns_page salt gs a b t x e) ∙ h) in
    subst (λ i. f i x ≡ hide salt (g i x)) (sym same) (k x (e ∙ ap (λ (i : ℕ). let y : ℕ × Slot = (i, x) in Some y) same)))

module _ (hash : ℕ → List ℕ → ℕ) (P : ℕ → ℕ → Type 0) (salt : ℕ) (apart : Separate P salt) where
  -- no shared page of another salt has the hash of a proposed page, and none is the hint under its key
  shared_fails : (code t : ℕ) (x : Slot) → P salt (key_of code) → IsListed hash P t x → nat_eq t salt ≡ false → is_shared_under hash code t x ≡ false
  shared_fails code t Unmapped mine there e = refl
  shared_fails code t (Private others hint) mine there e = refl
  shared_fails code t (Shared others) mine there e = pick (cases_Bool (nat_eq (hash t others) code)) where
    pick : ((nat_eq (hash t others) code ≡ true) ⊎ (nat_eq (hash t others) code ≡ false)) → nat_eq (hash t others) code ≡ false
    pick (inl h) = absurd (not_other P salt t (key_of code) apart mine (subst (λ n. P t (key_of n)) (eqb-true (hash t others) code h) there) e)
    pick (inr h) = h

  hint_fails : (key t : ℕ) (x : Slot) → P salt key → IsListed hash P t x → nat_eq t salt ≡ false → has_hint key x ≡ false
  hint_fails key t Unmapped mine there e = refl
  hint_fails key t (Private others None) mine there e = refl
  hint_fails key t (Private others (Some own)) mine there e = pick (cases_Bool (nat_eq own key)) where
    pick : ((nat_eq own key ≡ true) ⊎ (nat_eq own key ≡ false)) → nat_eq own key ≡ false
    pick (inl h) = absurd (not_other P salt t key apart mine (subst (P t) (eqb-true own key h) there) e)
    pick (inr h) = h
  hint_fails key t (Shared others) mine there e = refl

  others_hash : (code : ℕ) (gs : List Guest) → P salt (key_of code) → PagesListed hash P gs → OthersFail salt (is_shared_under hash code) gs
  others_hash code gs mine all = record { each = λ a b t x h e. shared_fails code t x mine (all.each a b t x h) e; unmapped = λ t. refl }

  others_hint : (key : ℕ) (gs : List Guest) → P salt key → PagesListed hash P gs → OthersFail salt (λ _. has_hint key) gs
  others_hint key gs mine all = record { each = λ a b t x h e. hint_fails key t x mine (all.each a b t x h) e; unmapped = λ t. refl }

  -- so the hint under its key is of this salt
  own_holder : (key : ℕ) (gs : List Guest) → P salt key → PagesListed hash P gs → (c d : ℕ) → find_page (has_hint key) gs ≡ Some (c, d) → owns salt gs c ≡ true
  own_holder key gs mine all c d h = pick (cases_Bool (nat_eq there.0 salt)) where
    there : (t : ℕ) × (x : Slot) × (page_at gs c d ≡ Some (t, x)) × (has_hint key x ≡ true)
    there = find_page_passes (has_hint key) gs c d h

    pick : ((nat_eq there.0 salt ≡ true) ⊎ (nat_eq there.0 salt ≡ false)) → owns salt gs c ≡ true
    pick (inl e) = owns_page salt gs c d there.0 there.1 there.2 ∙ e
    pick (inr e) = absurd (false≢true (sym (hint_fails key there.0 there.1 mine (all.each c d there.0 there.1 there.2) e) ∙ there.3))

  own_offered : (gs : List Guest) (a b : ℕ) (bytes : List ℕ) (key : ℕ) → owns salt gs a ≡ true → P salt key → PagesListed hash P gs →
      offered hash (only salt gs) a b salt bytes key ≡ hide salt (offered hash gs a b salt bytes key)
  unfolding offered
  own_offered gs a b bytes key h mine all =
      ap (by_hint hash (only salt gs) a b salt bytes key) (find_only salt (has_hint key) gs (others_hint key gs mine all))
      ∙ own_by_hint hash salt gs a b bytes key (find_page (has_hint key) gs) h (own_holder key gs mine all)

  own_joins : (gs : List Guest) (a b : ℕ) (bytes : List ℕ) → owns salt gs a ≡ true →
      stays (with_slot (only salt gs) a b (Shared bytes)) (v.Joined (peers salt bytes (with_slot (only salt gs) a b (Shared bytes))))
      ≡ hide salt (stays (with_slot gs a b (Shared bytes)) (v.Joined (peers salt bytes (with_slot gs a b (Shared bytes)))))
  own_joins gs a b bytes h =
      let joined = with_slot gs a b (Shared bytes) in
      ap (λ (n : List Guest). stays n (v.Joined (peers salt bytes n))) (sym (only_own salt gs a b (Shared bytes) h))
      ∙ ap (λ (n : ℕ). stays (only salt joined) (v.Joined n)) (peers_only salt bytes joined)

  own_matched : (gs : List Guest) (a b : ℕ) (bytes : List ℕ) → owns salt gs a ≡ true → P salt (key_for hash salt bytes) → PagesListed hash P gs →
      matched hash (only salt gs) a b salt bytes (hash salt bytes) ≡ hide salt (matched hash gs a b salt bytes (hash salt bytes))
  unfolding matched
  own_matched gs a b bytes h mine all =
      decide salt _ _ _ _ _ _ (any_only salt (is_shared_as salt bytes) gs (others_content salt bytes gs)) (own_joins gs a b bytes h)
      (decide salt _ _ _ _ _ _ (any_only salt (is_shared_under hash (hash salt bytes)) gs (others_hash (hash salt bytes) gs mine all)) refl
      (own_offered gs a b bytes (key_for hash salt bytes) h mine all))

  own_proposed : (gs : List Guest) (a b : ℕ) (slot : Slot) → owns salt gs a ≡ true → PagesListed hash P gs → KeysListed P (key_of_page hash (Some (salt, slot))) → page_at gs a b ≡ Some (salt, slot) →
      proposed hash (only salt gs) a b salt slot ≡ hide salt (proposed hash gs a b salt slot)
  unfolding proposed
  own_proposed gs a b Unmapped h all listed at = refl
  own_proposed gs a b (Shared bytes) h all listed at = refl
  own_proposed gs a b (Private bytes hint) h all listed at =
      let key = key_for hash salt bytes in
      let new : Slot = Private bytes (kept_hint key hint) in
      ap (λ n. matched hash n a b salt bytes (hash salt bytes)) (sym (only_own salt gs a b new h))
      ∙ own_matched (unhinted hash gs a b salt bytes hint) a b bytes (owns_with salt gs a b new a ∙ h) (only_key P salt key listed) (unhinted_listed hash P gs a b salt bytes hint all at)

  pub own_answered : (s : State) (n a : ℕ) (r : Request) → owns salt s.guests a ≡ true → used s.guests ≤ s.total → PagesListed hash P s.guests → KeysListed P (key_proposed hash s.guests a r) →
      is_no_frame (answered hash s a r).verdict ≡ false → Alike salt (answered hash (small salt s n) a r) (answered hash s a r)
  unfolding answered
  own_answered s n a (Propose page) h fits all listed free =
      alike salt _ _
      (own_salted salt s.guests a page _ _ h (λ x e. own_proposed s.guests a page x h all (subst (λ (o : Option (ℕ × Slot)). KeysListed P (key_of_page hash o)) e listed) e))
  own_answered s n a (Store r) h fits all listed free =
      alike salt _ _
      (own_salted salt s.guests a r.ppn _ _ h
      (λ x e. own_stored salt s.total s.guests a r.ppn r.at r.bytes x h fits
      (subst (λ (o : Option (ℕ × Slot)). is_no_frame (on_page s.guests (λ (t : ℕ) (slot : Slot). stored s.total s.guests a r.ppn r.at r.bytes t slot) o).verdict ≡ false) e free)))
  own_answered s n a (Load r) h fits all listed free = alike salt _ _ (own_at_page salt s.guests a r.ppn _ _ h (λ t x e. refl))
  own_answered s n a (Release page) h fits all listed free = alike salt _ _ (own_salted salt s.guests a page _ _ h (λ x e. own_released salt s.guests a page x h))
  own_answered s n a Count h fits all listed free = record { guests = refl; verdict = refl }
  own_answered s n a Close h fits all listed free = record { guests = refl; verdict = refl }
