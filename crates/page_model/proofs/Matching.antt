-- How a proposal of a private page ends, with what stood at each of its decisions.
use Rattle.std.proofs.Common.{◌≡◌, ℕ, Bool, true, false, cond, List, Option, Some, None, refl, ap, sym, ◌∙◌, subst, ◌&&◌}
use Rattle.std.specs.Prelude.{nat_eq}
use Rattle.std.specs.Str.{bytes_eq}
use Rattle.std.proofs.lemmas.Bool.{eqb-true, eq-eqb, and_parts, and_from, false≢true}
use Rattle.std.proofs.lemmas.Slice.Eq.{bytes_eq-Decides}
use Rattle.page_model.specs.Pages.{Slot, Unmapped, Private, Shared, Guest, bytes_of, has_hint, is_shared_as, is_shared_under, any_page, peers, find_page, page_at, with_slot}
use Rattle.page_model.specs.Steps.{Outcome, weighed, by_hint, offered, matched, proposed, on_page, key_of, kept_hint}
use Rattle.page_model.specs.declared.verdict.Verdict.TheVariants as v
use Rattle.page_model.proofs.Finds.{find_page_passes}
use Rattle.page_model.proofs.Places.{same_page, at_same}

-- the key of a content
abbrev pub key_for : (ℕ → List ℕ → ℕ) → ℕ → List ℕ → ℕ
key_for hash salt bytes = key_of (hash salt bytes)

-- no shared page has this content or its hash
pub record Unmatched (hash : ℕ → List ℕ → ℕ) (gs : List Guest) (salt : ℕ) (bytes : List ℕ) : Type 0 where
  pub content : any_page (is_shared_as salt bytes) gs ≡ false
  pub code : any_page (is_shared_under hash (hash salt bytes)) gs ≡ false

-- another page that is the hint under a key
pub record Holder (gs : List Guest) (g p key : ℕ) : Type 0 where
  pub guest : ℕ
  pub ppn : ℕ
  pub salt : ℕ
  pub bytes : List ℕ
  pub at : page_at gs guest ppn ≡ Some (salt, Private bytes (Some key))
  pub apart : guest ≡ g → ppn ≡ p → ⊥

-- the ends of a proposal of page p of guest g with this content, whose hint under another key is gone
pub data Ends (hash : ℕ → List ℕ → ℕ) (gs : List Guest) (g p salt : ℕ) (bytes : List ℕ) (o : Outcome) : Type 0 where
  joins : any_page (is_shared_as salt bytes) gs ≡ true → o.guests ≡ with_slot gs g p (Shared bytes) → Ends hash gs g p salt bytes o
  clashes_shared : any_page (is_shared_as salt bytes) gs ≡ false → any_page (is_shared_under hash (hash salt bytes)) gs ≡ true → o.guests ≡ gs → Ends hash gs g p salt bytes o
  hints : Unmatched hash gs salt bytes → find_page (has_hint (key_for hash salt bytes)) gs ≡ None → o.guests ≡ with_slot gs g p (Private bytes (Some (key_for hash salt bytes))) → Ends hash gs g p salt bytes o
  keeps : Unmatched hash gs salt bytes → page_at gs g p ≡ Some (salt, Private bytes (Some (key_for hash salt bytes))) → o.guests ≡ gs → Ends hash gs g p salt bytes o
  replaces : Unmatched hash gs salt bytes → (w : Holder gs g p (key_for hash salt bytes)) → (key_for hash w.salt w.bytes ≡ key_for hash salt bytes → ⊥) →
      o.guests ≡ with_slot (with_slot gs w.guest w.ppn (Private w.bytes None)) g p (Private bytes (Some (key_for hash salt bytes))) → Ends hash gs g p salt bytes o
  pairs : Unmatched hash gs salt bytes → (w : Holder gs g p (key_for hash salt bytes)) → w.salt ≡ salt → w.bytes ≡ bytes →
      o.guests ≡ with_slot (with_slot gs w.guest w.ppn (Shared w.bytes)) g p (Shared bytes) → Ends hash gs g p salt bytes o
  clashes_hint : Unmatched hash gs salt bytes → (w : Holder gs g p (key_for hash salt bytes)) → key_for hash w.salt w.bytes ≡ key_for hash salt bytes → (w.salt ≡ salt → w.bytes ≡ bytes → ⊥) → o.guests ≡ gs → Ends hash gs g p salt bytes o

-- the page that is a hint is private
pub record Hinting (slot : Slot) (key : ℕ) : Type 0 where
  pub bytes : List ℕ
  pub is : slot ≡ Private bytes (Some key)

pub hinting : (slot : Slot) (key : ℕ) → has_hint key slot ≡ true → Hinting slot key
hinting Unmapped key h = absurd (false≢true h)
hinting (Private bytes None) key h = absurd (false≢true h)
hinting (Private bytes (Some own)) key h = record { bytes = bytes; is = ap (λ k. Private bytes (Some k)) (eqb-true own key h) }
hinting (Shared bytes) key h = absurd (false≢true h)

weighed_ends : (hash : ℕ → List ℕ → ℕ) (gs : List Guest) (g p salt : ℕ) (bytes : List ℕ) → Unmatched hash gs salt bytes → (w : Holder gs g p (key_for hash salt bytes)) →
    Ends hash gs g p salt bytes (weighed hash gs g p salt bytes (key_for hash salt bytes) w.guest w.ppn w.salt w.bytes)
unfolding weighed
weighed_ends hash gs g p salt bytes un w = pick (nat_eq (key_for hash w.salt w.bytes) (key_for hash salt bytes)) refl (nat_eq w.salt salt && bytes_eq w.bytes bytes) refl where
  paired : Outcome
  paired = record { guests = with_slot (with_slot gs w.guest w.ppn (Shared w.bytes)) g p (Shared bytes); verdict = v.Paired }

  alone : Outcome
  alone = record { guests = gs; verdict = v.Ineligible }

  taken : Outcome
  taken = record { guests = with_slot (with_slot gs w.guest w.ppn (Private w.bytes None)) g p (Private bytes (Some (key_for hash salt bytes))); verdict = v.Replaced }

  pick : (b : Bool) → nat_eq (key_for hash w.salt w.bytes) (key_for hash salt bytes) ≡ b → (c : Bool) → (nat_eq w.salt salt && bytes_eq w.bytes bytes) ≡ c → Ends hash gs g p salt bytes (cond b (cond c paired alone) taken)
  pick true e true f =
      let parts = and_parts (nat_eq w.salt salt) (bytes_eq w.bytes bytes) f in
      pairs un w (eqb-true w.salt salt parts.0) ((bytes_eq-Decides w.bytes bytes).0 parts.1) refl
  pick true e false f =
      clashes_hint un w (eqb-true _ _ e) (λ s t. false≢true (sym f ∙ and_from (nat_eq w.salt salt) (bytes_eq w.bytes bytes) (eq-eqb w.salt salt s) ((bytes_eq-Decides w.bytes bytes).1 t))) refl
  pick false e c f = replaces un w (λ k. false≢true (sym e ∙ eq-eqb _ _ k)) refl

held_ends : (hash : ℕ → List ℕ → ℕ) (gs : List Guest) (g p salt : ℕ) (bytes : List ℕ) (hint : Option ℕ) → page_at gs g p ≡ Some (salt, Private bytes hint) → Unmatched hash gs salt bytes → (o : Option (ℕ × ℕ)) → find_page (has_hint (key_for hash salt bytes)) gs ≡ o →
    Ends hash gs g p salt bytes (by_hint hash gs g p salt bytes (key_for hash salt bytes) o)
unfolding by_hint
held_ends hash gs g p salt bytes hint own un None e = hints un e refl
held_ends hash gs g p salt bytes hint own un (Some (a, b)) e = pick (nat_eq a g && nat_eq b p) refl where
  key : ℕ
  key = key_for hash salt bytes

  f : ℕ → Slot → Outcome
  f other_salt slot = weighed hash gs g p salt bytes key a b other_salt (bytes_of slot)

  pick : (t : Bool) → (nat_eq a g && nat_eq b p) ≡ t → Ends hash gs g p salt bytes (cond t (record { guests = gs; verdict = v.Kept }) (on_page gs f (page_at gs a b)))
  pick true h =
      let there = find_page_passes (has_hint key) gs a b e in
      let parts = and_parts (nat_eq a g) (nat_eq b p) h in
      let here : page_at gs g p ≡ Some (there.0, there.1) = ap (λ i. page_at gs i p) (sym (eqb-true a g parts.0)) ∙ ap (page_at gs a) (sym (eqb-true b p parts.1)) ∙ there.2 in
      let same = same_page (page_at gs g p) salt there.0 (Private bytes hint) there.1 own here in
      let mine = hinting (Private bytes hint) key (ap (has_hint key) same.1 ∙ there.3) in
      let bytes_same : mine.bytes ≡ bytes = ap bytes_of (sym mine.is) in
      keeps un (own ∙ ap (λ (x : Slot). let y : ℕ × Slot = (salt, x) in Some y) (mine.is ∙ ap (λ x. Private x (Some key)) bytes_same)) refl
  pick false h =
      let there = find_page_passes (has_hint key) gs a b e in
      let holds = hinting there.1 key there.3 in
      let at : page_at gs a b ≡ Some (there.0, Private holds.bytes (Some key)) = there.2 ∙ ap (λ (x : Slot). let y : ℕ × Slot = (there.0, x) in Some y) holds.is in
      let w : Holder gs g p key = record { guest = a; ppn = b; salt = there.0; bytes = holds.bytes; at = at; apart = λ i j. false≢true (sym h ∙ and_from (nat_eq a g) (nat_eq b p) (eq-eqb a g i) (eq-eqb b p j)) } in
      subst (λ (o : Option (ℕ × Slot)). Ends hash gs g p salt bytes (on_page gs f o)) (sym at) (weighed_ends hash gs g p salt bytes un w)

matched_ends : (hash : ℕ → List ℕ → ℕ) (gs : List Guest) (g p salt : ℕ) (bytes : List ℕ) (hint : Option ℕ) → page_at gs g p ≡ Some (salt, Private bytes hint) → Ends hash gs g p salt bytes (matched hash gs g p salt bytes (hash salt bytes))
unfolding matched offered
matched_ends hash gs g p salt bytes hint own = pick (any_page (is_shared_as salt bytes) gs) refl (any_page (is_shared_under hash (hash salt bytes)) gs) refl (held_ends hash gs g p salt bytes hint own) where
  rest : Outcome
  rest = by_hint hash gs g p salt bytes (key_for hash salt bytes) (find_page (has_hint (key_for hash salt bytes)) gs)

  pick : (b : Bool) → any_page (is_shared_as salt bytes) gs ≡ b → (c : Bool) → any_page (is_shared_under hash (hash salt bytes)) gs ≡ c →
      (Unmatched hash gs salt bytes → (o : Option (ℕ × ℕ)) → find_page (has_hint (key_for hash salt bytes)) gs ≡ o → Ends hash gs g p salt bytes (by_hint hash gs g p salt bytes (key_for hash salt bytes) o)) →
      Ends hash gs g p salt bytes (cond b (record { guests = with_slot gs g p (Shared bytes); verdict = v.Joined (peers salt bytes (with_slot gs g p (Shared bytes))) }) (cond c (record { guests = gs; verdict = v.Ineligible }) rest))
  pick true e c f k = joins e refl
  pick false e true f k = clashes_shared e f refl
  pick false e false f k = k (record { content = e; code = f }) _ refl

-- the guests once a page's own hint under another key is gone
abbrev pub unhinted : (ℕ → List ℕ → ℕ) → List Guest → ℕ → ℕ → ℕ → List ℕ → Option ℕ → List Guest
unhinted hash gs g p salt bytes hint = with_slot gs g p (Private bytes (kept_hint (key_for hash salt bytes) hint))

pub proposed_ends : (hash : ℕ → List ℕ → ℕ) (gs : List Guest) (g p salt : ℕ) (bytes : List ℕ) (hint : Option ℕ) → page_at gs g p ≡ Some (salt, Private bytes hint) →
    Ends hash (unhinted hash gs g p salt bytes hint) g p salt bytes (proposed hash gs g p salt (Private bytes hint))
unfolding proposed
proposed_ends hash gs g p salt bytes hint own =
    matched_ends hash (unhinted hash gs g p salt bytes hint) g p salt bytes (kept_hint (key_for hash salt bytes) hint) (at_same gs g p salt (Private bytes hint) _ own)
