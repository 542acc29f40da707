-- What a message lists is gone through one after the other.
use Rattle.std.proofs.Common.{◌≡◌, ℕ, ◌+◌, ◌<◌, ◌≤◌, Bool, true, false, cond, Option, List, [], ◌∷◌, ◌++◌, length, get_or, drop, refl, sym, ap, subst, ◌∙◌, append_assoc}
use Rattle.std.proofs.lemmas.List.{drop_more, drop_all, append-nil}
use Rattle.host_messages.specs.declared.item.Question.{Question}
use Rattle.host_messages.specs.declared.item.Lent.{Lent}
use Rattle.recent_fingerprints.specs.Notes.{Recent}
use Rattle.share_domain.specs.Domains.{DomainView, release_answer, after_release}
use Rattle.share_domain.specs.Numbers.{slot_by}
use Rattle.host_sessions.specs.Turns.{after_question, answer_to, answers_to, asked, number_freed, freed_by, after_releases, is_lent, slots_in, LendsOne, LendsInTurn}

-- what is left at an item
pub left_at : {X : Type 0} (xs : List X) (i : ℕ) (x d : X) → i < length xs → x ≡ get_or xs i d → drop i xs ≡ x ∷ drop (i + 1) xs
left_at {X = X} xs i x d lt is = drop_more xs i d lt ∙ ap (λ (y : X). y ∷ drop (i + 1) xs) (sym is)

-- ---- questions

module _ (frames : List (Option ℕ)) (client : ℕ) (qs : List Question) (i : ℕ) where
  pub answered_more : (q d : Question) (front : List Bool) (a : Bool) (r s : Recent) (total : List Bool) → i < length qs → q ≡ get_or qs i d
      → a ≡ answer_to frames client q r → s ≡ after_question frames client q r
      → front ++ answers_to frames client (drop i qs) r ≡ total → (front ++ a ∷ []) ++ answers_to frames client (drop (i + 1) qs) s ≡ total
  unfolding answers_to
  answered_more q d front a r s total lt is a-is s-is so_far =
      append_assoc front (a ∷ []) (answers_to frames client (drop (i + 1) qs) s)
      ∙ ap (λ (x : Bool). front ++ x ∷ answers_to frames client (drop (i + 1) qs) s) a-is
      ∙ ap (λ (x : Recent). front ++ answer_to frames client q r ∷ answers_to frames client (drop (i + 1) qs) x) s-is
      ∙ sym (ap (λ (l : List Question). front ++ answers_to frames client l r) (left_at qs i q d lt is)) ∙ so_far

  pub asked_more : (q d : Question) (r s total : Recent) → i < length qs → q ≡ get_or qs i d → s ≡ after_question frames client q r
      → asked frames client (drop i qs) r ≡ total → asked frames client (drop (i + 1) qs) s ≡ total
  unfolding asked
  asked_more q d r s total lt is s-is so_far =
      ap (λ (x : Recent). asked frames client (drop (i + 1) qs) x) s-is ∙ sym (ap (λ (l : List Question). asked frames client l r) (left_at qs i q d lt is)) ∙ so_far

  pub all_answered : (front : List Bool) (r : Recent) (total : List Bool) → length qs ≤ i → front ++ answers_to frames client (drop i qs) r ≡ total → front ≡ total
  unfolding answers_to
  all_answered front r total le so_far = sym (ap (λ (l : List Question). front ++ answers_to frames client l r) (drop_all i qs le) ∙ append-nil front) ∙ so_far

  pub all_asked : (r total : Recent) → length qs ≤ i → asked frames client (drop i qs) r ≡ total → r ≡ total
  unfolding asked
  all_asked r total le so_far = sym (ap (λ (l : List Question). asked frames client l r) (drop_all i qs le)) ∙ so_far

-- ---- releases

module _ (client : ℕ) (ss : List ℕ) (i : ℕ) where
  pub freed_more : (s e : ℕ) (front : List ℕ) (one : ℕ) (d after : DomainView) (total : List ℕ) → i < length ss → s ≡ get_or ss i e
      → one ≡ number_freed (release_answer client (slot_by s) d) → after ≡ after_release client (slot_by s) d
      → front ++ freed_by client (drop i ss) d ≡ total → (front ++ one ∷ []) ++ freed_by client (drop (i + 1) ss) after ≡ total
  unfolding freed_by
  freed_more s e front one d after total lt is one-is after-is so_far =
      append_assoc front (one ∷ []) (freed_by client (drop (i + 1) ss) after)
      ∙ ap (λ (x : ℕ). front ++ x ∷ freed_by client (drop (i + 1) ss) after) one-is
      ∙ ap (λ (x : DomainView). front ++ number_freed (release_answer client (slot_by s) d) ∷ freed_by client (drop (i + 1) ss) x) after-is
      ∙ sym (ap (λ (l : List ℕ). front ++ freed_by client l d) (left_at ss i s e lt is)) ∙ so_far

  pub released_more : (s e : ℕ) (d after total : DomainView) → i < length ss → s ≡ get_or ss i e → after ≡ after_release client (slot_by s) d
      → after_releases client (drop i ss) d ≡ total → after_releases client (drop (i + 1) ss) after ≡ total
  unfolding after_releases
  released_more s e d after total lt is after-is so_far =
      ap (λ (x : DomainView). after_releases client (drop (i + 1) ss) x) after-is ∙ sym (ap (λ (l : List ℕ). after_releases client l d) (left_at ss i s e lt is)) ∙ so_far

  pub all_freed : (front : List ℕ) (d : DomainView) (total : List ℕ) → length ss ≤ i → front ++ freed_by client (drop i ss) d ≡ total → front ≡ total
  unfolding freed_by
  all_freed front d total le so_far = sym (ap (λ (l : List ℕ). front ++ freed_by client l d) (drop_all i ss le) ∙ append-nil front) ∙ so_far

  pub all_released : (d total : DomainView) → length ss ≤ i → after_releases client (drop i ss) d ≡ total → d ≡ total
  unfolding after_releases
  all_released d total le so_far = sym (ap (λ (l : List ℕ). after_releases client l d) (drop_all i ss le)) ∙ so_far

-- ---- lends

-- the loans so far are the first ones of all, whatever the others will be
abbrev pub SoFar : ℕ → ℕ → ℕ → List (List ℕ) → DomainView → ℕ → List Lent → DomainView → Type 0
SoFar salt client quota pages start i front d =
    (rest : List Lent) (new : DomainView) → LendsInTurn salt client quota (drop i pages) rest d new
    → LendsInTurn salt client quota pages (front ++ rest) start new

pub under : (a b client quota : ℕ) (page : List ℕ) (lent : Lent) (d mid : DomainView) → a ≡ b → LendsOne a client quota page lent d mid → LendsOne b client quota page lent d mid
under a b client quota page lent d mid e one = subst (λ (salt : ℕ). LendsOne salt client quota page lent d mid) e one

module _ (salt client quota : ℕ) (pages : List (List ℕ)) (start : DomainView) where
  pub lent_more : (i : ℕ) (front : List Lent) (d mid : DomainView) (page e : List ℕ) (lent : Lent) → i < length pages → page ≡ get_or pages i e
      → LendsOne salt client quota page lent d mid → SoFar salt client quota pages start i front d
      → SoFar salt client quota pages start (i + 1) (front ++ lent ∷ []) mid
  unfolding LendsInTurn
  lent_more i front d mid page e lent lt is one so_far rest new p =
      subst (λ (ls : List Lent). LendsInTurn salt client quota pages ls start new) (sym (append_assoc front (lent ∷ []) rest))
      (so_far (lent ∷ rest) new
      (subst (λ (ps : List (List ℕ)). LendsInTurn salt client quota ps (lent ∷ rest) d new) (sym (left_at pages i page e lt is)) (mid, one, p)))

  pub all_lent : (i : ℕ) (front : List Lent) (d : DomainView) → length pages ≤ i → SoFar salt client quota pages start i front d
      → LendsInTurn salt client quota pages front start d
  unfolding LendsInTurn
  all_lent i front d le so_far =
      subst (λ (ls : List Lent). LendsInTurn salt client quota pages ls start d) (append-nil front)
      (so_far [] d (subst (λ (ps : List (List ℕ)). LendsInTurn salt client quota ps [] d d) (sym (drop_all i pages le)) refl))

-- ---- the slots of loans

slots_more : (lent : Lent) (b : Bool) (loans : List Lent) → cond b (lent.slot ∷ []) [] ++ slots_in loans ≡ cond b (lent.slot ∷ slots_in loans) (slots_in loans)
slots_more lent true loans = refl
slots_more lent false loans = refl

module _ (loans : List Lent) (i : ℕ) where
  pub taken_more : (lent d : Lent) (front now total : List ℕ) → i < length loans → lent ≡ get_or loans i d → now ≡ front ++ slots_in (lent ∷ [])
      → front ++ slots_in (drop i loans) ≡ total → now ++ slots_in (drop (i + 1) loans) ≡ total
  unfolding slots_in
  taken_more lent d front now total lt is now-is so_far =
      ap (λ (l : List ℕ). l ++ slots_in (drop (i + 1) loans)) now-is
      ∙ append_assoc front (slots_in (lent ∷ [])) (slots_in (drop (i + 1) loans))
      ∙ ap (λ (l : List ℕ). front ++ l) (slots_more lent (is_lent lent) (drop (i + 1) loans))
      ∙ sym (ap (λ (l : List Lent). front ++ slots_in l) (left_at loans i lent d lt is)) ∙ so_far

  pub all_taken : (front total : List ℕ) → length loans ≤ i → front ++ slots_in (drop i loans) ≡ total → front ≡ total
  unfolding slots_in
  all_taken front total le so_far = sym (ap (λ (l : List Lent). front ++ slots_in l) (drop_all i loans le) ∙ append-nil front) ∙ so_far
