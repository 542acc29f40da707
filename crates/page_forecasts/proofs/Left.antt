-- What requests leave of a page, request by request.
use Rattle.std.proofs.Common.{◌≡◌, ℕ, zero, suc, ◌<◌, List, [], ◌∷◌, Option, length, slice_index_or, take, refl, arith, inl, inr, is_some, Bor, None, Some}
use Rattle.std.proofs.lemmas.Bool.{eq-eqb}
use Rattle.std.proofs.lemmas.Bool.Decides.{eqb_tells}
use Rattle.std.specs.Option.{option_map}
use Rattle.page_model.specs.declared.request.Entry.{Entry}
use Rattle.page_forecasts.specs.Forecasts.{left, left_at, left_by}

-- no request yet
pub none_left : (entries : List Entry) (guest ppn : ℕ) (page : Option (List ℕ)) → left_by (take 0 entries) guest ppn page ≡ page
unfolding left_by
none_left entries guest ppn page = refl

-- one request more
pub one_left : (entries : List Entry) (i : ℕ) (e : Entry) (guest ppn : ℕ) (page : Option (List ℕ)) → i < length entries
    → e ≡ slice_index_or entries i e
    → left_by (take (suc i) entries) guest ppn page ≡ left_at e guest ppn (left_by (take i entries) guest ppn page)
unfolding left_by
one_left [] i e guest ppn page lt is = absurd (omega (arith, lt))
one_left (x ∷ entries) zero e guest ppn page lt is = rw is refl
one_left (x ∷ entries) (suc i) e guest ppn page lt is = one_left entries i e guest ppn (left_at x guest ppn page) (omega (arith, lt)) is

-- a request of the page's guest, and one of another
pub left_own : (e : Entry) (guest ppn : ℕ) (page : Option (List ℕ)) → e.guest ≡ guest → left_at e guest ppn page ≡ left e.request ppn page
left_own e guest ppn page own = rw (eq-eqb e.guest guest own) refl

pub left_alone : (e : Entry) (guest ppn : ℕ) (page : Option (List ℕ)) → (e.guest ≡ guest → ⊥) → left_at e guest ppn page ≡ page
left_alone e guest ppn page other = elim (eqb_tells e.guest guest) [
  | inl own ↦ absurd (other own.1)
  | inr differ ↦ rw differ.0 refl
]

-- a page is there exactly if its bytes are
pub same_presence : (bytes : Option (Bor (List ℕ))) → is_some bytes ≡ is_some (option_map (λ page. page.now) bytes)
same_presence None = refl
same_presence (Some bytes) = refl
