-- Bytes written right behind those that were written last, and over a whole page.
use Rattle.std.proofs.Common.{◌≡◌, ℕ, ◌+◌, ◌≤◌, List, [], ◌∷◌, ◌++◌, length, take, drop, refl, ap, sym, ◌∙◌, arith}
use Rattle.std.proofs.lemmas.List.{append-nil, length-drop}
use Rattle.std.proofs.lemmas.Slice.{drop-append-drop}
use Rattle.std.proofs.Math.Seq.{take-append_seam}
use Rattle.page_model.specs.Pages.{written}

front_is : (xs ys : List ℕ) (n : ℕ) → length xs ≡ n → take n (xs ++ ys) ≡ xs
front_is xs ys n e = ap (λ (k : ℕ). take k (xs ++ ys)) (sym e) ∙ take-append_seam xs ys

-- a page whose front was written, and more bytes behind it
pub written_behind : (front old bytes : List ℕ) (at : ℕ) → length front ≡ at → written (front ++ drop at old) at bytes ≡ front ++ bytes ++ drop (at + length bytes) old
written_behind front old bytes at size =
    ap (λ (x : List ℕ). x ++ bytes ++ drop (at + length bytes) (front ++ drop at old)) (front_is front (drop at old) at size)
    ∙ ap (λ (x : List ℕ). front ++ bytes ++ x) (drop-append-drop at old front (at + length bytes) (omega arith) size)

-- a page over a page
pub all_written : (old page : List ℕ) → length old ≤ length page → written old 0 page ≡ page
all_written old page e = ap (λ (x : List ℕ). page ++ x) (none_left (drop (0 + length page) old) (omega (arith, length-drop (0 + length page) old))) ∙ append-nil page where
  none_left : (l : List ℕ) → length l ≡ 0 → l ≡ []
  none_left [] h = refl
  none_left (x ∷ l) h = absurd (omega arith)
