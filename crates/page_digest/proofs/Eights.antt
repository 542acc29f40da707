-- Eight pages, and eight pairs of a salt and a frame.
use Rattle.std.proofs.Common.{◌≡◌, ℕ, zero, suc, List, [], ◌∷◌, length, map, slice_index_or, refl, arith, Bor, Some}
use Rattle.machine_frames.specs.FrameMap.{FrameMap, frame}
use Rattle.page_digest.specs.Hashes.{eight_hashes}
use Rattle.page_digest.specs.Many.{frame_hashes}

-- what a page is read as where there is none
abbrev no_page : Bor (List ℕ)
no_page = record { ref_ptr = (0, 0); now = [] }

pub page_at : (pages : List (Bor (List ℕ))) (n : ℕ) → (slice_index_or pages n no_page).now ≡ slice_index_or (map (λ page. page.now) pages) n []
page_at [] n = refl
page_at (page ∷ pages) zero = refl
page_at (page ∷ pages) (suc n) = page_at pages n

-- from lists of eight that are written out to all lists of eight
of_eight : {X : Type 0} (P : List X → Type 0) → ((a b c d e f g h : X) → P (a ∷ b ∷ c ∷ d ∷ e ∷ f ∷ g ∷ h ∷ [])) → (xs : List X) → length xs ≡ 8 → P xs
of_eight P p (a ∷ b ∷ c ∷ d ∷ e ∷ f ∷ g ∷ h ∷ []) len = p a b c d e f g h
of_eight P p [] len = absurd (omega arith)
of_eight P p (a ∷ []) len = absurd (omega arith)
of_eight P p (a ∷ b ∷ []) len = absurd (omega arith)
of_eight P p (a ∷ b ∷ c ∷ []) len = absurd (omega arith)
of_eight P p (a ∷ b ∷ c ∷ d ∷ []) len = absurd (omega arith)
of_eight P p (a ∷ b ∷ c ∷ d ∷ e ∷ []) len = absurd (omega arith)
of_eight P p (a ∷ b ∷ c ∷ d ∷ e ∷ f ∷ []) len = absurd (omega arith)
of_eight P p (a ∷ b ∷ c ∷ d ∷ e ∷ f ∷ g ∷ []) len = absurd (omega arith)
of_eight P p (a ∷ b ∷ c ∷ d ∷ e ∷ f ∷ g ∷ h ∷ i ∷ xs) len = absurd (omega arith)

abbrev pair_at : List (ℕ × ℕ) → ℕ → ℕ × ℕ
pair_at pairs n = slice_index_or pairs n (0, 0)

abbrev salts_of : List (ℕ × ℕ) → List ℕ
salts_of pairs = (pair_at pairs 0).0 ∷ (pair_at pairs 1).0 ∷ (pair_at pairs 2).0 ∷ (pair_at pairs 3).0 ∷ (pair_at pairs 4).0 ∷ (pair_at pairs 5).0 ∷ (pair_at pairs 6).0 ∷ (pair_at pairs 7).0 ∷ []

-- the hashes of the frames of eight pairs
module _ (hash : ℕ → List ℕ → ℕ) (frames : FrameMap) (a b c d e f g h : List ℕ) where
  abbrev Listed : List (ℕ × ℕ) → Type 0
  Listed pairs =
      frame frames (pair_at pairs 0).1 ≡ Some a → frame frames (pair_at pairs 1).1 ≡ Some b
      → frame frames (pair_at pairs 2).1 ≡ Some c → frame frames (pair_at pairs 3).1 ≡ Some d
      → frame frames (pair_at pairs 4).1 ≡ Some e → frame frames (pair_at pairs 5).1 ≡ Some f
      → frame frames (pair_at pairs 6).1 ≡ Some g → frame frames (pair_at pairs 7).1 ≡ Some h
      → eight_hashes hash (salts_of pairs) (a ∷ b ∷ c ∷ d ∷ e ∷ f ∷ g ∷ h ∷ []) ≡ frame_hashes hash frames pairs

  pub eight_listed : (pairs : List (ℕ × ℕ)) → length pairs ≡ 8 → Listed pairs
  eight_listed = of_eight Listed (λ p q r s t u v w ea eb ec ed ee ef eg eh. rw (ea, eb, ec, ed, ee, ef, eg, eh) refl)
