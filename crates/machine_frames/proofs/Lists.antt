-- Lists that are given by their index.
use Rattle.std.proofs.Common.{◌≡◌, ◌≢◌, ℕ, ◌+◌, ◌<◌, List, [], ◌∷◌, ◌++◌, length, map, get_or, set, sym, ap, ◌∙◌, ◌⊎◌, inl, inr, zero-add, arith}
use Rattle.std.specs.List.{range_with_len}
use Rattle.std.proofs.lemmas.Bool.{cases_eq}
use Rattle.std.proofs.lemmas.List.{get_or-set_same, get_or-set_other, length-set}
use Rattle.std.proofs.lemmas.List.FromFn.{length-map-range_with_len, get_or-map-range_with_len, fill_by_all, map-range_with_len_more}

module _ {X : Type 0} (d : X) (f g : ℕ → X) (total : ℕ) where
  -- two that agree
  pub map_same : ((i : ℕ) → i < total → g i ≡ f i) → map g (range_with_len 0 total) ≡ map f (range_with_len 0 total)
  map_same same =
      sym (fill_by_all g (map f (range_with_len 0 total)) total d (length-map-range_with_len f 0 total) (λ k below. get_or-map-range_with_len f 0 total k k d below (zero-add k) ∙ sym (same k below)))

  -- two that differ at one place
  pub map_changed : (m : ℕ) (new : X) → m < total → g m ≡ new → ((i : ℕ) → i < total → i ≢ m → g i ≡ f i) → map g (range_with_len 0 total) ≡ set (map f (range_with_len 0 total)) m new
  map_changed m new within same others =
      let xs = map f (range_with_len 0 total) in
      let long : length xs ≡ total = length-map-range_with_len f 0 total in
      sym (fill_by_all g (set xs m new) total d (length-set xs m new ∙ long) (λ k below. pick xs long k below (cases_eq k m) (get_or-map-range_with_len f 0 total k k d below (zero-add k)))) where
        pick : (xs : List X) → length xs ≡ total → (k : ℕ) → k < total → ((k ≡ m) ⊎ (k ≡ m → ⊥)) → get_or xs k d ≡ f k → get_or (set xs m new) k d ≡ g k
        pick xs long k below (inl e) was = rw e (get_or-set_same xs m new d (omega arith) ∙ sym same)
        pick xs long k below (inr n) was = get_or-set_other xs m k new d n ∙ was ∙ sym (others k below n)

  -- one that is longer
  pub map_longer : (new : X) → g total ≡ new → ((i : ℕ) → i < total → g i ≡ f i) → map g (range_with_len 0 (total + 1)) ≡ map f (range_with_len 0 total) ++ new ∷ []
  map_longer new last same = map-range_with_len_more g 0 total total (zero-add total) ∙ ap (λ (x : X). map g (range_with_len 0 total) ++ x ∷ []) last ∙ ap (λ (xs : List X). xs ++ new ∷ []) (map_same same)
