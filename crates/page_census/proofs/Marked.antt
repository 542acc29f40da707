-- What the marks of one read of each page say.
use Rattle.std.proofs.Common.{◌≡◌, ℕ, ◌+◌, List, [], ◌∷◌, ◌++◌, length, ap, ◌∙◌, arith, length-append}
use Rattle.std.proofs.lemmas.List.{length-map}
use Rattle.std.proofs.lemmas.List.Concat.{flat_map_single}
use Rattle.std.specs.List.{flat_map}
use Rattle.memory_pages.specs.Made.{AreMade}
use Rattle.page_census.specs.Marks.{mark, marks_of}

-- the mark that a page gives
abbrev pub given : (ℕ → List ℕ → ℕ) → ℕ → List ℕ → List ℕ
given hash salt page = mark hash salt page ∷ []

module _ (hash : ℕ → List ℕ → ℕ) (salt : ℕ) where
  -- each page gives its mark
  pub all_given : (pages : List (List ℕ)) → flat_map (given hash salt) pages ≡ marks_of hash salt pages
  all_given pages = flat_map_single (mark hash salt) pages

  module _ (steady : Type 0) (pages : List (List ℕ)) (before after : List ℕ) (made : AreMade steady pages (given hash salt) before after) where
    marked : after ≡ before ++ marks_of hash salt made.read
    marked = made.added ∙ ap (λ (marks : List ℕ). before ++ marks) (all_given made.read)

    -- there are as many
    pub as_many : length after ≡ length before + length pages
    as_many = omega (arith, ap length marked, length-append before (marks_of hash salt made.read), length-map made.read (mark hash salt), made.all)

    -- those of a steady source are the marks of its pages
    pub steady_marks : steady → after ≡ before ++ marks_of hash salt pages
    steady_marks s = marked ∙ ap (λ (read : List (List ℕ)). before ++ marks_of hash salt read) (made.same s)
