-- Pages that are lent one after the other, in groups of four and eight.
use Rattle.std.proofs.Common.{◌≡◌, ℕ, ◌+◌, List, [], ◌∷◌, ◌++◌, length, refl, ap, sym, subst, arith, Option}
use Rattle.std.specs.Prelude.{slice_index_or}
use Rattle.pageshare_c.specs.InTurn.{LendsOne, LendInTurn}
use Rattle.pageshare_c.specs.declared.answer.Answer.{Answer}
use Rattle.pageshare_c.specs.declared.group.Lending.{Lending}
use Rattle.pageshare_c.specs.declared.hashed_core.HashedCore.{HashedCore}

-- four elements by their places
abbrev pub four_from : {A : Type 0} → ℕ → List A → A → List A
four_from n xs none = slice_index_or xs n none ∷ slice_index_or xs (n + 1) none ∷ slice_index_or xs (n + 2) none ∷ slice_index_or xs (n + 3) none ∷ []

-- a list of four
pub four : {A : Type 0} (xs : List A) (none : A) → length xs ≡ 4 → xs ≡ four_from 0 xs none
four (p ∷ q ∷ x ∷ y ∷ []) none size = refl
four [] none size = absurd (omega arith)
four (p ∷ []) none size = absurd (omega arith)
four (p ∷ q ∷ []) none size = absurd (omega arith)
four (p ∷ q ∷ x ∷ []) none size = absurd (omega arith)
four (p ∷ q ∷ x ∷ y ∷ z ∷ xs) none size = absurd (omega arith)

-- a list of eight
pub eight : {A : Type 0} (xs : List A) (none : A) → length xs ≡ 8 → xs ≡ four_from 0 xs none ++ four_from 4 xs none
eight (p ∷ q ∷ x ∷ y ∷ xs) none size = ap (λ rest. p ∷ q ∷ x ∷ y ∷ rest) (four xs none (omega (arith, size)))
eight [] none size = absurd (omega arith)
eight (p ∷ []) none size = absurd (omega arith)
eight (p ∷ q ∷ []) none size = absurd (omega arith)
eight (p ∷ q ∷ x ∷ []) none size = absurd (omega arith)

-- the page at this place was lent
abbrev OneOf : List Lending → Lending → ℕ → Answer → Option HashedCore → Option HashedCore → Type 0
OneOf pages none n answer old new =
    LendsOne (slice_index_or pages n none).guest (slice_index_or pages n none).ppn (slice_index_or pages n none).page.now answer old new

-- four pages, lent one by one
pub four_in_turn : (pages : List Lending) (none : Lending) (a b c d : Answer) (s t u v w : Option HashedCore) → length pages ≡ 4
    → OneOf pages none 0 a s t → OneOf pages none 1 b t u → OneOf pages none 2 c u v → OneOf pages none 3 d v w
    → LendInTurn pages (a ∷ b ∷ c ∷ d ∷ []) s w
four_in_turn pages none a b c d s t u v w size first second third fourth =
    subst (λ xs. LendInTurn xs (a ∷ b ∷ c ∷ d ∷ []) s w) (sym (four pages none size))
    (record { between = t; first = first; others = record { between = u; first = second; others = record { between = v; first = third; others = record { between = w; first = fourth; others = refl } } } })

-- four pages, lent as a list of four
pub listed_in_turn : (pages : List Lending) (none : Lending) (answers : List Answer) (s t : Option HashedCore) → length pages ≡ 4 → LendInTurn (four_from 0 pages none) answers s t → LendInTurn pages answers s t
listed_in_turn pages none answers s t size lent = subst (λ xs. LendInTurn xs answers s t) (sym (four pages none size)) lent

-- some pages, and then others
pub then_others : (pages others : List Lending) (answers more : List Answer) (s t u : Option HashedCore) → LendInTurn pages answers s t → LendInTurn others more t u → LendInTurn (pages ++ others) (answers ++ more) s u
then_others [] others [] more s t u same rest = subst (λ x. LendInTurn others more x u) same rest
then_others (p ∷ pages) others (a ∷ answers) more s t u lent rest =
    record { between = lent.between; first = lent.first; others = then_others pages others answers more lent.between t u lent.others rest }
then_others [] others (a ∷ answers) more s t u none rest = absurd none
then_others (p ∷ pages) others [] more s t u none rest = absurd none

-- four pages that are lent get four answers
answers_four : (p q x y : Lending) (answers : List Answer) (blank : Answer) (s t : Option HashedCore) → LendInTurn (p ∷ q ∷ x ∷ y ∷ []) answers s t → answers ≡ four_from 0 answers blank
answers_four p q x y (a ∷ b ∷ c ∷ d ∷ []) blank s t lent = refl
answers_four p q x y [] blank s t lent = absurd lent
answers_four p q x y (a ∷ []) blank s t lent = absurd lent.others
answers_four p q x y (a ∷ b ∷ []) blank s t lent = absurd lent.others.others
answers_four p q x y (a ∷ b ∷ c ∷ []) blank s t lent = absurd lent.others.others.others
answers_four p q x y (a ∷ b ∷ c ∷ d ∷ e ∷ answers) blank s t lent = absurd lent.others.others.others.others

-- eight pages, of which four are lent and then the other four
pub eight_in_turn : (pages : List Lending) (none : Lending) (early late : List Answer) (blank : Answer) (s t u : Option HashedCore) → length pages ≡ 8
    → LendInTurn (four_from 0 pages none) early s t → LendInTurn (four_from 4 pages none) late t u → LendInTurn pages (four_from 0 early blank ++ four_from 0 late blank) s u
eight_in_turn pages none early late blank s t u size first last =
    let lower : List Lending = four_from 0 pages none in
    let upper : List Lending = four_from 4 pages none in
    subst (λ xs. LendInTurn xs (four_from 0 early blank ++ four_from 0 late blank) s u) (sym (eight pages none size))
    (subst (λ answers. LendInTurn (lower ++ upper) (answers ++ four_from 0 late blank) s u) (answers_four _ _ _ _ early blank s t first)
    (subst (λ answers. LendInTurn (lower ++ upper) (early ++ answers) s u) (answers_four _ _ _ _ late blank t u last) (then_others lower upper early late s t u first last)))
