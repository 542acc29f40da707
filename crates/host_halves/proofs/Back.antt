-- Loans that are taken back, and those that are kept: each is one or the other.
use Rattle.std.proofs.Common.{◌≡◌, ◌∙◌, ℕ, Bool, true, false, cond, List, [], ◌∷◌, map, Option, Some, None, refl, ap, sym}
use Rattle.host_messages.specs.declared.item.Lent.{Lent}
use Rattle.host_sessions.specs.Turns.{not_lent, is_among, kept_by, back_by}
use Rattle.session_laws.specs.World.{is_loan_of, given_to, or_else, unless}
use Rattle.host_halves.proofs.Lent.{AreApart, nothing_given}

-- what a slot gets of all loans, of those that are taken back, and of those that are kept
data Parts (all back kept : Option ℕ) : Type 0 where
  Neither : all ≡ None → back ≡ None → kept ≡ None → Parts all back kept
  Returned : (f : ℕ) → all ≡ Some f → back ≡ Some f → kept ≡ None → Parts all back kept
  Kept : (f : ℕ) → all ≡ Some f → back ≡ None → kept ≡ Some f → Parts all back kept

neither : (o : Option ℕ) (g : ℕ) → o ≡ None → o ≡ Some g → ⊥
neither o g a b = cc

-- a loan that gives the slot nothing, or is no loan any more
passed : (m : Bool) (l : Lent) (ls : List Lent) (s : ℕ) → is_loan_of s l ≡ false → given_to (cond m l not_lent ∷ ls) s ≡ given_to ls s
passed true l ls s e = ap (λ (b : Bool). cond b (Some l.frame) (given_to ls s)) e
passed false l ls s e = nothing_given ls s

passed_too : (m : Bool) (l : Lent) (ls : List Lent) (s : ℕ) → is_loan_of s l ≡ false → given_to (cond m not_lent l ∷ ls) s ≡ given_to ls s
passed_too true l ls s e = nothing_given ls s
passed_too false l ls s e = ap (λ (b : Bool). cond b (Some l.frame) (given_to ls s)) e

gives : (l : Lent) (ls : List Lent) (s : ℕ) → is_loan_of s l ≡ true → given_to (l ∷ ls) s ≡ Some l.frame
gives l ls s e = ap (λ (b : Bool). cond b (Some l.frame) (given_to ls s)) e

-- the loan is the slot's: no later one is
mine : (m : Bool) (l : Lent) (ls bs ks : List Lent) (s : ℕ) → is_loan_of s l ≡ true → ((f : ℕ) → given_to ls s ≡ Some f → ⊥)
    → Parts (given_to ls s) (given_to bs s) (given_to ks s) → Parts (given_to (l ∷ ls) s) (given_to (cond m l not_lent ∷ bs) s) (given_to (cond m not_lent l ∷ ks) s)
mine true l ls bs ks s e apart (Neither a b k) = Returned l.frame (gives l ls s e) (gives l bs s e) (nothing_given ks s ∙ k)
mine false l ls bs ks s e apart (Neither a b k) = Kept l.frame (gives l ls s e) (nothing_given bs s ∙ b) (gives l ks s e)
mine m l ls bs ks s e apart (Returned f a b k) = absurd (apart f a)
mine m l ls bs ks s e apart (Kept f a b k) = absurd (apart f a)

-- it is another slot's
another : (m : Bool) (l : Lent) (ls bs ks : List Lent) (s : ℕ) → is_loan_of s l ≡ false
    → Parts (given_to ls s) (given_to bs s) (given_to ks s) → Parts (given_to (l ∷ ls) s) (given_to (cond m l not_lent ∷ bs) s) (given_to (cond m not_lent l ∷ ks) s)
another m l ls bs ks s e (Neither a b k) = Neither (passed true l ls s e ∙ a) (passed m l bs s e ∙ b) (passed_too m l ks s e ∙ k)
another m l ls bs ks s e (Returned f a b k) = Returned f (passed true l ls s e ∙ a) (passed m l bs s e ∙ b) (passed_too m l ks s e ∙ k)
another m l ls bs ks s e (Kept f a b k) = Kept f (passed true l ls s e ∙ a) (passed m l bs s e ∙ b) (passed_too m l ks s e ∙ k)

-- one loan, and then all of them
next : (frames : List ℕ) (l : Lent) (ls : List Lent) (s : ℕ) → ((f : ℕ) → is_loan_of s l ≡ true → given_to ls s ≡ Some f → ⊥)
    → Parts (given_to ls s) (given_to (map (back_by frames) ls) s) (given_to (map (kept_by frames) ls) s)
    → Parts (given_to (l ∷ ls) s) (given_to (map (back_by frames) (l ∷ ls)) s) (given_to (map (kept_by frames) (l ∷ ls)) s)
next frames l ls s apart rest = whose (is_loan_of s l) refl where
  whose : (c : Bool) → is_loan_of s l ≡ c → Parts (given_to (l ∷ ls) s) (given_to (map (back_by frames) (l ∷ ls)) s) (given_to (map (kept_by frames) (l ∷ ls)) s)
  whose true e = mine (is_among frames l) l ls (map (back_by frames) ls) (map (kept_by frames) ls) s e (λ f x. apart f e x) rest
  whose false e = another (is_among frames l) l ls (map (back_by frames) ls) (map (kept_by frames) ls) s e rest

parts : (frames : List ℕ) (ls : List Lent) (s : ℕ) → AreApart ls → Parts (given_to ls s) (given_to (map (back_by frames) ls) s) (given_to (map (kept_by frames) ls) s)
parts frames [] s apart = Neither refl refl refl
parts frames (l ∷ ls) s apart = next frames l ls s (λ f e x. apart.0 s f e x) (parts frames ls s apart.1)

-- what is left when all was lent, and some taken back, is what the kept loans give
pub back_again : (frames : List ℕ) (ls : List Lent) (s : ℕ) (o : Option ℕ) → AreApart ls → ((f : ℕ) → given_to ls s ≡ Some f → o ≡ None)
    → unless (given_to (map (back_by frames) ls) s) (or_else (given_to ls s) o) ≡ or_else (given_to (map (kept_by frames) ls) s) o
back_again frames ls s o apart free = again (given_to ls s) (given_to (map (back_by frames) ls) s) (given_to (map (kept_by frames) ls) s) free (parts frames ls s apart) where
  again : (all back kept : Option ℕ) → ((f : ℕ) → all ≡ Some f → o ≡ None) → Parts all back kept → unless back (or_else all o) ≡ or_else kept o
  again all back kept free (Neither a b k) = ap (λ (x : Option ℕ). unless x (or_else all o)) b ∙ ap (λ (x : Option ℕ). or_else x o) a ∙ sym (ap (λ (x : Option ℕ). or_else x o) k)
  again all back kept free (Returned f a b k) = ap (λ (x : Option ℕ). unless x (or_else all o)) b ∙ sym (free f a) ∙ sym (ap (λ (x : Option ℕ). or_else x o) k)
  again all back kept free (Kept f a b k) = ap (λ (x : Option ℕ). unless x (or_else all o)) b ∙ ap (λ (x : Option ℕ). or_else x o) a ∙ sym (ap (λ (x : Option ℕ). or_else x o) k)

-- kept loans give slots that were free
pub kept_free : (frames : List ℕ) (ls : List Lent) (s : ℕ) (o : Option ℕ) → AreApart ls → ((f : ℕ) → given_to ls s ≡ Some f → o ≡ None)
    → (f : ℕ) → given_to (map (kept_by frames) ls) s ≡ Some f → o ≡ None
kept_free frames ls s o apart free f given = by (parts frames ls s apart) where
  by : Parts (given_to ls s) (given_to (map (back_by frames) ls) s) (given_to (map (kept_by frames) ls) s) → o ≡ None
  by (Neither a b k) = absurd (neither (given_to (map (kept_by frames) ls) s) f k given)
  by (Returned g a b k) = absurd (neither (given_to (map (kept_by frames) ls) s) f k given)
  by (Kept g a b k) = free g a
