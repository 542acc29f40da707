-- A history in which a reply is lost may happen.
use Rattle.std.proofs.Common.{◌≡◌, ℕ, Bool, true, false, cond, List, [], ◌∷◌, Option, Some, None, refl, subst}
use Rattle.std.specs.Prelude.{nat_eq}
use Rattle.std.proofs.lemmas.Bool.{eqb-true}
use Rattle.session_laws.specs.World.{AreFree, no_slots, with_loans}
use Rattle.session_laws.specs.Laws.{loan, LosesOne}

given_as : (s f : ℕ) (b : Bool) → nat_eq 4 s ≡ b → cond b (Some 1) None ≡ Some f → 4 ≡ s
given_as s f true e g = eqb-true 4 s e
given_as s f false e g = cc

-- the second loan's slot was free
free_still : AreFree (loan 4 1 ∷ []) (with_loans (loan 3 0 ∷ []) no_slots)
free_still s f e = subst (λ (n : ℕ). with_loans (loan 3 0 ∷ []) no_slots n ≡ None) (given_as s f (nat_eq 4 s) refl e) refl

pub loses_one : LosesOne
loses_one = record {
  may = (
    tt,
    ((refl, refl, refl), ((refl, refl, refl), (refl, ((refl, λ s f e. refl), ((refl, refl), (refl, ((refl, free_still), (tt, (tt, ((refl, refl), ((refl, refl, refl), tt))))))))))),
  );
  shown = refl;
  held = refl;
  lost = refl;
}
