-- Each step on what is shown keeps its rule.
use Rattle.std.proofs.Common.{◌≡◌, ◌≢◌, ℕ, true, List, [], ◌∷◌, ◌++◌, set, refl, ap, sym, subst, ◌∙◌, ⊎_elim}
use Rattle.std.specs.List.{fold}
use mathlib.Core.Option.{some}
use lib.ListN.{get_elem?}
use Rattle.crossbeam_utils.specs.Register.{Admits, Turns, TurnsAt, Forks, Merges}
use Rattle.atomic_table.proofs.Lists.{at_set, at_snoc}
use Rattle.watched_machine.specs.declared.shown.Shown.{Shown}
use Rattle.watched_machine.specs.declared.seat.Seat.{Seat}
use Rattle.watched_machine.specs.Reports.{StartsWith}
use Rattle.watched_machine.specs.Showing.{Follows, ShowsLast, Looks, Replaces, list_shown, newcomer, tied_only}
use Rattle.watched_machine.proofs.Fronts.{front_of_itself, front_of_front}

abbrev Each : Shown → List Seat → Type 0
Each x seats = (i : ℕ) (s : Seat) → get_elem? seats i ≡ some s → Follows x s

newcomer_follows : (x : Shown) → Follows x newcomer
newcomer_follows x = record { history = λ e. cc; seen = refl }

-- where one seat changes
each_changed : (x : Shown) (seats : List Seat) (i : ℕ) (s : Seat) → Follows x s → Each x seats → Each x (set seats i s)
each_changed x seats i s own others j t e =
    ⊎_elim
    (λ (p : (j ≡ i) × (s ≡ t)). let P : Seat → Type 0 = λ z. Follows x z in subst P p.1 own)
    (λ (p : (j ≢ i) × (get_elem? seats j ≡ some t)). others j t p.1)
    (at_set seats i j s t e)

-- where a seat comes
each_added : (x : Shown) (seats : List Seat) (s : Seat) → Follows x s → Each x seats → Each x (seats ++ s ∷ [])
each_added x seats s own others j t e =
    ⊎_elim (others j t) (λ (p : s ≡ t). let P : Seat → Type 0 = λ z. Follows x z in subst P p own) (at_snoc seats s t j e)

pub begins : (x : Shown) → ShowsLast x (newcomer ∷ [])
begins x = record { each = each_added x [] newcomer (newcomer_follows x) (λ j t e. cc) }

pub admits : Admits ShowsLast newcomer
admits x seats h = record { each = each_added x seats newcomer (newcomer_follows x) h.each }

-- the seat that knows all of what is shown
abbrev knowing : Shown → Seat
knowing x = record { is_tied = true; history = x.told.history }

knowing_follows : (x : Shown) → Follows x (knowing x)
knowing_follows x = record { history = λ e. refl; seen = front_of_itself (list_shown x) }

pub looks : (seat : ℕ) (s : Seat) → Turns ShowsLast seat s (λ x. x) Looks
looks seat s x seats h here =
    let own = h.each seat s here in (
      knowing x,
      record { each = each_changed x seats seat (knowing x) (knowing_follows x) h.each },
      record { knows = (refl, refl); history = own.history; seen = own.seen },
    )

pub forks : (seat : ℕ) (s : Seat) → Forks ShowsLast seat s s (tied_only s)
forks seat s x seats h here =
    let own = h.each seat s here in record {
      each = each_added x (set seats seat s) (tied_only s) (record { history = own.history; seen = refl }) (each_changed x seats seat s own h.each);
    }

pub merges : (seat : ℕ) (s : Seat) (other : ℕ) (told : Seat) → Merges ShowsLast seat s other told told newcomer
merges seat s other told x seats h here apart there =
    let own : Follows x told = ⊎_elim
    (λ (p : (other ≡ seat) × (told ≡ told)). absurd (apart p.0))
    (λ (p : (other ≢ seat) × (get_elem? seats other ≡ some told)). h.each other told p.1)
    (at_set seats seat other told told there) in record {
      each = each_changed x (set seats seat told) other newcomer (newcomer_follows x) (each_changed x seats seat told own h.each);
    }

-- the same log is shown again, as far as before or further
pub shows_next : (seat : ℕ) (s : Seat) (x y : Shown) → y.told.history.book ≡ x.told.history.book → StartsWith (list_shown y) (list_shown x) → TurnsAt ShowsLast seat s x y Replaces
shows_next seat s x y same further seats h here =
    let follows : (i : ℕ) (t : Seat) → get_elem? seats i ≡ some t → Follows y t = λ i t e.
    let f = h.each i t e in record { history = λ tied. f.history tied ∙ sym same; seen = front_of_front t.history.log (list_shown x) (list_shown y) f.seen further } in (
      knowing y,
      record { each = each_changed y seats seat (knowing y) (knowing_follows y) follows },
      (refl, refl),
    )

pub shows_again : (seat : ℕ) (s : Seat) (x : Shown) → TurnsAt ShowsLast seat s x x Replaces
shows_again seat s x = shows_next seat s x x refl (front_of_itself (list_shown x))

-- of several operations the last decides
last_operation : (x next : Shown) (before : List Shown) → fold (λ (a : Shown) (b : Shown). b) x (before ++ next ∷ []) ≡ next
last_operation x next [] = refl
last_operation x next (y ∷ before) = last_operation y next before

-- so what is shown next is the last operation
pub shows_last : (seat : ℕ) (s : Seat) (x y : Shown) (before all : List Shown) → all ≡ before ++ y ∷ [] → y.told.history.book ≡ x.told.history.book → StartsWith (list_shown y) (list_shown x)
    → (next : Shown) → next ≡ fold (λ (a : Shown) (b : Shown). b) x all → TurnsAt ShowsLast seat s x next Replaces
shows_last seat s x y before all is same further next e =
    let now : next ≡ y = e ∙ (ap (λ l. fold (λ (a : Shown) (b : Shown). b) x l) is ∙ last_operation x y before) in
    let P : Shown → Type 0 = λ n. TurnsAt ShowsLast seat s x n Replaces in
    subst P (sym now) (shows_next seat s x y same further)
