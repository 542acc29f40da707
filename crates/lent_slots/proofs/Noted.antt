-- What is noted of clients stays so as slots are lent and released.
use Rattle.std.proofs.Common.{◌≡◌, ℕ, zero, suc, ◌+◌, ◌-◌, ◌<◌, ◌≤◌, Bool, true, false, cond, List, [], ◌∷◌, length, drop, replicate, Option, Some, None, refl, ap, sym, subst, ◌∙◌, ◌⊎◌, inl, inr, arith}
use Rattle.std.specs.Prelude.{slice_set, slice_index_or, position, nat_le, nat_lt, ◌==◌}
use Rattle.std.specs.List.{position_from}
use Rattle.std.proofs.lemmas.Bool.{cases_eq, cases_lt, eq-eqb, ne_eqb, eqb-true, leb-true, leb-false, ltb-true, false≢true}
use Rattle.std.proofs.lemmas.Iterator.Adapters.{position_from-zero}
use Rattle.std.proofs.lemmas.List.{length-set, length-replicate, get_or-set_same, get_or-set_other, get_or-replicate, get_or_past}
use Rattle.std.proofs.lemmas.List.Quantifiers.{position-Some}
use Rattle.std.proofs.lemmas.List.Sums.{sum_by-set, count_by-le-length}
use Rattle.std.proofs.lemmas.List.Folds.{sum_by-replicate}
use Rattle.lent_slots.specs.declared.holding.Holding.{Holding}
use Rattle.lent_slots.specs.declared.holding.ClientSlots.{ClientSlots}
use Rattle.lent_slots.specs.Slots.{holding, is_of, held_by, lent_slots}
use Rattle.lent_slots.specs.Noted.{no_slots, noted_of, NoneBelow, IsNoted, AreNoted, start_with, start_without, with_more, with_less, with_start, place_of, first_from}
use Rattle.lent_slots.proofs.SlotLists.{held_within, set_same, set_other}

abbrev bit : Bool → ℕ
bit b = cond b 1 0

-- how the number of a client's slots changes
held_set : (client n : ℕ) (x : Option Holding) (slots : List (Option Holding)) → n < length slots
    → held_by client (slice_set slots n x) + bit (is_of client (holding slots n)) ≡ held_by client slots + bit (is_of client x)
held_set client n x slots h = sum_by-set (λ (o : Option Holding). bit (is_of client o)) slots n x None h

-- a slot that is a client's is there, and counted
of_within : (client n : ℕ) (slots : List (Option Holding)) → is_of client (holding slots n) ≡ true → n < length slots
of_within client n slots e = go (holding slots n) refl e where
  go : (o : Option Holding) → holding slots n ≡ o → is_of client o ≡ true → n < length slots
  go None is f = absurd (false≢true f)
  go (Some h) is f = held_within slots n h is

some_held : (client n : ℕ) (slots : List (Option Holding)) → is_of client (holding slots n) ≡ true → 1 ≤ held_by client slots
some_held client n slots e = omega (arith, held_set client n None slots (of_within client n slots e), ap bit e)

-- so many slots at most
pub few_held : (client most : ℕ) (slots : List (Option Holding)) → length slots ≤ most → held_by client slots ≤ most
few_held client most slots few = omega (arith, count_by-le-length (is_of client) slots, few)

module _ (p : Option Holding → Bool) where
  -- elements before place n that don't pass may be left out
  from_place : (i n : ℕ) (xs : List (Option Holding)) → ((k : ℕ) → p (slice_index_or xs k None) ≡ true → n ≤ k) → position_from p i xs ≡ position_from p (i + n) (drop n xs)
  from_place i zero xs later = ap (λ (j : ℕ). position_from p j xs) (omega arith)
  from_place i (suc n) [] later = refl
  from_place i (suc n) (x ∷ xs) later = go (p x) refl (from_place (i + 1) n xs (λ k e. omega (arith, later (suc k) e))) where
    go : (b : Bool) → p x ≡ b → position_from p (i + 1) xs ≡ position_from p (i + 1 + n) (drop n xs)
        → cond b (Some i) (position_from p (i + 1) xs) ≡ position_from p (i + suc n) (drop n xs)
    go true e rest = absurd (omega (arith, later 0 e))
    go false e rest = rest ∙ ap (λ (j : ℕ). position_from p j (drop n xs)) (omega arith)

-- where a client has no slot below a place, its first one is sought from there on
pub first_is : (client start : ℕ) (slots : List (Option Holding)) → NoneBelow client start slots → position (is_of client) slots ≡ first_from client start slots
first_is client start slots below =
    position_from-zero (is_of client) slots ∙ from_place (is_of client) 0 start slots below.later
    ∙ ap (λ (n : ℕ). position_from (is_of client) n (drop start slots)) (omega arith)

-- a client that is noted to have no slot has none
pub none_first : (client : ℕ) (slots : List (Option Holding)) → held_by client slots ≡ 0 → position (is_of client) slots ≡ None
none_first client slots none = go (position (is_of client) slots) refl where
  go : (o : Option ℕ) → position (is_of client) slots ≡ o → o ≡ None
  go None e = refl
  go (Some n) e = absurd (omega (arith, none, some_held client n slots (position-Some (is_of client) slots n None e).1))

pub found_within : (client ppn : ℕ) (slots : List (Option Holding)) → position (is_of client) slots ≡ Some ppn → ppn < length slots
found_within client ppn slots e = of_within client ppn slots (position-Some (is_of client) slots ppn None e).1

-- from a client's first slot on
none_before : (client ppn : ℕ) (slots : List (Option Holding)) → position (is_of client) slots ≡ Some ppn → NoneBelow client ppn slots
none_before client ppn slots e = record { later = λ q is. pick q is (cases_lt q ppn) } where
  pick : (q : ℕ) → is_of client (holding slots q) ≡ true → ((q < ppn) ⊎ (ppn ≤ q)) → ppn ≤ q
  pick q is (inl less) = absurd (false≢true (sym ((position-Some (is_of client) slots ppn None e).2 q less) ∙ is))
  pick q is (inr later) = later

-- what is noted where another client's changed, and where its own did
other_noted : (clients : List ClientSlots) (client k : ℕ) (x : ClientSlots) → (k ≡ client → ⊥) → noted_of k (slice_set clients client x) ≡ noted_of k clients
other_noted clients client k x ne = get_or-set_other clients client k x no_slots ne

own_noted : (slots : List (Option Holding)) (clients : List ClientSlots) (client k : ℕ) (x : ClientSlots) → k < length clients → k ≡ client → IsNoted client slots x
    → IsNoted k slots (noted_of k (slice_set clients client x))
own_noted slots clients client k x less e is =
    let there : client < length clients = omega (arith, less, e) in
    let now : IsNoted client slots (noted_of client (slice_set clients client x)) = subst (λ (n : ClientSlots). IsNoted client slots n) (sym (get_or-set_same clients client x no_slots there)) is in
    subst (λ (j : ℕ). IsNoted j slots (noted_of j (slice_set clients client x))) (sym e) now

-- a slot was lent to a client
module _ (slots : List (Option Holding)) (clients : List ClientSlots) (client ppn mpn : ℕ) (are : AreNoted slots clients) (there : ppn < length slots) (free : holding slots ppn ≡ None) where
  abbrev held : Option Holding
  held = Some (record { client = client; frame = mpn })

  abbrev after : List (Option Holding)
  after = lent_slots client ppn mpn slots

  more : (k : ℕ) → held_by k after + 0 ≡ held_by k slots + bit (client == k)
  more k = ap (λ (o : Option Holding). held_by k after + bit (is_of k o)) (sym free) ∙ held_set k ppn held slots there

  -- a client's slots were its own, but for the one
  was_own : (k q : ℕ) → ((q ≡ ppn) ⊎ (q ≡ ppn → ⊥)) → is_of k (holding after q) ≡ true → ((q ≡ ppn) × ((client == k) ≡ true)) ⊎ (is_of k (holding slots q) ≡ true)
  was_own k q (inl e) is = inl (e, sym (ap (is_of k) (ap (holding after) e ∙ set_same slots ppn held there)) ∙ is)
  was_own k q (inr ne) is = inr (sym (ap (is_of k) (set_other slots ppn q held ne)) ∙ is)

  others_stay : (k : ℕ) → (k ≡ client → ⊥) → (noted : ClientSlots) → IsNoted k slots noted → IsNoted k after noted
  others_stay k ne noted is =
      let other : (client == k) ≡ false = ne_eqb client k (λ e. ne (sym e)) in
      record {
        count = omega (arith, is.count, more k, ap bit other);
        start = record { later = λ q own. pick q (was_own k q (cases_eq q ppn) own) };
      } where
        pick : (q : ℕ) → ((q ≡ ppn) × ((client == k) ≡ true)) ⊎ (is_of k (holding slots q) ≡ true) → noted.start ≤ q
        pick q (inl (at, e)) = absurd (false≢true (sym (ne_eqb client k (λ e. ne (sym e))) ∙ e))
        pick q (inr own) = is.start.later q own

  start_least : (noted : ClientSlots) (q : ℕ) → IsNoted client slots noted → ((q ≡ ppn) × ((client == client) ≡ true)) ⊎ (is_of client (holding slots q) ≡ true) → start_with ppn noted ≤ q
  start_least noted q is own = go (noted.count == 0) (nat_le noted.start ppn) refl refl own where
    go : (b c : Bool) → (noted.count == 0) ≡ b → nat_le noted.start ppn ≡ c → ((q ≡ ppn) × ((client == client) ≡ true)) ⊎ (is_of client (holding slots q) ≡ true)
        → cond b ppn (cond c noted.start ppn) ≤ q
    go true c none le (inl (at, e)) = omega (arith, at)
    go true c none le (inr own) = absurd (omega (arith, eqb-true noted.count 0 none, is.count, some_held client q slots own))
    go false true some le (inl (at, e)) = omega (arith, at, leb-true noted.start ppn le)
    go false true some le (inr own) = is.start.later q own
    go false false some le (inl (at, e)) = omega (arith, at)
    go false false some le (inr own) = omega (arith, is.start.later q own, leb-false noted.start ppn le)

  pub noted_more : AreNoted after (with_more client ppn clients)
  noted_more = record { each = λ k less. each k (omega (arith, less, length-set clients client (record { count = (noted_of client clients).count + 1; start = start_with ppn (noted_of client clients) }))) (cases_eq k client) } where
    each : (k : ℕ) → k < length clients → ((k ≡ client) ⊎ (k ≡ client → ⊥)) → IsNoted k after (noted_of k (with_more client ppn clients))
    each k less (inl e) =
        let is : IsNoted client slots (noted_of client clients) = are.each client (omega (arith, less, e)) in
        own_noted after clients client k _ less e (record {
          count = omega (arith, is.count, more client, ap bit (eq-eqb client client refl));
          start = record { later = λ q own. start_least (noted_of client clients) q is (was_own client q (cases_eq q ppn) own) };
        })
    each k less (inr ne) =
        subst (λ (n : ClientSlots). IsNoted k after n) (sym (other_noted clients client k _ ne)) (others_stay k ne (noted_of k clients) (are.each k less))

-- a slot of a client was released
module _ (slots : List (Option Holding)) (clients : List ClientSlots) (ppn : ℕ) (h : Holding) (are : AreNoted slots clients) (held : holding slots ppn ≡ Some h) where
  abbrev left : List (Option Holding)
  left = slice_set slots ppn None

  fewer : (k : ℕ) → held_by k left + bit (h.client == k) ≡ held_by k slots + 0
  fewer k = ap (λ (o : Option Holding). held_by k left + bit (is_of k o)) (sym held) ∙ held_set k ppn None slots (held_within slots ppn h held)

  pub some_noted : h.client < length clients → 1 ≤ (noted_of h.client clients).count
  some_noted less = omega (arith, (are.each h.client less).count, fewer h.client, ap bit (eq-eqb h.client h.client refl))

  still_own : (k q : ℕ) → ((q ≡ ppn) ⊎ (q ≡ ppn → ⊥)) → is_of k (holding left q) ≡ true → (q ≡ ppn → ⊥) × (is_of k (holding slots q) ≡ true)
  still_own k q (inl e) is = absurd (false≢true (sym (ap (is_of k) (ap (holding left) e ∙ set_same slots ppn None (held_within slots ppn h held))) ∙ is))
  still_own k q (inr ne) is = (ne, sym (ap (is_of k) (set_other slots ppn q None ne)) ∙ is)

  start_later : (noted : ClientSlots) (q : ℕ) → noted.start ≤ q → (q ≡ ppn → ⊥) → start_without ppn noted ≤ q
  start_later noted q less ne = go (noted.start == ppn) refl where
    go : (b : Bool) → (noted.start == ppn) ≡ b → cond b (ppn + 1) noted.start ≤ q
    go true e = omega (arith, less, ne, eqb-true noted.start ppn e)
    go false e = less

  pub noted_less : AreNoted left (with_less h.client ppn clients)
  noted_less = record { each = λ k less. each k (omega (arith, less, length-set clients h.client (record { count = (noted_of h.client clients).count - 1; start = start_without ppn (noted_of h.client clients) }))) (cases_eq k h.client) } where
    each : (k : ℕ) → k < length clients → ((k ≡ h.client) ⊎ (k ≡ h.client → ⊥)) → IsNoted k left (noted_of k (with_less h.client ppn clients))
    each k less (inl e) =
        let is : IsNoted h.client slots (noted_of h.client clients) = are.each h.client (omega (arith, less, e)) in
        own_noted left clients h.client k _ less e (record {
          count = omega (arith, is.count, fewer h.client, ap bit (eq-eqb h.client h.client refl));
          start = record { later = λ q own. let still = still_own h.client q (cases_eq q ppn) own in start_later (noted_of h.client clients) q (is.start.later q still.1) still.0 };
        })
    each k less (inr ne) =
        let is : IsNoted k slots (noted_of k clients) = are.each k less in
        subst (λ (n : ClientSlots). IsNoted k left n) (sym (other_noted clients h.client k _ ne)) (record {
          count = omega (arith, is.count, fewer k, ap bit (ne_eqb h.client k (λ e. ne (sym e))));
          start = record { later = λ q own. is.start.later q (still_own k q (cases_eq q ppn) own).1 };
        })

-- no slot is held
pub noted_new : (count clients : ℕ) → AreNoted (replicate count None) (replicate clients no_slots)
noted_new count clients = record { each = λ k less. each k (omega (arith, less, length-replicate clients no_slots)) } where
  each : (k : ℕ) → k < clients → IsNoted k (replicate count None) (noted_of k (replicate clients no_slots))
  each k less =
      let none : held_by k (replicate count None) ≡ 0 = sum_by-replicate (λ (o : Option Holding). bit (is_of k o)) count None ∙ omega arith in
      subst (λ (n : ClientSlots). IsNoted k (replicate count None) n) (sym (get_or-replicate clients k no_slots no_slots less))
      (record { count = sym none; start = record { later = λ q is. omega arith } })

-- a client's first slot was found
pub noted_start : (slots : List (Option Holding)) (clients : List ClientSlots) (client ppn : ℕ) → AreNoted slots clients → position (is_of client) slots ≡ Some ppn → AreNoted slots (with_start client ppn clients)
noted_start slots clients client ppn are found =
    record { each = λ k less. each k (omega (arith, less, length-set clients client (record { count = (noted_of client clients).count; start = ppn }))) (cases_eq k client) } where
      each : (k : ℕ) → k < length clients → ((k ≡ client) ⊎ (k ≡ client → ⊥)) → IsNoted k slots (noted_of k (with_start client ppn clients))
      each k less (inl e) =
          let is : IsNoted client slots (noted_of client clients) = are.each client (omega (arith, less, e)) in
          own_noted slots clients client k _ less e (record { count = is.count; start = none_before client ppn slots found })
      each k less (inr ne) = subst (λ (n : ClientSlots). IsNoted k slots n) (sym (other_noted clients client k _ ne)) (are.each k less)

-- where a client's first slot is sought from
nothing_some : {n : ℕ} → None ≡ Some n → ⊥
nothing_some h = cc

abbrev number : Option ℕ → ℕ
number None = 0
number (Some n) = n

pub place_none : (slots : List (Option Holding)) (clients : List ClientSlots) (client : ℕ) → AreNoted slots clients → place_of client clients ≡ None → position (is_of client) slots ≡ None
place_none slots clients client are e = go (nat_lt client (length clients)) ((noted_of client clients).count == 0) refl refl e where
  go : (b c : Bool) → nat_lt client (length clients) ≡ b → ((noted_of client clients).count == 0) ≡ c → cond b (cond c None (Some (noted_of client clients).start)) (Some 0) ≡ None
      → position (is_of client) slots ≡ None
  go true true less none e =
      none_first client slots (sym (are.each client (ltb-true client (length clients) less)).count ∙ eqb-true (noted_of client clients).count 0 none)
  go true false less none e = absurd (nothing_some (sym e))
  go false c less none e = absurd (nothing_some (sym e))

pub place_some : (slots : List (Option Holding)) (clients : List ClientSlots) (client start : ℕ) → AreNoted slots clients → place_of client clients ≡ Some start → NoneBelow client start slots
place_some slots clients client start are e = go (nat_lt client (length clients)) ((noted_of client clients).count == 0) refl e where
  go : (b c : Bool) → nat_lt client (length clients) ≡ b → cond b (cond c None (Some (noted_of client clients).start)) (Some 0) ≡ Some start → NoneBelow client start slots
  go true true less e = absurd (nothing_some e)
  go true false less e = subst (λ (n : ℕ). NoneBelow client n slots) (ap number e) (are.each client (ltb-true client (length clients) less)).start
  go false c less e = subst (λ (n : ℕ). NoneBelow client n slots) (ap number e) (record { later = λ q is. omega arith })

-- a client has as many slots as there are at most
pub room_noted : (slots : List (Option Holding)) (clients : List ClientSlots) (client most : ℕ) → AreNoted slots clients → length slots ≤ most → (noted_of client clients).count ≤ most
room_noted slots clients client most are few = pick (cases_lt client (length clients)) where
  pick : ((client < length clients) ⊎ (length clients ≤ client)) → (noted_of client clients).count ≤ most
  pick (inl less) = omega (arith, (are.each client less).count, few_held client most slots few)
  pick (inr past) = omega (arith, ap (λ (n : ClientSlots). n.count) (get_or_past clients client no_slots past))
