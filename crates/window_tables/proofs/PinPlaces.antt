-- Places of a table, as transfers begin and end there.
use Rattle.std.proofs.Common.{◌≡◌, ◌∙◌, ℕ, ◌+◌, ◌<◌, ◌≤◌, Bool, true, false, cond, not, ◌&&◌, ◌||◌, ◌⊎◌, inl, inr, List, [], ◌∷◌, length, Some, None, refl, ap, sym, subst, arith}
use Rattle.std.specs.Prelude.{nat_lt, position}
use Rattle.std.specs.List.{list_any}
use Rattle.std.proofs.Math.ListN.{get_or, get_or-eq_default}
use Rattle.std.proofs.lemmas.Bool.{eqb-false, ltb-true, ltb-false}
use Rattle.std.proofs.lemmas.List.{get_or-set_same, get_or-set_other, length-set, set_past}
use Rattle.std.proofs.lemmas.List.Folds.{list_any_at}
use Rattle.std.proofs.lemmas.List.Sums.{passes_at_first, prefix_len-le-length, sum_by-set}
use Rattle.window_tables.specs.declared.pins.transfers.Transfer.{Transfer}
use Rattle.window_tables.specs.Transfers.{first_free, freed, is_free, meets, no_transfer, transfer_of, with_begun, with_ended}
use Rattle.window_tables.specs.PinLaws.{Transfers, begun, ended, Call, begins, ends, moved, after, is_end_of, met}

pub differ : {X : Type 0} {b : Bool} → b ≡ true → b ≡ false → X
differ {b = true} e f = absurd (no_path f) where
  no_path : true ≡ false → ⊥
  no_path g = cc
differ {b = false} e f = absurd (no_path e) where
  no_path : false ≡ true → ⊥
  no_path g = cc

pub none_free : (ts : List Transfer) → position is_free ts ≡ None → length ts ≡ first_free ts
none_free ts e = pick (nat_lt (first_free ts) (length ts)) refl e where
  pick : (b : Bool) → nat_lt (first_free ts) (length ts) ≡ b → cond b (Some (first_free ts)) None ≡ None → length ts ≡ first_free ts
  pick true l f = absurd (no_path f) where
    no_path : Some (first_free ts) ≡ None → ⊥
    no_path g = cc
  pick false l f = omega (arith, ltb-false (first_free ts) (length ts) l, prefix_len-le-length (λ t. not (is_free t)) ts)

-- the first free place is free
pub is_first_free : (ts : List Transfer) → first_free ts < length ts → (get_or ts (first_free ts) no_transfer).is_there ≡ false
is_first_free ts l = other (get_or ts (first_free ts) no_transfer).is_there (passes_at_first is_free ts no_transfer l) where
  other : (b : Bool) → not b ≡ true → b ≡ false
  other false e = refl
  other true e = sym e

-- a transfer stands at a place
pub record Stands (place : ℕ) (t : Transfer) (ts : List Transfer) : Type 0 where
  pub within : place < length ts
  pub is : get_or ts place no_transfer ≡ t

-- where one stands no other begins
pub not_first : (place : ℕ) (t : Transfer) (ts : List Transfer) → t.is_there ≡ true → Stands place t ts → place ≡ first_free ts → ⊥
not_first place t ts there h e =
    differ there (sym (ap (λ u. u.is_there) (sym (ap (λ k. get_or ts k no_transfer) e) ∙ h.is)) ∙ is_first_free ts (subst (λ k. k < length ts) e h.within))

kept_by_begin : (place begin end : ℕ) (t : Transfer) (ts : List Transfer) → t.is_there ≡ true → Stands place t ts → Stands place t (with_begun begin end ts)
kept_by_begin place begin end t ts there h = record {
  within = subst (λ n. place < n) (sym (length-set ts (first_free ts) (transfer_of begin end))) h.within;
  is = get_or-set_other ts (first_free ts) place (transfer_of begin end) no_transfer (not_first place t ts there h) ∙ h.is;
}

kept_by_end : (place other : ℕ) (t : Transfer) (ts : List Transfer) → (place ≡ other → ⊥) → Stands place t ts → Stands place t (with_ended other ts)
kept_by_end place other t ts is_other h = record {
  within = subst (λ n. place < n) (sym (length-set ts other (freed (get_or ts other no_transfer)))) h.within;
  is = get_or-set_other ts other place (freed (get_or ts other no_transfer)) no_transfer is_other ∙ h.is;
}

kept_by : (place : ℕ) (t : Transfer) (w : Transfers) (c : Call) → t.is_there ≡ true → is_end_of place c ≡ false → Stands place t w.table →
    Stands place t (moved w c).table
kept_by place t w (begins begin end) there not_its h = kept_by_begin place begin end t w.table there h
kept_by place t w (ends other) there not_its h = kept_by_end place other t w.table (eqb-false place other not_its) h

first_of : (a b : Bool) → (a || b) ≡ false → a ≡ false
first_of false b e = refl
first_of true b e = e

rest_of : (a b : Bool) → (a || b) ≡ false → b ≡ false
rest_of false b e = e
rest_of true b e = differ refl e

kept : (place : ℕ) (t : Transfer) (w : Transfers) (calls : List Call) → t.is_there ≡ true → list_any (is_end_of place) calls ≡ false → Stands place t w.table →
    Stands place t (after w calls).table
kept place t w [] there none h = h
kept place t w (c ∷ cs) there none h =
    kept place t (moved w c) cs there (rest_of (is_end_of place c) (list_any (is_end_of place) cs) none)
    (kept_by place t w c there (first_of (is_end_of place c) (list_any (is_end_of place) cs) none) h)

pub stays_under_way : (w : Transfers) (begin end : ℕ) → first_free w.table < length w.table → (calls : List Call) →
    list_any (is_end_of (first_free w.table)) calls ≡ false → (from to : ℕ) → meets from to (transfer_of begin end) ≡ true →
    list_any (meets from to) (after (begun w begin end) calls).table ≡ true
stays_under_way w begin end l calls none from to e =
    let t = transfer_of begin end in
    let place = first_free w.table in
    let stood : Stands (first_free w.table) (transfer_of begin end) (begun w begin end).table = record {
      within = subst (λ n. place < n) (sym (length-set w.table place t)) l;
      is = get_or-set_same w.table place t no_transfer l;
    } in
    let stands = kept place t (begun w begin end) calls refl none stood in
    list_any_at (meets from to) (after (begun w begin end) calls).table place no_transfer stands.within (ap (meets from to) stands.is ∙ e)

abbrev pub one : Bool → ℕ
one b = cond b 1 0

pub lt_tells : (a b : ℕ) → ((nat_lt a b ≡ true) × (a < b)) ⊎ ((nat_lt a b ≡ false) × (b ≤ a))
lt_tells a b = pick (nat_lt a b) refl where
  pick : (t : Bool) → nat_lt a b ≡ t → ((nat_lt a b ≡ true) × (a < b)) ⊎ ((nat_lt a b ≡ false) × (b ≤ a))
  pick true e = inl (e, ltb-true a b e)
  pick false e = inr (e, ltb-false a b e)

-- what a free place meets
free_meets : (from to : ℕ) (t : Transfer) → t.is_there ≡ false → meets from to t ≡ false
free_meets from to t e = ap (λ b. b && (nat_lt from t.end && nat_lt t.begin to)) e

pub begun_meets : (w : Transfers) (begin end : ℕ) → first_free w.table < length w.table → (from to : ℕ) →
    met from to (begun w begin end).table ≡ met from to w.table + one (meets from to (transfer_of begin end))
begun_meets w begin end l from to =
    let place = first_free w.table in
    let none : one (meets from to (get_or w.table place no_transfer)) ≡ 0 =
    ap (λ b. one b) (free_meets from to (get_or w.table place no_transfer) (is_first_free w.table l)) in
    omega (arith, sum_by-set (λ t. one (meets from to t)) w.table place (transfer_of begin end) no_transfer l, none)

pub begun_nowhere : (w : Transfers) (begin end : ℕ) → length w.table ≤ first_free w.table → (begun w begin end).table ≡ w.table
begun_nowhere w begin end l = set_past w.table (first_free w.table) (transfer_of begin end) l

pub ended_meets : (w : Transfers) (place from to : ℕ) →
    met from to (ended w place).table + one (meets from to (get_or w.table place no_transfer)) ≡ met from to w.table
ended_meets w place from to = pick (lt_tells place (length w.table)) where
  t : Transfer
  t = get_or w.table place no_transfer

  pick : ((nat_lt place (length w.table) ≡ true) × (place < length w.table)) ⊎ ((nat_lt place (length w.table) ≡ false) × (length w.table ≤ place)) →
      met from to (ended w place).table + one (meets from to t) ≡ met from to w.table
  pick (inl l) =
      let none : one (meets from to (freed t)) ≡ 0 = refl in
      omega (arith, sum_by-set (λ u. one (meets from to u)) w.table place (freed t) no_transfer l.1, none)
  pick (inr l) =
      let none : one (meets from to t) ≡ 0 =
      ap (λ b. one b) (free_meets from to t (ap (λ u. u.is_there) (get_or-eq_default w.table no_transfer l.1))) in
      let same : met from to (ended w place).table ≡ met from to w.table = ap (λ ts. met from to ts) (set_past w.table place (freed t) l.1) in
      omega (arith, none, same)
