-- Transfers that begin and end in pairs.
use Rattle.std.proofs.Common.{◌≡◌, ◌∙◌, ℕ, ◌+◌, ◌-◌, ◌<◌, ◌≤◌, min, Bool, true, false, cond, ◌&&◌, ◌||◌, ◌⊎◌, inl, inr, List, [], ◌∷◌, length, refl, ap, subst, arith}
use Rattle.std.specs.Prelude.{nat_eq, nat_le, nat_lt}
use Rattle.std.specs.List.{count_by, list_any}
use Rattle.std.proofs.Math.ListN.{get_or}
use Rattle.std.proofs.lemmas.Bool.{le-leb}
use Rattle.std.proofs.lemmas.Bool.Decides.{eqb_tells, leb_tells}
use Rattle.std.proofs.lemmas.List.{get_or-set_same, get_or-set_other, length-set, set_past}
use Rattle.std.proofs.lemmas.List.Sums.{sum_by-cons, sum_by-set}
use Rattle.window_tables.specs.declared.pins.transfers.Transfer.{Transfer}
use Rattle.window_tables.specs.Transfers.{first_free, freed, is_taken, no_transfer, transfer_of}
use Rattle.window_tables.specs.PinLaws.{Transfers, begun, ended, Call, begins, ends, after, under_way, without, are_paired, is_begin, is_end, begun_there, ended_there, places_after}
use Rattle.window_tables.proofs.PinPlaces.{differ, is_first_free, lt_tells, one}

either : {X : Type 0} (a b : Bool) → (a || b) ≡ true → (a ≡ true → X) → (a ≡ false → b ≡ true → X) → X
either true b e f g = f refl
either false b e f g = g refl e

both : (a b : Bool) → (a && b) ≡ true → (a ≡ true) × (b ≡ true)
both true b e = (refl, e)
both false b e = differ e refl

-- a number that is taken out of a list counts no more
without_step : (test : ℕ → Bool) (n m : ℕ) (ms : List ℕ) → list_any (nat_eq n) (m ∷ ms) ≡ true →
    (list_any (nat_eq n) ms ≡ true → count_by test (without n ms) + one (test n) ≡ count_by test ms) →
    count_by test (without n (m ∷ ms)) + one (test n) ≡ count_by test (m ∷ ms)
without_step test n m ms e later = pick (nat_eq n m) refl (eqb_tells n m) where
  whole : count_by test (m ∷ ms) ≡ one (test m) + count_by test ms
  whole = sum_by-cons (λ k. one (test k)) m ms

  pick : (b : Bool) → nat_eq n m ≡ b → ((nat_eq n m ≡ true) × (n ≡ m)) ⊎ ((nat_eq n m ≡ false) × (n ≡ m → ⊥)) →
      count_by test (cond b ms (m ∷ without n ms)) + one (test n) ≡ count_by test (m ∷ ms)
  pick true f (inl i) =
      let same : one (test n) ≡ one (test m) = ap (λ k. one (test k)) i.1 in
      omega (arith, whole, same)
  pick true f (inr i) = differ f i.0
  pick false f i =
      let rest : list_any (nat_eq n) ms ≡ true = either (nat_eq n m) (list_any (nat_eq n) ms) e (λ g. differ g f) (λ g h. h) in
      let split : count_by test (m ∷ without n ms) ≡ one (test m) + count_by test (without n ms) = sum_by-cons (λ k. one (test k)) m (without n ms) in
      omega (arith, whole, split, later rest)

without_counts : (test : ℕ → Bool) (n : ℕ) (ms : List ℕ) → list_any (nat_eq n) ms ≡ true →
    count_by test (without n ms) + one (test n) ≡ count_by test ms
without_counts test n [] e = differ e refl
without_counts test n (m ∷ ms) e = without_step test n m ms e (without_counts test n ms)

-- what is in a list counts
has_counts : (n : ℕ) (ms : List ℕ) → list_any (nat_eq n) ms ≡ true → 1 ≤ count_by (nat_eq n) ms
has_counts n ms e = pick (eqb_tells n n) where
  pick : ((nat_eq n n ≡ true) × (n ≡ n)) ⊎ ((nat_eq n n ≡ false) × (n ≡ n → ⊥)) → 1 ≤ count_by (nat_eq n) ms
  pick (inl i) =
      let is : one (nat_eq n n) ≡ one true = ap (λ b. one b) i.0 in
      omega (arith, without_counts (nat_eq n) n ms e, is)
  pick (inr i) = absurd (i.1 refl)

-- whether a transfer is at a place
abbrev taken_at : ℕ → List Transfer → ℕ
taken_at p ts = one (is_taken (get_or ts p no_transfer))

-- What is known of the places of transfers that haven't ended.
record Kept (w : Transfers) (places : List ℕ) : Type 0 where
  at : (p : ℕ) → p < length w.table → count_by (nat_eq p) places ≤ taken_at p w.table
  elsewhere : count_by (nat_le (length w.table)) places ≤ w.elsewhere

-- a place is there, or isn't, or is this one
abbrev Told : ℕ → ℕ → Type 0
Told p q = ((nat_eq p q ≡ true) × (p ≡ q)) ⊎ ((nat_eq p q ≡ false) × (p ≡ q → ⊥))

-- one begins at a place
kept_there : (w : Transfers) (places : List ℕ) (begin end : ℕ) → first_free w.table < length w.table → Kept w places →
    Kept (begun w begin end) (first_free w.table ∷ places)
kept_there w places begin end l h = record { at = at; elsewhere = elsewhere } where
  place : ℕ
  place = first_free w.table

  t : Transfer
  t = transfer_of begin end

  long : length (begun w begin end).table ≡ length w.table
  long = length-set w.table place t

  more : (test : ℕ → Bool) → count_by test (place ∷ places) ≡ one (test place) + count_by test places
  more test = sum_by-cons (λ k. one (test k)) place places

  at : (p : ℕ) → p < length (begun w begin end).table → count_by (nat_eq p) (place ∷ places) ≤ taken_at p (begun w begin end).table
  at p within = pick (eqb_tells p place) where
    pick : Told p place → count_by (nat_eq p) (place ∷ places) ≤ taken_at p (begun w begin end).table
    pick (inl i) =
        let now : taken_at p (begun w begin end).table ≡ one true =
        ap (λ k. taken_at k (begun w begin end).table) i.1 ∙ ap (λ u. one (is_taken u)) (get_or-set_same w.table place t no_transfer l) in
        let was : taken_at p w.table ≡ one false = ap (λ k. taken_at k w.table) i.1 ∙ ap (λ b. one b) (is_first_free w.table l) in
        let is : one (nat_eq p place) ≡ one true = ap (λ b. one b) i.0 in
        omega (arith, now, was, is, more (nat_eq p), h.at p (omega (arith, within, long)))
    pick (inr i) =
        let same : taken_at p (begun w begin end).table ≡ taken_at p w.table =
        ap (λ u. one (is_taken u)) (get_or-set_other w.table place p t no_transfer i.1) in
        let is : one (nat_eq p place) ≡ one false = ap (λ b. one b) i.0 in
        omega (arith, same, is, more (nat_eq p), h.at p (omega (arith, within, long)))

  elsewhere : count_by (nat_le (length (begun w begin end).table)) (place ∷ places) ≤ (begun w begin end).elsewhere
  elsewhere = pick (leb_tells (length w.table) place) where
    pick : ((nat_le (length w.table) place ≡ true) × (length w.table ≤ place)) ⊎ ((nat_le (length w.table) place ≡ false) × (place < length w.table)) →
        count_by (nat_le (length (begun w begin end).table)) (place ∷ places) ≤ (begun w begin end).elsewhere
    pick (inl i) = absurd (omega (arith, i.1, l))
    pick (inr i) =
        let is : one (nat_le (length w.table) place) ≡ one false = ap (λ b. one b) i.0 in
        let same : count_by (nat_le (length (begun w begin end).table)) (place ∷ places) ≡ count_by (nat_le (length w.table)) (place ∷ places) =
        ap (λ n. count_by (nat_le n) (place ∷ places)) long in
        let stays : (begun w begin end).elsewhere ≡ w.elsewhere = stayed (lt_tells place (length w.table)) in
        omega (arith, is, same, stays, more (nat_le (length w.table)), h.elsewhere) where
          stayed : ((nat_lt place (length w.table) ≡ true) × (place < length w.table)) ⊎ ((nat_lt place (length w.table) ≡ false) × (length w.table ≤ place)) →
              (begun w begin end).elsewhere ≡ w.elsewhere
          stayed (inl j) = ap (λ b. cond b w.elsewhere (min (w.elsewhere + 1) 18446744073709551615)) j.0
          stayed (inr j) = absurd (omega (arith, j.1, l))

most : (b : Bool) → one b ≤ 1
most true = omega arith
most false = omega arith

-- how many are elsewhere then
elsewhere_more : (w : Transfers) (begin end : ℕ) → length w.table ≤ first_free w.table → w.elsewhere + 1 < 18446744073709551616 →
    (begun w begin end).elsewhere ≡ w.elsewhere + 1
elsewhere_more w begin end l few = pick (lt_tells (first_free w.table) (length w.table)) where
  pick : ((nat_lt (first_free w.table) (length w.table) ≡ true) × (first_free w.table < length w.table)) ⊎
      ((nat_lt (first_free w.table) (length w.table) ≡ false) × (length w.table ≤ first_free w.table)) → (begun w begin end).elsewhere ≡ w.elsewhere + 1
  pick (inl i) = absurd (omega (arith, i.1, l))
  pick (inr i) = ap (λ b. cond b w.elsewhere (min (w.elsewhere + 1) 18446744073709551615)) i.0 ∙ omega (arith, few)

-- one begins elsewhere
kept_elsewhere : (w : Transfers) (places : List ℕ) (begin end : ℕ) → length w.table ≤ first_free w.table → w.elsewhere + 1 < 18446744073709551616 → Kept w places →
    Kept (begun w begin end) (first_free w.table ∷ places)
kept_elsewhere w places begin end l few h = record { at = at; elsewhere = elsewhere } where
  place : ℕ
  place = first_free w.table

  same : (begun w begin end).table ≡ w.table
  same = set_past w.table place (transfer_of begin end) l

  more : (test : ℕ → Bool) → count_by test (place ∷ places) ≡ one (test place) + count_by test places
  more test = sum_by-cons (λ k. one (test k)) place places

  at : (p : ℕ) → p < length (begun w begin end).table → count_by (nat_eq p) (place ∷ places) ≤ taken_at p (begun w begin end).table
  at p within = pick (eqb_tells p place) where
    inside : p < length w.table
    inside = subst (λ ts. p < length ts) same within

    now : taken_at p (begun w begin end).table ≡ taken_at p w.table
    now = ap (λ ts. taken_at p ts) same

    pick : Told p place → count_by (nat_eq p) (place ∷ places) ≤ taken_at p (begun w begin end).table
    pick (inl i) = absurd (omega (arith, i.1, l, inside))
    pick (inr i) =
        let is : one (nat_eq p place) ≡ one false = ap (λ b. one b) i.0 in
        omega (arith, now, is, more (nat_eq p), h.at p inside)

  elsewhere : count_by (nat_le (length (begun w begin end).table)) (place ∷ places) ≤ (begun w begin end).elsewhere
  elsewhere =
      let is : one (nat_le (length w.table) place) ≤ 1 = most (nat_le (length w.table) place) in
      let counted : count_by (nat_le (length (begun w begin end).table)) (place ∷ places) ≡ count_by (nat_le (length w.table)) (place ∷ places) =
      ap (λ ts. count_by (nat_le (length ts)) (place ∷ places)) same in
      omega (arith, is, counted, elsewhere_more w begin end l few, more (nat_le (length w.table)), h.elsewhere)

elsewhere_same : (w : Transfers) (place : ℕ) → place < length w.table → (ended w place).elsewhere ≡ w.elsewhere
elsewhere_same w place l = pick (lt_tells place (length w.table)) where
  pick : ((nat_lt place (length w.table) ≡ true) × (place < length w.table)) ⊎ ((nat_lt place (length w.table) ≡ false) × (length w.table ≤ place)) →
      (ended w place).elsewhere ≡ w.elsewhere
  pick (inl i) = ap (λ b. cond b w.elsewhere (w.elsewhere - 1)) i.0
  pick (inr i) = absurd (omega (arith, i.1, l))

elsewhere_less : (w : Transfers) (place : ℕ) → length w.table ≤ place → (ended w place).elsewhere ≡ w.elsewhere - 1
elsewhere_less w place l = pick (lt_tells place (length w.table)) where
  pick : ((nat_lt place (length w.table) ≡ true) × (place < length w.table)) ⊎ ((nat_lt place (length w.table) ≡ false) × (length w.table ≤ place)) →
      (ended w place).elsewhere ≡ w.elsewhere - 1
  pick (inl i) = absurd (omega (arith, i.1, l))
  pick (inr i) = ap (λ b. cond b w.elsewhere (w.elsewhere - 1)) i.0

-- one ends at a place
kept_ended : (w : Transfers) (places : List ℕ) (place : ℕ) → place < length w.table → list_any (nat_eq place) places ≡ true → Kept w places →
    Kept (ended w place) (without place places)
kept_ended w places place l own h = record { at = at; elsewhere = elsewhere } where
  t : Transfer
  t = freed (get_or w.table place no_transfer)

  long : length (ended w place).table ≡ length w.table
  long = length-set w.table place t

  less : (test : ℕ → Bool) → count_by test (without place places) + one (test place) ≡ count_by test places
  less test = without_counts test place places own

  at : (p : ℕ) → p < length (ended w place).table → count_by (nat_eq p) (without place places) ≤ taken_at p (ended w place).table
  at p within = pick (eqb_tells p place) where
    pick : Told p place → count_by (nat_eq p) (without place places) ≤ taken_at p (ended w place).table
    pick (inl i) =
        let is : one (nat_eq p place) ≡ one true = ap (λ b. one b) i.0 in
        omega (arith, is, less (nat_eq p), most (is_taken (get_or w.table p no_transfer)), h.at p (omega (arith, within, long)))
    pick (inr i) =
        let same : taken_at p (ended w place).table ≡ taken_at p w.table = ap (λ u. one (is_taken u)) (get_or-set_other w.table place p t no_transfer i.1) in
        omega (arith, same, less (nat_eq p), h.at p (omega (arith, within, long)))

  elsewhere : count_by (nat_le (length (ended w place).table)) (without place places) ≤ (ended w place).elsewhere
  elsewhere =
      let counted : count_by (nat_le (length (ended w place).table)) (without place places) ≡ count_by (nat_le (length w.table)) (without place places) =
      ap (λ n. count_by (nat_le n) (without place places)) long in
      omega (arith, counted, elsewhere_same w place l, less (nat_le (length w.table)), h.elsewhere)

-- one ends that is elsewhere
kept_gone : (w : Transfers) (places : List ℕ) (place : ℕ) → length w.table ≤ place → list_any (nat_eq place) places ≡ true → Kept w places →
    Kept (ended w place) (without place places)
kept_gone w places place l own h = record { at = at; elsewhere = elsewhere } where
  same : (ended w place).table ≡ w.table
  same = set_past w.table place (freed (get_or w.table place no_transfer)) l

  less : (test : ℕ → Bool) → count_by test (without place places) + one (test place) ≡ count_by test places
  less test = without_counts test place places own

  at : (p : ℕ) → p < length (ended w place).table → count_by (nat_eq p) (without place places) ≤ taken_at p (ended w place).table
  at p within =
      let now : taken_at p (ended w place).table ≡ taken_at p w.table = ap (λ ts. taken_at p ts) same in
      omega (arith, now, less (nat_eq p), h.at p (subst (λ ts. p < length ts) same within))

  elsewhere : count_by (nat_le (length (ended w place).table)) (without place places) ≤ (ended w place).elsewhere
  elsewhere =
      let counted : count_by (nat_le (length (ended w place).table)) (without place places) ≡ count_by (nat_le (length w.table)) (without place places) =
      ap (λ ts. count_by (nat_le (length ts)) (without place places)) same in
      let is : one (nat_le (length w.table) place) ≡ one true = ap (λ b. one b) (le-leb (length w.table) place l) in
      omega (arith, counted, is, elsewhere_less w place l, less (nat_le (length w.table)), h.elsewhere)

-- one more is under way, and one less
counted_begin : (w : Transfers) (begin end : ℕ) → w.elsewhere + 1 < 18446744073709551616 → under_way (begun w begin end) ≡ under_way w + 1
counted_begin w begin end few = pick (lt_tells (first_free w.table) (length w.table)) where
  place : ℕ
  place = first_free w.table

  pick : ((nat_lt place (length w.table) ≡ true) × (place < length w.table)) ⊎ ((nat_lt place (length w.table) ≡ false) × (length w.table ≤ place)) →
      under_way (begun w begin end) ≡ under_way w + 1
  pick (inl i) =
      let was : taken_at place w.table ≡ one false = ap (λ b. one b) (is_first_free w.table i.1) in
      let elsewhere : (begun w begin end).elsewhere ≡ w.elsewhere = ap (λ b. cond b w.elsewhere (min (w.elsewhere + 1) 18446744073709551615)) i.0 in
      omega (arith, was, elsewhere, sum_by-set (λ u. one (is_taken u)) w.table place (transfer_of begin end) no_transfer i.1)
  pick (inr i) =
      let same : count_by is_taken (begun w begin end).table ≡ count_by is_taken w.table =
      ap (λ ts. count_by is_taken ts) (set_past w.table place (transfer_of begin end) i.1) in
      omega (arith, same, elsewhere_more w begin end i.1 few)

counted_end : (w : Transfers) (places : List ℕ) (place : ℕ) → list_any (nat_eq place) places ≡ true → Kept w places →
    under_way (ended w place) + 1 ≡ under_way w
counted_end w places place own h = pick (lt_tells place (length w.table)) where
  t : Transfer
  t = freed (get_or w.table place no_transfer)

  pick : ((nat_lt place (length w.table) ≡ true) × (place < length w.table)) ⊎ ((nat_lt place (length w.table) ≡ false) × (length w.table ≤ place)) →
      under_way (ended w place) + 1 ≡ under_way w
  pick (inl i) =
      omega (
        arith,
        elsewhere_same w place i.1,
        has_counts place places own,
        h.at place i.1,
        most (is_taken (get_or w.table place no_transfer)),
        sum_by-set (λ u. one (is_taken u)) w.table place t no_transfer i.1,
      )
  pick (inr i) =
      let same : count_by is_taken (ended w place).table ≡ count_by is_taken w.table = ap (λ ts. count_by is_taken ts) (set_past w.table place t i.1) in
      let is : one (nat_le (length w.table) place) ≡ one true = ap (λ b. one b) (le-leb (length w.table) place i.1) in
      omega (arith, same, is, elsewhere_less w place i.1, without_counts (nat_le (length w.table)) place places own, h.elsewhere)

-- the same, whatever begins
kept_begin : (w : Transfers) (places : List ℕ) (begin end : ℕ) → w.elsewhere + 1 < 18446744073709551616 → Kept w places →
    Kept (begun w begin end) (first_free w.table ∷ places)
kept_begin w places begin end few h = pick (lt_tells (first_free w.table) (length w.table)) where
  pick : ((nat_lt (first_free w.table) (length w.table) ≡ true) × (first_free w.table < length w.table)) ⊎
      ((nat_lt (first_free w.table) (length w.table) ≡ false) × (length w.table ≤ first_free w.table)) →
      Kept (begun w begin end) (first_free w.table ∷ places)
  pick (inl i) = kept_there w places begin end i.1 h
  pick (inr i) = kept_elsewhere w places begin end i.1 few h

-- and whatever ends
kept_end : (w : Transfers) (places : List ℕ) (place : ℕ) → list_any (nat_eq place) places ≡ true → Kept w places →
    Kept (ended w place) (without place places)
kept_end w places place own h = pick (lt_tells place (length w.table)) where
  pick : ((nat_lt place (length w.table) ≡ true) × (place < length w.table)) ⊎ ((nat_lt place (length w.table) ≡ false) × (length w.table ≤ place)) →
      Kept (ended w place) (without place places)
  pick (inl i) = kept_ended w places place i.1 own h
  pick (inr i) = kept_gone w places place i.1 own h

elsewhere_most : (w : Transfers) (begin end : ℕ) → (begun w begin end).elsewhere ≤ w.elsewhere + 1
elsewhere_most w begin end = pick (nat_lt (first_free w.table) (length w.table)) where
  pick : (b : Bool) → cond b w.elsewhere (min (w.elsewhere + 1) 18446744073709551615) ≤ w.elsewhere + 1
  pick true = omega arith
  pick false = omega arith

elsewhere_less_of : (w : Transfers) (place : ℕ) → (ended w place).elsewhere ≤ w.elsewhere
elsewhere_less_of w place = pick (nat_lt place (length w.table)) where
  pick : (b : Bool) → cond b w.elsewhere (w.elsewhere - 1) ≤ w.elsewhere
  pick true = omega arith
  pick false = omega arith

kept_after : (w : Transfers) (places : List ℕ) (calls : List Call) → are_paired w places calls ≡ true → w.elsewhere + length calls < 18446744073709551616 →
    Kept w places → Kept (after w calls) (places_after w places calls)
kept_after w places [] e few h = h
kept_after w places (begins begin end ∷ cs) e few h =
    kept_after (begun w begin end) (first_free w.table ∷ places) cs e (omega (arith, few, elsewhere_most w begin end))
    (kept_begin w places begin end (omega (arith, few)) h)
kept_after w places (ends place ∷ cs) e few h =
    let parts = both (list_any (nat_eq place) places) (are_paired (ended w place) (without place places) cs) e in
    kept_after (ended w place) (without place places) cs parts.1 (omega (arith, few, elsewhere_less_of w place)) (kept_end w places place parts.0 h)

counted_after : (w : Transfers) (places : List ℕ) (calls : List Call) → are_paired w places calls ≡ true → w.elsewhere + length calls < 18446744073709551616 →
    Kept w places → under_way (after w calls) + count_by is_end calls ≡ under_way w + count_by is_begin calls
counted_after w places [] e few h = refl
counted_after w places (begins begin end ∷ cs) e few h =
    omega (
      arith,
      counted_after (begun w begin end) (first_free w.table ∷ places) cs e (omega (arith, few, elsewhere_most w begin end))
          (kept_begin w places begin end (omega (arith, few)) h),
      counted_begin w begin end (omega (arith, few)),
      sum_by-cons (λ c. one (is_end c)) (begins begin end) cs,
      sum_by-cons (λ c. one (is_begin c)) (begins begin end) cs,
    )
counted_after w places (ends place ∷ cs) e few h =
    let parts = both (list_any (nat_eq place) places) (are_paired (ended w place) (without place places) cs) e in
    omega (
      arith,
      counted_after (ended w place) (without place places) cs parts.1 (omega (arith, few, elsewhere_less_of w place)) (kept_end w places place parts.0 h),
      counted_end w places place parts.0 h,
      sum_by-cons (λ c. one (is_end c)) (ends place) cs,
      sum_by-cons (λ c. one (is_begin c)) (ends place) cs,
    )

-- of those that have a place
there_begin : (w : Transfers) (begin end : ℕ) →
    count_by is_taken (begun w begin end).table ≡ count_by is_taken w.table + one (nat_lt (first_free w.table) (length w.table))
there_begin w begin end = pick (lt_tells (first_free w.table) (length w.table)) where
  place : ℕ
  place = first_free w.table

  pick : ((nat_lt place (length w.table) ≡ true) × (place < length w.table)) ⊎ ((nat_lt place (length w.table) ≡ false) × (length w.table ≤ place)) →
      count_by is_taken (begun w begin end).table ≡ count_by is_taken w.table + one (nat_lt place (length w.table))
  pick (inl i) =
      let was : taken_at place w.table ≡ one false = ap (λ b. one b) (is_first_free w.table i.1) in
      let is : one (nat_lt place (length w.table)) ≡ one true = ap (λ b. one b) i.0 in
      omega (arith, was, is, sum_by-set (λ u. one (is_taken u)) w.table place (transfer_of begin end) no_transfer i.1)
  pick (inr i) =
      let same : count_by is_taken (begun w begin end).table ≡ count_by is_taken w.table =
      ap (λ ts. count_by is_taken ts) (set_past w.table place (transfer_of begin end) i.1) in
      let is : one (nat_lt place (length w.table)) ≡ one false = ap (λ b. one b) i.0 in
      omega (arith, same, is)

there_end : (w : Transfers) (places : List ℕ) (place : ℕ) → list_any (nat_eq place) places ≡ true → Kept w places →
    count_by is_taken (ended w place).table + one (nat_lt place (length w.table)) ≡ count_by is_taken w.table
there_end w places place own h = pick (lt_tells place (length w.table)) where
  t : Transfer
  t = freed (get_or w.table place no_transfer)

  pick : ((nat_lt place (length w.table) ≡ true) × (place < length w.table)) ⊎ ((nat_lt place (length w.table) ≡ false) × (length w.table ≤ place)) →
      count_by is_taken (ended w place).table + one (nat_lt place (length w.table)) ≡ count_by is_taken w.table
  pick (inl i) =
      let is : one (nat_lt place (length w.table)) ≡ one true = ap (λ b. one b) i.0 in
      omega (
        arith,
        is,
        has_counts place places own,
        h.at place i.1,
        most (is_taken (get_or w.table place no_transfer)),
        sum_by-set (λ u. one (is_taken u)) w.table place t no_transfer i.1,
      )
  pick (inr i) =
      let same : count_by is_taken (ended w place).table ≡ count_by is_taken w.table = ap (λ ts. count_by is_taken ts) (set_past w.table place t i.1) in
      let is : one (nat_lt place (length w.table)) ≡ one false = ap (λ b. one b) i.0 in
      omega (arith, same, is)

there_after : (w : Transfers) (places : List ℕ) (calls : List Call) → are_paired w places calls ≡ true → w.elsewhere + length calls < 18446744073709551616 →
    Kept w places → count_by is_taken (after w calls).table + ended_there w calls ≡ count_by is_taken w.table + begun_there w calls
there_after w places [] e few h = refl
there_after w places (begins begin end ∷ cs) e few h =
    omega (
      arith,
      there_after (begun w begin end) (first_free w.table ∷ places) cs e (omega (arith, few, elsewhere_most w begin end))
          (kept_begin w places begin end (omega (arith, few)) h),
      there_begin w begin end,
    )
there_after w places (ends place ∷ cs) e few h =
    let parts = both (list_any (nat_eq place) places) (are_paired (ended w place) (without place places) cs) e in
    omega (
      arith,
      there_after (ended w place) (without place places) cs parts.1 (omega (arith, few, elsewhere_less_of w place)) (kept_end w places place parts.0 h),
      there_end w places place parts.0 h,
    )

none_kept : (w : Transfers) → Kept w []
none_kept w = record { at = λ p l. omega arith; elsewhere = omega arith }

pub all_counted : (w : Transfers) → under_way w ≡ 0 → (calls : List Call) → are_paired w [] calls ≡ true → length calls < 18446744073709551616 →
    under_way (after w calls) + count_by is_end calls ≡ count_by is_begin calls
all_counted w none calls e few = omega (arith, none, counted_after w [] calls e (omega (arith, none, few)) (none_kept w))

pub elsewhere_counted : (w : Transfers) → under_way w ≡ 0 → (calls : List Call) → are_paired w [] calls ≡ true → length calls < 18446744073709551616 →
    count_by (nat_le (length (after w calls).table)) (places_after w [] calls) ≤ (after w calls).elsewhere
elsewhere_counted w none calls e few = (kept_after w [] calls e (omega (arith, none, few)) (none_kept w)).elsewhere

pub there_counted : (w : Transfers) → under_way w ≡ 0 → (calls : List Call) → are_paired w [] calls ≡ true → length calls < 18446744073709551616 →
    count_by is_taken (after w calls).table + ended_there w calls ≡ begun_there w calls
there_counted w none calls e few = omega (arith, none, there_after w [] calls e (omega (arith, none, few)) (none_kept w))
