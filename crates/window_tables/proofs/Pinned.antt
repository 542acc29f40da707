-- Counts of pages that are pinned and unpinned.
use Rattle.std.proofs.Common.{◌≡◌, ◌∙◌, ℕ, ◌+◌, ◌-◌, ◌<◌, ◌≤◌, Bool, true, false, cond, not, ◌&&◌, ◌⊎◌, inl, inr, List, [], ◌∷◌, ◌++◌, length, map, take, refl, ap, sym, arith}
use Rattle.std.specs.Prelude.{nat_eq, nat_le, nat_lt}
use Rattle.std.specs.List.{list_any}
use Rattle.std.proofs.Math.ListN.{get_or, get_or-append, drop}
use Rattle.std.proofs.lemmas.Bool.{leb-true}
use Rattle.std.proofs.lemmas.Bool.Decides.{leb_tells}
use Rattle.std.proofs.lemmas.List.{get_or-append_right, get_or-drop, get_or-map, get_or-take, length-drop, length-map, length-take-le}
use Rattle.window_tables.specs.Pins.{can_pin, can_unpin, counts_of, have_none, pinned, unpinned, with_counts}
use Rattle.window_tables.specs.PinLaws.{Pinning, pins, unpins, changed, counts_after, is_in, does_pin, does_unpin, times_pinned, times_unpinned}
use Rattle.window_tables.proofs.PinCounts.{differs_at}
use Rattle.window_tables.proofs.PinPlaces.{differ, lt_tells, one}

-- where a page is
data Lies (from count page : ℕ) : Type 0 where
  before : page < from → is_in from count page ≡ false → Lies from count page
  within : from ≤ page → page < from + count → is_in from count page ≡ true → Lies from count page
  behind : from + count ≤ page → is_in from count page ≡ false → Lies from count page

lies : (from count page : ℕ) → Lies from count page
lies from count page = pick (leb_tells from page) (lt_tells page (from + count)) where
  pick : ((nat_le from page ≡ true) × (from ≤ page)) ⊎ ((nat_le from page ≡ false) × (page < from)) →
      ((nat_lt page (from + count) ≡ true) × (page < from + count)) ⊎ ((nat_lt page (from + count) ≡ false) × (from + count ≤ page)) → Lies from count page
  pick (inr a) b = before a.1 (ap (λ t. t && nat_lt page (from + count)) a.0)
  pick (inl a) (inl b) = within a.1 b.1 (ap (λ t. t && nat_lt page (from + count)) a.0 ∙ b.0)
  pick (inl a) (inr b) = behind b.1 (ap (λ t. t && nat_lt page (from + count)) a.0 ∙ b.0)

taken : (from count : ℕ) (ns : List ℕ) → from + count ≤ length ns → length (counts_of from count ns) ≡ count
taken from count ns l = length-take-le count (drop from ns) (omega (arith, l, length-drop from ns))

-- a page's count among those
count_in : (from count page : ℕ) (ns : List ℕ) → from ≤ page → page < from + count → get_or (counts_of from count ns) (page - from) 0 ≡ get_or ns page 0
count_in from count page ns l m =
    let is : from + (page - from) ≡ page = omega (arith, l) in
    get_or-take count (drop from ns) (page - from) 0 (omega (arith, l, m)) ∙ get_or-drop from ns (page - from) 0 ∙ ap (λ k. get_or ns k 0) is

-- a page's count once those were changed
count_then : (change : ℕ → ℕ) (from count page : ℕ) (ns : List ℕ) → from + count ≤ length ns →
    get_or (with_counts change from count ns) page 0 ≡ cond (is_in from count page) (change (get_or ns page 0)) (get_or ns page 0)
count_then change from count page ns l = pick (lies from count page) where
  middle : List ℕ
  middle = map change (counts_of from count ns)

  rest : List ℕ
  rest = drop (from + count) ns

  front_long : length (take from ns) ≡ from
  front_long = length-take-le from ns (omega (arith, l))

  middle_long : length (map change (counts_of from count ns)) ≡ count
  middle_long = length-map (counts_of from count ns) change ∙ taken from count ns l

  pick : Lies from count page → get_or (with_counts change from count ns) page 0 ≡ cond (is_in from count page) (change (get_or ns page 0)) (get_or ns page 0)
  pick (before a e) =
      get_or-append (take from ns) (middle ++ rest) 0 page (omega (arith, a, front_long))
      ∙ get_or-take from ns page 0 a
      ∙ sym (ap (λ b. cond b (change (get_or ns page 0)) (get_or ns page 0)) e)
  pick (within a b e) =
      get_or-append_right (take from ns) (middle ++ rest) from page 0 front_long a
      ∙ get_or-append middle rest 0 (page - from) (omega (arith, a, b, middle_long))
      ∙ get_or-map change (counts_of from count ns) (page - from) 0 0 (omega (arith, a, b, taken from count ns l))
      ∙ ap change (count_in from count page ns a b)
      ∙ sym (ap (λ t. cond t (change (get_or ns page 0)) (get_or ns page 0)) e)
  pick (behind a e) =
      let is : (from + count) + ((page - from) - count) ≡ page = omega (arith, a) in
      get_or-append_right (take from ns) (middle ++ rest) from page 0 front_long (omega (arith, a))
      ∙ get_or-append_right middle rest count (page - from) 0 middle_long (omega (arith, a))
      ∙ get_or-drop (from + count) ns ((page - from) - count) 0
      ∙ ap (λ k. get_or ns k 0) is
      ∙ sym (ap (λ t. cond t (change (get_or ns page 0)) (get_or ns page 0)) e)

both : (a b : Bool) → (a && b) ≡ true → (a ≡ true) × (b ≡ true)
both true b e = (refl, e)
both false b e = differ e refl

-- what a call was that changed something
were : (number from count : ℕ) (ns : List ℕ) → have_none number from count ns ≡ true →
    (from + count ≤ length ns) × (list_any (nat_eq number) (counts_of from count ns) ≡ false)
were number from count ns e =
    let parts = both (nat_le (from + count) (length ns)) (not (list_any (nat_eq number) (counts_of from count ns))) e in
    (leb-true (from + count) (length ns) parts.0, other (list_any (nat_eq number) (counts_of from count ns)) parts.1) where
      other : (b : Bool) → not b ≡ true → b ≡ false
      other false f = refl
      other true f = sym f

-- one call changes a page's count by one, if it is about the page
pin_counts : (from count page : ℕ) (ns : List ℕ) → can_pin from count ns ≡ true →
    get_or (pinned from count ns) page 0 ≡ get_or ns page 0 + one (is_in from count page)
pin_counts from count page ns e =
    count_then (λ n. n + 1) from count page ns (were 65535 from count ns e).0 ∙ pick (is_in from count page) where
      pick : (b : Bool) → cond b (get_or ns page 0 + 1) (get_or ns page 0) ≡ get_or ns page 0 + one b
      pick true = refl
      pick false = omega arith

unpin_counts : (from count page : ℕ) (ns : List ℕ) → can_unpin from count ns ≡ true →
    get_or (unpinned from count ns) page 0 + one (is_in from count page) ≡ get_or ns page 0
unpin_counts from count page ns e = ap (λ n. n + one (is_in from count page)) (count_then (λ n. n - 1) from count page ns facts.0) ∙ pick (lies from count page) where
  facts : (from + count ≤ length ns) × (list_any (nat_eq 0) (counts_of from count ns) ≡ false)
  facts = were 0 from count ns e

  outside : is_in from count page ≡ false → cond (is_in from count page) (get_or ns page 0 - 1) (get_or ns page 0) + one (is_in from count page) ≡ get_or ns page 0
  outside f = ap (λ b. cond b (get_or ns page 0 - 1) (get_or ns page 0) + one b) f ∙ omega arith

  pick : Lies from count page → cond (is_in from count page) (get_or ns page 0 - 1) (get_or ns page 0) + one (is_in from count page) ≡ get_or ns page 0
  pick (before a f) = outside f
  pick (behind a f) = outside f
  pick (within a b f) =
      let there : page - from < length (counts_of from count ns) = omega (arith, a, b, taken from count ns facts.0) in
      ap (λ t. cond t (get_or ns page 0 - 1) (get_or ns page 0) + one t) f
      ∙ omega (arith, differs_at 0 (counts_of from count ns) (page - from) there facts.1, count_in from count page ns a b)

one_call : (c : Pinning) (page : ℕ) (ns : List ℕ) →
    get_or (changed ns c) page 0 + one (does_unpin page ns c) ≡ get_or ns page 0 + one (does_pin page ns c)
one_call (pins from count) page ns = pick (can_pin from count ns) refl where
  pick : (b : Bool) → can_pin from count ns ≡ b → get_or (cond b (pinned from count ns) ns) page 0 + one false ≡ get_or ns page 0 + one (b && is_in from count page)
  pick true e = omega (arith, pin_counts from count page ns e)
  pick false e = refl
one_call (unpins from count) page ns = pick (can_unpin from count ns) refl where
  pick : (b : Bool) → can_unpin from count ns ≡ b → get_or (cond b (unpinned from count ns) ns) page 0 + one (b && is_in from count page) ≡ get_or ns page 0 + one false
  pick true e = omega (arith, unpin_counts from count page ns e)
  pick false e = refl

pub pins_counted : (ns : List ℕ) (calls : List Pinning) (page : ℕ) →
    get_or (counts_after ns calls) page 0 + times_unpinned page ns calls ≡ get_or ns page 0 + times_pinned page ns calls
pins_counted ns [] page = refl
pins_counted ns (c ∷ cs) page = omega (arith, pins_counted (changed ns c) cs page, one_call c page ns)
