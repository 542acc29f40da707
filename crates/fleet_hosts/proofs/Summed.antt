-- Sums over hosts, and over the guests on them.
use Rattle.std.proofs.Common.{◌≡◌, ℕ, zero, suc, ◌+◌, ◌-◌, ◌<◌, ◌≤◌, Bool, true, false, cond, List, [], ◌∷◌, length, map, get_or, eqb, refl, sym, ap, ◌∙◌, arith, inl, inr}
use Rattle.std.proofs.lemmas.Bool.{cases_eq, eq-eqb, ne_eqb}
use Rattle.std.proofs.lemmas.List.{ext_get_or}
use Rattle.std.proofs.lemmas.List.FromFn.{get_or-map-range_with_len, length-map-range_with_len}
use Rattle.std.proofs.lemmas.List.Sums.{sum_by-cons}
use Rattle.std.specs.Prelude.{filter, sum_by}
use Rattle.std.specs.List.{range_with_len}
use Rattle.digest_text.specs.Fields.{Row}
use Rattle.fleet_census.specs.Amounts.{all_digests, amount_below, estimate, sum_below}
use Rattle.fleet_census.specs.Fleets.{all_copies, copies_of, is_zeros}
use Rattle.fleet_hosts.specs.Hosts.{guests_of, is_on}
use Rattle.fleet_hosts.specs.Laws.{on_host, reclaimed}

more : (f : ℕ → ℕ) (n : ℕ) → sum_below f (suc n) ≡ sum_below f n + f n
unfolding sum_below
more f n = refl

none : (f : ℕ → ℕ) → sum_below f 0 ≡ 0
unfolding sum_below
none f = refl

same : (f g : ℕ → ℕ) (n : ℕ) → ((k : ℕ) → f k ≡ g k) → sum_below f n ≡ sum_below g n
same f g zero each = none f ∙ sym (none g)
same f g (suc n) each = let rest = same f g n each in omega (arith, more f n, more g n, rest, each n)

low : (f g : ℕ → ℕ) (n : ℕ) → ((k : ℕ) → f k ≤ g k) → sum_below f n ≤ sum_below g n
low f g zero each = omega (arith, none f)
low f g (suc n) each = let rest = low f g n each in omega (arith, more f n, more g n, rest, each n)

zeros : (n : ℕ) → sum_below (λ k. 0) n ≡ 0
zeros zero = none (λ k. 0)
zeros (suc n) = let rest = zeros n in omega (arith, more (λ k. 0) n, rest)

both : (f g : ℕ → ℕ) (n : ℕ) → sum_below (λ k. f k + g k) n ≡ sum_below f n + sum_below g n
both f g zero = omega (arith, none (λ k. f k + g k), none f, none g)
both f g (suc n) = let rest = both f g n in omega (arith, more (λ k. f k + g k) n, more f n, more g n, rest)

-- two sums, in either order
swapped : (f : ℕ → ℕ → ℕ) (hosts n : ℕ) → sum_below (λ h. sum_below (f h) n) hosts ≡ sum_below (λ k. sum_below (λ h. f h k) hosts) n
swapped f hosts zero = same (λ h. sum_below (f h) 0) (λ h. 0) hosts (λ h. none (f h)) ∙ zeros hosts ∙ sym (none (λ k. sum_below (λ h. f h k) hosts))
swapped f hosts (suc n) =
    let step = same (λ h. sum_below (f h) (suc n)) (λ h. sum_below (f h) n + f h n) hosts (λ h. more (f h) n) in
    let parts = both (λ h. sum_below (f h) n) (λ h. f h n) hosts in
    let rest = swapped f hosts n in
    omega (arith, step, parts, rest, more (λ k. sum_below (λ h. f h k) hosts) n)

-- what is zeros and what isn't is all
part : (z : Bool) (x : ℕ) → cond z x 0 + cond z 0 x ≡ x
part true x = omega arith
part false x = omega arith

whole : (z : ℕ → Bool) (x : ℕ → ℕ) (n : ℕ) → estimate (amount_below z x n) 1 ≡ sum_below x n
whole z x n =
    let parts = both (λ k. cond (z k) (x k) 0) (λ k. cond (z k) 0 (x k)) n in
    let all = same (λ k. cond (z k) (x k) 0 + cond (z k) 0 (x k)) x n (λ k. part (z k) (x k)) in
    omega (arith, parts, all)

-- of each host one less is together at most one less
one_less : (c : ℕ → ℕ) (hosts : ℕ) → sum_below (λ h. c h - 1) hosts ≤ sum_below c hosts - 1
one_less c zero = omega (arith, none (λ h. c h - 1))
one_less c (suc hosts) = let rest = one_less c hosts in omega (arith, more (λ h. c h - 1) hosts, more c hosts, rest)

-- a guest is on one host at most
on_none : (a x hosts : ℕ) → hosts ≤ a → sum_below (λ h. cond (eqb a h) x 0) hosts ≡ 0
on_none a x zero past = none (λ h. cond (eqb a h) x 0)
on_none a x (suc hosts) past =
    let rest = on_none a x hosts (omega arith) in
    let apart : eqb a hosts ≡ false = ne_eqb a hosts (λ e. omega arith) in
    let here : cond {A = ℕ} (eqb a hosts) x 0 ≡ 0 = rw apart refl in
    omega (arith, more (λ h. cond (eqb a h) x 0) hosts, rest, here)

on_one : (a x hosts : ℕ) → sum_below (λ h. cond (eqb a h) x 0) hosts ≤ x
on_one a x zero = omega (arith, none (λ h. cond (eqb a h) x 0))
on_one a x (suc hosts) = elim (cases_eq a hosts) [
  | inl e ↦
      let rest = on_none a x hosts (omega arith) in
      let here : cond {A = ℕ} (eqb a hosts) x 0 ≤ x = rw (eq-eqb a hosts e) (omega arith) in
      omega (arith, more (λ h. cond (eqb a h) x 0) hosts, rest, here)
  | inr ne ↦
      let rest = on_one a x hosts in
      let here : cond {A = ℕ} (eqb a hosts) x 0 ≡ 0 = rw (ne_eqb a hosts ne) refl in
      omega (arith, more (λ h. cond (eqb a h) x 0) hosts, rest, here)
]

module _ (x label : ℕ → ℕ) where
  kept : (b : Bool) (guest : ℕ) (guests : List ℕ) → sum_by x (cond b (guest ∷ guests) guests) ≡ cond b (x guest) 0 + sum_by x guests
  kept true guest guests = sum_by-cons x guest guests
  kept false guest guests = omega arith

  -- each guest is counted on its host alone
  pub once : (guests : List ℕ) (hosts : ℕ) → sum_below (λ h. sum_by x (filter (λ guest. eqb (label guest) h) guests)) hosts ≤ sum_by x guests
  once [] hosts = omega (arith, zeros hosts)
  once (guest ∷ guests) hosts =
      let step = same (λ h. sum_by x (filter (λ g. eqb (label g) h) (guest ∷ guests)))
      (λ h. cond (eqb (label guest) h) (x guest) 0 + sum_by x (filter (λ g. eqb (label g) h) guests)) hosts
      (λ h. kept (eqb (label guest) h) guest (filter (λ g. eqb (label g) h) guests)) in
      let parts = both (λ h. cond (eqb (label guest) h) (x guest) 0) (λ h. sum_by x (filter (λ g. eqb (label g) h) guests)) hosts in
      let rest = once guests hosts in
      omega (arith, step, parts, rest, on_one (label guest) (x guest) hosts, sum_by-cons x guest guests)

sum_map : {X Y : Type 0} (g : Y → ℕ) (f : X → Y) (xs : List X) → sum_by g (map f xs) ≡ sum_by (λ x. g (f x)) xs
sum_map g f [] = refl
sum_map g f (x ∷ xs) = let rest = sum_map g f xs in omega (arith, sum_by-cons g (f x) (map f xs), sum_by-cons (λ y. g (f y)) x xs, rest)

module _ (fleet : List (List Row)) (hosts : List ℕ) (long : length hosts ≡ length fleet) where
  row : ℕ → List Row
  row guest = get_or fleet guest []

  all_rows : map row (range_with_len 0 (length hosts)) ≡ fleet
  unfolding row
  all_rows = ext_get_or [] (map row (range_with_len 0 (length hosts))) fleet (length-map-range_with_len row 0 (length hosts) ∙ long)
      (λ guest lt. get_or-map-range_with_len row 0 (length hosts) guest guest [] (omega (arith, lt, length-map-range_with_len row 0 (length hosts))) (omega arith))

  -- what the guests of all hosts have of a digest is at most what all guests have
  copies_apart : (digest count : ℕ) → sum_below (λ h. all_copies (on_host h hosts fleet) digest) count ≤ all_copies fleet digest
  unfolding row
  copies_apart digest count =
      let own : ℕ → ℕ = λ guest. copies_of digest (row guest) in
      let step = same (λ h. all_copies (on_host h hosts fleet) digest) (λ h. sum_by own (guests_of h hosts)) count (λ h. sum_map (copies_of digest) row (guests_of h hosts)) in
      let all : sum_by own (range_with_len 0 (length hosts)) ≡ all_copies fleet digest =
      sym (sum_map (copies_of digest) row (range_with_len 0 (length hosts))) ∙ ap (sum_by (copies_of digest)) all_rows in
      omega (arith, step, all, once own (λ guest. get_or hosts guest 0) (range_with_len 0 (length hosts)) count)

  pub hosts_below_pool : (count : ℕ) → sum_below (λ h. reclaimed (on_host h hosts fleet)) count ≤ reclaimed fleet
  hosts_below_pool count =
      let f : ℕ → ℕ → ℕ = λ h digest. all_copies (on_host h hosts fleet) digest - 1 in
      let step = same (λ h. reclaimed (on_host h hosts fleet)) (λ h. sum_below (f h) all_digests) count
      (λ h. whole (is_zeros (on_host h hosts fleet)) (f h) all_digests) in
      let turned = swapped f count all_digests in
      let each = low (λ digest. sum_below (λ h. f h digest) count) (λ digest. all_copies fleet digest - 1) all_digests
      (λ digest. omega (arith, one_less (λ h. all_copies (on_host h hosts fleet) digest) count, copies_apart digest count)) in
      let pool = whole (is_zeros fleet) (λ digest. all_copies fleet digest - 1) all_digests in
      omega (arith, step, turned, each, pool)
