-- Zeros in place of pages in a row: how many mappings begin there then.
use Rattle.std.proofs.Common.{◌≡◌, ◌∙◌, ℕ, zero, suc, ◌+◌, ◌-◌, ◌<◌, ◌≤◌, ◌⊎◌, inl, inr, Bool, true, false, ◌&&◌, ◌||◌, List, length, Some, Option, refl, ap, sym, subst, arith, get_or, nat_eq, nat_lt}
use Rattle.std.specs.Prelude.{not, slice_get}
use Rattle.std.specs.Option.{option_map_or}
use Rattle.std.proofs.lemmas.Bool.{cases_lt}
use Rattle.std.proofs.lemmas.Bool.Decides.{nat_tests}
use Rattle.std.proofs.lemmas.Option.{slice_get-get_or}
use Rattle.window_pages.specs.Bytes.{digit, known_of, notes_of}
use Rattle.window_pages.specs.Laws.{new_page}
use Rattle.window_pages.specs.Runs.{same}
use Rattle.window_pages.specs.declared.page.KnownPage.{KnownPage}
use Rattle.window_pages.specs.declared.page.PageNotes.{PageNotes}
use Rattle.window_pages.specs.declared.page.WindowPage.{WindowPage}
use Rattle.window_tables.proofs.Differences.{behind_page, differences_count, in_three, none_counts, notes_stay_inside}
use Rattle.window_tables.proofs.Sums.{sum_more, sum_one}
use Rattle.window_tables.specs.Changes.{RangeChanged}
use Rattle.window_tables.specs.Laws.{ZerosTakeNoMore}
use Rattle.window_tables.specs.Mappings.{Mapped, begins_at, is_one, is_whole, mapped_as}
use Rattle.window_tables.specs.Rooms.{are_alone, before, is_own, joins, may_join}
use Rattle.window_tables.specs.declared.changes.Change.TheVariants.{Uncovered}
use Rattle.page_looks.specs.declared.parts.part.Part.{Part}

digit_most : (b : Bool) → digit b ≤ 1
digit_most true = omega arith
digit_most false = omega arith

-- zeros, as they are mapped
abbrev lying : ℕ → Bool → Bool → Bool → Mapped
lying clue moved begins whole = record { over = false; past = false; clue = clue; moved = moved; begins = begins; whole = whole }

abbrev mapped_by : Bool → KnownPage → PageNotes → Mapped
mapped_by whole page notes = record { over = page.over; past = page.past; clue = notes.clue; moved = page.moved; begins = page.begins; whole = whole }

none_of : (b : Bool) → (b && false) ≡ false
none_of true = refl
none_of false = refl

not_true : false ≡ true → ⊥
not_true e = cc

-- zeros behind zeros
one_lying : (j k : ℕ) (m b w : Bool) → is_one (lying j m b w) (lying k m false w) ≡ true
one_lying j k true b true = refl
one_lying j k true b false = refl
one_lying j k false b true = refl
one_lying j k false b false = refl

-- zeros behind a page
after_page : (past over out pm begins wp w r m : Bool) (j k : ℕ) → m ≡ (not ((not over && not out) && same wp w) && r) →
    digit (not (is_one (record { over = over; past = past; clue = j; moved = pm; begins = begins; whole = wp }) (lying k m (m && true) w)))
    ≤ digit (not (((not over && not out) && same wp w) && not pm))
after_page past true out pm begins wp w r m j k e = digit_most (not (is_one (record { over = true; past = past; clue = j; moved = pm; begins = begins; whole = wp }) (lying k m (m && true) w)))
after_page past false true pm begins wp w r m j k e = digit_most (not (is_one (record { over = false; past = past; clue = j; moved = pm; begins = begins; whole = wp }) (lying k m (m && true) w)))
after_page past false false pm begins true false r m j k e = digit_most (not (is_one (record { over = false; past = past; clue = j; moved = pm; begins = begins; whole = true }) (lying k m (m && true) false)))
after_page past false false pm begins false true r m j k e = digit_most (not (is_one (record { over = false; past = past; clue = j; moved = pm; begins = begins; whole = false }) (lying k m (m && true) true)))
after_page past false false true begins true true r m j k e = digit_most (not (is_one (record { over = false; past = past; clue = j; moved = true; begins = begins; whole = true }) (lying k m (m && true) true)))
after_page past false false true begins false false r m j k e = digit_most (not (is_one (record { over = false; past = past; clue = j; moved = true; begins = begins; whole = false }) (lying k m (m && true) false)))
after_page past false false false begins true true r m j k e = subst (λ z. digit (not (is_one (record { over = false; past = past; clue = j; moved = false; begins = begins; whole = true }) (lying k z (z && true) true))) ≤ 0) (sym e) (omega arith)
after_page past false false false begins false false r m j k e = subst (λ z. digit (not (is_one (record { over = false; past = past; clue = j; moved = false; begins = begins; whole = false }) (lying k z (z && true) false))) ≤ 0) (sym e) (omega arith)

-- a page behind zeros
before_page : (past over out pm begins wq w r m b : Bool) (j k : ℕ) → m ≡ (r && not ((not over && not out) && same wq w)) → (begins ≡ true → pm ≡ true) →
    digit (not (is_one (lying j m b w) (record { over = over; past = past; clue = k; moved = pm; begins = begins || pm; whole = wq })))
    ≤ digit (not (((not over && not out) && same wq w) && not pm))
before_page past true out pm begins wq w r m b j k e h = digit_most (not (is_one (lying j m b w) (record { over = true; past = past; clue = k; moved = pm; begins = begins || pm; whole = wq })))
before_page past false true pm begins wq w r m b j k e h = digit_most (not (is_one (lying j m b w) (record { over = false; past = past; clue = k; moved = pm; begins = begins || pm; whole = wq })))
before_page past false false pm begins true false r m b j k e h = digit_most (not (is_one (lying j m b false) (record { over = false; past = past; clue = k; moved = pm; begins = begins || pm; whole = true })))
before_page past false false pm begins false true r m b j k e h = digit_most (not (is_one (lying j m b true) (record { over = false; past = past; clue = k; moved = pm; begins = begins || pm; whole = false })))
before_page past false false true begins true true r m b j k e h = digit_most (not (is_one (lying j m b true) (record { over = false; past = past; clue = k; moved = true; begins = begins || true; whole = true })))
before_page past false false true begins false false r m b j k e h = digit_most (not (is_one (lying j m b false) (record { over = false; past = past; clue = k; moved = true; begins = begins || true; whole = false })))
before_page past false false false true wq w r m b j k e h = absurd (not_true (h refl))
before_page past false false false false true true r m b j k e h = subst (λ z. digit (not (is_one (lying j z b true) (record { over = false; past = past; clue = k; moved = false; begins = false; whole = true }))) ≤ 0) (sym (e ∙ none_of r)) (omega arith)
before_page past false false false false false false r m b j k e h = subst (λ z. digit (not (is_one (lying j z b false) (record { over = false; past = past; clue = k; moved = false; begins = false; whole = false }))) ≤ 0) (sym (e ∙ none_of r)) (omega arith)

-- the same place, by two sums
one_on : (first k : ℕ) → suc (first + k) ≡ first + suc k
one_on first k = omega arith

-- what is mapped at a place of the range, of which the pages lie in parts that are whole, or not, as `w` says
pub mapped_in : (first count k : ℕ) (old new : List WindowPage) (m v w : Bool) → RangeChanged (Uncovered m) first count old new → k < count → first + k < length new → v ≡ w →
    mapped_as v (get_or new (first + k) new_page) ≡ lying (notes_of (get_or new (first + k) new_page)).clue m (m && nat_eq k 0) w
mapped_in first count k old new m v w c l h e =
    let x : WindowPage = get_or old (first + k) new_page in
    let y : WindowPage = get_or new (first + k) new_page in
    let is = c.inside k x y l (slice_get-get_or old (first + k) new_page (omega (arith, h, c.length))) (slice_get-get_or new (first + k) new_page h) in
    ap (λ b. mapped_as b y) e ∙ ap (λ (p : KnownPage). mapped_by w p (notes_of y)) is.known

not_first : (k : ℕ) → nat_eq (suc k) 0 ≡ false
not_first k = grind (arith, nat_tests)

less : (a b : ℕ) → a < b → nat_lt a b ≡ true
less a b l = grind (arith, nat_tests, l)

-- no mapping begins at a page of the range behind its first
inner : (lead first count k : ℕ) (parts : List Part) (old new : List WindowPage) (m w : Bool) → RangeChanged (Uncovered m) first count old new →
    ((i : ℕ) → first ≤ i → i < first + count → is_whole lead parts i ≡ w) → suc k < count → digit (begins_at lead parts new (first + suc k)) ≡ 0
inner lead first count k parts old new m w c one l = pick (cases_lt (first + suc k) (length new)) where
  pick : (first + suc k < length new) ⊎ (length new ≤ first + suc k) → digit (begins_at lead parts new (first + suc k)) ≡ 0
  pick (inr h) = none_counts lead parts new (first + suc k) h
  pick (inl h) =
      let x : WindowPage = get_or new (first + k) new_page in
      let y : WindowPage = get_or new (first + suc k) new_page in
      let before : mapped_as (is_whole lead parts (first + k)) x ≡ lying (notes_of x).clue m (m && nat_eq k 0) w =
      mapped_in first count k old new m (is_whole lead parts (first + k)) w c (omega (arith, l)) (omega (arith, h)) (one (first + k) (omega arith) (omega (arith, l))) in
      let here : mapped_as (is_whole lead parts (first + suc k)) y ≡ lying (notes_of y).clue m (m && nat_eq (suc k) 0) w =
      mapped_in first count (suc k) old new m (is_whole lead parts (first + suc k)) w c l h (one (first + suc k) (omega arith) (omega (arith, l))) in
      let at : slice_get new (suc (first + k)) ≡ Some y = ap (λ j. slice_get new j) (one_on first k) ∙ slice_get-get_or new (first + suc k) new_page h in
      let is : begins_at lead parts new (suc (first + k)) ≡ not (is_one (mapped_as (is_whole lead parts (first + k)) x) (mapped_as (is_whole lead parts (suc (first + k))) y)) =
      behind_page lead parts new (first + k) x y (slice_get-get_or new (first + k) new_page (omega (arith, h))) at in
      let moved : begins_at lead parts new (first + suc k) ≡ not (is_one (mapped_as (is_whole lead parts (first + k)) x) (mapped_as (is_whole lead parts (first + suc k)) y)) =
      subst (λ j. begins_at lead parts new j ≡ not (is_one (mapped_as (is_whole lead parts (first + k)) x) (mapped_as (is_whole lead parts j) y))) (one_on first k) is in
      ap digit
      (moved
      ∙ (ap (λ v. not (is_one v (mapped_as (is_whole lead parts (first + suc k)) y))) before
      ∙ (ap (λ v. not (is_one (lying (notes_of x).clue m (m && nat_eq k 0) w) v)) here
      ∙ (ap (λ b. not (is_one (lying (notes_of x).clue m (m && nat_eq k 0) w) (lying (notes_of y).clue m b w))) (ap (λ b. m && b) (not_first k) ∙ none_of m)
      ∙ ap not (one_lying (notes_of x).clue (notes_of y).clue m (m && nat_eq k 0) w)))))

-- at the first page, at most as often as at zeros that join the page before it or not
at_first : (lead first count : ℕ) (parts : List Part) (old new : List WindowPage) (m w : Bool) → RangeChanged (Uncovered m) first count old new → 0 < count →
    is_whole lead parts first ≡ w → (r : Bool) → m ≡ (not (before (may_join lead parts w old) first) && r) →
    digit (begins_at lead parts new first) ≤ digit (not (before (joins lead parts w old) first))
at_first lead zero count parts old new m w c n one r e = digit_most (begins_at lead parts new zero)
at_first lead (suc p) count parts old new m w c n one r e = pick (cases_lt (suc p) (length new)) where
  pick : (suc p < length new) ⊎ (length new ≤ suc p) → digit (begins_at lead parts new (suc p)) ≤ digit (not (joins lead parts w old p))
  pick (inr h) = omega (arith, none_counts lead parts new (suc p) h)
  pick (inl h) =
      let x : WindowPage = get_or old p new_page in
      let y : WindowPage = get_or new (suc p + 0) new_page in
      let v : Bool = is_whole lead parts p in
      let was : slice_get old p ≡ Some x = slice_get-get_or old p new_page (omega (arith, h, c.length)) in
      let there : slice_get new p ≡ Some x = c.outside p (inl (omega arith)) ∙ was in
      let none : suc p + 0 ≡ suc p = omega arith in
      let at : slice_get new (suc p) ≡ Some y = ap (λ j. slice_get new j) (sym none) ∙ slice_get-get_or new (suc p + 0) new_page (omega (arith, h)) in
      let here : mapped_as (is_whole lead parts (suc p)) y ≡ lying (notes_of y).clue m (m && true) w =
      mapped_in (suc p) count 0 old new m (is_whole lead parts (suc p)) w c n (omega (arith, h)) one in
      let begins : begins_at lead parts new (suc p) ≡ not (is_one (mapped_as v x) (lying (notes_of y).clue m (m && true) w)) =
      behind_page lead parts new p x y there at ∙ ap (λ z. not (is_one (mapped_as v x) z)) here in
      let may : may_join lead parts w old p ≡ ((not (known_of x).over && not (known_of x).out) && same v w) = ap (λ o. option_map_or (λ page. is_own page && same v w) o false) was in
      let does : joins lead parts w old p ≡ (((not (known_of x).over && not (known_of x).out) && same v w) && not (known_of x).moved) =
      ap (λ o. option_map_or (λ page. (is_own page && same v w) && not (known_of page).moved) o false) was in
      let moved : m ≡ (not ((not (known_of x).over && not (known_of x).out) && same v w) && r) = e ∙ ap (λ b. not b && r) may in
      let most = after_page (known_of x).past (known_of x).over (known_of x).out (known_of x).moved (known_of x).begins v w r m (notes_of x).clue (notes_of y).clue moved in
      let left : digit (begins_at lead parts new (suc p)) ≡ digit (not (is_one (mapped_as v x) (lying (notes_of y).clue m (m && true) w))) = ap digit begins in
      let right : digit (not (joins lead parts w old p)) ≡ digit (not (((not (known_of x).over && not (known_of x).out) && same v w) && not (known_of x).moved)) = ap (λ b. digit (not b)) does in
      omega (arith, left, right, most)

-- at the page behind the last one, if it is there
at_behind : (lead first count : ℕ) (parts : List Part) (old new : List WindowPage) (m w : Bool) → RangeChanged (Uncovered m) first count old new → 0 < count →
    ((i : ℕ) → first ≤ i → i < first + count → is_whole lead parts i ≡ w) →
    ((x : WindowPage) → slice_get old (first + count) ≡ Some x → (known_of x).begins ≡ true → (known_of x).moved ≡ true) →
    (r : Bool) → m ≡ (r && not (may_join lead parts w old (first + count))) →
    digit (begins_at lead parts new (first + count)) ≤ digit (nat_lt (first + count) (length old) && not (joins lead parts w old (first + count)))
at_behind lead first zero parts old new m w c n one begun r e = absurd (omega (arith, n))
at_behind lead first (suc k) parts old new m w c n one begun r e = pick (cases_lt (first + suc k) (length new)) where
  pick : (first + suc k < length new) ⊎ (length new ≤ first + suc k) →
      digit (begins_at lead parts new (first + suc k)) ≤ digit (nat_lt (first + suc k) (length old) && not (joins lead parts w old (first + suc k)))
  pick (inr h) = omega (arith, none_counts lead parts new (first + suc k) h)
  pick (inl h) =
      let q : ℕ = first + suc k in
      let v : Bool = is_whole lead parts q in
      let x : WindowPage = get_or new (first + k) new_page in
      let y : WindowPage = get_or old q new_page in
      let z : WindowPage = get_or new q new_page in
      let within : q < length old = omega (arith, h, c.length) in
      let was : slice_get old q ≡ Some y = slice_get-get_or old q new_page within in
      let now : slice_get new q ≡ Some z = slice_get-get_or new q new_page h in
      let marked = ((c.behind y z was now).begins (less 0 (suc k) (omega arith))).known in
      let before : mapped_as (is_whole lead parts (first + k)) x ≡ lying (notes_of x).clue m (m && nat_eq k 0) w =
      mapped_in first (suc k) k old new m (is_whole lead parts (first + k)) w c (omega arith) (omega (arith, h)) (one (first + k) (omega arith) (omega arith)) in
      let here : mapped_as v z ≡ mapped_by v (record (known_of y) { begins = (known_of y).begins || (known_of y).moved }) (notes_of z) = ap (λ (p : KnownPage). mapped_by v p (notes_of z)) marked in
      let at : slice_get new (suc (first + k)) ≡ Some z = ap (λ j. slice_get new j) (one_on first k) ∙ now in
      let is : begins_at lead parts new (suc (first + k)) ≡ not (is_one (mapped_as (is_whole lead parts (first + k)) x) (mapped_as (is_whole lead parts (suc (first + k))) z)) =
      behind_page lead parts new (first + k) x z (slice_get-get_or new (first + k) new_page (omega (arith, h))) at in
      let moved : begins_at lead parts new q ≡ not (is_one (mapped_as (is_whole lead parts (first + k)) x) (mapped_as v z)) =
      subst (λ j. begins_at lead parts new j ≡ not (is_one (mapped_as (is_whole lead parts (first + k)) x) (mapped_as (is_whole lead parts j) z))) (one_on first k) is in
      let begins : begins_at lead parts new q ≡ not (is_one (lying (notes_of x).clue m (m && nat_eq k 0) w) (mapped_by v (record (known_of y) { begins = (known_of y).begins || (known_of y).moved }) (notes_of z))) =
      moved ∙ (ap (λ a. not (is_one a (mapped_as v z))) before ∙ ap (λ a. not (is_one (lying (notes_of x).clue m (m && nat_eq k 0) w) a)) here) in
      let may : may_join lead parts w old q ≡ ((not (known_of y).over && not (known_of y).out) && same v w) = ap (λ o. option_map_or (λ page. is_own page && same v w) o false) was in
      let does : joins lead parts w old q ≡ (((not (known_of y).over && not (known_of y).out) && same v w) && not (known_of y).moved) =
      ap (λ o. option_map_or (λ page. (is_own page && same v w) && not (known_of page).moved) o false) was in
      let apart : m ≡ (r && not ((not (known_of y).over && not (known_of y).out) && same v w)) = e ∙ ap (λ b. r && not b) may in
      let most = before_page (known_of y).past (known_of y).over (known_of y).out (known_of y).moved (known_of y).begins v w r m (m && nat_eq k 0) (notes_of x).clue (notes_of z).clue apart (begun y was) in
      let left = ap digit begins in
      let right : digit (nat_lt q (length old) && not (joins lead parts w old q)) ≡ digit (not (((not (known_of y).over && not (known_of y).out) && same v w) && not (known_of y).moved)) =
      ap (λ b. digit (b && not (joins lead parts w old q))) (less q (length old) within) ∙ ap (λ b. digit (not b)) does in
      omega (arith, left, right, most)

pub zeros_take_no_more : ZerosTakeNoMore
zeros_take_no_more lead first count old new counts counts_new parts n one begun noted =
    let w : Bool = is_whole lead parts first in
    let m : Bool = are_alone lead parts old first count in
    let c : RangeChanged (Uncovered m) first count old new = noted.pages refl in
    let f : ℕ → ℕ = λ place. digit (begins_at lead parts new place) in
    let rest : f first ≤ digit (not (before (joins lead parts w old) first)) =
    at_first lead first count parts old new m w c n refl (not (may_join lead parts w old (first + count))) refl in
    let behind : f (first + count) ≤ digit (nat_lt (first + count) (length old) && not (joins lead parts w old (first + count))) =
    at_behind lead first count parts old new m w c n one begun (not (before (may_join lead parts w old) first)) refl in
    let same_as = sum_one f first count n (λ i p q. inside i p q) in
    let differ = differences_count lead first count parts parts old new (notes_stay_inside (Uncovered m) lead first count old new counts counts_new parts noted) in
    omega (arith, rest, behind, same_as, differ, sum_more f first count, in_three lead parts old first count (length old) refl) where
      inside : (i : ℕ) → first + 1 ≤ i → i < first + count → digit (begins_at lead parts new i) ≡ 0
      inside i p q =
          let k : ℕ = i - first - 1 in
          let is : first + suc k ≡ i = omega (arith, p) in
          subst (λ j. digit (begins_at lead parts new j) ≡ 0) is
          (inner lead first count k parts old new (are_alone lead parts old first count) (is_whole lead parts first) (noted.pages refl) one (omega (arith, p, q)))
