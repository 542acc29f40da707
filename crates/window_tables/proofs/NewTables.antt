-- Mappings of a table whose bytes are zeros: they begin where parts differ.
use Rattle.std.proofs.Common.{◌≡◌, ◌∙◌, ℕ, zero, suc, ◌+◌, ◌-◌, ◌%◌, ◌<◌, ◌≤◌, ◌⊎◌, inl, inr, Bool, true, false, List, length, Some, refl, ap, sym, subst, arith}
use Rattle.std.specs.Prelude.{not, replicate, slice_get}
use Rattle.std.specs.Option.{option_map_or}
use Rattle.std.proofs.lemmas.Bool.{cases_lt}
use Rattle.std.proofs.lemmas.List.{length-replicate}
use Rattle.window_pages.specs.Bytes.{digit}
use Rattle.window_pages.specs.Laws.{new_page}
use Rattle.window_pages.specs.Runs.{same}
use Rattle.window_tables.proofs.Differences.{begins_first, behind_page, none_counts}
use Rattle.window_tables.proofs.Sums.{sum_enough, sum_next, sum_one}
use Rattle.window_tables.specs.Mappings.{begins_at, is_one, is_whole, mapped_as, mappings_from, mappings_of}
use Rattle.window_tables.specs.Tables.{part_at}
use Rattle.page_looks.specs.declared.parts.part.Part.{Part}

get_new : (count i : ℕ) → i < count → slice_get (replicate count new_page) i ≡ Some new_page
get_new zero i l = absurd (omega (arith, l))
get_new (suc count) zero l = refl
get_new (suc count) (suc i) l = get_new count i (omega (arith, l))

by_parts : (v w : Bool) → not (is_one (mapped_as v new_page) (mapped_as w new_page)) ≡ not (same v w)
by_parts v w = refl

-- at a page behind another one
begins_new : (lead count p : ℕ) (parts : List Part) → suc p < count → begins_at lead parts (replicate count new_page) (suc p) ≡ not (same (is_whole lead parts p) (is_whole lead parts (suc p)))
begins_new lead count p parts l =
    behind_page lead parts (replicate count new_page) p new_page new_page (get_new count p (omega (arith, l))) (get_new count (suc p) l)
    ∙ by_parts (is_whole lead parts p) (is_whole lead parts (suc p))

next : (i : ℕ) → 0 < i → suc (i - 1) ≡ i
next i l = omega (arith, l)

pub new_at : (lead count i : ℕ) (parts : List Part) → 0 < i → i < count →
    digit (begins_at lead parts (replicate count new_page) i) ≡ digit (not (same (is_whole lead parts (i - 1)) (is_whole lead parts i)))
new_at lead count i parts l m =
    subst (λ j. digit (begins_at lead parts (replicate count new_page) j) ≡ digit (not (same (is_whole lead parts (i - 1)) (is_whole lead parts j)))) (next i l)
    (ap digit (begins_new lead count (i - 1) parts (omega (arith, l, m))))

same_both : (b : Bool) → digit (not (same b b)) ≡ 0
same_both true = refl
same_both false = refl

-- a page that doesn't begin a part is in that of the page before it
in_part : (lead i : ℕ) → 0 < i → 0 < (i + lead) % 512 → part_at lead (i - 1) ≡ part_at lead i
in_part lead i l m = omega (arith, l, m)

pub inside_none : (lead count i : ℕ) (parts : List Part) → 0 < i → 0 < (i + lead) % 512 → digit (begins_at lead parts (replicate count new_page) i) ≡ 0
inside_none lead count i parts l m = pick (cases_lt i count) where
  pick : (i < count) ⊎ (count ≤ i) → digit (begins_at lead parts (replicate count new_page) i) ≡ 0
  pick (inr b) = none_counts lead parts (replicate count new_page) i (omega (arith, b, length-replicate count new_page))
  pick (inl b) =
      new_at lead count i parts l b
      ∙ (ap (λ k. digit (not (same (option_map_or (λ part. part.whole) (slice_get parts k) false) (is_whole lead parts i)))) (in_part lead i l m)
      ∙ same_both (is_whole lead parts i))

-- the first part
pub first_part : (lead count n : ℕ) (parts : List Part) → 0 < count → n ≡ 512 - lead % 512 → 1 ≡ mappings_from lead parts (replicate count new_page) 0 n
first_part lead count n parts l e =
    sym
    (sum_one (λ place. digit (begins_at lead parts (replicate count new_page) place)) 0 n (omega (arith, e))
    (λ i p q. inside_none lead count i parts (omega (arith, p)) (omega (arith, p, q, e)))
    ∙ ap digit (begins_first lead parts (replicate count new_page) 0 (omega (arith, l, length-replicate count new_page)) refl))

-- one part more
part_after : (lead count a n : ℕ) (parts : List Part) → 0 < a → (a + lead) % 512 ≡ 0 → n ≡ 512 →
    mappings_from lead parts (replicate count new_page) 0 (a + n) ≡ mappings_from lead parts (replicate count new_page) 0 a + digit (begins_at lead parts (replicate count new_page) a)
part_after lead count a n parts l e is =
    sum_next (λ place. digit (begins_at lead parts (replicate count new_page) place)) a n (omega (arith, is))
    (λ i p q. inside_none lead count i parts (omega (arith, p)) (omega (arith, p, q, e, is)))

pub part_more : (lead count a : ℕ) (parts : List Part) → 0 < a → (a + lead) % 512 ≡ 0 →
    mappings_from lead parts (replicate count new_page) 0 (a + 512) ≡ mappings_from lead parts (replicate count new_page) 0 a + digit (begins_at lead parts (replicate count new_page) a)
part_more lead count a parts l e = part_after lead count a 512 parts l e refl

-- all of them
pub all_parts : (lead count n : ℕ) (parts : List Part) → count ≤ n → mappings_from lead parts (replicate count new_page) 0 n ≡ mappings_of lead parts (replicate count new_page)
all_parts lead count n parts l =
    let f : ℕ → ℕ = λ place. digit (begins_at lead parts (replicate count new_page) place) in
    sum_enough f 0 (length (replicate count new_page)) n (omega (arith, l, length-replicate count new_page)) (λ i p q. none_counts lead parts (replicate count new_page) i (omega (arith, p)))
