-- Mappings of a table, where pages of a range change.
use Rattle.std.proofs.Common.{◌≡◌, ◌∙◌, ℕ, zero, suc, ◌+◌, ◌-◌, ◌<◌, ◌≤◌, ◌⊎◌, inl, inr, Bool, true, false, List, [], ◌∷◌, length, Some, None, Option, refl, ap, sym, subst, arith, get_or}
use Rattle.std.specs.Prelude.{if◌then◌else◌, min, not, slice_get}
use Rattle.std.specs.Option.{option_map, option_map_or}
use Rattle.std.proofs.lemmas.Bool.{cases_eq, cases_lt}
use Rattle.std.proofs.lemmas.Option.{slice_get-get_or}
use Rattle.page_lender.specs.declared.belief.Belief.{Belief}
use Rattle.window_pages.specs.Bytes.{digit, known_of, notes_of}
use Rattle.window_pages.specs.Changed.{given_back, given_up, gone, notes_if}
use Rattle.window_pages.specs.Laws.{new_page}
use Rattle.window_pages.specs.declared.page.KnownPage.{KnownPage}
use Rattle.window_pages.specs.declared.page.PageNotes.{PageNotes}
use Rattle.window_pages.specs.declared.page.WindowPage.{WindowPage}
use Rattle.window_tables.proofs.Places.{get_none}
use Rattle.window_tables.proofs.Sums.{sum_enough, sum_most, sum_same, sum_split}
use Rattle.window_tables.specs.Changes.{IsBehind, IsNow, NowBegins, RangeChanged, keeps_mappings, marks}
use Rattle.window_tables.specs.Laws.{EachNumberIsRight, NotesStayInside, SameMapped, SomeKeepMappings, counted, range_changes, same_stays}
use Rattle.window_tables.specs.Mappings.{Mapped, StaysOutside, begins_after, begins_at, is_one, is_whole, mapped_as, mapped_at, mapped_before, mappings_at, mappings_from, mappings_more, mappings_of, sum_from, unmarked}
use Rattle.window_tables.specs.declared.changes.Change.{Change}
use Rattle.window_tables.specs.declared.changes.Change.TheVariants.{Covered, Uncovered, GivenUp, Unmapped, Left, Detached}
use Rattle.page_looks.specs.declared.parts.part.Part.{Part}

-- the table's first page
pub begins_first : (lead : ℕ) (parts : List Part) (pages : List WindowPage) (place : ℕ) → place < length pages → place ≡ 0 → begins_at lead parts pages place ≡ true
begins_first lead parts [] place l e = absurd (omega (arith, l))
begins_first lead parts (y ∷ pages) place l e = subst (λ i. begins_at lead parts (y ∷ pages) i ≡ true) (sym e) refl

-- a page behind another one
pub behind_page : (lead : ℕ) (parts : List Part) (pages : List WindowPage) (p : ℕ) (x y : WindowPage) → slice_get pages p ≡ Some x → slice_get pages (suc p) ≡ Some y →
    begins_at lead parts pages (suc p) ≡ not (is_one (mapped_as (is_whole lead parts p) x) (mapped_as (is_whole lead parts (suc p)) y))
behind_page lead parts pages p x y e f =
    ap (λ o. option_map_or (begins_after (option_map (mapped_as (is_whole lead parts p)) o)) (option_map (mapped_as (is_whole lead parts (suc p))) (slice_get pages (suc p))) false) e
    ∙ ap (λ o. option_map_or (begins_after (Some (mapped_as (is_whole lead parts p) x))) (option_map (mapped_as (is_whole lead parts (suc p))) o) false) f

next : (p : ℕ) → (p ≡ 0 → ⊥) → suc (p - 1) ≡ p
next p n = omega (arith, n)

behind_at : (lead : ℕ) (parts : List Part) (pages : List WindowPage) (place : ℕ) (d : WindowPage) → place < length pages → (place ≡ 0 → ⊥) →
    begins_at lead parts pages place
    ≡ not (is_one (mapped_as (is_whole lead parts (place - 1)) (get_or pages (place - 1) d)) (mapped_as (is_whole lead parts place) (get_or pages place d)))
behind_at lead parts pages place d l n =
    let e : slice_get pages (place - 1) ≡ Some (get_or pages (place - 1) d) = slice_get-get_or pages (place - 1) d (omega (arith, l)) in
    let f : slice_get pages place ≡ Some (get_or pages place d) = slice_get-get_or pages place d l in
    let g : slice_get pages (suc (place - 1)) ≡ Some (get_or pages place d) = ap (λ i. slice_get pages i) (next place n) ∙ f in
    subst (λ i. begins_at lead parts pages i ≡ not (is_one (mapped_as (is_whole lead parts (place - 1)) (get_or pages (place - 1) d)) (mapped_as (is_whole lead parts i) (get_or pages place d)))) (next place n)
    (behind_page lead parts pages (place - 1) (get_or pages (place - 1) d) (get_or pages place d) e g)

pub begins_behind : (lead : ℕ) (parts : List Part) (pages : List WindowPage) (place : ℕ) (d : WindowPage) (v w b : Bool) → place < length pages → (place ≡ 0 → ⊥) →
    v ≡ is_whole lead parts (place - 1) → w ≡ is_whole lead parts place →
    b ≡ is_one (mapped_as v (get_or pages (place - 1) d)) (mapped_as w (get_or pages place d)) → not b ≡ begins_at lead parts pages place
begins_behind lead parts pages place d v w b l n p q r =
    ap not
    (r
    ∙ (ap (λ k. is_one (mapped_as k (get_or pages (place - 1) d)) (mapped_as w (get_or pages place d))) p
    ∙ ap (λ k. is_one (mapped_as (is_whole lead parts (place - 1)) (get_or pages (place - 1) d)) (mapped_as k (get_or pages place d))) q))
    ∙ sym (behind_at lead parts pages place d l n)

-- no page is there
pub none_begins : (lead : ℕ) (parts : List Part) (pages : List WindowPage) (i : ℕ) → length pages ≤ i → begins_at lead parts pages i ≡ false
none_begins lead parts pages i l =
    ap (λ o. option_map_or (begins_after (mapped_before lead parts pages i)) (option_map (mapped_as (is_whole lead parts i)) o) false) (get_none pages i l)

pub none_counts : (lead : ℕ) (parts : List Part) (pages : List WindowPage) (i : ℕ) → length pages ≤ i → digit (begins_at lead parts pages i) ≡ 0
none_counts lead parts pages i l = ap digit (none_begins lead parts pages i l)

digit_most : (b : Bool) → digit b ≤ 1
digit_most true = omega arith
digit_most false = omega arith

-- as far as pages are there
pub as_far : (lead : ℕ) (parts : List Part) (pages : List WindowPage) (first count : ℕ) →
    mappings_at lead parts pages first count ≡ mappings_from lead parts pages first (min (count + 1) (length pages - first))
as_far lead parts pages first count =
    sum_enough (λ place. digit (begins_at lead parts pages place)) first (min (count + 1) (length pages - first)) (count + 1) (omega arith)
    (λ i p q. none_counts lead parts pages i (omega (arith, p, q)))

pub at_most : (lead : ℕ) (parts : List Part) (pages : List WindowPage) (first count : ℕ) →
    mappings_at lead parts pages first count ≤ min (count + 1) (length pages - first)
at_most lead parts pages first count =
    subst (λ m. m ≤ min (count + 1) (length pages - first)) (sym (as_far lead parts pages first count))
    (sum_most (λ place. digit (begins_at lead parts pages place)) first (min (count + 1) (length pages - first)) (λ i. digit_most (begins_at lead parts pages i)))

-- before a range, in it, and beyond it
pub in_three : (lead : ℕ) (parts : List Part) (pages : List WindowPage) (first count n : ℕ) → length pages ≡ n →
    mappings_of lead parts pages
    ≡ mappings_from lead parts pages 0 first + mappings_at lead parts pages first count + mappings_from lead parts pages (first + (count + 1)) n
in_three lead parts pages first count n e =
    let f : ℕ → ℕ = λ place. digit (begins_at lead parts pages place) in
    let all : sum_from f 0 (first + (count + 1) + n) ≡ sum_from f 0 (length pages) =
    sum_enough f 0 (length pages) (first + (count + 1) + n) (omega (arith, e)) (λ i p q. none_counts lead parts pages i (omega (arith, p))) in
    omega (arith, all, sum_split f 0 (first + (count + 1)) n (first + (count + 1)) (omega arith), sum_split f 0 first (count + 1) first (omega arith))

-- the mark of a page says nothing of the page behind it
unmarked_same : (o : Option Mapped) (y : Mapped) → begins_after (option_map unmarked o) y ≡ begins_after o y
unmarked_same None y = refl
unmarked_same (Some x) y = refl

begins_same : (o q p : Option Mapped) → option_map unmarked o ≡ option_map unmarked q → option_map_or (begins_after o) p false ≡ option_map_or (begins_after q) p false
begins_same o q None e = refl
begins_same o q (Some y) e = sym (unmarked_same o y) ∙ (ap (λ v. begins_after v y) e ∙ unmarked_same q y)

same_at : (lead : ℕ) (parts parts_new : List Part) (old new : List WindowPage) (i : ℕ) →
    option_map unmarked (mapped_before lead parts_new new i) ≡ option_map unmarked (mapped_before lead parts old i) → mapped_at lead parts_new new i ≡ mapped_at lead parts old i →
    digit (begins_at lead parts_new new i) ≡ digit (begins_at lead parts old i)
same_at lead parts parts_new old new i e f =
    ap digit
    (begins_same (mapped_before lead parts_new new i) (mapped_before lead parts old i) (mapped_at lead parts_new new i) e
    ∙ ap (λ o. option_map_or (begins_after (mapped_before lead parts old i)) o false) f)

-- before a range
before_same : (lead first count : ℕ) (parts parts_new : List Part) (old new : List WindowPage) → StaysOutside lead first count parts parts_new old new → (i : ℕ) → suc i ≤ first →
    mapped_before lead parts_new new i ≡ mapped_before lead parts old i
before_same lead first count parts parts_new old new s zero l = refl
before_same lead first count parts parts_new old new s (suc i) l = s.before i (omega (arith, l))

-- beyond it
beyond_same : (lead first count : ℕ) (parts parts_new : List Part) (old new : List WindowPage) → StaysOutside lead first count parts parts_new old new → (i : ℕ) → first + (count + 1) ≤ i →
    option_map unmarked (mapped_before lead parts_new new i) ≡ option_map unmarked (mapped_before lead parts old i)
beyond_same lead first count parts parts_new old new s zero l = refl
beyond_same lead first count parts parts_new old new s (suc i) l = pick (cases_eq i (first + count)) where
  pick : (i ≡ first + count) ⊎ (i ≡ first + count → ⊥) → option_map unmarked (mapped_at lead parts_new new i) ≡ option_map unmarked (mapped_at lead parts old i)
  pick (inl e) = subst (λ j. option_map unmarked (mapped_at lead parts_new new j) ≡ option_map unmarked (mapped_at lead parts old j)) (sym e) s.behind
  pick (inr n) = ap (λ o. option_map unmarked o) (s.beyond i (omega (arith, l, n)))

pub differences_count : (lead first count : ℕ) (parts parts_new : List Part) (old new : List WindowPage) → StaysOutside lead first count parts parts_new old new →
    mappings_of lead parts_new new ≡ mappings_of lead parts old - mappings_at lead parts old first count + mappings_at lead parts_new new first count
differences_count lead first count parts parts_new old new s =
    let f : ℕ → ℕ = λ place. digit (begins_at lead parts old place) in
    let g : ℕ → ℕ = λ place. digit (begins_at lead parts_new new place) in
    let head : sum_from g 0 first ≡ sum_from f 0 first =
    sum_same g f 0 first (λ i p q. same_at lead parts parts_new old new i (ap (λ o. option_map unmarked o) (before_same lead first count parts parts_new old new s i (omega (arith, q)))) (s.before i (omega (arith, q)))) in
    let tail : sum_from g (first + (count + 1)) (length old) ≡ sum_from f (first + (count + 1)) (length old) =
    sum_same g f (first + (count + 1)) (length old) (λ i p q. same_at lead parts parts_new old new i (beyond_same lead first count parts parts_new old new s i p) (s.beyond i (omega (arith, p)))) in
    omega (arith, head, tail, in_three lead parts old first count (length old) refl, in_three lead parts_new new first count (length old) s.length)

pub no_more_come : (lead first count : ℕ) (parts parts_new : List Part) (old new : List WindowPage) → StaysOutside lead first count parts parts_new old new →
    mappings_of lead parts_new new ≤ mappings_of lead parts old + mappings_more lead parts old first count
no_more_come lead first count parts parts_new old new s =
    omega
    (arith, differences_count lead first count parts parts_new old new s, in_three lead parts old first count (length old) refl, at_most lead parts old first count, at_most lead parts_new new first count, s.length)

-- ---- what is noted of pages ----

-- what is mapped, by what is known of a page and what looks have found
abbrev mapped_by : Bool → KnownPage → PageNotes → Mapped
mapped_by whole page notes = record { over = page.over; past = page.past; clue = notes.clue; moved = page.moved; begins = page.begins; whole = whole }

same_page : (lead : ℕ) (parts : List Part) (old new : List WindowPage) (i : ℕ) → slice_get new i ≡ slice_get old i → mapped_at lead parts new i ≡ mapped_at lead parts old i
same_page lead parts old new i e = ap (λ o. option_map (mapped_as (is_whole lead parts i)) o) e

marked_page : (w : Bool) (x y : WindowPage) → NowBegins x y → unmarked (mapped_as w y) ≡ unmarked (mapped_as w x)
marked_page w x y b = ap (λ k. unmarked (mapped_by w k (notes_of y))) b.known ∙ ap (λ n. unmarked (mapped_by w (known_of x) n)) b.notes

behind_same : (what : Change) (count : ℕ) (w b : Bool) (x y : WindowPage) → marks what count ≡ b → IsBehind what count x y → unmarked (mapped_as w y) ≡ unmarked (mapped_as w x)
behind_same what count w true x y e is = marked_page w x y (is.begins e)
behind_same what count w false x y e is = ap (λ v. unmarked (mapped_as w v)) (is.same e)

-- two pages at a place of two tables that are as long, or none
both_at : {T : Type 0} (f : WindowPage → T) (old new : List WindowPage) (i : ℕ) → length new ≡ length old →
    ((x y : WindowPage) → slice_get old i ≡ Some x → slice_get new i ≡ Some y → f y ≡ f x) → option_map f (slice_get new i) ≡ option_map f (slice_get old i)
both_at f old new i e h = pick (cases_lt i (length old)) where
  pick : (i < length old) ⊎ (length old ≤ i) → option_map f (slice_get new i) ≡ option_map f (slice_get old i)
  pick (inr l) = ap (λ o. option_map f o) (get_none new i (omega (arith, l, e)) ∙ sym (get_none old i l))
  pick (inl l) =
      let in_old : slice_get old i ≡ Some (get_or old i new_page) = slice_get-get_or old i new_page l in
      let in_new : slice_get new i ≡ Some (get_or new i new_page) = slice_get-get_or new i new_page (omega (arith, l, e)) in
      ap (λ o. option_map f o) in_new
      ∙ (ap (λ v. Some v) (h (get_or old i new_page) (get_or new i new_page) in_old in_new) ∙ sym (ap (λ o. option_map f o) in_old))

twice : (f : WindowPage → Mapped) (o : Option WindowPage) → option_map unmarked (option_map f o) ≡ option_map (λ x. unmarked (f x)) o
twice f None = refl
twice f (Some x) = refl

pub notes_stay_inside : NotesStayInside
notes_stay_inside what lead first count old new counts counts_new parts n =
    let c : RangeChanged what first count old new = n.pages refl in
    let w : Bool = is_whole lead parts (first + count) in
    record {
      length = c.length;
      before = λ i l. same_page lead parts old new i (c.outside i (inl (omega (arith, l))));
      behind = twice (mapped_as w) (slice_get new (first + count)) ∙ (both_at (λ x. unmarked (mapped_as w x)) old new (first + count) c.length (λ x y e f. behind_same what count w (marks what count) x y refl (c.behind x y e f)) ∙ sym (twice (mapped_as w) (slice_get old (first + count))));
      beyond = λ i l. same_page lead parts old new i (c.outside i (inr (omega (arith, l))));
    }

over_given_back : (w over : Bool) (page : KnownPage) (notes : PageNotes) → page.over ≡ over → mapped_by w (given_back false page) notes ≡ mapped_by w page notes
over_given_back w over page notes e = ap (λ b. mapped_by w (if b then page else record page { same = false }) notes) e ∙ pick over where
  pick : (b : Bool) → mapped_by w (if b then page else record page { same = false }) notes ≡ mapped_by w page notes
  pick true = refl
  pick false = refl

-- notes that are forgotten, or not, have the same clue
clue_stays : (w forgets : Bool) (page : KnownPage) (belief : Belief) (notes : PageNotes) → mapped_by w page (notes_if forgets belief notes) ≡ mapped_by w page notes
clue_stays w true page belief notes = refl
clue_stays w false page belief notes = refl

stays_mapped : (what : Change) (n : ℕ) (w : Bool) (x y : WindowPage) → keeps_mappings what ≡ true → IsNow what n x y → mapped_as w y ≡ mapped_as w x
stays_mapped (Covered frame) n w x y k is = cc
stays_mapped (Uncovered moved) n w x y k is = cc
stays_mapped Unmapped n w x y k is = cc
stays_mapped Detached n w x y k is = cc
stays_mapped GivenUp n w x y k is =
    ap (λ p. mapped_by w p (notes_of y)) is.known
    ∙ (ap (λ m. mapped_by w (given_up (known_of x)) m) is.notes ∙ clue_stays w true (known_of x) (given_up (known_of x)).belief (notes_of x))
stays_mapped Left n w x y k is =
    ap (λ p. mapped_by w p (notes_of y)) is.known
    ∙ (ap (λ m. mapped_by w (gone (known_of x)) m) is.notes
    ∙ (clue_stays w true (gone (known_of x)) (gone (known_of x)).belief (notes_of x) ∙ over_given_back w (known_of x).over (known_of x) (notes_of x) refl))

no_mark : (what : Change) (count : ℕ) → keeps_mappings what ≡ true → marks what count ≡ false
no_mark (Covered frame) count k = cc
no_mark (Uncovered moved) count k = cc
no_mark Unmapped count k = cc
no_mark Detached count k = cc
no_mark GivenUp count k = refl
no_mark Left count k = refl

pub some_keep_mappings : SomeKeepMappings
some_keep_mappings what lead first count old new counts counts_new parts k n = record { length = c.length; each = each } where
  c : RangeChanged what first count old new
  c = n.pages refl

  behind : (i : ℕ) → i ≡ first + count → mapped_at lead parts new i ≡ mapped_at lead parts old i
  behind i e = both_at (mapped_as (is_whole lead parts i)) old new i c.length (λ x y p q. ap (λ v. mapped_as (is_whole lead parts i) v) ((c.behind x y (ap (λ j. slice_get old j) (sym e) ∙ p) (ap (λ j. slice_get new j) (sym e) ∙ q)).same (no_mark what count k)))

  inside : (i m : ℕ) → first + m ≡ i → m < count → mapped_at lead parts new i ≡ mapped_at lead parts old i
  inside i m e l = both_at (mapped_as (is_whole lead parts i)) old new i c.length (λ x y p q. stays_mapped what m (is_whole lead parts i) x y k (c.inside m x y l (ap (λ j. slice_get old j) e ∙ p) (ap (λ j. slice_get new j) e ∙ q)))

  each : (i : ℕ) → mapped_at lead parts new i ≡ mapped_at lead parts old i
  each i = pick (cases_lt i first) (cases_lt i (first + count)) (cases_eq i (first + count)) where
    pick : (i < first) ⊎ (first ≤ i) → (i < first + count) ⊎ (first + count ≤ i) → (i ≡ first + count) ⊎ (i ≡ first + count → ⊥) → mapped_at lead parts new i ≡ mapped_at lead parts old i
    pick (inl l) b d = same_page lead parts old new i (c.outside i (inl l))
    pick (inr l) (inl b) d = inside i (i - first) (omega (arith, l)) (omega (arith, l, b))
    pick (inr l) (inr b) (inl e) = behind i e
    pick (inr l) (inr b) (inr ne) = same_page lead parts old new i (c.outside i (inr (omega (arith, b, ne))))

-- ---- numbers that are kept by differences ----

same_number : (lead : ℕ) (parts parts_new : List Part) (old new : List WindowPage) → SameMapped lead parts parts_new old new → mappings_of lead parts_new new ≡ mappings_of lead parts old
same_number lead parts parts_new old new s =
    sum_same (λ place. digit (begins_at lead parts_new new place)) (λ place. digit (begins_at lead parts old place)) 0 (length new) (λ i p q. same_at lead parts parts_new old new i (before i) (s.each i))
    ∙ ap (λ n. sum_from (λ place. digit (begins_at lead parts old place)) 0 n) s.length where
      before : (i : ℕ) → option_map unmarked (mapped_before lead parts_new new i) ≡ option_map unmarked (mapped_before lead parts old i)
      before zero = refl
      before (suc i) = ap (λ o. option_map unmarked o) (s.each i)

pub each_number_is_right : EachNumberIsRight
each_number_is_right lead parts pages n (counted _ _) = refl
each_number_is_right lead parts_new new _ (range_changes first count n parts _ old _ kept s) =
    ap (λ m. m - mappings_at lead parts old first count + mappings_at lead parts_new new first count) (each_number_is_right lead parts old n kept)
    ∙ sym (differences_count lead first count parts parts_new old new s)
each_number_is_right lead parts_new new n (same_stays _ parts _ old _ kept s) =
    each_number_is_right lead parts old n kept ∙ sym (same_number lead parts parts_new old new s)
