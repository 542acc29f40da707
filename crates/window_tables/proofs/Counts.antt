-- One page of a table changes, and the counts of its part follow.
use Rattle.std.proofs.Common.{◌≡◌, ◌∙◌, ℕ, zero, suc, ◌+◌, ◌-◌, ◌*◌, ◌<◌, ◌≤◌, ◌⊎◌, inl, inr, Bool, true, ◌&&◌, List, [], ◌∷◌, ◌++◌, length, take, drop, Some, refl, ap, sym, subst, arith}
use Rattle.std.specs.Prelude.{min, nat_le, nat_lt, replicate, slice_get, slice_set}
use Rattle.std.proofs.lemmas.Bool.{cases_eq, cases_lt}
use Rattle.std.proofs.lemmas.List.{drop-replicate, drop-set-add, drop-set-lt, length-drop, length-replicate, length-take, take-replicate, take-set-le, take_min}
use Rattle.std.proofs.Math.Seq.{take-set-lt}
use Rattle.window_pages.proofs.Counting.{begins_counted, each_is_counted, none_is_lost}
use Rattle.window_pages.specs.Counted.{counts_then}
use Rattle.window_pages.specs.Laws.{Counts, new_page, no_counts}
use Rattle.window_pages.specs.declared.counts.PartCounts.{PartCounts}
use Rattle.window_pages.specs.declared.page.WindowPage.{WindowPage}
use Rattle.window_tables.proofs.Places.{same, set_length, set_other, set_own}
use Rattle.window_tables.specs.Laws.{Anything, EachTableIsCounted, NoneIsMissed, begins, many_change, one_changes}
use Rattle.window_tables.specs.declared.changes.Change.{Change}
use Rattle.window_tables.specs.Tables.{Notes, Counted, OneChanges, has_parts, pages_of, part_at}

taken : (m n : ℕ) → take m (replicate n new_page) ≡ replicate (min m n) new_page
taken m n =
    sym (take_min m (replicate n new_page))
    ∙ (ap (λ k. take (min m k) (replicate n new_page)) (length-replicate n new_page) ∙ take-replicate (min m n) n new_page (omega arith))

-- a list on both sides of a place
record Splits (m : ℕ) (x y : WindowPage) (zs : List WindowPage) : Type 0 where
  before : List WindowPage
  after : List WindowPage
  is : zs ≡ before ++ x ∷ after
  is_then : slice_set zs m y ≡ before ++ y ∷ after

splits : (m : ℕ) (x y : WindowPage) (zs : List WindowPage) → slice_get zs m ≡ Some x → Splits m x y zs
splits m x y [] e = cc
splits zero x y (z ∷ zs) e =
    let same : z ≡ x = cc in
    record { before = []; after = zs; is = ap (λ v. v ∷ zs) same; is_then = refl }
splits (suc m) x y (z ∷ zs) e =
    let s : Splits m x y zs = splits m x y zs e in
    record { before = z ∷ s.before; after = s.after; is = ap (λ v. z ∷ v) s.is; is_then = ap (λ v. z ∷ v) s.is_then }

-- the counts of a list of pages, one of which changes
counts_set : (m : ℕ) (x y : WindowPage) (zs : List WindowPage) (part : PartCounts) → slice_get zs m ≡ Some x → length zs ≤ 65535 → Counts part zs →
    Counts (counts_then x y part) (slice_set zs m y)
counts_set m x y zs part e l c =
    let s : Splits m x y zs = splits m x y zs e in
    subst (λ v. Counts (counts_then x y part) v) (sym s.is_then)
    (each_is_counted s.before s.after x y part (subst (λ v. length v ≤ 65535) s.is l) (subst (λ v. Counts part v) s.is c))

get_take : (t i : ℕ) (zs : List WindowPage) → i < t → slice_get (take t zs) i ≡ slice_get zs i
get_take zero i zs l = absurd (omega arith)
get_take (suc t) i [] l = refl
get_take (suc t) zero (z ∷ zs) l = refl
get_take (suc t) (suc i) (z ∷ zs) l = get_take t i zs (omega arith)

none_more : (i : ℕ) → i ≡ 0 + i
none_more i = omega arith

one_more : (s i : ℕ) → suc (s + i) ≡ suc s + i
one_more s i = omega arith

get_drop : (s i : ℕ) (zs : List WindowPage) → slice_get (drop s zs) i ≡ slice_get zs (s + i)
get_drop zero i zs = ap (λ k. slice_get zs k) (none_more i)
get_drop (suc s) i [] = refl
get_drop (suc s) i (z ∷ zs) = get_drop s i zs ∙ ap (λ k. slice_get (z ∷ zs) k) (one_more s i)

pub lower : (lead place : ℕ) → 512 * part_at lead place ≤ place + lead
lower lead place = omega arith

pub upper : (lead place : ℕ) → place + lead < 512 * (part_at lead place + 1)
upper lead place = omega arith

short : (lead k : ℕ) (pages : List WindowPage) → length (pages_of lead k pages) ≤ 65535
short lead k pages = omega (arith, length-drop (512 * k - lead) (take (512 * (k + 1) - lead) pages), length-take (512 * (k + 1) - lead) pages)

-- the place of a page among those of its part
pub own_set : (lead k m place : ℕ) (pages : List WindowPage) (y : WindowPage) → place ≡ 512 * k - lead + m → place < 512 * (k + 1) - lead →
    pages_of lead k (slice_set pages place y) ≡ slice_set (pages_of lead k pages) m y
own_set lead k m place pages y e l =
    ap (λ v. drop (512 * k - lead) v) (take-set-lt (512 * (k + 1) - lead) pages place y l)
    ∙ (ap (λ i. drop (512 * k - lead) (slice_set (take (512 * (k + 1) - lead) pages) i y)) e ∙ drop-set-add (512 * k - lead) (take (512 * (k + 1) - lead) pages) m y)

pub own_get : (lead k m place : ℕ) (pages : List WindowPage) → place ≡ 512 * k - lead + m → place < 512 * (k + 1) - lead →
    slice_get (pages_of lead k pages) m ≡ slice_get pages place
own_get lead k m place pages e l =
    get_drop (512 * k - lead) m (take (512 * (k + 1) - lead) pages)
    ∙ (ap (λ i. slice_get (take (512 * (k + 1) - lead) pages) i) (sym e) ∙ get_take (512 * (k + 1) - lead) place pages l)

-- a page of another part
pub other_set : (lead k place : ℕ) (pages : List WindowPage) (y : WindowPage) → (part_at lead place ≡ k → ⊥) → pages_of lead k (slice_set pages place y) ≡ pages_of lead k pages
other_set lead k place pages y ne = pick (cases_lt k (part_at lead place)) where
  pick : (k < part_at lead place) ⊎ (part_at lead place ≤ k) → pages_of lead k (slice_set pages place y) ≡ pages_of lead k pages
  pick (inl l) = ap (λ v. drop (512 * k - lead) v) (take-set-le (512 * (k + 1) - lead) pages place y (omega (arith, lower lead place)))
  pick (inr l) =
      ap (λ v. drop (512 * k - lead) v) (take-set-lt (512 * (k + 1) - lead) pages place y (omega (arith, upper lead place)))
      ∙ drop-set-lt (512 * k - lead) (take (512 * (k + 1) - lead) pages) place y (omega (arith, upper lead place))

-- the counts of the parts, where one page has changed
one_right : (lead place : ℕ) (pages : List WindowPage) (parts : List PartCounts) (x y : WindowPage) (part : PartCounts) → Counted lead pages parts →
    slice_get pages place ≡ Some x → slice_get parts (part_at lead place) ≡ Some part →
    (k : ℕ) (its : PartCounts) → slice_get (slice_set parts (part_at lead place) (counts_then x y part)) k ≡ Some its → Counts its (pages_of lead k (slice_set pages place y))
one_right lead place pages parts x y part c e g k its h = pick (cases_eq (part_at lead place) k) where
  own : part_at lead place ≡ k → Counts its (pages_of lead k (slice_set pages place y))
  own is =
      let at : place ≡ 512 * k - lead + (place - (512 * k - lead)) = omega (arith, is, lower lead place, c.leads) in
      let within : place < 512 * (k + 1) - lead = omega (arith, is, upper lead place) in
      let now : slice_get parts k ≡ Some part = ap (λ j. slice_get parts j) (sym is) ∙ g in
      let new : slice_get (slice_set parts (part_at lead place) (counts_then x y part)) k ≡ Some (counts_then x y part) =
      ap (λ j. slice_get (slice_set parts (part_at lead place) (counts_then x y part)) j) (sym is) ∙ set_own parts (part_at lead place) part (counts_then x y part) g in
      let is_it : counts_then x y part ≡ its = same (counts_then x y part) its (slice_get (slice_set parts (part_at lead place) (counts_then x y part)) k) new h in
      let there : slice_get (pages_of lead k pages) (place - (512 * k - lead)) ≡ Some x = own_get lead k (place - (512 * k - lead)) place pages at within ∙ e in
      subst (λ v. Counts v (pages_of lead k (slice_set pages place y))) is_it
      (subst (λ v. Counts (counts_then x y part) v) (sym (own_set lead k (place - (512 * k - lead)) place pages y at within))
      (counts_set (place - (512 * k - lead)) x y (pages_of lead k pages) part there (short lead k pages) (c.right k part now)))

  pick : (part_at lead place ≡ k) ⊎ (part_at lead place ≡ k → ⊥) → Counts its (pages_of lead k (slice_set pages place y))
  pick (inl is) = own is
  pick (inr ne) =
      subst (λ v. Counts its v) (sym (other_set lead k place pages y ne))
      (c.right k its (sym (set_other parts (part_at lead place) k (counts_then x y part) ne) ∙ h))

pub one_counted : (lead place : ℕ) (pages : List WindowPage) (parts : List PartCounts) (x y : WindowPage) (part : PartCounts) →
    slice_get pages place ≡ Some x → slice_get parts (part_at lead place) ≡ Some part → Counted lead pages parts →
    Counted lead (slice_set pages place y) (slice_set parts (part_at lead place) (counts_then x y part))
one_counted lead place pages parts x y part e g c = record {
  leads = c.leads;
  fits = omega (arith, c.fits, set_length pages place y, set_length parts (part_at lead place) (counts_then x y part));
  right = one_right lead place pages parts x y part c e g;
}

-- each page still has a part
pub parts_stay : (Becomes : WindowPage → WindowPage → Type 0) (lead place : ℕ) (old new : List WindowPage) (parts parts_new : List PartCounts) →
    OneChanges Becomes lead place old new parts parts_new → has_parts lead old parts ≡ true → has_parts lead new parts_new ≡ true
parts_stay Becomes lead place old new parts parts_new o h =
    let long : length old ≡ length new = sym (ap (λ v. length v) o.changed ∙ set_length old place o.after) in
    let many : length parts ≡ length parts_new = sym (ap (λ v. length v) o.follows ∙ set_length parts (part_at lead place) (counts_then o.before o.after o.part)) in
    subst (λ n. (nat_lt lead 512 && nat_le (n + lead) (512 * length parts_new)) ≡ true) long
    (subst (λ n. (nat_lt lead 512 && nat_le (length old + lead) (512 * n)) ≡ true) many h)

-- one page more
pub counted_more : (Becomes : WindowPage → WindowPage → Type 0) (lead place : ℕ) (old new : List WindowPage) (parts parts_new : List PartCounts) →
    OneChanges Becomes lead place old new parts parts_new → Counted lead old parts → Counted lead new parts_new
counted_more Becomes lead place old new parts parts_new o c =
    subst (λ v. Counted lead v parts_new) (sym o.changed)
    (subst (λ v. Counted lead (slice_set old place o.after) v) (sym o.follows) (one_counted lead place old parts o.before o.after o.part o.is_there o.is_part c))

-- ---- lives of a table ----

-- no page of a new table is counted
new_right : (lead count many k : ℕ) (part : PartCounts) → slice_get (replicate many no_counts) k ≡ Some part → Counts part (pages_of lead k (replicate count new_page))
new_right lead count many k part e =
    subst (λ v. Counts v (pages_of lead k (replicate count new_page))) (new_part many k part e)
    (subst (λ v. Counts no_counts v) (sym (new_pages lead count k)) (begins_counted (min (512 * (k + 1) - lead) count - (512 * k - lead)))) where
      new_part : (n i : ℕ) (x : PartCounts) → slice_get (replicate n no_counts) i ≡ Some x → no_counts ≡ x
      new_part zero i x h = cc
      new_part (suc n) zero x h = cc
      new_part (suc n) (suc i) x h = new_part n i x h

      new_pages : (l n i : ℕ) → pages_of l i (replicate n new_page) ≡ replicate (min (512 * (i + 1) - l) n - (512 * i - l)) new_page
      new_pages l n i =
          ap (λ v. drop (512 * i - l) v) (taken (512 * (i + 1) - l) n) ∙ drop-replicate (512 * i - l) (min (512 * (i + 1) - l) n) new_page

new_counted : (lead count many : ℕ) → lead < 512 → count + lead ≤ 512 * many → Counted lead (replicate count new_page) (replicate many no_counts)
new_counted lead count many l f = record {
  leads = l;
  fits = omega (arith, f, length-replicate count new_page, length-replicate many no_counts);
  right = new_right lead count many;
}

noted : (what : Change) (lead first count : ℕ) (is_noted : Bool) (old new : List WindowPage) (parts parts_new : List PartCounts) →
    Notes what lead first count is_noted old new parts parts_new → Counted lead old parts → Counted lead new parts_new
noted what lead first count is_noted old new parts parts_new n c = n.counted c

pub each_is_counted_still : EachTableIsCounted
each_is_counted_still lead count many l f pages parts begins = new_counted lead count many l f
each_is_counted_still lead count many l f pages parts (many_change old new before after what first n is_noted life h) =
    noted what lead first n is_noted old new before after h (each_is_counted_still lead count many l f old before life)
each_is_counted_still lead count many l f pages parts (one_changes old new before after place life h) =
    counted_more Anything lead place old new before after h (each_is_counted_still lead count many l f old before life)

pub none_is_missed : NoneIsMissed
none_is_missed lead pages parts c i x part e g z =
    let at : i ≡ 512 * part_at lead i - lead + (i - (512 * part_at lead i - lead)) = omega (arith, lower lead i, c.leads) in
    let within : i < 512 * (part_at lead i + 1) - lead = omega (arith, upper lead i) in
    let there : slice_get (pages_of lead (part_at lead i) pages) (i - (512 * part_at lead i - lead)) ≡ Some x =
    own_get lead (part_at lead i) (i - (512 * part_at lead i - lead)) i pages at within ∙ e in
    let s : Splits (i - (512 * part_at lead i - lead)) x x (pages_of lead (part_at lead i) pages) = splits (i - (512 * part_at lead i - lead)) x x (pages_of lead (part_at lead i) pages) there in
    none_is_lost s.before s.after x part (subst (λ v. Counts part v) s.is (c.right (part_at lead i) part g)) z
