-- The page behind a range, which may begin what was moved.
use Rattle.std.proofs.Common.{◌≡◌, ◌∙◌, ℕ, zero, suc, ◌+◌, ◌-◌, ◌*◌, ◌<◌, ◌≤◌, ◌⊎◌, inl, inr, Bool, true, false, List, [], ◌∷◌, length, Some, None, Option, refl, ap, cond, sym, subst, arith}
use Rattle.std.specs.Prelude.{slice_get, slice_set}
use Rattle.std.specs.List.{count_by}
use Rattle.std.proofs.lemmas.Bool.{cases_eq}
use Rattle.std.proofs.lemmas.List.Sums.{sum_by-cons}
use Rattle.page_lender.specs.Decisions.{shows}
use Rattle.window_pages.specs.Bytes.{known_of, notes_of}
use Rattle.window_pages.specs.Counted.{is_to_release}
use Rattle.window_pages.specs.Known.{is_given_back, shows_past}
use Rattle.window_pages.specs.Laws.{Counts, new_page}
use Rattle.window_pages.specs.declared.counts.PartCounts.{PartCounts}
use Rattle.window_pages.specs.declared.page.KnownPage.{KnownPage}
use Rattle.window_pages.specs.declared.page.PageNotes.{PageNotes}
use Rattle.window_pages.specs.declared.page.WindowPage.{WindowPage}
use Rattle.window_tables.proofs.Counts.{lower, other_set, own_get, own_set, upper}
use Rattle.window_tables.proofs.Places.{get_none, same, set_length, set_other, set_own}
use Rattle.window_tables.specs.Changes.{Changed, IsBehind, IsNow, NowBegins, RangeChanged, marks}
use Rattle.window_tables.specs.Tables.{BeginsAt, Counted, pages_of, part_at}
use Rattle.window_tables.specs.declared.changes.Change.{Change}

set_none : (pages : List WindowPage) (i : ℕ) (y : WindowPage) → length pages ≤ i → slice_set pages i y ≡ pages
set_none [] i y l = refl
set_none (x ∷ pages) zero y l = absurd (omega (arith, l))
set_none (x ∷ pages) (suc i) y l = ap (λ v. x ∷ v) (set_none pages i y (omega (arith, l)))

not_there : (o : Option WindowPage) (x : WindowPage) → o ≡ None → o ≡ Some x → ⊥
not_there o x e f = cc

-- no page is there
pub none_begins_at : (place : ℕ) (pages : List WindowPage) → length pages ≤ place → BeginsAt place pages pages
none_begins_at place pages l = record {
  after = new_page;
  changed = sym (set_none pages place new_page l);
  becomes = λ x e. absurd (not_there (slice_get pages place) x (get_none pages place l) e);
}

-- a count of pages, one of which changes and is counted as before
count_set : (g : WindowPage → Bool) (m : ℕ) (x y : WindowPage) (zs : List WindowPage) → slice_get zs m ≡ Some x → g y ≡ g x → count_by g (slice_set zs m y) ≡ count_by g zs
count_set g m x y [] e h = refl
count_set g zero x y (z ∷ zs) e h =
    let is : z ≡ x = cc in
    sum_by-cons (λ v. cond (g v) 1 0) y zs
    ∙ (ap (λ b. cond b 1 0 + count_by g zs) (h ∙ ap g (sym is)) ∙ sym (sum_by-cons (λ v. cond (g v) 1 0) z zs))
count_set g (suc m) x y (z ∷ zs) e h =
    sum_by-cons (λ v. cond (g v) 1 0) z (slice_set zs m y)
    ∙ (ap (λ n. cond (g z) 1 0 + n) (count_set g m x y zs e h) ∙ sym (sum_by-cons (λ v. cond (g v) 1 0) z zs))

counts_set : (m : ℕ) (x y : WindowPage) (zs : List WindowPage) (part : PartCounts) → slice_get zs m ≡ Some x → NowBegins x y → Counts part zs → Counts part (slice_set zs m y)
counts_set m x y zs part e b c = record {
  releases = c.releases ∙ sym (count_set (λ p. is_to_release (known_of p)) m x y zs e (ap is_to_release b.known));
  lent = c.lent ∙ sym (count_set (λ p. shows (known_of p).belief) m x y zs e (ap (λ (k : KnownPage). shows k.belief) b.known));
  zeros = c.zeros ∙ sym (count_set (λ p. is_given_back (known_of p)) m x y zs e (ap is_given_back b.known));
  past = c.past ∙ sym (count_set (λ p. shows_past (known_of p)) m x y zs e (ap shows_past b.known));
  shareable = c.shareable ∙ sym (count_set (λ p. (notes_of p).seen) m x y zs e (ap (λ (n : PageNotes). n.seen) b.notes));
}

begun_right : (lead place : ℕ) (pages : List WindowPage) (x y : WindowPage) (parts : List PartCounts) → slice_get pages place ≡ Some x → NowBegins x y → Counted lead pages parts →
    (k : ℕ) (its : PartCounts) → slice_get parts k ≡ Some its → Counts its (pages_of lead k (slice_set pages place y))
begun_right lead place pages x y parts e b c k its g = pick (cases_eq (part_at lead place) k) where
  pick : (part_at lead place ≡ k) ⊎ (part_at lead place ≡ k → ⊥) → Counts its (pages_of lead k (slice_set pages place y))
  pick (inr ne) = subst (λ v. Counts its v) (sym (other_set lead k place pages y ne)) (c.right k its g)
  pick (inl is) =
      let m : ℕ = place - (512 * k - lead) in
      let at : place ≡ 512 * k - lead + m = omega (arith, is, lower lead place, c.leads) in
      let within : place < 512 * (k + 1) - lead = omega (arith, is, upper lead place) in
      subst (λ v. Counts its v) (sym (own_set lead k m place pages y at within))
      (counts_set m x y (pages_of lead k pages) its (own_get lead k m place pages at within ∙ e) b (c.right k its g))

begun_counted : (lead place : ℕ) (pages : List WindowPage) (y : WindowPage) (parts : List PartCounts) (o : Option WindowPage) → slice_get pages place ≡ o →
    ((x : WindowPage) → slice_get pages place ≡ Some x → NowBegins x y) → Counted lead pages parts → (k : ℕ) (its : PartCounts) → slice_get parts k ≡ Some its →
    Counts its (pages_of lead k (slice_set pages place y))
begun_counted lead place pages y parts (Some x) e b c k its g = begun_right lead place pages x y parts e (b x e) c k its g
begun_counted lead place pages y parts None e b c k its g = subst (λ v. Counts its (pages_of lead k v)) (sym (set_absent pages place y e)) (c.right k its g) where
  set_absent : (zs : List WindowPage) (i : ℕ) (v : WindowPage) → slice_get zs i ≡ None → slice_set zs i v ≡ zs
  set_absent [] i v h = refl
  set_absent (z ∷ zs) zero v h = cc
  set_absent (z ∷ zs) (suc i) v h = ap (λ l. z ∷ l) (set_absent zs i v h)

-- the counts of the parts are right still
pub still_counted : (lead place : ℕ) (old new : List WindowPage) (parts : List PartCounts) → BeginsAt place old new → Counted lead old parts → Counted lead new parts
still_counted lead place old new parts b c =
    subst (λ v. Counted lead v parts) (sym b.changed) (record {
      leads = c.leads;
      fits = omega (arith, c.fits, set_length old place b.after);
      right = begun_counted lead place old b.after parts (slice_get old place) refl b.becomes c;
    })

away : (first n count : ℕ) → n < count → first + count ≡ first + n → ⊥
away first n count l e = absurd (omega (arith, l, e))

away_outside : (first count i : ℕ) → (i < first) ⊎ (first + count < i) → first + count ≡ i → ⊥
away_outside first count i (inl l) e = absurd (omega (arith, l, e))
away_outside first count i (inr l) e = absurd (omega (arith, l, e))

wider : (first count i : ℕ) → (i < first) ⊎ (first + count < i) → (i < first) ⊎ (first + count ≤ i)
wider first count i (inl l) = inl l
wider first count i (inr l) = inr (omega (arith, l))

no : (b : Bool) → b ≡ true → b ≡ false → ⊥
no b e f = cc

-- the page behind a range gets its mark
pub range_marked : (what : Change) (first count : ℕ) (old now new : List WindowPage) → marks what count ≡ true → Changed (IsNow what) first count old now → BeginsAt (first + count) now new →
    RangeChanged what first count old new
range_marked what first count old now new m c b = subst (λ v. RangeChanged what first count old v) (sym b.changed) (record {
  length = set_length now (first + count) b.after ∙ c.length;
  inside = λ n x y l e f. c.inside n x y l e (sym (set_other now (first + count) (first + n) b.after (away first n count l)) ∙ f);
  behind = λ x y e f. its x y (c.outside (first + count) (inr (omega arith)) ∙ e) f;
  outside = λ i l. set_other now (first + count) i b.after (away_outside first count i l) ∙ c.outside i (wider first count i l);
}) where
  its : (x y : WindowPage) → slice_get now (first + count) ≡ Some x → slice_get (slice_set now (first + count) b.after) (first + count) ≡ Some y → IsBehind what count x y
  its x y e f =
      let is : b.after ≡ y = same b.after y (slice_get (slice_set now (first + count) b.after) (first + count)) (set_own now (first + count) x b.after e) f in
      record {
        begins = λ h. subst (λ v. NowBegins x v) is (b.becomes x e);
        same = λ h. absurd (no (marks what count) m h);
      }

-- it stays
pub range_unmarked : (what : Change) (first count : ℕ) (old new : List WindowPage) → marks what count ≡ false → Changed (IsNow what) first count old new → RangeChanged what first count old new
range_unmarked what first count old new m c = record {
  length = c.length;
  inside = c.inside;
  behind = λ x y e f. record {
    begins = λ h. absurd (no (marks what count) h m);
    same = λ h. same y x (slice_get new (first + count)) f (c.outside (first + count) (inr (omega arith)) ∙ e);
  };
  outside = λ i l. c.outside i (wider first count i l);
}
