-- What came of an order leaves fewer steps.
use Rattle.std.proofs.Common.{◌≡◌, ◌∙◌, ℕ, zero, suc, ◌+◌, ◌-◌, ◌<◌, ◌≤◌, ◌⊎◌, inl, inr, Bool, true, false, ◌&&◌, List, length, Option, Some, None, refl, ap, sym, subst, arith}
use Rattle.std.specs.Prelude.{if◌then◌else◌, nat_le, nat_lt, slice_get, slice_index_or}
use Rattle.std.specs.Option.{option_map_or}
use Rattle.std.proofs.lemmas.Bool.{cases_lt, leb-true}
use Rattle.page_holds.proofs.Left.{each_step_leaves_less}
use Rattle.page_holds.specs.Laws.{goes_on, left_by}
use Rattle.page_holds.specs.Steps.{Took, outcome_for, place_after, step_of}
use Rattle.page_holds.specs.declared.place.HeldPlace.{HeldPlace}
use Rattle.page_holds.specs.declared.place.HoldStep.{HoldStep}
use Rattle.page_holds.specs.declared.place.HoldStep.TheVariants.{Over, Compare, CompareZeros, Map, GiveBack, PutBack, EndWatch}
use Rattle.page_lender.specs.Decisions.{waiting}
use Rattle.window_pages.specs.Bytes.{belief_of, known_of}
use Rattle.window_pages.specs.declared.counts.PartCounts.{PartCounts}
use Rattle.window_pages.specs.declared.page.WindowPage.{WindowPage}
use Rattle.window_tables.specs.Tables.{can_note}
use Rattle.page_holds.proofs.RowCourses.{There, in_list, place_kept, there_too}
use Rattle.page_holds.proofs.RowsKept.{byte_there}
use Rattle.page_holds.specs.Bytes.{byte_of, byte_then, is_stuck, place_in, step_by, sticks}
use Rattle.page_holds.specs.RowLaws.{EachOrderLeavesLess, steps_left}
use Rattle.page_holds.specs.Orders.{rank, step_at}
use Rattle.page_holds.specs.Rows.{CameOut, RowChanges}

-- ---- sums ----

pub sum_same : (first : ℕ) (old new : List WindowPage) (row row_new : List ℕ) (n : ℕ) → ((i : ℕ) → i < n → left_by (step_at first new row_new i) ≤ left_by (step_at first old row i)) →
    steps_left first new row_new n ≤ steps_left first old row n
sum_same first old new row row_new zero h = omega arith
sum_same first old new row row_new (suc n) h = omega (arith, h n (omega arith), sum_same first old new row row_new n (λ i l. h i (omega (arith, l))))

-- no page has more steps left, and one has fewer
pub sum_less : (first : ℕ) (old new : List WindowPage) (row row_new : List ℕ) (k n : ℕ) → k < n → ((i : ℕ) → i < n → left_by (step_at first new row_new i) ≤ left_by (step_at first old row i)) →
    left_by (step_at first new row_new k) < left_by (step_at first old row k) → steps_left first new row_new n < steps_left first old row n
sum_less first old new row row_new k zero l h e = absurd (omega (arith, l))
sum_less first old new row row_new k (suc n) l h e = pick (cases_lt k n) (λ b. sum_less first old new row row_new k n b (λ i m. h i (omega (arith, m))) e) where
  pick : (k < n) ⊎ (n ≤ k) → (k < n → steps_left first new row_new n < steps_left first old row n) → steps_left first new row_new (suc n) < steps_left first old row (suc n)
  pick (inl b) before = omega (arith, h n (omega arith), before b)
  pick (inr b) before =
      let is : k ≡ n = omega (arith, l, b) in
      let its : left_by (step_at first new row_new n) < left_by (step_at first old row n) = subst (λ j. left_by (step_at first new row_new j) < left_by (step_at first old row j)) is e in
      omega (arith, its, sum_same first old new row row_new n (λ i m. h i (omega (arith, m))))

-- ---- one page ----

-- a step that goes on leaves no page stuck; any other one does, or there is none
data Ending (step : HoldStep) (is_done : Bool) : Type 0 where
  nears : goes_on step is_done ≡ true → sticks step is_done ≡ false → Ending step is_done
  gives_up : sticks step is_done ≡ true → 0 < left_by step → Ending step is_done

ending : (step : HoldStep) (is_done : Bool) → rank step < 6 → Ending step is_done
ending Over is_done l = absurd (omega (arith, l))
ending Compare is_done l = nears refl refl
ending CompareZeros is_done l = nears refl refl
ending Map is_done l = nears refl refl
ending GiveBack is_done l = nears refl refl
ending PutBack true l = nears refl refl
ending PutBack false l = gives_up refl (omega arith)
ending EndWatch true l = nears refl refl
ending EndWatch false l = gives_up refl (omega arith)

unstuck : (place : HeldPlace) → is_stuck (byte_of place false) ≡ false
unstuck HeldPlace.Free = refl
unstuck HeldPlace.Guarded = refl
unstuck HeldPlace.Aside = refl
unstuck HeldPlace.Replaced = refl

stuck : (place : HeldPlace) → is_stuck (byte_of place true) ≡ true
stuck HeldPlace.Free = refl
stuck HeldPlace.Guarded = refl
stuck HeldPlace.Aside = refl
stuck HeldPlace.Replaced = refl

-- the next step of a page with a byte that was made for this
step_made : (place : HeldPlace) (new : WindowPage) → step_by (belief_of new) (byte_of place false) ≡ step_of (belief_of new) place
step_made place new =
    ap (λ t. if t then Over else step_of (belief_of new) (place_in (byte_of place false))) (unstuck place) ∙ ap (λ p. step_of (belief_of new) p) (place_kept place false)

over_made : (place : HeldPlace) (new : WindowPage) → step_by (belief_of new) (byte_of place true) ≡ Over
over_made place new = ap (λ t. if t then Over else step_of (belief_of new) (place_in (byte_of place true))) (stuck place)

page_less : (old new : WindowPage) (part after : PartCounts) (byte byte_new : ℕ) (is_done : Bool) → rank (step_by (belief_of old) byte) < 6 →
    (waiting (belief_of old) ≡ true → (known_of old).ordered ≡ true) → byte_new ≡ byte_then (belief_of old) byte is_done →
    Took (outcome_for (step_by (belief_of old) byte) (belief_of old) is_done) old new part after → left_by (step_by (belief_of new) byte_new) < left_by (step_by (belief_of old) byte)
page_less old new part after byte byte_new is_done l w e t = pick (is_stuck byte) refl where
  step : HoldStep
  step = step_of (belief_of old) (place_in byte)

  pick : (is : Bool) → is_stuck byte ≡ is → left_by (step_by (belief_of new) byte_new) < left_by (step_by (belief_of old) byte)
  pick true s =
      let over : step_by (belief_of old) byte ≡ Over = ap (λ b. if b then Over else step_of (belief_of old) (place_in byte)) s in
      absurd (omega (arith, l, ap (λ z. rank z) over))
  pick false s = end (ending (step_of (belief_of old) (place_in byte)) is_done (subst (λ z. rank z < 6) its l)) where
    its : step_by (belief_of old) byte ≡ step_of (belief_of old) (place_in byte)
    its = ap (λ b. if b then Over else step_of (belief_of old) (place_in byte)) s

    made : byte_new ≡ byte_of (place_after (step_of (belief_of old) (place_in byte)) (place_in byte) is_done) (sticks (step_of (belief_of old) (place_in byte)) is_done)
    made =
        e
        ∙ ap (λ b. if b then byte else byte_of (place_after (step_of (belief_of old) (place_in byte)) (place_in byte) is_done) (sticks (step_of (belief_of old) (place_in byte)) is_done)) s

    made_as : (b : Bool) → sticks (step_of (belief_of old) (place_in byte)) is_done ≡ b → step_by (belief_of new) byte_new ≡ step_by (belief_of new) (byte_of (place_after (step_of (belief_of old) (place_in byte)) (place_in byte) is_done) b)
    made_as b h = ap (λ z. step_by (belief_of new) z) (made ∙ ap (λ z. byte_of (place_after (step_of (belief_of old) (place_in byte)) (place_in byte) is_done) z) h)

    end : Ending (step_of (belief_of old) (place_in byte)) is_done → left_by (step_by (belief_of new) byte_new) < left_by (step_by (belief_of old) byte)
    end (nears g n) =
        let next : step_by (belief_of new) byte_new ≡ step_of (belief_of new) (place_after (step_of (belief_of old) (place_in byte)) (place_in byte) is_done) =
        made_as false n ∙ step_made (place_after (step_of (belief_of old) (place_in byte)) (place_in byte) is_done) new in
        let took : Took (outcome_for (step_of (belief_of old) (place_in byte)) (belief_of old) is_done) old new part after = subst (λ z. Took (outcome_for z (belief_of old) is_done) old new part after) its t in
        omega (arith, each_step_leaves_less old new part after (place_in byte) is_done w took g, ap (λ z. left_by z) next, ap (λ z. left_by z) its)
    end (gives_up n m) =
        let next : step_by (belief_of new) byte_new ≡ Over = made_as true n ∙ over_made (place_after (step_of (belief_of old) (place_in byte)) (place_in byte) is_done) new in
        omega (arith, m, ap (λ z. left_by z) next, ap (λ z. left_by z) its)

-- ---- a row ----

-- the step at a place where this page lies, with this byte
at_place : (first : ℕ) (pages : List WindowPage) (row : List ℕ) (n b : ℕ) (x : WindowPage) → slice_get row n ≡ Some b → slice_get pages (first + n) ≡ Some x →
    step_at first pages row n ≡ step_by (belief_of x) b
at_place first pages row n b x eb ex =
    let byte : slice_index_or row n 0 ≡ b = one (slice_index_or row n 0) b (sym (byte_there row n (in_list row n b eb)) ∙ eb) in
    ap (λ o. option_map_or (λ page. step_by (belief_of page) (slice_index_or row n 0)) o Over) ex ∙ ap (λ z. step_by (belief_of x) z) byte where
      one : (c d : ℕ) → Some c ≡ Some d → c ≡ d
      one c d e = cc

run_less : (first begin done count : ℕ) (old new : List WindowPage) (row row_new : List ℕ) → RowChanges (CameOut done) first begin count old new row row_new → begin + count ≤ length row →
    ((n : ℕ) → n < count → rank (step_at first old row (begin + n)) < 6) →
    ((n : ℕ) (x : WindowPage) → n < count → slice_get old (first + (begin + n)) ≡ Some x → waiting (belief_of x) ≡ true → (known_of x).ordered ≡ true) →
    (m : ℕ) → m < count → left_by (step_at first new row_new (begin + m)) < left_by (step_at first old row (begin + m))
run_less first begin done count old new row row_new r within due w m l = by_old (slice_get old (first + (begin + m))) refl where
  over : slice_get old (first + (begin + m)) ≡ None → step_at first old row (begin + m) ≡ Over
  over e = ap (λ o. option_map_or (λ page. step_by (belief_of page) (slice_index_or row (begin + m) 0)) o Over) e

  by_old : (o : Option WindowPage) → slice_get old (first + (begin + m)) ≡ o → left_by (step_at first new row_new (begin + m)) < left_by (step_at first old row (begin + m))
  by_old None e = absurd (omega (arith, due m l, ap (λ z. rank z) (over e)))
  by_old (Some x) e =
      let b : ℕ = slice_index_or row (begin + m) 0 in
      let h : slice_get row (begin + m) ≡ Some b = byte_there row (begin + m) (omega (arith, l, within)) in
      let q : There WindowPage new (first + (begin + m)) = there_too new old (first + (begin + m)) x (sym r.length) e in
      let p : There ℕ row_new (begin + m) = there_too row_new row (begin + m) b (sym r.bytes) h in
      let i : CameOut done m b p.its x q.its = r.inside m b p.its x q.its l h p.is e q.is in
      let was : step_at first old row (begin + m) ≡ step_by (belief_of x) b = at_place first old row (begin + m) b x h e in
      let now : step_at first new row_new (begin + m) ≡ step_by (belief_of q.its) p.its = at_place first new row_new (begin + m) p.its q.its p.is q.is in
      omega (arith, page_less x q.its i.page.part i.page.part_after b p.its (nat_lt m done) (subst (λ z. rank z < 6) was (due m l)) (w m x l e) i.written i.page.becomes, ap (λ z. left_by z) was, ap (λ z. left_by z) now)

-- the step at a place where page and byte stay
same_place : (first : ℕ) (old new : List WindowPage) (row row_new : List ℕ) (n : ℕ) → slice_get new (first + n) ≡ slice_get old (first + n) → slice_get row_new n ≡ slice_get row n →
    n < length row → n < length row_new → step_at first new row_new n ≡ step_at first old row n
same_place first old new row row_new n ex eb l m =
    ap (λ o. option_map_or (λ page. step_by (belief_of page) (slice_index_or row_new n 0)) o Over) ex
    ∙ ap (λ b. option_map_or (λ page. step_by (belief_of page) b) (slice_get old (first + n)) Over)
    (one (slice_index_or row_new n 0) (slice_index_or row n 0) (sym (byte_there row_new n m) ∙ (eb ∙ byte_there row n l))) where
      one : (c d : ℕ) → Some c ≡ Some d → c ≡ d
      one c d e = cc

all_less : (first begin done count : ℕ) (old new : List WindowPage) (row row_new : List ℕ) → RowChanges (CameOut done) first begin count old new row row_new → begin + count ≤ length row → 0 < count →
    ((m : ℕ) → m < count → left_by (step_at first new row_new (begin + m)) < left_by (step_at first old row (begin + m))) →
    steps_left first new row_new (length row_new) < steps_left first old row (length row)
all_less first begin done count old new row row_new r within some less =
    subst (λ k. steps_left first new row_new k < steps_left first old row (length row)) (sym r.bytes)
    (sum_less first old new row row_new (begin + 0) (length row) (omega (arith, within, some)) each (less 0 some)) where
      outside : (i : ℕ) → i < length row → (i < begin) ⊎ (begin + count ≤ i) → (first + i < first + begin) ⊎ (first + (begin + count) ≤ first + i) →
          left_by (step_at first new row_new i) ≤ left_by (step_at first old row i)
      outside i l o p =
          omega (arith, ap (λ z. left_by z) (same_place first old new row row_new i (r.outside (first + i) p) (r.other i o) l (omega (arith, l, r.bytes))))

      inside : (i : ℕ) → begin ≤ i → i < begin + count → left_by (step_at first new row_new i) ≤ left_by (step_at first old row i)
      inside i lo hi =
          let at : begin + (i - begin) ≡ i = omega (arith, lo) in
          subst (λ j. left_by (step_at first new row_new j) ≤ left_by (step_at first old row j)) at (omega (arith, less (i - begin) (omega (arith, lo, hi))))

      behind : (i : ℕ) → i < length row → begin ≤ i → (i < begin + count) ⊎ (begin + count ≤ i) → left_by (step_at first new row_new i) ≤ left_by (step_at first old row i)
      behind i l lo (inl hi) = inside i lo hi
      behind i l lo (inr b) = outside i l (inr b) (inr (omega (arith, b)))

      before : (i : ℕ) → i < length row → (i < begin) ⊎ (begin ≤ i) → left_by (step_at first new row_new i) ≤ left_by (step_at first old row i)
      before i l (inl b) = outside i l (inl b) (inl (omega (arith, b)))
      before i l (inr b) = behind i l b (cases_lt i (begin + count))

      each : (i : ℕ) → i < length row → left_by (step_at first new row_new i) ≤ left_by (step_at first old row i)
      each i l = before i l (cases_lt i begin)

second_so : (a b : Bool) → (a && b) ≡ true → b ≡ true
second_so true b e = e
second_so false b e = cc

pub each_order_leaves_less : EachOrderLeavesLess
each_order_leaves_less lead first begin done refused old new parts parts_new row row_new r some due w =
    let within : begin + done + refused ≤ length row = leb-true (begin + done + refused) (length row) (second_so (can_note lead first (length row) old parts) (nat_le (begin + done + refused) (length row)) (sym r.taken)) in
    all_less first begin done (done + refused) old new row row_new (r.pages refl) (omega (arith, within)) some
    (run_less first begin done (done + refused) old new row row_new (r.pages refl) (omega (arith, within)) due w)
