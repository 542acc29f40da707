-- Each page of a row is in a hold of its own.
use Rattle.std.proofs.Common.{◌≡◌, ◌∙◌, ℕ, zero, suc, ◌+◌, ◌-◌, ◌%◌, ◌<◌, ◌≤◌, ◌⊎◌, inl, inr, Bool, true, false, List, [], ◌∷◌, length, Some, None, refl, ap, sym, subst, arith}
use Rattle.std.specs.Prelude.{if◌then◌else◌, nat_eq, nat_lt, slice_get, slice_index_or}
use Rattle.std.proofs.lemmas.Bool.{cases_lt, eqb-true}
use Rattle.page_holds.specs.Laws.{Course, begins as one_begins, asks as one_asks, comes_out as one_comes_out, writes as one_writes}
use Rattle.page_holds.specs.Memory.{Did, Spot, begun, compares, compares_zeros, ends_watch, gives_back, is_at_place, is_held, maps, puts_back, refuses, rests}
use Rattle.page_holds.specs.Steps.{Took, outcome_for, place_after, place_of, step_of}
use Rattle.page_holds.specs.declared.place.HeldPlace.{HeldPlace}
use Rattle.page_holds.specs.declared.place.HeldPlace.TheVariants.{Free, Guarded, Aside, Replaced}
use Rattle.page_holds.specs.declared.place.HoldStep.{HoldStep}
use Rattle.page_holds.specs.declared.place.HoldStep.TheVariants.{Over}
use Rattle.page_lender.specs.Decisions.{waiting}
use Rattle.page_lender.specs.declared.belief.Belief.{Belief}
use Rattle.page_lender.specs.Calls.{order_due}
use Rattle.window_pages.specs.Bytes.{belief_of, known_of}
use Rattle.window_pages.specs.Known.{bars_of, lender_of}
use Rattle.window_pages.specs.declared.counts.PartCounts.{PartCounts}
use Rattle.window_pages.specs.declared.facts.WindowFacts.{WindowFacts}
use Rattle.window_pages.specs.declared.page.WindowPage.{WindowPage}
use Rattle.window_tables.specs.Changes.{Changed}
use Rattle.window_tables.specs.Tables.{can_note}
use Rattle.window_tables.specs.declared.facts.TableFacts.{TableFacts}
use Rattle.page_holds.specs.Bytes.{byte_of, byte_then, is_stuck, place_by, place_in, step_by, sticks}
use Rattle.page_holds.specs.RowLaws.{DidAll, EachPageIsHeld, asks, begins, comes_out, resumes, spots_with, writes}
use Rattle.page_holds.specs.Orders.{OrdersNext, facts_there}
use Rattle.page_holds.specs.Rows.{Asks, CameOut, IsBegun, PageBecomes, RowChanges, is_asked, taking_at}
use Rattle.page_holds.specs.declared.rows.run.RowOrder.{RowOrder}

-- Something lies at a place of a list.
pub record There (X : Type 0) (xs : List X) (i : ℕ) : Type 0 where
  pub its : X
  pub is : slice_get xs i ≡ Some its

-- so it does in a list that is as long
pub there_too : {X : Type 0} (xs ys : List X) (i : ℕ) (y : X) → length ys ≡ length xs → slice_get ys i ≡ Some y → There X xs i
there_too [] [] i y l e = cc
there_too [] (z ∷ ys) i y l e = absurd (omega (arith, l))
there_too (x ∷ xs) [] i y l e = absurd (omega (arith, l))
there_too (x ∷ xs) (z ∷ ys) zero y l e = record { its = x; is = refl }
there_too (x ∷ xs) (z ∷ ys) (suc i) y l e = let t : There _ xs i = there_too xs ys i y (omega (arith, l)) e in record { its = t.its; is = t.is }

pub in_list : {X : Type 0} (xs : List X) (i : ℕ) (x : X) → slice_get xs i ≡ Some x → i < length xs
in_list [] i x e = cc
in_list (y ∷ xs) zero x e = omega arith
in_list (y ∷ xs) (suc i) x e = omega (arith, in_list xs i x e)

-- a byte says where the memory is for which it was made
pub place_kept : (place : HeldPlace) (stuck : Bool) → place_in (byte_of place stuck) ≡ place
place_kept Free true = refl
place_kept Free false = refl
place_kept Guarded true = refl
place_kept Guarded false = refl
place_kept Aside true = refl
place_kept Aside false = refl
place_kept Replaced true = refl
place_kept Replaced false = refl

-- ---- a row begins ----

from_none : (n : ℕ) → n ≡ 0 + n
from_none n = omega arith

page_begins : (frames : ℕ → List ℕ) (takings : List ℕ) (bytes : List ℕ) (n b c : ℕ) (x y : WindowPage) → waiting (belief_of x) ≡ false → IsBegun takings n b c x y →
    Course frames y (place_in c) (begun (taking_at takings n) bytes)
page_begins frames takings bytes n b c x y h i =
    subst (λ v. Course frames y v (begun (taking_at takings n) bytes)) (sym (ap (λ v. place_in v) i.written ∙ place_kept (place_of (taking_at takings n)) false))
    (one_begins x y i.page.part i.page.part_after (taking_at takings n) bytes h i.page.becomes)

row_begins : (frames : ℕ → List ℕ) (first : ℕ) (old new : List WindowPage) (row row_new takings : List ℕ) (bytes : ℕ → List ℕ) →
    ((n : ℕ) (x : WindowPage) → n < length row → slice_get old (first + n) ≡ Some x → waiting (belief_of x) ≡ false) →
    RowChanges (IsBegun takings) first 0 (length row) old new row row_new → (n b : ℕ) (x : WindowPage) → slice_get row_new n ≡ Some b → slice_get new (first + n) ≡ Some x →
    Course frames x (place_in b) (begun (taking_at takings n) (bytes n))
row_begins frames first old new row row_new takings bytes held r n b x eb ex =
    let p : There WindowPage old (first + n) = there_too old new (first + n) x r.length ex in
    let q : There ℕ row n = there_too row row_new n b r.bytes eb in
    let l : n < length row = in_list row n q.its q.is in
    let i : IsBegun takings n q.its b p.its x =
    r.inside n q.its b p.its x l (subst (λ j. slice_get row j ≡ Some q.its) (from_none n) q.is) (subst (λ j. slice_get row_new j ≡ Some b) (from_none n) eb) (subst (λ j. slice_get old (first + j) ≡ Some p.its) (from_none n) p.is)
    (subst (λ j. slice_get new (first + j) ≡ Some x) (from_none n) ex) in
    page_begins frames takings (bytes n) n q.its b p.its x (held n p.its l p.is) i

-- ---- orders are asked for ----

page_asks : (frames : ℕ → List ℕ) (facts : WindowFacts) (byte : ℕ) (old new : WindowPage) (part after : PartCounts) (place : HeldPlace) (spot : Spot) → Asks facts byte old new part after →
    Course frames old place spot → Course frames new place spot
page_asks frames facts byte old new part after place spot a h = pick (is_asked byte (belief_of old)) refl where
  pick : (is : Bool) → is_asked byte (belief_of old) ≡ is → Course frames new place spot
  pick true e = one_asks old new part after place spot (order_due (lender_of facts (known_of old))) (bars_of facts (known_of old)) h (a.order e)
  pick false e = subst (λ v. Course frames v place spot) (sym (a.page e)) h

row_asks : (frames : ℕ → List ℕ) (first lead : ℕ) (table : TableFacts) (pins : List ℕ) (order : RowOrder) (old new : List WindowPage) (parts parts_new : List PartCounts)
    (row : List ℕ) (spots : ℕ → Spot) → OrdersNext table pins lead first row order old new parts parts_new →
    ((n b : ℕ) (x : WindowPage) → slice_get row n ≡ Some b → slice_get old (first + n) ≡ Some x → Course frames x (place_in b) (spots n)) →
    (n b : ℕ) (x : WindowPage) → slice_get row n ≡ Some b → slice_get new (first + n) ≡ Some x → Course frames x (place_in b) (spots n)
row_asks frames first lead table pins order old new parts parts_new row spots o h n b x eb ex = pick (can_note lead first (length row) old parts) refl where
  pick : (is : Bool) → can_note lead first (length row) old parts ≡ is → Course frames x (place_in b) (spots n)
  pick false e = h n b x eb (ap (λ v. slice_get v (first + n)) (sym (o.same e)) ∙ ex)
  pick true e =
      let r : Changed (λ m. PageBecomes (Asks (facts_there table pins (first + m)) (slice_index_or row m 0))) first (length row) old new = o.asked e in
      let p : There WindowPage old (first + n) = there_too old new (first + n) x r.length ex in
      let i : PageBecomes (Asks (facts_there table pins (first + n)) (slice_index_or row n 0)) p.its x = r.inside n p.its x (in_list row n b eb) p.is ex in
      page_asks frames (facts_there table pins (first + n)) (slice_index_or row n 0) p.its x i.part i.part_after (place_in b) (spots n) i.becomes (h n b p.its eb p.is)

-- ---- orders come out ----

-- nothing was done
rested : (frames : ℕ → List ℕ) (belief : Belief) (place : HeldPlace) (step : HoldStep) (is_done : Bool) (spot next : Spot) → Did frames belief place step is_done spot next → step ≡ Over → next ≡ spot
rested frames belief place step is_done spot next (refuses s t) e = refl
rested frames belief place step is_done spot next (rests t) e = refl
rested frames belief place step is_done spot next (compares t c) e = refl
rested frames belief place step is_done spot next (compares_zeros t c) e = refl
rested frames belief place step is_done spot next (maps t) e = cc
rested frames belief place step is_done spot next (gives_back t) e = cc
rested frames belief place step is_done spot next (puts_back t) e = cc
rested frames belief place step is_done spot next (ends_watch t) e = cc

page_comes_out : (frames : ℕ → List ℕ) (old new : WindowPage) (part after : PartCounts) (byte byte_new : ℕ) (is_done : Bool) (spot next : Spot) →
    Did frames (belief_of old) (place_in byte) (step_by (belief_of old) byte) is_done spot next → byte_new ≡ byte_then (belief_of old) byte is_done →
    Took (outcome_for (step_by (belief_of old) byte) (belief_of old) is_done) old new part after → Course frames old (place_in byte) spot → Course frames new (place_in byte_new) next
page_comes_out frames old new part after byte byte_new is_done spot next d w t h = pick (is_stuck byte) refl where
  pick : (is : Bool) → is_stuck byte ≡ is → Course frames new (place_in byte_new) next
  pick true e =
      let over : step_by (belief_of old) byte ≡ Over = ap (λ s. if s then Over else step_of (belief_of old) (place_in byte)) e in
      let stays : next ≡ spot = rested frames (belief_of old) (place_in byte) (step_by (belief_of old) byte) is_done spot next d over in
      let took : Took None old new part after = subst (λ s. Took (outcome_for s (belief_of old) is_done) old new part after) over t in
      let is_old : new ≡ old = took.page refl in
      let kept : byte_new ≡ byte =
      w ∙ ap (λ s. if s then byte else byte_of (place_after (step_of (belief_of old) (place_in byte)) (place_in byte) is_done) (sticks (step_of (belief_of old) (place_in byte)) is_done)) e in
      subst (λ v. Course frames v (place_in byte_new) next) (sym is_old)
      (subst (λ v. Course frames old (place_in v) next) (sym kept) (subst (λ v. Course frames old (place_in byte) v) (sym stays) h))
  pick false e =
      let its : step_by (belief_of old) byte ≡ step_of (belief_of old) (place_in byte) = ap (λ s. if s then Over else step_of (belief_of old) (place_in byte)) e in
      let written : byte_new ≡ byte_of (place_after (step_of (belief_of old) (place_in byte)) (place_in byte) is_done) (sticks (step_of (belief_of old) (place_in byte)) is_done) =
      w ∙ ap (λ s. if s then byte else byte_of (place_after (step_of (belief_of old) (place_in byte)) (place_in byte) is_done) (sticks (step_of (belief_of old) (place_in byte)) is_done)) e in
      let at : place_in byte_new ≡ place_after (step_of (belief_of old) (place_in byte)) (place_in byte) is_done =
      ap (λ v. place_in v) written ∙ place_kept (place_after (step_of (belief_of old) (place_in byte)) (place_in byte) is_done) (sticks (step_of (belief_of old) (place_in byte)) is_done) in
      subst (λ v. Course frames new v next) (sym at)
      (one_comes_out old new part after (place_in byte) spot next is_done h (subst (λ s. Did frames (belief_of old) (place_in byte) s is_done spot next) its d)
      (subst (λ s. Took (outcome_for s (belief_of old) is_done) old new part after) its t))

run_comes_out : (frames : ℕ → List ℕ) (first begin done refused : ℕ) (old new : List WindowPage) (row row_new : List ℕ) (spots spots_new : ℕ → Spot) →
    RowChanges (CameOut done) first begin (done + refused) old new row row_new → DidAll frames first begin done refused old row spots spots_new →
    ((n b : ℕ) (x : WindowPage) → slice_get row n ≡ Some b → slice_get old (first + n) ≡ Some x → Course frames x (place_in b) (spots n)) →
    (m b : ℕ) (x : WindowPage) → m < done + refused → slice_get row_new (begin + m) ≡ Some b → slice_get new (first + (begin + m)) ≡ Some x → Course frames x (place_in b) (spots_new (begin + m))
run_comes_out frames first begin done refused old new row row_new spots spots_new r d h m b x l eb ex =
    let p : There WindowPage old (first + (begin + m)) = there_too old new (first + (begin + m)) x r.length ex in
    let q : There ℕ row (begin + m) = there_too row row_new (begin + m) b r.bytes eb in
    let i : CameOut done m q.its b p.its x = r.inside m q.its b p.its x l q.is eb p.is ex in
    page_comes_out frames p.its x i.page.part i.page.part_after q.its b (nat_lt m done) (spots (begin + m)) (spots_new (begin + m)) (d.inside m q.its p.its l q.is p.is) i.written i.page.becomes
    (h (begin + m) q.its p.its q.is p.is)

row_comes_out : (frames : ℕ → List ℕ) (first begin done refused : ℕ) (old new : List WindowPage) (row row_new : List ℕ) (spots spots_new : ℕ → Spot) →
    RowChanges (CameOut done) first begin (done + refused) old new row row_new → DidAll frames first begin done refused old row spots spots_new →
    ((n b : ℕ) (x : WindowPage) → slice_get row n ≡ Some b → slice_get old (first + n) ≡ Some x → Course frames x (place_in b) (spots n)) →
    (n b : ℕ) (x : WindowPage) → slice_get row_new n ≡ Some b → slice_get new (first + n) ≡ Some x → Course frames x (place_in b) (spots_new n)
row_comes_out frames first begin done refused old new row row_new spots spots_new r d h n b x eb ex = before (cases_lt n begin) where
  outside : (n < begin) ⊎ (begin + (done + refused) ≤ n) → (first + n < first + begin) ⊎ (first + (begin + (done + refused)) ≤ first + n) → Course frames x (place_in b) (spots_new n)
  outside o p =
      subst (λ v. Course frames x (place_in b) v) (sym (d.outside n o))
      (h n b x (sym (r.other n o) ∙ eb) (sym (r.outside (first + n) p) ∙ ex))

  inside : begin ≤ n → n < begin + (done + refused) → Course frames x (place_in b) (spots_new n)
  inside lo hi =
      let at : begin + (n - begin) ≡ n = omega (arith, lo) in
      subst (λ j. slice_get row_new j ≡ Some b → slice_get new (first + j) ≡ Some x → Course frames x (place_in b) (spots_new j)) at
      (run_comes_out frames first begin done refused old new row row_new spots spots_new r d h (n - begin) b x (omega (arith, lo, hi))) eb ex

  behind : begin ≤ n → (n < begin + (done + refused)) ⊎ (begin + (done + refused) ≤ n) → Course frames x (place_in b) (spots_new n)
  behind lo (inl hi) = inside lo hi
  behind lo (inr l) = outside (inr l) (inr (omega (arith, l)))

  before : (n < begin) ⊎ (begin ≤ n) → Course frames x (place_in b) (spots_new n)
  before (inl l) = outside (inl l) (inl (omega (arith, l)))
  before (inr l) = behind l (cases_lt n (begin + (done + refused)))

-- ---- a guest writes ----

one : {X : Type 0} (xs : List X) (i : ℕ) (x y : X) → slice_get xs i ≡ Some x → slice_get xs i ≡ Some y → x ≡ y
one xs i x y p q = cc

row_written : (frames : ℕ → List ℕ) (first : ℕ) (pages : List WindowPage) (row : List ℕ) (spots : ℕ → Spot) (m c : ℕ) (y : WindowPage) (bytes : List ℕ) →
    slice_get row m ≡ Some c → slice_get pages (first + m) ≡ Some y → is_held (belief_of y) ≡ false → is_at_place (place_in c) ≡ true →
    ((n b : ℕ) (x : WindowPage) → slice_get row n ≡ Some b → slice_get pages (first + n) ≡ Some x → Course frames x (place_in b) (spots n)) →
    (n b : ℕ) (x : WindowPage) → slice_get row n ≡ Some b → slice_get pages (first + n) ≡ Some x →
    Course frames x (place_in b) (spots_with m (record (spots m) { content = bytes; here = Some bytes }) spots n)
row_written frames first pages row spots m c y bytes ec ey free at h n b x eb ex = pick (nat_eq m n) refl where
  pick : (is : Bool) → nat_eq m n ≡ is → Course frames x (place_in b) (spots_with m (record (spots m) { content = bytes; here = Some bytes }) spots n)
  pick false e = subst (λ v. Course frames x (place_in b) v) (sym (ap (λ t. if t then record (spots m) { content = bytes; here = Some bytes } else spots n) e)) (h n b x eb ex)
  pick true e =
      let is : m ≡ n = eqb-true m n e in
      let is_byte : c ≡ b = one row n c b (ap (λ j. slice_get row j) (sym is) ∙ ec) eb in
      let is_page : y ≡ x = one pages (first + n) y x (ap (λ j. slice_get pages (first + j)) (sym is) ∙ ey) ex in
      subst (λ v. Course frames x (place_in b) v) (sym (ap (λ t. if t then record (spots m) { content = bytes; here = Some bytes } else spots n) e))
      (subst (λ v. Course frames v (place_in b) (record (spots m) { content = bytes; here = Some bytes })) is_page
      (subst (λ v. Course frames y (place_in v) (record (spots m) { content = bytes; here = Some bytes })) is_byte (one_writes y (place_in c) (spots m) bytes (h m c y ec ey) free at)))

-- ---- a page is taken up again ----

row_resumed : (frames : ℕ → List ℕ) (first before : ℕ) (old new : List WindowPage) (row : List ℕ) (spots : ℕ → Spot) (m c : ℕ) (y : WindowPage) →
    slice_get row m ≡ Some c → slice_get old (before + m) ≡ Some y → slice_get new first ≡ Some y →
    ((n b : ℕ) (x : WindowPage) → slice_get row n ≡ Some b → slice_get old (before + n) ≡ Some x → Course frames x (place_in b) (spots n)) →
    (n b : ℕ) (x : WindowPage) → slice_get (c % 4 ∷ []) n ≡ Some b → slice_get new (first + n) ≡ Some x → Course frames x (place_in b) (spots m)
row_resumed frames first before old new row spots m c y ec ey en h zero b x eb ex =
    let is_byte : c % 4 ≡ b = one (c % 4 ∷ []) 0 (c % 4) b refl eb in
    let is_page : y ≡ x = one new first y x en (subst (λ j. slice_get new j ≡ Some x) (omega arith) ex) in
    let twice : c % 4 % 4 ≡ c % 4 = omega arith in
    let is_place : place_in c ≡ place_in b = ap (λ k. place_by k) (sym twice) ∙ ap (λ k. place_in k) is_byte in
    subst (λ v. Course frames v (place_in b) (spots m)) is_page (subst (λ v. Course frames y v (spots m)) is_place (h m c y ec ey))
row_resumed frames first before old new row spots m c y ec ey en h (suc n) b x eb ex = absurd (omega (arith, in_list (c % 4 ∷ []) (suc n) b eb))

pub each_page_is_held : EachPageIsHeld
each_page_is_held frames start pages row spots (begins first lead old new parts parts_new before after takings bytes held r) n b x eb ex =
    row_begins frames first old new before after takings bytes held (r.pages refl) n b x eb ex
each_page_is_held frames start pages row spots (asks first lead table pins order old new parts parts_new its at c o) n b x eb ex =
    row_asks frames first lead table pins order old new parts parts_new its at o (each_page_is_held frames first old its at c) n b x eb ex
each_page_is_held frames start pages row spots (comes_out first lead begin done refused old new parts parts_new before after at next c d r) n b x eb ex =
    row_comes_out frames first begin done refused old new before after at next (r.pages refl) d (each_page_is_held frames first old before at c) n b x eb ex
each_page_is_held frames start pages row spots (writes first its bytes_of at m c y bytes course ec ey free place) n b x eb ex =
    row_written frames first its bytes_of at m c y bytes ec ey free place (each_page_is_held frames first its bytes_of at course) n b x eb ex
each_page_is_held frames start pages row spots (resumes first before old new its at m c y course ec ey en) n b x eb ex =
    row_resumed frames first before old new its at m c y ec ey en (each_page_is_held frames before old its at course) n b x eb ex
