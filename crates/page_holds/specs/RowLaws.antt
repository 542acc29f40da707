-- What a row does to the bytes of its pages, and that it ends.
use Rattle.std.specs.Prelude.{◌≡◌, ℕ, zero, suc, ◌+◌, ◌%◌, ◌<◌, ◌≤◌, true, false, nat_eq, nat_lt, if◌then◌else◌, List, [], ◌∷◌, length, Some, slice_get, ◌⊎◌}
use Rattle.page_holds.specs.Laws.{Course, left_by}
use Rattle.page_holds.specs.Memory.{Did, Spot, begun, is_at_place, is_held}
use Rattle.page_lender.specs.Decisions.{waiting}
use Rattle.window_pages.specs.Bytes.{belief_of, known_of}
use Rattle.window_pages.specs.declared.counts.PartCounts.{PartCounts}
use Rattle.window_pages.specs.declared.page.WindowPage.{WindowPage}
use Rattle.window_tables.specs.declared.facts.TableFacts.{TableFacts}
use Rattle.page_holds.specs.Bytes.{place_in, step_by}
use Rattle.page_holds.specs.Orders.{OrdersNext, rank, step_at}
use Rattle.page_holds.specs.Rows.{RowBegins, RowCameOut, taking_at}
use Rattle.page_holds.specs.declared.rows.run.RowOrder.{RowOrder}

-- where the bytes of the page at one place of a row are then, and those of the others as before
abbrev pub spots_with : ℕ → Spot → (ℕ → Spot) → ℕ → Spot
spots_with n spot spots m = if nat_eq n m then spot else spots m

-- The system did what an order says with the first of its pages, and nothing with others.
pub record DidAll (frames : ℕ → List ℕ) (first begin done refused : ℕ) (pages : List WindowPage) (row : List ℕ) (spots spots_new : ℕ → Spot) : Type 0 where
  pub inside : (n b : ℕ) (x : WindowPage) → n < done + refused → slice_get row (begin + n) ≡ Some b → slice_get pages (first + (begin + n)) ≡ Some x
      → Did frames (belief_of x) (place_in b) (step_by (belief_of x) b) (nat_lt n done) (spots (begin + n)) (spots_new (begin + n))
  pub outside : (i : ℕ) → (i < begin) ⊎ (begin + (done + refused) ≤ i) → spots_new i ≡ spots i

-- The pages of a row and their bytes, and where the bytes of each page are, by the contracts of `begin`, `next` and `done`. No write to a page waited.
-- Then orders are asked for and come out as they may, whichever they are, and guests write where that needn't wait. A page of a row may be taken up
-- again, as a row of one page, by the contract of `again`: it is as it was, whatever other pages of its table are.
pub data RowCourse (frames : ℕ → List ℕ) : ℕ → List WindowPage → List ℕ → (ℕ → Spot) → Type 0 where
  begins : (first lead : ℕ) (old new : List WindowPage) (parts parts_new : List PartCounts) (row row_new takings : List ℕ) (bytes : ℕ → List ℕ)
      → ((n : ℕ) (x : WindowPage) → n < length row → slice_get old (first + n) ≡ Some x → waiting (belief_of x) ≡ false)
      → RowBegins lead first takings true old new parts parts_new row row_new → RowCourse frames first new row_new (λ n. begun (taking_at takings n) (bytes n))
  asks : (first lead : ℕ) (table : TableFacts) (pins : List ℕ) (order : RowOrder) (old new : List WindowPage) (parts parts_new : List PartCounts) (row : List ℕ) (spots : ℕ → Spot)
      → RowCourse frames first old row spots → OrdersNext table pins lead first row order old new parts parts_new → RowCourse frames first new row spots
  comes_out : (first lead begin done refused : ℕ) (old new : List WindowPage) (parts parts_new : List PartCounts) (row row_new : List ℕ) (spots spots_new : ℕ → Spot)
      → RowCourse frames first old row spots → DidAll frames first begin done refused old row spots spots_new
      → RowCameOut lead first begin done refused true old new parts parts_new row row_new → RowCourse frames first new row_new spots_new
  writes : (first : ℕ) (pages : List WindowPage) (row : List ℕ) (spots : ℕ → Spot) (n b : ℕ) (x : WindowPage) (bytes : List ℕ) → RowCourse frames first pages row spots
      → slice_get row n ≡ Some b → slice_get pages (first + n) ≡ Some x → is_held (belief_of x) ≡ false → is_at_place (place_in b) ≡ true
      → RowCourse frames first pages row (spots_with n (record (spots n) { content = bytes; here = Some bytes }) spots)
  resumes : (first before : ℕ) (old new : List WindowPage) (row : List ℕ) (spots : ℕ → Spot) (n b : ℕ) (x : WindowPage) → RowCourse frames before old row spots
      → slice_get row n ≡ Some b → slice_get old (before + n) ≡ Some x → slice_get new first ≡ Some x → RowCourse frames first new (b % 4 ∷ []) (λ m. spots n)

-- each page of a row is in a hold of its own
abbrev pub EachPageIsHeld : Type 0
EachPageIsHeld =
    (frames : ℕ → List ℕ) (first : ℕ) (pages : List WindowPage) (row : List ℕ) (spots : ℕ → Spot) → RowCourse frames first pages row spots → (n b : ℕ) (x : WindowPage) →
    slice_get row n ≡ Some b → slice_get pages (first + n) ≡ Some x → Course frames x (place_in b) (spots n)

-- how many steps the first pages of a row have left at most
abbrev pub steps_left : ℕ → List WindowPage → List ℕ → ℕ → ℕ
steps_left first pages row zero = 0
steps_left first pages row (suc n) = steps_left first pages row n + left_by (step_at first pages row n)

-- what came of at least one page of an order leaves fewer steps, where orders of pages to which writes may wait are open
abbrev pub EachOrderLeavesLess : Type 0
EachOrderLeavesLess =
    (lead first begin done refused : ℕ) (old new : List WindowPage) (parts parts_new : List PartCounts) (row row_new : List ℕ) →
    RowCameOut lead first begin done refused true old new parts parts_new row row_new → 0 < done + refused →
    ((n : ℕ) → n < done + refused → rank (step_at first old row (begin + n)) < 6) →
    ((n : ℕ) (x : WindowPage) → n < done + refused → slice_get old (first + (begin + n)) ≡ Some x → waiting (belief_of x) ≡ true → (known_of x).ordered ≡ true) →
    steps_left first new row_new (length row_new) < steps_left first old row (length row)
