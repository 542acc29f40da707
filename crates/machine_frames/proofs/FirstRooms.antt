-- The pages in the first rooms, after a change of one of them.
use Rattle.std.proofs.Common.{◌≡◌, ℕ, ◌<◌, ◌≤◌, List, [], length, set, sym, ap, ◌∙◌, arith}
use Rattle.std.specs.Prelude.{slice_index_or}
use Rattle.std.proofs.lemmas.List.{get_or-take, length-set, length-take-le}
use Rattle.std.proofs.Math.Seq.{take-set-lt}
use Rattle.machine_frames.specs.PageLists.{PageList, page_in, with_page, first_rooms}

module _ (rooms : List (List ℕ)) (len : ℕ) (list : PageList) (is : first_rooms rooms len ≡ list) (few : len ≤ length rooms) (n : ℕ) (h : n < length list.pages) where
  pub below : n < len
  below = omega (arith, h, ap (λ (l : PageList). length l.pages) is, length-take-le len rooms few)

  pub in_room : page_in list n ≡ slice_index_or rooms n []
  in_room = ap (λ (l : PageList). page_in l n) (sym is) ∙ get_or-take len rooms n [] below

  pub rewritten : (page : List ℕ) → first_rooms (set rooms n page) len ≡ with_page list n page
  rewritten page = at_rooms ∙ ap (λ (l : PageList). with_page l n page) is where
    at_rooms : first_rooms (set rooms n page) len ≡ with_page (first_rooms rooms len) n page
    at_rooms = λ i. record { pages = take-set-lt len rooms n page below i; room = length-set rooms n page i }
