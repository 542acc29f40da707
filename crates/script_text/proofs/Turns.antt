-- The serial order, a guest or a turn at a time.
use Rattle.std.proofs.Common.{◌≡◌, ℕ, zero, suc, ◌+◌, ◌<◌, ◌≤◌, List, [], ◌∷◌, ◌++◌, length, drop, map, max, Option, Some, None, refl, sym, ap, ◌∙◌, arith, append_assoc, append-nil, get_or, length-append}
use Rattle.std.specs.declared.vec.Vec.{Vec}
use Rattle.std.proofs.lemmas.List.{length-map, drop_more, get_or-map}
use Rattle.std.proofs.lemmas.List.Sums.{sum_by-cons}
use Rattle.page_model.specs.declared.request.Entry.{Entry}
use Rattle.page_model.specs.declared.request.Request.{Request}
use Rattle.page_model.specs.declared.request.Request.TheVariants.{Close}
use Rattle.merge_machine.specs.Scripts.{with_close, entries_needed}
use Rattle.script_text.specs.Order.{rest_of, first_of, firsts, turns, longest, left_of, serial_order}
use Rattle.script_text.specs.Views.{lists_of}

-- after one more turn
rest_drop : (turn : ℕ) (list : List Request) → rest_of (drop turn list) ≡ drop (suc turn) list
rest_drop turn [] = by turn where
  by : (t : ℕ) → rest_of (drop t []) ≡ drop (suc t) []
  by zero = refl
  by (suc t) = refl
rest_drop zero (r ∷ rs) = refl
rest_drop (suc turn) (r ∷ rs) = rest_drop turn rs

-- what is left after a turn is what that turn leaves
pub left_next : (turn : ℕ) (scripts : List (List Request)) → map rest_of (left_of turn scripts) ≡ left_of (suc turn) scripts
left_next turn [] = refl
left_next turn (script ∷ scripts) = rw (rest_drop turn (with_close script), left_next turn scripts) refl

-- one more turn
pub turns_step : (n turn : ℕ) (scripts : List (List Request)) → turns (suc n) (left_of turn scripts) ≡ firsts 0 (left_of turn scripts) ++ turns n (left_of (suc turn) scripts)
unfolding turns
turns_step n turn scripts = ap (λ (lists : List (List Request)). firsts 0 (left_of turn scripts) ++ turns n lists) (left_next turn scripts)

pub turns_none : (lists : List (List Request)) → turns 0 lists ≡ []
unfolding turns
turns_none lists = refl

-- what waits, and what is left, when the requests of one more turn wait
pub turn_more : (waiting : List Entry) (lists : List (List Request)) (n m turn : ℕ) → n ≡ suc m
    → waiting ++ turns n (left_of turn lists) ≡ (waiting ++ firsts 0 (left_of turn lists)) ++ turns m (left_of (turn + 1) lists)
turn_more waiting lists n m turn next =
    let left : List (List Request) = left_of turn lists in
    let both : ℕ → List Entry = λ k. (waiting ++ firsts 0 left) ++ turns m (left_of k lists) in
    let same : turn + 1 ≡ suc turn = omega arith in
    ap (λ (k : ℕ). waiting ++ turns k left) next ∙ ap (λ (xs : List Entry). waiting ++ xs) (turns_step m turn lists) ∙ sym (append_assoc waiting (firsts 0 left) (turns m (left_of (suc turn) lists))) ∙ ap both (sym same)

-- behind the last turn only what waits is left
pub turn_none : (waiting : List Entry) (lists : List (List Request)) (n turn : ℕ) → n ≡ 0 → waiting ++ turns n (left_of turn lists) ≡ waiting
turn_none waiting lists n turn none =
    ap (λ (k : ℕ). waiting ++ turns k (left_of turn lists)) none ∙ ap (λ (xs : List Entry). waiting ++ xs) (turns_none (left_of turn lists)) ∙ append-nil waiting

-- before the first turn
pub left_first : (scripts : List (List Request)) → turns (longest (map with_close scripts)) (left_of 0 scripts) ≡ serial_order scripts
left_first scripts = refl

-- what a guest asks in a turn: one of its requests
pub asks_own : (script : List Request) (turn : ℕ) (d : Request) → turn < length script → first_of (drop turn (with_close script)) ≡ Some (get_or script turn d)
asks_own [] turn d h = absurd (omega arith)
asks_own (r ∷ rs) zero d h = refl
asks_own (r ∷ rs) (suc turn) d h = asks_own rs turn d (omega arith)

-- its close
pub asks_close : (script : List Request) → first_of (drop (length script) (with_close script)) ≡ Some Close
asks_close [] = refl
asks_close (r ∷ rs) = asks_close rs

-- or nothing
pub asks_none : (script : List Request) (turn : ℕ) → length script < turn → first_of (drop turn (with_close script)) ≡ None
asks_none [] zero h = absurd (omega arith)
asks_none [] (suc zero) h = refl
asks_none [] (suc (suc turn)) h = refl
asks_none (r ∷ rs) zero h = absurd (omega arith)
asks_none (r ∷ rs) (suc turn) h = asks_none rs turn (omega arith)

-- the entry of what a guest asks in a turn
abbrev pub entered : ℕ → Option Request → List Entry
entered guest None = []
entered guest (Some r) = record { guest = guest; request = r } ∷ []

firsts_by : (guest : ℕ) (list : List Request) (lists : List (List Request)) → firsts guest (list ∷ lists) ≡ entered guest (first_of list) ++ firsts (guest + 1) lists
firsts_by guest [] lists = refl
firsts_by guest (r ∷ rs) lists = refl

-- how many requests lists have
abbrev total : List (List Request) → ℕ
total [] = 0
total (list ∷ lists) = length list + total lists

firsts_total : (guest : ℕ) (lists : List (List Request)) → length (firsts guest lists) + total (map rest_of lists) ≡ total lists
firsts_total guest [] = refl
firsts_total guest ([] ∷ lists) = omega (arith, firsts_total (guest + 1) lists)
firsts_total guest ((r ∷ rs) ∷ lists) = omega (arith, firsts_total (guest + 1) lists)

turns_total : (n : ℕ) (lists : List (List Request)) → length (turns n lists) ≤ total lists
unfolding turns
turns_total zero lists = omega arith
turns_total (suc n) lists = omega (arith, length-append (firsts 0 lists) (turns n (map rest_of lists)), firsts_total 0 lists, turns_total n (map rest_of lists))

module _ {A : Type 0} where
  -- one guest more in a turn
  pub guest_step : (vs : List (Vec Request A)) (turn guest : ℕ) (d : Vec Request A) (asked : Option Request) → guest < length vs → asked ≡ first_of (drop turn (with_close (get_or vs guest d).items))
      → firsts guest (drop guest (left_of turn (lists_of vs))) ≡ entered guest asked ++ firsts (guest + 1) (drop (guest + 1) (left_of turn (lists_of vs)))
  guest_step vs turn guest d asked few is =
      let items : Vec Request A → List Request = λ v. v.items in
      let left : List Request → List Request = λ script. drop turn (with_close script) in
      let lists : List (List Request) = lists_of vs in
      let long : length lists ≡ length vs = length-map vs items in
      let all : length (left_of turn lists) ≡ length lists = length-map lists left in
      let here : get_or (left_of turn lists) guest [] ≡ left (get_or vs guest d).items =
      get_or-map left lists guest [] [] (omega arith) ∙ ap left (get_or-map items vs guest d [] few) in
      let later : List (List Request) = drop (guest + 1) (left_of turn lists) in
      ap (firsts guest) (drop_more (left_of turn lists) guest [] (omega arith)) ∙ firsts_by guest (get_or (left_of turn lists) guest []) later
      ∙ ap (λ (o : Option Request). entered guest o ++ firsts (guest + 1) later) (ap first_of here ∙ sym is)

  -- no script is longer than a longest one
  pub longest_step : (vs : List (Vec Request A)) (i most : ℕ) (d : Vec Request A) → i < length vs
      → max (max most (length (get_or vs i d).items + 1)) (longest (map with_close (lists_of (drop (i + 1) vs)))) ≡ max most (longest (map with_close (lists_of (drop i vs))))
  longest_step vs i most d few =
      let step : drop i vs ≡ get_or vs i d ∷ drop (i + 1) vs = drop_more vs i d few in
      let long = length-append (get_or vs i d).items (Close ∷ []) in
      let next : longest (map with_close (lists_of (drop i vs))) ≡ max (length (with_close (get_or vs i d).items)) (longest (map with_close (lists_of (drop (i + 1) vs)))) =
      ap (λ (xs : List (Vec Request A)). longest (map with_close (lists_of xs))) step in
      omega (arith, next, long)

  total_entries : (vs : List (Vec Request A)) → total (map with_close (lists_of vs)) ≡ entries_needed vs
  total_entries [] = refl
  total_entries (v ∷ vs) = omega (arith, sum_by-cons (λ (s : Vec Request A). length s.items + 1) v vs, length-append v.items (Close ∷ []), total_entries vs)

  -- there are no more entries than requests and closes
  pub serial_few : (vs : List (Vec Request A)) → length (serial_order (lists_of vs)) ≤ entries_needed vs
  serial_few vs = omega (arith, turns_total (longest (map with_close (lists_of vs))) (map with_close (lists_of vs)), total_entries vs)
