-- What is found of a file among those that list a content.
use Rattle.std.proofs.Common.{◌≡◌, ◌≢◌, ℕ, suc, ◌+◌, ◌<◌, ◌≤◌, Bool, true, false, cond, eqb, List, [], ◌∷◌, ◌++◌, length, take, drop, get_or, set, refl, sym, ap, ◌∙◌, arith, inl, inr, get_or-set_other, get_or-set_same}
use Rattle.std.proofs.lemmas.Bool.{cases_lt, cases_eq, eq-eqb, ne_eqb}
use Rattle.std.proofs.lemmas.List.{get_or_append_left, get_or-drop, get_or-take, length-drop, length-take, length_push, take-append-drop, take_more}
use Rattle.std.proofs.Math.Seq.{get_or-append_seam}
use Rattle.std.specs.Prelude.{Option, Some, None}
use Rattle.fleet_census.specs.Holders.{AreRising, found, no_holder}
use Rattle.fleet_census.specs.declared.content.Holder.{Holder}

pub found_none : (file : ℕ) (holders : List Holder) → ((i : ℕ) → i < length holders → (get_or holders i no_holder).file ≢ file) → found file holders ≡ None
found_none file [] other = refl
found_none file (holder ∷ holders) other =
    rw (ne_eqb holder.file file (other 0 (omega arith))) (found_none file holders (λ i lt. other (suc i) (omega arith)))

pub found_push_other : (file : ℕ) (holders : List Holder) (holder : Holder) → holder.file ≢ file → found file (holders ++ holder ∷ []) ≡ found file holders
found_push_other file [] holder other = rw (ne_eqb holder.file file other) refl
found_push_other file (first ∷ holders) holder other =
    ap (λ (rest : Option Holder). cond (eqb first.file file) (Some first) rest) (found_push_other file holders holder other)

found_either : (first holder : Holder) (b : Bool) (before after : Option Holder) → (before ≡ None → after ≡ Some holder)
    → cond b (Some first) before ≡ None → cond b (Some first) after ≡ Some holder
found_either first holder true before after rest none = cc
found_either first holder false before after rest none = rest none

pub found_push : (file : ℕ) (holders : List Holder) (holder : Holder) → holder.file ≡ file → found file holders ≡ None → found file (holders ++ holder ∷ []) ≡ Some holder
found_push file [] holder same none = rw (eq-eqb holder.file file same) refl
found_push file (first ∷ holders) holder same none =
    found_either first holder (eqb first.file file) (found file holders) (found file (holders ++ holder ∷ [])) (λ e. found_push file holders holder same e) none

-- a file behind those that were named
pub rising_push : (holders : List Holder) (holder : Holder) → AreRising holders → ((i : ℕ) → i < length holders → (get_or holders i no_holder).file < holder.file)
    → AreRising (holders ++ holder ∷ [])
rising_push holders holder rising below = record {
  each = λ i j before within. elim (cases_lt j (length holders)) [
    | inl lt ↦ rw (get_or_append_left holders (holder ∷ []) no_holder i (omega arith), get_or_append_left holders (holder ∷ []) no_holder j lt) (rising.each i j before lt)
    | inr ge ↦
        let end : j ≡ length holders = omega (arith, length_push holders holder, within) in
        rw (get_or_append_left holders (holder ∷ []) no_holder i (omega arith), end, get_or-append_seam holders holder [] no_holder) (below i (omega arith))
  ];
}

pub rising_take : (holders : List Holder) (k : ℕ) → AreRising holders → AreRising (take k holders)
rising_take holders k rising = record {
  each = λ i j before within.
      let low : j < k = omega (arith, length-take k holders, within) in
      let all : j < length holders = omega (arith, length-take k holders, within) in
      rw (get_or-take k holders i no_holder (omega arith), get_or-take k holders j no_holder low) (rising.each i j before all);
}

-- a file isn't named before its turn
pub not_yet : (holders : List Holder) (k : ℕ) → AreRising holders → k < length holders → found (get_or holders k no_holder).file (take k holders) ≡ None
not_yet holders k rising within =
    found_none (get_or holders k no_holder).file (take k holders) (λ i lt.
    let low : i < k = omega (arith, length-take k holders, lt) in
    let less = rising.each i k low within in
    rw (get_or-take k holders i no_holder low) (omega (arith, less)))

-- Of the files before one that is named, all that is known is known of those named before it.
found_append : (file : ℕ) (first last : List Holder) → ((i : ℕ) → i < length last → (get_or last i no_holder).file ≢ file) → found file (first ++ last) ≡ found file first
found_append file [] last other = found_none file last other
found_append file (holder ∷ first) last other =
    ap (λ (rest : Option Holder). cond (eqb holder.file file) (Some holder) rest) (found_append file first last other)

pub found_before : (holders : List Holder) (k other : ℕ) → AreRising holders → k < length holders → other < (get_or holders k no_holder).file
    → found other (take k holders) ≡ found other holders
found_before holders k other rising within before =
    let later : (i : ℕ) → i < length (drop k holders) → (get_or (drop k holders) i no_holder).file ≢ other = λ i lt.
    rw (get_or-drop k holders i no_holder) (not_before i (omega (arith, lt, length-drop k holders))) in
    sym (found_append other (take k holders) (drop k holders) later) ∙ ap (found other) (take-append-drop k holders) where
      not_before : (i : ℕ) → k + i < length holders → (get_or holders (k + i) no_holder).file ≢ other
      not_before i lt = elim (cases_lt 0 i) [
        | inl some ↦ let less = rising.each k (k + i) (omega arith) lt in omega (arith, less, before)
        | inr none ↦ let e : k + i ≡ k = omega arith in rw e (omega (arith, before))
      ]

-- A list of what is counted for each file. `after` is what becomes of an entry by what is known of its file.
module _ {X : Type 0} (none : X) (after : X → Option Holder → X) (stays : (x : X) → after x None ≡ x) (before items : List X) (holders : List Holder)
    (k : ℕ) (rising : AreRising holders) (within : k < length holders)
    (so_far : (file : ℕ) → file < length before → get_or items file none ≡ after (get_or before file none) (found file (take k holders))) where
  -- one more of those that list the content is counted
  pub counted_more : (new : X) → length items ≡ length before → (get_or holders k no_holder).file < length before
      → new ≡ after (get_or items (get_or holders k no_holder).file none) (Some (get_or holders k no_holder)) → (file : ℕ) → file < length before
      → get_or (set items (get_or holders k no_holder).file new) file none ≡ after (get_or before file none) (found file (take (k + 1) holders))
  counted_more new same low is file lt =
      let holder = get_or holders k no_holder in
      let more : take (k + 1) holders ≡ take k holders ++ holder ∷ [] = take_more holders k no_holder within in
      elim (cases_eq holder.file file) [
        | inl e ↦
            let absent : found file (take k holders) ≡ None = rw e at (not_yet holders k rising within) in
            let old : get_or items file none ≡ get_or before file none = so_far file lt ∙ ap (λ (which : Option Holder). after (get_or before file none) which) absent ∙ stays (get_or before file none) in
            let here : get_or (set items holder.file new) file none ≡ new = rw e (get_or-set_same items file new none (omega arith)) in
            let with_it : new ≡ after (get_or before file none) (Some holder) = is ∙ rw (e, old) refl in
            here ∙ with_it ∙ rw (more, found_push file (take k holders) holder e absent) refl
        | inr ne ↦
            let here : get_or (set items holder.file new) file none ≡ get_or items file none = get_or-set_other items holder.file file new none (λ e. ne (sym e)) in
            here ∙ so_far file lt ∙ rw (more, found_push_other file (take k holders) holder ne) refl
      ]

  -- and one beyond the list isn't
  pub counted_past : length before ≤ (get_or holders k no_holder).file → (file : ℕ) → file < length before
      → get_or items file none ≡ after (get_or before file none) (found file (take (k + 1) holders))
  counted_past past file lt =
      let holder = get_or holders k no_holder in
      let more : take (k + 1) holders ≡ take k holders ++ holder ∷ [] = take_more holders k no_holder within in
      so_far file lt ∙ rw (more, found_push_other file (take k holders) holder (λ e. omega (arith, e, past, lt))) refl
