use Rattle.std.proofs.Common.{◌≡◌, ℕ, List, [], ◌++◌, length, get_or, take, drop, map, ap, ◌∙◌, refl, arith, lit<}
use Rattle.std.proofs.Math.ListN.{set}
use Rattle.std.specs.List.{refill}
use Rattle.std.proofs.lemmas.List.{length-set, drop_all, append-nil, take_all, length-map, get_or_default}
use Rattle.share_table.specs.declared.entries.WideCount.{WideCount}
use Rattle.share_table.specs.Stored.{wide_pair}
use Rattle.share_table.proofs.Pairs.{len_pushed}
use Rattle.share_table.proofs.Keyed.{searched, absent, within, map_of_set, distinct_of_set, map_of_pushed, distinct_of_pushed}
use Rattle.share_table.proofs.wide.WideCounts.put.Goals as goal

-- a write of one place through a slice of the whole
refilled : (xs slice : List WideCount) (i : ℕ) (new : WideCount) → slice ≡ xs → refill (length xs) xs (set slice i new) ≡ set xs i new
refilled xs slice i new same =
    let w : List WideCount = set xs i new in
    let l : length w ≡ length xs = length-set xs i new in
    let d : drop (length w) xs ≡ [] = drop_all (length w) xs (omega (arith, l)) in
    ap (λ (s : List WideCount). refill (length xs) xs (set s i new)) same
    ∙ ap (λ z. take (length xs) (w ++ z)) d
    ∙ ap (take (length xs)) (append-nil w)
    ∙ take_all (length xs) w (omega (arith, l))

pub invariant_of-self : goal.invariant_of-self
invariant_of-self c =
    let items = c.self.inside.entries.items in
    let new : WideCount = record { hash = c.args.hash; count = c.args.count } in
    let at = searched (λ w. w.hash) (λ w. w.count) items _ c.args.hash _ _ c.as_slice.ensures.value c.wide_place.ensures c.in-Some.is in
    let e = get_or items c.in-Some.place new in
    let read = get_or_default items c.in-Some.place new e (within (λ w. w.hash) (λ w. w.count) items c.args.hash c.in-Some.place at) in
    rw (refilled items _ c.in-Some.place new c.deref_mut.ensures.value) (distinct_of_set (λ w. w.hash) (λ w. w.count) items c.args.hash c.in-Some.place at e read c.self.invariant new refl)

pub push-requires : goal.push-requires
push-requires c =
    let items = c.self.inside.entries.items in
    let none = absent (λ w. w.hash) (λ w. w.count) items c.args.hash (searched (λ w. w.hash) (λ w. w.count) items _ c.args.hash _ _ c.as_slice.ensures.value c.wide_place.ensures c.in-None.is) in
    let more = len_pushed (map wide_pair items) _ c.args.hash c.args.count c.self.view_is c.self.invariant none in
    (lit< tt, omega (arith, more, length-map items wide_pair, c.requires))

pub invariant_of-self-in-None : goal.invariant_of-self-in-None
invariant_of-self-in-None c =
    let items = c.self.inside.entries.items in
    let new : WideCount = record { hash = c.args.hash; count = c.args.count } in
    let none = absent (λ w. w.hash) (λ w. w.count) items c.args.hash (searched (λ w. w.hash) (λ w. w.count) items _ c.args.hash _ _ c.as_slice.ensures.value c.wide_place.ensures c.in-None.is) in
    rw c.push.ensures.items (distinct_of_pushed (λ w. w.hash) (λ w. w.count) items new none c.self.invariant)

pub returns-in-Some : goal.returns-in-Some
returns-in-Some c =
    let items = c.self.inside.entries.items in
    let new : WideCount = record { hash = c.args.hash; count = c.args.count } in
    let at = searched (λ w. w.hash) (λ w. w.count) items _ c.args.hash _ _ c.as_slice.ensures.value c.wide_place.ensures c.in-Some.is in
    let e = get_or items c.in-Some.place new in
    let read = get_or_default items c.in-Some.place new e (within (λ w. w.hash) (λ w. w.count) items c.args.hash c.in-Some.place at) in
    rw (refilled items _ c.in-Some.place new c.deref_mut.ensures.value, ← c.self.view_is) (map_of_set (λ w. w.hash) (λ w. w.count) items c.args.hash c.in-Some.place at e read c.self.invariant new refl)

pub returns-in-None : goal.returns-in-None
returns-in-None c =
    let items = c.self.inside.entries.items in
    let new : WideCount = record { hash = c.args.hash; count = c.args.count } in
    let none = absent (λ w. w.hash) (λ w. w.count) items c.args.hash (searched (λ w. w.hash) (λ w. w.count) items _ c.args.hash _ _ c.as_slice.ensures.value c.wide_place.ensures c.in-None.is) in
    rw (c.push.ensures.items, ← c.self.view_is) (map_of_pushed (λ w. w.hash) (λ w. w.count) items new none)
