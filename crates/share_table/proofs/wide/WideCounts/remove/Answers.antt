use Rattle.share_table.proofs.Pairs.{is_got}
use Rattle.share_table.proofs.Keyed.{place, searched, map_of_removed, distinct_of_removed}
use Rattle.share_table.proofs.wide.WideCounts.remove.Goals as goal

pub unwrap-place-requires : goal.unwrap-place-requires
unwrap-place-requires c =
    let items = c.self.inside.entries.items in
    rw (c.wide_place.ensures, c.as_slice.ensures.value) (place (λ w. w.hash) (λ w. w.count) items c.args.hash (is_got _ _ c.args.hash c.self.view_is c.requires))

pub invariant_of-self : goal.invariant_of-self
invariant_of-self c =
    let items = c.self.inside.entries.items in
    let at = searched (λ w. w.hash) (λ w. w.count) items _ c.args.hash _ _ c.as_slice.ensures.value c.wide_place.ensures c.unwrap-place.ensures in
    rw c.remove.ensures.items (distinct_of_removed (λ w. w.hash) (λ w. w.count) items c.args.hash c.unwrap-place.result at c.remove.result c.remove.ensures.value c.self.invariant)

pub returns : goal.returns
returns c =
    let items = c.self.inside.entries.items in
    let at = searched (λ w. w.hash) (λ w. w.count) items _ c.args.hash _ _ c.as_slice.ensures.value c.wide_place.ensures c.unwrap-place.ensures in
    rw (c.remove.ensures.items, ← c.self.view_is) (map_of_removed (λ w. w.hash) (λ w. w.count) items c.args.hash c.unwrap-place.result at c.remove.result c.remove.ensures.value c.self.invariant)
