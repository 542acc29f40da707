use Rattle.std.proofs.Common.{get_or, sym, ap, ◌∙◌}
use Rattle.std.proofs.lemmas.List.{get_or_default}
use Rattle.std.specs.Cmp.{nat_cmp_total}
use Rattle.std.specs.FinMap.{get, get-from_entries}
use Rattle.share_table.specs.declared.entries.WideCount.{WideCount}
use Rattle.share_table.proofs.Pairs.{is_got}
use Rattle.share_table.proofs.Keyed.{place, searched, found_is, within}
use Rattle.share_table.proofs.wide.WideCounts.get.Goals as goal

pub unwrap-place-requires : goal.unwrap-place-requires
unwrap-place-requires c =
    let items = c.self.inside.entries.items in
    rw (c.wide_place.ensures, c.as_slice.ensures.value) (place (λ w. w.hash) (λ w. w.count) items c.args.hash (is_got _ _ c.args.hash c.self.view_is c.requires))

pub returns : goal.returns
returns c =
    let items = c.self.inside.entries.items in
    let hash = c.args.hash in
    let i = c.unwrap-place.result in
    let at = searched (λ w. w.hash) (λ w. w.count) items _ hash _ _ c.as_slice.ensures.value c.wide_place.ensures c.unwrap-place.ensures in
    let none : WideCount = record { hash = 0; count = 0 } in
    let e = get_or items i none in
    let read = get_or_default items i none e (within (λ w. w.hash) (λ w. w.count) items hash i at) in
    rw c.deref.ensures.0 (sym (ap (λ m. get m hash) c.self.view_is) ∙ get-from_entries nat_cmp_total _ hash ∙ found_is (λ w. w.hash) (λ w. w.count) items hash i at e read c.self.invariant)
