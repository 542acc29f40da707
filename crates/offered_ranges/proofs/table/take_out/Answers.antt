use Rattle.std.proofs.Common.{rules, ◌≡◌, ◌∙◌, ◌++◌, ◌&&◌, true, Some, length, take, ap, sym, arith}
use Rattle.std.specs.Prelude.{nat_le, slice_get}
use Rattle.std.specs.List.{remove}
use Rattle.std.proofs.Math.ListN.{get_or}
use Rattle.std.proofs.lemmas.Bool.{le-leb}
use Rattle.std.proofs.lemmas.List.{append_assoc}
use Rattle.offered_ranges.specs.Tables.{can_split, can_take_out, part_of, taken_out}
use Rattle.offered_ranges.proofs.Found.{no_range}
use Rattle.offered_ranges.proofs.Removed.{used_at}
use Rattle.offered_ranges.proofs.table.take_out.Goals as goal

pub returns-clause-taken : goal.returns-clause-taken
returns-clause-taken c =
    let slot : slice_get (take c.args.count.now c.args.ranges.now) c.args.place ≡ Some (get_or c.args.ranges.now c.args.place no_range) =
    used_at c.args.ranges.now c.args.count.now c.args.place (omega arith) (omega arith) in
    let within : nat_le c.args.count.now (length c.args.ranges.now) ≡ true = le-leb c.args.count.now (length c.args.ranges.now) (omega arith) in
    let may : can_split (length c.args.ranges.now) c.args.count.now c.args.begin c.args.end (get_or c.args.ranges.now c.args.place no_range) ≡ true =
    sym c.can_split.ensures ∙ search rules in
    sym (
    ap (λ o. can_take_out (length c.args.ranges.now) c.args.count.now c.args.begin c.args.end o) slot
    ∙ ap (λ b. b && can_split (length c.args.ranges.now) c.args.count.now c.args.begin c.args.end (get_or c.args.ranges.now c.args.place no_range)) within
    ∙ may)

pub returns-clause-ranges : goal.returns-clause-ranges
returns-clause-ranges c =
    let live = take c.args.count.now c.args.ranges.now in
    let r = get_or c.args.ranges.now c.args.place no_range in
    let slot : slice_get (take c.args.count.now c.args.ranges.now) c.args.place ≡ Some (get_or c.args.ranges.now c.args.place no_range) =
    used_at c.args.ranges.now c.args.count.now c.args.place (omega arith) (omega arith) in
    c.push_part-2.ensures.ranges
    ∙ ap (λ xs. xs ++ part_of r c.args.end r.end) (c.push_part.ensures.ranges ∙ ap (λ xs. xs ++ part_of r r.begin c.args.begin) c.remove.ensures.ranges)
    ∙ append_assoc (remove live c.args.place) (part_of r r.begin c.args.begin) (part_of r c.args.end r.end)
    ∙ sym (ap (λ o. taken_out c.args.place c.args.begin c.args.end o live) slot)
