use Rattle.std.proofs.Common.{◌≡◌, ◌+◌, ℕ, List, [], ◌∷◌, ◌++◌, replicate, ap, arith, sym, ◌∙◌}
use Rattle.std.proofs.lemmas.List.{map_push}
use Rattle.std.proofs.lemmas.List.FromFn.{map-range_with_len_more}
use Rattle.std.specs.declared.vec.Vec.{Vec}
use Rattle.fleet_census.specs.Pairs.{empty_rows, no_pair, rows_of}
use Rattle.fleet_census.specs.declared.pair.FleetPair.{FleetPair}
use Rattle.fleet_census.proofs.pair.new_rows.Goals as goal

pub loop-before-preserved : goal.loop-before-preserved
loop-before-preserved g c =
    let so_far = c.loop-before.invariant in
    let before = c.loop-before.before in
    let rows = c.loop-before.rows.items in
    let row = c.in_ok-row.row in
    let items : Vec FleetPair g.row.A.Denot → List FleetPair = λ r. r.items in
    let empty : ℕ → List FleetPair = λ n. replicate n no_pair in
    let is : row.items ≡ empty before = c.in_ok-row.ensures.items_if_clones_equal (λ y e. e) in
    let more : empty_rows (before + 1) ≡ empty_rows before ++ empty before ∷ [] = map-range_with_len_more empty 0 before before (omega arith) in
    record {
      rows = ap rows_of c.push_reserved.ensures.items ∙ map_push items rows row ∙ rw (so_far.rows, is) (sym more);
      len = omega (arith, so_far.len, c.push_reserved.ensures.len);
      room = omega (arith, so_far.room, c.push_reserved.ensures.capacity);
    }
