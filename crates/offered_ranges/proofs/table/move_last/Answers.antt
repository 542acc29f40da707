use Rattle.std.proofs.Common.{◌∙◌, ◌-◌, ◌++◌, [], ◌∷◌, Some, option_map, length, ap, sym, arith}
use Rattle.std.specs.List.{remove}
use Rattle.std.proofs.lemmas.Option.{slice_get-get_or}
use Rattle.std.proofs.lemmas.Slice.{put_mid-rotated}
use Rattle.offered_ranges.proofs.Found.{no_range}
use Rattle.offered_ranges.proofs.table.move_last.Goals as goal

pub returns : goal.returns
returns c =
    ap (λ xs. Some xs) (put_mid-rotated c.args.place (length c.args.ranges.now - c.args.place) c.args.ranges.now c.rotate_left.new.self no_range c.requires (omega arith) c.rotate_left.ensures.after)
    ∙ sym (ap (λ o. option_map (λ last. remove c.args.ranges.now c.args.place ++ last ∷ []) o) (slice_get-get_or c.args.ranges.now c.args.place no_range c.requires))
