use Rattle.std.proofs.Common.{◌≡◌, ◌-◌, ap, arith, drop, length, length-drop, min, take}
use Rattle.std.proofs.lemmas.List.{take_all, take_min}
use Rattle.page_digest.proofs.many.part_at.Goals as goal

pub returns : goal.returns
returns c =
    let pairs = c.args.pairs.now in
    let from = c.args.from in
    let rest = drop from pairs in
    let whole : take (length pairs - from) rest ≡ rest = take_all (length pairs - from) rest (omega (arith, length-drop from pairs)) in
    let least : c.min.result ≡ min c.args.size (length rest) = omega (arith, c.min.ensures, ap length whole) in
    rw (whole, least) (take_min c.args.size rest)
