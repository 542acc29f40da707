use Rattle.std.proofs.Common.{◌≡◌, arith, ap, sym, ◌∙◌, take}
use Rattle.std.proofs.lemmas.List.{take_all}
use Rattle.memory_images.specs.Images.{are_whole}
use Rattle.memory_images.proofs.elf.are_whole.Goals as goal

pub returns : goal.returns
returns c =
    let segments = c.args.segments.now in
    let all : take c.loop-segment.segment-index segments ≡ segments = take_all c.loop-segment.segment-index segments (omega (arith, c.loop-segment-test.false, c.loop-segment.auto.segment-index-end)) in
    sym c.loop-segment.invariant ∙ ap (are_whole c.args.size) all
