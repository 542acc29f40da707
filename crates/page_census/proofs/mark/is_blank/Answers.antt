use Rattle.std.proofs.Common.{◌≡◌, ap, arith, eqb, take, ◌∙◌}
use Rattle.std.proofs.lemmas.List.{take_all}
use Rattle.page_census.proofs.Blank.{all_bits, no_bits}
use Rattle.page_census.proofs.mark.is_blank.Goals as goal

pub returns : goal.returns
returns c =
    let page = c.args.page.now in
    let whole : take c.loop-byte.byte-index page ≡ page = take_all c.loop-byte.byte-index page (omega (arith, c.loop-byte-test.false, c.loop-byte.auto.byte-index-end)) in
    ap (λ bits. eqb bits 0) (c.loop-byte.invariant ∙ ap all_bits whole) ∙ no_bits page c.told-page
