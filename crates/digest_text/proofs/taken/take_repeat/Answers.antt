use Rattle.std.proofs.Common.{Some, sym, arith}
use Rattle.std.proofs.lemmas.Bool.Decides.{Decides-eqb}
use Rattle.std.proofs.lemmas.Slice.Eq.{strip_prefix_is}
use Rattle.digest_text.proofs.Steps.{row_repeated}
use Rattle.digest_text.proofs.taken.take_repeat.Goals as goal

pub returns-in-Ok-clause-taken : goal.returns-in-Ok-clause-taken
returns-in-Ok-clause-taken c =
    let apart = strip_prefix_is Decides-eqb c.args.line.now c.args.front.now (Some c.in_ok-strip_prefix.field-0) c.in_ok-strip_prefix.ensures.cases in
    row_repeated c.args.so_far.now c.follow.new.so_far c.args.front.now c.in_ok-strip_prefix.field-0.now c.args.line.now c.in_ok-found.found c.requires apart (omega (arith, c.if-line-gt-MAX_LINE_BYTES.false))
    (sym c.in_ok-found.ensures) c.in-Ok.ensures
