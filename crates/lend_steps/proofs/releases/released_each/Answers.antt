use Rattle.std.proofs.Common.{◌≡◌, [], length, refl, subst, arith}
use Rattle.std.specs.Prelude.{slice_index_or}
use Rattle.lend_steps.proofs.Turns.{Keeps, told_follows, turn_keeps}
use Rattle.lend_steps.specs.Lists.{InTurn, Told, Turn, begins, goes_on}
use Rattle.lend_steps.specs.Releases.{ReleasedAt, released_as}
use Rattle.lend_steps.proofs.releases.released_each.Goals as goal

pub loop-n-init : goal.loop-n-init
loop-n-init c = record { turns = begins; counted = λ h. h; parts = c.requires.parts }

pub loop-n-preserved : goal.loop-n-preserved
loop-n-preserved c =
    let its : Turn (ReleasedAt c.args.is_done c.loop-n.n) c.args.lead (slice_index_or c.args.numbers.now c.loop-n.n 0) 0 c.loop-n.pages c.released_at.new.pages c.loop-n.parts c.released_at.new.parts =
    subst (λ o. Turn (λ a x y p q. Told o x y p q) c.args.lead (slice_index_or c.args.numbers.now c.loop-n.n 0) 0 c.loop-n.pages c.released_at.new.pages c.loop-n.parts c.released_at.new.parts)
    c.released_as.ensures c.released_at.ensures in
    let k : Keeps c.args.lead c.loop-n.pages c.released_at.new.pages c.loop-n.parts c.released_at.new.parts =
    turn_keeps (ReleasedAt c.args.is_done c.loop-n.n) c.args.lead (slice_index_or c.args.numbers.now c.loop-n.n 0) 0 c.loop-n.pages c.released_at.new.pages c.loop-n.parts c.released_at.new.parts
    (λ x y p q d. told_follows (released_as c.args.is_done) x y p q d) its in
    record {
      turns = goes_on c.loop-n.n 0 c.loop-n.pages c.released_at.new.pages c.loop-n.parts c.released_at.new.parts [] [] c.loop-n.invariant.turns (omega arith) its refl;
      counted = λ h. k.counted (c.loop-n.invariant.counted h);
      parts = k.parted c.loop-n.invariant.parts;
    }

pub returns-clause-pages : goal.returns-clause-pages
returns-clause-pages c =
    let e : c.loop-n.n ≡ length c.args.numbers.now = omega arith in
    subst (λ n. InTurn (ReleasedAt c.args.is_done) c.args.lead c.args.numbers.now c.args.pages.now c.args.parts.now [] n c.loop-n.pages c.loop-n.parts []) e c.loop-n.invariant.turns
