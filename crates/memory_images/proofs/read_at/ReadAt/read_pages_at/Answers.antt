use Rattle.std.proofs.Common.{◌≡◌, ◌+◌, ◌*◌, [], length, get_or, rules, arith}
use Rattle.std.proofs.lemmas.List.FromFn.{fill_by_all}
use Rattle.memory_images.specs.Words.{part}
use Rattle.memory_images.proofs.Cut.{one_more}
use Rattle.memory_images.proofs.read_at.ReadAt.read_pages_at.Goals as goal

pub loop-i-preserved : goal.loop-i-preserved
loop-i-preserved g c = λ steady.
    let bytes = g.Self.ReadAt.bytes c.args.self.now in
    let page : length (get_or c.loop-i.into c.loop-i.i []) ≡ 4096 = search rules in
    let at : c.args.at + c.loop-i.i * 4096 ≡ c.args.at + 4096 * c.loop-i.i = omega arith in
    one_more (λ k. part bytes (c.args.at + 4096 * k) 4096) c.loop-i.i c.loop-i.into c.read_at.new.into (omega (arith, c.loop-i-test.true, c.loop-i.auto.into))
    (rw (page, at) at (c.in_ok-read_at.ensures.read steady)) (c.loop-i.invariant steady)

pub returns : goal.returns
returns g c = record {
  read = λ steady.
      let bytes = g.Self.ReadAt.bytes c.args.self.now in
      fill_by_all (λ k. part bytes (c.args.at + 4096 * k) 4096) c.loop-i.into (length c.args.into.now) [] c.loop-i.auto.into (λ k l. c.loop-i.invariant steady k (omega (arith, l, c.loop-i-test.false)));
}
