use Rattle.std.proofs.Common.{◌≡◌, ◌-◌, arith, drop, length, length-drop}
use Rattle.std.proofs.lemmas.List.{length-take}
use Rattle.digest_text.proofs.Windows.{filled, same_window, unfilled}
use Rattle.digest_text.proofs.buffered.Lines.fill.Goals as goal

pub returns-in_err-count-clause-keeps : goal.returns-in_err-count-clause-keeps
returns-in_err-count-clause-keeps g c =
    let lines = c.args.self.now in
    let long : length lines.buffer.items ≡ lines.buffer.len = omega (arith, lines.buffer.ok.0) in
    unfilled (g.R.Read.remaining lines.source) (g.R.Read.remaining c.read.new.self) lines.buffer.len lines.from lines.end lines.buffer.items c.deref_mut.result.now c.read.new.buf
    c.deref_mut.ensures.value long lines.within.0 lines.within.1 (omega (arith, c.read.auto.buf, length-take (length c.deref_mut.result.now - lines.end) (drop lines.end c.deref_mut.result.now), length-drop lines.end c.deref_mut.result.now)) c.in_err-count.ensures.bytes

pub returns-clause-keeps : goal.returns-clause-keeps
returns-clause-keeps g c =
    let lines = c.args.self.now in
    let long : length lines.buffer.items ≡ lines.buffer.len = omega (arith, lines.buffer.ok.0) in
    filled (g.R.Read.remaining lines.source) (g.R.Read.remaining c.read.new.self) lines.buffer.len lines.from lines.end c.in_ok-count.count lines.buffer.items c.deref_mut.result.now c.read.new.buf
    c.deref_mut.ensures.value long lines.within.0 lines.within.1 (omega (arith, c.read.auto.buf, length-take (length c.deref_mut.result.now - lines.end) (drop lines.end c.deref_mut.result.now), length-drop lines.end c.deref_mut.result.now)) (omega (arith, c.in_ok-count.ensures.bound))
    c.in_ok-count.ensures.bytes.0

pub returns-clause-none : goal.returns-clause-none
returns-clause-none g c =
    let lines = c.args.self.now in
    let long : length lines.buffer.items ≡ lines.buffer.len = omega (arith, lines.buffer.ok.0) in
    λ none. same_window lines.buffer.len lines.from lines.end c.in_ok-count.count lines.buffer.items c.deref_mut.result.now c.read.new.buf
    c.deref_mut.ensures.value long lines.within.0 lines.within.1 (omega (arith, c.read.auto.buf, length-take (length c.deref_mut.result.now - lines.end) (drop lines.end c.deref_mut.result.now), length-drop lines.end c.deref_mut.result.now)) none
