use Rattle.std.proofs.Common.{◌≡◌, ◌<◌, ◌++◌, [], length, take, arith, length-append}
use Rattle.std.specs.Io.KnownBytes.{Consumes}
use Rattle.std.proofs.KnownBytes.{Consumes-trans, Consumes-kept}
use Rattle.page_model.specs.declared.limits.TheConstants.{MAX_TEXT_BYTES}
use Rattle.journal_replay.proofs.Known.{read_end, read_more}
use Rattle.journal_replay.proofs.ends.read_all.Goals as goal

pub returns-in-Ok-eq0-clause-ok : goal.returns-in-Ok-eq0-clause-ok
returns-in-Ok-eq0-clause-ok g c =
    let zero : c.in-Ok-eq0.field-0 ≡ 0 = c.in-Ok-eq0.field-0-test in
    let read = c.in-Ok-eq0.ensures.bytes in
    let last = rw zero at read.0 in
    let some : 0 < length c.read.new.buf = omega (arith, c.loop-piece.invariant.room, c.deref_mut.ensures.len, c.deref_mut.ensures.value, c.read.auto.buf) in
    read_end _ _ _ c.loop-piece.text.items [] c.loop-piece.invariant.got last (read.1 zero some)

pub returns-then-n-len-clause-err : goal.returns-then-n-len-clause-err
returns-then-n-len-clause-err g c =
    let remaining = g.R.Source.remaining in
    let text = c.loop-piece.text.items in
    let got = take c.in-Ok.n c.read.new.buf in
    let all : Consumes (remaining c.args.reader.now) (remaining c.read.new.self) (text ++ got) = Consumes-trans _ _ _ text got c.loop-piece.invariant.got c.in-Ok.ensures.bytes.0 in
    let above : MAX_TEXT_BYTES < length (text ++ got) = omega (arith, length-append text got, c.in-Ok.ensures.bound, c.loop-piece.text.ok.0, c.len.ensures) in
    read_more (remaining c.args.reader.now) (remaining c.read.new.self) MAX_TEXT_BYTES (text ++ got) all above

pub returns-in-Err-clause-read : goal.returns-in-Err-clause-read
returns-in-Err-clause-read g c same =
    (c.loop-piece.text.items, Consumes-kept _ _ _ c.loop-piece.text.items c.loop-piece.invariant.got c.in-Err.ensures.bytes, omega (arith, c.loop-piece.invariant.short, c.loop-piece.text.ok.0))
