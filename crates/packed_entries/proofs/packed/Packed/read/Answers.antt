use Rattle.std.proofs.Common.{◌≡◌, ℕ, arith}
use Rattle.packed_entries.specs.Packing.{tail_word, hint_word}
use Rattle.packed_entries.proofs.Words.{bytes_are, tail_of, tail_of_hint, hint_of}
use Rattle.packed_entries.proofs.packed.Packed.read.Goals as goal

pub returns-then-bits-eq1-clause-written_back : goal.returns-then-bits-eq1-clause-written_back
returns-then-bits-eq1-clause-written_back c =
    let s : ℕ = c.word_at-second.result in
    let tail : tail_word c.of-mpn.result c.bits-count.result c.of-link.result 1 ≡ s =
    rw (c.of-mpn.ensures, c.of-link.ensures, ← c.if-bits-eq1.true, c.bits.ensures, c.bits-count.ensures, c.bits-2.ensures, c.bits-3.ensures) (tail_of s c.word_at-second.type_inv) in
    rw tail (bytes_are c.args.bytes.now c.word_at-first.result s c.told-bytes c.fits-bytes c.word_at-first.ensures c.word_at-second.ensures)

pub returns-clause-written_back : goal.returns-clause-written_back
returns-clause-written_back c =
    let f : ℕ = c.word_at-first.result in
    let s : ℕ = c.word_at-second.result in
    let head : hint_word c.bits-4.result c.bits-5.result c.of.result ≡ f =
    rw (c.of.ensures, c.bits-4.ensures, c.bits-5.ensures, c.bits-6.ensures) (hint_of f c.word_at-first.type_inv) in
    let tail : tail_word c.of-mpn.result 0 c.of-link.result 0 ≡ s =
    rw (c.of-mpn.ensures, c.of-link.ensures, c.bits.ensures, c.bits-2.ensures) (tail_of_hint s c.word_at-second.type_inv (omega (arith, c.bits-count.ensures, c.if-count-ne0.false)) (omega (arith, c.bits-3.ensures, c.if-bits-eq1.false))) in
    rw (head, tail) (bytes_are c.args.bytes.now f s c.told-bytes c.fits-bytes c.word_at-first.ensures c.word_at-second.ensures)
