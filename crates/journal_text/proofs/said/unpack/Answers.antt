use Rattle.std.proofs.Common.{◌≡◌, ◌*◌, length, ◌∙◌, arith, Ok}
use Rattle.hex.specs.Hex.{decode_sized}
use Rattle.hex.proofs.HexLemmas.{decode_sized-twice}
use Rattle.text_words.specs.Words.{spelled}
use Rattle.text_words.proofs.Bytes.{spelled_is}
use Rattle.journal_text.proofs.said.unpack.Goals as goal

pub returns : goal.returns
returns c =
    let word = c.args.word.now in
    let facts = spelled_is word c.requires.word in
    let twice : length word ≡ 2 * length c.args.bytes.now = omega (arith, c.requires.room, facts.1) in
    let sized : decode_sized word (length c.args.bytes.now) ≡ Ok (spelled word) = decode_sized-twice word _ twice ∙ facts.0 in
    (rw sized at c.decode_to_slice.ensures.value).1
