use Rattle.std.proofs.Common.{◌≡◌, ◌+◌, ◌*◌, ◌%◌, ◌==◌, ◌&&◌, nat_lt, length, slice_index, Ok, sym, ap, ◌∙◌, arith}
use Rattle.std.specs.List.{list_all}
use Rattle.std.proofs.lemmas.Bool.{and_parts, eqb-true}
use Rattle.std.proofs.lemmas.List.{length-set}
use Rattle.hex.specs.Hex.{decode_of}
use Rattle.hex.proofs.HexLemmas.{decode_of-even}
use Rattle.hex.proofs.Pairs.{decode_done, decode_step}
use Rattle.text_words.specs.Words.{is_lower_digit, or_none}
use Rattle.digest_text.proofs.Digits.{pair_is}
use Rattle.digest_text.proofs.fields.unpack.Goals as goal

pub loop-at-preserved : goal.loop-at-preserved
loop-at-preserved c =
    let word = c.args.word.now in
    let at = c.loop-at.at in
    record {
      long = omega (arith, length-set c.loop-at.bytes at (16 * c.value.result + c.value-in-loop-at.result), c.loop-at.invariant.long);
      decoded = decode_step word c.loop-at.bytes at (16 * c.value.result + c.value-in-loop-at.result) (omega (arith, c.requires.long)) (omega (arith, c.loop-at.invariant.long))
          (pair_is (slice_index word (2 * at)) (slice_index word (2 * at + 1)) (2 * at) c.value.result c.value-in-loop-at.result c.value.ensures.value c.value-in-loop-at.ensures.value) c.loop-at.invariant.decoded;
    }

pub returns : goal.returns
returns c =
    let word = c.args.word.now in
    let parts = and_parts (nat_lt 0 (length word) && (length word % 2 == 0)) (list_all is_lower_digit word) c.requires.word in
    let even : length word % 2 ≡ 0 = eqb-true (length word % 2) 0 (and_parts (nat_lt 0 (length word)) (length word % 2 == 0) parts.0).1 in
    let done : decode_of word ≡ Ok c.loop-at.bytes = decode_of-even word even ∙ decode_done word c.loop-at.bytes c.loop-at.at (omega (arith, c.loop-at.invariant.long)) (omega (arith, c.requires.long)) c.loop-at.invariant.decoded in
    sym (ap or_none done)
