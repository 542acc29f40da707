use Rattle.std.proofs.Common.{◌≡◌, length, Some, sym, ap, ◌∙◌, arith}
use Rattle.std.specs.Int.{w128, from_be_bytes}
use Rattle.std.proofs.lemmas.List.{take_all}
use Rattle.text_words.specs.Words.{spelled}
use Rattle.digest_text.proofs.Digits.{digest_is}
use Rattle.digest_text.proofs.fields.digest.Goals as goal

pub unpack-requires : goal.unpack-requires
unpack-requires c =
    let word = c.args.word.now in
    let long : length word ≡ 32 = omega arith in
    let same : c.in-Some.digits.now ≡ word = c.in-Some.ensures.cases.same ∙ take_all 32 word (omega (arith, long)) in
    rw same (record { long = long; word = sym c.is_bytes.ensures ∙ c.if-not-is_bytes.false })

pub returns : goal.returns
returns c =
    let word = c.args.word.now in
    let long : length word ≡ 32 = omega arith in
    let same : c.in-Some.digits.now ≡ word = c.in-Some.ensures.cases.same ∙ take_all 32 word (omega (arith, long)) in
    let read : c.from_be_bytes.result ≡ from_be_bytes w128 (spelled word) = c.from_be_bytes.ensures ∙ ap (from_be_bytes w128) (c.unpack.ensures ∙ ap spelled same) in
    ap Some read ∙ sym (digest_is word long (sym c.is_bytes.ensures ∙ c.if-not-is_bytes.false))
