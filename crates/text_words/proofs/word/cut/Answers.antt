use Rattle.std.proofs.Common.{◌≡◌, ◌+◌, ◌-◌, ◌<◌, length, take, drop, ap, sym, ◌∙◌, arith, ◌==◌}
use Rattle.std.specs.List.{position_or_len}
use Rattle.std.proofs.lemmas.Bool.{false_from_ne_true}
use Rattle.std.proofs.lemmas.List.Sums.{position_or_len_is}
use Rattle.std.proofs.lemmas.List.{take_all, length-drop}
use Rattle.text_words.proofs.word.cut.Goals as goal

pub returns-in-Some-clause-parts : goal.returns-in-Some-clause-parts
returns-in-Some-clause-parts c =
    let first = c.in-Some.ensures.0 in
    let found : c.in-Some.at < length c.args.bytes.now = omega (arith, first.high) in
    let place : position_or_len (λ b. b == c.args.byte) c.args.bytes.now ≡ c.in-Some.at =
    position_or_len_is _ c.args.bytes.now c.in-Some.at 0 (omega arith) (λ k h. false_from_ne_true _ (first.before k (omega arith) h)) (λ _. c.in-Some.ensures.1) in (
      omega arith,
      ap (λ i. take i c.args.bytes.now) (sym place),
      (let long : length (drop (c.in-Some.at + 1) c.args.bytes.now) ≡ length c.args.bytes.now - (c.in-Some.at + 1) = length-drop _ _ in
          ap (λ n. take n (drop (c.in-Some.at + 1) c.args.bytes.now)) (sym long) ∙ take_all _ _ (omega arith) ∙ ap (λ i. drop (i + 1) c.args.bytes.now) (sym place)),
    )

pub returns-in-None-clause-parts : goal.returns-in-None-clause-parts
returns-in-None-clause-parts c = position_or_len_is _ c.args.bytes.now (length c.args.bytes.now) 0 (omega arith) (λ k h. false_from_ne_true _ (c.in-None.ensures k (omega arith) h)) (λ h. absurd (omega arith))
