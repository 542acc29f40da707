use Rattle.std.proofs.Common.{◌≡◌, ◌+◌, ◌-◌, true, nat_lt, List, ℕ, Some, length, take, drop, ap, sym, ◌∙◌, arith}
use Rattle.std.specs.List.{position_or_len, after_first}
use Rattle.std.proofs.lemmas.Bool.{lt-ltb, eq-eqb, ne_eqb}
use Rattle.std.proofs.lemmas.List.{take_all, length-drop}
use Rattle.text_words.specs.Words.{is_space}
use Rattle.text_words.proofs.Cuts.{space_at, space_behind}
use Rattle.text_words.proofs.word.first_word.Goals as goal

pub returns-then-bytes-at-eq32-clause-word : goal.returns-then-bytes-at-eq32-clause-word
returns-then-bytes-at-eq32-clause-word c =
    let bytes = c.args.bytes.now in
    ap (λ k. take k bytes) (sym (space_at bytes c.loop-at.at c.loop-at.invariant (eq-eqb _ 32 c.if-bytes-at-eq32.true)))

pub returns-then-bytes-at-eq32-clause-rest : goal.returns-then-bytes-at-eq32-clause-rest
returns-then-bytes-at-eq32-clause-rest c =
    let bytes = c.args.bytes.now in
    let place = space_at bytes c.loop-at.at c.loop-at.invariant (eq-eqb _ 32 c.if-bytes-at-eq32.true) in
    let test : nat_lt (position_or_len is_space bytes) (length bytes) ≡ true = lt-ltb _ _ (omega arith) in
    let long = length-drop (c.loop-at.at + 1) bytes in
    let all = take_all (length bytes - (c.loop-at.at + 1)) (drop (c.loop-at.at + 1) bytes) (omega (arith, long)) in
    let behind : take (length bytes - (c.loop-at.at + 1)) (drop (c.loop-at.at + 1) bytes) ≡ after_first is_space bytes = all ∙ ap (λ k. drop (k + 1) bytes) (sym place) in
    rw test (ap (λ (xs : List ℕ). Some xs) behind)

pub loop-at-preserved : goal.loop-at-preserved
loop-at-preserved c = space_behind c.args.bytes.now c.loop-at.at c.loop-at.invariant (omega arith) (ne_eqb _ 32 c.if-bytes-at-eq32.false)
