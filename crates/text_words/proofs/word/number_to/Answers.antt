use Rattle.std.proofs.Common.{◌+◌, ◌-◌, ◌*◌, ◌<◌, suc, length, drop, sym, ◌∙◌, arith, get_or}
use Rattle.text_words.proofs.Values.{too_large, value_at}
use Rattle.text_words.proofs.word.number_to.Goals as goal

pub returns-then-is_past-clause-value : goal.returns-then-is_past-clause-value
returns-then-is_past-clause-value c =
    let n = c.loop-c.n in
    let i = c.loop-c.c-index in
    let word = c.args.word.now in
    let here : i < length word = omega arith in
    sym (too_large c.args.most (10 * n + (get_or word i 0 - 48)) word (drop (suc i) word) (sym (value_at n i word here) ∙ c.loop-c.invariant.value) (omega arith))
