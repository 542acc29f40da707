use Rattle.std.proofs.Common.{◌≡◌, ℕ, ◌++◌, [], ◌∷◌, List, Option, Some, None, Ok, Err, ap, sym, ◌∙◌}
use Rattle.text_words.specs.Words.{number, is_space, behind_space, with_front}
use Rattle.std.specs.List.{before_first}
use Rattle.text_words.specs.Lines.{at_line}
use Rattle.journal_text.specs.Headers.{numbers, words_in}
use Rattle.text_words.specs.Cursor.{left}
use Rattle.journal_text.proofs.Cuts.{numbers_end, numbers_step, numbers_fault}
use Rattle.journal_text.proofs.header.numbers.Goals as goal

pub returns-in-Err : goal.returns-in-Err
returns-in-Err g c =
    let bytes = c.in-Some.bytes.now in
    let at : left c.loop-rest.rest ≡ Some bytes = ap left c.in-Some.is in
    let read : number (before_first is_space bytes) ≡ Err c.in-Err.cause = ap number (sym c.first_word.ensures.word) ∙ sym c.in-Err.ensures.value in
    sym c.loop-rest.invariant ∙ ap (λ (o : Option (List ℕ)). with_front c.loop-rest.found.items (at_line c.args.n (numbers (words_in o)))) at ∙ numbers_fault c.args.n c.in-Err.cause c.loop-rest.found.items bytes read

pub loop-rest-preserved : goal.loop-rest-preserved
loop-rest-preserved g c =
    let bytes = c.in-Some.bytes.now in
    let front = c.loop-rest.found.items in
    let at : left c.loop-rest.rest ≡ Some bytes = ap left c.in-Some.is in
    let read : number (before_first is_space bytes) ≡ Ok c.in-Ok.value = ap number (sym c.first_word.ensures.word) ∙ sym c.in-Ok.ensures.value in
    let step = numbers_step c.args.n c.in-Ok.value front bytes read in
    let pushed : c.push.new.self.items ≡ front ++ c.in-Ok.value ∷ [] = c.in_ok-push-in-Ok.ensures.items in
    let rest : left c.first_word.result.1 ≡ behind_space bytes = c.first_word.ensures.rest in
    rw (pushed, rest) (sym step ∙ ap (λ (o : Option (List ℕ)). with_front front (at_line c.args.n (numbers (words_in o)))) (sym at) ∙ c.loop-rest.invariant)

pub returns : goal.returns
returns g c =
    let at : left c.loop-rest.rest ≡ None = ap left c.in_default.is in
    sym c.loop-rest.invariant ∙ ap (λ (o : Option (List ℕ)). with_front c.loop-rest.found.items (at_line c.args.n (numbers (words_in o)))) at ∙ numbers_end c.args.n c.loop-rest.found.items
