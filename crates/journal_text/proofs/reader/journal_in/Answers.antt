use Rattle.std.proofs.Common.{refl}
use Rattle.journal_text.specs.Texts.{journal_in}
use Rattle.text_words.proofs.Fails.{fails_on}
use Rattle.journal_text.proofs.reader.journal_in.Goals as goal

pub returns-in-Err : goal.returns-in-Err
unfolding journal_in
returns-in-Err g c =
    let read = rw (c.deref.ensures.value) at c.in-Err.ensures.value in
    rw (c.in_ok-head.ensures.value) (fails_on c.in-Err.fault _ _ read)

pub returns-in-Ok : goal.returns-in-Ok
unfolding journal_in
returns-in-Ok g c =
    let read = rw (c.deref.ensures.value) at c.in-Ok.ensures.value in
    rw (c.in_ok-head.ensures.value, read) refl
