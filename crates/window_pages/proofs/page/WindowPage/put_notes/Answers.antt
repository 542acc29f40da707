use Rattle.std.proofs.Common.{◌%◌}
use Rattle.window_pages.proofs.Stored.{known_kept}
use Rattle.window_pages.proofs.page.WindowPage.put_notes.Goals as goal

pub returns-clause-known : goal.returns-clause-known
returns-clause-known c = rw (c.first_if.ensures, c.first_if-2.ensures, c.has_slot-has.ensures, c.believed.ensures, c.notes_byte.ensures) (known_kept c.args.self.now c.low_half.result c.high_half.result c.clue_word.result (c.args.notes.now.looks % 4) (c.args.notes.now.asks % 4))
