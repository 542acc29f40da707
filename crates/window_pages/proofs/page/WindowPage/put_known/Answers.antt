use Rattle.window_pages.proofs.Stored.{known_again}
use Rattle.window_pages.proofs.page.WindowPage.put_known.Goals as goal

pub returns-clause-known : goal.returns-clause-known
returns-clause-known c = rw (c.slot_or.ensures, c.frame_or.ensures, c.belief_byte.ensures, c.looks_byte.ensures) (known_again c.args.known.now c.args.self.now.slot c.args.self.now.frame c.args.self.now.clue c.args.self.now.looks)
