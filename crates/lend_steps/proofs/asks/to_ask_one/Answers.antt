use Rattle.std.proofs.Common.{rules, ◌≡◌, true, false, refl}
use Rattle.lend_steps.specs.Asks.{is_crowded}
use Rattle.page_lender.specs.Calls.{is_free}
use Rattle.window_pages.specs.Bytes.{known_of}
use Rattle.window_pages.specs.Known.{lender_of}
use Rattle.lend_steps.proofs.asks.to_ask_one.Goals as goal

pub returns-then-not-has_room : goal.returns-then-not-has_room
returns-then-not-has_room c =
    let e : is_free (lender_of c.args.facts.now (known_of c.args.page.now)) ≡ true = search rules in
    let f : c.args.has_room ≡ false = search rules in
    is_crowded e f refl c.ask_last.ensures
