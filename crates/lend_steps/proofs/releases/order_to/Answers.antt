use Rattle.std.proofs.Common.{rules, ◌≡◌, true, false}
use Rattle.lend_steps.specs.Releases.{at_once, is_hold, refused_first}
use Rattle.lend_steps.proofs.releases.order_to.Goals as goal

pub returns-then-not-holds : goal.returns-then-not-holds
returns-then-not-holds c =
    let e : is_hold c.next-order.result ≡ false = search rules in
    at_once e c.next-order.ensures

pub returns : goal.returns
returns c =
    let e : is_hold c.next-order.result ≡ true = search rules in
    refused_first c.next-order.result c.next-order.new.page c.tell.new.page c.next-order.new.part c.tell.new.part e c.next-order.ensures c.tell.ensures.told c.next.ensures
