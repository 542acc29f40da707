use Rattle.share_rings.proofs.Scans.{in_order_next, at_random_first, at_random_next}
use Rattle.share_rings.proofs.scan.Scan.next.Goals as goal

pub returns-in-Sequential-clause-rest : goal.returns-in-Sequential-clause-rest
returns-in-Sequential-clause-rest c = λ n. in_order_next c.args.self.now.order c.args.self.now.pages c.in-Sequential.at n c.in-Sequential.is

pub returns-in-Random-clause-number : goal.returns-in-Random-clause-number
returns-in-Random-clause-number c =
    at_random_first c.args.self.now.order c.args.self.now.pages c.next_word.result c.in-Random.generator c.next_word.new.self c.in-Random.is c.next_word.ensures

pub returns-in-Random-clause-rest : goal.returns-in-Random-clause-rest
returns-in-Random-clause-rest c =
    λ n. at_random_next c.args.self.now.order c.args.self.now.pages c.next_word.result n c.in-Random.generator c.next_word.new.self c.in-Random.is c.next_word.ensures
