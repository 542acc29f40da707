use Rattle.std.proofs.Common.{◌≡◌, ◌∙◌, ℕ, MatchResult, ap, subst}
use Rattle.share_domain.specs.Domains.{DomainView, LendsIn, RefusesIn}
use Rattle.share_domain.specs.Open.{first_open}
use Rattle.share_domain.proofs.domain.Domain.lend_at_open.Goals as goal

pub returns-clause-lends : goal.returns-clause-lends
returns-clause-lends g c =
    let m : c.first_open-machine.result ≡ first_open c.args.self.now.machines = c.first_open-machine.ensures.machine ∙ ap (λ (d : DomainView). first_open d.machines) c.self.view_is in
    subst (λ (m : ℕ). MatchResult c.lend_at.result
    (λ loan. LendsIn m c.args.client c.args.page.now loan c.args.self.now c.lend_at.new.self)
    (λ fault. RefusesIn m c.args.client fault c.args.self.now × (c.lend_at.new.self ≡ c.args.self.now))) m c.lend_at.ensures.lends
