use Rattle.std.proofs.Common.{List, length, ◌≤◌, ◌≡◌, ap, sym, subst, ◌∙◌, arith}
use Rattle.std.proofs.lemmas.List.{length-replicate}
use Rattle.share_domain.specs.declared.config.TheConstants.{MAX_CLIENTS}
use Rattle.host_sessions.specs.declared.session.Session.{Session}
use Rattle.host_sessions.specs.declared.session.Session.TheVariants as session
use Rattle.host_sessions.specs.Table.{Loans, no_loans}
use Rattle.host_sessions.proofs.host.Host.with_frames.Goals as goal

pub invariant_of-result : goal.invariant_of-result
invariant_of-result g c =
    let n = c.args.config.now.domain.clients in
    let few : length c.in_ok-sessions.sessions.items ≤ MAX_CLIENTS = subst (λ (xs : List Session). length xs ≤ MAX_CLIENTS) (sym c.in_ok-sessions.ensures)
    (omega (arith, length-replicate n session.Free, c.requires.limits.domain.clients.1)) in
    let each : length c.in_ok-last.last.items ≡ length c.in_ok-sessions.sessions.items = ap (λ (xs : List Loans). length xs) c.in_ok-last.ensures ∙ length-replicate n no_loans ∙ sym (length-replicate n session.Free) ∙ sym (ap (λ (xs : List Session). length xs) c.in_ok-sessions.ensures) in
    (few, each)
