use Rattle.std.proofs.Common.{◌≡◌, true, Some, None, ap, sym, ◌∙◌}
use Rattle.std.specs.Prelude.{slice_get}
use Rattle.share_domain.specs.declared.client.Presence.TheVariants.{Out, Leaving}
use Rattle.share_domain.specs.Domains.{DomainView, with_client}
use Rattle.share_domain.specs.Leaving.{first_slot, is_here}
use Rattle.share_domain.proofs.Leaves.{leaves_out, leaves_some}
use Rattle.share_domain.proofs.domain.Domain.leave.Goals as goal

pub returns-in-None : goal.returns-in-None
returns-in-None g c =
    let here : is_here (slice_get c.args.self.now.clients c.args.client) ≡ true = sym c.is_present.ensures ∙ c.if-not-is_present.false in
    let none : first_slot c.args.client c.args.self.now.machines ≡ None = sym c.first_slot.ensures.slot ∙ c.in-None.is in
    leaves_out c.args.client c.args.freed.now c.args.self.now c.note.new.self here none (c.note.ensures ∙ ap (λ (d : DomainView). with_client d c.args.client Out) c.first_slot.ensures.same)

pub returns-in-Some : goal.returns-in-Some
returns-in-Some g c =
    let here : is_here (slice_get c.args.self.now.clients c.args.client) ≡ true = sym c.is_present.ensures ∙ c.if-not-is_present.false in
    let some : first_slot c.args.client c.args.self.now.machines ≡ Some c.in-Some.first = sym c.first_slot.ensures.slot ∙ c.in-Some.is in
    leaves_some c.args.client c.release_from.result c.args.freed.now c.release_from.new.freed c.args.self.now c.note-in-Some.new.self c.release_from.new.self c.in-Some.first here
    some c.requires.room (c.note-in-Some.ensures ∙ ap (λ (d : DomainView). with_client d c.args.client Leaving) c.first_slot.ensures.same)
    c.release_from.ensures.count c.release_from.ensures.written c.release_from.ensures.now
