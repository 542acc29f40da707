use Rattle.std.proofs.Common.{◌≡◌, length, Some, sym, ap, ◌∙◌}
use Rattle.std.specs.Option.{option_map}
use Rattle.packed_entries.specs.Linked.{entry_at}
use Rattle.packed_entries.specs.Entries.{filed, home}
use Rattle.packed_entries.proofs.Filed.{searched}
use Rattle.packed_entries.proofs.chains.Chains.find.Goals as goal

pub returns-in_err-found : goal.returns-in_err-found
returns-in_err-found g c =
    let at : c.bucket.result ≡ home (length (filed c.self.inside.places).chains) c.args.key = rw (← c.self.view_is) at c.bucket.ensures.value in
    let s = searched c.self.inside.places c.bucket.result c.args.key (option_map (λ f. f.place) c.find.result) c.find.ensures.found in
    rw (← c.self.view_is, ← at, c.from_residual.ensures) (sym (s ∙ ap (option_map (entry_at c.self.inside.places)) (ap (option_map (λ f. f.place)) c.in_err-found.was)))

pub returns : goal.returns
returns g c =
    let at : c.bucket.result ≡ home (length (filed c.self.inside.places).chains) c.args.key = rw (← c.self.view_is) at c.bucket.ensures.value in
    let s = searched c.self.inside.places c.bucket.result c.args.key (option_map (λ f. f.place) c.find.result) c.find.ensures.found in
    rw (← c.self.view_is, ← at) (sym (s ∙ ap (option_map (entry_at c.self.inside.places)) (ap (option_map (λ f. f.place)) c.in_ok-found.was) ∙ ap Some (sym c.entry.ensures)))
