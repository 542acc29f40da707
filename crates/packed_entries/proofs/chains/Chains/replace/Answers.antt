use Rattle.std.proofs.Common.{◌≡◌, ◌<◌, length, sym, ap, ◌∙◌, arith}
use Rattle.std.specs.Option.{option_map}
use Rattle.packed_entries.specs.Linked.{times_in}
use Rattle.packed_entries.specs.Entries.{filed, home}
use Rattle.packed_entries.proofs.Filed.{length_filed, replaced_entry, place_found, some_of}
use Rattle.packed_entries.proofs.chains.Chains.replace.Goals as goal

pub unwrap-found-requires : goal.unwrap-found-requires
unwrap-found-requires g c =
    let at : c.bucket.result ≡ home (length (filed c.self.inside.places).chains) c.key-key.result = rw (← c.self.view_is) at c.bucket.ensures.value in
    let present = rw (← c.key-key.ensures, ← c.self.view_is, ← at) at c.requires.present in
    some_of (λ f. f.place) c.find.result (place_found c.self.inside.places c.bucket.result c.key-key.result (option_map (λ f. f.place) c.find.result) c.find.ensures.found present)

pub returns : goal.returns
returns g c =
    let at : c.bucket.result ≡ home (length (filed c.self.inside.places).chains) c.key-key.result = rw (← c.self.view_is) at c.bucket.ensures.value in
    let l : c.bucket.result < length (filed c.self.inside.places).chains = rw (← c.self.view_is) at c.bucket.ensures.within in
    let within : c.bucket.result < length c.self.inside.places.chains = omega (arith, l, length_filed c.self.inside.places) in
    let once : times_in c.unwrap-found.result.place c.self.inside.places.chains ≡ 1 = rw c.unwrap-found.ensures at c.find.ensures.once in
    let inside : c.unwrap-found.result.place < length c.self.inside.places.entries = rw c.unwrap-found.ensures at c.find.ensures.within in
    rw (← c.key-key.ensures, ← c.self.view_is, ← at, c.set_entry.ensures)
    (replaced_entry c.self.inside.places c.bucket.result c.unwrap-found.result.place within c.key-key.result (sym c.find.ensures.found ∙ ap (option_map (λ f. f.place)) c.unwrap-found.ensures) once c.args.entry inside)
