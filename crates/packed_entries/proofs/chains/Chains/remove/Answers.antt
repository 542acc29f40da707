use Rattle.std.proofs.Common.{◌≡◌, ◌<◌, length, sym, ap, ◌∙◌, arith}
use Rattle.std.specs.Option.{option_map}
use Rattle.packed_entries.specs.Linked.{times_in}
use Rattle.packed_entries.specs.Entries.{filed, home}
use Rattle.packed_entries.proofs.Filed.{length_filed, removed_entry, is_there, place_found, some_of}
use Rattle.packed_entries.proofs.chains.Chains.remove.Goals as goal

pub unwrap-found-requires : goal.unwrap-found-requires
unwrap-found-requires g c =
    let at : c.bucket-bucket.result ≡ home (length (filed c.self.inside.places).chains) c.args.key = rw (← c.self.view_is) at c.bucket-bucket.ensures.value in
    let present = rw (← c.self.view_is, ← at) at c.requires.present in
    some_of (λ f. f.place) c.find.result (place_found c.self.inside.places c.bucket-bucket.result c.args.key (option_map (λ f. f.place) c.find.result) c.find.ensures.found present)

pub remove-requires-clause-place : goal.remove-requires-clause-place
remove-requires-clause-place g c =
    let l : c.bucket-bucket.result < length (filed c.self.inside.places).chains = rw (← c.self.view_is) at c.bucket-bucket.ensures.within in
    let within : c.bucket-bucket.result < length c.self.inside.places.chains = omega (arith, l, length_filed c.self.inside.places) in
    let once : times_in c.unwrap-found.result.place c.self.inside.places.chains ≡ 1 = rw c.unwrap-found.ensures at c.find.ensures.once in
    is_there c.self.inside.places c.bucket-bucket.result c.unwrap-found.result.place within c.args.key (sym c.find.ensures.found ∙ ap (option_map (λ f. f.place)) c.unwrap-found.ensures) once

pub remove-requires-clause-before : goal.remove-requires-clause-before
remove-requires-clause-before g c = rw c.unwrap-found.ensures at c.find.ensures.before

pub returns : goal.returns
returns g c =
    let at : c.bucket-bucket.result ≡ home (length (filed c.self.inside.places).chains) c.args.key = rw (← c.self.view_is) at c.bucket-bucket.ensures.value in
    let l : c.bucket-bucket.result < length (filed c.self.inside.places).chains = rw (← c.self.view_is) at c.bucket-bucket.ensures.within in
    let within : c.bucket-bucket.result < length c.self.inside.places.chains = omega (arith, l, length_filed c.self.inside.places) in
    let once : times_in c.unwrap-found.result.place c.self.inside.places.chains ≡ 1 = rw c.unwrap-found.ensures at c.find.ensures.once in
    rw (← c.self.view_is, ← at, c.remove.ensures)
    (removed_entry c.self.inside.places c.bucket-bucket.result c.unwrap-found.result.place within c.args.key (sym c.find.ensures.found ∙ ap (option_map (λ f. f.place)) c.unwrap-found.ensures) once)
