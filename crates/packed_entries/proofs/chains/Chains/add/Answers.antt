use Rattle.std.proofs.Common.{◌≡◌, ◌<◌, length, arith}
use Rattle.packed_entries.specs.Keys.{key_of}
use Rattle.packed_entries.specs.Entries.{filed, home}
use Rattle.packed_entries.proofs.Filed.{length_filed, entry_count_is, added}
use Rattle.packed_entries.proofs.chains.Chains.add.Goals as goal

pub add-requires-clause-room : goal.add-requires-clause-room
add-requires-clause-room g c =
    let room = rw (← c.self.view_is) at c.requires.room in
    omega (arith, room, entry_count_is c.self.inside.places)

pub returns : goal.returns
returns g c =
    let key_is : c.key.result ≡ key_of c.args.entry = c.key.ensures in
    let at : c.bucket-bucket.result ≡ home (length (filed c.self.inside.places).chains) c.key.result = rw (← c.self.view_is) at c.bucket-bucket.ensures.value in
    let l : c.bucket-bucket.result < length (filed c.self.inside.places).chains = rw (← c.self.view_is) at c.bucket-bucket.ensures.within in
    let within : c.bucket-bucket.result < length c.self.inside.places.chains = omega (arith, l, length_filed c.self.inside.places) in
    rw (← key_is, ← c.self.view_is, ← at, c.add.ensures.added)
    (added c.self.inside.places c.bucket-bucket.result c.add.result within c.args.entry c.add.ensures.unused c.add.ensures.within)
