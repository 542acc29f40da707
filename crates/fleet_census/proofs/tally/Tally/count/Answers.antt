use Rattle.std.proofs.Common.{◌≡◌, length, arith}
use Rattle.fleet_census.proofs.Tallied.{kept_items, tallied, too_heavy}
use Rattle.fleet_census.proofs.tally.Tally.count.Goals as goal

pub returns-in_default-clause-counted : goal.returns-in_default-clause-counted
returns-in_default-clause-counted g c fleet from at within some long so_far none is one rising known =
    too_heavy fleet _ from at within some c.args.self.now so_far none c.args.content.now is (c.in_default.ensures {u = tt})

pub returns-clause-counted : goal.returns-clause-counted
returns-clause-counted g c fleet from at within some long so_far none is one rising known =
    let guests_len : length c.count_guests.new.guests ≡ c.args.self.now.guests.len = omega (arith, c.count_guests.auto.guests, c.deref_mut.ensures.len) in
    let classes_len : length c.count_class.new.classes ≡ c.args.self.now.classes.len = omega (arith, c.count_class.auto.classes, c.deref_mut-2.ensures.len) in
    tallied fleet c.args.every from at within some c.args.self.now so_far none c.args.content.now is _ c.args.holders.now known (c.in-Some.ensures {u = tt}).0 (c.in-Some.ensures {u = tt}).1
    (λ file lt. rw (kept_items c.args.self.now.guests.len c.count_guests.new.guests _ guests_len) (rw c.deref_mut.ensures.value at (c.count_guests.ensures rising file (omega (arith, lt, long, c.args.self.now.guests.ok.0, c.deref_mut.ensures.len))))) c.add.ensures
    (λ number lt. rw (kept_items c.args.self.now.classes.len c.count_class.new.classes _ classes_len) (rw c.deref_mut-2.ensures.value at (c.count_class.ensures one number lt)))
    c.count_pairs.ensures.lengths (c.count_pairs.ensures.counted rising)
