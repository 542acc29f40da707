use Rattle.std.proofs.Common.{◌≡◌, ◌∙◌, ℕ, length, ap, sym, arith}
use Rattle.std.proofs.lemmas.List.{length-map}
use Rattle.digest_text.specs.Unread.{rows_left}
use Rattle.fleet_census.specs.Numbers.{fleet_of, rows_in}
use Rattle.fleet_census.specs.Pairs.{row_lengths, rows_for}
use Rattle.fleet_census.proofs.Settled.{classes_are, fault_merged, guests_are, pairs_are, same_length, whole}
use Rattle.fleet_census.proofs.merging.merge.Goals as goal

pub push_classes-requires-clause-room : goal.push_classes-requires-clause-room
push_classes-requires-clause-room g c =
    let lens = (c.in-Ok.ensures {u = tt}).lens in
    omega (arith, lens.1, c.deref.ensures.len, c.in_ok-copies.ensures.capacity)

pub returns-in-Ok-clause-merged : goal.returns-in-Ok-clause-merged
returns-in-Ok-clause-merged g c files is =
    let readers = c.args.readers.now in
    let say = rows_left {A = g.row.A.Denot} g.R.Read.remaining in
    let fleet = fleet_of files in
    let long : length fleet ≡ length readers = length-map files rows_in ∙ same_length say readers files is in
    let done = c.in-Ok.ensures {u = tt} in
    let sound = done.read files is in
    let counted = done.counted fleet long (whole g.R.Read.remaining readers files is sound) in
    let tally = c.count_files.new.tally in (
      sound,
      record {
        sample = counted.is;
        pages = counted.pages;
        light = rw (← counted.tallied.weight_is) counted.tallied.light;
        guests = guests_are fleet c.in-Ok.sample tally counted.tallied (omega (arith, long, done.lens.0, tally.guests.ok.0));
        total = counted.tallied.total;
        pairs_are = pairs_are fleet c.in-Ok.sample tally counted.tallied c.args.pairs
            (done.lengths ∙ ap row_lengths c.in_ok-tally.ensures.pairs ∙ ap (λ (n : ℕ). row_lengths (rows_for c.args.pairs n)) (sym long));
        copies = c.push_classes.ensures ∙ rw c.deref.ensures.value (classes_are fleet c.in-Ok.sample tally counted.tallied (omega (arith, done.lens.1, tally.classes.ok.0)));
      },
    )

pub returns-in-Err-clause-merged : goal.returns-in-Err-clause-merged
returns-in-Err-clause-merged g c files is =
    let readers = c.args.readers.now in
    let say = rows_left {A = g.row.A.Denot} g.R.Read.remaining in
    let long : length (fleet_of files) ≡ length readers = length-map files rows_in ∙ same_length say readers files is in
    let done = c.in-Err.ensures {u = tt} in
    fault_merged files c.args.pairs c.count_files.new.tally c.in-Err.fault (done.read files is) (λ sound. done.counted (fleet_of files) long (whole g.R.Read.remaining readers files is sound))
