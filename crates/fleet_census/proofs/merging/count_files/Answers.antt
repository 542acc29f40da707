use Rattle.std.proofs.Common.{◌≡◌, length, refl, ap, arith}
use Rattle.digest_text.specs.Unread.{rows_left}
use Rattle.fleet_census.specs.declared.total.FleetTotal.{FleetTotal}
use Rattle.fleet_census.proofs.Settled.{count_read, opened_behind, opened_pages, opened_sample, opened_tallied, opened_zeros, same_length, unread_chained}
use Rattle.fleet_census.proofs.merging.count_files.Goals as goal

pub returns-in-Err-clause-read : goal.returns-in-Err-clause-read
returns-in-Err-clause-read g c files is =
    let long : length files ≡ length c.args.readers.now = same_length (rows_left {A = g.row.A.Denot} g.R.Read.remaining) c.args.readers.now files is in
    (c.in-Err.ensures {u = tt}).read files long (unread_chained files _ _ is)

pub returns-in-Ok-count_all-clause-read : goal.returns-in-Ok-count_all-clause-read
returns-in-Ok-count_all-clause-read g c files is =
    let long : length files ≡ length c.args.readers.now = same_length (rows_left {A = g.row.A.Denot} g.R.Read.remaining) c.args.readers.now files is in
    (c.in-Ok-count_all.ensures {u = tt}).read files (omega (arith, long, c.open.auto.readers)) ((c.in-Ok.ensures {u = tt}).read files long (unread_chained files _ _ is))

pub returns-in-Ok-count_all-clause-counted : goal.returns-in-Ok-count_all-clause-counted
returns-in-Ok-count_all-clause-counted g c fleet long whole =
    let opened = (c.in-Ok.ensures {u = tt}).opened fleet long whole in
    let new = c.requires.new in
    let zeros = opened_zeros fleet _ _ c.open.new.zeros.items c.open.new.guests.items c.in-Ok.opening opened in
    let behind = opened_behind fleet _ _ c.open.new.zeros.items c.open.new.guests.items c.in-Ok.opening opened in
    let pages = opened_pages fleet _ _ c.open.new.zeros.items c.open.new.guests.items c.in-Ok.opening opened in
    let total = ap (λ (total : FleetTotal). record {
      pages = c.in-Ok.opening.pages;
      zero = total.zero;
      shared = total.shared;
      frames = total.frames;
      reclaimed = total.reclaimed;
      zero_reclaimed = total.zero_reclaimed;
      between = total.between;
    }) new.total in
    let tallied = opened_tallied fleet _ _ c.open.new.zeros.items c.open.new.guests.items c.in-Ok.opening opened c.sample-sample.result _ refl total new.classes new.pairless new.weightless in
    let counted = (c.in-Ok-count_all.ensures {u = tt}).counted fleet (omega (arith, long, c.open.auto.readers)) (rw c.deref.ensures.value zeros) behind tallied in
    record {
      is = opened_sample fleet _ _ c.open.new.zeros.items c.open.new.guests.items c.in-Ok.opening opened c.sample-sample.result c.sample-sample.ensures;
      pages = omega (arith, pages, c.open.type_inv);
      tallied = counted;
    }

pub returns-clause-read : goal.returns-clause-read
returns-clause-read g c files is =
    let long : length files ≡ length c.args.readers.now = same_length (rows_left {A = g.row.A.Denot} g.R.Read.remaining) c.args.readers.now files is in
    (c.in-Err-count_all.ensures {u = tt}).read files (omega (arith, long, c.open.auto.readers)) ((c.in-Ok.ensures {u = tt}).read files long (unread_chained files _ _ is))

pub returns-clause-counted : goal.returns-clause-counted
returns-clause-counted g c fleet long whole =
    let opened = (c.in-Ok.ensures {u = tt}).opened fleet long whole in
    let new = c.requires.new in
    let zeros = opened_zeros fleet _ _ c.open.new.zeros.items c.open.new.guests.items c.in-Ok.opening opened in
    let behind = opened_behind fleet _ _ c.open.new.zeros.items c.open.new.guests.items c.in-Ok.opening opened in
    let total = ap (λ (total : FleetTotal). record {
      pages = c.in-Ok.opening.pages;
      zero = total.zero;
      shared = total.shared;
      frames = total.frames;
      reclaimed = total.reclaimed;
      zero_reclaimed = total.zero_reclaimed;
      between = total.between;
    }) new.total in
    let tallied = opened_tallied fleet _ _ c.open.new.zeros.items c.open.new.guests.items c.in-Ok.opening opened c.sample-sample.result _ refl total new.classes new.pairless new.weightless in
    count_read fleet c.sample-sample.result c.count_all.new.tally c.in-Err-count_all.fault
    (opened_sample fleet _ _ c.open.new.zeros.items c.open.new.guests.items c.in-Ok.opening opened c.sample-sample.result c.sample-sample.ensures)
    ((c.in-Err-count_all.ensures {u = tt}).counted fleet (omega (arith, long, c.open.auto.readers)) (rw c.deref.ensures.value zeros) behind tallied)
