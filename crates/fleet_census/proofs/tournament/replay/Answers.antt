use Rattle.std.proofs.Common.{◌≡◌, ◌*◌, ◌+◌, arith, length, refl, ◌∙◌}
use Rattle.std.proofs.lemmas.List.{drop-set-lt, get_or_read_under}
use Rattle.fleet_census.specs.Tournaments.{entry_at, lesser, nothing}
use Rattle.fleet_census.proofs.Won.{all_won, mended}
use Rattle.fleet_census.proofs.tournament.replay.Goals as goal

pub loop-at-preserved : goal.loop-at-preserved
loop-at-preserved g c =
    let so_far = c.loop-at.invariant in
    let entries = c.loop-at.entries.items in
    let at = c.loop-at.at in
    let len : length entries ≡ 2 * c.args.files = omega (arith, so_far.len, c.loop-at.entries.ok.0) in
    let left : c.index.result.now ≡ entry_at entries (2 * at) = get_or_read_under entries (2 * at) (length entries) c.index.result.now nothing c.index.ensures (omega (arith, len, so_far.within)) refl in
    let right : c.index-in-loop-at.result.now ≡ entry_at entries (2 * at + 1) = get_or_read_under entries (2 * at + 1) (length entries) c.index-in-loop-at.result.now nothing c.index-in-loop-at.ensures (omega (arith, len, so_far.within)) refl in
    let is : c.lesser.result ≡ lesser (entry_at entries (2 * at)) (entry_at entries (2 * at + 1)) = c.lesser.ensures ∙ rw (left, right) refl in
    record {
      len = so_far.len;
      within = omega (arith, so_far.within);
      won = mended entries c.args.files at c.lesser.result so_far.won c.loop-at-test.true so_far.within len is;
      leaves_stay = drop-set-lt c.args.files entries at c.lesser.result so_far.within ∙ so_far.leaves_stay;
    }

pub returns : goal.returns
returns g c =
    let so_far = c.loop-at.invariant in
    let at_end : c.loop-at.at ≡ 0 = omega (arith, c.loop-at-test.false) in
    record { len = so_far.len; won = all_won c.args.files _ (rw at_end at so_far.won); leaves = so_far.leaves_stay }
