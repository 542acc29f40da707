use Rattle.std.proofs.Common.{◌≡◌, ℕ, ◌+◌, ◌<◌, Bool, true, false, cond, List, [], ◌∷◌, ◌++◌, length, take, refl, sym, ap, ◌∙◌, arith}
use Rattle.std.specs.Prelude.{filter}
use Rattle.std.specs.List.{range_with_len}
use Rattle.std.proofs.lemmas.Bool.{eq-eqb, ne_eqb}
use Rattle.std.proofs.lemmas.List.{append-nil, take_all}
use Rattle.std.proofs.lemmas.List.Elements.{filter_more}
use Rattle.std.proofs.lemmas.List.FromFn.{get_or-range_with_len, length-range_with_len}
use Rattle.fleet_hosts.specs.Hosts.{is_on}
use Rattle.fleet_hosts.proofs.hosts.push_guests.Goals as goal
use Rattle.fleet_hosts.proofs.hosts.push_guests.Goals.{then-hosts-at, else-hosts-at}

module _ (hosts : List ℕ) (host n : ℕ) (within : n < length hosts) (guests : List ℕ)
    (so_far : guests ≡ filter (is_on hosts host) (take n (range_with_len 0 (length hosts)))) where
  more : (b : Bool) → b ≡ is_on hosts host n → guests ++ cond b (n ∷ []) [] ≡ filter (is_on hosts host) (take (n + 1) (range_with_len 0 (length hosts)))
  more b e =
      let all = range_with_len 0 (length hosts) in
      let low : n < length all = omega (arith, within, length-range_with_len 0 (length hosts)) in
      let is : 0 + n ≡ n = omega arith in
      sym (filter_more (is_on hosts host) all n 0 low ∙ rw (get_or-range_with_len 0 (length hosts) n 0 within, is, ← so_far, ← e) refl)

pub loop-at-preserved : goal.loop-at-preserved
loop-at-preserved g c =
    let so_far = c.loop-at.invariant in
    let hosts = c.args.hosts.now in
    let row = more hosts c.args.host c.loop-at.at c.loop-at-test.true c.loop-at.guests.items so_far.kept in
    record {
      kept = elim c.if-hosts-at.branch [
        | then-hosts-at w ↦ rw w.guests-is (w.push_reserved.ensures.items ∙ row true (sym (eq-eqb _ c.args.host w.if-hosts-at.true)))
        | else-hosts-at w ↦ rw w.guests-is (sym (append-nil c.loop-at.guests.items) ∙ row false (sym (ne_eqb _ c.args.host w.if-hosts-at.false)))
      ];
      len = elim c.if-hosts-at.branch [
        | then-hosts-at w ↦ rw w.guests-is (omega (arith, so_far.len, w.push_reserved.ensures.len))
        | else-hosts-at w ↦ rw w.guests-is (omega (arith, so_far.len))
      ];
      room = elim c.if-hosts-at.branch [
        | then-hosts-at w ↦ rw w.guests-is (omega (arith, so_far.room, w.push_reserved.ensures.capacity))
        | else-hosts-at w ↦ rw w.guests-is so_far.room
      ];
    }

pub returns : goal.returns
returns g c =
    let hosts = c.args.hosts.now in
    let all = range_with_len 0 (length hosts) in
    c.loop-at.invariant.kept
    ∙ ap (filter (is_on hosts c.args.host)) (take_all c.loop-at.at all (omega (arith, c.loop-at-test.false, length-range_with_len 0 (length hosts))))
