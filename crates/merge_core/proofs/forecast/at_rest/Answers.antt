use Rattle.std.proofs.Common.{ℕ, arith}
use Rattle.std.proofs.lemmas.List.Elements.{All-push}
use Rattle.merge_core.specs.Hashing.{IsPaged}
use Rattle.merge_core.specs.View.{pmap_of}
use Rattle.merge_core.proofs.forecast.at_rest.Goals as goal
use Rattle.merge_core.proofs.forecast.at_rest.Goals.{in-None, in-Some-Changing, in-Some-AtRest+in-Some, in-Some-AtRest+in_default}

pub loop-i-preserved : goal.loop-i-preserved
loop-i-preserved g c = elim c.match-upcoming_anew.branch [
  | in-None w ↦ rw (w.pairs-is, w.changing-is) record { few = c.loop-i.invariant.few; paged = c.loop-i.invariant.paged }
  | in-Some-Changing w ↦ rw (w.pairs-is, w.changing-is) record { few = omega (arith, c.if-changing-ge-FORECASTS.false); paged = c.loop-i.invariant.paged }
  | in-Some-AtRest+in-Some w ↦
      let added = All-push (λ (pair : ℕ × ℕ). IsPaged (pmap_of c.args.held.now) pair.0 pair.1) c.loop-i.pairs.items w.in-Some.pair c.loop-i.invariant.paged w.in-Some.ensures in
      rw (w.pairs-is, w.changing-is) record { few = c.loop-i.invariant.few; paged = rw w.push-in-Some.ensures.items added }
  | in-Some-AtRest+in_default w ↦ rw (w.pairs-is, w.changing-is) record { few = c.loop-i.invariant.few; paged = c.loop-i.invariant.paged }
]
