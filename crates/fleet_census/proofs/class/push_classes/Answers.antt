use Rattle.std.proofs.Common.{◌≡◌, Bool, cond, List, [], ◌∷◌, ◌++◌, length, take, get_or, refl, sym, ap, ◌∙◌, ◌+◌, ◌<◌, ℕ, arith}
use Rattle.std.specs.Prelude.{filter}
use Rattle.std.proofs.lemmas.List.{append-nil, take_all}
use Rattle.std.proofs.lemmas.List.Elements.{filter_more}
use Rattle.fleet_census.specs.Classes.{has_contents, no_class}
use Rattle.fleet_census.specs.declared.class.FleetClass.{FleetClass}
use Rattle.fleet_census.proofs.class.push_classes.Goals as goal
use Rattle.fleet_census.proofs.class.push_classes.Goals.{then-has_contents, else-has_contents}

module _ (classes : List FleetClass) (n : ℕ) (within : n < length classes) (copies : List FleetClass) (so_far : copies ≡ filter has_contents (take n classes)) where
  more : (b : Bool) → b ≡ has_contents (get_or classes n no_class) → copies ++ cond b (get_or classes n no_class ∷ []) [] ≡ filter has_contents (take (n + 1) classes)
  more b e = sym (filter_more has_contents classes n no_class within ∙ rw (← so_far, ← e) refl)

pub loop-class-init : goal.loop-class-init
loop-class-init g c = record {
  kept = c.requires.empty;
  len = let none = ap length c.requires.empty in omega (arith, none, c.args.copies.now.ok.0);
  room = c.requires.room;
}

pub push_reserved-requires : goal.push_reserved-requires
push_reserved-requires g c = omega (arith, c.loop-class.invariant.len, c.loop-class.invariant.room, c.loop-class-test.true)

pub loop-class-preserved : goal.loop-class-preserved
loop-class-preserved g c =
    let so_far = c.loop-class.invariant in
    let row = more c.args.classes.now c.loop-class.class-index c.loop-class-test.true c.loop-class.copies.items so_far.kept c.has_contents.result c.has_contents.ensures in
    record {
      kept = elim c.if-has_contents.branch [
        | then-has_contents w ↦ rw w.copies-is (w.push_reserved.ensures.items ∙ (rw w.if-has_contents.true at row))
        | else-has_contents w ↦ rw w.copies-is (sym (append-nil c.loop-class.copies.items) ∙ (rw w.if-has_contents.false at row))
      ];
      len = elim c.if-has_contents.branch [
        | then-has_contents w ↦ rw w.copies-is (omega (arith, so_far.len, w.push_reserved.ensures.len))
        | else-has_contents w ↦ rw w.copies-is (omega (arith, so_far.len))
      ];
      room = elim c.if-has_contents.branch [
        | then-has_contents w ↦ rw w.copies-is (omega (arith, so_far.room, w.push_reserved.ensures.capacity))
        | else-has_contents w ↦ rw w.copies-is so_far.room
      ];
    }

pub returns : goal.returns
returns g c =
    c.loop-class.invariant.kept ∙ ap (filter has_contents) (take_all c.loop-class.class-index c.args.classes.now (omega (arith, c.loop-class-test.false)))
