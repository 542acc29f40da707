use Rattle.std.proofs.Common.{◌≡◌, sym, subst}
use Rattle.crossbeam_utils.specs.Register.{TurnsAt}
use Rattle.left_right.specs.Sides.{view}
use Rattle.watched_machine.specs.declared.shown.Shown.{Shown}
use Rattle.watched_machine.specs.Showing.{ShowsLast, Replaces}
use Rattle.watched_machine.proofs.Showing.{shows_again}
use Rattle.watched_machine.proofs.publisher.Publisher.new.Goals as goal

pub publish_as-writer-requires : goal.publish_as-writer-requires
publish_as-writer-requires g c = λ next is.
    let d = c.in_ok-writer.writer.desk in
    let same : next ≡ d.shown.value = rw c.in_ok-writer.ensures.1 at is in
    let P : Shown → Type 0 = λ n. TurnsAt ShowsLast d.place.id (view d.place) d.shown.value n Replaces in
    subst P (sym same) (shows_again d.place.id (view d.place) d.shown.value)
