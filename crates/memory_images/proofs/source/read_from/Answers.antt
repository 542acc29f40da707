use Rattle.std.proofs.Common.{◌≡◌, ◌∙◌, ◌<◌, ◌-◌, length, take, drop, arith}
use Rattle.std.proofs.lemmas.List.{length-drop, take_all}
use Rattle.memory_images.proofs.Walked.{later_few, later_left, later_pages}
use Rattle.memory_images.proofs.source.read_from.Goals as goal

pub read_pages-requires-clause-few : goal.read_pages-requires-clause-few
read_pages-requires-clause-few g c =
    let k = c.last_start-nearest.result in
    let lt : k < length c.args.segments.now = omega (arith, c.last_start-nearest.ensures.within, c.requires.begun.len) in
    let segments = c.args.segments.now in
    let rest : take (length segments - k) (drop k segments) ≡ drop k segments = take_all (length segments - k) (drop k segments) (omega (arith, length-drop k segments)) in
    rw rest (later_few (g.R.ReadAt.bytes c.args.reader.now) c.args.segments.now k _ c.requires.whole (c.requires.begun.starts_are k lt) c.requires.few)

pub read_pages-requires-clause-within : goal.read_pages-requires-clause-within
read_pages-requires-clause-within g c =
    let k = c.last_start-nearest.result in
    let lt : k < length c.args.segments.now = omega (arith, c.last_start-nearest.ensures.within, c.requires.begun.len) in
    let left = later_left (g.R.ReadAt.bytes c.args.reader.now) c.args.segments.now k _ c.requires.whole (c.requires.begun.starts_are k lt) in
    let segments = c.args.segments.now in
    let rest : take (length segments - k) (drop k segments) ≡ drop k segments = take_all (length segments - k) (drop k segments) (omega (arith, length-drop k segments)) in
    rw rest (omega (arith, left, c.requires.within, c.last_start-nearest.ensures.before))

pub returns : goal.returns
returns g c = λ steady.
    let k = c.last_start-nearest.result in
    let lt : k < length c.args.segments.now = omega (arith, c.last_start-nearest.ensures.within, c.requires.begun.len) in
    let segments = c.args.segments.now in
    let rest : take (length segments - k) (drop k segments) ≡ drop k segments = take_all (length segments - k) (drop k segments) (omega (arith, length-drop k segments)) in
    rw rest at (c.in_ok-read_pages.ensures {u = tt} steady)
    ∙ later_pages (g.R.ReadAt.bytes c.args.reader.now) c.args.segments.now k _ c.requires.whole (c.requires.begun.starts_are k lt) c.args.first (length c.args.into.now) c.last_start-nearest.ensures.before
