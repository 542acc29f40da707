use Rattle.std.proofs.Common.{◌≡◌, ◌∙◌, ◌≤◌, ℕ, List, length, take, drop, refl, arith, ap}
use Rattle.std.proofs.lemmas.List.{length-take, length-drop}
use Rattle.memory_images.specs.Pages.{segment_pages}
use Rattle.memory_images.proofs.Walked.{both_read}
use Rattle.memory_images.proofs.pages.read_run.Goals as goal

pub returns : goal.returns
returns g c = λ steady.
    let into = c.args.into.now in
    let whole : ℕ = c.whole_pages-whole.result in
    let few : whole ≤ length into = omega (arith, c.whole_pages-whole.ensures) in
    let pages : List (List ℕ) = segment_pages (g.R.ReadAt.bytes c.args.reader.now) c.args.segment in
    let cut : length (take whole into) ≡ whole = omega (arith, length-take whole into, few) in
    let here : length c.read_whole.new.into ≡ whole = omega (arith, c.read_whole.auto.into, cut) in
    both_read {X = List ℕ} into c.read_whole.new.into c.read_each.new.into pages (length into) whole c.args.first _ few refl here (omega (arith, c.read_each.auto.into, length-drop whole into))
    (c.in_ok-read_whole.ensures {u = tt} steady ∙ ap (λ (k : ℕ). take k (drop c.args.first pages)) cut) (c.in_ok-read_each.ensures {u = tt} steady)
