use Rattle.std.proofs.Common.{◌≡◌, ◌+◌, ◌-◌, ◌∙◌, arith}
use Rattle.page_model.specs.Pages.{count_pages, is_mapped, is_shared, is_hinted, used}
use Rattle.page_model.proofs.Counts.{used-le, hinted-le}
use Rattle.merge_core.specs.View.{guests_of}
use Rattle.merge_core.proofs.Tallies.{mapped_parts, totals_are}
use Rattle.merge_core.proofs.tally.report.Goals as goal

pub new-requires-clause-frames : goal.new-requires-clause-frames
new-requires-clause-frames g c =
    let held = c.args.held.now in
    let t = c.requires.ties.counted in
    omega (arith, t.used, t.shared, t.references, c.requires.hints, mapped_parts (guests_of held), used-le (guests_of held), c.used-frames.ensures.value, c.len.ensures.value, c.references-shared.ensures.value)

pub new-requires-clause-hints : goal.new-requires-clause-hints
new-requires-clause-hints g c =
    let held = c.args.held.now in
    omega (arith, c.requires.ties.counted.used, c.requires.ties.counted.hints, c.requires.hints, hinted-le (guests_of held), c.used-frames.ensures.value)

pub returns : goal.returns
returns g c =
    let held = c.args.held.now in
    let t = c.requires.ties.counted in
    let mapped : c.used-frames.result - (c.len.result - held.hints) + c.references-shared.result
    ≡ count_pages (λ _. is_mapped) (guests_of held) =
    omega (
      arith,
      t.used,
      t.shared,
      t.references,
      c.requires.hints,
      mapped_parts (guests_of held),
      c.used-frames.ensures.value,
      c.len.ensures.value,
      c.references-shared.ensures.value,
    ) in
    let shared : c.references-shared.result ≡ count_pages (λ _. is_shared) (guests_of held) = c.references-shared.ensures.value ∙ t.references in
    let frames : c.used-frames.result ≡ used (guests_of held) = c.used-frames.ensures.value ∙ t.used in
    let hints : held.hints ≡ count_pages (λ _. is_hinted) (guests_of held) = c.requires.hints ∙ t.hints in
    c.new.ensures ∙ totals_are c.args.entries _ _ _ _ (guests_of held) mapped shared frames hints
