use Rattle.std.proofs.Common.{◌≡◌, ◌<◌, ◌∙◌, ℕ, length, replicate, arith, ap}
use Rattle.std.proofs.lemmas.List.{length-replicate, length-take-le}
use Rattle.memory_images.proofs.Cut.{page_read}
use Rattle.memory_images.proofs.pages.read_page.Goals as goal
use Rattle.memory_images.proofs.pages.read_page.Goals.{then-len-lt-PAGE_BYTES, else-len-lt-PAGE_BYTES}

pub returns : goal.returns
returns g c = λ steady.
    let old = c.if-len-lt-PAGE_BYTES.into in
    let len : ℕ = c.min-len.result in
    let zeroed : len < 4096 → old ≡ replicate 4096 0 = λ l. elim c.if-len-lt-PAGE_BYTES.branch [
      | then-len-lt-PAGE_BYTES w ↦ w.into-is
      | else-len-lt-PAGE_BYTES w ↦ absurd (omega (arith, l, w.if-len-lt-PAGE_BYTES.false))
    ] in
    let page : length old ≡ 4096 = elim c.if-len-lt-PAGE_BYTES.branch [
      | then-len-lt-PAGE_BYTES w ↦ ap length w.into-is ∙ length-replicate {A = ℕ} 4096 0
      | else-len-lt-PAGE_BYTES w ↦ ap length w.into-is ∙ c.told-into
    ] in
    page_read (g.R.ReadAt.bytes c.args.reader.now) old c.read_at.new.into c.args.segment.offset c.args.segment.len c.args.n len _ _
    c.requires.within c.requires.page (omega (arith, c.min-len.ensures, c.from.ensures)) page zeroed
    (length-take-le len old (omega (arith, page, c.min-len.ensures))) (omega (arith, c.from.ensures)) (c.in_ok-read_at.ensures.read steady)
