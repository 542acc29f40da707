use Rattle.std.proofs.Common.{◌≡◌, ◌∙◌, ◌++◌, ◌-◌, ◌+◌, ℕ, min, length, take, drop, arith, ap}
use Rattle.std.proofs.lemmas.List.{length-take, length-drop}
use Rattle.memory_images.proofs.Walked.{passed_left, passed_pages, read_left, read_pages, read_on}
use Rattle.memory_images.proofs.source.read_pages.Goals as goal
use Rattle.memory_images.proofs.source.read_pages.Goals.{then-skipped-pages, else-skipped-pages+in_ok-read_run}

pub loop-segment-preserved : goal.loop-segment-preserved
loop-segment-preserved g c =
    let so_far = c.loop-segment.invariant in
    let bytes = g.R.ReadAt.bytes c.args.reader.now in
    let segments = c.args.segments.now in
    let i : ℕ = c.loop-segment.segment-index in
    let into = c.loop-segment.into in
    let done : ℕ = c.loop-segment.done in
    let skip : ℕ = c.loop-segment.skipped in
    let pages : ℕ = c.page_count-pages.result in
    let m : ℕ = length into - done in
    let size = c.if-skipped-pages.auto.into in
    elim c.if-skipped-pages.branch [
      | then-skipped-pages w ↦ record {
        done = rw (size, w.done-is) so_far.done;
        len = size ∙ so_far.len;
        left = rw (size, w.done-is, w.skipped-is) (passed_left bytes segments i _ c.loop-segment-test.true c.requires.whole pages skip m c.page_count-pages.ensures.value w.if-skipped-pages.true so_far.left);
        read = λ steady. rw (size, w.done-is, w.skipped-is, w.into-is)
            (ap (λ xs. take done into ++ xs) (passed_pages bytes segments i _ c.loop-segment-test.true c.requires.whole pages skip m c.page_count-pages.ensures.value w.if-skipped-pages.true) ∙ so_far.read steady);
      }
      | else-skipped-pages+in_ok-read_run w ↦
          let run : ℕ = w.min-run.result in
          let is : run ≡ min (pages - skip) m = omega (arith, w.min-run.ensures) in
          let less : m - run ≡ length into - (done + run) = omega arith in
          let cut : length (take (done + run - done) (drop done into)) ≡ run = omega (arith, length-take (done + run - done) (drop done into), length-drop done into, is) in
          record {
            done = rw (size, w.done-is) (omega (arith, is, so_far.done));
            len = size ∙ so_far.len;
            left = rw (size, w.done-is, w.skipped-is, ← less) (omega (arith, read_left bytes segments i _ c.loop-segment-test.true c.requires.whole pages skip m run c.page_count-pages.ensures.value w.if-skipped-pages.false is so_far.left));
            read = λ steady. rw (size, w.done-is, w.skipped-is, ← less)
                (read_on into c.if-skipped-pages.into w.read_run.new.into _ _ _ done run so_far.done (w.read_run.auto.into ∙ cut) w.into-is
                (ap (λ xs. take done into ++ xs) (read_pages bytes segments i _ c.loop-segment-test.true c.requires.whole pages skip m run _ w.read_run.new.into c.page_count-pages.ensures.value w.if-skipped-pages.false is
                cut (w.in_ok-read_run.ensures {u = tt} steady)) ∙ so_far.read steady));
          }
    ]
