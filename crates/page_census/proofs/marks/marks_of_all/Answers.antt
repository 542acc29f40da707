use Rattle.std.proofs.Common.{◌++◌, ◌∙◌, length, ap, sym, subst, arith}
use Rattle.page_census.specs.Marks.{marks_of}
use Rattle.page_census.specs.declared.guest.Guest.{Guest}
use Rattle.page_census.proofs.Gathered.{length_more, marks_more}
use Rattle.page_census.proofs.marks.marks_of_all.Goals as goal

pub loop-number-preserved : goal.loop-number-preserved
loop-number-preserved g c =
    let pages = g.S.PageSource.pages in
    let hash = g.H.HashFunction.hash_of in
    let so_far = c.loop-number.invariant in
    let guest = c.index-guests-number.result in
    let guests = c.args.guests.now in
    let number = c.loop-number.number in
    let lt = c.loop-number-test.true in
    let is = ap (λ guest. length (pages guest.source)) c.index-guests-number.is in
    let done = c.in_ok-push_guest.ensures {u = tt} in
    let more = length_more pages guests number guest lt in
    record {
      len = omega (arith, is, more, so_far.len, done.len);
      right = λ steady. marks_more pages hash guests number guest _ _ lt (so_far.right steady)
          (done.right (subst (λ (at : Guest g.row.S.Denot). g.S.PageSource.is_steady at.source) (sym c.index-guests-number.is) (steady number guest lt)) ∙ ap (λ (at : Guest g.row.S.Denot). c.loop-number.marks.items ++ marks_of hash at.salt (pages at.source)) c.index-guests-number.is);
    }
