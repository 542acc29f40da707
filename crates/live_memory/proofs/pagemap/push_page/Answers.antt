use Rattle.std.proofs.Common.{◌≡◌, ◌-◌, ◌++◌, ◌∷◌, [], ℕ, length, vec_len, refl, arith, ap, ◌∙◌}
use Rattle.live_memory.specs.PageMaps.{numbers}
use Rattle.live_memory.proofs.Paged.{last_on, one_page, put_back, segment_more}
use Rattle.live_memory.proofs.pagemap.push_page.Goals as goal
use Rattle.live_memory.proofs.pagemap.push_page.Goals.{in-Some+else-last-at, in_default}

pub returns-then-last-at-clause-pushed : goal.returns-then-last-at-clause-pushed
returns-then-last-at-clause-pushed g c =
    let v = c.args.segments.now in
    let item = (c.in-Some.ensures {u = tt}).item in
    last_on v.items (vec_len v - 1) c.in-Some.last.now c.in-Some.last.now c.args.page item.3.0 (omega (arith, v.ok.0, item.3.0)) item.1 c.requires.whole c.if-last-at.true

pub returns-clause-pushed : goal.returns-clause-pushed
returns-clause-pushed g c =
    let v = c.args.segments.now in
    let here = c.match-last_mut.segments in
    segment_more here.items c.push.new.self.items _ (c.args.page ∷ []) (c.in_ok-push.ensures {u = tt}).items (one_page c.args.page)
    ∙ (elim c.match-last_mut.branch [
      | in-Some+else-last-at w ↦
          let item = (w.in-Some.ensures {u = tt}).item in
          ap (λ v. numbers v.items ++ c.args.page ∷ []) w.segments-is
          ∙ ap (λ xs. numbers xs ++ c.args.page ∷ []) (put_back v.items (vec_len v - 1) w.in-Some.last.now w.in-Some.last.now (omega (arith, v.ok.0, item.3.0)) item.1)
      | in_default w ↦ ap (λ v. numbers v.items ++ c.args.page ∷ []) w.segments-is
    ])
