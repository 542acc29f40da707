use Rattle.std.proofs.Common.{◌≡◌, ◌∙◌, ℕ, ◌+◌, ◌-◌, ◌*◌, ◌%◌, ◌<◌, ◌≤◌, ap, arith, sym}
use Rattle.std.specs.Prelude.{replicate}
use Rattle.window_pages.specs.Laws.{new_page}
use Rattle.window_tables.proofs.NewTables.{all_parts, first_part, new_at, part_more}
use Rattle.window_tables.specs.Mappings.{mappings_from}
use Rattle.window_tables.proofs.mappings.mappings_new.Goals as goal

pub loop-step-init : goal.loop-step-init
loop-step-init c = record {
  value = first_part c.args.lead c.args.count (512 - c.args.lead % 512 + 0) c.args.parts.now (omega (arith, c.if-count-eq0.false)) (omega arith);
  most = omega arith;
}

pub loop-step-preserved : goal.loop-step-preserved
loop-step-preserved c =
    let a : ℕ = 512 - c.args.lead % 512 + c.loop-step.step * 512 in
    let within : a < c.args.count = omega (arith, c.loop-step-test.true, c.div_ceil-step-end.ensures, c.saturating_sub.ensures) in
    let more : 512 - c.args.lead % 512 + (c.loop-step.step + 1) * 512 ≡ a + 512 = omega arith in
    let part : c.part_differs-found.result ≡ _ = c.part_differs-found.ensures.value ∙ sym (new_at c.args.lead c.args.count a c.args.parts.now (omega arith) within) in
    record {
      value =
          omega (arith, c.loop-step.invariant.value, part, part_more c.args.lead c.args.count a c.args.parts.now (omega arith) (omega arith))
          ∙ ap (λ n. mappings_from c.args.lead c.args.parts.now (replicate c.args.count new_page) 0 n) (sym more);
      most = omega (arith, c.loop-step.invariant.most, c.part_differs-found.ensures.most);
    }

pub returns : goal.returns
returns c =
    let all : c.args.count ≤ 512 - c.args.lead % 512 + c.loop-step.step * 512 = omega (arith, c.loop-step-test.false, c.div_ceil-step-end.ensures, c.saturating_sub.ensures) in
    c.loop-step.invariant.value ∙ all_parts c.args.lead c.args.count (512 - c.args.lead % 512 + c.loop-step.step * 512) c.args.parts.now all
