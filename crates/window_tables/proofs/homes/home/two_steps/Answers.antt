use Rattle.std.proofs.Common.{rules, ◌≡◌, ◌∙◌, true, false}
use Rattle.window_tables.specs.Facts.{only_called}
use Rattle.window_tables.specs.Homes.{Became}
use Rattle.window_tables.proofs.Homing.{by_nothing, can_still, then}
use Rattle.window_tables.proofs.homes.home.two_steps.Goals as goal

pub returns-clause-steps : goal.returns-clause-steps
returns-clause-steps c =
    let can : c.can_note-can.result ≡ true = search rules in
    record {
      done = search rules;
      pages = λ h.
          then (Became c.args.one (only_called false)) (Became c.args.other (only_called false)) c.args.first c.args.count c.args.pages.now c.step_each.new.pages c.step_each-2.new.pages (c.can_note-can.ensures.within can)
          (by_nothing c.args.one c.only_called-facts.result c.args.first c.args.count c.args.pages.now c.step_each.new.pages c.only_called-facts.ensures c.step_each.ensures.steps.pages)
          (by_nothing c.args.other c.only_called-facts.result c.args.first c.args.count c.step_each.new.pages c.step_each-2.new.pages c.only_called-facts.ensures c.step_each-2.ensures.steps.pages);
      counted = λ h. c.step_each-2.ensures.steps.counted (c.step_each.ensures.steps.counted h);
      same = λ h. cc;
      same_parts = λ h. cc;
    }

pub returns-clause-can : goal.returns-clause-can
returns-clause-can c = λ h.
    let can : c.can_note-can.result ≡ true = search rules in
    can_still c.args.lead c.args.first c.args.count c.args.pages.now c.step_each-2.new.pages c.step_each-2.new.parts (c.can_note-can.ensures.within can)
    (c.step_each-2.ensures.steps.pages.length ∙ c.step_each.ensures.steps.pages.length) c.step_each-2.ensures.parts
