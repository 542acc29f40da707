use Rattle.std.proofs.Common.{◌∙◌, ap}
use Rattle.process_lender.specs.Windows.{table_facts}
use Rattle.process_lender.proofs.Owning.{own_is}
use Rattle.process_lender.proofs.tables.WindowTables.may.Goals as goal

pub returns-in-GoOn-clause-own : goal.returns-in-GoOn-clause-own
returns-in-GoOn-clause-own g c = λ e.
    own_is c.args.question c.in-GoOn.why c.args.facts.now c.table_facts-table.result c.args.first c.args.count c.args.self.now c.deref.result.now c.deref-in-GoOn.result.now c.in-GoOn.is
    (c.table_facts-table.ensures ∙ ap (λ w. table_facts c.args.facts.now w.state) c.self.view_is) (c.deref.ensures.value ∙ ap (λ w. w.pages) c.self.view_is)
    (c.deref-in-GoOn.ensures.value ∙ ap (λ w. w.pins) c.self.view_is) (c.may_go_on.ensures.own e)
