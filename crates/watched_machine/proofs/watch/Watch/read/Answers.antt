use Rattle.std.proofs.Common.{rules, ◌≡◌, List, ap, get_or, sym, subst}
use Rattle.page_model.specs.Parts.{Totals}
use Rattle.watched_machine.specs.Reports.{StartsWith, NoneLater}
use Rattle.watched_machine.proofs.Fronts.{front_of_front}
use Rattle.watched_machine.proofs.Lists.{none_later}
use Rattle.watched_machine.proofs.watch.Watch.read.Goals as goal

pub returns-clause-read : goal.returns-clause-read
returns-clause-read g c =
    let s = c.args.self.now in let t = c.in_ok-told.told in let list = t.history.log in
    let longest : StartsWith list s.longest.history.log = search rules in record {
      last = sym t.last;
      earlier = front_of_front s.saw.history.log s.longest.history.log list s.saw_no_longer longest;
      told = λ i d below. front_of_front (get_or s.heard.log i d) s.longest.history.log list (s.heard_no_longer i d below) longest;
      never_falls = t.rising;
      never_older = subst (λ (r : Totals). NoneLater r list) t.last (none_later list t.rising);
    }
