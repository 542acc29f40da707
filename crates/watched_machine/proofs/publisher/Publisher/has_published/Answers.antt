use Rattle.std.proofs.Common.{◌≤◌, ap, subst, List, arith}
use Rattle.std.proofs.lemmas.Bool.{leb-true, le-leb}
use mathlib.Core.List.{IsPrefix}
use Rattle.page_model.specs.Parts.{Totals}
use Rattle.watched_machine.specs.Reports.{StartsWith}
use Rattle.watched_machine.proofs.Fronts.{front_of_longer, shorter_front}
use Rattle.watched_machine.proofs.Lists.{last_of_front}
use Rattle.watched_machine.proofs.publisher.Publisher.has_published.Goals as goal

pub returns : goal.returns
returns g c =
    let p = c.args.self.now.told in let t = c.args.told.now in let whole = c.learn.new.self.log in
    let mine : IsPrefix p.history.log whole = subst (λ (l : List Totals). IsPrefix l whole) (ap (λ h. h.log) c.again-history.ensures) c.learn.ensures.2 in
    let front : t.count ≤ p.count → StartsWith p.history.log t.history.log = λ le.
    shorter_front t.history.log p.history.log whole (front_of_longer t.history.log whole c.learn.ensures.3) (front_of_longer p.history.log whole mine) (omega (arith, le, t.counted, p.counted)) in record {
      exact = (λ yes. omega (arith, leb-true t.count p.count yes, t.counted, p.counted), λ le. le-leb t.count p.count (omega (arith, le, t.counted, p.counted)));
      front = λ yes. front (leb-true t.count p.count yes);
      last = λ yes some. last_of_front t.history.log p.history.log (front (leb-true t.count p.count yes)) some;
    }
