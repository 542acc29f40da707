use Rattle.std.proofs.Common.{◌≡◌, ◌<◌, ◌≤◌, List, [], ◌∷◌, ◌++◌, sym, ap, subst, ◌∙◌, arith}
use Rattle.std.specs.List.{All}
use mathlib.Core.List.{IsPrefix}
use Rattle.page_model.specs.Parts.{Totals}
use Rattle.watched_machine.specs.Reports.{StartsWith}
use Rattle.watched_machine.proofs.Fronts.{front_of_front, front_of_itself, front_of_longer, shorter_front}
use Rattle.watched_machine.proofs.Lists.{one_more_list}
use Rattle.watched_machine.proofs.watch.Watch.learn.Goals as goal

pub invariant_of-self : goal.invariant_of-self
invariant_of-self g c =
    let s = c.args.self.now in let t = c.args.told in let whole = c.learn.new.self.log in
    let mine : IsPrefix s.longest.history.log whole = subst (λ (l : List Totals). IsPrefix l whole) (ap (λ h. h.log) c.again-history.ensures) c.learn.ensures.2 in
    let was : c.heard_also-heard.result.1 ≡ t = c.heard_also-heard.ensures.told in
    let lists : c.heard_also-heard.result.0.log ≡ s.heard.log ++ t.history.log ∷ [] =
    c.heard_also-heard.ensures.heard ∙ ap (λ h. h.log ++ t.history.log ∷ []) c.again.ensures in
    let below : s.longest.count < t.count = rw (sym was) c.if-self-told.true in
    let front : StartsWith t.history.log s.longest.history.log =
    shorter_front s.longest.history.log t.history.log whole (front_of_longer s.longest.history.log whole mine) (front_of_longer t.history.log whole c.learn.ensures.3) (omega (arith, below, s.longest.counted, t.counted)) in
    let all : All (StartsWith t.history.log) (s.heard.log ++ t.history.log ∷ []) =
    one_more_list s.longest.history.log t.history.log t.history.log s.heard.log s.heard_no_longer front (front_of_itself t.history.log) in
    let book = ap (λ f. f.history.book) was in record {
      tied = s.tied;
      tied_here = s.tied_here ∙ sym (book ∙ (c.requires.same_publisher ∙ s.saw_here));
      saw_here = sym (book ∙ c.requires.same_publisher);
      saw_no_longer = rw was (front_of_front s.saw.history.log s.longest.history.log t.history.log s.saw_no_longer front);
      heard_no_longer = rw (was, lists) all;
    }

pub invariant_of-self-else-self-told : goal.invariant_of-self-else-self-told
invariant_of-self-else-self-told g c =
    let s = c.args.self.now in let t = c.args.told in let whole = c.learn.new.self.log in
    let mine : IsPrefix s.longest.history.log whole = subst (λ (l : List Totals). IsPrefix l whole) (ap (λ h. h.log) c.again-history.ensures) c.learn.ensures.2 in
    let was : c.heard_also-heard.result.1 ≡ t = c.heard_also-heard.ensures.told in
    let lists : c.heard_also-heard.result.0.log ≡ s.heard.log ++ t.history.log ∷ [] =
    c.heard_also-heard.ensures.heard ∙ ap (λ h. h.log ++ t.history.log ∷ []) c.again.ensures in
    let below : t.count ≤ s.longest.count = rw (sym was) c.if-self-told.false in
    let front : StartsWith s.longest.history.log t.history.log =
    shorter_front t.history.log s.longest.history.log whole (front_of_longer t.history.log whole c.learn.ensures.3) (front_of_longer s.longest.history.log whole mine) (omega (arith, below, s.longest.counted, t.counted)) in
    let all : All (StartsWith s.longest.history.log) (s.heard.log ++ t.history.log ∷ []) =
    one_more_list s.longest.history.log s.longest.history.log t.history.log s.heard.log s.heard_no_longer (front_of_itself s.longest.history.log) front in record {
      tied = s.tied;
      tied_here = s.tied_here;
      saw_here = s.saw_here;
      saw_no_longer = s.saw_no_longer;
      heard_no_longer = rw lists all;
    }
