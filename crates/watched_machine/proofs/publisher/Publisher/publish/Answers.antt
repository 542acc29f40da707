use Rattle.std.proofs.Common.{rules, ◌≡◌, List, [], ◌∷◌, ◌++◌, length, ap, sym, subst, ◌∙◌, arith, length-append}
use Rattle.std.proofs.Math.Seq.{take-append_seam}
use Rattle.std.specs.List.{fold}
use Rattle.std.specs.Prelude.{drop}
use Rattle.crossbeam_utils.specs.Register.{TurnsAt}
use Rattle.left_right.specs.Sides.{view}
use Rattle.page_model.specs.Parts.{Totals}
use Rattle.watched_machine.specs.declared.shown.Shown.{Shown}
use Rattle.watched_machine.specs.Reports.{StartsWith, NeverFalls, last_of}
use Rattle.watched_machine.specs.Showing.{ShowsLast, Replaces, list_shown}
use Rattle.watched_machine.proofs.Lists.{last_of_added, never_falls_added}
use Rattle.watched_machine.proofs.Showing.{shows_last}
use Rattle.watched_machine.proofs.publisher.Publisher.publish.Goals as goal

pub invariant_of-told : goal.invariant_of-told
invariant_of-told g c =
    let s = c.args.self.now.told in let r = c.args.report in
    let log : c.add_report.new.history.log ≡ s.history.log ++ r ∷ [] = c.if-not-add_report.ensures.added ∙ ap (λ h. h.log ++ r ∷ []) c.again-history.ensures in record {
      counted = omega (arith, ap length log, length-append s.history.log (r ∷ []), s.counted);
      rising = subst NeverFalls (sym log) (never_falls_added s.history.log r s.rising c.requires.not_older);
      last = ap last_of log ∙ last_of_added s.history.log r;
    }

pub replace_with-shown-requires : goal.replace_with-shown-requires
replace_with-shown-requires g c =
    let s = c.args.self.now in let r = c.args.report in let w = c.append-2.new.self in let t = c.again-shown.result in
    let x = w.desk.shown.value in
    let shown : x.told.history ≡ s.told.history = ap (λ d. d.shown.value.told.history) (c.append-2.ensures.desk ∙ c.append.ensures.desk) ∙ s.shown_all in
    let log : t.history.log ≡ list_shown x ++ r ∷ [] =
    ap (λ t. t.history.log) c.again-shown.ensures ∙ (c.if-not-add_report.ensures.added ∙ (ap (λ h. h.log ++ r ∷ []) c.again-history.ensures ∙ ap (λ h. h.log ++ r ∷ []) (sym shown))) in
    let same : t.history.book ≡ x.told.history.book =
    ap (λ t. t.history.book) c.again-shown.ensures ∙ (c.add_report.ensures.same ∙ (ap (λ h. h.book) c.again-history.ensures ∙ ap (λ h. h.book) (sym shown))) in
    let further : StartsWith t.history.log (list_shown x) = subst (λ (l : List Totals). StartsWith l (list_shown x)) (sym log) (take-append_seam (list_shown x) (r ∷ [])) in
    let turns : (next : Shown) → next ≡ fold (λ (a : Shown) (b : Shown). b) x (drop w.behind w.log.items) → TurnsAt ShowsLast w.desk.place.id (view w.desk.place) x next Replaces =
    shows_last w.desk.place.id (view w.desk.place) x _ _ _ c.in-Ok-append.ensures.pending same further in
    search (rules, turns)
