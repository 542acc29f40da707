use Rattle.std.proofs.Common.{rules, ◌≡◌, ◌∙◌, ◌+◌, ◌<◌, ◌≤◌, true, false, length, sym, subst, refl, arith}
use Rattle.page_lender.specs.Decisions.{must_own}
use Rattle.page_lender.specs.Events.{IsFree, ShowsNone}
use Rattle.window_pages.specs.Bytes.{belief_of, known_of}
use Rattle.window_pages.specs.Known.{bars_of}
use Rattle.window_tables.specs.Facts.{facts_at}
use Rattle.window_tables.specs.Ranges.{Each, is_yes}
use Rattle.window_tables.proofs.Places.{all_more, each_more, each_none, refused}
use Rattle.window_tables.proofs.ask.all_yes.Goals as goal

pub loop-step-init : goal.loop-step-init
loop-step-init c = record {
  so_far = refl;
  free = each_none (λ i x. IsFree (belief_of x)) c.args.first c.args.pages.now;
  own = λ h. each_none (λ i x. must_own (bars_of (facts_at c.args.table.now c.args.pins.now c.args.why.now i) (known_of x)) ≡ true → ShowsNone (belief_of x)) c.args.first c.args.pages.now;
}

pub loop-step-preserved : goal.loop-step-preserved
loop-step-preserved c =
    let within : c.args.first + c.args.count ≤ length c.args.pages.now = c.has_pages-are_there.ensures.within (search rules) in
    let inside : c.args.first + c.loop-step.step < length c.args.pages.now = omega (arith, within, c.loop-step-test.true) in
    let yes : c.is_yes-yes.result ≡ true = search rules in
    record {
      so_far = all_more (λ i x. is_yes c.args.question (facts_at c.args.table.now c.args.pins.now c.args.why.now i) x) c.args.first c.loop-step.step c.args.pages.now _ inside (sym c.is_yes-yes.ensures.value ∙ yes) c.loop-step.invariant.so_far;
      free = each_more (λ i x. IsFree (belief_of x)) c.args.first c.loop-step.step c.args.pages.now _ inside c.loop-step.invariant.free (c.is_yes-yes.ensures.free yes);
      own = λ h. each_more (λ i x. must_own (bars_of (facts_at c.args.table.now c.args.pins.now c.args.why.now i) (known_of x)) ≡ true → ShowsNone (belief_of x)) c.args.first c.loop-step.step c.args.pages.now _ inside (c.loop-step.invariant.own h) (c.is_yes-yes.ensures.own h yes);
    }

pub returns-then-not-yes-clause-value : goal.returns-then-not-yes-clause-value
returns-then-not-yes-clause-value c =
    let within : c.args.first + c.args.count ≤ length c.args.pages.now = c.has_pages-are_there.ensures.within (search rules) in
    let inside : c.args.first + c.loop-step.step < length c.args.pages.now = omega (arith, within, c.loop-step-test.true) in
    let no : c.is_yes-yes.result ≡ false = search rules in
    refused (λ i x. is_yes c.args.question (facts_at c.args.table.now c.args.pins.now c.args.why.now i) x) c.args.first c.loop-step.step c.args.count c.args.pages.now _ _ inside (sym c.is_yes-yes.ensures.value ∙ no) c.loop-step-test.true

pub returns-clause-own : goal.returns-clause-own
returns-clause-own c =
    let e : c.loop-step.step ≡ c.args.count = omega arith in
    λ h y. subst (λ m. Each (λ i x. must_own (bars_of (facts_at c.args.table.now c.args.pins.now c.args.why.now i) (known_of x)) ≡ true → ShowsNone (belief_of x)) c.args.first m c.args.pages.now) e (c.loop-step.invariant.own h)
