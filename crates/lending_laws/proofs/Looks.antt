-- At every step of a look, a page that is read may be.
use Rattle.std.proofs.Common.{◌≡◌, ℕ, Bool, true, false, cond, not, ◌&&◌, ◌||◌, refl, ap, sym, subst}
use Rattle.page_lender.specs.Decisions.{is_barred, is_private}
use Rattle.page_lender.specs.declared.bars.Bars.{Bars}
use Rattle.page_looks.specs.FindLaws.{IsReadable, is_found, reads_bytes}
use Rattle.page_looks.specs.Steps.{Came, Glanced, act_by, first_step, has_memory, is_met, is_present, may_read, shows_frame, unseen_step, way_of}
use Rattle.page_looks.specs.declared.finds.step.FindOutcome.{FindOutcome}
use Rattle.page_looks.specs.declared.finds.step.FindStep.{FindStep}
use Rattle.page_looks.specs.declared.finds.step.FindStep.TheVariants.{Over, FindCopy, Glance, Read, Count, Idle, Zeros}
use Rattle.page_looks.specs.declared.finds.step.Memory.{Memory}
use Rattle.page_looks.specs.declared.finds.step.Sight.{Sight}
use Rattle.page_lender.specs.Calls.{is_free}
use Rattle.window_pages.specs.Bytes.{known_of}
use Rattle.window_pages.specs.Known.{bars_of, lender_of, shows_past}
use Rattle.window_pages.specs.declared.counts.PartCounts.{PartCounts}
use Rattle.window_pages.specs.declared.facts.WindowFacts.{WindowFacts}
use Rattle.window_pages.specs.declared.page.KnownPage.{KnownPage}
use Rattle.window_pages.specs.declared.page.WindowPage.{WindowPage}
use Rattle.lending_laws.specs.Looks.{EachStepReadsWhatItMay, goes_on, looks}

reads_if : (c m : Bool) (x : FindStep) → (reads_bytes (cond c FindCopy (cond m x Over)) || is_found (cond c FindCopy (cond m x Over))) ≡ true → m ≡ true
reads_if true m x e = cc
reads_if false true x e = refl
reads_if false false x e = cc

pub first_of : (a b : Bool) → (a && b) ≡ true → a ≡ true
first_of true b e = refl
first_of false b e = cc

pub rest_of : (a b : Bool) → (a && b) ≡ true → b ≡ true
rest_of true b e = e
rest_of false b e = cc

pub no_more : (b : Bool) → not b ≡ true → b ≡ false
no_more true e = cc
no_more false e = refl

pub neither_left : (a b : Bool) → (a || b) ≡ false → a ≡ false
neither_left true b e = cc
neither_left false b e = refl

pub neither_right : (a b : Bool) → (a || b) ≡ false → b ≡ false
neither_right true b e = cc
neither_right false b e = e

own_if_free : (b : Bars) → is_barred b ≡ false → b.left ≡ false
own_if_free b e =
    neither_right (b.called || b.pinned || b.inherited || b.locked) b.left
    (neither_left (b.called || b.pinned || b.inherited || b.locked || b.left) b.ended e)

-- a first step reads only where it may
first_reads : (facts : WindowFacts) (sight : Sight) (memory : Memory) (is_ready : Bool) (page : WindowPage) →
    (reads_bytes (first_step facts sight memory is_ready page) || is_found (first_step facts sight memory is_ready page)) ≡ true → IsReadable facts memory is_ready (known_of page)
first_reads facts sight memory is_ready page e =
    let known : KnownPage = known_of page in
    let copies : Bool = not known.out && (has_memory memory && shows_frame known) in
    let looks : FindStep = cond (way_of sight page).glances Glance (unseen_step sight page (way_of sight page).act) in
    let may : may_read facts memory is_ready known ≡ true = reads_if copies (may_read facts memory is_ready known) looks e in
    let there : (is_present memory || shows_past known) ≡ true = first_of _ _ may in
    let more : (is_ready && is_free (lender_of facts known)) ≡ true = rest_of (is_present memory || shows_past known) _ may in
    let ready : is_ready ≡ true = first_of is_ready (is_free (lender_of facts known)) more in
    let lends : (is_private known.belief && not (is_barred (bars_of facts known))) ≡ true = rest_of is_ready _ more in
    let private : is_private known.belief ≡ true = first_of (is_private known.belief) _ lends in
    let free : is_barred (bars_of facts known) ≡ false = no_more _ (rest_of (is_private known.belief) _ lends) in
    record { own = neither_left known.out facts.leaves (own_if_free (bars_of facts known) free); there = there; private = private; free = free; ready = ready }

not_over : (next : FindStep) → next ≡ Over → (reads_bytes next || is_found next) ≡ true → ⊥
not_over next e r = let none : (reads_bytes Over || is_found Over) ≡ true = subst (λ s. (reads_bytes s || is_found s) ≡ true) e r in cc

pub glanced_known : (sight : Sight) (glance : ℕ) (next : FindStep) (old new : WindowPage) (part part_new : PartCounts) → Glanced sight glance next old new part part_new → known_of new ≡ known_of old
glanced_known sight glance next old new part part_new g = pick (is_met (act_by sight glance old)) refl where
  pick : (b : Bool) → is_met (act_by sight glance old) ≡ b → known_of new ≡ known_of old
  pick true e = (g.met e).known
  pick false e = ap known_of (g.same e).page

-- what is known of a page that was read stays, and nothing is read after any other step
came_readable : (facts : WindowFacts) (memory : Memory) (is_ready : Bool) (step next : FindStep) (sight : Sight) (outcome : FindOutcome) (old new : WindowPage) (part part_new : PartCounts) →
    Came step sight outcome next old new part part_new → ((reads_bytes step || is_found step) ≡ true → IsReadable facts memory is_ready (known_of old)) →
    (reads_bytes next || is_found next) ≡ true → IsReadable facts memory is_ready (known_of new)
came_readable facts memory is_ready Over next sight outcome old new part part_new c before e = absurd (not_over next c.step e)
came_readable facts memory is_ready FindCopy next sight outcome old new part part_new c before e = absurd (not_over next c.step e)
came_readable facts memory is_ready Glance next sight outcome old new part part_new c before e =
    subst (λ k. IsReadable facts memory is_ready k) (sym (glanced_known sight outcome.glance next old new part part_new c)) (before refl)
came_readable facts memory is_ready Read next sight outcome old new part part_new c before e = subst (λ k. IsReadable facts memory is_ready k) (sym c.noted.known) (before refl)
came_readable facts memory is_ready Count next sight outcome old new part part_new c before e = absurd (not_over next c.step e)
came_readable facts memory is_ready Idle next sight outcome old new part part_new c before e = absurd (not_over next c.step e)
came_readable facts memory is_ready Zeros next sight outcome old new part part_new c before e = absurd (not_over next c.step e)

pub each_step_reads_what_it_may : EachStepReadsWhatItMay
each_step_reads_what_it_may facts memory is_ready step page (looks sight its there s) e =
    first_reads facts sight memory is_ready there (subst (λ v. (reads_bytes v || is_found v) ≡ true) s e)
each_step_reads_what_it_may facts memory is_ready step page (goes_on its next sight outcome old new part part_new l c) e =
    came_readable facts memory is_ready its next sight outcome old new part part_new c (λ r. each_step_reads_what_it_may facts memory is_ready its old l r) e
