-- What looks at a page keep to.
use Rattle.std.proofs.Common.{◌≡◌, ◌∙◌, ℕ, ◌<◌, Bool, true, false, cond, not, ◌&&◌, refl, ap, subst, sym, arith}
use Rattle.std.specs.Prelude.{nat_eq, ◌||◌}
use Rattle.page_looks.proofs.Went.{kept_is_idle}
use Rattle.page_looks.specs.Idle.{is_idle}
use Rattle.page_looks.specs.declared.idle.look.Act.{Act}
use Rattle.page_looks.specs.declared.idle.look.Act.TheVariants.{Pass, Meet, Keep, Read as ToRead}
use Rattle.page_lender.specs.Decisions.{is_barred, is_private}
use Rattle.page_lender.specs.declared.bars.Bars.{Bars}
use Rattle.page_lender.specs.Calls.{is_free}
use Rattle.window_pages.specs.Bytes.{known_of}
use Rattle.window_pages.specs.Known.{bars_of, lender_of, shows_past}
use Rattle.window_pages.specs.declared.page.KnownPage.{KnownPage}
use Rattle.window_pages.specs.declared.page.WindowPage.{WindowPage}
use Rattle.page_looks.specs.FindLaws.{EachLeavesFewer, FoundIsIdle, LaterFoundIsIdle, LaterReadsWhatItMay, ReadsWhatItMay, is_found, reads_bytes, steps_left}
use Rattle.page_looks.specs.Notes.{looks_of}
use Rattle.page_looks.specs.Steps.{act_by, found_as, has_memory, is_met, is_present, may_read, shows_frame, seen_step, unseen_step, way_of}
use Rattle.page_looks.specs.declared.finds.step.FindStep.{FindStep}
use Rattle.page_looks.specs.declared.finds.step.FindStep.TheVariants.{Over, FindCopy, Glance, Read, Count, Idle, Zeros}
use Rattle.page_looks.specs.declared.finds.step.Sight.{Sight}

reads_if : (c m : Bool) (x : FindStep) → (reads_bytes (cond c FindCopy (cond m x Over)) || is_found (cond c FindCopy (cond m x Over))) ≡ true → m ≡ true
reads_if true m x e = cc
reads_if false true x e = refl
reads_if false false x e = cc

first_of : (a b : Bool) → (a && b) ≡ true → a ≡ true
first_of true b e = refl
first_of false b e = cc

rest_of : (a b : Bool) → (a && b) ≡ true → b ≡ true
rest_of true b e = e
rest_of false b e = cc

no_more : (b : Bool) → not b ≡ true → b ≡ false
no_more true e = cc
no_more false e = refl

neither_left : (a b : Bool) → (a || b) ≡ false → a ≡ false
neither_left true b e = cc
neither_left false b e = refl

neither_right : (a b : Bool) → (a || b) ≡ false → b ≡ false
neither_right true b e = cc
neither_right false b e = e

-- a page that nothing keeps from being lent is its window's
own_if_free : (b : Bars) → is_barred b ≡ false → b.left ≡ false
own_if_free b e =
    neither_right (b.called || b.pinned || b.inherited || b.locked) b.left
    (neither_left (b.called || b.pinned || b.inherited || b.locked || b.left) b.ended e)

pub reads_what_it_may : ReadsWhatItMay
reads_what_it_may facts sight memory is_ready page e =
    let known : KnownPage = known_of page in
    let copies : Bool = not known.out && (has_memory memory && shows_frame known) in
    let looks : FindStep = cond (way_of sight page).glances Glance (unseen_step sight page (way_of sight page).act) in
    let may : may_read facts memory is_ready known ≡ true = reads_if copies (may_read facts memory is_ready known) looks e in
    let there : (is_present memory || shows_past known) ≡ true = first_of _ _ may in
    let more : (is_ready && is_free (lender_of facts known)) ≡ true = rest_of (is_present memory || shows_past known) _ may in
    let ready : is_ready ≡ true = first_of is_ready (is_free (lender_of facts known)) more in
    let lends : (is_private known.belief && not (is_barred (bars_of facts known))) ≡ true = rest_of is_ready _ more in
    let private : is_private known.belief ≡ true = first_of (is_private known.belief) _ lends in
    let free : is_barred (bars_of facts known) ≡ false = no_more _ (rest_of (is_private known.belief) _ lends) in
    record { own = neither_left known.out facts.leaves (own_if_free (bars_of facts known) free); there = there; private = private; free = free; ready = ready }

-- what is found at once is found of what is kept
found_kept : (c m g : Bool) (sight : Sight) (page : WindowPage) (act : Act) →
    is_found (cond c FindCopy (cond m (cond g Glance (unseen_step sight page act)) Over)) ≡ true → act ≡ Keep
found_kept true m g sight page act e = cc
found_kept false false g sight page act e = cc
found_kept false true true sight page act e = cc
found_kept false true false sight page Pass e = cc
found_kept false true false sight page Meet e = cc
found_kept false true false sight page Keep e = refl
found_kept false true false sight page ToRead e = cc

after_same : (g : Bool) (act : Act) → cond (g && false) Meet act ≡ act
after_same true act = refl
after_same false act = refl

pub found_is_idle : FoundIsIdle
found_is_idle facts sight memory is_ready page e =
    let kept : (way_of sight page).act ≡ Keep = found_kept (not (known_of page).out && (has_memory memory && shows_frame (known_of page))) (may_read facts memory is_ready (known_of page)) (way_of sight page).glances sight page (way_of sight page).act e in
    kept_is_idle sight.config sight.part (looks_of page) (known_of page).over sight.look sight.number true
    (after_same (way_of sight page).glances (way_of sight page).act ∙ kept)

seen_kept : (sight : Sight) (page : WindowPage) (act : Act) → is_found (seen_step sight page act) ≡ true → act ≡ Keep
seen_kept sight page Pass e = cc
seen_kept sight page Meet e = cc
seen_kept sight page Keep e = refl
seen_kept sight page ToRead e = cc

found_if : (b : Bool) (x : FindStep) → is_found (cond b x Over) ≡ true → b ≡ true
found_if true x e = refl
found_if false x e = cc

-- nothing is found where nothing is left
nothing : (next : FindStep) → next ≡ Over → is_found next ≡ true → ⊥
nothing next i e = absurd-found (sym (ap is_found i) ∙ e) where
  absurd-found : false ≡ true → ⊥
  absurd-found f = cc

nothing_read : (next : FindStep) (b : Bool) → next ≡ Over → reads_bytes next ≡ true → b ≡ true
nothing_read next b i e = absurd (no_bytes (sym (ap reads_bytes i) ∙ e)) where
  no_bytes : false ≡ true → ⊥
  no_bytes f = cc

pub later_reads_what_it_may : LaterReadsWhatItMay
later_reads_what_it_may Over sight outcome next old new part part_new came e = nothing_read next false came.step e
later_reads_what_it_may FindCopy sight outcome next old new part part_new came e = nothing_read next false came.step e
later_reads_what_it_may Glance sight outcome next old new part part_new came e = refl
later_reads_what_it_may Read sight outcome next old new part part_new came e = refl
later_reads_what_it_may Count sight outcome next old new part part_new came e = nothing_read next false came.step e
later_reads_what_it_may Idle sight outcome next old new part part_new came e = nothing_read next false came.step e
later_reads_what_it_may Zeros sight outcome next old new part part_new came e = nothing_read next false came.step e

pub later_found_is_idle : LaterFoundIsIdle
later_found_is_idle Over sight outcome next old new part part_new came e = absurd (nothing next came.step e)
later_found_is_idle FindCopy sight outcome next old new part part_new came e = absurd (nothing next came.step e)
later_found_is_idle Glance sight outcome next old new part part_new came e =
    let kept : act_by sight outcome.glance old ≡ Keep = seen_kept sight old _ (sym (ap is_found came.step) ∙ e) in
    let same : new ≡ old = (came.same (ap is_met kept)).page in
    ap (λ p. is_idle (looks_of p)) same
    ∙ kept_is_idle sight.config sight.part (looks_of old) (known_of old).over sight.look sight.number (nat_eq outcome.glance (looks_of old).clue) kept
later_found_is_idle Read sight outcome next old new part part_new came e =
    found_if (is_idle (looks_of new)) (found_as sight outcome.fingerprint) (sym (ap is_found came.step) ∙ e)
later_found_is_idle Count sight outcome next old new part part_new came e = absurd (nothing next came.step e)
later_found_is_idle Idle sight outcome next old new part part_new came e = absurd (nothing next came.step e)
later_found_is_idle Zeros sight outcome next old new part part_new came e = absurd (nothing next came.step e)

found_left : (equal whole : Bool) → steps_left (cond equal (cond whole Count Zeros) Idle) < 2
found_left true true = omega arith
found_left true false = omega arith
found_left false whole = omega arith

read_left : (b : Bool) (sight : Sight) (fingerprint : ℕ) → steps_left (cond b (found_as sight fingerprint) Over) < 2
read_left true sight fingerprint = found_left (nat_eq fingerprint sight.zeros) sight.part.whole
read_left false sight fingerprint = omega arith

seen_left : (sight : Sight) (page : WindowPage) (act : Act) → steps_left (seen_step sight page act) < 3
seen_left sight page Pass = omega arith
seen_left sight page Meet = omega arith
seen_left sight page Keep = let few = found_left (nat_eq (looks_of page).fingerprint sight.zeros) sight.part.whole in omega (arith, few)
seen_left sight page ToRead = omega arith

pub each_leaves_fewer : EachLeavesFewer
each_leaves_fewer Over sight outcome next old new part part_new came some = absurd (omega (arith, some))
each_leaves_fewer FindCopy sight outcome next old new part part_new came some = subst (λ n. steps_left n < 1) (sym came.step) (omega arith)
each_leaves_fewer Glance sight outcome next old new part part_new came some =
    subst (λ n. steps_left n < 3) (sym came.step) (seen_left sight old (act_by sight outcome.glance old))
each_leaves_fewer Read sight outcome next old new part part_new came some =
    subst (λ n. steps_left n < 2) (sym came.step) (read_left (is_idle (looks_of new)) sight outcome.fingerprint)
each_leaves_fewer Count sight outcome next old new part part_new came some = subst (λ n. steps_left n < 1) (sym came.step) (omega arith)
each_leaves_fewer Idle sight outcome next old new part part_new came some = absurd (omega (arith, some))
each_leaves_fewer Zeros sight outcome next old new part part_new came some = absurd (omega (arith, some))
