-- Calls for many pages, and those for held ones, are calls of a history.
use Rattle.std.proofs.Common.{◌≡◌, ◌∙◌, ℕ, Bool, true, false, cond, Option, Some, None, refl, ap, subst}
use Rattle.std.specs.Prelude.{slice_get}
use Rattle.page_lender.specs.Events.{HeardRightly}
use Rattle.page_lender.specs.declared.order.Outcome.{Outcome}
use Rattle.window_events.specs.Windows.{Mappings, is_bare}
use Rattle.window_events.specs.declared.page.Page.{Page}
use Rattle.window_pages.specs.Bytes.{belief_of, known_of}
use Rattle.window_pages.specs.Changed.{given_back}
use Rattle.window_pages.specs.declared.counts.PartCounts.{PartCounts}
use Rattle.window_pages.specs.declared.page.KnownPage.{KnownPage}
use Rattle.window_pages.specs.declared.page.WindowPage.{WindowPage}
use Rattle.window_tables.specs.declared.changes.Change.TheVariants.{Covered, Uncovered, GivenUp, Unmapped, Left, Detached}
use Rattle.page_looks.specs.Steps.{IsCopy}
use Rattle.page_looks.specs.declared.finds.step.FindStep.TheVariants as Find
use Rattle.page_holds.specs.Steps.{Took, is_taken}
use Rattle.page_lender.specs.Decisions.{is_busy}
use Rattle.page_lender.specs.declared.order.Notice.TheVariants.{Written}
use Rattle.window_pages.specs.Changed.{lender_with, no_past}
use Rattle.window_pages.specs.Counted.{counts_then}
use Rattle.window_pages.specs.Known.{no_bars}
use Rattle.window_pages.specs.Laws.{no_counts}
use Rattle.lending_laws.proofs.Looks.{glanced_known}
use Rattle.lending_laws.specs.Histories.{Calls, Pending, gives_up, hears, notes}
use Rattle.lending_laws.specs.Notes.{ChangesByTwo, EachIsDetached, EachLookIsCalls, EachNoteIsACall, EachStepTells, IsToldOrStays, stays, told}

not_both : (b : Bool) → b ≡ true → b ≡ false → ⊥
not_both b e f = cc

-- where only what lies at the place is noted
pub given_back_keeps : (page : KnownPage) → (given_back false page).belief ≡ page.belief
given_back_keeps page = pick page.over where
  pick : (b : Bool) → (cond b page (record page { same = false })).belief ≡ page.belief
  pick true = refl
  pick false = refl

pub given_back_orders : (page : KnownPage) → (given_back false page).ordered ≡ page.ordered
given_back_orders page = pick page.over where
  pick : (b : Bool) → (cond b page (record page { same = false })).ordered ≡ page.ordered
  pick true = refl
  pick false = refl

pub given_back_lies : (page : KnownPage) → (given_back false page).over ≡ page.over
given_back_lies page = pick page.over where
  pick : (b : Bool) → (cond b page (record page { same = false })).over ≡ page.over
  pick true = refl
  pick false = refl

pub each_note_is_a_call : EachNoteIsACall
each_note_is_a_call (Covered frame) behind p w old new pending page h e t = notes old new pending (record {
  belief = ap (λ k. k.belief) h.known;
  ordered = ap (λ k. k.ordered) h.known;
  place = λ x o f l. absurd (not_both (known_of new).over (ap (λ k. k.over) h.known) f);
})
each_note_is_a_call (Uncovered moved) behind p w old new pending page h e t = notes old new pending (record {
  belief = ap (λ k. k.belief) h.known;
  ordered = ap (λ k. k.ordered) h.known;
  place = λ x o f l. t x l;
})
each_note_is_a_call GivenUp behind p w old new pending page h e t = gives_up old new pending page e (t page e) (record {
  right = subst (λ b. HeardRightly (belief_of old) b) (ap (λ k. k.belief) h.known) (h.right refl);
  belief = ap (λ k. k.belief) h.known;
  ordered = ap (λ k. k.ordered) h.known;
})
each_note_is_a_call Unmapped behind p w old new pending page h e t = gives_up old new pending page e (t page e) (record {
  right = subst (λ b. HeardRightly (belief_of old) b) (ap (λ k. k.belief) h.known) (h.right refl);
  belief = ap (λ k. k.belief) h.known;
  ordered = ap (λ k. k.ordered) h.known;
})
each_note_is_a_call Left behind p w old new pending page h e t = notes old new pending (record {
  belief = ap (λ k. k.belief) h.known ∙ given_back_keeps (known_of old);
  ordered = ap (λ k. k.ordered) h.known ∙ given_back_orders (known_of old);
  place = λ x o f l. absurd (not_both (known_of new).over (ap (λ k. k.over) h.known ∙ given_back_lies (known_of old) ∙ o) f);
})
each_note_is_a_call Detached behind p w old new pending page h e t = absurd t

pub each_is_detached : EachIsDetached
each_is_detached behind i pages old new h e = record {
  page = old;
  before = e;
  part = no_counts;
  after = counts_then old new no_counts;
  becomes = record { known = h.known; notes = h.notes; counts = refl };
}

pub each_step_tells : EachStepTells
each_step_tells outcome old new part after t = pick outcome (is_taken outcome (known_of old)) refl t where
  pick : (o : Option Outcome) (is : Bool) → is_taken o (known_of old) ≡ is → Took o old new part after → IsToldOrStays o old new
  pick o false e t = stays (t.page e)
  pick None true e t = cc
  pick (Some its) true e t = told its part after refl (t.done its refl e)

-- ---- looks

-- what is known of a page stays
pub known_stays : (p : ℕ) (w : Mappings) (pending : Pending) (old new : WindowPage) → known_of new ≡ known_of old → Calls p w old pending new pending
known_stays p w pending old new e = notes old new pending (record {
  belief = ap (λ k. k.belief) e;
  ordered = ap (λ k. k.ordered) e;
  place = λ x o f l. absurd (not_both (known_of new).over (ap (λ k. k.over) e ∙ o) f);
})

one_call : (p : ℕ) (w : Mappings) (pending : Pending) (old new : WindowPage) → Calls p w old pending new pending → ChangesByTwo p w pending old new
one_call p w pending old new c = record { middle = new; first = c; second = known_stays p w pending new new refl }

no_past_keeps : (page : KnownPage) → (no_past page).belief ≡ page.belief
no_past_keeps page = pick page.over where
  pick : (b : Bool) → (cond b (record page { same = false }) page).belief ≡ page.belief
  pick true = refl
  pick false = refl

no_past_orders : (page : KnownPage) → (no_past page).ordered ≡ page.ordered
no_past_orders page = pick page.over where
  pick : (b : Bool) → (cond b (record page { same = false }) page).ordered ≡ page.ordered
  pick true = refl
  pick false = refl

no_past_lies : (page : KnownPage) → (no_past page).over ≡ page.over
no_past_lies page = pick page.over where
  pick : (b : Bool) → (cond b (record page { same = false }) page).over ≡ page.over
  pick true = refl
  pick false = refl

pub past_stops : (p : ℕ) (w : Mappings) (pending : Pending) (old new : WindowPage) → known_of new ≡ no_past (known_of old) → Calls p w old pending new pending
past_stops p w pending old new e = notes old new pending (record {
  belief = ap (λ k. k.belief) e ∙ no_past_keeps (known_of old);
  ordered = ap (λ k. k.ordered) e ∙ no_past_orders (known_of old);
  place = λ x o f l. absurd (not_both (known_of new).over (ap (λ k. k.over) e ∙ no_past_lies (known_of old) ∙ o) f);
})

copy_calls : (p : ℕ) (w : Mappings) (pending : Pending) (old new : WindowPage) (part after : PartCounts) (page : Page) → IsCopy old new part after → slice_get w.pages p ≡ Some page → is_bare page.view ≡ false →
    ChangesByTwo p w pending old new
copy_calls p w pending old new part after page c e v = record { middle = c.heard; first = pick (is_busy (lender_with no_bars (known_of old))) refl; second = past_stops p w pending c.heard new c.stops.known } where
  pick : (b : Bool) → is_busy (lender_with no_bars (known_of old)) ≡ b → Calls p w old pending c.heard pending
  pick true b = known_stays p w pending old c.heard (ap known_of (c.busy b).page)
  pick false b = hears old c.heard part c.part_heard Written pending page e v b (c.hears b)

pub each_look_is_calls : EachLookIsCalls
each_look_is_calls Find.Over sight outcome next old new part after p w pending page c e t = one_call p w pending old new (known_stays p w pending old new (ap known_of c.same.page))
each_look_is_calls Find.FindCopy sight outcome next old new part after p w pending page c e t = pick outcome.is_own refl where
  pick : (b : Bool) → outcome.is_own ≡ b → ChangesByTwo p w pending old new
  pick true b = copy_calls p w pending old new part after page (c.copy b) e (t b)
  pick false b = one_call p w pending old new (known_stays p w pending old new (ap known_of (c.none b).page))
each_look_is_calls Find.Glance sight outcome next old new part after p w pending page c e t =
    one_call p w pending old new (known_stays p w pending old new (glanced_known sight outcome.glance next old new part after c))
each_look_is_calls Find.Read sight outcome next old new part after p w pending page c e t = one_call p w pending old new (known_stays p w pending old new c.noted.known)
each_look_is_calls Find.Count sight outcome next old new part after p w pending page c e t = one_call p w pending old new (known_stays p w pending old new c.noted.known)
each_look_is_calls Find.Idle sight outcome next old new part after p w pending page c e t = one_call p w pending old new (known_stays p w pending old new (ap known_of c.same.page))
each_look_is_calls Find.Zeros sight outcome next old new part after p w pending page c e t = one_call p w pending old new (known_stays p w pending old new (ap known_of c.same.page))
