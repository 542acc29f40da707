-- What is noted of one page is a call of a history.
use Rattle.std.proofs.Common.{◌≡◌, ◌∙◌, ℕ, ◌+◌, Bool, true, false, cond, List, Some, refl, ap, sym, subst}
use Rattle.std.specs.Prelude.{slice_get, slice_set}
use Rattle.page_holds.specs.Rows.{PageChanges}
use Rattle.process_lender.specs.Pages.{NotesPage, PageIsNoted}
use Rattle.process_lender.specs.Windows.{Window}
use Rattle.process_lender.specs.declared.page_notice.PageNotice.{PageNotice}
use Rattle.process_lender.specs.declared.page_notice.PageNotice.TheVariants.{AskedAtOnce, Held, GivenBack}
use Rattle.window_events.specs.Windows.{Mappings}
use Rattle.window_pages.specs.Bytes.{known_of}
use Rattle.window_pages.specs.Changed.{given_back}
use Rattle.window_pages.specs.declared.counts.PartCounts.{PartCounts}
use Rattle.window_pages.specs.declared.page.KnownPage.{KnownPage}
use Rattle.window_pages.specs.declared.page.WindowPage.{WindowPage}
use Rattle.lending_laws.proofs.OwnedPlaces.{Became, is_called, is_same}
use Rattle.lending_laws.specs.Histories as history
use Rattle.lending_laws.specs.Histories.{Moment}
use Rattle.lending_laws.specs.Lender as call

-- what is known of a page once this is noted of it
record StaysKnown (old new : KnownPage) : Type 0 where
  belief : new.belief ≡ old.belief
  ordered : new.ordered ≡ old.ordered
  over : new.over ≡ old.over

all_known : (old new : KnownPage) → new ≡ old → StaysKnown old new
all_known old new e = record { belief = ap (λ k. k.belief) e; ordered = ap (λ k. k.ordered) e; over = ap (λ k. k.over) e }

back_known : (is_zeros : Bool) (old : KnownPage) → StaysKnown old (given_back is_zeros old)
back_known is_zeros old = pick old.over where
  pick : (b : Bool) → StaysKnown old (cond b old (record old { same = is_zeros }))
  pick true = all_known old old refl
  pick false = record { belief = refl; ordered = refl; over = refl }

page_known : (notice : PageNotice) (x y : WindowPage) (p q : PartCounts) → PageIsNoted notice x y p q → StaysKnown (known_of x) (known_of y)
page_known AskedAtOnce x y p q n = all_known (known_of x) (known_of y) n.known
page_known (Held was_held) x y p q n = all_known (known_of x) (known_of y) n.known
page_known (GivenBack is_zeros) x y p q n = subst (λ k. StaysKnown (known_of x) k) (sym n.known) (back_known is_zeros (known_of x))

is_noted : (notice : PageNotice) (p : ℕ) (w : Mappings) (x y : WindowPage) (part after : PartCounts) → PageIsNoted notice x y part after → history.IsNoted p w x y
is_noted notice p w x y part after n =
    let k : StaysKnown (known_of x) (known_of y) = page_known notice x y part after n in
    record {
      belief = k.belief;
      ordered = k.ordered;
      place = λ page over gone there. let no : true ≡ false = sym over ∙ sym k.over ∙ gone in cc;
    }

pub page_noted : (gives : (ℕ → Bool) → ℕ → Bool) (first : ℕ) (m : Moment) (w : Window) (pages : List WindowPage) (counts : List PartCounts) (place : ℕ) (notice : PageNotice) (is : Bool) → m.pages ≡ w.pages →
    NotesPage notice place is w pages counts → Became gives first m w pages
page_noted gives first m w pages counts place notice true e n =
    let c : PageChanges (λ x y p q. PageIsNoted notice x y p q) w.lead place w.pages pages w.counts counts = n.page refl in
    is_called (call.of_page place c.before c.after (m.orders place) (subst (λ v. slice_get v place ≡ Some c.before) (sym e) c.is_there) (subst (λ v. pages ≡ slice_set v place c.after) (sym e) c.changed)
    (history.notes c.before c.after (m.orders place) (is_noted notice (first + place) m.world c.before c.after c.part c.part_after c.becomes)))
page_noted gives first m w pages counts place notice false e n = is_same (n.same refl)
