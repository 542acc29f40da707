-- A call for a list of pages goes on page by page.
use Rattle.std.proofs.Common.{◌≡◌, ◌∙◌, ℕ, ◌+◌, ◌<◌, Bool, false, List, length, Some, refl, ap, sym, subst, arith}
use Rattle.std.specs.Prelude.{slice_get, slice_index_or, slice_set}
use Rattle.lend_steps.specs.Copies.{ToCopy, is_chosen, is_left}
use Rattle.lend_steps.specs.Lists.{Deed, InTurn, InTurnWith, Turn, begins, begins_with, goes_on, goes_on_with, is_not_there, is_there}
use Rattle.lend_steps.specs.Releases.{Found}
use Rattle.lend_steps.specs.Releases as release
use Rattle.window_pages.specs.Bytes.{known_of}
use Rattle.window_pages.specs.declared.counts.PartCounts.{PartCounts}
use Rattle.window_pages.specs.declared.facts.WindowFacts.{WindowFacts}
use Rattle.window_pages.specs.declared.page.WindowPage.{WindowPage}
use Rattle.window_tables.proofs.Places.{set_other}
use Rattle.window_tables.specs.Facts.{facts_at, only_called}
use Rattle.window_tables.specs.declared.facts.TableFacts.{TableFacts}
use Rattle.lending_laws.proofs.Lender.{Goes, Reaches, Turns, chosen_turn, each_release_order_goes, goes_stays, joined, none_reaches, reaches_then, stays_now}
use Rattle.lending_laws.specs.Histories.{Moment}
use Rattle.lending_laws.specs.Owned.{Between, IsLater}

-- The window went on by the turns of the first n pages of a list, and has these pages.
pub record Went (g : (ℕ → Bool) → ℕ → Bool) (first : ℕ) (m : Moment) (numbers : List ℕ) (n : ℕ) (pages : List WindowPage) : Type 0 where
  pub new : Moment
  pub goes : Goes g first m new
  pub has : new.pages ≡ pages
  pub between : Between m numbers n new

pub went_reaches : (g : (ℕ → Bool) → ℕ → Bool) (first : ℕ) (m : Moment) (numbers : List ℕ) (n : ℕ) (pages : List WindowPage) → Went g first m numbers n pages → Reaches g first m pages
went_reaches g first m numbers n pages w = record { new = w.new; goes = w.goes; has = w.has; stored = w.between.stored; world = w.between.world }

none_went : (g : (ℕ → Bool) → ℕ → Bool) (first : ℕ) (m : Moment) (numbers : List ℕ) → Went g first m numbers 0 m.pages
none_went g first m numbers = record { new = m; goes = goes_stays; has = refl; between = record { pages = λ i l. refl; orders = λ i l. refl; stored = refl; world = refl } }

was_later : (i n : ℕ) (numbers : List ℕ) → IsLater i (n + 1) numbers → IsLater i n numbers
was_later i n numbers later j l = later j (omega (arith, l))

isnt_it : (i n : ℕ) (numbers : List ℕ) → IsLater i (n + 1) numbers → slice_index_or numbers n 0 ≡ i → ⊥
isnt_it i n numbers later = later n (omega arith)

stays_between : (m now : Moment) (numbers : List ℕ) (n : ℕ) → Between m numbers n now → Between m numbers (n + 1) now
stays_between m now numbers n b = record {
  pages = λ i l. b.pages i (was_later i n numbers l);
  orders = λ i l. b.orders i (was_later i n numbers l);
  stored = b.stored;
  world = b.world;
}

turned_between : (g : (ℕ → Bool) → ℕ → Bool) (first : ℕ) (m now : Moment) (numbers : List ℕ) (n : ℕ) (y : WindowPage) → Between m numbers n now → (t : Turns g first now (slice_index_or numbers n 0) y) → Between m numbers (n + 1) t.new
turned_between g first m now numbers n y b t = record {
  pages = λ i l. ap (λ v. slice_get v i) t.has ∙ set_other now.pages (slice_index_or numbers n 0) i y (isnt_it i n numbers l) ∙ b.pages i (was_later i n numbers l);
  orders = λ i l. t.others i (λ e. isnt_it i n numbers l (sym e)) ∙ b.orders i (was_later i n numbers l);
  stored = t.stored ∙ b.stored;
  world = t.world ∙ b.world;
}

-- what each turn needs
abbrev pub CanTurnAt : ((ℕ → Bool) → ℕ → Bool) → ℕ → Moment → List ℕ → ℕ → Deed → Type 0
CanTurnAt g first m numbers n Does = (answer : ℕ) (now : Moment) (x y : WindowPage) (part after : PartCounts) → Between m numbers n now → slice_get now.pages (slice_index_or numbers n 0) ≡ Some x → Does answer x y part after →
    Turns g first now (slice_index_or numbers n 0) y

one_went : (g : (ℕ → Bool) → ℕ → Bool) (first lead : ℕ) (m : Moment) (numbers : List ℕ) (n answer : ℕ) (Does : Deed) (now new : List WindowPage) (counts counts_new : List PartCounts) → Went g first m numbers n now →
    Turn Does lead (slice_index_or numbers n 0) answer now new counts counts_new → CanTurnAt g first m numbers n Does → Went g first m numbers (n + 1) new
one_went g first lead m numbers n answer Does now new counts counts_new w (is_there c) can =
    let here : slice_get w.new.pages (slice_index_or numbers n 0) ≡ Some c.before = subst (λ v. slice_get v (slice_index_or numbers n 0) ≡ Some c.before) (sym w.has) c.is_there in
    let t : Turns g first w.new (slice_index_or numbers n 0) c.after = can answer w.new c.before c.after c.part c.part_after w.between here c.becomes in
    record {
      new = t.new;
      goes = joined g first m w.new t.new w.goes t.goes;
      has = t.has ∙ ap (λ v. slice_set v (slice_index_or numbers n 0) c.after) w.has ∙ sym c.changed;
      between = turned_between g first m w.new numbers n c.after w.between t;
    }
one_went g first lead m numbers n answer Does now new counts counts_new w (is_not_there l said same counts_same) can =
    record { new = w.new; goes = w.goes; has = w.has ∙ sym same; between = stays_between m w.new numbers n w.between }

pub list_went : (g : (ℕ → Bool) → ℕ → Bool) (first lead : ℕ) (m : Moment) (numbers : List ℕ) (Does : ℕ → Deed) (counts : List PartCounts) (answers : List ℕ) (n : ℕ) (now : List WindowPage) (counts_now : List PartCounts) (said : List ℕ) →
    InTurn Does lead numbers m.pages counts answers n now counts_now said → ((j : ℕ) → j < length numbers → CanTurnAt g first m numbers j (Does j)) → Went g first m numbers n now
list_went g first lead m numbers Does counts answers n now counts_now said begins can = none_went g first m numbers
list_went g first lead m numbers Does counts answers n now counts_now said (goes_on k answer was new counts_was counts_new said_was said_new before l turn e) can =
    one_went g first lead m numbers k answer (Does k) was new counts_was counts_new (list_went g first lead m numbers Does counts answers k was counts_was said_was before can) turn (can k l)

pub list_went_with : (g : (ℕ → Bool) → ℕ → Bool) (first lead : ℕ) (m : Moment) (numbers : List ℕ) (Does : ℕ → ℕ → List WindowPage → Deed) (Takes : ℕ → ℕ → List WindowPage → ℕ) (counts : List PartCounts) (answers : List ℕ) (taken n has : ℕ) (now : List WindowPage) (counts_now : List PartCounts) (said : List ℕ) →
    InTurnWith Does Takes lead numbers m.pages counts answers taken n has now counts_now said → ((j has : ℕ) (pages : List WindowPage) → j < length numbers → CanTurnAt g first m numbers j (Does j has pages)) → Went g first m numbers n now
list_went_with g first lead m numbers Does Takes counts answers taken n has now counts_now said begins_with can = none_went g first m numbers
list_went_with g first lead m numbers Does Takes counts answers taken n has now counts_now said (goes_on_with k answer has_was has_new was new counts_was counts_new said_was said_new before l turn e f) can =
    one_went g first lead m numbers k answer (Does k has_was was) was new counts_was counts_new (list_went_with g first lead m numbers Does Takes counts answers taken k has_was was counts_was said_was before can) turn (can k has_was was l)

pub to_copy_turn : (g : (ℕ → Bool) → ℕ → Bool) (first i : ℕ) (m : Moment) (x y : WindowPage) (facts : WindowFacts) (is_ready : Bool) (fingerprint answer : ℕ) (part after : PartCounts) → slice_get m.pages i ≡ Some x →
    ToCopy facts is_ready fingerprint answer x y part after → Turns g first m i y
to_copy_turn g first i m x y facts is_ready fingerprint answer part after e (is_chosen order can chosen said) = chosen_turn g first i m x y facts false order part after e chosen
to_copy_turn g first i m x y facts is_ready fingerprint answer part after e (is_left can said same counts) = stays_now g first i m x y e (ap known_of same)

pub found_reaches : (g : (ℕ → Bool) → ℕ → Bool) (first lead from room : ℕ) (table : TableFacts) (pins : List ℕ) (m : Moment) (counts : List PartCounts) (places : List ℕ) (n count : ℕ) (now : List WindowPage) (counts_now : List PartCounts) (said : List ℕ) →
    Found table pins lead from room m.pages counts places n count now counts_now said → Reaches g first m now
found_reaches g first lead from room table pins m counts places n count now counts_now said release.begins = none_reaches g first m m.pages refl
found_reaches g first lead from room table pins m counts places n count now counts_now said (release.goes_on k many count_new was new counts_was counts_new said_was said_new before turn) =
    let r : Reaches g first m was = found_reaches g first lead from room table pins m counts places k many was counts_was said_was before in
    reaches_then g first m was new r
    (each_release_order_goes g first lead (from + k) room many count_new (facts_at table pins (only_called false) (from + k)) pins r.new new counts_was counts_new said_was said_new
    (subst (λ v. release.FindsAt (facts_at table pins (only_called false) (from + k)) pins lead (from + k) room many count_new v new counts_was counts_new said_was said_new) (sym r.has) turn))
