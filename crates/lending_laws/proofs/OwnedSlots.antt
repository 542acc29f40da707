-- The host has got back each slot of a window that can be taken out, if no page of it is believed to show its frame.
use Rattle.std.proofs.Common.{◌≡◌, ◌∙◌, ℕ, ◌<◌, ◌≤◌, Bool, true, false, not, ◌&&◌, List, length, Option, Some, None, refl, ap, sym, subst, arith}
use Rattle.std.proofs.lemmas.Bool.{ltb-false}
use Rattle.std.proofs.lemmas.List.Folds.{list_any_at}
use Rattle.std.proofs.lemmas.Option.{slice_get-get_or, slice_get_within}
use Rattle.std.specs.List.{list_any}
use Rattle.std.specs.Prelude.{is_some, nat_lt, option_and_then, slice_get, slice_index_or}
use Rattle.page_lender.specs.Decisions.{account, shows}
use Rattle.page_lender.specs.declared.belief.Belief.{Belief}
use Rattle.process_lender.specs.Offers.{has_releases}
use Rattle.process_lender.specs.Windows.{Window}
use Rattle.window_pages.specs.Bytes.{belief_of, known_of}
use Rattle.window_pages.specs.Counted.{is_to_release}
use Rattle.window_pages.specs.Known.{has_slot}
use Rattle.window_pages.specs.Laws.{no_counts}
use Rattle.window_pages.specs.declared.counts.PartCounts.{PartCounts}
use Rattle.window_pages.specs.declared.page.WindowPage.{WindowPage}
use Rattle.window_tables.proofs.Counts.{none_is_missed}
use Rattle.window_tables.specs.Tables.{Counted, part_at}
use Rattle.lending_laws.proofs.Looks.{no_more, rest_of}
use Rattle.lending_laws.proofs.Processes.{no_slot_of_all_is_lost}
use Rattle.lending_laws.specs.OwnedWindows.{EachOutIsFree}
use Rattle.lending_laws.specs.Processes.{EachSlotIsOneWindows}
use Rattle.lending_laws.specs.Slots.{slot_of}

-- a part of which no page has a slot to be released counts none
none_counted : (counts : List PartCounts) (k : ℕ) → k < length counts → list_any has_releases counts ≡ false → (slice_index_or counts k no_counts).releases ≡ 0
none_counted counts k l e = pick (nat_lt 0 (slice_index_or counts k no_counts).releases) refl where
  pick : (b : Bool) → nat_lt 0 (slice_index_or counts k no_counts).releases ≡ b → (slice_index_or counts k no_counts).releases ≡ 0
  pick true is = let no : list_any has_releases counts ≡ true = list_any_at has_releases counts k no_counts l is in let wrong : true ≡ false = sym no ∙ e in cc
  pick false is = let none : (slice_index_or counts k no_counts).releases ≤ 0 = ltb-false 0 (slice_index_or counts k no_counts).releases is in omega (arith, none)

-- a page with a slot that doesn't show its frame has one to be released
with_slot : (b : Belief) (s : ℕ) → account b ≡ Some s → shows b ≡ false → (has_slot b && not (shows b)) ≡ true
with_slot b s a n = ap (λ v. is_some v && not (shows b)) a ∙ ap not n

page_has_none : (w : Window) (i s : ℕ) (page : WindowPage) → Counted w.lead w.pages w.counts → list_any has_releases w.counts ≡ false → slice_get w.pages i ≡ Some page → shows (belief_of page) ≡ false → account (belief_of page) ≡ Some s → ⊥
page_has_none w i s page c none at unshown has =
    let l : part_at w.lead i < length w.counts = omega (arith, c.fits, slice_get_within w.pages i page at) in
    let missed : is_to_release (known_of page) ≡ false =
    none_is_missed w.lead w.pages w.counts c i page (slice_index_or w.counts (part_at w.lead i) no_counts) at (slice_get-get_or w.counts (part_at w.lead i) no_counts l) (none_counted w.counts (part_at w.lead i) l none) in
    let is : is_to_release (known_of page) ≡ true = with_slot (belief_of page) s has unshown in
    let wrong : true ≡ false = sym is ∙ missed in
    cc

pub each_out_is_free : EachOutIsFree
each_out_is_free spans number place x lender w h known counted there can unshown s = pick (x.slots (number place) s) refl where
  k : ℕ
  k = number place

  none : list_any has_releases w.counts ≡ false
  none = no_more (list_any has_releases w.counts) (rest_of w.has_ended (not (list_any has_releases w.counts)) can)

  found : (i : ℕ) (o : Option WindowPage) → slice_get w.pages i ≡ o → option_and_then (λ page. account (belief_of page)) o ≡ Some s → ⊥
  found i None at e = cc
  found i (Some page) at e = page_has_none w i s page (counted place w there) none at (unshown i page at) e

  pick : (b : Bool) → x.slots k s ≡ b → x.slots k s ≡ false
  pick true e =
      let all : EachSlotIsOneWindows x = no_slot_of_all_is_lost spans x h in
      let its : (i : ℕ) × (slot_of (x.pages k) i ≡ Some s) = (all.ones k (known.is_open place w there)).kept s e in
      let own : slot_of w.pages its.0 ≡ Some s = subst (λ v. slot_of v its.0 ≡ Some s) (known.pages place w there) its.1 in
      absurd (found its.0 (slice_get w.pages its.0) refl own)
  pick false e = e
