-- Each move keeps what is believed right, and its events are possible.
use Rattle.std.proofs.Common.{◌≡◌, ℕ, zero, suc, List, [], ◌∷◌, map, Some, None, refl, subst}
use Rattle.std.specs.Prelude.{slice_get}
use Rattle.window_events.specs.declared.page.Page.{Page}
use Rattle.window_events.specs.Windows.{Mappings, fresh}
use Rattle.window_events.specs.Played.{refused_from}
use Rattle.page_lender.specs.Events.{Believes, Fits}
use Rattle.page_lender.specs.Histories.{Move, takes, hears, turns, guest, others, History, begins, goes_on, believed, moved, move_events, IsTrue, EveryHistoryIsPossible, BeginsPrivate}
use Rattle.page_lender.specs.declared.belief.Belief.{Belief}
use Rattle.page_lender.specs.declared.belief.Belief.TheVariants.{Private}
use Rattle.page_lender.proofs.Kept.{kept_by_guest, kept_by_others}

-- what is believed is right of the page that is there
as_there : (p : ℕ) (belief : Belief) (w : Mappings) (page : Page) → Believes belief w p → slice_get w.pages p ≡ Some page → Fits belief page
as_there p belief w page b e =
    let is_there : slice_get w.pages p ≡ Some b.page = b.there in
    let same : b.page ≡ page = cc in
    subst (λ x. Fits belief x) same b.fits

move_right : (p : ℕ) (old : Belief) (w : Mappings) (m : Move) (page : Page) → Believes old w p → slice_get w.pages p ≡ Some page → IsTrue p old page w m →
    Believes (believed old m) (moved p page w m) p
move_right p old w (takes order outcome was_done new) page b e t = (t.0 w p was_done (record { page = page; there = e; fits = as_there p old w page b e }) t.1).right
move_right p old w (hears new) page b e t = t.0 w p (record { page = page; there = e; fits = as_there p old w page b e }) t.1
move_right p old w (turns new) page b e t = t w p b
move_right p old w (guest event) page b e t = kept_by_guest old w p event t b
move_right p old w (others event) page b e t = kept_by_others old w p event t b

move_possible : (p : ℕ) (old : Belief) (w : Mappings) (m : Move) (page : Page) → Believes old w p → slice_get w.pages p ≡ Some page → IsTrue p old page w m →
    refused_from 0 w (move_events p page w m) ≡ None
move_possible p old w (takes order outcome was_done new) page b e t = (t.0 w p was_done (record { page = page; there = e; fits = as_there p old w page b e }) t.1).possible
move_possible p old w (hears new) page b e t = refl
move_possible p old w (turns new) page b e t = refl
move_possible p old w (guest event) page b e t = refl
move_possible p old w (others event) page b e t = refl

history_right : (p : ℕ) (first : Belief) (w : Mappings) → Believes first w p → (ms : List Move) (belief : Belief) (now : Mappings) → History p first w ms belief now → Believes belief now p
history_right p first w b ms belief now begins = b
history_right p first w b ms belief now (goes_on ms' m old before page h e t) = move_right p old before m page (history_right p first w b ms' old before h) e t

pub every_history : EveryHistoryIsPossible
every_history p first belief w now ms b h =
    let right : Believes belief now p = history_right p first w b ms belief now h in
    record { right = right; possible = λ m page e t. move_possible p belief now m page right e t }

fresh_at : (contents : List ℕ) (p : ℕ) (page : Page) → slice_get (map fresh contents) p ≡ Some page → (x : ℕ) × (fresh x ≡ page)
fresh_at [] p page e = cc
fresh_at (x ∷ contents) zero page e = (x, cc)
fresh_at (x ∷ contents) (suc p) page e = fresh_at contents p page e

pub begins_private : BeginsPrivate
begins_private contents frames p page e =
    let found = fresh_at contents p page e in
    record { page = page; there = e; fits = subst (Fits Private) found.1 (record { holds = refl; view = refl; waits = λ h. refl; copy = refl }) }
