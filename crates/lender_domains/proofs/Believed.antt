-- By which slot a page holds a frame, by what is believed of it.
use Rattle.std.proofs.Common.{◌≡◌, ◌∙◌, ℕ, ◌⊎◌, inl, inr, List, Option, Some, None, refl, ap, sym}
use Rattle.std.specs.Prelude.{slice_get}
use Rattle.std.specs.Option.{option_map}
use Rattle.lent_slots.specs.declared.holding.Holding.{Holding}
use Rattle.share_domain.specs.declared.holding.Slot.{Slot}
use Rattle.share_domain.specs.Domains.{DomainView, held_in, region_frame}
use Rattle.window_domains.specs.Agreement.{frame_by, HasHeld}
use Rattle.window_domains.proofs.Frames.{the}
use Rattle.page_lender.specs.Decisions.{target_slot}
use Rattle.page_lender.specs.Events.{kept, kept_at}
use Rattle.page_lender.specs.declared.belief.Belief.{Belief}
use Rattle.page_lender.specs.declared.belief.Belief.TheVariants.{Private, Chosen, Copied, Turning, Shown, Leaving}
use Rattle.page_lender.specs.declared.belief.Stage.{Stage}
use Rattle.page_lender.specs.declared.belief.Stage.TheVariants.{Ready, Held, Equal, LettingGo}
use Rattle.page_lender.specs.declared.belief.Target.{Target}
use Rattle.page_lender.specs.declared.belief.Target.TheVariants.{Frame, Zeros}
use Rattle.lender_domains.specs.Owned.{Owns, HoldsAt, HoldsBy, HasFor, SlotsByBelief, AccountsByBelief}
use Rattle.lender_domains.proofs.Lists.{held_at, has_at}

-- a page holds no frame exactly if it has no slot
no_frame : (d : DomainView) (held : Option Slot) → HasHeld d held → frame_by d held ≡ None → held ≡ None
no_frame d None h e = refl
no_frame d (Some slot) h e =
    let x = the (held_in d.machines slot) h in
    let some : frame_by d (Some slot) ≡ Some (region_frame d.frames slot.machine x.0.frame) = ap (λ (o : Option Holding). option_map (λ (y : Holding). region_frame d.frames slot.machine y.frame) o) x.1 in
    cc

-- a page that holds a frame holds it by its own slot
own_frame : (d : DomainView) (client_of : ℕ → ℕ) (given slots : List (Option Slot)) (p n : ℕ) (own held : Option Slot) → Owns d client_of given slots →
    slice_get given p ≡ Some own → slice_get slots p ≡ Some held → frame_by d held ≡ Some n → held ≡ own
own_frame d client_of given slots p n own None o e f h = cc
own_frame d client_of given slots p n own (Some slot) o e f h = let is : slice_get given p ≡ Some (Some slot) = o.own p slot f in cc

either : (d : DomainView) (client_of : ℕ → ℕ) (given slots : List (Option Slot)) (p : ℕ) (own held : Option Slot) → Owns d client_of given slots →
    slice_get given p ≡ Some own → slice_get slots p ≡ Some held → (held ≡ None) ⊎ (held ≡ own)
either d client_of given slots p own None o e f = inl refl
either d client_of given slots p own (Some slot) o e f = let is : slice_get given p ≡ Some (Some slot) = o.own p slot f in inr cc

holds_at : (d : DomainView) (client_of : ℕ → ℕ) (given slots : List (Option Slot)) (p : ℕ) (stage : Stage) (target : Target) (frame : Option ℕ) (own held : Option Slot) → Owns d client_of given slots →
    slice_get given p ≡ Some own → slice_get slots p ≡ Some held → HasHeld d held → frame_by d held ≡ kept_at stage target frame → HoldsAt stage target own held
holds_at d client_of given slots p Ready target frame own held o e f h k = no_frame d held h k
holds_at d client_of given slots p Held target frame own held o e f h k = no_frame d held h k
holds_at d client_of given slots p Equal (Frame slot n) frame own held o e f h k = own_frame d client_of given slots p n own held o e f k
holds_at d client_of given slots p Equal Zeros frame own held o e f h k = no_frame d held h k
holds_at d client_of given slots p LettingGo (Frame slot n) frame own held o e f h k = either d client_of given slots p own held o e f
holds_at d client_of given slots p LettingGo Zeros frame own held o e f h k = no_frame d held h k

holds_by : (d : DomainView) (client_of : ℕ → ℕ) (given slots : List (Option Slot)) (p : ℕ) (belief : Belief) (frame : Option ℕ) (own held : Option Slot) → Owns d client_of given slots →
    slice_get given p ≡ Some own → slice_get slots p ≡ Some held → HasHeld d held → frame_by d held ≡ kept belief frame → HoldsBy belief own held
holds_by d client_of given slots p Private frame own held o e f h k = no_frame d held h k
holds_by d client_of given slots p Chosen frame own held o e f h k = no_frame d held h k
holds_by d client_of given slots p Copied frame own held o e f h k = no_frame d held h k
holds_by d client_of given slots p (Turning stage target) frame own held o e f h k = holds_at d client_of given slots p stage target frame own held o e f h k
holds_by d client_of given slots p (Shown slot n homing) frame own held o e f h k = own_frame d client_of given slots p n own held o e f k
holds_by d client_of given slots p (Leaving slot) frame own held o e f h k = either d client_of given slots p own held o e f

pub slots_by_belief : SlotsByBelief
slots_by_belief number d client_of given slots w p belief own held a o b e f =
    holds_by d client_of given slots p belief b.page.held own held o e f (has_at d slots p held a.are_held f) (sym (held_at d slots w.pages p b.page held a.holds b.there f) ∙ b.fits.holds)

none_named : (name : Slot → ℕ) (own : Option Slot) → option_map name own ≡ None → own ≡ None
none_named name None h = refl
none_named name (Some slot) h = cc

has_for : (name : Slot → ℕ) (target : Target) (own : Option Slot) → option_map name own ≡ target_slot target → HasFor name target own
has_for name (Frame slot n) own r = r
has_for name Zeros own r = none_named name own r

pub accounts_by_belief : AccountsByBelief
accounts_by_belief name Private own r = none_named name own r
accounts_by_belief name Chosen own r = none_named name own r
accounts_by_belief name Copied own r = none_named name own r
accounts_by_belief name (Turning stage target) own r = has_for name target own r
accounts_by_belief name (Shown slot n homing) own r = r
accounts_by_belief name (Leaving slot) own r = r
