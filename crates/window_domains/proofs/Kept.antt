-- What keeps the agreement of a domain and mappings, and what a page shows where they agree.
use Rattle.std.proofs.Common.{◌≡◌, ℕ, ◌<◌, Bool, true, false, cond, List, [], ◌∷◌, length, Option, Some, None, refl, ap, sym, ◌∙◌, arith}
use Rattle.std.specs.Prelude.{slice_get, slice_set, unwrap_or}
use Rattle.std.specs.Option.{option_map, option_and_then}
use Rattle.std.proofs.lemmas.Bool.{false≢true}
use Rattle.std.proofs.lemmas.List.{length-set}
use Rattle.std.proofs.lemmas.Option.{get_or_from_slice_get, same_Some, none-some}
use Rattle.std.proofs.Math.Seq.{map-set_same}
use Rattle.machine_frames.proofs.Used.{taken_within}
use Rattle.lent_slots.specs.declared.holding.Holding.{Holding}
use Rattle.share_domain.specs.declared.holding.Slot.{Slot}
use Rattle.share_domain.specs.Domains.{DomainView, machine_at, held_in, region_frame, entered}
use Rattle.window_events.specs.declared.event.Event.{Event}
use Rattle.window_events.specs.declared.event.Event.TheVariants.{Write, Guard, Unguard, Copy, Lend, Map, Release, Trim, Discard}
use Rattle.window_events.specs.declared.page.Page.{Page}
use Rattle.window_events.specs.declared.page.View.{View}
use Rattle.window_events.specs.declared.page.View.TheVariants.{Own, Over}
use Rattle.window_events.specs.Windows.{Mappings, shown_in, overwritten, lifted, written, guarded, unguarded, copied, mapped, discarded, is_held, at_page, with_page, step, run, start, shown, last, view_of}
use Rattle.window_events.proofs.Whole.{holds_shown, shows_last}
use Rattle.window_domains.specs.Agreement.{bytes_at, frame_by, Agrees, Plays}
use Rattle.window_domains.specs.Calls.{is_own, ShowsFrameOf}
use Rattle.window_domains.proofs.Frames as frames
use Rattle.window_domains.proofs.Frames.{the, is_there, same_machine, same_frame, frame_within, machine_within}
use Rattle.window_domains.proofs.Pages.{one_plays, page_holds, holder, trim_possible}

pub enters : (number : List ℕ → ℕ) (d : DomainView) (slots : List (Option Slot)) (w : Mappings) (client : Option ℕ) → Agrees number d slots w → Agrees number (entered d client) slots w
enters number d slots w None agrees = agrees
enters number d slots w (Some client) agrees =
    record { holds = agrees.holds; are_held = agrees.are_held; contains = agrees.contains; in_use = agrees.in_use; count = agrees.count; sizes = agrees.sizes }

-- a change of a page that leaves the frame that it holds
record KeepsHeld (change : Page → Option Page) : Type 0 where
  keep : (page new : Page) → change page ≡ Some new → new.held ≡ page.held

written_keeps : (x : ℕ) → KeepsHeld (written x)
written_keeps x = record { keep = λ page new e. pick page new page.guarded e } where
  pick : (page new : Page) (b : Bool) → cond b None (Some (record page { view = overwritten page.view x; last = x })) ≡ Some new → new.held ≡ page.held
  pick page new true e = cc
  pick page new false e = let same : record page { view = overwritten page.view x; last = x } ≡ new = cc in ap (λ y. y.held) (sym same)

guarded_keeps : KeepsHeld guarded
guarded_keeps = record { keep = λ page new e. let same : record page { guarded = true } ≡ new = cc in ap (λ y. y.held) (sym same) }

unguarded_keeps : KeepsHeld unguarded
unguarded_keeps = record { keep = λ page new e. let same : lifted page ≡ new = cc in ap (λ y. y.held) (sym same) }

copied_keeps : (fs : List ℕ) → KeepsHeld (copied fs)
copied_keeps fs = record { keep = λ page new e. pick page new page.guarded e } where
  pick : (page new : Page) (b : Bool) → cond b (Some (record page { copy = Some (shown_in fs page.view); copy_fresh = true })) None ≡ Some new → new.held ≡ page.held
  pick page new false e = cc
  pick page new true e = let same : record page { copy = Some (shown_in fs page.view); copy_fresh = true } ≡ new = cc in ap (λ y. y.held) (sym same)

mapped_keeps : KeepsHeld mapped
mapped_keeps = record { keep = λ page new e. pick page new page.frame_fresh page.held e } where
  pick : (page new : Page) (b : Bool) (o : Option ℕ) → cond b (option_map (λ n. record (lifted page) { view = Over n None }) o) None ≡ Some new → new.held ≡ page.held
  pick page new false o e = cc
  pick page new true None e = cc
  pick page new true (Some n) e = let same : record (lifted page) { view = Over n None } ≡ new = cc in ap (λ y. y.held) (sym same)

discarded_keeps : KeepsHeld discarded
discarded_keeps = record { keep = λ page new e. let same : record (lifted page) { view = Own 0; last = 0 } ≡ new = cc in ap (λ y. y.held) (sym same) }

put_agrees : (number : List ℕ → ℕ) (d : DomainView) (slots : List (Option Slot)) (w : Mappings) (p : ℕ) (page new : Page) → slice_get w.pages p ≡ Some page → new.held ≡ page.held
    → Agrees number d slots w → Agrees number d slots (with_page w p new)
put_agrees number d slots w p page new at same agrees = record {
  holds = map-set_same (λ (x : Page). x.held) w.pages p new page (same ∙ ap (λ (x : Page). x.held) (sym (get_or_from_slice_get w.pages p page page at))) ∙ agrees.holds;
  are_held = agrees.are_held;
  contains = agrees.contains;
  in_use = agrees.in_use;
  count = agrees.count;
  sizes = agrees.sizes;
}

at_page_agrees : (number : List ℕ → ℕ) (d : DomainView) (slots : List (Option Slot)) (w : Mappings) (p : ℕ) (change : Page → Option Page) → KeepsHeld change
    → Agrees number d slots w → Agrees number d slots (unwrap_or (at_page w p change) w)
at_page_agrees number d slots w p change k agrees = pick (slice_get w.pages p) refl where
  pick : (o : Option Page) → slice_get w.pages p ≡ o → Agrees number d slots (unwrap_or (option_map (with_page w p) (option_and_then change o)) w)
  pick None e = agrees
  pick (Some page) e = made (change page) refl where
    made : (o : Option Page) → change page ≡ o → Agrees number d slots (unwrap_or (option_map (with_page w p) o) w)
    made None f = agrees
    made (Some new) f = put_agrees number d slots w p page new e (k.keep page new f) agrees

pub own_keeps : (number : List ℕ → ℕ) (d : DomainView) (slots : List (Option Slot)) (w : Mappings) (e : Event) → is_own e ≡ true → Agrees number d slots w → Agrees number d slots (unwrap_or (step w e) w)
own_keeps number d slots w (Write p x) own agrees = at_page_agrees number d slots w p (written x) (written_keeps x) agrees
own_keeps number d slots w (Guard p) own agrees = at_page_agrees number d slots w p guarded guarded_keeps agrees
own_keeps number d slots w (Unguard p) own agrees = at_page_agrees number d slots w p unguarded unguarded_keeps agrees
own_keeps number d slots w (Copy p) own agrees = at_page_agrees number d slots w p (copied w.frames) (copied_keeps w.frames) agrees
own_keeps number d slots w (Lend p n) own agrees = absurd (false≢true own)
own_keeps number d slots w (Map p) own agrees = at_page_agrees number d slots w p mapped mapped_keeps agrees
own_keeps number d slots w (Release p) own agrees = absurd (false≢true own)
own_keeps number d slots w (Trim n x) own agrees = absurd (false≢true own)
own_keeps number d slots w (Discard p) own agrees = at_page_agrees number d slots w p discarded discarded_keeps agrees

-- a frame of a slot is below the frames of a machine
frame_small : (number : List ℕ → ℕ) (d : DomainView) (slots : List (Option Slot)) (w : Mappings) (k a : ℕ) (b : List ℕ) → Agrees number d slots w → bytes_at d k a ≡ Some b → a < d.frames
frame_small number d slots w k a b agrees is =
    let inside : a < length (machine_at d.machines k).frames = taken_within (machine_at d.machines k).frames a (is_there (bytes_at d k a) b is) in
    omega (arith, agrees.sizes k (machine_within d.machines k a inside), inside)

pub trims : (number : List ℕ → ℕ) (d : DomainView) (slots : List (Option Slot)) (w : Mappings) (m mpn x : ℕ)
    → Agrees number d slots w → m < length d.machines → mpn < d.frames → bytes_at d m mpn ≡ None → Plays w (Trim (region_frame d.frames m mpn) x ∷ []) (Agrees number d slots)
trims number d slots w m mpn x agrees lm lf free =
    one_plays w (record { pages = w.pages; frames = slice_set w.frames n x }) (Trim n x) (Agrees number d slots) (trim_possible w n x fits (unheld (is_held n w.pages) refl)) (record {
      holds = agrees.holds;
      are_held = agrees.are_held;
      contains = λ k a b is. frames.got_other w.frames n (region_frame d.frames k a) x (apart k a b is) ∙ agrees.contains k a b is;
      in_use = agrees.in_use;
      count = length-set w.frames n x ∙ agrees.count;
      sizes = agrees.sizes;
    }) where
      n : ℕ
      n = region_frame d.frames m mpn

      fits : region_frame d.frames m mpn < length w.frames
      fits = omega (arith, agrees.count, frame_within d.frames m mpn (length d.machines) lm lf)

      apart : (k a : ℕ) (b : List ℕ) → bytes_at d k a ≡ Some b → region_frame d.frames k a ≡ region_frame d.frames m mpn → ⊥
      apart k a b is e =
          let small : a < d.frames = frame_small number d slots w k a b agrees is in
          let f : k ≡ m = same_machine d.frames k a m mpn small lf e in
          let g : a ≡ mpn = same_frame d.frames k a m mpn small lf e in
          none-some b (sym free ∙ ap (λ i. bytes_at d i mpn) (sym f) ∙ ap (λ i. bytes_at d k i) (sym g) ∙ is)

      unheld : (b : Bool) → is_held (region_frame d.frames m mpn) w.pages ≡ b → is_held (region_frame d.frames m mpn) w.pages ≡ false
      unheld false e = e
      unheld true e =
          let h = holder d w.pages slots (region_frame d.frames m mpn) agrees.holds e in
          let b = the (bytes_at d h.slot.machine h.h.frame) (agrees.in_use h.slot h.h h.held) in
          absurd (apart h.slot.machine h.h.frame b.0 b.1 h.frame)

-- the slot of a page that holds a frame
record HoldsBy (d : DomainView) (o : Option (Option Slot)) (n : ℕ) : Type 0 where
  slot : Slot
  at : o ≡ Some (Some slot)
  h : Holding
  held : held_in d.machines slot ≡ Some h
  frame : n ≡ region_frame d.frames slot.machine h.frame

held_by_slot : (d : DomainView) (slot : Slot) (n : ℕ) (o : Option Holding) → held_in d.machines slot ≡ o → Some n ≡ option_map (λ h. region_frame d.frames slot.machine h.frame) o → HoldsBy d (Some (Some slot)) n
held_by_slot d slot n None is e = absurd (none-some n (sym e))
held_by_slot d slot n (Some h) is e = record { slot = slot; at = refl; h = h; held = is; frame = same_Some n (region_frame d.frames slot.machine h.frame) e }

holds_by : (d : DomainView) (o : Option (Option Slot)) (n : ℕ) → Some (Some n) ≡ option_map (frame_by d) o → HoldsBy d o n
holds_by d None n e = absurd (none-some (let x : Option ℕ = Some n in x) (sym e))
holds_by d (Some None) n e = absurd (none-some n (sym (same_Some (let x : Option ℕ = Some n in x) None e)))
holds_by d (Some (Some slot)) n e = held_by_slot d slot n (held_in d.machines slot) refl (same_Some (let x : Option ℕ = Some n in x) (frame_by d (Some slot)) e)

shows_by : (number : List ℕ → ℕ) (d : DomainView) (slots : List (Option Slot)) (w : Mappings) (p n : ℕ) (page : Page) → Agrees number d slots w → slice_get w.pages p ≡ Some page → page.held ≡ Some n → page.view ≡ Over n None
    → shown w p ≡ last w p → ShowsFrameOf number d slots (last w p) p n
shows_by number d slots w p n page agrees at held view is =
    let h = holds_by d (slice_get slots p) n (ap (λ (o : Option ℕ). Some o) (sym held) ∙ page_holds d w.pages slots p page agrees.holds at) in
    let b = the (bytes_at d h.slot.machine h.h.frame) (agrees.in_use h.slot h.h h.held) in
    let there : slice_get w.frames n ≡ Some (number b.0) = ap (slice_get w.frames) h.frame ∙ agrees.contains h.slot.machine h.h.frame b.0 b.1 in
    let wrote : last w p ≡ Some (number b.0) =
    sym is ∙ ap (option_map (λ (x : Page). shown_in w.frames x.view)) at ∙ ap (λ (v : View). Some (shown_in w.frames v)) view ∙ ap (λ (k : ℕ). Some k) (get_or_from_slice_get w.frames n (number b.0) 0 there) in
    record {
      slot = h.slot;
      has = h.at;
      holding = h.h;
      held = h.held;
      number_is = h.frame;
      bytes = b.0;
      frame_has = b.1;
      last = wrote;
      same = λ own e apart. apart (same_Some (number b.0) (number own) (sym wrote ∙ e));
    }

pub shows_bytes : (number : List ℕ → ℕ) (d : DomainView) (slots : List (Option Slot)) (contents fs : List ℕ) (es : List Event) (p n : ℕ) → let w = run step (start contents fs) es in
    Agrees number d slots w → view_of w p ≡ Some (Over n None) → ShowsFrameOf number d slots (last w p) p n
shows_bytes number d slots contents fs es p n agrees view = pick (run step (start contents fs) es) agrees view (holds_shown es p contents fs n view) (shows_last es p contents fs) where
  pick : (w : Mappings) → Agrees number d slots w → view_of w p ≡ Some (Over n None) → option_and_then (λ (x : Page). x.held) (slice_get w.pages p) ≡ Some n → shown w p ≡ last w p → ShowsFrameOf number d slots (last w p) p n
  pick w agrees view held is = made (slice_get w.pages p) refl view held where
    made : (o : Option Page) → slice_get w.pages p ≡ o → option_map (λ (x : Page). x.view) o ≡ Some (Over n None) → option_and_then (λ (x : Page). x.held) o ≡ Some n → ShowsFrameOf number d slots (last w p) p n
    made None e v h = absurd (none-some n h)
    made (Some page) e v h = shows_by number d slots w p n page agrees e h (same_Some page.view (Over n None) v) is
