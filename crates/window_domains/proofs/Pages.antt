-- Events, and the frames that pages hold by their slots.
use Rattle.std.proofs.Common.{◌≡◌, ℕ, ◌<◌, Bool, true, false, cond, not, ◌&&◌, ◌||◌, List, [], ◌∷◌, length, map, Option, Some, None, refl, ap, sym, ◌∙◌, ◌⊎◌, inl, inr, subst}
use Rattle.std.specs.Prelude.{slice_get, slice_set, nat_eq, unwrap_or, is_some, is_none}
use Rattle.std.specs.Option.{option_map}
use Rattle.std.specs.List.{list_any}
use Rattle.std.proofs.lemmas.Bool.{false≢true, eqb-true, eq-eqb, lt-ltb}
use Rattle.std.proofs.lemmas.Option.{slice_get-map, same_Some, none-some}
use Rattle.lent_slots.specs.declared.holding.Holding.{Holding}
use Rattle.share_domain.specs.declared.holding.Slot.{Slot}
use Rattle.share_domain.specs.Domains.{DomainView, held_in, region_frame}
use Rattle.window_events.specs.declared.event.Event.{Event}
use Rattle.window_events.specs.declared.event.Event.TheVariants.{Lend, Trim}
use Rattle.window_events.specs.declared.page.Page.{Page}
use Rattle.window_events.specs.Windows.{Mappings, is_frame, is_held, holding, step}
use Rattle.window_events.proofs.Played.{refused_on}
use Rattle.window_domains.specs.Agreement.{frame_by, Plays}

-- one event that is possible
pub one_plays : (w v : Mappings) (e : Event) (P : Mappings → Type 0) → step w e ≡ Some v → P v → Plays w (e ∷ []) P
one_plays w v e P is h = record {
  possible = refused_on 0 w e [] (ap is_some is);
  after = subst P (sym (ap (λ o. unwrap_or o w) is)) h;
}

pub none_plays : (w : Mappings) (P : Mappings → Type 0) → P w → Plays w [] P
none_plays w P h = record { possible = refl; after = h }

-- a page holds the frame of its slot
pub page_holds : (d : DomainView) (pages : List Page) (slots : List (Option Slot)) (p : ℕ) (page : Page) → map (λ x. x.held) pages ≡ map (frame_by d) slots
    → slice_get pages p ≡ Some page → Some page.held ≡ option_map (frame_by d) (slice_get slots p)
page_holds d pages slots p page e at =
    sym (ap (option_map (λ (x : Page). x.held)) at) ∙ sym (slice_get-map (λ (x : Page). x.held) pages p) ∙ ap (λ l. slice_get l p) e ∙ slice_get-map (frame_by d) slots p

-- a page with no slot holds none
pub holds_none : (d : DomainView) (pages : List Page) (slots : List (Option Slot)) (p : ℕ) (page : Page) → map (λ x. x.held) pages ≡ map (frame_by d) slots
    → slice_get pages p ≡ Some page → slice_get slots p ≡ Some None → page.held ≡ None
holds_none d pages slots p page e at none = same_Some page.held None (page_holds d pages slots p page e at ∙ ap (option_map (frame_by d)) none)

-- a slot that has a frame
pub record Holder (d : DomainView) (n : ℕ) : Type 0 where
  pub slot : Slot
  pub h : Holding
  pub held : held_in d.machines slot ≡ Some h
  pub frame : region_frame d.frames slot.machine h.frame ≡ n

slot_holder : (d : DomainView) (n : ℕ) (slot : Slot) (rest : Bool) (o : Option Holding) → held_in d.machines slot ≡ o
    → (is_frame n (option_map (λ h. region_frame d.frames slot.machine h.frame) o) || rest) ≡ true → (rest ≡ true → Holder d n) → Holder d n
slot_holder d n slot rest None is e later = later e
slot_holder d n slot rest (Some h) is e later = pick (nat_eq (region_frame d.frames slot.machine h.frame) n) refl e where
  pick : (b : Bool) → nat_eq (region_frame d.frames slot.machine h.frame) n ≡ b → (b || rest) ≡ true → Holder d n
  pick true t f = record { slot = slot; h = h; held = is; frame = eqb-true (region_frame d.frames slot.machine h.frame) n t }
  pick false t f = later f

holder_in : (d : DomainView) (n : ℕ) (slots : List (Option Slot)) → list_any (is_frame n) (map (frame_by d) slots) ≡ true → Holder d n
holder_in d n [] e = absurd (false≢true e)
holder_in d n (None ∷ slots) e = holder_in d n slots e
holder_in d n (Some slot ∷ slots) e = slot_holder d n slot (list_any (is_frame n) (map (frame_by d) slots)) (held_in d.machines slot) refl e (λ f. holder_in d n slots f)

any_map : (n : ℕ) (pages : List Page) → is_held n pages ≡ list_any (is_frame n) (map (λ x. x.held) pages)
any_map n [] = refl
any_map n (page ∷ pages) = ap (λ b. is_frame n page.held || b) (any_map n pages)

-- a frame that some page holds is a slot's
pub holder : (d : DomainView) (pages : List Page) (slots : List (Option Slot)) (n : ℕ) → map (λ x. x.held) pages ≡ map (frame_by d) slots → is_held n pages ≡ true → Holder d n
holder d pages slots n e h = holder_in d n slots (sym (any_map n pages ∙ ap (list_any (is_frame n)) e) ∙ h)

-- a lend is possible
pub lend_possible : (w : Mappings) (p n x y : ℕ) (page : Page) → slice_get w.pages p ≡ Some page → page.copy ≡ Some x → page.held ≡ None → slice_get w.frames n ≡ Some y
    → ((is_held n w.pages ≡ false) ⊎ (y ≡ x)) → step w (Lend p n) ≡ Some (record { pages = slice_set w.pages p (holding n page); frames = slice_set w.frames n x })
lend_possible w p n x y page at copy none is may =
    rw at (rw (copy, is) (test (record { pages = slice_set w.pages p (holding n page); frames = slice_set w.frames n x }) page.held (is_held n w.pages) (nat_eq y x) none (choose may))) where
      choose : ((is_held n w.pages ≡ false) ⊎ (y ≡ x)) → ((is_held n w.pages ≡ false) ⊎ (nat_eq y x ≡ true))
      choose (inl f) = inl f
      choose (inr e) = inr (eq-eqb y x e)

      test : (v : Mappings) (o : Option ℕ) (b t : Bool) → o ≡ None → ((b ≡ false) ⊎ (t ≡ true)) → cond (is_none o && (not b || t)) (Some v) None ≡ Some v
      test v (Some m) b t e m' = absurd (none-some m (sym e))
      test v None false t e m' = refl
      test v None true true e m' = refl
      test v None true false e (inl f) = absurd (false≢true (sym f))
      test v None true false e (inr f) = absurd (false≢true f)

-- a trim is possible
pub trim_possible : (w : Mappings) (n x : ℕ) → n < length w.frames → is_held n w.pages ≡ false → step w (Trim n x) ≡ Some (record { pages = w.pages; frames = slice_set w.frames n x })
trim_possible w n x l free = rw (lt-ltb n (length w.frames) l, free) refl
