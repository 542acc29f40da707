-- Pages after slots were released: each page whose slot nobody holds now is released.
use Rattle.std.proofs.Common.{◌≡◌, ℕ, suc, ◌+◌, ◌*◌, Bool, true, false, cond, List, [], ◌∷◌, ◌++◌, length, map, Option, Some, None, refl, ap, sym, ◌∙◌, ◌⊎◌, inl, inr, subst, append_assoc, arith}
use Rattle.std.specs.Prelude.{slice_get, unwrap_or, is_some, is_none}
use Rattle.std.specs.Option.{option_map}
use Rattle.std.proofs.lemmas.List.{length-map, set_at, length_push}
use Rattle.std.proofs.lemmas.List.Elements.{All-map}
use Rattle.std.proofs.lemmas.Option.{none-some}
use Rattle.lent_slots.specs.declared.holding.Holding.{Holding}
use Rattle.lent_slots.specs.Slots.{MachineView}
use Rattle.share_domain.specs.declared.holding.Slot.{Slot}
use Rattle.share_domain.specs.Domains.{DomainView, held_in, region_frame, after_release}
use Rattle.share_domain.specs.Leaving.{Leaves}
use Rattle.window_events.specs.declared.event.Event.{Event}
use Rattle.window_events.specs.declared.event.Event.TheVariants.{Release}
use Rattle.window_events.specs.declared.page.Page.{Page}
use Rattle.window_events.specs.Windows.{Mappings, is_bare, step, run}
use Rattle.window_events.specs.Played.{refused_from}
use Rattle.window_events.proofs.Played.{refused_on}
use Rattle.window_domains.specs.Agreement.{frame_by, HasHeld, Agrees, Plays}
use Rattle.window_domains.specs.Calls.{is_lost, left, releases, NoneShown}
use Rattle.window_domains.proofs.Frames.{is_there}
use Rattle.window_domains.proofs.Shrinks.{Shrinks, release_shrinks, release_frames, leave_shrinks}

-- a page that holds nothing
abbrev given_up : Page → Page
given_up page = record page { held = None; frame_fresh = false }

-- a page whose slot is this one
abbrev page_left : DomainView → Option Slot → Page → Page
page_left d slot page = cond (is_lost d slot) (given_up page) page

-- the pages after their releases
abbrev pages_left : DomainView → List (Option Slot) → List Page → List Page
pages_left d [] pages = pages
pages_left d (slot ∷ slots) [] = []
pages_left d (slot ∷ slots) (page ∷ pages) = page_left d slot page ∷ pages_left d slots pages

-- no page shows its frame itself whose slot is lost, each beside its slot
abbrev NoneBare : DomainView → List (Option Slot) → List Page → Type 0
NoneBare d [] pages = Unit {0}
NoneBare d (slot ∷ slots) [] = Unit {0}
NoneBare d (slot ∷ slots) (page ∷ pages) = (is_lost d slot ≡ true → is_bare page.view ≡ false) × NoneBare d slots pages

none_bare : (d : DomainView) (slots : List (Option Slot)) (pages : List Page)
    → ((p : ℕ) (slot : Option Slot) (page : Page) → slice_get slots p ≡ Some slot → slice_get pages p ≡ Some page → is_lost d slot ≡ true → is_bare page.view ≡ false) → NoneBare d slots pages
none_bare d [] pages h = tt
none_bare d (slot ∷ slots) [] h = tt
none_bare d (slot ∷ slots) (page ∷ pages) h = (h 0 slot page refl refl, none_bare d slots pages (λ p s x e f. h (suc p) s x e f))

-- events that are possible one after the other, and where they lead
record Played (n : ℕ) (w : Mappings) (es : List Event) (after : Mappings) : Type 0 where
  possible : refused_from n w es ≡ None
  is : run step w es ≡ after

played_first : (n : ℕ) (w v after : Mappings) (e : Event) (es : List Event) → step w e ≡ Some v → Played (n + 1) v es after → Played n w (e ∷ es) after
played_first n w v after e es is rest = record {
  possible = refused_on n w e es (ap is_some is) ∙ ap (λ o. refused_from (n + 1) (unwrap_or o w) es) is ∙ rest.possible;
  is = ap (λ o. run step (unwrap_or o w) es) is ∙ rest.is;
}

at_front : (front pages : List Page) (page : Page) → slice_get (front ++ page ∷ pages) (length front) ≡ Some page
at_front [] pages page = refl
at_front (x ∷ front) pages page = at_front front pages page

release_page : (front pages : List Page) (frames : List ℕ) (page : Page) → is_bare page.view ≡ false
    → step (record { pages = front ++ page ∷ pages; frames = frames }) (Release (length front)) ≡ Some (record { pages = front ++ given_up page ∷ pages; frames = frames })
release_page front pages frames page bare =
    rw (at_front front pages page) (rw bare (ap (λ l. let w : Mappings = record { pages = l; frames = frames } in Some w) (set_at front page pages (given_up page) (length front) refl)))

releases_played : (d : DomainView) (frames : List ℕ) (slots : List (Option Slot)) (pages front all : List Page) (p n : ℕ) → all ≡ front ++ pages → p ≡ length front → length slots ≡ length pages → NoneBare d slots pages
    → Played n (record { pages = all; frames = frames }) (releases d p slots) (record { pages = front ++ pages_left d slots pages; frames = frames })
releases_played d frames [] pages front all p n e at same bare = record { possible = refl; is = ap (λ l. let w : Mappings = record { pages = l; frames = frames } in w) e }
releases_played d frames (slot ∷ slots) [] front all p n e at same bare = absurd (omega arith)
releases_played d frames (slot ∷ slots) (page ∷ pages) front all p n e at same bare =
    pick (is_lost d slot) bare.0 (λ x k. releases_played d frames slots pages (front ++ x ∷ []) (front ++ x ∷ pages) (p + 1) k (sym (append_assoc front (x ∷ []) pages)) (omega (arith, length_push front x)) (omega arith) bare.1) where
      pick : (b : Bool) → (b ≡ true → is_bare page.view ≡ false)
          → ((x : Page) (k : ℕ) → Played k (record { pages = front ++ x ∷ pages; frames = frames }) (releases d (p + 1) slots) (record { pages = (front ++ x ∷ []) ++ pages_left d slots pages; frames = frames }))
          → Played n (record { pages = all; frames = frames }) (cond b (Release p ∷ releases d (p + 1) slots) (releases d (p + 1) slots)) (record { pages = front ++ cond b (given_up page) page ∷ pages_left d slots pages; frames = frames })
      pick true shows rest =
          let whole : Played (n + 1) (record { pages = front ++ given_up page ∷ pages; frames = frames }) (releases d (p + 1) slots) (record { pages = front ++ given_up page ∷ pages_left d slots pages; frames = frames }) =
          subst (λ (l : List Page). Played (n + 1) (record { pages = front ++ given_up page ∷ pages; frames = frames }) (releases d (p + 1) slots) (record { pages = l; frames = frames })) (append_assoc front (given_up page ∷ []) (pages_left d slots pages)) (rest (given_up page) (n + 1)) in
          let first : step (record { pages = all; frames = frames }) (Release p) ≡ Some (record { pages = front ++ given_up page ∷ pages; frames = frames }) =
          ap (λ l. step (record { pages = l; frames = frames }) (Release p)) e ∙ ap (λ i. step (record { pages = front ++ page ∷ pages; frames = frames }) (Release i)) at ∙ release_page front pages frames page (shows refl) in
          played_first n (record { pages = all; frames = frames }) (record { pages = front ++ given_up page ∷ pages; frames = frames }) (record { pages = front ++ given_up page ∷ pages_left d slots pages; frames = frames }) (Release p) (releases d (p + 1) slots) first whole
      pick false shows rest =
          subst (λ (l : List Page). Played n (record { pages = l; frames = frames }) (releases d (p + 1) slots) (record { pages = front ++ page ∷ pages_left d slots pages; frames = frames })) (sym e)
          (subst (λ (l : List Page). Played n (record { pages = front ++ page ∷ pages; frames = frames }) (releases d (p + 1) slots) (record { pages = l; frames = frames })) (append_assoc front (page ∷ []) (pages_left d slots pages)) (rest page n))

-- what pages hold after their releases
left_holds : (d new : DomainView) (slot : Option Slot) (page : Page) → Shrinks d.machines new.machines → new.frames ≡ d.frames → page.held ≡ frame_by d slot
    → (cond (is_lost new slot) (given_up page) page).held ≡ frame_by new (left new slot)
left_holds d new None page s same e = e
left_holds d new (Some slot) page s same e = pick (held_in new.machines slot) refl (s.slots slot) where
  pick : (o : Option Holding) → held_in new.machines slot ≡ o → ((held_in new.machines slot ≡ None) ⊎ (held_in new.machines slot ≡ held_in d.machines slot))
      → (cond (is_none o) (given_up page) page).held ≡ frame_by new (cond (is_none o) None (Some slot))
  pick None is was = refl
  pick (Some h) is (inl none) = absurd (none-some h (sym none ∙ is))
  pick (Some h) is (inr was) =
      e ∙ ap (option_map (λ (x : Holding). region_frame d.frames slot.machine x.frame)) (sym was)
      ∙ ap (λ k. option_map (λ (x : Holding). region_frame k slot.machine x.frame) (held_in new.machines slot)) (sym same)

heads : (x y : Option ℕ) (xs ys : List (Option ℕ)) → x ∷ xs ≡ y ∷ ys → (x ≡ y) × (xs ≡ ys)
heads x y xs ys e = (cc, cc)

all_hold : (d new : DomainView) (slots : List (Option Slot)) (pages : List Page) → Shrinks d.machines new.machines → new.frames ≡ d.frames → map (λ (x : Page). x.held) pages ≡ map (frame_by d) slots
    → map (λ (x : Page). x.held) (pages_left new slots pages) ≡ map (frame_by new) (map (left new) slots)
all_hold d new [] [] s same e = refl
all_hold d new [] (page ∷ pages) s same e = cc
all_hold d new (slot ∷ slots) [] s same e = cc
all_hold d new (slot ∷ slots) (page ∷ pages) s same e =
    let h = heads page.held (frame_by d slot) (map (λ (x : Page). x.held) pages) (map (frame_by d) slots) e in
    ap (λ (x : Option ℕ). x ∷ map (λ (x : Page). x.held) (pages_left new slots pages)) (left_holds d new slot page s same h.0)
    ∙ ap (λ (l : List (Option ℕ)). frame_by new (left new slot) ∷ l) (all_hold d new slots pages s same h.1)

left_held : (d : DomainView) (slot : Option Slot) → HasHeld d (left d slot)
left_held d None = tt
left_held d (Some slot) = pick (held_in d.machines slot) refl where
  pick : (o : Option Holding) → held_in d.machines slot ≡ o → HasHeld d (cond (is_none o) None (Some slot))
  pick None e = tt
  pick (Some h) e = is_there (held_in d.machines slot) h e

-- slots were released, by any call
released_by_events : (number : List ℕ → ℕ) (d new : DomainView) (slots : List (Option Slot)) (w : Mappings) → Shrinks d.machines new.machines → new.frames ≡ d.frames
    → Agrees number d slots w → NoneShown new slots w → Plays w (releases new 0 slots) (Agrees number new (map (left new) slots))
released_by_events number d new slots w s same agrees shown =
    let sizes : length slots ≡ length w.pages = sym (length-map slots (frame_by d)) ∙ ap (λ (l : List (Option ℕ)). length l) (sym agrees.holds) ∙ length-map w.pages (λ (x : Page). x.held) in
    let p : Played 0 (record { pages = w.pages; frames = w.frames }) (releases new 0 slots) (record { pages = pages_left new slots w.pages; frames = w.frames }) =
    releases_played new w.frames slots w.pages [] w.pages 0 0 refl refl sizes (none_bare new slots w.pages shown) in
    record {
      possible = p.possible;
      after = subst (Agrees number new (map (left new) slots)) (sym p.is) (record {
        holds = all_hold d new slots w.pages s same agrees.holds;
        are_held = All-map (HasHeld new) (left new) slots (λ k x l. left_held new _);
        contains = λ m mpn bytes is. ap (λ k. slice_get w.frames (region_frame k m mpn)) same ∙ agrees.contains m mpn bytes (s.bytes m mpn bytes is);
        in_use = λ slot h held. (s.uses (record { each = agrees.in_use })).each slot h held;
        count = agrees.count ∙ counts (length d.machines) (length new.machines) d.frames new.frames s.count same;
        sizes = λ m l. s.sizes m ∙ agrees.sizes m (omega (arith, s.count)) ∙ sym same;
      });
    } where
      counts : (a b f g : ℕ) → b ≡ a → g ≡ f → a * f ≡ b * g
      counts a b f g e h = cc

pub releases_by_events : (number : List ℕ → ℕ) (d : DomainView) (slots : List (Option Slot)) (w : Mappings) (client : ℕ) (slot : Slot)
    → Agrees number d slots w → NoneShown (after_release client slot d) slots w → Plays w (releases (after_release client slot d) 0 slots) (Agrees number (after_release client slot d) (map (left (after_release client slot d)) slots))
releases_by_events number d slots w client slot agrees shown =
    released_by_events number d (after_release client slot d) slots w (release_shrinks client slot d) (release_frames client slot d) agrees shown

pub leaves_by_events : (number : List ℕ → ℕ) (d new : DomainView) (slots : List (Option Slot)) (w : Mappings) (client count : ℕ) (room after : List ℕ)
    → Agrees number d slots w → Leaves client count room after d new → NoneShown new slots w → Plays w (releases new 0 slots) (Agrees number new (map (left new) slots))
leaves_by_events number d new slots w client count room after agrees l shown =
    released_by_events number d new slots w
    (subst (λ (x : List MachineView). Shrinks d.machines x) (sym (ap (λ (x : DomainView). x.machines) l.now)) (leave_shrinks d.frames client (length room) d.machines))
    (ap (λ (x : DomainView). x.frames) l.now) agrees shown
