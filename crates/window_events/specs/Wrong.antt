-- Protocols that lack one condition, and events by which a page then loses what its guest wrote.
use Rattle.std.specs.Prelude.{ℕ, true, false, List, [], ◌∷◌, Option, Some, None, is_none, option_map, option_and_then, if◌then◌else◌, slice_get, slice_set}
use Rattle.window_events.specs.Windows.{Mappings, shown_in, overwritten, at_page, holding, lent, step, run, start, shown, last}
use Rattle.window_events.specs.declared.event.Event.{Event}
use Rattle.window_events.specs.declared.event.Event.TheVariants.{Write, Guard, Unguard, Copy, Lend, Map, Release, Trim, Discard}
use Rattle.window_events.specs.declared.page.Page.{Page}
use Rattle.window_events.specs.declared.page.View.{View}
use Rattle.window_events.specs.declared.page.View.TheVariants.{Own, Over}

-- two pages, with contents 1 and 2, and two frames of zeros
abbrev pub two_pages : Mappings
two_pages = start (1 ∷ 2 ∷ []) (0 ∷ 0 ∷ [])

-- what page 0 shows after these events by this protocol, and what its guest wrote last
abbrev pub outcome : (Mappings → Event → Option Mappings) → List Event → Option ℕ × Option ℕ
outcome protocol es = (shown (run protocol two_pages es) 0, last (run protocol two_pages es) 0)

-- a guard holds no write back
abbrev pub writes_guarded : Mappings → Event → Option Mappings
writes_guarded w (Write p x) = at_page w p (λ page. Some (record page { view = overwritten page.view x; last = x }))
writes_guarded w e = step w e

-- and the guest writes after the copy
abbrev pub written_late : List Event
written_late = Guard 0 ∷ Copy 0 ∷ Write 0 3 ∷ Lend 0 0 ∷ Map 0 ∷ []

-- a write of p's guest by this view, where a write to a frame reaches the frame itself
abbrev pub through : Mappings → ℕ → ℕ → Page → View → Option Mappings
through w p x page (Own old) = step w (Write p x)
through w p x page (Over n (Some old)) = step w (Write p x)
through w p x page (Over n None) =
    if page.guarded then None
    else Some (record { pages = slice_set w.pages p (record page { last = x }); frames = slice_set w.frames n x })

-- frames are mapped shared, and not as private copies
abbrev pub writes_through : Mappings → Event → Option Mappings
writes_through w (Write p x) = option_and_then (λ page. through w p x page page.view) (slice_get w.pages p)
writes_through w e = step w e

-- and a guest writes to a frame that two pages show
abbrev pub written_shared : List Event
written_shared =
    Write 1 1 ∷ Guard 0 ∷ Copy 0 ∷ Lend 0 0 ∷ Map 0 ∷ Guard 1 ∷ Copy 1 ∷ Lend 1 0 ∷ Map 1 ∷ Write 1 3 ∷ []

-- the lender copies a page that isn't guarded
abbrev pub copies_unguarded : Mappings → Event → Option Mappings
copies_unguarded w (Copy p) = at_page w p (λ page. Some (record page { copy = Some (shown_in w.frames page.view); copy_fresh = true }))
copies_unguarded w e = step w e

-- and the guest writes before the guard
abbrev pub copied_early : List Event
copied_early = Copy 0 ∷ Write 0 3 ∷ Guard 0 ∷ Lend 0 0 ∷ Map 0 ∷ []

-- the lender maps a frame even though the guard was lifted
abbrev pub maps_unguarded : Mappings → Event → Option Mappings
maps_unguarded w (Map p) = at_page w p (λ page. option_map (λ n. record page { view = Over n None; guarded = false }) page.held)
maps_unguarded w e = step w e

-- and the guest writes in between
abbrev pub unguarded_early : List Event
unguarded_early = Guard 0 ∷ Copy 0 ∷ Lend 0 0 ∷ Unguard 0 ∷ Write 0 3 ∷ Map 0 ∷ []

-- the lender maps a frame because the page was guarded since its latest copy, which isn't in that frame yet
abbrev pub maps_by_latest_copy : Mappings → Event → Option Mappings
maps_by_latest_copy w (Map p) =
    at_page w p (λ page. if page.copy_fresh then option_map (λ n. record page { view = Over n None; guarded = false; copy_fresh = false }) page.held else None)
maps_by_latest_copy w e = step w e

-- and the frame has an earlier one
abbrev pub copied_again : List Event
copied_again = Guard 0 ∷ Copy 0 ∷ Lend 0 0 ∷ Unguard 0 ∷ Write 0 3 ∷ Guard 0 ∷ Copy 0 ∷ Map 0 ∷ []

-- a copy counts as fresh in its frame because the page is guarded when it is lent
abbrev pub lends_stale : Mappings → Event → Option Mappings
lends_stale w (Lend p n) =
    option_and_then (λ page. lent w p (record page { copy_fresh = page.guarded }) n page.copy (slice_get w.frames n)) (slice_get w.pages p)
lends_stale w e = step w e

-- and the guard was lifted since it was made
abbrev pub guarded_again : List Event
guarded_again = Guard 0 ∷ Copy 0 ∷ Unguard 0 ∷ Write 0 3 ∷ Guard 0 ∷ Lend 0 0 ∷ Map 0 ∷ []

-- the lender takes what it has mapped to be guarded still
abbrev pub maps_again : Mappings → Event → Option Mappings
maps_again w (Map p) =
    at_page w p (λ page. if page.frame_fresh then option_map (λ n. record page { view = Over n None; guarded = false }) page.held else None)
maps_again w e = step w e

-- and maps it a second time
abbrev pub mapped_twice : List Event
mapped_twice = Guard 0 ∷ Copy 0 ∷ Lend 0 0 ∷ Map 0 ∷ Write 0 3 ∷ Map 0 ∷ []

-- the lender takes a page that was discarded to be guarded still
abbrev pub discards_guarded : Mappings → Event → Option Mappings
discards_guarded w (Discard p) = at_page w p (λ page. Some (record page { view = Own 0; last = 0 }))
discards_guarded w e = step w e

-- and maps the frame that the page holds still
abbrev pub discarded_late : List Event
discarded_late = Guard 0 ∷ Copy 0 ∷ Lend 0 0 ∷ Discard 0 ∷ Map 0 ∷ []

-- a frame is released while its page shows it
abbrev pub releases_shown : Mappings → Event → Option Mappings
releases_shown w (Release p) = at_page w p (λ page. Some (record page { held = None; frame_fresh = false }))
releases_shown w e = step w e

-- and gets another content
abbrev pub released_early : List Event
released_early = Guard 0 ∷ Copy 0 ∷ Lend 0 0 ∷ Map 0 ∷ Release 0 ∷ Trim 0 3 ∷ []

-- a frame that a page holds is trimmed
abbrev pub trims_held : Mappings → Event → Option Mappings
trims_held w (Trim n x) = Some (record { pages = w.pages; frames = slice_set w.frames n x })
trims_held w e = step w e

-- while the page shows it
abbrev pub trimmed_early : List Event
trimmed_early = Guard 0 ∷ Copy 0 ∷ Lend 0 0 ∷ Map 0 ∷ Trim 0 3 ∷ []

-- a copy goes into a frame, whoever holds that frame
abbrev pub overlent : Mappings → ℕ → ℕ → Page → Option ℕ → Option Mappings
overlent w p n page (Some x) = Some (record { pages = slice_set w.pages p (holding n page); frames = slice_set w.frames n x })
overlent w p n page None = None

-- a page is lent a frame that others hold with another content
abbrev pub lends_held : Mappings → Event → Option Mappings
lends_held w (Lend p n) = option_and_then (λ page. if is_none page.held then overlent w p n page page.copy else None) (slice_get w.pages p)
lends_held w e = step w e

-- and they show it
abbrev pub lent_twice : List Event
lent_twice = Guard 0 ∷ Copy 0 ∷ Lend 0 0 ∷ Map 0 ∷ Guard 1 ∷ Copy 1 ∷ Lend 1 0 ∷ []

-- a page is lent a free frame while it holds another one
abbrev pub lends_holders : Mappings → Event → Option Mappings
lends_holders w (Lend p n) =
    option_and_then (λ page. lent w p (record page { held = None }) n page.copy (slice_get w.frames n)) (slice_get w.pages p)
lends_holders w e = step w e

-- and nobody holds the one that it shows
abbrev pub lent_anew : List Event
lent_anew = Guard 0 ∷ Copy 0 ∷ Lend 0 0 ∷ Map 0 ∷ Guard 0 ∷ Copy 0 ∷ Lend 0 1 ∷ Trim 0 3 ∷ []

-- two pages of one content share a frame, and the guest of the second writes to it
abbrev pub shared_then_written : List Event
shared_then_written =
    Write 1 1 ∷ Guard 0 ∷ Guard 1 ∷ Copy 0 ∷ Copy 1 ∷ Lend 1 1 ∷ Lend 0 1 ∷ Map 0 ∷ Map 1 ∷ Guard 1 ∷ Write 1 3 ∷ Unguard 1 ∷ Write 1 4 ∷ Release 1 ∷ []
