-- Guests' pages that are lent to a host, and shown from the frames of its file by private mappings.
use Rattle.std.specs.Prelude.{◌≡◌, ℕ, ◌==◌, nat_lt, Bool, true, false, not, ◌&&◌, ◌||◌, if◌then◌else◌, List, [], ◌∷◌, length, map}
use Rattle.std.specs.Prelude.{Option, Some, None, is_none, unwrap_or, option_map, option_and_then, slice_get, slice_index, slice_set}
use Rattle.std.specs.List.{list_any}
use Rattle.window_events.specs.declared.event.Event.{Event}
use Rattle.window_events.specs.declared.event.Event.TheVariants.{Write, Guard, Unguard, Copy, Lend, Map, Release, Trim, Discard}
use Rattle.window_events.specs.declared.page.Page.{Page}
use Rattle.window_events.specs.declared.page.View.{View}
use Rattle.window_events.specs.declared.page.View.TheVariants.{Own, Over}

-- the pages of all guests of all processes, and what the host's frames contain
pub record Mappings : Type 0 where
  pub pages : List Page
  pub frames : List ℕ

-- what a view shows
abbrev pub shown_in : List ℕ → View → ℕ
shown_in frames (Own x) = x
shown_in frames (Over n None) = slice_index frames n
shown_in frames (Over n (Some x)) = x

-- the view after a write: over a frame the kernel makes a copy, or writes to the one that it made
abbrev pub overwritten : View → ℕ → View
overwritten (Own old) x = Own x
overwritten (Over n copy) x = Over n (Some x)

-- the view shows a frame itself
abbrev pub is_bare : View → Bool
is_bare (Own x) = false
is_bare (Over n None) = true
is_bare (Over n (Some x)) = false

-- what was held is this frame
abbrev pub is_frame : ℕ → Option ℕ → Bool
is_frame n None = false
is_frame n (Some m) = m == n

-- some page holds the frame
abbrev pub is_held : ℕ → List Page → Bool
is_held n pages = list_any (λ page. is_frame n page.held) pages

-- the guest writes x, unless the page is guarded
abbrev pub written : ℕ → Page → Option Page
written x page = if page.guarded then None else Some (record page { view = overwritten page.view x; last = x })

-- writes wait from now on
abbrev pub guarded : Page → Option Page
guarded page = Some (record page { guarded = true })

-- the page with no guard: writes wait no longer, and nothing is fresh
abbrev pub lifted : Page → Page
lifted page = record page { guarded = false; copy_fresh = false; frame_fresh = false }

-- writes wait no longer
abbrev pub unguarded : Page → Option Page
unguarded page = Some (lifted page)

-- the lender copies what the page shows, if it is guarded
abbrev pub copied : List ℕ → Page → Option Page
copied frames page =
    if page.guarded then Some (record page { copy = Some (shown_in frames page.view); copy_fresh = true }) else None

-- the lender maps the frame that the page holds, if the page was guarded since the copy in that frame was made
abbrev pub mapped : Page → Option Page
mapped page = if page.frame_fresh then option_map (λ n. record (lifted page) { view = Over n None }) page.held else None

-- the page holds nothing more, unless it shows its frame
abbrev pub released : Page → Option Page
released page = if is_bare page.view then None else Some (record page { held = None; frame_fresh = false })

-- zeros are mapped in the page's place
abbrev pub discarded : Page → Option Page
discarded page = Some (record (lifted page) { view = Own 0; last = 0 })

-- the mappings with this page in place of another
abbrev pub with_page : Mappings → ℕ → Page → Mappings
with_page w p page = record { pages = slice_set w.pages p page; frames = w.frames }

-- one page changes
abbrev pub at_page : Mappings → ℕ → (Page → Option Page) → Option Mappings
at_page w p change = option_map (with_page w p) (option_and_then change (slice_get w.pages p))

-- the page holds frame n, which has its copy
abbrev pub holding : ℕ → Page → Page
holding n page = record page { copy = None; copy_fresh = false; held = Some n; frame_fresh = page.copy_fresh }

-- the page's copy x goes into frame n, which contains y: no page holds that frame, or it contains x already
abbrev pub lent : Mappings → ℕ → Page → ℕ → Option ℕ → Option ℕ → Option Mappings
lent w p page n (Some x) (Some y) =
    if is_none page.held && (not (is_held n w.pages) || y == x)
    then Some (record { pages = slice_set w.pages p (holding n page); frames = slice_set w.frames n x })
    else None
lent w p page n (Some x) None = None
lent w p page n None y = None

-- the frame n gets the content x, if the file has that frame and no page holds it
abbrev pub trimmed : Mappings → ℕ → ℕ → Option Mappings
trimmed w n x =
    if nat_lt n (length w.frames) && not (is_held n w.pages)
    then Some (record { pages = w.pages; frames = slice_set w.frames n x })
    else None

-- the mappings after an event, or none where the event isn't possible
abbrev pub step : Mappings → Event → Option Mappings
step w (Write p x) = at_page w p (written x)
step w (Guard p) = at_page w p guarded
step w (Unguard p) = at_page w p unguarded
step w (Copy p) = at_page w p (copied w.frames)
step w (Lend p n) = option_and_then (λ page. lent w p page n page.copy (slice_get w.frames n)) (slice_get w.pages p)
step w (Map p) = at_page w p mapped
step w (Release p) = at_page w p released
step w (Trim n x) = trimmed w n x
step w (Discard p) = at_page w p discarded

-- the mappings after these events by a protocol; one that isn't possible changes nothing
abbrev pub run : (Mappings → Event → Option Mappings) → Mappings → List Event → Mappings
run protocol w [] = w
run protocol w (e ∷ es) = run protocol (unwrap_or (protocol w e) w) es

-- a page with this content, memory of its own, and nothing lent
abbrev pub fresh : ℕ → Page
fresh x = record { view = Own x; last = x; guarded = false; copy = None; copy_fresh = false; held = None; frame_fresh = false }

-- the mappings before the first event: pages and frames with these contents
abbrev pub start : List ℕ → List ℕ → Mappings
start contents frames = record { pages = map fresh contents; frames = frames }

-- what a page shows
abbrev pub shown : Mappings → ℕ → Option ℕ
shown w p = option_map (λ page. shown_in w.frames page.view) (slice_get w.pages p)

-- what the page's guest wrote last
abbrev pub last : Mappings → ℕ → Option ℕ
last w p = option_map (λ page. page.last) (slice_get w.pages p)

-- how a page is seen
abbrev pub view_of : Mappings → ℕ → Option View
view_of w p = option_map (λ page. page.view) (slice_get w.pages p)

-- the frame that a page holds
abbrev pub held_by : Mappings → ℕ → Option ℕ
held_by w p = option_and_then (λ page. page.held) (slice_get w.pages p)

-- after these events, whatever the pages and frames contained first, each page shows what its guest wrote last
abbrev pub ShowsLast : List Event → ℕ → Type 0
ShowsLast es p = (contents frames : List ℕ) → let w = run step (start contents frames) es in shown w p ≡ last w p

-- after these events a page that shows a frame itself holds that frame
abbrev pub HoldsShown : List Event → ℕ → Type 0
HoldsShown es p =
    (contents frames : List ℕ) (n : ℕ) → let w = run step (start contents frames) es in
    view_of w p ≡ Some (Over n None) → held_by w p ≡ Some n

-- whatever the mappings, an event leaves a frame that some page holds as it was
abbrev pub KeepsHeld : Event → ℕ → Type 0
KeepsHeld e n = (w : Mappings) → is_held n w.pages ≡ true → slice_get (unwrap_or (step w e) w).frames n ≡ slice_get w.frames n

-- no event changes what a frame contains that a page shows after these events
abbrev pub KeepsShown : List Event → Event → ℕ → ℕ → Type 0
KeepsShown es e p n =
    (contents frames : List ℕ) → let w = run step (start contents frames) es in
    view_of w p ≡ Some (Over n None) → slice_get (unwrap_or (step w e) w).frames n ≡ slice_get w.frames n

-- what the event, if possible, makes page p show: its guest's write, or its discard
abbrev pub own_content : ℕ → Event → Option ℕ
own_content p (Write q x) = if q == p then Some x else None
own_content p (Discard q) = if q == p then Some 0 else None
own_content p (Guard q) = None
own_content p (Unguard q) = None
own_content p (Copy q) = None
own_content p (Lend q n) = None
own_content p (Map q) = None
own_content p (Release q) = None
own_content p (Trim n x) = None

-- after these events, any event but a write or a discard of the page leaves what it shows as it is
abbrev pub KeepsOthers : List Event → Event → ℕ → Type 0
KeepsOthers es e p =
    (contents frames : List ℕ) → let w = run step (start contents frames) es in
    own_content p e ≡ None → shown (unwrap_or (step w e) w) p ≡ shown w p

-- after these events, a write or a discard of the page that is possible makes it show that content
abbrev pub ShowsWritten : List Event → Event → ℕ → Type 0
ShowsWritten es e p =
    (contents frames : List ℕ) (x : ℕ) (after : Mappings) → let w = run step (start contents frames) es in
    own_content p e ≡ Some x → step w e ≡ Some after → shown after p ≡ Some x
