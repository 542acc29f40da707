-- What requests do to a page, which is named by its guest and its number.
use Rattle.std.specs.Prelude.{ℕ, Bool, false, ◌==◌, ◌&&◌, if◌then◌else◌, List, Option, Some, None}
use Rattle.std.specs.List.{list_any}
use Rattle.page_model.specs.declared.request.Entry.{Entry}
use Rattle.page_model.specs.declared.request.Request.{Request}
use Rattle.page_model.specs.declared.request.Request.TheVariants.{Propose, Store, Load, Release, Count, Close}
use Rattle.page_forecasts.specs.declared.proposal.Upcoming.{Upcoming}
use Rattle.page_forecasts.specs.declared.proposal.Upcoming.TheVariants.{AtRest, Changing}

-- the request stores to this page of its guest or releases it
abbrev pub changes : Request → ℕ → Bool
changes (Store store) ppn = store.ppn == ppn
changes (Release released) ppn = released == ppn
changes (Propose proposed) ppn = false
changes (Load load) ppn = false
changes Count ppn = false
changes Close ppn = false

-- the request proposes this page of its guest
abbrev pub proposes : Request → ℕ → Bool
proposes (Propose proposed) ppn = proposed == ppn
proposes (Store store) ppn = false
proposes (Load load) ppn = false
proposes (Release released) ppn = false
proposes Count ppn = false
proposes Close ppn = false

-- one of these requests stores to the page or releases it
abbrev pub is_changed : List Entry → ℕ → ℕ → Bool
is_changed entries guest ppn = list_any (λ e. (e.guest == guest) && changes e.request ppn) entries

-- one of these requests proposes the page
abbrev pub is_proposed : List Entry → ℕ → ℕ → Bool
is_proposed entries guest ppn = list_any (λ e. (e.guest == guest) && proposes e.request ppn) entries

-- a page that is proposed after these requests, by whether they change it
abbrev pub as_left : List Entry → ℕ → ℕ → Upcoming
as_left before guest ppn = if is_changed before guest ppn then Changing ppn else AtRest ppn

-- the page that such a request of a guest proposes after these requests
abbrev pub upcoming_by : List Entry → ℕ → Request → Option Upcoming
upcoming_by before guest (Propose ppn) = Some (as_left before guest ppn)
upcoming_by before guest (Store store) = None
upcoming_by before guest (Load load) = None
upcoming_by before guest (Release released) = None
upcoming_by before guest Count = None
upcoming_by before guest Close = None

-- the same for a journal's entry
abbrev pub upcoming : List Entry → Entry → Option Upcoming
upcoming before entry = upcoming_by before entry.guest entry.request
