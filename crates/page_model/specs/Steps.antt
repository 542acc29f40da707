-- What each request does to the pages, and its verdict: one definition for each request, and for a proposal one for
-- each of its decisions. They look for pages by content alone, and don't mention frames.
use Rattle.std.specs.Prelude.{ℕ, ◌+◌, ◌%◌, ◌^◌, ◌==◌, true, ◌&&◌, if◌then◌else◌, List, take, drop, Option, Some, None}
use Rattle.std.specs.Str.{bytes_eq}
use Rattle.page_model.specs.Pages.{Slot, Unmapped, Private, Shared, Guest, State, blank, bytes_of, written, has_hint, is_shared_as}
use Rattle.page_model.specs.Pages.{is_shared_under, any_page, peers, used, find_page, page_at, with_slot, totals}
use Rattle.page_model.specs.declared.request.Request.{Request}
use Rattle.page_model.specs.declared.request.Request.TheVariants.{Propose, Store, Load, Release, Count, Close}
use Rattle.page_model.specs.declared.verdict.Verdict.{Verdict}
use Rattle.page_model.specs.declared.verdict.Verdict.TheVariants as v

-- the guests after a request, and its verdict
pub record Outcome : Type 0 where
  pub guests : List Guest
  pub verdict : Verdict

-- nothing changes
abbrev pub stays : List Guest → Verdict → Outcome
stays guests verdict = record { guests = guests; verdict = verdict }

-- one page changes
abbrev pub sets : List Guest → ℕ → ℕ → Slot → Verdict → Outcome
sets guests guest ppn slot verdict = record { guests = with_slot guests guest ppn slot; verdict = verdict }

-- A store of bytes at a place of a page that holds slot. A shared page is copied before it is written, unless it is
-- the last with its content: then the frame is its own again. A store that needs a frame when all are in use
-- changes nothing. A private page's hint stays, and the store may make it stale.
unfoldable pub stored : ℕ → List Guest → ℕ → ℕ → ℕ → List ℕ → ℕ → Slot → Outcome
stored total guests guest ppn at bytes salt Unmapped =
    if used guests == total
    then stays guests v.NoFrame
    else sets guests guest ppn (Private (written blank at bytes) None) v.Mapped
stored total guests guest ppn at bytes salt (Private old hint) = sets guests guest ppn (Private (written old at bytes) hint) v.Stored
stored total guests guest ppn at bytes salt (Shared old) =
    if peers salt old guests == 1
    then sets guests guest ppn (Private (written old at bytes) None) v.Taken
    else if used guests == total
    then stays guests v.NoFrame
    else sets guests guest ppn (Private (written old at bytes) None) v.Copied

-- a hint's key: the low 32 bits of the hash
abbrev pub key_of : ℕ → ℕ
key_of code = code % 2 ^ 32

-- a page's own hint, which is dropped if it is not under the key of the present bytes
abbrev pub kept_hint : ℕ → Option ℕ → Option ℕ
kept_hint key None = None
kept_hint key (Some own) = if own == key then Some own else None

-- Another page, with the content other_salt and others, holds the hint under the key. Its present content is hashed
-- again: if that has another key, the hint is stale and this page becomes the hint instead. Otherwise both contents are
-- compared in full: equal ones are shared, and a false match makes this page ineligible.
unfoldable pub weighed : (ℕ → List ℕ → ℕ) → List Guest → ℕ → ℕ → ℕ → List ℕ → ℕ → ℕ → ℕ → ℕ → List ℕ → Outcome
weighed hash guests guest ppn salt bytes key other place other_salt others =
    if key_of (hash other_salt others) == key
    then (if other_salt == salt && bytes_eq others bytes
    then sets (with_slot guests other place (Shared others)) guest ppn (Shared bytes) v.Paired
    else stays guests v.Ineligible)
    else sets (with_slot guests other place (Private others None)) guest ppn (Private bytes (Some key)) v.Replaced

-- what f returns for a guest's salt and page, and `NoPage` if there is no such page
abbrev pub on_page : List Guest → (ℕ → Slot → Outcome) → Option (ℕ × Slot) → Outcome
on_page guests f None = stays guests v.NoPage
on_page guests f (Some (salt, slot)) = f salt slot

-- what f returns for a page of a guest
abbrev pub at_page : List Guest → ℕ → ℕ → (ℕ → Slot → Outcome) → Outcome
at_page guests guest ppn f = on_page guests f (page_at guests guest ppn)

-- What happens depends on the page that holds the hint under the key: if none does, this page becomes the hint, and if
-- this page does, it stays the hint.
unfoldable pub by_hint : (ℕ → List ℕ → ℕ) → List Guest → ℕ → ℕ → ℕ → List ℕ → ℕ → Option (ℕ × ℕ) → Outcome
by_hint hash guests guest ppn salt bytes key None = sets guests guest ppn (Private bytes (Some key)) v.Hinted
by_hint hash guests guest ppn salt bytes key (Some (other, place)) =
    if other == guest && place == ppn
    then stays guests v.Kept
    else at_page guests other place (λ other_salt slot. weighed hash guests guest ppn salt bytes key other place other_salt (bytes_of slot))

-- no shared page has the hash of this page, so a hint is looked for
unfoldable pub offered : (ℕ → List ℕ → ℕ) → List Guest → ℕ → ℕ → ℕ → List ℕ → ℕ → Outcome
offered hash guests guest ppn salt bytes key = by_hint hash guests guest ppn salt bytes key (find_page (has_hint key) guests)

-- A private page is matched with the shared pages: it joins those with the same content, and otherwise a shared page of
-- other content with the same hash makes it ineligible.
unfoldable pub matched : (ℕ → List ℕ → ℕ) → List Guest → ℕ → ℕ → ℕ → List ℕ → ℕ → Outcome
matched hash guests guest ppn salt bytes code =
    let joined = with_slot guests guest ppn (Shared bytes) in
    if any_page (is_shared_as salt bytes) guests
    then stays joined (v.Joined (peers salt bytes joined))
    else if any_page (is_shared_under hash code) guests
    then stays guests v.Ineligible
    else offered hash guests guest ppn salt bytes (key_of code)

-- a proposal of a page that holds slot: only a private page is considered, and first its own hint, if under another key, is
-- dropped
unfoldable pub proposed : (ℕ → List ℕ → ℕ) → List Guest → ℕ → ℕ → ℕ → Slot → Outcome
proposed hash guests guest ppn salt Unmapped = stays guests v.Unmapped
proposed hash guests guest ppn salt (Shared bytes) = stays guests v.Already
proposed hash guests guest ppn salt (Private bytes hint) =
    let code = hash salt bytes in
    matched hash (with_slot guests guest ppn (Private bytes (kept_hint (key_of code) hint))) guest ppn salt bytes code

-- a release of a page that holds slot: the frame is free again if the page was private or the last with its content
unfoldable pub released : List Guest → ℕ → ℕ → ℕ → Slot → Outcome
released guests guest ppn salt Unmapped = stays guests v.Unmapped
released guests guest ppn salt (Private bytes hint) = sets guests guest ppn Unmapped (v.Released true)
released guests guest ppn salt (Shared bytes) = sets guests guest ppn Unmapped (v.Released (peers salt bytes guests == 1))

-- a load of len bytes at a place of a page that holds slot
abbrev pub loaded : List Guest → ℕ → ℕ → Slot → Outcome
loaded guests at len slot = stays guests (v.Bytes (record { items = take len (drop at (bytes_of slot)) }))

-- a request of a guest, in a state that already counts it among the entries
unfoldable pub answered : (ℕ → List ℕ → ℕ) → State → ℕ → Request → Outcome
answered hash s guest (Propose ppn) = at_page s.guests guest ppn (λ salt slot. proposed hash s.guests guest ppn salt slot)
answered hash s guest (Store r) = at_page s.guests guest r.ppn (λ salt slot. stored s.total s.guests guest r.ppn r.at r.bytes salt slot)
answered hash s guest (Load r) = at_page s.guests guest r.ppn (λ _ slot. loaded s.guests r.at r.len slot)
answered hash s guest (Release ppn) = at_page s.guests guest ppn (λ salt slot. released s.guests guest ppn salt slot)
answered hash s guest Count = stays s.guests (v.Totals (totals s.entries s.guests))
answered hash s guest Close = stays s.guests v.Closed

-- the state after a request, and its verdict
pub record Step : Type 0 where
  pub state : State
  pub verdict : Verdict

-- the state with other guests
abbrev pub with_guests : State → List Guest → State
with_guests s guests = record { total = s.total; guests = guests; entries = s.entries }

-- the state with one more entry
abbrev pub counted : State → State
counted s = record { total = s.total; guests = s.guests; entries = s.entries + 1 }

-- one request of a guest: it adds one to the entries, whatever its verdict
unfoldable pub step : (ℕ → List ℕ → ℕ) → State → ℕ → Request → Step
step hash s guest request =
    let outcome = answered hash (counted s) guest request in
    record { state = with_guests (counted s) outcome.guests; verdict = outcome.verdict }
