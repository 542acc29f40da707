-- The guests with one salt, in a journal and in what is left of it without the entries of all other guests.
use Rattle.std.specs.Prelude.{◌≡◌, ℕ, zero, suc, ◌==◌, Bool, true, false, List, [], ◌∷◌, ◌++◌, map, Option, Some, None, slice_get, filter}
use Rattle.std.specs.List.{list_any, Contains}
use Rattle.page_model.specs.Parts.{Totals}
use Rattle.page_model.specs.Pages.{Slot, Unmapped, Private, Shared, Guest, State, page_at}
use Rattle.page_model.specs.Steps.{key_of, step}
use Rattle.page_model.specs.Replay.{Shape, empty_state, state_after}
use Rattle.page_model.specs.Journal.{answers}
use Rattle.page_model.specs.Alone.{is_no_frame}
use Rattle.page_model.specs.declared.request.Entry.{Entry}
use Rattle.page_model.specs.declared.request.Request.{Request}
use Rattle.page_model.specs.declared.request.Request.TheVariants.{Propose, Store, Load, Release, Count, Close}
use Rattle.page_model.specs.declared.verdict.Verdict.{Verdict}
use Rattle.page_model.specs.declared.verdict.Verdict.TheVariants as v

-- whether there is such a guest and it has this salt
abbrev pub has_salt : ℕ → List Shape → ℕ → Bool
has_salt salt [] guest = false
has_salt salt (shape ∷ shapes) zero = shape.salt == salt
has_salt salt (shape ∷ shapes) (suc guest) = has_salt salt shapes guest

-- the entries of the guests with this salt, in order: the journal without all others
abbrev pub of_salt : ℕ → List Shape → List Entry → List Entry
of_salt salt shapes es = filter (λ e. has_salt salt shapes e.guest) es

-- a report of zeros
abbrev pub no_totals : Totals
no_totals = record { entries = 0; mapped = 0; shared = 0; frames = 0; reclaimed = 0; hints = 0 }

-- a verdict without the numbers of a report, which are those of the whole machine
abbrev pub without_totals : Verdict → Verdict
without_totals (v.Totals report) = v.Totals no_totals
without_totals verdict = verdict

-- the salt of a guest that proposed a page, and the key under which the page was looked for
abbrev pub SaltedKey : Type 0
SaltedKey = ℕ × ℕ

-- the key under which a page is looked for when it is proposed: that of its content then. Only a private page is looked for
abbrev pub key_of_page : (ℕ → List ℕ → ℕ) → Option (ℕ × Slot) → List SaltedKey
key_of_page hash None = []
key_of_page hash (Some (salt, Unmapped)) = []
key_of_page hash (Some (salt, Private bytes hint)) = (salt, key_of (hash salt bytes)) ∷ []
key_of_page hash (Some (salt, Shared bytes)) = []

-- the key under which a request of a guest proposes a page, if it does
abbrev pub key_proposed : (ℕ → List ℕ → ℕ) → List Guest → ℕ → Request → List SaltedKey
key_proposed hash guests guest (Propose ppn) = key_of_page hash (page_at guests guest ppn)
key_proposed hash guests guest (Store r) = []
key_proposed hash guests guest (Load r) = []
key_proposed hash guests guest (Release ppn) = []
key_proposed hash guests guest Count = []
key_proposed hash guests guest Close = []

-- the keys under which the entries of a journal propose pages, in order
unfoldable pub keys_proposed : (ℕ → List ℕ → ℕ) → State → List Entry → List SaltedKey
keys_proposed hash s [] = []
keys_proposed hash s (e ∷ es) = key_proposed hash s.guests e.guest e.request ++ keys_proposed hash (step hash s e.guest e.request).state es

-- each key under which a page of this salt was proposed belongs to this salt alone
abbrev pub KeysApart : ℕ → List SaltedKey → Type 0
KeysApart salt keys = (other key : ℕ) → Contains keys (salt, key) → Contains keys (other, key) → other ≡ salt

-- no guest with this salt was refused a frame
abbrev pub NoneRefused : (ℕ → List ℕ → ℕ) → State → ℕ → List Shape → List Entry → Type 0
NoneRefused hash s salt shapes es = (guest : ℕ) → has_salt salt shapes guest ≡ true → list_any is_no_frame (answers hash s guest es) ≡ false

-- In the replay of the whole journal no guest with this salt was refused a frame, and no key under which such a guest
-- proposed a page is one under which a guest with another salt did.
abbrev pub AreUndisturbed : (ℕ → List ℕ → ℕ) → State → ℕ → List Shape → List Entry → Type 0
AreUndisturbed hash s salt shapes es = NoneRefused hash s salt shapes es × KeysApart salt (keys_proposed hash s es)

-- if so, each of these guests is answered as without the entries of all others, but for the numbers of a report
abbrev pub VerdictsAsApart : List Entry → ℕ → Type 0
VerdictsAsApart es salt =
    (hash : ℕ → List ℕ → ℕ) (total : ℕ) (shapes : List Shape) →
    let s = empty_state total shapes in
    AreUndisturbed hash s salt shapes es → (guest : ℕ) → has_salt salt shapes guest ≡ true →
    map without_totals (answers hash s guest es) ≡ map without_totals (answers hash s guest (of_salt salt shapes es))

-- and at the end it has the same pages: the same bytes, shared or not, and with the same hints
abbrev pub PagesAsApart : List Entry → ℕ → Type 0
PagesAsApart es salt =
    (hash : ℕ → List ℕ → ℕ) (total : ℕ) (shapes : List Shape) →
    let s = empty_state total shapes in
    AreUndisturbed hash s salt shapes es → (guest : ℕ) → has_salt salt shapes guest ≡ true →
    slice_get (state_after hash s es).guests guest ≡ slice_get (state_after hash s (of_salt salt shapes es)).guests guest
