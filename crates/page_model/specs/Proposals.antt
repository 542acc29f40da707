-- What a proposal leaves unchanged, and when proposals make pages share.
use Rattle.std.specs.Prelude.{◌≡◌, ℕ, ◌+◌, ◌*◌, ◌^◌, ◌≤◌, true, List, [], ◌∷◌, Some, slice_index}
use Rattle.page_model.specs.Parts.{LoadParts}
use Rattle.page_model.specs.Pages.{Slot, Shared, Guest, State, bytes_of, is_mapped, has_hint, count_pages, page_at}
use Rattle.page_model.specs.Steps.{key_of, step}
use Rattle.page_model.specs.Replay.{Shape, empty_state, state_after}
use Rattle.page_model.specs.Stored.{byte_at}
use Rattle.page_model.specs.declared.request.Entry.{Entry}
use Rattle.page_model.specs.declared.request.Request.TheVariants.{Propose, Store, Load}

-- in every state, a proposal of this page changes no byte of any page of any guest
abbrev pub KeepsBytes : ℕ → ℕ → Type 0
KeepsBytes guest ppn =
    (hash : ℕ → List ℕ → ℕ) (s : State) (reader page k : ℕ) →
    byte_at (step hash s guest (Propose ppn)).state reader page k ≡ byte_at s reader page k

-- and after it each load of each guest is answered as it would have been before
abbrev pub KeepsLoads : ℕ → ℕ → Type 0
KeepsLoads guest ppn =
    (hash : ℕ → List ℕ → ℕ) (s : State) (reader : ℕ) (r : LoadParts) →
    (step hash (step hash s guest (Propose ppn)).state reader (Load r)).verdict ≡ (step hash s reader (Load r)).verdict

-- after this journal no key has two hints
abbrev pub OneHintAKey : List Entry → Type 0
OneHintAKey es =
    (hash : ℕ → List ℕ → ℕ) (total : ℕ) (shapes : List Shape) (key : ℕ) →
    count_pages (λ _. has_hint key) (state_after hash (empty_state total shapes) es).guests ≤ 1

-- the page has a frame, and its content is this salt and these bytes
pub record HasContent (guests : List Guest) (guest ppn salt : ℕ) (bytes : List ℕ) : Type 0 where
  pub slot : Slot
  pub at : page_at guests guest ppn ≡ Some (salt, slot)
  pub mapped : is_mapped slot ≡ true
  pub is : bytes_of slot ≡ bytes

-- among the contents that pages have now, no other has the key of this content
abbrev pub HasOwnKey : (ℕ → List ℕ → ℕ) → List Guest → ℕ → List ℕ → Type 0
HasOwnKey hash guests salt bytes =
    (guest ppn other : ℕ) (others : List ℕ) → HasContent guests guest ppn other others →
    key_of (hash other others) ≡ key_of (hash salt bytes) → (other ≡ salt) × (others ≡ bytes)

-- After this journal, two pages of equal content, whose key no other content has, are both shared once they were
-- proposed, one right after the other.
abbrev pub EqualPagesShare : List Entry → Type 0
EqualPagesShare es =
    (hash : ℕ → List ℕ → ℕ) (total : ℕ) (shapes : List Shape) (guest ppn other place salt : ℕ) (bytes : List ℕ) →
    let s = state_after hash (empty_state total shapes) es in
    (guest ≡ other → ppn ≡ place → ⊥) →
    HasContent s.guests guest ppn salt bytes → HasContent s.guests other place salt bytes → HasOwnKey hash s.guests salt bytes →
    let after = state_after hash s
    (record { guest = guest; request = Propose ppn } ∷ record { guest = other; request = Propose place } ∷ []) in
    (page_at after.guests guest ppn ≡ Some (salt, Shared bytes)) × (page_at after.guests other place ≡ Some (salt, Shared bytes))

-- a hash that is the first two bytes of a page: its key is the second byte alone
abbrev pub first_two : ℕ → List ℕ → ℕ
first_two salt bytes = slice_index bytes 0 * 2 ^ 32 + slice_index bytes 1

-- an entry of guest 0 that stores bytes at the head of a page
abbrev pub puts : ℕ → List ℕ → Entry
puts ppn bytes = record { guest = 0; request = Store (record { ppn = ppn; at = 0; bytes = bytes }) }

-- an entry of guest 0 that proposes a page
abbrev pub offers : ℕ → Entry
offers ppn = record { guest = 0; request = Propose ppn }

-- pages 1 and 2 are equal, and page 0, with another first byte, is the hint under their key
abbrev pub clashing : List Entry
clashing = puts 0 (65 ∷ 7 ∷ []) ∷ offers 0 ∷ puts 1 (66 ∷ 7 ∷ []) ∷ puts 2 (66 ∷ 7 ∷ []) ∷ offers 1 ∷ offers 2 ∷ []

-- a machine of three frames and one guest with three pages
abbrev pub three_pages : State
three_pages = empty_state 3 (record { salt = 0; pages = 3 } ∷ [])
