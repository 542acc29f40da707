-- The lines after a text's head: a request of a guest, or the end.
use Rattle.std.specs.Prelude.{◌≡◌, ℕ, ◌+◌, ◌==◌, ◌||◌, nat_lt, Bool, true, false, if◌then◌else◌, List, length, Option, Some, None, Result, Ok, Err, IfOk, slice_get, codes}
use Rattle.std.specs.Str.{bytes_eq}
use Rattle.page_model.specs.Closing.{is_close}
use Rattle.page_model.specs.declared.request.Entry.{Entry}
use Rattle.page_model.specs.declared.request.Request.{Request}
use Rattle.page_model.specs.declared.request.Request.TheVariants.{Propose, Store, Load, Release, Count, Close}
use Rattle.page_model.specs.declared.limits.TheConstants.{MAX_ACCESS_BYTES, PAGE_BYTES}
use Rattle.text_words.specs.declared.fault.Cause.{Cause}
use Rattle.text_words.specs.declared.fault.Cause.TheVariants.{Form, NoGuest, AfterClose, Length, Crosses}
use Rattle.journal_text.specs.declared.request.Line.{Line}
use Rattle.journal_text.specs.declared.request.Line.TheVariants.{Enters, Ends}
use Rattle.text_words.specs.Words.{◌>>=◌, word_at, nothing_at, number, number_at, bytes_in}

-- a store of these bytes, or what is wrong with its numbers
abbrev pub stored : ℕ → ℕ → List ℕ → Result Request Cause
stored ppn at bytes =
    if length bytes == 0 || nat_lt MAX_ACCESS_BYTES (length bytes) then Err Length
    else if nat_lt PAGE_BYTES (at + length bytes) then Err Crosses
    else Ok (Store (record { ppn = ppn; at = at; bytes = bytes }))

-- a load of len bytes, or what is wrong with its numbers
abbrev pub loaded : ℕ → ℕ → ℕ → Result Request Cause
loaded ppn at len =
    if len == 0 || nat_lt MAX_ACCESS_BYTES len then Err Length
    else if nat_lt PAGE_BYTES (at + len) then Err Crosses
    else Ok (Load (record { ppn = ppn; at = at; len = len }))

-- What comes after the word that names a request. The outer answer is about the form, which is checked before everything else;
-- the inner one is the request, or what is wrong with its numbers.
unfoldable pub propose_at : Option (List ℕ) → Result (Result Request Cause) Cause
propose_at left = do
  ppn ← number_at left
  _ ← nothing_at ppn.1
  Ok (Ok (Propose ppn.0))

unfoldable pub store_at : Option (List ℕ) → Result (Result Request Cause) Cause
store_at left = do
  ppn ← number_at left
  at ← number_at ppn.1
  word ← word_at at.1
  bytes ← bytes_in word.0
  _ ← nothing_at word.1
  Ok (stored ppn.0 at.0 bytes)

unfoldable pub load_at : Option (List ℕ) → Result (Result Request Cause) Cause
load_at left = do
  ppn ← number_at left
  at ← number_at ppn.1
  len ← number_at at.1
  _ ← nothing_at len.1
  Ok (loaded ppn.0 at.0 len.0)

unfoldable pub release_at : Option (List ℕ) → Result (Result Request Cause) Cause
release_at left = do
  ppn ← number_at left
  _ ← nothing_at ppn.1
  Ok (Ok (Release ppn.0))

-- a request that has no numbers
unfoldable pub bare_at : Request → Option (List ℕ) → Result (Result Request Cause) Cause
bare_at request left = do
  _ ← nothing_at left
  Ok (Ok request)

-- what comes after the guest's number, by the word that names the request
unfoldable pub named : List ℕ → Option (List ℕ) → Result (Result Request Cause) Cause
named name left =
    if bytes_eq name (codes "propose") then propose_at left
    else if bytes_eq name (codes "store") then store_at left
    else if bytes_eq name (codes "load") then load_at left
    else if bytes_eq name (codes "release") then release_at left
    else if bytes_eq name (codes "count") then bare_at Count left
    else if bytes_eq name (codes "close") then bare_at Close left
    else Err Form

-- what comes after the guest's number
unfoldable pub asked_at : Option (List ℕ) → Result (Result Request Cause) Cause
asked_at left = do
  name ← word_at left
  named name.0 name.1

-- A guest may ask if it is one of the machine's and hasn't closed; closed says of each guest whether it has.
abbrev pub may_ask : Option Bool → Result (Unit {0}) Cause
may_ask None = Err NoGuest
may_ask (Some true) = Err AfterClose
may_ask (Some false) = Ok tt

-- end NUMBER, after the word end
unfoldable pub end_at : {X : Type 0} → Option (List ℕ) → Result (Line X) Cause
end_at left = do
  count ← number_at left
  _ ← nothing_at count.1
  Ok (Ends count.0)

-- A guest's line: its form is checked first, then whether its guest may ask, then its numbers, and then what `enter` makes of
-- it.
abbrev pub asking : {X Y : Type 0} → (Option (List ℕ) → Result (Result X Cause) Cause) → (ℕ → Result (Unit {0}) Cause)
    → (ℕ → X → Result Y Cause) → List ℕ → Option (List ℕ) → Result (Line Y) Cause
asking asked_at may enter first left = do
  guest ← number first
  asked ← asked_at left
  _ ← may guest
  x ← asked
  y ← enter guest x
  Ok (Enters y)

-- a line after the head: the end line, or a guest's
abbrev pub behind_head : {X : Type 0} → (List ℕ → Option (List ℕ) → Result (Line X) Cause) → List ℕ → Result (Line X) Cause
behind_head guest_at line = do
  first ← word_at (Some line)
  if bytes_eq first.0 (codes "end") then end_at first.1 else guest_at first.0 first.1

-- a request line; closed says of each guest whether it has closed
unfoldable pub entry_at : List Bool → List ℕ → Option (List ℕ) → Result (Line Entry) Cause
entry_at closed first left = asking asked_at (λ guest. may_ask (slice_get closed guest))
    (λ guest request. Ok (record { guest = guest; request = request })) first left

-- what a line after a journal's head says
unfoldable pub line_of : List Bool → List ℕ → Result (Line Entry) Cause
line_of closed line = behind_head (entry_at closed) line

-- what is asked for is not a close
abbrev pub IsPlain : Result Request Cause → Type 0
IsPlain asked = IfOk asked (λ request. is_close request ≡ false)

-- it is the end line
abbrev pub IsEnd : {X : Type 0} → Line X → Type 0
IsEnd (Enters x) = ⊥
IsEnd (Ends count) = Unit {0}
