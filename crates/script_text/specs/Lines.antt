-- The lines of a script after its head: a request, a scan, or the end.
use Rattle.std.specs.Prelude.{◌≡◌, ℕ, ◌+◌, ◌-◌, ◌^◌, ◌<◌, ◌≤◌, ◌==◌, nat_lt, false, if◌then◌else◌, List, Option, Result, Ok, Err, codes}
use Rattle.std.specs.Str.{bytes_eq}
use Rattle.page_model.specs.declared.request.Request.{Request}
use Rattle.page_model.specs.Closing.{is_close}
use Rattle.text_words.specs.declared.fault.Cause.{Cause}
use Rattle.text_words.specs.declared.fault.Cause.TheVariants.{Form, NoGuest, Length, TooMany}
use Rattle.journal_text.specs.declared.request.Line.{Line}
use Rattle.journal_text.specs.declared.request.Line.TheVariants.{Enters, Ends}
use Rattle.text_words.specs.Words.{◌>>=◌, word_at, nothing_at, number_to, number_at}
use Rattle.journal_text.specs.Requests.{named, behind_head, asking}
use Rattle.script_text.specs.declared.work.Work.{Work}
use Rattle.script_text.specs.declared.work.Work.TheVariants.{Asks, ScansInOrder, ScansAtRandom}
use Rattle.script_text.specs.declared.work.Item.{Item}
use Rattle.script_text.specs.Works.{size_of}

-- the next word, as a SEED: at most 18,446,744,073,709,551,615
unfoldable pub seed_at : Option (List ℕ) → Result (ℕ × Option (List ℕ)) Cause
seed_at left = do
  word ← word_at left
  seed ← number_to (2 ^ 64 - 1) word.0
  Ok (seed, word.1)

-- a scan of n pages; it must have at least one
abbrev pub scanned : ℕ → Work → Result Work Cause
scanned n work = if n == 0 then Err Length else Ok work

-- What comes after the words that name a scan. The outer answer is about the form, which is checked before everything else; the
-- inner one is the scan, or what is wrong with its numbers.
unfoldable pub in_order_at : Option (List ℕ) → Result (Result Work Cause) Cause
in_order_at left = do
  n ← number_at left
  _ ← nothing_at n.1
  Ok (scanned n.0 (ScansInOrder n.0))

unfoldable pub at_random_at : Option (List ℕ) → Result (Result Work Cause) Cause
at_random_at left = do
  seed ← seed_at left
  n ← number_at seed.1
  _ ← nothing_at n.1
  Ok (scanned n.0 (ScansAtRandom seed.0 n.0))

-- what comes after the word scan, by the word that names the order
unfoldable pub scan_named : List ℕ → Option (List ℕ) → Result (Result Work Cause) Cause
scan_named order left =
    if bytes_eq order (codes "sequential") then in_order_at left
    else if bytes_eq order (codes "random") then at_random_at left
    else Err Form

-- what comes after the word scan
unfoldable pub scan_at : Option (List ℕ) → Result (Result Work Cause) Cause
scan_at left = do
  order ← word_at left
  scan_named order.0 order.1

-- one request, or what is wrong with its numbers
abbrev pub as_work : Result Request Cause → Result Work Cause
as_work asked = asked >>= λ request. Ok (Asks request)

-- what comes after the guest's number, by the word that names the request or the scan; a close can't be asked for
unfoldable pub work_named : List ℕ → Option (List ℕ) → Result (Result Work Cause) Cause
work_named name left =
    if bytes_eq name (codes "scan") then scan_at left
    else if bytes_eq name (codes "close") then Err Form
    else named name left >>= λ asked. Ok (as_work asked)

-- what comes after the guest's number
unfoldable pub work_at : Option (List ℕ) → Result (Result Work Cause) Cause
work_at left = do
  name ← word_at left
  work_named name.0 name.1

-- the machine has this guest
abbrev pub is_guest : ℕ → ℕ → Result (Unit {0}) Cause
is_guest guests guest = if nat_lt guest guests then Ok tt else Err NoGuest

-- a journal of `most` entries, `total` of them already taken, has room for what a line asks for
abbrev pub with_room : ℕ → ℕ → ℕ → Work → Result Item Cause
with_room most total guest work =
    if nat_lt most (total + size_of work) then Err TooMany
    else Ok (record { guest = guest; work = work })

-- a script line: its form is checked first, then its guest, then its numbers, then whether the journal has room for it
unfoldable pub item_at : ℕ → ℕ → ℕ → List ℕ → Option (List ℕ) → Result (Line Item) Cause
item_at guests most total first left = asking work_at (is_guest guests) (with_room most total) first left

-- What a line after the head says, of a script with this many guests and a journal of `most` entries. total: how many of them
-- the guests' closes and the requests before the line take.
unfoldable pub script_line_of : ℕ → ℕ → ℕ → List ℕ → Result (Line Item) Cause
script_line_of guests most total line = behind_head (item_at guests most total) line

-- how many entries are taken after a line
abbrev pub total_after : ℕ → Item → ℕ
total_after total item = total + size_of item.work

-- no close is asked for
abbrev pub IsPlain : Work → Type 0
IsPlain (Asks request) = is_close request ≡ false
IsPlain (ScansInOrder n) = Unit {0}
IsPlain (ScansAtRandom seed n) = Unit {0}

-- what a line asks for is of one of the guests, is not a close, and has room in the journal
abbrev pub Fits : ℕ → ℕ → ℕ → Line Item → Type 0
Fits guests most total (Enters item) = (item.guest < guests) × IsPlain item.work × (total + size_of item.work ≤ most)
Fits guests most total (Ends count) = Unit {0}
