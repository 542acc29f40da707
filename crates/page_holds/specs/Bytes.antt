-- What is kept of each page of a row, in a byte.
use Rattle.std.specs.Prelude.{ℕ, ◌+◌, ◌%◌, Bool, false, not, nat_le, ◌==◌, if◌then◌else◌}
use Rattle.page_holds.specs.Steps.{place_after, step_of}
use Rattle.page_holds.specs.declared.place.HeldPlace.{HeldPlace}
use Rattle.page_holds.specs.declared.place.HeldPlace.TheVariants.{Free, Guarded, Aside, Replaced}
use Rattle.page_holds.specs.declared.place.HoldStep.{HoldStep}
use Rattle.page_holds.specs.declared.place.HoldStep.TheVariants.{Over, Compare, CompareZeros, Map, GiveBack, PutBack, EndWatch}
use Rattle.page_holds.specs.declared.place.Taking.{Taking}
use Rattle.page_lender.specs.declared.belief.Belief.{Belief}

-- what came of an attempt to hold a page, by its number; nothing was done by any other
abbrev pub taking_by : ℕ → Taking
taking_by number = if number == 1 then Taking.Watched else (if number == 2 then Taking.Guarded else (if number == 3 then Taking.Aside else Taking.Refused))

-- where a page's memory is, by its number; at its place by any other
abbrev pub place_by : ℕ → HeldPlace
place_by number = if number == 1 then HeldPlace.Guarded else (if number == 2 then HeldPlace.Aside else (if number == 3 then HeldPlace.Replaced else HeldPlace.Free))

abbrev pub place_number : HeldPlace → ℕ
place_number Free = 0
place_number Guarded = 1
place_number Aside = 2
place_number Replaced = 3

-- where it is, by the page's byte
abbrev pub place_in : ℕ → HeldPlace
place_in byte = place_by (byte % 4)

-- the system refused to put the page back or to end its watch: the row has given it up
abbrev pub is_stuck : ℕ → Bool
is_stuck byte = nat_le 4 byte

-- the byte of a page whose memory is there, and which is stuck or isn't
abbrev pub byte_of : HeldPlace → Bool → ℕ
byte_of place stuck = if stuck then 4 + place_number place else place_number place

-- what is done next with a page of which this is believed, and which has this byte: nothing, if it is stuck
abbrev pub step_by : Belief → ℕ → HoldStep
step_by belief byte = if is_stuck byte then Over else step_of belief (place_in byte)

-- a page is stuck once this was done with it, or was refused
abbrev pub sticks : HoldStep → Bool → Bool
sticks Over is_done = false
sticks Compare is_done = false
sticks CompareZeros is_done = false
sticks Map is_done = false
sticks GiveBack is_done = false
sticks PutBack is_done = not is_done
sticks EndWatch is_done = not is_done

-- its byte once its next step was done, or was refused
abbrev pub byte_then : Belief → ℕ → Bool → ℕ
byte_then belief byte is_done =
    if is_stuck byte then byte else byte_of (place_after (step_of belief (place_in byte)) (place_in byte) is_done) (sticks (step_of belief (place_in byte)) is_done)
