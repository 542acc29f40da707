-- Tables of ranges, and how they change.
use Rattle.std.specs.Prelude.{ℕ, Bool, false, not, ◌&&◌, ◌||◌, nat_eq, nat_le, nat_lt, if◌then◌else◌, List, [], ◌∷◌, ◌++◌, take, Option, Some, None}
use Rattle.std.specs.List.{list_any, remove}
use Rattle.offered_ranges.specs.declared.range.OfferedRange.{OfferedRange}
use Rattle.offered_ranges.specs.Pieces.{meets}

-- the ranges of a table, of whose places so many are used
abbrev pub ranges_of : ℕ → List OfferedRange → List OfferedRange
ranges_of count places = take count places

-- the range is left of this window
abbrev pub is_of : ℕ → OfferedRange → Bool
is_of window r = nat_eq r.window window

-- These pages are all of the range at this place, and no other range is left of its window.
abbrev pub is_all_left : ℕ → ℕ → ℕ → Option OfferedRange → List OfferedRange → Bool
is_all_left place begin end None rs = false
is_all_left place begin end (Some r) rs = nat_eq r.begin begin && (nat_eq r.end end && not (list_any (is_of r.window) (remove rs place)))

-- A range can be added: it isn't empty, a place is free, and no page of it is in another range.
abbrev pub can_add : ℕ → ℕ → List OfferedRange → ℕ → ℕ → Bool
can_add most count rs begin end = nat_lt begin end && nat_lt count most && not (list_any (meets begin end) rs)

-- with that range
abbrev pub added : List OfferedRange → ℕ → ℕ → ℕ → List OfferedRange
added rs begin end said = rs ++ record { begin = begin; end = end; window = 0; base = begin; said = said } ∷ []

-- these pages are a piece of the range
abbrev pub has_piece : ℕ → ℕ → OfferedRange → Bool
has_piece begin end r = nat_le r.begin begin && nat_lt begin end && nat_le end r.end

-- the range has pages before them and behind them
abbrev pub has_both : ℕ → ℕ → OfferedRange → Bool
has_both begin end r = nat_lt r.begin begin && nat_lt end r.end

-- They can be taken out of it: where two parts are left, a place is free for one.
abbrev pub can_split : ℕ → ℕ → ℕ → ℕ → OfferedRange → Bool
can_split most count begin end r = has_piece begin end r && (nat_lt count most || not (has_both begin end r))

-- The pages can be taken out of the range at this place.
abbrev pub can_take_out : ℕ → ℕ → ℕ → ℕ → Option OfferedRange → Bool
can_take_out most count begin end None = false
can_take_out most count begin end (Some r) = nat_le count most && can_split most count begin end r

-- a range's pages between two others, as a list of one range or of none
abbrev pub part_of : OfferedRange → ℕ → ℕ → List OfferedRange
part_of r begin end = if nat_lt begin end then record r { begin = begin; end = end } ∷ [] else []

-- without these pages of the range at this place: what is left of it comes last
abbrev pub taken_out : ℕ → ℕ → ℕ → Option OfferedRange → List OfferedRange → List OfferedRange
taken_out place begin end None rs = rs
taken_out place begin end (Some r) rs = remove rs place ++ (part_of r r.begin begin ++ part_of r end r.end)
