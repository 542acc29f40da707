-- Hosts and their guests.
use Rattle.std.specs.Prelude.{ℕ, ◌==◌, Bool, List, filter, length, slice_index_or}
use Rattle.std.specs.Borrow.{Bor}
use Rattle.std.specs.List.{before_first, position_or_len, range_with_len}
use Rattle.std.specs.Str.{bytes_eq}

abbrev pub is_dot : ℕ → Bool
is_dot byte = byte == 46

-- what comes before the first dot; the whole name, if it has none
abbrev pub before_dot : List ℕ → List ℕ
before_dot name = before_first is_dot name

-- the number of the first name that is equal to this one; how many there are, if none is
abbrev pub first_equal : List ℕ → List (Bor (List ℕ)) → ℕ
first_equal name names = position_or_len (λ other. bytes_eq other.now name) names

-- the guest is on the host
abbrev pub is_on : List ℕ → ℕ → ℕ → Bool
is_on hosts host guest = slice_index_or hosts guest 0 == host

-- the numbers of the guests that are on a host, rising
abbrev pub guests_of : ℕ → List ℕ → List ℕ
guests_of host hosts = filter (is_on hosts host) (range_with_len 0 (length hosts))
