-- The serial order of scripts: the guests take turns, guest 0 first, and a guest that has ended is left out.
use Rattle.std.specs.Prelude.{ℕ, zero, suc, ◌+◌, List, [], ◌∷◌, ◌++◌, length, drop, map, max, Option, Some, None}
use Rattle.page_model.specs.declared.request.Entry.{Entry}
use Rattle.page_model.specs.declared.request.Request.{Request}
use Rattle.merge_machine.specs.Scripts.{with_close}

-- the first request of each guest that has one, for the guests from number guest on
abbrev pub firsts : ℕ → List (List Request) → List Entry
firsts guest [] = []
firsts guest ([] ∷ lists) = firsts (guest + 1) lists
firsts guest ((r ∷ rs) ∷ lists) = record { guest = guest; request = r } ∷ firsts (guest + 1) lists

-- a list without its first element
abbrev pub rest_of : List Request → List Request
rest_of [] = []
rest_of (r ∷ rs) = rs

-- this many turns: in each, every guest asks for its next request, if it has one
unfoldable pub turns : ℕ → List (List Request) → List Entry
turns zero lists = []
turns (suc n) lists = firsts 0 lists ++ turns n (map rest_of lists)

-- the length of a longest list
abbrev pub longest : List (List Request) → ℕ
longest [] = 0
longest (list ∷ lists) = max (length list) (longest lists)

-- the turns of these lists, as many as a longest list needs
abbrev pub in_turns : List (List Request) → List Entry
in_turns lists = turns (longest lists) lists

-- a list's first element, if it has one
abbrev pub first_of : List Request → Option Request
first_of [] = None
first_of (r ∷ rs) = Some r

-- what is left of all that the guests ask for, after this many turns
abbrev pub left_of : ℕ → List (List Request) → List (List Request)
left_of turn scripts = map (λ script. drop turn (with_close script)) scripts

-- one request of each guest in turn, guest 0 first; each guest's last request is its close
abbrev pub serial_order : List (List Request) → List Entry
serial_order scripts = in_turns (map with_close scripts)
