-- Lists of reports.
use Rattle.std.specs.Prelude.{◌≡◌, ◌≤◌, List, [], ◌∷◌, length, take, All}
use Rattle.std.specs.Coded.{×_prop, Unit-prop, le_prop}
use Rattle.page_model.specs.Parts.{Totals}

-- these are the list's first elements
abbrev pub StartsWith : {X : Type 0} → List X → List X → Type 0
StartsWith list front = take (length front) list ≡ front

-- no report of the list has fewer entries than the one before it
abbrev pub NeverFalls : List Totals → Type 0
NeverFalls [] = Unit {0}
NeverFalls (r ∷ []) = Unit {0}
NeverFalls (r ∷ s ∷ rs) = (r.entries ≤ s.entries) × NeverFalls (s ∷ rs)

pub NeverFalls-prop : (list : List Totals) → IsProp (NeverFalls list)
NeverFalls-prop [] = Unit-prop
NeverFalls-prop (r ∷ []) = Unit-prop
NeverFalls-prop (r ∷ s ∷ rs) = ×_prop le_prop (NeverFalls-prop (s ∷ rs))

-- all zeros, which a watch reads before anything was published
abbrev pub no_report : Totals
no_report = record { entries = 0; mapped = 0; shared = 0; frames = 0; reclaimed = 0; hints = 0 }

-- the last report of the list, or all zeros if it is empty
abbrev pub last_of : List Totals → Totals
last_of [] = no_report
last_of (r ∷ []) = r
last_of (r ∷ s ∷ rs) = last_of (s ∷ rs)

-- no report of the list has more entries than this one
abbrev pub NoneLater : Totals → List Totals → Type 0
NoneLater r list = All (λ s. s.entries ≤ r.entries) list
