-- The last report of a list, and lists in which the entry counts never fall.
use Rattle.std.proofs.Common.{◌≡◌, ◌≤◌, ◌<◌, ◌∙◌, List, [], ◌∷◌, ◌++◌, length, drop, refl, ap, sym, subst, arith, get_or, le_refl, le_trans}
use Rattle.std.specs.List.{All, Contains}
use Rattle.std.proofs.lemmas.List.{take-append-drop}
use Rattle.std.proofs.lemmas.List.Elements.{All-nil, All-cons, All-head, All-append, Contains-append_left, Contains-append_right}
use Rattle.page_model.specs.Parts.{Totals}
use Rattle.watched_machine.specs.Reports.{StartsWith, NeverFalls, NoneLater, last_of}
use Rattle.watched_machine.proofs.Fronts.{front_of_front}

pub last_of_added : (list : List Totals) (r : Totals) → last_of (list ++ r ∷ []) ≡ r
last_of_added [] r = refl
last_of_added (s ∷ []) r = refl
last_of_added (s ∷ t ∷ rest) r = last_of_added (t ∷ rest) r

pub never_falls_added : (list : List Totals) (r : Totals) → NeverFalls list → (last_of list).entries ≤ r.entries → NeverFalls (list ++ r ∷ [])
never_falls_added [] r h le = tt
never_falls_added (s ∷ []) r h le = (le, tt)
never_falls_added (s ∷ t ∷ rest) r h le = (h.0, never_falls_added (t ∷ rest) r h.1 le)

-- where the counts never fall, none is above the last
pub none_later : (list : List Totals) → NeverFalls list → NoneLater (last_of list) list
none_later [] h = All-nil (λ (s : Totals). s.entries ≤ 0)
none_later (r ∷ []) h = let P : Totals → Type 0 = λ s. s.entries ≤ r.entries in All-cons P r [] (le_refl r.entries) (All-nil P)
none_later (r ∷ s ∷ rest) h =
    let P : Totals → Type 0 = λ x. x.entries ≤ (last_of (s ∷ rest)).entries in
    let below : All P (s ∷ rest) = none_later (s ∷ rest) h.1 in
    All-cons P r (s ∷ rest) (le_trans h.0 (All-head P s rest below)) below

-- the last report of a list is in it
last_inside : (list : List Totals) → 0 < length list → Contains list (last_of list)
last_inside [] lt = absurd (omega (arith, lt))
last_inside (r ∷ []) lt = (0, lt, refl)
last_inside (r ∷ s ∷ rest) lt = Contains-append_right (r ∷ []) (s ∷ rest) (last_of (s ∷ rest)) (last_inside (s ∷ rest) (omega arith))

-- and in each list that goes on from there
pub last_of_front : (front list : List Totals) → StartsWith list front → 0 < length front → Contains list (last_of front)
last_of_front front list h lt =
    let whole : front ++ drop (length front) list ≡ list = ap (λ f. f ++ drop (length front) list) (sym h) ∙ take-append-drop (length front) list in
    let P : List Totals → Type 0 = λ l. Contains l (last_of front) in
    subst P whole (Contains-append_left front (drop (length front) list) (last_of front) (last_inside front lt))

-- One more list is told. A list that begins with the longest so far, and with it, begins with each that was told
pub one_more_list : (longest longer told : List Totals) (lists : List (List Totals)) → All (StartsWith longest) lists → StartsWith longer longest → StartsWith longer told
    → All (StartsWith longer) (lists ++ told ∷ [])
one_more_list longest longer told lists all h k =
    All-append (StartsWith longer) lists (told ∷ [])
    (λ i d below. front_of_front (get_or lists i d) longest longer (all i d below) h)
    (All-cons (StartsWith longer) told [] k (All-nil (StartsWith longer)))
