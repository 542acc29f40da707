-- Where next to nothing changes a look takes only some of the idle pages. They are fewer if that holds on.
use Rattle.std.specs.Prelude.{◌≡◌, ℕ, ◌+◌, ◌-◌, ◌*◌, ◌<◌, ◌≤◌, min, Bool, true, false, not, nat_eq, nat_le, if◌then◌else◌, List, [], ◌∷◌}
use Rattle.page_looks.specs.declared.idle.look.LookConfig.{LookConfig}
use Rattle.page_looks.specs.declared.idle.look.PageLooks.{PageLooks}
use Rattle.page_looks.specs.declared.parts.part.Part.{Part}
use Rattle.page_looks.specs.declared.idle.look.TheConstants.{CALM_PART}
use Rattle.page_looks.specs.Idle.{is_idle}
use Rattle.page_looks.specs.Samples.{is_in_sample}
use Rattle.page_looks.specs.Ways.{way}

-- pages that have changed, and those that have memory of their own since
abbrev pub changes_of : Part → ℕ → ℕ → ℕ
changes_of part changes own = changes + (own - part.own)

-- next to nothing has changed
abbrev pub is_calm : Part → ℕ → ℕ → Bool
is_calm part changes own = nat_le (changes_of part changes own * CALM_PART) own

abbrev pub longer : ℕ → ℕ → ℕ
longer rest most = min (rest * 2 + 1) most

-- Idle pages that are left out then for each that is taken, and looks until they may be more: as many, so that each page was taken before.
abbrev pub rest_then : LookConfig → Part → Bool → ℕ × ℕ
rest_then config part calm =
    if not calm then (0, 0)
    else (if nat_eq part.left 0 then (longer part.rest config.rest_most, longer part.rest config.rest_most) else (part.rest, part.left - 1))

abbrev pub found_then : LookConfig → Part → ℕ → ℕ → Part
found_then config part changes own = record part {
  rest = (rest_then config part (is_calm part changes own)).0;
  left = (rest_then config part (is_calm part changes own)).1;
  own = own;
  is_still = nat_eq (changes_of part changes own) 0;
}

abbrev pub woken : Part → Part
woken part = record part { rest = 0; left = 0 }

-- what happens to a part
pub data Turned : Type 0 where
  finds : (changes own : ℕ) → Turned
  wakes : Turned

-- the part after all this, of which the latest is the first
abbrev pub turned : LookConfig → Part → List Turned → Part
turned config part [] = part
turned config part (finds changes own ∷ xs) = found_then config (turned config part xs) changes own
turned config part (wakes ∷ xs) = woken (turned config part xs)

-- A look leaves out at most as many idle pages for each as the config says.
abbrev pub RestsWithin : Type 0
RestsWithin = (config : LookConfig) (part : Part) (xs : List Turned) → part.rest ≤ config.rest_most → (turned config part xs).rest ≤ config.rest_most

-- Where more than next to nothing has changed the next look leaves none out.
abbrev pub ChangesEndRests : Type 0
ChangesEndRests = (config : LookConfig) (part : Part) (changes own : ℕ) → own < changes_of part changes own * CALM_PART → (found_then config part changes own).rest ≡ 0

-- Where no page is left out each page is in the sample of each look.
abbrev pub AllAreSampled : Type 0
AllAreSampled = (part : Part) (look number : ℕ) → part.rest ≡ 0 → is_in_sample part look number ≡ true

-- Where a part rests, from each look on, an idle page with memory of its own is glanced at within one look more than pages are left out.
abbrev pub EachIsGlancedAt : Type 0
EachIsGlancedAt =
    (config : LookConfig) (part : Part) (p : PageLooks) (look number : ℕ) → is_idle p ≡ true →
    (k : ℕ) × ((k < part.rest + 1) × ((is_in_sample part (look + k) number ≡ true) × ((way config part p false (look + k) number).glances ≡ true)))
