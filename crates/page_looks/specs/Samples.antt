-- Which pages of a part that rests a look takes.
use Rattle.std.specs.Prelude.{◌≡◌, ℕ, ◌+◌, ◌%◌, ◌<◌, Bool, true, false, not, ◌&&◌, ◌||◌, nat_eq, nat_lt}
use Rattle.page_looks.specs.declared.idle.look.LookConfig.{LookConfig}
use Rattle.page_looks.specs.declared.idle.look.PageLooks.{PageLooks}
use Rattle.page_looks.specs.declared.parts.part.Part.{Part}
use Rattle.page_looks.specs.Idle.{is_idle, is_again}
use Rattle.page_looks.specs.Turns.{has_turn, is_turn_of_idle}

-- the look glances at an idle page: at one in so many, where the part rests
abbrev pub is_in_sample : Part → ℕ → ℕ → Bool
is_in_sample part look number = nat_eq ((look + number) % (part.rest + 1)) 0

-- it takes each page that isn't idle, or isn't asked about seldom; those whose turn it is; and those at which it glances
abbrev pub is_sampled : Part → PageLooks → ℕ → ℕ → Bool → Bool
is_sampled part p look number turn = turn || not (is_again p) || is_in_sample part look number

abbrev pub is_left_out : LookConfig → Part → PageLooks → ℕ → ℕ → Bool
is_left_out config part p look number = not (is_sampled part p look number (is_turn_of_idle config part look number))

-- Only an idle page is left out, and no turn of it is.
abbrev pub LeftOutHasNoTurn : Type 0
LeftOutHasNoTurn =
    (config : LookConfig) (part : Part) (p : PageLooks) (look number : ℕ) → is_left_out config part p look number ≡ true →
    (is_idle p ≡ true) × (has_turn config part p look number ≡ false)

-- Where a part rests, one of so many looks from each look on takes the page.
abbrev pub EachIsSampled : Type 0
EachIsSampled =
    (part : Part) (look number : ℕ) → (k : ℕ) × ((k < part.rest + 1) × (is_in_sample part (look + k) number ≡ true))
