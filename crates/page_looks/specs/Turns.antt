-- Which looks ask about a page, or read it.
use Rattle.std.specs.Prelude.{◌≡◌, ℕ, ◌+◌, ◌*◌, ◌/◌, ◌%◌, ◌<◌, max, Bool, true, false, not, ◌&&◌, nat_eq, nat_lt, if◌then◌else◌}
use Rattle.page_looks.specs.declared.idle.look.LookConfig.{LookConfig}
use Rattle.page_looks.specs.declared.idle.look.PageLooks.{PageLooks}
use Rattle.page_looks.specs.declared.parts.part.Part.{Part}
use Rattle.page_looks.specs.declared.idle.look.TheConstants.{TURNS, WHOLE_TURNS, TOGETHER, PASSING_EACH}
use Rattle.page_looks.specs.Idle.{is_again}

-- how many looks apart a page is asked about that was asked about so often in vain
abbrev pub power : ℕ → ℕ
power asks = if nat_eq asks 0 then 1 else (if nat_eq asks 1 then 2 else (if nat_eq asks 2 then 4 else 8))

-- and at most, in a part that isn't whole
abbrev pub turns_of : LookConfig → ℕ
turns_of config = if nat_eq config.turns 0 then TURNS else config.turns

-- Of so many looks one asks again about an idle page that was asked about most often. Where a part rests they are no fewer than it takes to
-- glance at each of its pages.
abbrev pub idle_apart : LookConfig → Part → ℕ
idle_apart config part = max (if part.whole then turns_of config * WHOLE_TURNS else turns_of config) (part.rest + 1)

-- of so many looks one is the page's turn
abbrev pub looks_apart : LookConfig → Part → PageLooks → ℕ
looks_apart config part p = if nat_eq p.looks 0 then 1 else (if is_again p then idle_apart config part else power p.asks)

-- which turn a look is for a page: pages in a row have their turns together
abbrev pub turn_at : ℕ → ℕ → ℕ
turn_at look number = look + number / TOGETHER

abbrev pub has_turn : LookConfig → Part → PageLooks → ℕ → ℕ → Bool
has_turn config part p look number = nat_eq (turn_at look number % looks_apart config part p) 0

-- the turn of an idle page that was asked about most often
abbrev pub is_turn_of_idle : LookConfig → Part → ℕ → ℕ → Bool
is_turn_of_idle config part look number = nat_eq (turn_at look number % idle_apart config part) 0

-- the question about it isn't noted, so that others don't find it
abbrev pub is_asked_in_passing : LookConfig → Part → PageLooks → ℕ → ℕ → Bool
is_asked_in_passing config part p look number =
    part.whole && nat_lt 0 p.asks && not (nat_eq (turn_at look number / looks_apart config part p % PASSING_EACH) 0)

-- From each look on, one of so many is the page's turn.
abbrev pub EachHasItsTurn : Type 0
EachHasItsTurn =
    (config : LookConfig) (part : Part) (p : PageLooks) (look number : ℕ) →
    (k : ℕ) × ((k < looks_apart config part p) × (has_turn config part p (look + k) number ≡ true))

-- And at one of so many turns the question about it is noted.
abbrev pub EachIsNoted : Type 0
EachIsNoted =
    (config : LookConfig) (part : Part) (p : PageLooks) (look number : ℕ) →
    (k : ℕ) × ((k < looks_apart config part p * PASSING_EACH) × ((has_turn config part p (look + k) number ≡ true) × (is_asked_in_passing config part p (look + k) number ≡ false)))
