-- When a page is idle: what looks found of it was alike as often as needed.
use Rattle.std.specs.Prelude.{◌≡◌, ℕ, ◌+◌, Bool, true, false, not, ◌&&◌, nat_eq, nat_lt, nat_le, if◌then◌else◌, List, [], ◌∷◌}
use Rattle.page_looks.specs.declared.idle.look.PageLooks.{PageLooks}
use Rattle.page_looks.specs.declared.idle.look.TheConstants.{STILL, ASKS_MOST}

-- the next number, up to the most
abbrev pub next_up_to : ℕ → ℕ → ℕ
next_up_to n most = if nat_lt n most then n + 1 else most

abbrev pub is_idle : PageLooks → Bool
is_idle p = nat_le STILL p.looks

-- it is idle, and was asked about in vain most often
abbrev pub is_again : PageLooks → Bool
is_again p = nat_le STILL p.looks && nat_le ASKS_MOST p.asks

-- it may be idle soon, and doesn't change always
abbrev pub is_young : PageLooks → Bool
is_young p = nat_lt p.looks STILL && nat_eq p.asks 0

-- the number that says where a glance looks
abbrev pub glanced_by : PageLooks → ℕ → ℕ
glanced_by p number = if nat_eq p.looks 0 then number else p.fingerprint

-- it was looked at, and isn't idle
abbrev pub is_hot : PageLooks → Bool
is_hot p = nat_lt 0 p.looks && nat_lt p.looks STILL

-- a page that has changed again before it was idle counts how often that was so
abbrev pub asks_then : PageLooks → Bool → ℕ
asks_then p hot = if hot then next_up_to p.asks ASKS_MOST else 0

-- a glance found that it has changed, or that it is new
abbrev pub met : PageLooks → ℕ → ℕ → PageLooks
met p number glance = record { fingerprint = glanced_by p number; clue = glance; looks = 1; asks = asks_then p (is_hot p) }

-- it was read. What has memory of its own was glanced at before.
abbrev pub is_read : PageLooks → Bool → Bool
is_read p over = nat_lt (if over then 0 else 1) p.looks

-- the page was read with the same fingerprint
abbrev pub again : PageLooks → ℕ → PageLooks
again p clue = record { fingerprint = p.fingerprint; clue = clue; looks = next_up_to p.looks STILL; asks = if nat_lt p.looks STILL then 0 else p.asks }

-- it was read with another one, or for the first time
abbrev pub anew : PageLooks → Bool → ℕ → ℕ → PageLooks
anew p over fingerprint clue = record {
  fingerprint = fingerprint;
  clue = clue;
  looks = if over then 1 else 2;
  asks = asks_then p (is_read p over && nat_lt p.looks STILL);
}

-- what the last glance at it found then
abbrev pub clue_then : PageLooks → Bool → ℕ → ℕ
clue_then p over glance = if over then p.clue else glance

abbrev pub read : PageLooks → Bool → ℕ → ℕ → PageLooks
read p over fingerprint glance =
    if is_read p over && nat_eq p.fingerprint fingerprint then again p (clue_then p over glance)
    else anew p over fingerprint (clue_then p over glance)

-- it was asked about in vain
abbrev pub asked : PageLooks → PageLooks
asked p = record p { asks = next_up_to p.asks ASKS_MOST }

-- it can't be lent now
abbrev pub asked_last : PageLooks → PageLooks
asked_last p = record p { asks = ASKS_MOST }

-- it is to be asked about at once
abbrev pub due : PageLooks → PageLooks
due p = record p { asks = 0 }

-- its content is another one
abbrev pub forgotten : PageLooks → PageLooks
forgotten p = record p { looks = 0; asks = 0 }

-- a loan of it was got
abbrev pub lent : PageLooks → PageLooks
lent p = record p { looks = 0 }

-- it was to be held, and was, or wasn't
abbrev pub held : PageLooks → Bool → PageLooks
held p was = record p { looks = if was then 0 else 1; asks = if was then 0 else ASKS_MOST }

-- What happened to a page. Of a read: whether its memory lay over a frame then.
pub data Found : Type 0 where
  meets : (number glance : ℕ) → Found
  reads : (over : Bool) (fingerprint glance : ℕ) → Found
  asks : Found
  asks_last : Found
  is_due : Found
  forgets : Found
  lends : Found
  holds : Bool → Found

abbrev pub then_known : PageLooks → Found → PageLooks
then_known p (meets number glance) = met p number glance
then_known p (reads over fingerprint glance) = read p over fingerprint glance
then_known p asks = asked p
then_known p asks_last = asked_last p
then_known p is_due = due p
then_known p forgets = forgotten p
then_known p lends = lent p
then_known p (holds was) = held p was

-- what is known of a page after all this, of which the latest is the first
abbrev pub known : PageLooks → List Found → PageLooks
known p [] = p
known p (x ∷ xs) = then_known (known p xs) x

-- the fingerprints that were read since it was last met, forgotten, lent or to be held, the latest first
abbrev pub read_since : List Found → List ℕ
read_since [] = []
read_since (meets number glance ∷ xs) = []
read_since (reads over fingerprint glance ∷ xs) = fingerprint ∷ read_since xs
read_since (asks ∷ xs) = read_since xs
read_since (asks_last ∷ xs) = read_since xs
read_since (is_due ∷ xs) = read_since xs
read_since (forgets ∷ xs) = []
read_since (lends ∷ xs) = []
read_since (holds was ∷ xs) = []

-- the fingerprint of the last read, or this one if there was none
abbrev pub last_read : ℕ → List Found → ℕ
last_read f [] = f
last_read f (meets number glance ∷ xs) = last_read f xs
last_read f (reads over fingerprint glance ∷ xs) = fingerprint
last_read f (asks ∷ xs) = last_read f xs
last_read f (asks_last ∷ xs) = last_read f xs
last_read f (is_due ∷ xs) = last_read f xs
last_read f (forgets ∷ xs) = last_read f xs
last_read f (lends ∷ xs) = last_read f xs
last_read f (holds was ∷ xs) = last_read f xs

-- A page over a frame: the fingerprints that were read since it was last forgotten, lent or held, the latest first. Of one that couldn't be
-- held the last read counts still, and no read before it.
abbrev pub read_over : ℕ → List Found → List ℕ
read_over f [] = []
read_over f (meets number glance ∷ xs) = []
read_over f (reads over fingerprint glance ∷ xs) = fingerprint ∷ read_over f xs
read_over f (asks ∷ xs) = read_over f xs
read_over f (asks_last ∷ xs) = read_over f xs
read_over f (is_due ∷ xs) = read_over f xs
read_over f (forgets ∷ xs) = []
read_over f (lends ∷ xs) = []
read_over f (holds true ∷ xs) = []
read_over f (holds false ∷ xs) = last_read f xs ∷ []

-- whenever it was read it had memory of its own
abbrev pub is_own : List Found → Bool
is_own [] = true
is_own (meets number glance ∷ xs) = is_own xs
is_own (reads over fingerprint glance ∷ xs) = not over && is_own xs
is_own (asks ∷ xs) = is_own xs
is_own (asks_last ∷ xs) = is_own xs
is_own (is_due ∷ xs) = is_own xs
is_own (forgets ∷ xs) = is_own xs
is_own (lends ∷ xs) = is_own xs
is_own (holds was ∷ xs) = is_own xs

-- whenever it was read its memory lay over a frame; and so it was never met
abbrev pub is_over : List Found → Bool
is_over [] = true
is_over (meets number glance ∷ xs) = false
is_over (reads over fingerprint glance ∷ xs) = over && is_over xs
is_over (asks ∷ xs) = is_over xs
is_over (asks_last ∷ xs) = is_over xs
is_over (is_due ∷ xs) = is_over xs
is_over (forgets ∷ xs) = is_over xs
is_over (lends ∷ xs) = is_over xs
is_over (holds was ∷ xs) = is_over xs

-- the first two are alike
abbrev pub two_alike : List ℕ → Bool
two_alike [] = false
two_alike (a ∷ []) = false
two_alike (a ∷ b ∷ xs) = nat_eq b a

-- the first three are alike
abbrev pub three_alike : List ℕ → Bool
three_alike [] = false
three_alike (a ∷ []) = false
three_alike (a ∷ b ∷ []) = false
three_alike (a ∷ b ∷ c ∷ xs) = nat_eq b a && nat_eq c b

-- Whatever happened since a page was new or forgotten: if it is idle, the last two reads since it was last met are alike.
abbrev pub IdleIsAlike : Type 0
IdleIsAlike = (p : PageLooks) (xs : List Found) → p.looks ≡ 0 → is_idle (known p xs) ≡ true → two_alike (read_since xs) ≡ true

-- If it has memory of its own, that is exactly so. It was glanced at before the first of these reads.
abbrev pub IdleMeansAlike : Type 0
IdleMeansAlike = (p : PageLooks) (xs : List Found) → p.looks ≡ 0 → is_own xs ≡ true → is_idle (known p xs) ≡ two_alike (read_since xs)

-- One over a frame is idle exactly if the last three reads are alike.
abbrev pub IdleOverMeansAlike : Type 0
IdleOverMeansAlike = (p : PageLooks) (xs : List Found) → p.looks ≡ 0 → is_over xs ≡ true → is_idle (known p xs) ≡ three_alike (read_over p.fingerprint xs)
