-- What holds of both halves and what is under way at each moment.
use Rattle.std.specs.Prelude.{◌≡◌, ℕ, ◌≤◌, ◌⊎◌, Bool, true, false, ◌||◌, List, [], ◌∷◌, length, drop, Option, Some, None}
use Rattle.host_messages.specs.declared.client.Wanted.{Wanted}
use Rattle.host_messages.specs.declared.item.Lent.{Lent}
use Rattle.client_session.specs.declared.link.Link.{Link}
use Rattle.client_session.specs.declared.link.Link.TheVariants as link
use Rattle.client_session.specs.Sessions.{is_named, wanted_of}
use Rattle.session_laws.specs.World.{HostSide, Said, Hello, Ask, Lend, Release, Welcome, Seen, Loans, World, has, given_to, next_loans}

-- ---- what is under way to the host

-- each slot of the one list is in the other
abbrev pub Sub : List ℕ → List ℕ → Type 0
Sub slots unheard = (s : ℕ) → has slots s ≡ true → has unheard s ≡ true

-- nothing but releases, of slots that were given up
abbrev pub OnlyReleases : List ℕ → List Said → Type 0
OnlyReleases unheard [] = Unit {0}
OnlyReleases unheard (Hello wanted ∷ ms) = ⊥
OnlyReleases unheard (Ask n ∷ ms) = ⊥
OnlyReleases unheard (Lend n ∷ ms) = ⊥
OnlyReleases unheard (Release slots ∷ ms) = Sub slots unheard × OnlyReleases unheard ms

-- releases, and then what is open
abbrev pub AreAsked : Said → List ℕ → List Said → Type 0
AreAsked asked unheard [] = Unit {0}
AreAsked asked unheard (Hello wanted ∷ ms) = ⊥
AreAsked asked unheard (Ask n ∷ ms) = (Ask n ≡ asked) × (ms ≡ [])
AreAsked asked unheard (Lend n ∷ ms) = (Lend n ≡ asked) × (ms ≡ [])
AreAsked asked unheard (Release slots ∷ ms) = Sub slots unheard × AreAsked asked unheard ms

-- nothing but Hello of the session that is wanted now
abbrev pub OnlyHellos : Option Wanted → List Said → Type 0
OnlyHellos wanted [] = Unit {0}
OnlyHellos wanted (Hello other ∷ ms) = (other ≡ wanted) × OnlyHellos wanted ms
OnlyHellos wanted (Ask n ∷ ms) = ⊥
OnlyHellos wanted (Lend n ∷ ms) = ⊥
OnlyHellos wanted (Release slots ∷ ms) = ⊥

-- releases, a question or a lend after them, and after that nothing but Hello: what is left of connections before
abbrev pub AreStale : Option Wanted → List ℕ → List Said → Type 0
AreStale wanted unheard [] = Unit {0}
AreStale wanted unheard (Hello other ∷ ms) = (other ≡ wanted) × OnlyHellos wanted ms
AreStale wanted unheard (Ask n ∷ ms) = OnlyHellos wanted ms
AreStale wanted unheard (Lend n ∷ ms) = OnlyHellos wanted ms
AreStale wanted unheard (Release slots ∷ ms) = Sub slots unheard × AreStale wanted unheard ms

-- a release of the slot is under way
abbrev pub is_coming : List Said → ℕ → Bool
is_coming [] s = false
is_coming (Hello wanted ∷ ms) s = is_coming ms s
is_coming (Ask n ∷ ms) s = is_coming ms s
is_coming (Lend n ∷ ms) s = is_coming ms s
is_coming (Release slots ∷ ms) s = has slots s || is_coming ms s

-- ---- the slots

-- One reply to Lend isn't counted yet: it is under way or lost. The host has its slots still, and the client shows none of them. Of the
-- connections before nothing but Hello can be heard.
pub record Uncounted (h : HostSide) (loans : ℕ) (wanted : Option Wanted) (shown : ℕ → Option ℕ) (stale : List Said) : Type 0 where
  pub more : h.loans ≡ next_loans loans
  pub there : (s f : ℕ) → given_to h.last s ≡ Some f → h.held s ≡ Some f
  pub hidden : (s f : ℕ) → given_to h.last s ≡ Some f → shown s ≡ None
  pub later : OnlyHellos wanted stale

-- the slot is shown, or it waits for its release, or its loan is in a reply that isn't counted yet
abbrev pub IsKnown : HostSide → ℕ → List ℕ → (ℕ → Option ℕ) → ℕ → ℕ → Type 0
IsKnown h loans unheard shown s f = (shown s ≡ Some f) ⊎ ((has unheard s ≡ true) ⊎ ((h.loans ≡ next_loans loans) × (given_to h.last s ≡ Some f)))

-- Both halves are of one session. The host has each slot that the client shows, with its frame. What was given up isn't shown.
pub record Fits (h : HostSide) (loans : ℕ) (wanted : Option Wanted) (unheard : List ℕ) (shown : ℕ → Option ℕ) (stale : List Said) : Type 0 where
  pub shows : (s f : ℕ) → shown s ≡ Some f → h.held s ≡ Some f
  pub apart : (s f : ℕ) → shown s ≡ Some f → has unheard s ≡ false
  pub known : (s f : ℕ) → h.held s ≡ Some f → IsKnown h loans unheard shown s f
  pub counts : (h.loans ≡ loans) ⊎ Uncounted h loans wanted shown stale

-- ---- by what the client's connection is at

-- both halves are of one session
abbrev pub IfSame : World → Type 0 → Type 0
IfSame w P = (name : List ℕ) → w.host.name ≡ Some name → w.client.name ≡ Some name → P

-- What was given up and the host has still: its release is under way, or is to be said. (Where the connection stands no more, nothing is said of it)
abbrev pub AreReleased : World → Type 0
AreReleased w = (s f : ℕ) → w.host.held s ≡ Some f → has w.client.unheard s ≡ true →
    (is_coming w.up s ≡ true) ⊎ (has (drop w.client.said w.client.unheard) s ≡ true)

-- all replies were counted
abbrev pub IsCounted : World → Type 0
IsCounted w = IfSame w ((w.host.loans ≡ w.client.loans) × (w.stands ≡ true → AreReleased w))

-- Hello was said, and the host hasn't heard it
abbrev pub IsCalling : World → Type 0
IsCalling w = (w.down ≡ []) × ((w.up ≡ []) ⊎ (w.up ≡ Hello (wanted_of w.client) ∷ []))

-- Welcome is under way: to the client's session, whose replies are all counted, or to one that has just begun
abbrev pub IsReady : List ℕ → World → Type 0
IsReady name w =
    (is_named name w.client.name ≡ true → w.host.loans ≡ w.client.loans)
    × (is_named name w.client.name ≡ false → (w.host.loans ≡ 0) × ((s : ℕ) → w.host.held s ≡ None))

abbrev pub IsWelcome : World → Type 0
IsWelcome w = (name : List ℕ) × (w.down ≡ Welcome name ∷ []) × (w.up ≡ []) × (w.stale ≡ []) × (w.host.name ≡ Some name → IsReady name w)

-- the host hasn't replied to what is open
abbrev pub IsUnanswered : Said → World → Type 0
IsUnanswered asked w = (w.down ≡ []) × AreAsked asked w.client.unheard w.up × IsCounted w

-- The reply to a question is under way: the host has heard of all releases that were said.
abbrev pub IsSeen : ℕ → World → Type 0
IsSeen n w =
    (w.down ≡ Seen n ∷ []) × (w.up ≡ [])
    × IfSame w ((w.host.loans ≡ w.client.loans)
    × ((s f : ℕ) → w.host.held s ≡ Some f → has w.client.unheard s ≡ true → has (drop w.client.said w.client.unheard) s ≡ true))

-- The reply to a lend is under way. What was given up and the host has still, it has given anew.
abbrev pub IsGranted : World → Type 0
IsGranted w =
    (ls : List Lent) × (w.down ≡ Loans ls ∷ []) × (w.up ≡ [])
    × IfSame w ((w.host.loans ≡ next_loans w.client.loans) × (w.host.last ≡ ls)
    × ((s f : ℕ) → w.host.held s ≡ Some f → has w.client.unheard s ≡ true → given_to ls s ≡ Some f))

abbrev pub PhaseAt : World → Link → Type 0
PhaseAt w link.Apart = (w.up ≡ []) × (w.down ≡ [])
PhaseAt w link.Greeting = IsCalling w ⊎ IsWelcome w
PhaseAt w link.Talking = (w.stale ≡ []) × (w.down ≡ []) × OnlyReleases w.client.unheard w.up × IsCounted w
PhaseAt w (link.Asked n) = (w.stale ≡ []) × (IsUnanswered (Ask n) w ⊎ IsSeen n w)
PhaseAt w (link.Lending n) = (w.stale ≡ []) × (drop w.client.said w.client.unheard ≡ []) × (IsUnanswered (Lend n) w ⊎ IsGranted w)

-- ---- all of it

pub record Sound (w : World) : Type 0 where
  pub silent : w.stands ≡ false → w.up ≡ []
  pub within : w.client.said ≤ length w.client.unheard
  pub phase : PhaseAt w w.client.link
  pub stale : AreStale (wanted_of w.client) w.client.unheard w.stale
  pub fits : IfSame w (Fits w.host w.client.loans (wanted_of w.client) w.client.unheard w.shown w.stale)
