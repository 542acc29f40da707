-- What is true of both halves in every history.
use Rattle.std.specs.Prelude.{◌≡◌, ℕ, ◌⊎◌, true, List, [], ◌∷◌, Some, None}
use Rattle.host_messages.specs.declared.client.Wanted.{Wanted}
use Rattle.host_messages.specs.declared.item.Lent.{Lent}
use Rattle.client_session.specs.declared.link.Link.TheVariants as link
use Rattle.session_laws.specs.World.{World, Said, Event, Connects, Parts, Lends, TakesUp, Begins, HearsLoans, Resumes, Starts, Grants, Frees, OldFrees, step, May, MayAll, Always, run, start, has}
use Rattle.session_laws.specs.Sound.{IfSame, IsKnown, Sound}

-- at each moment all of it holds
abbrev pub AlwaysSound : Type 0
AlwaysSound = Always Sound

-- A frame stays in use as long as a page of the client shows it: the host has the slot, with this frame.
abbrev pub KeepsShown : World → Type 0
KeepsShown w = IfSame w ((s f : ℕ) → w.shown s ≡ Some f → w.host.held s ≡ Some f)

-- Each slot that the host has is shown, or waits for its release, or its loan is in a reply that is under way or lost.
abbrev pub KnowsAll : World → Type 0
KnowsAll w = IfSame w ((s f : ℕ) → w.host.held s ≡ Some f → IsKnown w.host w.client.loans w.client.unheard w.shown s f)

-- Where nothing is open and nothing waits for its release, both halves have the same slots.
abbrev pub Agrees : World → Type 0
Agrees w = w.client.link ≡ link.Talking → w.client.unheard ≡ [] → IfSame w ((s : ℕ) → w.host.held s ≡ w.shown s)

-- When a session is taken up, the host has no slot but those that are shown or wait for their release: a lost reply has given none.
abbrev pub TakesBack : World → Type 0
TakesBack w = (wanted : Wanted) (rest : List Said) → May w (Resumes wanted rest) → let now : World = step w (Resumes wanted rest) in IfSame w ((s f : ℕ) → now.host.held s ≡ Some f → (w.shown s ≡ Some f) ⊎ (has w.client.unheard s ≡ true))

-- A release that the host hears, of this connection or of one before, frees only slots that the client gave up and shows no more, and none of
-- a reply that is under way or lost. So one that is said twice releases once, and no loan of the same slot after it.
abbrev pub FreesGivenUp : World → Type 0
FreesGivenUp w =
    (slots : List ℕ) (rest : List Said) → May w (Frees slots rest) ⊎ May w (OldFrees slots rest) →
    IfSame w ((s : ℕ) → has slots s ≡ true → (w.shown s ≡ None) × (has w.client.unheard s ≡ true) × (w.host.loans ≡ w.client.loans))

-- A history in which a reply to Lend is lost. A session begins, and its first loan is counted. The next one is lost with the connection, and
-- the session is taken up.
abbrev pub loan : ℕ → ℕ → Lent
loan slot frame = record { slot = slot; frame = frame; sharers = 1 }

abbrev pub some_name : List ℕ
some_name = 7 ∷ []

abbrev pub a_loss : List Event
a_loss =
    Connects ∷ Starts None some_name [] ∷ Begins some_name [] ∷ Lends 1 ∷ Grants 1 (loan 3 0 ∷ []) [] ∷ HearsLoans (loan 3 0 ∷ []) [] ∷ Lends 1
    ∷ Grants 1 (loan 4 1 ∷ []) [] ∷ Parts ∷ Connects ∷ Resumes (record { name = some_name; loans = 1 }) [] ∷ TakesUp some_name [] ∷ []

-- It may happen. Then the client shows the frame of the first loan, and the host has its slot and not the other one's.
pub record LosesOne : Type 0 where
  pub may : MayAll start a_loss
  pub shown : (run start a_loss).shown 3 ≡ Some 0
  pub held : (run start a_loss).host.held 3 ≡ Some 0
  pub lost : (run start a_loss).host.held 4 ≡ None
