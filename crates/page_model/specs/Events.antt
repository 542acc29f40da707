-- What passes between the guests and the merger, one event after another. A verdict is represented by the place of its
-- entry in the journal, so a world of events is the same for every hash, number of frames and ring capacity.
use Rattle.std.specs.Prelude.{◌≡◌, ℕ, ◌<◌, ◌≤◌, ◌==◌, false, if◌then◌else◌, List, [], ◌∷◌, ◌++◌, length, take, drop, map, Some, slice_get}
use Rattle.page_model.specs.Closing.{has_close}
use Rattle.page_model.specs.Journal.{places}
use Rattle.page_model.specs.declared.event.Event.{Event}
use Rattle.page_model.specs.declared.event.Event.TheVariants.{Send, Take, Give, Get}
use Rattle.page_model.specs.declared.request.Entry.{Entry}
use Rattle.page_model.specs.declared.request.Request.{Request}
use Rattle.page_model.specs.declared.request.Request.TheVariants.{Count}

-- What has passed between one guest and the merger: the requests that the guest sent and those that the merger took,
-- and the verdicts that the merger gave and those that the guest got, by their places in the journal.
pub record Traffic : Type 0 where
  pub sent : List Request
  pub taken : List Request
  pub given : List ℕ
  pub got : List ℕ

-- nothing has passed yet
abbrev pub no_traffic : Traffic
no_traffic = record { sent = []; taken = []; given = []; got = [] }

-- the traffic of each guest by its number, and the merger's journal
pub record World : Type 0 where
  pub traffic : ℕ → Traffic
  pub journal : List Entry

-- the world before the first event
abbrev pub start : World
start = record { traffic = λ guest. no_traffic; journal = [] }

-- the element of ys that comes after as many elements as xs has, or none
abbrev pub next : {X : Type 0} → List X → List X → List X
next xs ys = take 1 (drop (length xs) ys)

-- the guest sends a request, unless it has sent a close
abbrev pub sends : Request → Traffic → Traffic
sends r t = record { sent = if has_close t.sent then t.sent else t.sent ++ r ∷ []; taken = t.taken; given = t.given; got = t.got }

-- the merger takes the next request that was sent
abbrev pub takes : Traffic → Traffic
takes t = record { sent = t.sent; taken = t.taken ++ next t.taken t.sent; given = t.given; got = t.got }

-- the merger gives the next of these places
abbrev pub gives : List ℕ → Traffic → Traffic
gives ready t = record { sent = t.sent; taken = t.taken; given = t.given ++ next t.given ready; got = t.got }

-- the guest gets the next place that was given
abbrev pub gets : Traffic → Traffic
gets t = record { sent = t.sent; taken = t.taken; given = t.given; got = t.got ++ next t.got t.given }

-- one guest's traffic changes
abbrev pub at_guest : ℕ → (Traffic → Traffic) → (ℕ → Traffic) → ℕ → Traffic
at_guest guest change traffic other = if other == guest then change (traffic other) else traffic other

-- requests of a guest as entries of the journal
abbrev pub entries_of : ℕ → List Request → List Entry
entries_of guest rs = map (λ r. record { guest = guest; request = r }) rs

-- One event. What is taken also goes to the journal, and what can be given is the places of the guest's entries
-- there. An event with nothing to move changes nothing.
abbrev pub happens : World → Event → World
happens w (Send guest r) = record { traffic = at_guest guest (sends r) w.traffic; journal = w.journal }
happens w (Take guest) = record {
  traffic = at_guest guest takes w.traffic;
  journal = w.journal ++ entries_of guest (next (w.traffic guest).taken (w.traffic guest).sent);
}
happens w (Give guest) = record { traffic = at_guest guest (gives (places guest w.journal)) w.traffic; journal = w.journal }
happens w (Get guest) = record { traffic = at_guest guest gets w.traffic; journal = w.journal }

-- one event after another
abbrev pub world_from : World → List Event → World
world_from w [] = w
world_from w (e ∷ es) = world_from (happens w e) es

-- the world after these events
abbrev pub world_after : List Event → World
world_after es = world_from start es

-- ys begins with xs
pub record Begins {X : Type 0} (xs ys : List X) : Type 0 where
  pub rest : List X
  pub whole : xs ++ rest ≡ ys

-- only the last of these requests may be a close
abbrev pub ClosesLast : List Request → Type 0
ClosesLast rs = (front : List Request) (last : Request) → front ++ last ∷ [] ≡ rs → has_close front ≡ false

-- If guest a had got its kth place before guest b's mth request was sent, both counted from 0,
-- a's kth place comes before b's mth.
abbrev pub GotBeforeSent : List Event → Type 0
GotBeforeSent es =
    (n a b k m p q : ℕ) →
    let early = world_after (take n es) in
    let journal = (world_after es).journal in
    k < length (early.traffic a).got → length (early.traffic b).sent ≤ m →
    slice_get (places a journal) k ≡ Some p → slice_get (places b journal) m ≡ Some q → p < q

-- events most of which come before they have anything to move
abbrev pub out_of_order : List Event
out_of_order = Get 0 ∷ Take 0 ∷ Send 0 Count ∷ Take 0 ∷ Get 0 ∷ Give 0 ∷ Get 0 ∷ []
