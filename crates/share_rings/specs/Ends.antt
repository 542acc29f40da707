-- What a contract sees of the ends of a guest's two rings.
use Rattle.std.specs.Prelude.{◌≡◌, ℕ, ◌<◌, ◌≤◌, Bool, List, [], ◌∷◌, ◌++◌, length, slice_index_or, Result, MatchResult}
use denote.RawPtr.{Ptr}
use Rattle.rtrb.specs.Shared.{Names}
use Rattle.rtrb.specs.Ring.{sent, received, known_free, known_items, producer_capacity}
use Rattle.rtrb.specs.declared.producer.Producer.{Producer}
use Rattle.rtrb.specs.declared.consumer.Consumer.{Consumer}
use Rattle.page_model.specs.declared.request.Request.{Request}
use Rattle.page_model.specs.declared.verdict.Verdict.{Verdict}
use Rattle.share_rings.specs.Closing.{is_close}
use Rattle.share_rings.specs.declared.port.Port.{Port}
use Rattle.share_rings.specs.declared.closed_port.ClosedPort.{ClosedPort}
use Rattle.share_rings.specs.declared.merger_end.MergerEnd.{MergerEnd}

-- which ring it is
abbrev pub RingName : Type 0 → Type 0
RingName A = Ptr × Ptr × Names × A

-- which pair of rings it is: the ring of requests and that of verdicts
abbrev pub PairName : Type 0 → Type 0
PairName A = RingName A × RingName A

module _ {T A P : Type 0} where
  -- the ring that a producer pushes to
  unfoldable pub producer_name : Producer T A P → RingName A
  producer_name p = (p.end.words, p.end.slots, p.end.names, p.end.heap)

  -- the ring that a consumer pops from
  unfoldable pub consumer_name : Consumer T A P → RingName A
  consumer_name c = (c.end.words, c.end.slots, c.end.names, c.end.heap)

module _ {A : Type 0} where
  abbrev pub port_name : Port A → PairName A
  port_name p = (producer_name p.requests, consumer_name p.verdicts)

  -- the requests sent, oldest first
  abbrev pub port_sent : Port A → List Request
  port_sent p = sent p.requests

  -- the verdicts received, oldest first
  abbrev pub port_got : Port A → List Verdict
  port_got p = received p.verdicts

  -- the verdicts that the port has seen in the ring but not yet received
  abbrev pub port_known : Port A → List Verdict
  port_known p = known_items p.verdicts

  -- how many requests the ring holds
  abbrev pub port_capacity : Port A → ℕ
  port_capacity p = producer_capacity p.requests

  -- the number of requests sent is at least the ring's capacity
  abbrev pub HasFilled : Port A → Type 0
  HasFilled p = port_capacity p ≤ length (port_sent p)

  abbrev pub closed_name : ClosedPort A → PairName A
  closed_name p = (producer_name p.requests, consumer_name p.verdicts)

  abbrev pub closed_sent : ClosedPort A → List Request
  closed_sent p = sent p.requests

  abbrev pub closed_got : ClosedPort A → List Verdict
  closed_got p = received p.verdicts

  abbrev pub closed_known : ClosedPort A → List Verdict
  closed_known p = known_items p.verdicts

  abbrev pub closed_capacity : ClosedPort A → ℕ
  closed_capacity p = producer_capacity p.requests

  abbrev pub end_name : MergerEnd A → PairName A
  end_name e = (consumer_name e.requests, producer_name e.verdicts)

  -- the requests taken, oldest first
  abbrev pub end_taken : MergerEnd A → List Request
  end_taken e = received e.requests

  -- the verdicts given, oldest first
  abbrev pub end_given : MergerEnd A → List Verdict
  end_given e = sent e.verdicts

  -- the requests that the end has seen in the ring but not taken
  abbrev pub end_known : MergerEnd A → List Request
  end_known e = known_items e.requests

  -- how many slots for verdicts the end knows to be free
  abbrev pub end_free : MergerEnd A → ℕ
  end_free e = known_free e.verdicts

  -- how many verdicts the ring holds
  abbrev pub end_capacity : MergerEnd A → ℕ
  end_capacity e = producer_capacity e.verdicts

  -- some request has no verdict yet, and the first such request is `Close` exactly when `closed` is true
  abbrev pub IsUnanswered : MergerEnd A → Bool → Type 0
  IsUnanswered e closed = (length (end_given e) < length (end_taken e))
      × ((d : Request) → closed ≡ is_close (slice_index_or (end_taken e) (length (end_given e)) d))

  -- the two ends of one guest's rings
  abbrev pub IsOnePair : ClosedPort A → MergerEnd A → Type 0
  IsOnePair p e = closed_name p ≡ end_name e

  -- all that a closed port shows: which rings, what was sent and received, and the capacity
  abbrev pub closed_view : ClosedPort A → PairName A × (List Request × List Verdict) × ℕ
  closed_view p = (closed_name p, (closed_sent p, closed_got p), closed_capacity p)

  -- all that a merger's end shows: which rings, what was taken and given, and the capacity
  abbrev pub end_view : MergerEnd A → PairName A × (List Request × List Verdict) × ℕ
  end_view e = (end_name e, (end_taken e, end_given e), end_capacity e)

-- A send: if the answer is Ok, the request follows what was sent before; if it is a fault, nothing was sent. Which rings
-- they are, their capacity, and the verdicts received and known stay the same.
pub record Sends {A E : Type 0} (old new : Port A) (request : Request) (answer : Result (Unit {0}) E) : Type 0 where
  pub pair : port_name new ≡ port_name old
  pub capacity : port_capacity new ≡ port_capacity old
  pub sent : MatchResult answer (λ _. port_sent new ≡ port_sent old ++ request ∷ []) (λ _. port_sent new ≡ port_sent old)
  pub got : port_got new ≡ port_got old
  pub known : port_known new ≡ port_known old
