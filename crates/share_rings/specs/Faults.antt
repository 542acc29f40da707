-- Why there is no pair of rings, and why a request was not sent: all that each fault says.
use Rattle.std.specs.Prelude.{ℕ, ◌≡◌, ◌<◌, ◌≤◌, ◌⊎◌}
use Rattle.page_model.specs.Faults.{Fits, RefusedFor}
use Rattle.page_model.specs.declared.limits.TheConstants.{MAX_RING_CAPACITY}
use Rattle.page_model.specs.declared.request.RequestFault.{RequestFault}
use Rattle.page_model.specs.declared.request.RequestFault.TheVariants as refused
use Rattle.share_rings.specs.declared.pair.RingFault.{RingFault}
use Rattle.share_rings.specs.declared.pair.RingFault.TheVariants.{Ring, OutOfMemory}
use Rattle.share_rings.specs.declared.fault.SendFault.{SendFault}
use Rattle.share_rings.specs.declared.fault.SendFault.TheVariants.{Length, Crosses, Busy}

-- rings may have this capacity
abbrev pub IsCapacity : ℕ → Type 0
IsCapacity capacity = (1 ≤ capacity) × (capacity ≤ MAX_RING_CAPACITY)

-- the first cause for which there is no pair of this capacity
abbrev pub NoPairFor : ℕ → RingFault → Type 0
NoPairFor capacity Ring = (capacity ≡ 0) ⊎ (MAX_RING_CAPACITY < capacity)
NoPairFor capacity OutOfMemory = IsCapacity capacity

-- a request's fault as the fault of sending it
abbrev pub fault_of : RequestFault → SendFault
fault_of refused.Length = Length
fault_of refused.Crosses = Crosses

-- The first cause for which a store or load of len bytes at this place was not sent, on a ring of this capacity to which
-- `before` requests were sent earlier. A ring is busy only after at least its capacity of requests.
abbrev pub NotSentFor : ℕ → ℕ → ℕ → ℕ → SendFault → Type 0
NotSentFor at len capacity before Length = RefusedFor at len refused.Length
NotSentFor at len capacity before Crosses = RefusedFor at len refused.Crosses
NotSentFor at len capacity before Busy = Fits at len × (capacity ≤ before)
