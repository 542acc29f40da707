-- What the meetings of all pairs show.
use Rattle.std.specs.Prelude.{◌≡◌, ℕ, ◌<◌, ◌≤◌, Bool, true, not, List, ◌++◌, length, slice_index_or}
use Rattle.share_rings.specs.declared.merger_end.MergerEnd.{MergerEnd}
use Rattle.share_rings.specs.declared.closed_port.ClosedPort.{ClosedPort}
use Rattle.share_rings.specs.Closing.{has_closed, last_closed}
use Rattle.share_rings.specs.Ends.{closed_sent, closed_got, closed_known, end_taken, end_given, end_known, end_free}

module _ {A : Type 0} where
  -- `Closed`, if received, is the last verdict received; and if it was given and received, both rings are empty for good
  abbrev pub MeetWhereClosedAt : ClosedPort A → MergerEnd A → Type 0
  MeetWhereClosedAt p e =
      (has_closed (closed_got p) ≡ last_closed (closed_got p))
      × (has_closed (end_given e) ≡ true → has_closed (closed_got p) ≡ true → (end_taken e ≡ closed_sent p) × (closed_got p ≡ end_given e))

  -- the same for each of the first n pairs
  abbrev pub MeetWhereClosed : List (ClosedPort A) → List (MergerEnd A) → ℕ → Type 0
  MeetWhereClosed ports ends n = (i : ℕ) (p : ClosedPort A) (e : MergerEnd A) → i < n
      → MeetWhereClosedAt (slice_index_or ports i p) (slice_index_or ends i e)

  -- `Closed` is not the last verdict received
  abbrev pub is_unclosed : ClosedPort A → Bool
  is_unclosed p = not (last_closed (closed_got p))

  -- no end knows of fewer free slots than before
  abbrev pub NoFewerFree : List (MergerEnd A) → List (MergerEnd A) → Type 0
  NoFewerFree ends ends' = (i : ℕ) (e : MergerEnd A) → i < length ends
      → end_free (slice_index_or ends i e) ≤ end_free (slice_index_or ends' i e)

  -- all items in the two rings of a pair are known to the ends that take them
  abbrev pub KnownAt : ClosedPort A → MergerEnd A → Type 0
  KnownAt p e = (end_taken e ++ end_known e ≡ closed_sent p) × (closed_got p ++ closed_known p ≡ end_given e)

  -- the same for each of the first n pairs
  abbrev pub KnownBelow : List (ClosedPort A) → List (MergerEnd A) → ℕ → Type 0
  KnownBelow ports ends n = (i : ℕ) (p : ClosedPort A) (e : MergerEnd A) → i < n
      → KnownAt (slice_index_or ports i p) (slice_index_or ends i e)

  -- the same for all pairs
  abbrev pub AllKnown : List (ClosedPort A) → List (MergerEnd A) → Type 0
  AllKnown ports ends = KnownBelow ports ends (length ends)
