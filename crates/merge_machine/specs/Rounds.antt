-- What a round of the merger does.
use Rattle.std.specs.Prelude.{◌≡◌, ℕ, ◌+◌, ◌<◌, ◌≤◌, Bool, true, false, not, List, [], ◌++◌, length, slice_index_or, ◌⊎◌}
use Rattle.std.specs.List.{list_any}
use mathlib.Core.List.{IsPrefix}
use Rattle.page_model.specs.Pages.{State}
use Rattle.page_model.specs.Replay.{state_after}
use Rattle.page_model.specs.Journal.{asked, answers}
use Rattle.page_model.specs.declared.hashing.HashFunction.{Ghosts}
use Rattle.page_model.specs.declared.request.Entry.{Entry}
use Rattle.page_model.specs.declared.request.Request.{Request}
use Rattle.page_model.specs.declared.verdict.Verdict.{Verdict}
use Rattle.share_rings.specs.declared.merger_end.MergerEnd.{MergerEnd}
use Rattle.share_rings.specs.Closing.{has_close, has_closed}
use Rattle.share_rings.specs.Ends.{end_name, end_taken, end_given, end_known, end_free, end_capacity}
use Rattle.merge_machine.specs.declared.merger.Merger.{Merger}
use Rattle.merge_machine.specs.Steps.{Same, HasRoom}
use Rattle.merge_machine.specs.View.{ends_of, journal_of, limit_of, memory_of, guest_count}

module _ {A : Type 0} where
  -- These requests were taken at an end, the known ones before the others, and these verdicts were given.
  pub record Passed (requests : List Request) (verdicts : List Verdict) (before after : MergerEnd A) : Type 0 where
    pub name : end_name after ≡ end_name before
    pub capacity : end_capacity after ≡ end_capacity before
    pub taken : end_taken after ≡ end_taken before ++ requests
    pub given : end_given after ≡ end_given before ++ verdicts
    pub known : IsPrefix (end_known before) (requests ++ end_known after)
    pub free : end_free before ≤ end_free after + length verdicts

  -- Nothing more can be taken at this end for now: its guest's `Close` was taken, no slot is known to be free beyond those
  -- for the verdicts owed, or no request is known.
  abbrev pub IsExhausted : ℕ → MergerEnd A → Type 0
  IsExhausted owed e = (has_close (end_taken e) ≡ true) ⊎ ((end_free e ≤ owed) ⊎ (end_known e ≡ []))

  -- At each end, its guest's requests among the entries were taken, and its verdicts on the entries in `first` were given:
  -- those of a replay from the state s on.
  abbrev pub EachPassed : (ℕ → List ℕ → ℕ) → State → List Entry → List Entry → List (MergerEnd A) → List (MergerEnd A) → Type 0
  EachPassed hash s entries first ends ends' =
      (i : ℕ) (d : MergerEnd A) → i < length ends
      → Passed (asked i entries) (answers hash s i first) (slice_index_or ends i d) (slice_index_or ends' i d)

  -- `Closed` was not given
  abbrev pub is_open : MergerEnd A → Bool
  is_open e = not (has_closed (end_given e))

  -- some guest's `Closed` was not given
  abbrev pub has_open : List (MergerEnd A) → Bool
  has_open ends = list_any is_open ends

module _ {H A : Type 0} {ghosts : Ghosts H} where
  -- A round that did `done` requests, at most its limit: they are the journal's new entries. Each was applied and answered
  -- as by the replay of these entries, one after the other, and no other was taken. Where there were fewer than the limit,
  -- and the journal still has room, nothing more can be taken from any guest for now.
  pub record Rounds (hash : ℕ → List ℕ → ℕ) (limit done : ℕ) (old new : Merger H A ghosts) : Type 0 where
    pub entries : List Entry
    pub count : length entries ≡ done
    pub most : done ≤ limit
    pub journal : journal_of new ≡ journal_of old ++ entries
    pub memory : memory_of new ≡ state_after hash (memory_of old) entries
    pub each : EachPassed hash (memory_of old) entries entries (ends_of old) (ends_of new)
    pub may : HasRoom old ⊎ (has_open (ends_of old) ≡ false)
    pub exhausted : done < limit → HasRoom new → (i : ℕ) (d : MergerEnd A) → i < guest_count new
        → IsExhausted 0 (slice_index_or (ends_of new) i d)

  -- the journal is full, some guest hasn't ended, and nothing was done
  pub record IsFullForAll (old new : Merger H A ghosts) : Type 0 where
    pub full : length (journal_of old) ≡ limit_of old
    pub opened : has_open (ends_of old) ≡ true
    pub ends : ends_of new ≡ ends_of old
    pub same : Same old new
