-- How a round takes requests, and then serves them.
use Rattle.std.specs.Prelude.{◌≡◌, ℕ, ◌+◌, ◌<◌, ◌≤◌, List, [], ◌++◌, length, map, take, drop, All, slice_index_or}
use Rattle.page_model.specs.Pages.{State}
use Rattle.page_model.specs.Replay.{state_after}
use Rattle.page_model.specs.Journal.{asked, answers}
use Rattle.page_model.specs.declared.request.Entry.{Entry}
use Rattle.page_model.specs.declared.request.Request.{Request}
use Rattle.page_model.specs.declared.verdict.Verdict.{Verdict}
use Rattle.share_rings.specs.declared.merger_end.MergerEnd.{MergerEnd}
use Rattle.share_rings.specs.Ends.{end_taken, end_given, end_known, end_free}
use Rattle.merge_core.specs.Shown.{Shown, state_of}
use Rattle.merge_machine.specs.Rounds.{Passed, EachPassed, IsExhausted}

-- these requests as a guest's entries
abbrev pub entries_of : ℕ → List Request → List Entry
entries_of guest requests = map (λ r. record { guest = guest; request = r }) requests

module _ {A : Type 0} where
  -- A visit to an end whose guest is owed `owed` verdicts: `count` requests, one or none, were taken and put in the journal,
  -- and a slot for the verdict of each is known to be free beyond those owed. None is taken only where none can be.
  pub record Visits (guest owed count : ℕ) (before after : MergerEnd A) (journal journal' : List Entry) : Type 0 where
    pub more : List Request
    pub is : count ≡ length more
    pub one : count ≤ 1
    pub passed : Passed more [] before after
    pub slot : owed ≤ end_free before → owed + count ≤ end_free after
    pub small : owed + count < 4294967296
    pub exhausted : count ≡ 0 → IsExhausted owed after
    pub grew : journal' ≡ journal ++ entries_of guest more

  -- Requests that were taken and put in the journal. Their verdicts are owed, beside those owed before.
  pub record TookSo (ends ends' : List (MergerEnd A)) (journal journal' : List Entry) (owed owed' : List ℕ) : Type 0 where
    pub entries : List Entry
    pub grew : journal' ≡ journal ++ entries
    pub size : length ends' ≡ length ends
    pub members : All (λ e. e.guest < length ends) entries
    pub each : (i : ℕ) (d : MergerEnd A) → i < length ends
        → Passed (asked i entries) [] (slice_index_or ends i d) (slice_index_or ends' i d)
    pub owed_is : (i : ℕ) → i < length ends → slice_index_or owed' i 0 ≡ slice_index_or owed i 0 + length (asked i entries)
    pub slots : (i : ℕ) (d : MergerEnd A) → i < length ends → slice_index_or owed i 0 ≤ end_free (slice_index_or ends i d)
        → slice_index_or owed' i 0 ≤ end_free (slice_index_or ends' i d)

  -- nothing more can be taken for now from the guests below `n`, which are owed these verdicts
  abbrev pub AreExhausted : ℕ → List ℕ → List (MergerEnd A) → Type 0
  AreExhausted n owed ends = (i : ℕ) (d : MergerEnd A) → i < n → IsExhausted (slice_index_or owed i 0) (slice_index_or ends i d)

  -- At most `most` requests were taken and put in the journal, and a slot is known to be free for the verdict of each. Where
  -- there were fewer, nothing more can be taken for now.
  pub record Took (most : ℕ) (ends ends' : List (MergerEnd A)) (journal journal' : List Entry) : Type 0 where
    pub entries : List Entry
    pub grew : journal' ≡ journal ++ entries
    pub count : length entries ≤ most
    pub size : length ends' ≡ length ends
    pub members : All (λ e. e.guest < length ends) entries
    pub each : (i : ℕ) (d : MergerEnd A) → i < length ends
        → Passed (asked i entries) [] (slice_index_or ends i d) (slice_index_or ends' i d)
    pub slots : (i : ℕ) (d : MergerEnd A) → i < length ends → length (asked i entries) ≤ end_free (slice_index_or ends' i d)
    pub exhausted : length entries < most → (i : ℕ) (d : MergerEnd A) → i < length ends
        → IsExhausted (length (asked i entries)) (slice_index_or ends' i d)

  -- these are the requests taken last, no other lacks a verdict, and a slot is known to be free for the verdict of each
  pub record Owes (requests : List Request) (e : MergerEnd A) : Type 0 where
    pub earlier : List Request
    pub taken : end_taken e ≡ earlier ++ requests
    pub answered : length (end_given e) ≡ length earlier
    pub slots : length requests ≤ end_free e

  -- each end owes the verdicts of its guest's requests among these
  abbrev pub EachOwes : List Entry → List (MergerEnd A) → Type 0
  EachOwes entries ends = (i : ℕ) (d : MergerEnd A) → i < length ends → Owes (asked i entries) (slice_index_or ends i d)

  -- each of these verdicts took a slot, and no request was looked for
  abbrev pub OnlyGave : List Verdict → MergerEnd A → MergerEnd A → Type 0
  OnlyGave verdicts before after = (end_known after ≡ end_known before) × (end_free before ≡ end_free after + length verdicts)

  -- the first n of these entries were answered, and the verdicts of the others are owed
  pub record ServedSo (hash : ℕ → List ℕ → ℕ) (s : State) (entries : List Entry) (n : ℕ) (ends ends' : List (MergerEnd A)) : Type 0 where
    pub size : length ends' ≡ length ends
    pub each : (i : ℕ) (d : MergerEnd A) → i < length ends
        → Passed [] (answers hash s i (take n entries)) (slice_index_or ends i d) (slice_index_or ends' i d)
    pub only : (i : ℕ) (d : MergerEnd A) → i < length ends
        → OnlyGave (answers hash s i (take n entries)) (slice_index_or ends i d) (slice_index_or ends' i d)
    pub owes : (i : ℕ) (d : MergerEnd A) → i < length ends → Owes (asked i (drop n entries)) (slice_index_or ends' i d)

  -- at each end, the number of verdicts given is that of requests taken
  abbrev pub AllAnswered : List (MergerEnd A) → Type 0
  AllAnswered ends = (i : ℕ) (d : MergerEnd A) → i < length ends
      → length (end_given (slice_index_or ends i d)) ≡ length (end_taken (slice_index_or ends i d))

  -- what a round did to the ends, the journal and the core
  pub record Done (hash : ℕ → List ℕ → ℕ) (most done : ℕ) (ends ends' : List (MergerEnd A)) (journal journal' : List Entry)
      (core core' : Shown) : Type 0 where
    pub entries : List Entry
    pub count : length entries ≡ done
    pub few : done ≤ most
    pub grew : journal' ≡ journal ++ entries
    pub size : length ends' ≡ length ends
    pub members : All (λ e. e.guest < length ends) entries
    pub each : EachPassed hash (state_of core) entries entries ends ends'
    pub exhausted : done < most → (i : ℕ) (d : MergerEnd A) → i < length ends → IsExhausted 0 (slice_index_or ends' i d)
    pub memory : state_of core' ≡ state_after hash (state_of core) entries
    pub counted : core'.entries ≡ core.entries + length entries
    pub guests : length (state_of core').guests ≡ length (state_of core).guests
