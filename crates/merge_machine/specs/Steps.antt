-- What a step of the merger does.
use Rattle.std.specs.Prelude.{◌≡◌, ℕ, ◌+◌, ◌<◌, ◌≤◌, true, List, [], ◌∷◌, ◌++◌, length, Some, slice_get, slice_set}
use mathlib.Core.List.{IsPrefix}
use Rattle.page_model.specs.Steps.{step}
use Rattle.page_model.specs.declared.hashing.HashFunction.{Ghosts}
use Rattle.page_model.specs.declared.request.Request.{Request}
use Rattle.share_rings.specs.declared.merger_end.MergerEnd.{MergerEnd}
use Rattle.share_rings.specs.Closing.{has_closed}
use Rattle.share_rings.specs.Ends.{end_name, end_taken, end_given, end_known, end_free, end_capacity}
use Rattle.merge_machine.specs.Ahead.{Looked, IsOpen}
use Rattle.merge_machine.specs.declared.merger.Merger.{Merger}
use Rattle.merge_machine.specs.declared.merger.Step.{Step}
use Rattle.merge_machine.specs.declared.merger.Step.TheVariants.{Ended, Blocked, Idle, Done}
use Rattle.merge_machine.specs.View.{ends_of, journal_of, limit_of, core_of, memory_of}

-- the guest's end before and after, and every other guest's end as it was
pub record AtGuest {A : Type 0} (guest : ℕ) (ends ends' : List (MergerEnd A)) : Type 0 where
  pub before : MergerEnd A
  pub after : MergerEnd A
  pub here : slice_get ends guest ≡ Some before
  pub others : ends' ≡ slice_set ends guest after

module _ {H A : Type 0} {ghosts : Ghosts H} where
  -- the journal and the core are as they were
  abbrev pub Same : Merger H A ghosts → Merger H A ghosts → Type 0
  Same old new = (journal_of new ≡ journal_of old) × (core_of new ≡ core_of old)

  -- the journal has room
  abbrev pub HasRoom : Merger H A ghosts → Type 0
  HasRoom old = length (journal_of old) < limit_of old

  -- one request, the first of those known, was taken, put in the journal, applied and answered
  pub record ServedOne (hash : ℕ → List ℕ → ℕ) (guest : ℕ) (before after : MergerEnd A) (old new : Merger H A ghosts) : Type 0 where
    pub request : Request
    pub name : end_name after ≡ end_name before
    pub capacity : end_capacity after ≡ end_capacity before
    pub taken : end_taken after ≡ end_taken before ++ request ∷ []
    pub given : end_given after ≡ end_given before ++ (step hash (memory_of old) guest request).verdict ∷ []
    pub known : IsPrefix (end_known before) (request ∷ end_known after)
    pub free : end_free before ≤ end_free after + 1
    pub journal : journal_of new ≡ journal_of old ++ record { guest = guest; request = request } ∷ []
    pub memory : memory_of new ≡ (step hash (memory_of old) guest request).state

  -- what an answer says about the guest's end, the journal and the core, in the order in which the causes are checked
  abbrev pub Does : (ℕ → List ℕ → ℕ) → ℕ → MergerEnd A → MergerEnd A → Merger H A ghosts → Merger H A ghosts → Step → Type 0
  Does hash guest before after old new Ended = (has_closed (end_given before) ≡ true) × (after ≡ before) × Same old new
  Does hash guest before after old new Blocked =
      IsOpen before × HasRoom old × (end_free after ≡ 0) × (end_capacity before ≤ length (end_given before))
      × (end_known after ≡ end_known before) × Looked before after × Same old new
  Does hash guest before after old new Idle = IsOpen before × HasRoom old × (0 < end_free after) × (end_known before ≡ [])
      × Looked before after × Same old new
  Does hash guest before after old new Done = IsOpen before × HasRoom old × ServedOne hash guest before after old new

  -- a step that returns this answer
  pub record Steps (hash : ℕ → List ℕ → ℕ) (guest : ℕ) (old new : Merger H A ghosts) (answer : Step) : Type 0 where
    pub end : AtGuest guest (ends_of old) (ends_of new)
    pub does : Does hash guest end.before end.after old new answer

  -- the journal is full, and the guest's `Closed` was not given
  pub record IsFull (guest : ℕ) (old new : Merger H A ghosts) : Type 0 where
    pub end : AtGuest guest (ends_of old) (ends_of new)
    pub still : end.after ≡ end.before
    pub opened : IsOpen end.before
    pub full : length (journal_of old) ≡ limit_of old
    pub same : Same old new
