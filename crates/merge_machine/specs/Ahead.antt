-- What a step finds at a guest's end, and what serving a request does to the end.
use Rattle.std.specs.Prelude.{◌≡◌, ◌+◌, ◌<◌, ◌≤◌, Bool, true, false, [], ◌∷◌, ◌++◌, length}
use mathlib.Core.List.{IsPrefix}
use Rattle.page_model.specs.declared.request.Request.{Request}
use Rattle.page_model.specs.declared.verdict.Verdict.{Verdict}
use Rattle.share_rings.specs.declared.merger_end.MergerEnd.{MergerEnd}
use Rattle.share_rings.specs.Closing.{has_closed}
use Rattle.share_rings.specs.Ends.{end_name, end_taken, end_given, end_known, end_free, end_capacity, end_view}
use Rattle.merge_machine.specs.declared.ahead.Ahead.{Ahead}
use Rattle.merge_machine.specs.declared.ahead.Ahead.TheVariants.{Ended, Full, Blocked, Idle, Next}

module _ {A : Type 0} where
  -- nothing went through the end, which may have checked its rings
  abbrev pub Looked : MergerEnd A → MergerEnd A → Type 0
  Looked before after = (end_view after ≡ end_view before) × (end_free before ≤ end_free after)

  -- the guest's `Closed` was not given
  abbrev pub IsOpen : MergerEnd A → Type 0
  IsOpen before = has_closed (end_given before) ≡ false

  -- one request was taken, the first of those known, and a slot for its verdict is known to be free
  pub record TookOne (request : Request) (before after : MergerEnd A) : Type 0 where
    pub name : end_name after ≡ end_name before
    pub capacity : end_capacity after ≡ end_capacity before
    pub taken : end_taken after ≡ end_taken before ++ request ∷ []
    pub given : end_given after ≡ end_given before
    pub known : IsPrefix (end_known before) (request ∷ end_known after)
    pub slot : 0 < end_free after
    pub free : end_free before ≤ end_free after

  -- one verdict was given
  pub record GaveOne (verdict : Verdict) (before after : MergerEnd A) : Type 0 where
    pub name : end_name after ≡ end_name before
    pub capacity : end_capacity after ≡ end_capacity before
    pub taken : end_taken after ≡ end_taken before
    pub given : end_given after ≡ end_given before ++ verdict ∷ []
    pub known : end_known after ≡ end_known before
    pub free : end_free before ≡ end_free after + 1

  -- the first of the causes that fits, in the order in which they are checked; full is whether the journal has no room
  abbrev pub Finds : Bool → MergerEnd A → MergerEnd A → Ahead → Type 0
  Finds full before after Ended = (has_closed (end_given before) ≡ true) × (after ≡ before)
  Finds full before after Full = IsOpen before × (full ≡ true) × (after ≡ before)
  Finds full before after Blocked =
      IsOpen before × (full ≡ false) × (end_free after ≡ 0) × (end_capacity before ≤ length (end_given before))
      × (end_known after ≡ end_known before) × Looked before after
  Finds full before after Idle = IsOpen before × (full ≡ false) × (0 < end_free after) × (end_known before ≡ []) × Looked before after
  Finds full before after (Next request) = IsOpen before × (full ≡ false) × TookOne request before after
