-- One more file is opened.
use Rattle.std.proofs.Common.{◌≡◌, ℕ, ◌+◌, ◌<◌, ◌≤◌, ◌⊎◌, Bool, true, false, cond, eqb, List, [], ◌∷◌, ◌++◌, length, map, get_or, set, refl, sym, ap, ◌∙◌, arith, inl, inr, get_or-set_other, get_or-set_same}
use Rattle.std.proofs.lemmas.Bool.{cases_lt, cases_eq, eqb-true}
use Rattle.std.proofs.lemmas.List.{get_or_append_left}
use Rattle.std.proofs.Math.Seq.{get_or-append_seam}
use Rattle.std.specs.Prelude.{Option, Some, None, Result, Ok, Err, IfOk, IfSome}
use Rattle.guest_digests.specs.Samples.{zeros_digest}
use Rattle.digest_text.specs.Fields.{Row}
use Rattle.fleet_census.specs.Fleets.{lines_of, pages_of}
use Rattle.fleet_census.specs.Openings.{IsFirstRead, IsJoined, IsJoint, IsOpen, IsOpenTo, IsOpened, sample_of}
use Rattle.fleet_census.specs.States.{AreChained, From, IsBehind, IsNoOther, IsReadOn, AreReadOn, IsUnread, Said}
use Rattle.fleet_census.specs.Steps.{no_amount, no_guest}
use Rattle.fleet_census.specs.Tournaments.{entry_at, nothing}
use Rattle.fleet_census.specs.declared.entry.Entry.{Entry}
use Rattle.fleet_census.specs.declared.fault.FleetFault.{FleetFault}
use Rattle.fleet_census.specs.declared.fault.FleetFault.TheVariants.{OutOfMemory, TooManyDigests, TooManyPages, OtherSample, Read, Line}
use Rattle.fleet_census.specs.declared.first.First.{First}
use Rattle.fleet_census.specs.declared.guest.FleetGuest.{FleetGuest}
use Rattle.fleet_census.specs.declared.open.Opening.{Opening}
use Rattle.fleet_census.proofs.Gathered.{sum_front, sum_one}
use Rattle.fleet_census.proofs.Lefts.{read_behind}
use Rattle.fleet_census.proofs.ReadOn.{if_some, on}

-- an element before the end, and the last one
at_left : {X : Type 0} (xs : List X) (x d : X) (n i : ℕ) → length xs ≡ n → i < n → get_or (xs ++ x ∷ []) i d ≡ get_or xs i d
at_left xs x d n i len lt = get_or_append_left xs (x ∷ []) d i (omega arith)

at_last : {X : Type 0} (xs : List X) (x d : X) (n : ℕ) → length xs ≡ n → get_or (xs ++ x ∷ []) n d ≡ x
at_last xs x d n len = rw (← len) (get_or-append_seam xs x [] d)

-- the sample so far, and with one more
joined_before : (every more new sample : ℕ) (none : Bool) → eqb every 0 ≡ none → new ≡ cond none more every → (sample ≡ 0) ⊎ (sample ≡ every) → (sample ≡ 0) ⊎ (sample ≡ new)
joined_before every more new sample none e is (inl zero) = inl zero
joined_before every more new sample false e is (inr same) = inr (same ∙ sym is)
joined_before every more new sample true e is (inr same) = inl (same ∙ eqb-true every 0 e)

some_joined : (fleet : List (List Row)) (turn : ℕ) (every more new : ℕ) (none : Bool) → eqb every 0 ≡ none → new ≡ cond none more every → more ≡ sample_of (get_or fleet turn [])
    → (every ≡ 0) ⊎ (file : ℕ) × (file < turn) × (sample_of (get_or fleet file []) ≡ every)
    → (new ≡ 0) ⊎ (file : ℕ) × (file < turn + 1) × (sample_of (get_or fleet file []) ≡ new)
some_joined fleet turn every more new true e is sample so_far = inr (turn, omega arith, sym sample ∙ sym is)
some_joined fleet turn every more new false e is sample (inl zero) = inl (is ∙ zero)
some_joined fleet turn every more new false e is sample (inr one) = inr (one.0, omega (arith, one.1), one.2 ∙ sym is)

module _ (fleet : List (List Row)) (turn : ℕ) (leaves : List Entry) (rows_left : List (Option Said)) (zeros : List ℕ) (guests : List FleetGuest) (opening : Opening)
    (so_far : IsOpenTo fleet turn leaves rows_left zeros guests opening) (within : turn < length fleet) (few : length fleet ≤ 65536) (rise : From 0 (lines_of (get_or fleet turn []))) where
  unread_here : IsUnread (get_or fleet turn []) 0 (get_or rows_left turn None)
  unread_here = record { rest = get_or fleet turn []; is = so_far.unread turn (omega arith) within; left = record { same = λ digest low. refl; from = rise } }

  module _ (now : List (Option Said)) (first : First) (read : IsReadOn turn rows_left now (Ok first.entry)) (opened : IsOpened (get_or fleet turn []) first)
      (leaves_len : length leaves ≡ length fleet) (left_len : length rows_left ≡ length fleet) (zeros_len : length zeros ≡ turn) (guests_len : length guests ≡ turn) where
    behind_now : (file : ℕ) → file < turn + 1 → IsBehind (get_or fleet file []) 0 (entry_at (set leaves turn first.entry) file) (get_or (set rows_left turn read.now) file None)
    behind_now file lt = elim (cases_eq file turn) [
      | inl e ↦
          let leaf : entry_at (set leaves turn first.entry) file ≡ first.entry = rw e (get_or-set_same leaves turn first.entry nothing (omega arith)) in
          let said : get_or (set rows_left turn read.now) file None ≡ read.now = rw e (get_or-set_same rows_left turn read.now None (omega arith)) in
          rw (leaf, said, e) (read_behind (get_or fleet turn []) 0 turn (get_or rows_left turn None) read.now first.entry unread_here (omega arith) read.next)
      | inr ne ↦
          let leaf : entry_at (set leaves turn first.entry) file ≡ entry_at leaves file = get_or-set_other leaves turn file first.entry nothing ne in
          let said : get_or (set rows_left turn read.now) file None ≡ get_or rows_left file None = get_or-set_other rows_left turn file read.now None ne in
          rw (leaf, said) (so_far.behind file (omega arith))
    ]

    pub open_more : (z : ℕ) (guest : FleetGuest) (more : Opening) → z ≡ zeros_digest first.salt → guest ≡ record { pages = first.pages; zero = 0; distinct = no_amount; shared = no_amount; alone = no_amount }
        → IsJoint opening first more → IsOpenTo fleet (turn + 1) (set leaves turn first.entry) now (zeros ++ z ∷ []) (guests ++ guest ∷ []) more
    open_more z guest more z_is guest_is joint = record {
      behind = λ file lt. rw read.others (behind_now file lt);
      unread = λ file ge lt. rw read.others (get_or-set_other rows_left turn file read.now None (omega arith) ∙ so_far.unread file (omega arith) lt);
      zeros_are = λ file lt. elim (cases_lt file turn) [
        | inl low ↦ at_left zeros z 0 turn file zeros_len low ∙ so_far.zeros_are file low
        | inr ge ↦ let e : file ≡ turn = omega arith in rw e (at_last zeros z 0 turn zeros_len ∙ z_is ∙ ap zeros_digest opened.salt)
      ];
      guests_are = λ file lt. elim (cases_lt file turn) [
        | inl low ↦ at_left guests guest no_guest turn file guests_len low ∙ so_far.guests_are file low
        | inr ge ↦ let e : file ≡ turn = omega arith in rw e (at_last guests guest no_guest turn guests_len ∙ guest_is ∙ rw opened.pages refl)
      ];
      pages_are = omega (arith, joint.pages, so_far.pages_are, opened.pages, sum_one pages_of fleet turn within);
      one = λ file lt. elim (cases_lt file turn) [
        | inl low ↦ joined_before opening.every first.every more.every (sample_of (get_or fleet file [])) (eqb opening.every 0) refl joint.every (so_far.one file low)
        | inr ge ↦ let e : file ≡ turn = omega arith in rw (e, ← opened.every) joint.one
      ];
      some = some_joined fleet turn opening.every first.every more.every (eqb opening.every 0) refl joint.every opened.every so_far.some;
    }

  -- the first other sample, or too many pages
  pub open_fault : (first : First) (after : List Entry) (now : List (Option Said)) (more_zeros : List ℕ) (more_guests : List FleetGuest) (fault : FleetFault) → IsOpened (get_or fleet turn []) first
      → IsJoined opening first turn (Err fault) → IsOpen fleet (turn + 1) after now more_zeros more_guests (Err fault)
  open_fault first after now more_zeros more_guests OutOfMemory opened joined = absurd joined
  open_fault first after now more_zeros more_guests TooManyDigests opened joined = absurd joined
  open_fault first after now more_zeros more_guests (Read number error) opened joined = absurd joined
  open_fault first after now more_zeros more_guests (Line number fault) opened joined = absurd joined
  open_fault first after now more_zeros more_guests TooManyPages opened joined = omega (arith, joined, so_far.pages_are, opened.pages, sum_one pages_of fleet turn within, sum_front pages_of fleet (turn + 1))
  open_fault first after now more_zeros more_guests (OtherSample number) opened joined = elim so_far.some [
    | inl zero ↦ absurd (joined.1 zero)
    | inr one ↦ rw joined.0 (record {
      within = within;
      first = one.0;
      before = one.1;
      some = λ e. joined.2 (opened.every ∙ e);
      other = λ e. joined.3 (opened.every ∙ e ∙ one.2);
      one = λ file lt. rw one.2 (so_far.one file lt);
    })
  ]

-- what the files say was read on where a file was joined
pub joined_read : (files : List Said) (opened : ℕ) (leaves : List Entry) (rows_left : List (Option Said)) (opening : Opening) (first : First) (turn : ℕ) (result : Result Opening FleetFault)
    → IsJoined opening first turn result → AreChained files opened leaves rows_left → AreReadOn files opened leaves rows_left result
joined_read files opened leaves rows_left opening first turn (Ok more) joined chained = chained
joined_read files opened leaves rows_left opening first turn (Err OutOfMemory) joined chained = tt
joined_read files opened leaves rows_left opening first turn (Err TooManyDigests) joined chained = absurd joined
joined_read files opened leaves rows_left opening first turn (Err TooManyPages) joined chained = tt
joined_read files opened leaves rows_left opening first turn (Err (OtherSample number)) joined chained = tt
joined_read files opened leaves rows_left opening first turn (Err (Read number error)) joined chained = tt
joined_read files opened leaves rows_left opening first turn (Err (Line number fault)) joined chained = absurd joined

-- a fault of a read is no other
pub open_read_fault : (fleet : List (List Row)) (turn : ℕ) (leaves : List Entry) (rows_left : List (Option Said)) (zeros : List ℕ) (guests : List FleetGuest) (fault : FleetFault)
    → IsNoOther fault → IsOpen fleet turn leaves rows_left zeros guests (Err fault)
open_read_fault fleet turn leaves rows_left zeros guests OutOfMemory other = tt
open_read_fault fleet turn leaves rows_left zeros guests TooManyDigests other = absurd other
open_read_fault fleet turn leaves rows_left zeros guests TooManyPages other = absurd other
open_read_fault fleet turn leaves rows_left zeros guests (OtherSample number) other = absurd other
open_read_fault fleet turn leaves rows_left zeros guests (Read number error) other = tt
open_read_fault fleet turn leaves rows_left zeros guests (Line number fault) other = tt

pub if_ok : {T : Type 0} (result : Result T FleetFault) (P : Type 0) → P → IfOk result (λ (x : T). P)
if_ok (Ok x) P h = h
if_ok (Err fault) P h = tt

pub first_opened : (rows : List Row) (file : ℕ) (rows_left now : Option Said) (first : First) → rows_left ≡ Some (Ok rows) → IfSome rows_left (λ (said : Said). IsFirstRead file said now (Ok first)) → IsOpened rows first
first_opened rows file rows_left now first e read = (rw e at read).1 rows refl

-- what comes next was read
pub first_on : {T : Type 0} (rows_left : T → Option Said) (readers : List T) (file : ℕ) (within : file < length readers) (d new : T) (first : First)
    → IfSome (rows_left (get_or readers file d)) (λ (said : Said). IsFirstRead file said (rows_left new) (Ok first)) → IsReadOn file (map rows_left readers) (map rows_left (set readers file new)) (Ok first.entry)
first_on rows_left readers file within d new first read = on rows_left readers file within d new (Ok first.entry) (if_some (rows_left (get_or readers file d)) (λ (said : Said). IsFirstRead file said (rows_left new) (Ok first)) _ (λ said h. h.0) read)

module _ (fleet : List (List Row)) (turn : ℕ) (leaves : List Entry) (rows_left : List (Option Said)) (zeros : List ℕ) (guests : List FleetGuest) (opening : Opening)
    (so_far : IsOpenTo fleet turn leaves rows_left zeros guests opening) (within : turn < length fleet) (few : length fleet ≤ 65536) (rise : From 0 (lines_of (get_or fleet turn [])))
    (now : List (Option Said)) (first : First) (read : IsReadOn turn rows_left now (Ok first.entry)) (opened : IsOpened (get_or fleet turn []) first)
    (leaves_len : length leaves ≡ length fleet) (left_len : length rows_left ≡ length fleet) (zeros_len : length zeros ≡ turn) (guests_len : length guests ≡ turn) where
  pub open_joined : (z : ℕ) (guest : FleetGuest) (result : Result Opening FleetFault) → z ≡ zeros_digest first.salt
      → guest ≡ record { pages = first.pages; zero = 0; distinct = no_amount; shared = no_amount; alone = no_amount }
      → IsJoined opening first turn result → IsOpen fleet (turn + 1) (set leaves turn first.entry) now (zeros ++ z ∷ []) (guests ++ guest ∷ []) result
  open_joined z guest (Ok more) z_is guest_is joined = open_more fleet turn leaves rows_left zeros guests opening so_far within few rise now first read opened leaves_len left_len zeros_len guests_len z guest more z_is guest_is joined
  open_joined z guest (Err fault) z_is guest_is joined = open_fault fleet turn leaves rows_left zeros guests opening so_far within few rise first (set leaves turn first.entry) now (zeros ++ z ∷ []) (guests ++ guest ∷ []) fault opened joined

-- a fault says the same after any file
pub fault_anywhere : (fleet : List (List Row)) (turn other : ℕ) (leaves : List Entry) (rows_left : List (Option Said)) (zeros : List ℕ) (guests : List FleetGuest) (fault : FleetFault)
    → IsOpen fleet turn leaves rows_left zeros guests (Err fault) → IsOpen fleet other leaves rows_left zeros guests (Err fault)
fault_anywhere fleet turn other leaves rows_left zeros guests OutOfMemory h = h
fault_anywhere fleet turn other leaves rows_left zeros guests TooManyDigests h = h
fault_anywhere fleet turn other leaves rows_left zeros guests TooManyPages h = h
fault_anywhere fleet turn other leaves rows_left zeros guests (OtherSample number) h = h
fault_anywhere fleet turn other leaves rows_left zeros guests (Read number error) h = h
fault_anywhere fleet turn other leaves rows_left zeros guests (Line number fault) h = h
