-- The next file that lists a digest.
use Rattle.std.proofs.Common.{◌≡◌, ◌≢◌, ℕ, ◌+◌, ◌*◌, ◌-◌, ◌<◌, ◌≤◌, ◌^◌, ◌⊎◌, cond, eqb, List, [], ◌++◌, length, length-set, get_or, set, refl, sym, ap, ◌∙◌, arith, inl, inr, get_or-set_other, get_or-set_same}
use Rattle.std.proofs.lemmas.Bool.{cases_lt, cases_eq, lt-ltb, le-ltb}
use Rattle.std.specs.Prelude.{Option, Some, None, Ok, Err, slice_index}
use Rattle.digest_text.specs.Fields.{Row}
use Rattle.fleet_census.specs.Fleets.{copies_of}
use Rattle.fleet_census.specs.States.{AreBehind, AreChained, AreOwn, AreSound, IsBehind, IsFaultOf, IsLastHolder, IsNextHolder, IsNoOther, IsOwn, IsRead, IsReadOn, IsUnread, Said, passed}
use Rattle.fleet_census.specs.Tournaments.{IsFirst, entry_at, key, nothing}
use Rattle.fleet_census.specs.declared.content.Holder.{Holder}
use Rattle.fleet_census.specs.declared.entry.Entry.{Entry}
use Rattle.fleet_census.specs.declared.entry.TheConstants.{AT_END, NO_FILE}
use Rattle.fleet_census.specs.declared.fault.FleetFault.{FleetFault}
use Rattle.fleet_census.specs.declared.fault.FleetFault.TheVariants.{OutOfMemory, TooManyDigests, TooManyPages, OtherSample, Read, Line}
use Rattle.fleet_census.proofs.Lefts.{behind_low, behind_raised, behind_taken, chained_fault, chained_on, no_row_left, read_behind}

pub passed_before : (digest count file : ℕ) → file < count → passed digest count file ≡ digest + 1
passed_before digest count file lt = rw (lt-ltb file count lt) refl

pub passed_after : (digest count file : ℕ) → count ≤ file → passed digest count file ≡ digest
passed_after digest count file le = rw (le-ltb file count le) refl

pub passed_range : (digest count file : ℕ) → (digest ≤ passed digest count file) × (passed digest count file ≤ digest + 1)
passed_range digest count file = elim (cases_lt file count) [
  | inl lt ↦ let e = passed_before digest count file lt in (omega arith, omega arith)
  | inr ge ↦ let e = passed_after digest count file ge in (omega arith, omega arith)
]

module _ (leaves : List Entry) (first : Entry) (is : IsFirst leaves first) (own : AreOwn leaves) (few : length leaves ≤ 65536) where
  at_end_or : (first ≡ AT_END) ⊎ ((first.file ≡ is.file) × (first.digest < 2 ^ 128))
  at_end_or = rw is.is at (own.each is.file is.within)

  -- the first entry is that of its file
  pub first_own : first.file ≢ NO_FILE → (first.file < length leaves) × (entry_at leaves first.file ≡ first)
  first_own some = elim at_end_or [
    | inl ended ↦ absurd (some (ap (λ (entry : Entry). entry.file) ended))
    | inr here ↦ (rw here.0 is.within, ap (entry_at leaves) here.0 ∙ is.is)
  ]

  -- all are at their end where the first is
  pub all_ended : first.file ≡ NO_FILE → (file : ℕ) → file < length leaves → entry_at leaves file ≡ AT_END
  all_ended none file within = elim at_end_or [
    | inr here ↦ absurd (let low = is.within in omega (arith, here.0, none, low, few))
    | inl ended ↦ elim (own.each file within) [
      | inl e ↦ e
      | inr line ↦ absurd (let least = is.least file within in let all : key first ≡ (2 ^ 128 - 1) * 2 ^ 32 + (2 ^ 32 - 1) = ap key ended in omega (arith, least, all, line.0, line.1, within, few))
    ]
  ]

  -- no digest is less than the first
  pub later : (above file : ℕ) → file < length leaves → first.file < 2 ^ 32 → (above ≤ first.digest) → (entry_at leaves file ≡ AT_END) ⊎ ((entry_at leaves file).file ≡ file) × (above ≤ (entry_at leaves file).digest)
  later above file within low le = elim (own.each file within) [
    | inl e ↦ inl e
    | inr line ↦ let least = is.least file within in inr (line.0, omega (arith, least, line.0, within, few))
  ]

  -- and the files before the first have greater ones
  pub before_first : (file : ℕ) → file < first.file → first.file < length leaves
      → (entry_at leaves file ≡ AT_END) ⊎ ((entry_at leaves file).file ≡ file) × (first.digest + 1 ≤ (entry_at leaves file).digest)
  before_first file lt within = elim (own.each file (omega arith)) [
    | inl e ↦ inl e
    | inr line ↦ let least = is.least file (omega arith) in inr (line.0, omega (arith, least, line.0, lt, within, few))
  ]

module _ (fleet : List (List Row)) (digest count : ℕ) (leaves : List Entry) (rows_left : List (Option Said)) (behind : AreBehind fleet (passed digest count) leaves rows_left)
    (same : length leaves ≡ length fleet) (few : length fleet ≤ 65536) where
  -- a file whose next line lists a greater digest
  raised : (file : ℕ) → file < length fleet → (entry_at leaves file ≡ AT_END) ⊎ ((entry_at leaves file).file ≡ file) × (digest + 1 ≤ (entry_at leaves file).digest)
      → IsBehind (get_or fleet file []) (digest + 1) (entry_at leaves file) (get_or rows_left file None) × (count ≤ file → copies_of digest (get_or fleet file []) ≡ 0)
  raised file within which =
      let range = passed_range digest count file in
      let both = behind_raised (get_or fleet file []) (passed digest count file) (digest + 1) (entry_at leaves file) file (get_or rows_left file None) (behind.each file within) range.1 which (omega arith) in
      (both.0, λ ge. let e = passed_after digest count file ge in both.1 digest (omega arith) (omega arith))

  pub none_left : ((file : ℕ) → file < length fleet → (entry_at leaves file ≡ AT_END) ⊎ ((entry_at leaves file).file ≡ file) × (digest + 1 ≤ (entry_at leaves file).digest))
      → IsLastHolder fleet digest count leaves rows_left
  none_left greater = record {
    after = record { each = λ file ge lt. (raised file lt (greater file lt)).1 ge };
    behind = record { each = λ file lt. rw (passed_before digest (length fleet) file lt) ((raised file lt (greater file lt)).0) };
  }

  -- the first line of all lists a digest from this one on
  pub from_digest : (first : Entry) → first.file < length fleet → entry_at leaves first.file ≡ first → passed digest count first.file ≤ first.digest
  from_digest first within is = behind_low (get_or fleet first.file []) (passed digest count first.file) first first.file (get_or rows_left first.file None) (rw is at (behind.each first.file within)) refl (omega arith)

  module _ (first next : Entry) (zeros : List ℕ) (now : List (Option Said)) (is : IsFirst leaves first) (own : AreOwn leaves) (within : first.file < length fleet) (here : entry_at leaves first.file ≡ first)
      (it : first.digest ≡ digest) (long : length rows_left ≡ length fleet) (read : IsReadOn first.file rows_left now (Ok next)) where
    now_later : count ≤ first.file
    now_later = elim (cases_lt first.file count) [
      | inl lt ↦ absurd (let low = from_digest first within here in let e = passed_before digest count first.file lt in omega (arith, low, e, it))
      | inr ge ↦ ge
    ]

    taken : IsUnread (get_or fleet first.file []) (digest + 1) (get_or rows_left first.file None) × (copies_of digest (get_or fleet first.file []) ≡ first.copies) × (passed digest count first.file ≤ digest) × (1 ≤ first.copies)
    taken = behind_taken (get_or fleet first.file []) (passed digest count first.file) digest first first.file (get_or rows_left first.file None) (rw here at (behind.each first.file within)) refl (omega arith) it

    before_it : (file : ℕ) → file < first.file → IsBehind (get_or fleet file []) (digest + 1) (entry_at leaves file) (get_or rows_left file None) × (count ≤ file → copies_of digest (get_or fleet file []) ≡ 0)
    before_it file lt = raised file (omega arith) (rw it at (before_first leaves first is own (omega arith) file lt (omega arith)))

    now_behind : (file : ℕ) → file < length fleet → IsBehind (get_or fleet file []) (passed digest (first.file + 1) file) (entry_at (set leaves first.file next) file) (get_or (set rows_left first.file read.now) file None)
    now_behind file lt = elim (cases_eq file first.file) [
      | inl e ↦
          let bound : passed digest (first.file + 1) file ≡ digest + 1 = passed_before digest (first.file + 1) file (omega arith) in
          let leaf : entry_at (set leaves first.file next) file ≡ next = rw e (get_or-set_same leaves first.file next nothing (omega arith)) in
          let said : get_or (set rows_left first.file read.now) file None ≡ read.now = rw e (get_or-set_same rows_left first.file read.now None (omega arith)) in
          rw (bound, leaf, said, e) (read_behind (get_or fleet first.file []) (digest + 1) first.file (get_or rows_left first.file None) read.now next taken.0 (omega arith) read.next)
      | inr ne ↦
          let leaf : entry_at (set leaves first.file next) file ≡ entry_at leaves file = get_or-set_other leaves first.file file next nothing ne in
          let said : get_or (set rows_left first.file read.now) file None ≡ get_or rows_left file None = get_or-set_other rows_left first.file file read.now None ne in
          elim (cases_lt file first.file) [
            | inl before ↦ rw (passed_before digest (first.file + 1) file (omega arith), leaf, said) (before_it file before).0
            | inr after ↦
                let later = now_later in
                let old = passed_after digest count file (omega arith) in
                rw (passed_after digest (first.file + 1) file (omega arith), leaf, said) (rw old at (behind.each file lt))
          ]
    ]

    pub next_found : (holder : Holder) → holder ≡ record { file = first.file; copies = first.copies; zero = cond (eqb first.digest (slice_index zeros first.file)) first.copies 0 }
        → IsNextHolder fleet digest count zeros (set leaves first.file next) now holder
    next_found holder e = rw e (record {
      later = now_later;
      within = within;
      before = record { each = λ file ge lt. (before_it file lt).1 ge };
      some = taken.3;
      copies = sym taken.1;
      zero = rw it refl;
      behind = record { each = λ file lt. rw read.others (now_behind file lt) };
    })

-- an entry of a file in place of another
pub own_put : (leaves : List Entry) (file : ℕ) (next : Entry) → AreOwn leaves → IsOwn file next → file < length leaves → AreOwn (set leaves file next)
own_put leaves file next own is within = record {
  each = λ other lt. elim (cases_eq other file) [
    | inl e ↦ let leaf : entry_at (set leaves file next) other ≡ next = rw e (get_or-set_same leaves file next nothing within) in rw (leaf, e) is
    | inr ne ↦ let leaf : entry_at (set leaves file next) other ≡ entry_at leaves other = get_or-set_other leaves file other next nothing ne in rw leaf (own.each other (omega (arith, length-set leaves file next)))
  ];
}

-- a file is never read to another fault
no_read : (file : ℕ) (before : Said) (now : Option Said) (fault : FleetFault) → IsRead file before now (Err fault) → IsNoOther fault
no_read file before None fault read = absurd read
no_read file before (Some after) OutOfMemory read = tt
no_read file before (Some after) TooManyDigests read = absurd read
no_read file before (Some after) TooManyPages read = absurd read
no_read file before (Some after) (OtherSample number) read = absurd read
no_read file before (Some after) (Read number error) read = tt
no_read file before (Some after) (Line number fault) read = tt

pub no_other : (file : ℕ) (rows_left : List (Option Said)) (now : List (Option Said)) (fault : FleetFault) (said : Said) → get_or rows_left file None ≡ Some said
    → IsReadOn file rows_left now (Err fault) → IsNoOther fault
no_other file rows_left now fault said e read = no_read file said read.now fault (rw e at read.next)

module _ (files : List Said) (opened : ℕ) (leaves : List Entry) (rows_left now : List (Option Said)) (file : ℕ) (within : file < length files)
    (chained : AreChained files opened leaves rows_left) where
  -- what the files say is read on, where of one of them the next line was read
  pub chained_more : (more : ℕ) → ((other : ℕ) → other < more → other ≢ file → other < opened) → (entry : Entry) → length rows_left ≡ length files → length leaves ≡ length files
      → file < 2 ^ 32 - 1 → IsReadOn file rows_left now (Ok entry) → AreChained files more (set leaves file entry) now
  chained_more more before entry long same low read = record {
    each = λ other lt. elim (cases_eq other file) [
      | inl e ↦
          let said : get_or (set rows_left file read.now) other None ≡ read.now = rw e (get_or-set_same rows_left file read.now None (omega arith)) in
          rw (read.others, said, e) (chained_on file (get_or files file (Ok [])) (get_or rows_left file None) read.now entry (chained.each file within) read.next)
      | inr ne ↦
          let said : get_or (set rows_left file read.now) other None ≡ get_or rows_left other None = get_or-set_other rows_left file other read.now None ne in
          rw (read.others, said) (chained.each other lt)
    ];
    ended = λ other lt none. elim (cases_eq other file) [
      | inl e ↦
          let said : get_or (set rows_left file read.now) other None ≡ read.now = rw e (get_or-set_same rows_left file read.now None (omega arith)) in
          let leaf : entry_at (set leaves file entry) other ≡ entry = rw e (get_or-set_same leaves file entry nothing (omega arith)) in
          let here = chained.each file within in
          rw (read.others, said) (no_row_left file (get_or rows_left file None) read.now entry here.left here.is low read.next (rw leaf at none))
      | inr ne ↦
          let said : get_or (set rows_left file read.now) other None ≡ get_or rows_left other None = get_or-set_other rows_left file other read.now None ne in
          let leaf : entry_at (set leaves file entry) other ≡ entry_at leaves other = get_or-set_other leaves file other entry nothing ne in
          rw (read.others, said) (chained.ended other (before other lt ne) (rw leaf at none))
    ];
  }

  -- a fault is that of the file
  pub read_fault : (fault : FleetFault) → IsReadOn file rows_left now (Err fault) → IsFaultOf files fault
  read_fault OutOfMemory read = tt
  read_fault TooManyDigests read = let it = chained.each file within in no_other file rows_left now TooManyDigests it.left it.is read
  read_fault TooManyPages read = tt
  read_fault (OtherSample number) read = tt
  read_fault (Read number error) read = tt
  read_fault (Line number fault) read =
      let both = chained_fault file number (get_or files file (Ok [])) (get_or rows_left file None) read.now fault (chained.each file within) read.next in
      let low : number < length files = rw both.0 within in
      (low, rw both.0 both.1)

-- where no file has a next line, none is at fault
pub all_sound : (files : List Said) (leaves : List Entry) (rows_left : List (Option Said)) → AreChained files (length files) leaves rows_left
    → ((file : ℕ) → file < length files → entry_at leaves file ≡ AT_END) → AreSound files
all_sound files leaves rows_left chained ended = record {
  each = λ file lt.
      let it = chained.each file lt in
      let none = chained.ended file lt (ap (λ (entry : Entry). entry.file) (ended file lt)) in
      let same : it.left ≡ Ok [] = let e = it.is in cc in
      record { rows = it.done ++ []; is = it.whole ∙ rw same refl };
}

-- fewer files are opened
pub chained_to : (files : List Said) (opened fewer : ℕ) (leaves : List Entry) (rows_left : List (Option Said)) → fewer ≤ opened → AreChained files opened leaves rows_left → AreChained files fewer leaves rows_left
chained_to files opened fewer leaves rows_left le chained = record { each = chained.each; ended = λ file lt. chained.ended file (omega arith) }
