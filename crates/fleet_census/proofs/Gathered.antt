-- The files that list a digest, one after the other.
use Rattle.std.proofs.Common.{◌≡◌, ◌≢◌, ℕ, zero, suc, ◌+◌, ◌-◌, ◌<◌, ◌≤◌, ◌^◌, Bool, true, false, cond, eqb, List, [], ◌∷◌, ◌++◌, length, take, get_or, refl, sym, ap, ◌∙◌, arith, inl, inr}
use Rattle.std.proofs.lemmas.Bool.{cases_lt, cases_eq, lt-ltb, le-ltb}
use Rattle.std.proofs.lemmas.List.{get_or_append_left, length_push, take_all, take_more}
use Rattle.std.proofs.lemmas.List.Sums.{sum_by-append, sum_by-cons}
use Rattle.std.proofs.Math.Seq.{get_or-append_seam}
use Rattle.std.specs.Prelude.{Option, Some, None, Err, nat_lt, sum_by}
use Rattle.guest_digests.specs.Samples.{zeros_digest}
use Rattle.digest_text.specs.Fields.{Row}
use Rattle.fleet_census.specs.Fleets.{all_copies, copies_of, holder_of, salt_of, zero_of}
use Rattle.fleet_census.specs.Gathers.{AreGathered, AreZeros, IsGathered, IsSoFar}
use Rattle.fleet_census.specs.Holders.{found, no_holder}
use Rattle.fleet_census.specs.States.{AreBehind, IsLastHolder, IsNextHolder, IsNoOther, Said}
use Rattle.fleet_census.specs.declared.content.Content.{Content}
use Rattle.fleet_census.specs.declared.content.Holder.{Holder}
use Rattle.fleet_census.specs.declared.entry.Entry.{Entry}
use Rattle.fleet_census.specs.declared.fault.FleetFault.{FleetFault}
use Rattle.fleet_census.specs.declared.fault.FleetFault.TheVariants.{OutOfMemory, TooManyDigests, TooManyPages, OtherSample, Read, Line}
use Rattle.fleet_census.proofs.Found.{found_none, found_push, found_push_other, rising_push}
use Rattle.fleet_census.proofs.Takes.{passed_after, passed_before}

-- one more is added
pub sum_one : (f : List Row → ℕ) (fleet : List (List Row)) (n : ℕ) → n < length fleet → sum_by f (take (n + 1) fleet) ≡ sum_by f (take n fleet) + f (get_or fleet n [])
sum_one f fleet n lt =
    ap (sum_by f) (take_more fleet n [] lt) ∙ omega (arith, sum_by-append f (take n fleet) (get_or fleet n [] ∷ []), sum_by-cons f (get_or fleet n []) [])

-- files that add nothing
sum_gap : (f : List Row → ℕ) (fleet : List (List Row)) (count steps : ℕ) → count + steps ≤ length fleet
    → ((file : ℕ) → count ≤ file → file < count + steps → f (get_or fleet file []) ≡ 0) → sum_by f (take (count + steps) fleet) ≡ sum_by f (take count fleet)
sum_gap f fleet count zero within none = let e : count + 0 ≡ count = omega arith in ap (λ (n : ℕ). sum_by f (take n fleet)) e
sum_gap f fleet count (suc steps) within none =
    let e : count + suc steps ≡ count + steps + 1 = omega arith in
    let before = sum_gap f fleet count steps (omega arith) (λ file ge lt. none file ge (omega arith)) in
    let last = none (count + steps) (omega arith) (omega arith) in
    ap (λ (n : ℕ). sum_by f (take n fleet)) e ∙ omega (arith, sum_one f fleet (count + steps) (omega arith), before, last)

sum_to : (f : List Row → ℕ) (fleet : List (List Row)) (count file : ℕ) → count ≤ file → file ≤ length fleet
    → ((other : ℕ) → count ≤ other → other < file → f (get_or fleet other []) ≡ 0) → sum_by f (take file fleet) ≡ sum_by f (take count fleet)
sum_to f fleet count file le within none =
    let e : count + (file - count) ≡ file = omega arith in
    rw e at (sum_gap f fleet count (file - count) (omega arith) (λ other ge lt. none other ge (omega arith)))

sum_next : (f : List Row → ℕ) (fleet : List (List Row)) (count file : ℕ) → count ≤ file → file < length fleet
    → ((other : ℕ) → count ≤ other → other < file → f (get_or fleet other []) ≡ 0) → sum_by f (take (file + 1) fleet) ≡ sum_by f (take count fleet) + f (get_or fleet file [])
sum_next f fleet count file le within none = omega (arith, sum_one f fleet file within, sum_to f fleet count file le (omega arith) none)

pub sum_front : (f : List Row → ℕ) (fleet : List (List Row)) (n : ℕ) → sum_by f (take n fleet) ≤ sum_by f fleet
sum_front f [] zero = omega arith
sum_front f [] (suc n) = omega arith
sum_front f (rows ∷ fleet) zero = omega arith
sum_front f (rows ∷ fleet) (suc n) = omega (arith, sum_by-cons f rows (take n fleet), sum_by-cons f rows fleet, sum_front f fleet n)

zero_if : (b : Bool) (n : ℕ) → n ≡ 0 → cond b n 0 ≡ 0
zero_if true n e = e
zero_if false n e = refl

one_of : (n : ℕ) → n ≡ 0 → cond {A = ℕ} (nat_lt 0 n) 1 0 ≡ 0
one_of n e = rw e refl

pub none_held : (file digest : ℕ) (rows : List Row) → copies_of digest rows ≡ 0 → holder_of file digest rows ≡ None
none_held file digest rows e = rw (le-ltb 0 (copies_of digest rows) (omega (arith, e))) refl

module _ (fleet : List (List Row)) (digest turn : ℕ) (leaves : List Entry) (rows_left : List (Option Said)) (holders : List Holder) (content : Content)
    (so_far : IsSoFar fleet digest turn leaves rows_left holders content) where
  -- a file that isn't named
  unnamed : (file : ℕ) → so_far.count ≤ file → found file holders ≡ None
  unnamed file ge = found_none file holders (λ i lt. let low = so_far.below i lt in let ne : (get_or holders i no_holder).file ≢ file = omega arith in ne)

  module _ (after : List Entry) (now : List (Option Said)) (zeros : List ℕ) (holder : Holder) (are : AreZeros fleet zeros) (next : IsNextHolder fleet digest so_far.count zeros after now holder) where
    between : (other : ℕ) → so_far.count ≤ other → other < holder.file → copies_of digest (get_or fleet other []) ≡ 0
    between = next.before.each

    held_zero : holder.zero ≡ zero_of digest (get_or fleet holder.file [])
    held_zero = next.zero ∙ rw (are.each holder.file next.within, next.copies) refl

    more_copies : sum_by (copies_of digest) (take (holder.file + 1) fleet) ≡ content.copies + holder.copies
    more_copies = omega (arith, sum_next (copies_of digest) fleet so_far.count holder.file next.later next.within between, so_far.copies, next.copies)

    pub too_many : 2 ^ 64 ≤ content.copies + holder.copies → 2 ^ 64 ≤ all_copies fleet digest
    too_many most = omega (arith, more_copies, sum_front (copies_of digest) fleet (holder.file + 1), most)

    held : holder_of holder.file digest (get_or fleet holder.file []) ≡ Some holder
    held =
        let some : 0 < copies_of digest (get_or fleet holder.file []) = let one = next.some in omega (arith, one, next.copies) in
        rw (lt-ltb 0 (copies_of digest (get_or fleet holder.file [])) some, ← held_zero, ← next.copies) refl

    now_known : (file : ℕ) → file < holder.file + 1 → found file (holders ++ holder ∷ []) ≡ holder_of file digest (get_or fleet file [])
    now_known file lt = elim (cases_eq holder.file file) [
      | inl e ↦ found_push file holders holder e (unnamed file (omega (arith, e, next.later))) ∙ sym held ∙ ap (λ (n : ℕ). holder_of n digest (get_or fleet n [])) e
      | inr ne ↦ found_push_other file holders holder ne ∙ (elim (cases_lt file so_far.count) [
        | inl before ↦ so_far.known file before
        | inr ge ↦ unnamed file ge ∙ sym (none_held file digest (get_or fleet file []) (between file ge (omega arith)))
      ])
    ]

    pub so_far_more : (more : Content) → more ≡ record { copies = content.copies + holder.copies; zero = content.zero + holder.zero; holders = content.holders + 1 }
        → IsSoFar fleet digest (turn + 1) after now (holders ++ holder ∷ []) more
    so_far_more more e =
        let one : cond {A = ℕ} (nat_lt 0 (copies_of digest (get_or fleet holder.file []))) 1 0 ≡ 1 = let some = next.some in rw (lt-ltb 0 (copies_of digest (get_or fleet holder.file [])) (omega (arith, some, next.copies))) refl in
        rw e (record {
          count = holder.file + 1;
          enough = omega (arith, so_far.enough, next.later);
          within = omega (arith, next.within);
          behind = next.behind;
          copies = sym more_copies;
          zero = omega (arith, sum_next (zero_of digest) fleet so_far.count holder.file next.later next.within (λ other ge lt. zero_if (eqb digest (zeros_digest (salt_of (get_or fleet other [])))) (copies_of digest (get_or fleet other [])) (between other ge lt)), so_far.zero, held_zero);
          holders_are = omega (arith, sum_next (λ (rows : List Row). cond (nat_lt 0 (copies_of digest rows)) 1 0) fleet so_far.count holder.file next.later next.within (λ other ge lt. one_of (copies_of digest (get_or fleet other [])) (between other ge lt)), so_far.holders_are, one);
          known = now_known;
          below = λ i lt. elim (cases_lt i (length holders)) [
            | inl low ↦ rw (get_or_append_left holders (holder ∷ []) no_holder i low) (let old = so_far.below i low in omega (arith, old, next.later))
            | inr ge ↦ let end : i ≡ length holders = omega (arith, length_push holders holder, lt) in rw (end, get_or-append_seam holders holder [] no_holder) (omega arith)
          ];
          rising = rising_push holders holder so_far.rising (λ i lt. let old = so_far.below i lt in omega (arith, old, next.later));
        })

  gathered : (after : List Entry) (now : List (Option Said)) → ((other : ℕ) → so_far.count ≤ other → other < length fleet → copies_of digest (get_or fleet other []) ≡ 0)
      → AreBehind fleet (λ file. digest + 1) after now → AreGathered fleet digest after now holders content
  gathered after now none behind =
      let whole : take (length fleet) fleet ≡ fleet = take_all (length fleet) fleet (omega arith) in
      let all : (f : List Row → ℕ) → ((other : ℕ) → so_far.count ≤ other → other < length fleet → f (get_or fleet other []) ≡ 0) → sum_by f fleet ≡ sum_by f (take so_far.count fleet)
      = λ f add. rw whole at (sum_to f fleet so_far.count (length fleet) so_far.within (omega arith) add) in
      record {
        is = rw (
          all (copies_of digest) none,
          all (zero_of digest) (λ other ge lt. zero_if (eqb digest (zeros_digest (salt_of (get_or fleet other [])))) (copies_of digest (get_or fleet other [])) (none other ge lt)),
          all (λ (rows : List Row). cond (nat_lt 0 (copies_of digest rows)) 1 0) (λ other ge lt. one_of (copies_of digest (get_or fleet other [])) (none other ge lt)),
          ← so_far.copies,
          ← so_far.zero,
          ← so_far.holders_are,
        ) refl;
        known = λ file lt. elim (cases_lt file so_far.count) [
          | inl before ↦ so_far.known file before
          | inr ge ↦ unnamed file ge ∙ sym (none_held file digest (get_or fleet file []) (none file ge lt))
        ];
        rising = so_far.rising;
        behind = behind;
      }

  pub so_far_done : (after : List Entry) (now : List (Option Said)) → IsLastHolder fleet digest so_far.count after now → AreGathered fleet digest after now holders content
  so_far_done after now last =
      gathered after now last.after.each (record { each = λ file lt. rw (passed_before digest (length fleet) file lt) at (last.behind.each file lt) })

  pub so_far_full : turn ≡ length fleet → AreGathered fleet digest leaves rows_left holders content
  so_far_full e =
      gathered leaves rows_left (λ other ge lt. absurd (omega (arith, so_far.enough, e)))
      (record { each = λ file lt. rw (passed_before digest so_far.count file (omega (arith, so_far.enough, e))) at (so_far.behind.each file lt) })

-- no file is named yet
pub nothing_so_far : (fleet : List (List Row)) (digest : ℕ) (leaves : List Entry) (rows_left : List (Option Said)) → AreBehind fleet (λ file. digest) leaves rows_left
    → IsSoFar fleet digest 0 leaves rows_left [] (record { copies = 0; zero = 0; holders = 0 })
nothing_so_far fleet digest leaves rows_left behind = record {
  count = 0;
  enough = omega arith;
  within = omega arith;
  behind = record { each = λ file lt. rw (passed_after digest 0 file (omega arith)) (behind.each file lt) };
  copies = refl;
  zero = refl;
  holders_are = refl;
  known = λ file lt. absurd (omega arith);
  below = λ i lt. absurd (omega arith);
  rising = record { each = λ i j before within. absurd (omega arith) };
}

-- a fault of a read is no other
pub gathered_fault : (fleet : List (List Row)) (digest : ℕ) (leaves : List Entry) (rows_left : List (Option Said)) (holders : List Holder) (fault : FleetFault)
    → IsNoOther fault → IsGathered fleet digest leaves rows_left holders (Err fault)
gathered_fault fleet digest leaves rows_left holders OutOfMemory other = tt
gathered_fault fleet digest leaves rows_left holders TooManyDigests other = absurd other
gathered_fault fleet digest leaves rows_left holders TooManyPages other = absurd other
gathered_fault fleet digest leaves rows_left holders (OtherSample number) other = absurd other
gathered_fault fleet digest leaves rows_left holders (Read number error) other = tt
gathered_fault fleet digest leaves rows_left holders (Line number fault) other = tt
