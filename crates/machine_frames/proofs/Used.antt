-- The number of taken frames, before and after one frame changes.
use Rattle.std.proofs.Common.{◌≡◌, ℕ, ◌+◌, ◌<◌, ◌≤◌, List, [], length, Option, None, Some, is_some, IsSome, cond, ap, set, arith, subst, refl, ◌⊎◌, inl, inr}
use Rattle.std.proofs.lemmas.Bool.{cases_lt, false≢true}
use Rattle.std.proofs.lemmas.List.{get_or_past, length-set}
use Rattle.std.proofs.lemmas.List.Sums.{sum_by-set, count_by-le-length}
use Rattle.machine_frames.specs.FrameMap.{FrameMap, frame, IsTaken, used}

abbrev one : Option (List ℕ) → ℕ
one slot = cond (is_some slot) 1 0

one_of_taken : (slot : Option (List ℕ)) → IsSome slot → one slot ≡ 1
one_of_taken None h = absurd (false≢true h)
one_of_taken (Some page) h = refl

pub taken_within : (frames : FrameMap) (mpn : ℕ) → IsTaken frames mpn → mpn < length frames
taken_within frames mpn h = pick (cases_lt mpn (length frames)) where
  pick : ((mpn < length frames) ⊎ (length frames ≤ mpn)) → mpn < length frames
  pick (inl l) = l
  pick (inr l) = let P : Option (List ℕ) → Type 0 = λ o. IsSome o in absurd (false≢true (subst P (get_or_past frames mpn None l) h))

changed : (frames : FrameMap) (mpn : ℕ) (slot : Option (List ℕ)) → mpn < length frames → used (set frames mpn slot) + one (frame frames mpn) ≡ used frames + one slot
changed frames mpn slot h = sum_by-set one frames mpn slot None h

-- a free frame is taken
pub used_taken : (frames : FrameMap) (mpn : ℕ) (page : List ℕ) → mpn < length frames → frame frames mpn ≡ None → used (set frames mpn (Some page)) ≡ used frames + 1
used_taken frames mpn page h e =
    let was : one (frame frames mpn) ≡ 0 = ap one e in
    omega (arith, changed frames mpn (Some page) h, was)

-- a taken frame is freed
pub used_freed : (frames : FrameMap) (mpn : ℕ) → IsTaken frames mpn → used (set frames mpn None) + 1 ≡ used frames
used_freed frames mpn h = omega (arith, changed frames mpn None (taken_within frames mpn h), one_of_taken (frame frames mpn) h)

-- a taken frame is written
pub used_written : (frames : FrameMap) (mpn : ℕ) (page : List ℕ) → IsTaken frames mpn → used (set frames mpn (Some page)) ≡ used frames
used_written frames mpn page h = omega (arith, changed frames mpn (Some page) (taken_within frames mpn h), one_of_taken (frame frames mpn) h)

pub used-le-length : (frames : FrameMap) → used frames ≤ length frames
used-le-length frames = count_by-le-length is_some frames

-- where a frame is free, not all are taken
pub used-lt-length : (frames : FrameMap) (mpn : ℕ) → mpn < length frames → frame frames mpn ≡ None → used frames < length frames
used-lt-length frames mpn h e =
    let now = set frames mpn (Some []) in
    omega (arith, used_taken frames mpn [] h e, used-le-length now, length-set frames mpn (Some []))
