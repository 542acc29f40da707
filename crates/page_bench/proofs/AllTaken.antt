-- Frames of which all are taken.
use Rattle.std.proofs.Common.{◌≡◌, ℕ, ◌<◌, List, length, Option, None, Some, refl, arith, is_some, ◌⊎◌, inl, inr, true, false, sym}
use Rattle.std.proofs.lemmas.Bool.{cases_Bool, false≢true}
use Rattle.machine_frames.specs.FrameMap.{FrameMap, frame, IsTaken, used}
use Rattle.machine_frames.proofs.Used.{used-lt-length}

none_of : (slot : Option (List ℕ)) → is_some slot ≡ false → slot ≡ None
none_of None h = refl
none_of (Some page) h = absurd (false≢true (sym h))

pub each_taken : (frames : FrameMap) (mpn : ℕ) → used frames ≡ length frames → mpn < length frames → IsTaken frames mpn
each_taken frames mpn all h = pick (cases_Bool (is_some (frame frames mpn))) where
  pick : ((is_some (frame frames mpn) ≡ true) ⊎ (is_some (frame frames mpn) ≡ false)) → IsTaken frames mpn
  pick (inl e) = e
  pick (inr e) = absurd (omega (arith, all, used-lt-length frames mpn h (none_of (frame frames mpn) e)))
