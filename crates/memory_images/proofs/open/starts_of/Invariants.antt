use Rattle.std.proofs.Common.{◌≡◌, ◌<◌, ◌≤◌, ℕ, length, take, get_or, vec_len, vec_capacity}
use Rattle.memory_images.specs.Pages.{count_of}
use Rattle.memory_images.proofs.open.starts_of.Given as goal

abbrev pub invariant-loop-segment : goal.invariant-loop-segment
invariant-loop-segment g l = record {
  len : vec_len l.starts ≡ l.segment-index;
  room : length l.segments ≤ vec_capacity l.starts;
  count : l.count ≡ count_of (take l.segment-index l.segments);
  starts_are : (i : ℕ) → i < l.segment-index → get_or l.starts.items i 0 ≡ count_of (take i l.segments);
}
