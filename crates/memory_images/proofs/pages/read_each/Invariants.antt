use Rattle.std.proofs.Common.{◌≡◌, ◌+◌, ◌<◌, ℕ, [], length, get_or}
use Rattle.memory_images.specs.Words.{part}
use Rattle.memory_images.specs.Pages.{page_of}
use Rattle.memory_images.proofs.pages.read_each.Given as goal

abbrev pub invariant-loop-i : goal.invariant-loop-i
invariant-loop-i g l = record {
  len : length l.into ≡ length l.initial.into;
  read : g.R.ReadAt.is_steady l.reader → (k : ℕ) → k < l.i → get_or l.into k [] ≡ page_of (part (g.R.ReadAt.bytes l.reader) l.segment.offset l.segment.len) (l.first + k);
}
