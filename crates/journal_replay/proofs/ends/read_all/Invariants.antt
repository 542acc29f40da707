use Rattle.std.proofs.Common.{◌≡◌, ◌-◌, ◌≤◌, ◌<◌, false, vec_len}
use Rattle.std.specs.Io.KnownBytes.{Consumes}
use Rattle.page_model.specs.declared.limits.TheConstants.{MAX_TEXT_BYTES}
use Rattle.journal_replay.proofs.ends.read_all.Given as goal

abbrev pub invariant-loop-piece : goal.invariant-loop-piece
invariant-loop-piece g l = record {
  got : Consumes (g.R.Source.remaining l.fn.reader) (g.R.Source.remaining l.reader) l.text.items;
  fine : g.R.Source.has_failed l.reader ≡ false;
  short : vec_len l.text ≤ MAX_TEXT_BYTES;
  room : 0 < vec_len l.piece;
}

abbrev pub decreases-loop-piece : goal.decreases-loop-piece
decreases-loop-piece g l = MAX_TEXT_BYTES - vec_len l.text
