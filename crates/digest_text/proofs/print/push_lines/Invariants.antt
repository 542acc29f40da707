use Rattle.std.proofs.Common.{◌≡◌, ◌+◌, ◌*◌, ◌++◌, ◌≤◌, drop}
use Rattle.std.specs.Prelude.{vec_len, vec_capacity}
use Rattle.digest_text.specs.Written.{lines_text}
use Rattle.digest_text.proofs.print.push_lines.Given as goal

abbrev pub invariant-loop-line : goal.invariant-loop-line
invariant-loop-line g l = record {
  bytes : l.out.items ++ lines_text l.head (drop l.line-index l.lines) ≡ l.fn.out.items ++ lines_text l.head l.lines;
  len : vec_len l.out ≤ vec_len l.fn.out + 182 * l.line-index;
  capacity : vec_capacity l.fn.out ≤ vec_capacity l.out;
}
