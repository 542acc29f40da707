use Rattle.std.proofs.Common.{◌≡◌, ◌≤◌, length, map, min, take, vec_len}
use Rattle.std.specs.Prelude.{vec_capacity}
use Rattle.report_text.proofs.estimate.guest_lines.Given as goal

abbrev pub invariant-loop-n : goal.invariant-loop-n
invariant-loop-n g l = record {
  fits : l.count ≤ vec_capacity l.lines;
  few : l.count ≡ min (length l.images) (min (length l.salts) (length l.numbers));
  len : vec_len l.lines ≡ l.n;
  images : map (λ line. line.image) l.lines.items ≡ take l.n l.images;
  salts : map (λ line. line.salt) l.lines.items ≡ take l.n l.salts;
  numbers : map (λ line. line.numbers) l.lines.items ≡ take l.n l.numbers;
}
