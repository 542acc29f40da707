use Rattle.std.proofs.Common.{◌≡◌, ◌≤◌, drop}
use Rattle.std.specs.Str.{all_ascii_digits}
use Rattle.text_words.specs.Words.{value_on}
use Rattle.text_words.proofs.word.number_to.Given as goal

abbrev pub invariant-loop-c : goal.invariant-loop-c
invariant-loop-c l = record {
  digits : all_ascii_digits (drop l.c-index l.word) ≡ all_ascii_digits l.word;
  value : value_on l.n (drop l.c-index l.word) ≡ value_on 0 l.word;
  within : l.n ≤ l.most;
}
