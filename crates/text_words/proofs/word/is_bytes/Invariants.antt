use Rattle.std.proofs.Common.{◌≡◌, ◌&&◌, drop}
use Rattle.std.specs.List.{list_all}
use Rattle.text_words.specs.Words.{is_lower_digit}
use Rattle.text_words.proofs.word.is_bytes.Given as goal

abbrev pub invariant-loop-c : goal.invariant-loop-c
invariant-loop-c l = (l.all && list_all is_lower_digit (drop l.c-index l.word)) ≡ list_all is_lower_digit l.word
