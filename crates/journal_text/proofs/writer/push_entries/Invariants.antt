use Rattle.std.proofs.Common.{◌≡◌, ◌++◌, drop, string_bytes}
use Rattle.journal_text.specs.Written.{entry_lines}
use Rattle.journal_text.proofs.writer.push_entries.Given as goal

abbrev pub invariant-loop-entry : goal.invariant-loop-entry
invariant-loop-entry g l = string_bytes l.out ++ entry_lines (drop l.entry-index l.entries) ≡ string_bytes l.fn.out ++ entry_lines l.entries
