use Rattle.std.proofs.Common.{◌≡◌, ◌+◌, ◌++◌, ℕ}
use Rattle.share_rings.specs.Numbers.{number_of}
use Rattle.script_text.specs.Works.{proposals}
use Rattle.script_text.proofs.fill.add_scan.Given as goal

abbrev pub invariant-loop-i : goal.invariant-loop-i
invariant-loop-i g l = record {
  items : l.script.items ≡ l.fn.script.items ++ proposals (number_of l.fn.scan) l._i;
  scan : (m : ℕ) → number_of l.scan m ≡ number_of l.fn.scan (m + l._i);
}
