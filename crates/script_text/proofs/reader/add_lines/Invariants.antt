use Rattle.std.proofs.Common.{◌≡◌, ◌+◌, ◌≤◌, All, false, length}
use Rattle.page_model.specs.Closing.{has_close}
use Rattle.merge_machine.specs.Scripts.{entries_needed}
use Rattle.script_text.specs.Texts.{items_in, scripts_in}
use Rattle.script_text.specs.Views.{lists_of}
use Rattle.script_text.proofs.Works.{onto_said}
use Rattle.script_text.proofs.reader.add_lines.Given as goal

abbrev pub invariant-loop-line : goal.invariant-loop-line
invariant-loop-line g l = record {
  read : onto_said (lists_of l.scripts.items) l.pages (items_in (length l.pages) l.most l.total l.n l.asked l.rest) ≡ scripts_in l.pages l.most l.first l.text;
  guests : length l.scripts.items ≡ length l.pages;
  plain : All (λ script. has_close script.items ≡ false) l.scripts.items;
  total : entries_needed l.scripts.items ≡ l.total;
  room : l.total ≤ l.most;
  lines : l.n + length l.rest ≤ l.first + length l.text;
  count : l.asked + length l.rest ≤ length l.text;
}

abbrev pub decreases-loop-line : goal.decreases-loop-line
decreases-loop-line g l = length l.rest
