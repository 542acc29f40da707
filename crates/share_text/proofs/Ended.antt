-- What is written of a run that has ended, by its journal alone.
use Rattle.std.proofs.Common.{◌≡◌, ◌+◌, ◌<◌, ◌++◌, zero, suc, ℕ, Bool, Option, Result, Ok, Err, List, [], ◌∷◌, length, get_or, map, refl, ap, sym, subst, ◌∙◌, arith}
use Rattle.std.specs.declared.vec.Vec.{Vec}
use Rattle.page_model.specs.Journal as journal
use Rattle.page_model.specs.Pages.{State}
use Rattle.page_model.specs.Replay.{state_after}
use Rattle.page_model.specs.declared.hashing.HashFunction.{Ghosts}
use Rattle.page_model.specs.declared.request.Entry.{Entry}
use Rattle.page_model.specs.declared.request.Request.{Request}
use Rattle.page_model.specs.declared.verdict.Verdict.{Verdict}
use Rattle.share_rings.specs.Ends.{closed_sent, closed_got}
use Rattle.share_rings.specs.declared.closed_port.ClosedPort.{ClosedPort}
use Rattle.merge_core.specs.Shown.{state_of}
use Rattle.merge_machine.specs.Scripts.{with_close}
use Rattle.merge_settle.specs.Settling.{Settles}
use Rattle.merge_run.specs.Tasks.{all_sent}
use Rattle.merge_run.specs.View.{opening, settled_journal, settled_ports, settled_core}
use Rattle.merge_run.specs.declared.finished.Finished.{Finished}
use Rattle.journal_replay.specs.Ends.{WritesAll}
use Rattle.journal_replay.specs.Replayed.{report_text, Prints}
use Rattle.text_words.specs.declared.fault.TextFault.{TextFault}
use Rattle.journal_text.specs.Texts.{AreBelow}
use Rattle.script_text.specs.Views.{lists_of, script_seen}
use Rattle.script_text.specs.declared.script.Script.{Script}
use Rattle.share_text.specs.Runs.{each_from, machine, IsRunOf, lists_lines, answers, run_text}
use Rattle.share_text.specs.Threads.{finished_text}
use Rattle.share_text.specs.declared.form.Output.{Output}
use Rattle.share_text.specs.declared.form.Output.TheVariants.{Verdicts, JournalText}

-- a text that was written is printed, or its writer failed
pub prints_written : (old new : Option (List ℕ)) (failed : Bool) (text : List ℕ) (r : Result (Unit {0}) TextFault)
    → WritesAll old new failed text r → Prints old new failed text r
prints_written old new failed text (Ok done) w = record { ok = w.ok; err = tt; reader = refl; writer = w.fine }
prints_written old new failed text (Err e) w =
    let P : TextFault → Type 0 = λ x. Prints old new failed text (Err x) in
    subst P (sym w.fault) (record { ok = tt; err = w.err; reader = refl; writer = w.failed })

-- what holds at each place holds of the list
each_at : {X Y : Type 0} (f : ℕ → Y) (view : X → Y) (k : ℕ) (xs : List X) → ((i : ℕ) (d : X) → i < length xs → view (get_or xs i d) ≡ f (k + i)) → map view xs ≡ each_from f k (length xs)
each_at f view k [] h = refl
each_at f view k (x ∷ xs) h =
    let none : k + zero ≡ k = omega arith in
    let first : view x ≡ f k = h zero x (omega arith) ∙ ap f none in
    let rest : map view xs ≡ each_from f (k + 1) (length xs) = each_at f view (k + 1) xs (λ i d l. let next : k + suc i ≡ (k + 1) + i = omega arith in h (suc i) d (omega (arith, l)) ∙ ap f next) in
    rw (first, rest) refl

from_none : (i : ℕ) → i ≡ 0 + i
from_none i = omega arith

map_twice : {X Y Z : Type 0} (f : X → Y) (g : Y → Z) (xs : List X) → map (λ x. g (f x)) xs ≡ map g (map f xs)
map_twice f g [] = refl
map_twice f g (x ∷ xs) = ap (λ zs. g (f x) ∷ zs) (map_twice f g xs)

module _ {H A : Type 0} {ghosts : Ghosts H} where
  -- the run was of this script
  pub is_run : (hash : ℕ → List ℕ → ℕ) (s : Script A) (f : Finished H A ghosts) → Settles hash (settled_ports f.settled) (settled_journal f.settled) (settled_core f.settled)
      → length (settled_ports f.settled) ≡ length s.config.pages.items → map closed_sent (settled_ports f.settled) ≡ all_sent s.scripts.items
      → IsRunOf (script_seen s) (settled_journal f.settled)
  is_run hash s f settles guests sent =
      let es : List Entry = settled_journal f.settled in
      let ports : List (ClosedPort A) = settled_ports f.settled in
      let each : map closed_sent ports ≡ each_from (λ guest. journal.asked guest es) 0 (length ports) = each_at (λ guest. journal.asked guest es) closed_sent 0 ports (λ i d l. (settles.guests i d l).sent ∙ ap (λ (guest : ℕ). journal.asked guest es) (from_none i)) in
      let scripts : all_sent s.scripts.items ≡ map with_close (lists_of s.scripts.items) = map_twice (λ (script : Vec Request A). script.items) with_close s.scripts.items in
      record {
        members = subst (λ (n : ℕ). AreBelow n es) guests settles.members;
        asked = ap (λ (n : ℕ). each_from (λ guest. journal.asked guest es) 0 n) (sym guests) ∙ sym each ∙ sent ∙ scripts;
      }

  -- what its guests got are the replay's verdicts
  got_answers : (hash : ℕ → List ℕ → ℕ) (s : Script A) (f : Finished H A ghosts) → Settles hash (settled_ports f.settled) (settled_journal f.settled) (settled_core f.settled)
      → opening (state_of (settled_core f.settled)) ≡ machine (script_seen s) → length (settled_ports f.settled) ≡ length s.config.pages.items
      → map closed_got (settled_ports f.settled) ≡ answers hash (script_seen s) (settled_journal f.settled)
  got_answers hash s f settles same guests =
      let es : List Entry = settled_journal f.settled in
      let ports : List (ClosedPort A) = settled_ports f.settled in
      let before : State = opening (state_of (settled_core f.settled)) in
      let each : map closed_got ports ≡ each_from (λ guest. journal.answers hash before guest es) 0 (length ports) = each_at (λ guest. journal.answers hash before guest es) closed_got 0 ports
      (λ i d l. (settles.guests i d l).got ∙ ap (λ (guest : ℕ). journal.answers hash before guest es) (from_none i)) in
      each ∙ ap (λ (n : ℕ). each_from (λ guest. journal.answers hash before guest es) 0 n) guests
      ∙ ap (λ (m : State). each_from (λ guest. journal.answers hash m guest es) 0 (length s.config.pages.items)) same

  -- so what is written of it is what is due for its journal
  pub text_of_run : (hash : ℕ → List ℕ → ℕ) (form : Output) (s : Script A) (f : Finished H A ghosts) → Settles hash (settled_ports f.settled) (settled_journal f.settled) (settled_core f.settled)
      → opening (state_of (settled_core f.settled)) ≡ machine (script_seen s) → length (settled_ports f.settled) ≡ length s.config.pages.items
      → map (λ list. list.items) f.verdicts.items ≡ map closed_got (settled_ports f.settled)
      → finished_text form s.config f ≡ run_text hash form (script_seen s) (settled_journal f.settled)
  text_of_run hash JournalText s f settles same guests got = refl
  text_of_run hash Verdicts s f settles same guests got =
      let es : List Entry = settled_journal f.settled in
      let lists : map (λ (list : Vec Verdict A). list.items) f.verdicts.items ≡ answers hash (script_seen s) es = got ∙ got_answers hash s f settles same guests in
      let after : state_of (settled_core f.settled) ≡ state_after hash (machine (script_seen s)) es = settles.memory ∙ ap (λ (m : State). state_after hash m es) same in
      ap (λ (ls : List (List Verdict)). lists_lines 0 ls ++ report_text (state_of (settled_core f.settled))) lists
      ∙ ap (λ (m : State). lists_lines 0 (answers hash (script_seen s) es) ++ report_text m) after
