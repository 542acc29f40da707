use Rattle.std.proofs.Common.{◌≡◌, Bool, List, ℕ, Option, Result, Ok, Err, refl, sym, ap, subst}
use Rattle.page_model.specs.Limits.{shapes}
use Rattle.page_model.specs.Pages.{State}
use Rattle.page_model.specs.Replay.{empty_state}
use Rattle.merge_core.specs.Shown.{state_of}
use Rattle.text_words.specs.declared.fault.TextFault.{TextFault}
use Rattle.journal_replay.specs.Ends.{WritesAll}
use Rattle.journal_replay.specs.Replayed.{Prints, printed_from}
use Rattle.script_text.specs.Order.{serial_order}
use Rattle.script_text.specs.Served.{serial_printed}
use Rattle.script_text.specs.Views.{lists_of, script_seen}
use Rattle.script_text.proofs.engine.print_script.Goals as goal

-- what was written is what is due: it was printed, or its writer failed
due_written : (old new : Option (List ℕ)) (failed : Bool) (due text : List ℕ) (r : Result (Unit {0}) TextFault)
    → text ≡ due → WritesAll old new failed text r → Prints old new failed due r
due_written old new failed due text (Ok done) same w = record { ok = rw same at w.ok; err = tt; reader = refl; writer = w.fine }
due_written old new failed due text (Err e) same w =
    let P : TextFault → Type 0 = λ x. Prints old new failed due (Err x) in
    subst P (sym w.fault) (record { ok = tt; err = rw same at w.err; reader = refl; writer = w.failed })

pub returns : goal.returns
returns g c =
    let hash = g.H.HashFunction.hash_of in
    let script = c.args.script.now in
    let first : State = empty_state script.config.frames (shapes script.config.salts.items script.config.pages.items) in
    let made : state_of c.in_ok-core.core ≡ first = rw c.shape-shape.ensures at c.in_ok-core.ensures.empty in
    let lists : lists_of c.deref.result.now ≡ lists_of script.scripts.items = ap lists_of c.deref.ensures.value in
    let same : printed_from hash (state_of c.in_ok-core.core) (serial_order (lists_of c.deref.result.now)) ≡ serial_printed hash (script_seen script) =
    rw (made, lists) refl in
    due_written (g.W.Sink.contents c.args.writer.now) (g.W.Sink.contents c.print_turns.new.writer) (g.W.Sink.has_failed c.print_turns.new.writer)
    (serial_printed hash (script_seen script)) (printed_from hash (state_of c.in_ok-core.core) (serial_order (lists_of c.deref.result.now)))
    c.print_turns.result same c.print_turns.ensures
