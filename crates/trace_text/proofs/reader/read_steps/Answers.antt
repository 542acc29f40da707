use Rattle.std.proofs.Common.{◌≡◌, ◌==◌, ◌++◌, true, false, [], ◌∷◌, length, Ok, Err, sym, ◌∙◌, arith}
use Rattle.trace_text.specs.Lines.{step_of}
use Rattle.trace_text.proofs.Steps.{next_step, fault_step, last_step, cut_step}
use Rattle.trace_text.proofs.reader.read_steps.Goals as goal

pub returns-in-Err : goal.returns-in-Err
returns-in-Err g c =
    let cut = c.in-Some.ensures.parts in
    let said : step_of c.in-Some.line.now ≡ Err c.in-Err.cause = sym c.read_step.ensures ∙ c.in-Err.is in
    sym c.loop-line.invariant.read ∙ fault_step c.loop-line.n c.loop-line.steps.items c.loop-line.rest.now c.in-Some.line.now c.in-Err.cause cut.0 cut.1 said

pub loop-line-preserved : goal.loop-line-preserved
loop-line-preserved g c =
    let cut = c.in-Some.ensures.parts in
    let said : step_of c.in-Some.line.now ≡ Ok c.in-Ok.step = sym c.read_step.ensures ∙ c.in-Ok.is in
    let pushed : c.push.new.self.items ≡ c.loop-line.steps.items ++ c.in-Ok.step ∷ [] = c.in_ok-push-in-Ok.ensures.items in
    record {
      read = rw pushed (sym (next_step c.loop-line.n c.loop-line.steps.items c.loop-line.rest.now c.in-Some.line.now c.in-Some.more.now c.in-Ok.step cut.0 cut.1 cut.2 said) ∙ c.loop-line.invariant.read);
      lines = omega (arith, c.in-Some.ensures.length, c.loop-line.invariant.lines);
    }

pub returns-then-is_empty : goal.returns-then-is_empty
returns-then-is_empty g c =
    let none : (length c.loop-line.rest.now == 0) ≡ true = cc in
    sym c.loop-line.invariant.read ∙ last_step c.loop-line.n c.loop-line.steps.items c.loop-line.rest.now none

pub returns : goal.returns
returns g c =
    let some : (length c.loop-line.rest.now == 0) ≡ false = cc in
    sym c.loop-line.invariant.read ∙ cut_step c.loop-line.n c.loop-line.steps.items c.loop-line.rest.now c.in_default.ensures.parts some
