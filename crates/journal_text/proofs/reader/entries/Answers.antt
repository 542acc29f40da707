use Rattle.std.proofs.Common.{◌≡◌, ℕ, ◌+◌, ◌<◌, ◌≤◌, ◌++◌, [], ◌∷◌, List, Result, Ok, Err, length, ap, sym, ◌∙◌, arith, ◌==◌, length-append}
use Rattle.std.specs.List.{before_first, after_first}
use Rattle.journal_text.specs.declared.request.Line.{Line}
use Rattle.text_words.specs.declared.fault.Cause.{Cause}
use Rattle.journal_text.specs.declared.said.SaidBy.{SaidBy}
use Rattle.text_words.specs.Words.{◌>>=◌}
use Rattle.journal_text.specs.Requests.{line_of}
use Rattle.journal_text.specs.Asked.{entered, IsSaidBelow}
use Rattle.journal_text.specs.declared.request.Line.TheVariants.{Enters, Ends}
use Rattle.page_model.specs.declared.request.Entry.{Entry}
use Rattle.text_words.specs.Lines.{is_feed}
use Rattle.journal_text.specs.Texts.{closed_after}
use Rattle.journal_text.proofs.Lines.{body_end, body_fault, body_ended, body_step, below_push}
use Rattle.journal_text.proofs.reader.entries.Goals as goal

below_of : {n : ℕ} {l : Line SaidBy} {s : SaidBy} → l ≡ Enters s → IsSaidBelow n l → s.guest < n
below_of same h = (rw same at h).0

saying : {a b : Line SaidBy} → a ≡ b → entered a ≡ entered b
saying e = ap entered e

abbrev entering : Result Entry Cause → Result (Line Entry) Cause
entering made = made >>= λ entry. Ok (Enters entry)

pub returns-in-Err-clause-value : goal.returns-in-Err-clause-value
returns-in-Err-clause-value g c =
    let text = c.loop-line.rest.now in
    let closed = c.loop-line.closed in
    let cut = c.in-Some.ensures.parts in
    let line : c.in-Some.line.now ≡ before_first is_feed text = cut.1 in
    let read : line_of closed (before_first is_feed text) ≡ Err c.in-Err.cause = ap (line_of closed) (sym line) ∙ sym c.in-Err.ensures.value in
    sym c.loop-line.invariant.read ∙ body_fault line_of closed_after closed c.loop-line.n (length c.loop-line.found.items) c.loop-line.found.items text c.in-Err.cause cut.0 read

pub returns-in-Ok-Ends-clause-value : goal.returns-in-Ok-Ends-clause-value
returns-in-Ok-Ends-clause-value g c =
    let text = c.loop-line.rest.now in
    let closed = c.loop-line.closed in
    let front = c.loop-line.found.items in
    let cut = c.in-Some.ensures.parts in
    let line : c.in-Some.line.now ≡ before_first is_feed text = cut.1 in
    let more : c.in-Some.more.now ≡ after_first is_feed text = cut.2 in
    let read : line_of closed (before_first is_feed text) ≡ Ok (Ends c.in-Ok-Ends.count) = ap (line_of closed) (sym line) ∙ sym c.in-Ok-Ends.ensures.value ∙ saying c.in-Ok-Ends.field-0-is in
    let step = body_ended line_of closed_after closed c.loop-line.n (length front) front text c.in-Ok-Ends.count cut.0 read in
    let last : c.is_empty.result ≡ (length (after_first is_feed text) == 0) = c.is_empty.ensures ∙ ap (λ (xs : List ℕ). length xs == 0) more in
    rw (sym c.loop-line.invariant.read ∙ step, ← last) c.ended.ensures.value

pub returns-in-Err-entry-clause-value : goal.returns-in-Err-entry-clause-value
returns-in-Err-entry-clause-value g c =
    let text = c.loop-line.rest.now in
    let closed = c.loop-line.closed in
    let cut = c.in-Some.ensures.parts in
    let line : c.in-Some.line.now ≡ before_first is_feed text = cut.1 in
    let said : entered c.in-Ok-Enters.field-0 ≡ Err c.in-Err-entry.cause = saying c.in-Ok-Enters.field-0-is ∙ ap entering (sym c.in-Err-entry.ensures.value) in
    let read : line_of closed (before_first is_feed text) ≡ Err c.in-Err-entry.cause = ap (line_of closed) (sym line) ∙ sym c.in-Ok-Enters.ensures.value ∙ said in
    sym c.loop-line.invariant.read ∙ body_fault line_of closed_after closed c.loop-line.n (length c.loop-line.found.items) c.loop-line.found.items text c.in-Err-entry.cause cut.0 read

pub loop-line-preserved : goal.loop-line-preserved
loop-line-preserved g c =
    let text = c.loop-line.rest.now in
    let closed = c.loop-line.closed in
    let front = c.loop-line.found.items in
    let entry = c.in-Ok.entry in
    let cut = c.in-Some.ensures.parts in
    let line : c.in-Some.line.now ≡ before_first is_feed text = cut.1 in
    let more : c.in-Some.more.now ≡ after_first is_feed text = cut.2 in
    let said : entered c.in-Ok-Enters.field-0 ≡ Ok (Enters entry) = saying c.in-Ok-Enters.field-0-is ∙ ap entering (sym c.in-Ok.ensures.value) in
    let read : line_of closed (before_first is_feed text) ≡ Ok (Enters entry) = ap (line_of closed) (sym line) ∙ sym c.in-Ok-Enters.ensures.value ∙ said in
    let step = body_step line_of closed_after closed c.loop-line.n (length front) front text entry cut.0 read in
    let pushed : c.push.new.self.items ≡ front ++ entry ∷ [] = c.in_ok-push-in-Ok.ensures.items in
    let count : length (front ++ entry ∷ []) ≡ length front + 1 = length-append front (entry ∷ []) in
    let noted : c.note.new.closed ≡ closed_after closed entry = c.note.ensures in
    let shorter : length (after_first is_feed text) + 6 ≤ length text = omega (arith, c.in-Some.ensures.length, c.in-Ok-Enters.ensures.length, ap length more) in
    let below : entry.guest < length c.args.closed.now = rw c.in-Ok.ensures.guest (below_of c.in-Ok-Enters.field-0-is (rw c.loop-line.invariant.guests at c.in-Ok-Enters.ensures.below)) in
    record {
      read = rw (pushed, count, noted, more) (sym step ∙ c.loop-line.invariant.read);
      lines = rw more (omega arith);
      guests = omega arith;
      below = rw pushed (below_push (length c.args.closed.now) front entry c.loop-line.invariant.below below);
      few = rw (pushed, count, more) (omega arith);
    }

pub returns-clause-value : goal.returns-clause-value
returns-clause-value g c = sym c.loop-line.invariant.read ∙ body_end line_of closed_after c.loop-line.closed c.loop-line.n (length c.loop-line.found.items) c.loop-line.found.items c.loop-line.rest.now c.in_default.ensures.parts
