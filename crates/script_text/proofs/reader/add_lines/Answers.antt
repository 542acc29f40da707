use Rattle.std.proofs.Common.{◌≡◌, ◌+◌, ◌<◌, ◌≤◌, ◌==◌, ℕ, List, length, Result, Ok, Err, sym, ap, ◌∙◌, arith}
use Rattle.std.specs.List.{before_first, after_first}
use Rattle.page_model.specs.declared.request.Request.{Request}
use Rattle.text_words.specs.declared.fault.Cause.{Cause}
use Rattle.journal_text.specs.declared.request.Line.{Line}
use Rattle.journal_text.specs.declared.request.Line.TheVariants.{Enters, Ends}
use Rattle.text_words.specs.Lines.{is_feed}
use Rattle.script_text.specs.declared.work.Item.{Item}
use Rattle.script_text.specs.Lines.{script_line_of, total_after, IsPlain, Fits}
use Rattle.script_text.specs.Texts.{items_in, scripts_in}
use Rattle.script_text.specs.Views.{lists_of}
use Rattle.script_text.specs.Works.{size_of}
use Rattle.script_text.proofs.Bodies.{items_end, items_fault, items_ended, items_step}
use Rattle.script_text.proofs.Lists.{lists_length, fresh_length, fresh_plain, fresh_entries, lists_added, length_added, plain_added, entries_added, fills_ended}
use Rattle.script_text.proofs.Works.{onto_said, onto_line, onto_first}
use Rattle.script_text.proofs.reader.add_lines.Goals as goal

fits_of : (guests most total : ℕ) (l : Line Item) (item : Item) → l ≡ Enters item → Fits guests most total l → (item.guest < guests) × IsPlain item.work × (total + size_of item.work ≤ most)
fits_of guests most total l item same h = rw same at h

abbrev said : Line Item → Result (Line Item) Cause
said l = Ok l

read_as : {a b : Line Item} → a ≡ b → said a ≡ said b
read_as e = ap said e

pub loop-line-init : goal.loop-line-init
unfolding scripts_in
loop-line-init g c =
    let pages = c.args.pages.now in
    let vs = c.args.scripts.now.items in
    record {
      read = rw c.requires.empty (onto_first pages (items_in (length pages) c.args.most (length pages) c.args.first 0 c.args.text.now));
      guests = fresh_length vs (length pages) c.requires.empty;
      plain = fresh_plain vs (length pages) c.requires.empty;
      total = fresh_entries vs (length pages) c.requires.empty;
      room = c.requires.room;
      lines = omega arith;
      count = omega arith;
    }

pub returns-in-Err-clause-value : goal.returns-in-Err-clause-value
returns-in-Err-clause-value g c =
    let text = c.loop-line.rest.now in
    let guests = length c.args.pages.now in
    let most = c.args.most in
    let total = c.loop-line.total in
    let lists : List (List Request) = lists_of c.loop-line.scripts.items in
    let cut = c.in-Some.ensures.parts in
    let line : c.in-Some.line.now ≡ before_first is_feed text = cut.1 in
    let read : script_line_of guests most total (before_first is_feed text) ≡ Err c.in-Err.cause = ap (script_line_of guests most total) (sym line) ∙ sym c.in-Err.ensures.value in
    sym c.loop-line.invariant.read ∙ ap (onto_said lists c.args.pages.now) (items_fault guests most total c.loop-line.n c.loop-line.asked text c.in-Err.cause cut.0 read)

pub returns-in-Ok-Ends-clause-value : goal.returns-in-Ok-Ends-clause-value
returns-in-Ok-Ends-clause-value g c =
    let text = c.loop-line.rest.now in
    let pages = c.args.pages.now in
    let guests = length pages in
    let most = c.args.most in
    let total = c.loop-line.total in
    let n = c.loop-line.n in
    let asked = c.loop-line.asked in
    let vs = c.loop-line.scripts.items in
    let lists : List (List Request) = lists_of vs in
    let cut = c.in-Some.ensures.parts in
    let line : c.in-Some.line.now ≡ before_first is_feed text = cut.1 in
    let more : c.in-Some.more.now ≡ after_first is_feed text = cut.2 in
    let read : script_line_of guests most total (before_first is_feed text) ≡ Ok (Ends c.in-Ok-Ends.count) = ap (script_line_of guests most total) (sym line) ∙ sym c.in-Ok-Ends.ensures.value ∙ read_as c.in-Ok-Ends.field-0-is in
    let step = items_ended guests most total n asked text c.in-Ok-Ends.count cut.0 read in
    let last : c.is_empty.result ≡ (length (after_first is_feed text) == 0) = c.is_empty.ensures ∙ ap (λ (xs : List ℕ). length xs == 0) more in
    let whole = rw (← last) at (sym c.loop-line.invariant.read ∙ ap (onto_said lists pages) step) in
    rw c.check_end.ensures (fills_ended pages lists n asked c.is_empty.result c.in-Ok-Ends.count _ (lists_length vs ∙ c.loop-line.invariant.guests) whole)

pub loop-line-preserved : goal.loop-line-preserved
loop-line-preserved g c =
    let text = c.loop-line.rest.now in
    let pages = c.args.pages.now in
    let guests = length pages in
    let most = c.args.most in
    let total = c.loop-line.total in
    let n = c.loop-line.n in
    let asked = c.loop-line.asked in
    let old = c.loop-line.scripts.items in
    let new = c.add_item.new.scripts.items in
    let item = c.in-Ok-Enters.item in
    let cut = c.in-Some.ensures.parts in
    let line : c.in-Some.line.now ≡ before_first is_feed text = cut.1 in
    let more : c.in-Some.more.now ≡ after_first is_feed text = cut.2 in
    let read : script_line_of guests most total (before_first is_feed text) ≡ Ok (Enters item) = ap (script_line_of guests most total) (sym line) ∙ sym c.in-Ok-Enters.ensures.value ∙ read_as c.in-Ok-Enters.field-0-is in
    let step = items_step guests most total n asked text item cut.0 read in
    let fits = fits_of guests most total _ item c.in-Ok-Enters.field-0-is c.in-Ok-Enters.ensures.fits in
    let adds = c.in_ok-add_item-in-Ok-Enters.ensures.lists in
    let below : item.guest < length old = omega (arith, fits.0, c.loop-line.invariant.guests) in
    let later : Result (List Item) _ = items_in guests most (total_after total item) (n + 1) (asked + 1) (after_first is_feed text) in
    let long : length (lists_of old) ≡ length pages = lists_length old ∙ c.loop-line.invariant.guests in
    record {
      read = rw (lists_added pages item old new adds below, more, c.size-total.ensures) (sym (onto_line pages (lists_of old) item later fits.0 long) ∙ sym (ap (onto_said (lists_of old) pages) step) ∙ c.loop-line.invariant.read);
      guests = length_added pages item old new adds ∙ c.loop-line.invariant.guests;
      plain = plain_added pages item old new adds below fits.1 c.loop-line.invariant.plain;
      total = omega (arith, entries_added pages item old new adds below, c.loop-line.invariant.total, c.size-total.ensures);
      room = omega (arith, fits.2, c.size-total.ensures);
      lines = omega (arith, c.in-Some.ensures.length, c.loop-line.invariant.lines);
      count = omega (arith, c.in-Some.ensures.length, c.loop-line.invariant.count);
    }

pub returns-clause-value : goal.returns-clause-value
returns-clause-value g c =
    let lists : List (List Request) = lists_of c.loop-line.scripts.items in
    sym c.loop-line.invariant.read ∙ ap (onto_said lists c.args.pages.now) (items_end (length c.args.pages.now) c.args.most c.loop-line.total c.loop-line.n c.loop-line.asked c.loop-line.rest.now c.in_default.ensures.parts)
