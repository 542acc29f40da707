use Rattle.std.proofs.Common.{rules, ◌++◌, List, ℕ, string_bytes}
use Rattle.merge_core.specs.Shown.{state_of}
use Rattle.journal_replay.specs.Ends.{Sends}
use Rattle.journal_replay.specs.Replayed.{report_text}
use Rattle.journal_replay.proofs.Sent.{front_more, sends_more, writes_cut, writes_rest}
use Rattle.share_text.specs.Runs.{lists_lines}
use Rattle.share_text.proofs.Listed.{items_of}
use Rattle.share_text.proofs.printing.print_lines.Goals as goal

pub returns-in_err-print_guests : goal.returns-in_err-print_guests
returns-in_err-print_guests g c =
    let lines : List ℕ = lists_lines 0 (items_of c.args.lists.now) in
    let front = rw c.requires.empty at c.in_err-print_guests.ensures.buffers.err in
    let more = front_more _ _ lines (report_text (state_of c.args.core.now)) front in
    writes_cut _ _ _ _ c.from_residual.result (search rules) (search rules) c.in_err-print_guests.ensures.buffers.failed more

pub returns : goal.returns
returns g c =
    let contents = g.W.Sink.contents in
    let old = contents c.args.writer.now in
    let mid = contents c.print_guests.new.writer in
    let new = contents c.print_report.new.writer in
    let report : List ℕ = report_text (state_of c.args.core.now) in
    let lines : List ℕ = lists_lines 0 (items_of c.args.lists.now) in
    let bytes = string_bytes c.print_guests.new.out in
    let sent : Sends old mid bytes lines = rw c.requires.empty at c.in_ok-print_guests.ensures.buffers.sends in
    let all : Sends old mid (bytes ++ report) (lines ++ report) = sends_more old mid bytes lines report sent in
    writes_rest old mid new _ (bytes ++ report) (lines ++ report) c.print_report.result all c.print_report.ensures
