use Rattle.digest_text.specs.Unread.{failure_of, head_of, rows_left}
use Rattle.fleet_census.proofs.ReadOn.{end_on, fault_on, line_on}
use Rattle.fleet_census.proofs.Failed.{failed_on, noted}
use Rattle.fleet_census.proofs.files.read_entry.Goals as goal

pub returns-in-Ok-Some-clause-read : goal.returns-in-Ok-Some-clause-read
returns-in-Ok-Some-clause-read g c =
    line_on (rows_left {A = g.row.A.Denot} g.R.Read.remaining) c.args.readers.now c.args.file c.requires.within c.index-readers-file.result c.next_line.new.self c.in-Ok-Some.line (head_of c.next_line.new.self)
    (rw c.in-Ok-Some.field-0-is at (c.in-Ok-Some.ensures {u = tt}).next)

pub returns-in-Ok-None-clause-read : goal.returns-in-Ok-None-clause-read
returns-in-Ok-None-clause-read g c =
    end_on (rows_left {A = g.row.A.Denot} g.R.Read.remaining) c.args.readers.now c.args.file c.requires.within c.index-readers-file.result c.next_line.new.self (head_of c.next_line.new.self)
    (rw c.in-Ok-None.field-0-is at (c.in-Ok-None.ensures {u = tt}).next)

pub returns-in-Err-clause-read : goal.returns-in-Err-clause-read
returns-in-Err-clause-read g c =
    fault_on (rows_left {A = g.row.A.Denot} g.R.Read.remaining) c.args.readers.now c.args.file c.requires.within c.index-readers-file.result c.next_line.new.self c.in-Err.fault (head_of c.next_line.new.self) c.fault_of.result c.fault_of.ensures
    (c.in-Err.ensures {u = tt}).next

pub returns-in-Err-clause-failed : goal.returns-in-Err-clause-failed
returns-in-Err-clause-failed g c =
    failed_on failure_of c.args.readers.now c.args.file c.requires.within c.index-readers-file.result c.next_line.new.self c.fault_of.result
    (noted c.args.file c.in-Err.fault _ _ c.fault_of.result c.fault_of.ensures (c.in-Err.ensures {u = tt}).failure)
