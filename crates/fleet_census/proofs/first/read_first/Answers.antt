use Rattle.digest_text.specs.Unread.{head_of}
use Rattle.fleet_census.proofs.Firsts.{first_end, first_fault, first_line, says_head}
use Rattle.fleet_census.proofs.Failed.{noted}
use Rattle.fleet_census.proofs.first.read_first.Goals as goal

pub returns-in-Ok-Some-clause-read : goal.returns-in-Ok-Some-clause-read
returns-in-Ok-Some-clause-read g c =
    first_line c.args.file c.in-Ok-Some.line c.first_of.result _ _ (head_of c.next_line.new.self) c.first_of.ensures.entry
    (says_head c.head.result (λ head. head.now) (head_of c.next_line.new.self) c.first_of.result c.head.ensures c.first_of.ensures.head)
    (rw c.in-Ok-Some.field-0-is at (c.in-Ok-Some.ensures {u = tt}).next)

pub returns-in-Ok-None-clause-read : goal.returns-in-Ok-None-clause-read
returns-in-Ok-None-clause-read g c =
    first_end c.args.file _ _ (head_of c.next_line.new.self) (rw c.in-Ok-None.field-0-is at (c.in-Ok-None.ensures {u = tt}).next)

pub returns-in-Err-clause-read : goal.returns-in-Err-clause-read
returns-in-Err-clause-read g c =
    first_fault c.args.file c.in-Err.fault _ _ (head_of c.next_line.new.self) c.fault_of.result c.fault_of.ensures (c.in-Err.ensures {u = tt}).next

pub returns-in-Err-clause-failed : goal.returns-in-Err-clause-failed
returns-in-Err-clause-failed g c = noted c.args.file c.in-Err.fault _ _ c.fault_of.result c.fault_of.ensures (c.in-Err.ensures {u = tt}).failure
