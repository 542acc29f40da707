use Rattle.host_sessions.proofs.Own.{empty_has, connect_keeps, receive_keeps, take_back_keeps, disconnect_keeps, end_keeps, end_empty_keeps}
use Rattle.host_sessions.specs.Table.{session_at}
use Rattle.host_sessions.proofs.laws.clients_law.Goals as goal

pub returns-clause-empty : goal.returns-clause-empty
returns-clause-empty c = λ config. empty_has config

pub returns-clause-connects : goal.returns-clause-connects
returns-clause-connects c = λ name h own. connect_keeps name h own

pub returns-clause-receives : goal.returns-clause-receives
returns-clause-receives c = λ n bytes pages may received old new own p. receive_keeps n bytes pages may received old new own p

pub returns-clause-takes_back : goal.returns-clause-takes_back
returns-clause-takes_back c = λ n frames received old new own t. take_back_keeps n (session_at old.sessions n) frames received old new own t

pub returns-clause-disconnects : goal.returns-clause-disconnects
returns-clause-disconnects c = λ n h own. disconnect_keeps n h own

pub returns-clause-ends : goal.returns-clause-ends
returns-clause-ends c = λ n result room after old new own e. end_keeps n result room after old new own e

pub returns-clause-ends_empty : goal.returns-clause-ends_empty
returns-clause-ends_empty c = λ n result old new own e. end_empty_keeps n result old new own e
