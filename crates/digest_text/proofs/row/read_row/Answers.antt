use Rattle.std.proofs.Common.{sym}
use Rattle.digest_text.specs.Seen.{head_seen}
use Rattle.digest_text.proofs.Fronts.{head_spelled, head_within}
use Rattle.digest_text.proofs.row.read_row.Goals as goal

pub slice_bounds-front-count : goal.slice_bounds-front-count
slice_bounds-front-count c = head_within c.args.bytes.now (head_seen c.in_ok-head.head) c.in_ok-head.rest.now (sym c.in_ok-head.ensures.value)

pub returns-clause-front : goal.returns-clause-front
returns-clause-front c = head_spelled c.args.bytes.now (head_seen c.in_ok-head.head) c.in_ok-head.rest.now (sym c.in_ok-head.ensures.value)
