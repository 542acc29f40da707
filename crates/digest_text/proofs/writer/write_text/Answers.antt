use Rattle.std.proofs.Common.{rules, codes, ◌++◌}
use Rattle.digest_text.specs.Rows.{header}
use Rattle.digest_text.specs.Written.{lines_text}
use Rattle.digest_text.proofs.Sent.{cut_first, first_then}
use Rattle.digest_text.proofs.writer.write_text.Goals as goal

pub returns-in_err-write_bytes : goal.returns-in_err-write_bytes
returns-in_err-write_bytes g c =
    cut_first (g.W.Write.contents c.args.writer.now) (g.W.Write.contents c.write_bytes.new.writer) (header ++ codes "\n") (lines_text c.args.head.now c.args.lines.now) c.from_residual.result (search rules) c.in_err-write_bytes.ensures

pub returns : goal.returns
returns g c =
    first_then (g.W.Write.contents c.args.writer.now) (g.W.Write.contents c.write_bytes.new.writer) (g.W.Write.contents c.write_lines.new.writer) (header ++ codes "\n") (lines_text c.args.head.now c.args.lines.now) c.write_lines.result c.in_ok-write_bytes.ensures c.write_lines.ensures
