use Rattle.std.proofs.Common.{◌∙◌}
use Rattle.page_digest.proofs.Padding.{plain_message, salted_message}
use Rattle.page_digest.proofs.message.padded.Goals as goal

pub returns-then-salt-eq0-clause-value : goal.returns-then-salt-eq0-clause-value
returns-then-salt-eq0-clause-value c =
    c.new.ensures ∙ rw c.first_bytes.ensures (plain_message c.args.salt c.args.page.now c.if-salt-eq0.true c.told-page)

pub returns-clause-value : goal.returns-clause-value
returns-clause-value c =
    c.new-2.ensures ∙ rw (c.salt_and_first_bytes.ensures, c.last_bytes.ensures) (salted_message c.args.salt c.args.page.now c.if-salt-eq0.false c.told-page)
