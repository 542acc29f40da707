-- What a line says as it stands there, as values.
use Rattle.std.specs.Prelude.{◌≡◌, true}
use Rattle.guest_digests.specs.Samples.{IsSample}
use Rattle.digest_text.specs.Fields.{Row}
use Rattle.digest_text.specs.Names.{is_name}
use Rattle.digest_text.specs.declared.head.DigestHead.{DigestHead}
use Rattle.digest_text.specs.declared.row.LineHead.{LineHead}
use Rattle.digest_text.specs.declared.row.LineRow.{LineRow}

abbrev pub head_seen : LineHead → DigestHead
head_seen head = record { guest = head.guest.now; salt = head.salt; pages = head.pages; sample = head.every }

abbrev pub row_seen : LineRow → Row
row_seen row = record { head = head_seen row.head; line = row.line }

-- the guest is a name, and the sample is one
pub record IsOfForm (head : LineHead) : Type 0 where
  pub name : is_name head.guest.now ≡ true
  pub sample : IsSample head.every
