use Rattle.std.proofs.Common.{refl}
use Rattle.share_domain.specs.Domains.{after_release}
use Rattle.share_domain.proofs.Bytes.{bytes_by_leave, bytes_by_release}
use Rattle.share_domain.proofs.laws.bytes_law.Goals as goal

pub returns-clause-releases : goal.returns-clause-releases
returns-clause-releases c client slot d = bytes_by_release client slot d (after_release client slot d) refl

pub returns-clause-leaves : goal.returns-clause-leaves
returns-clause-leaves c client count room after old new l = bytes_by_leave client count room after old new l
