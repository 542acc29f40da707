use Rattle.std.proofs.Common.{refl}
use Rattle.host_sessions.proofs.host.Host.lend.Goals as goal

pub returns : goal.returns
returns g c = record {
  loans = c.lend_some-loans.result.items;
  lends = rw (c.put_last.ensures, c.put.ensures, ← c.self.view_is) c.lend_some-loans.ensures.lends;
  bytes = rw (c.put_last.ensures, c.put.ensures, ← c.self.view_is) c.lend_some-loans.ensures.bytes;
  reply = refl;
  now = rw (c.put_last.ensures, c.put.ensures, c.lent.ensures, c.copy_of.ensures.items, c.as_slice.ensures.value, ← c.self.view_is, c.lend_some-loans.ensures.salt) refl;
}
