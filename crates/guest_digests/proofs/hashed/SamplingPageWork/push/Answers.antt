use Rattle.std.proofs.Common.{◌≡◌, ◌++◌, OnOk, List, ℕ, subst, sym}
use Rattle.guest_digests.proofs.Kept.{all_given}
use Rattle.guest_digests.proofs.hashed.SamplingPageWork.push.Goals as goal

pub returns : goal.returns
returns g c =
    let P : List ℕ → Type 0 = λ digests. OnOk c.push_digests.result (c.push_digests.new.digests.items ≡ c.args.items.now.items ++ digests) in
    subst P (sym (all_given c.args.self.now c.args.pages.now)) c.push_digests.ensures
