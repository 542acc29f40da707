use Rattle.std.proofs.Common.{◌≡◌, Some, List, ℕ, sym, ◌∙◌}
use Rattle.merge_core.specs.Pmap.{bytes_in}
use Rattle.merge_core.proofs.FrameLemmas.{bytes_are}
use Rattle.merge_core.proofs.look.bytes_at.Goals as goal

same_bytes : (x y : List ℕ) → Some x ≡ Some y → x ≡ y
same_bytes x y e = cc

pub returns : goal.returns
returns g c = record { bytes = same_bytes c.bytes.result.now (bytes_in c.args.frames.now c.args.mpn) (sym c.bytes.ensures.value ∙ bytes_are c.args.frames.now c.args.mpn c.requires.taken) }
