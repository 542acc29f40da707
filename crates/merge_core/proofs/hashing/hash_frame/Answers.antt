use Rattle.std.proofs.Common.{ap, sym, ◌∙◌, ◌≡◌, Some, List, ℕ}
use Rattle.merge_core.specs.Pmap.{bytes_in}
use Rattle.merge_core.proofs.FrameLemmas.{bytes_are}
use Rattle.merge_core.proofs.hashing.hash_frame.Goals as goal

same_bytes : (x y : List ℕ) → Some x ≡ Some y → x ≡ y
same_bytes x y e = cc

pub returns-clause-hash : goal.returns-clause-hash
returns-clause-hash g c =
    let held = c.args.held.now in
    let same = same_bytes c.bytes.result.now (bytes_in held.frames c.args.mpn) (sym c.bytes.ensures.value ∙ bytes_are held.frames c.args.mpn c.requires.taken) in
    c.hash-code.ensures ∙ ap (g.H.HashFunction.hash_of c.args.salt) same

pub learn-requires-clause-code : goal.learn-requires-clause-code
learn-requires-clause-code g c κs live =
    let held = c.args.held.now in
    let same = same_bytes c.bytes.result.now (bytes_in held.frames c.args.mpn) (sym c.bytes.ensures.value ∙ bytes_are held.frames c.args.mpn c.requires.taken) in
    c.hash-code.ensures ∙ ap (g.H.HashFunction.hash_of c.args.salt) same
