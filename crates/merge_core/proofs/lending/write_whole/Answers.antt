use Rattle.std.proofs.Common.{◌≡◌, ℕ, List, length, ap, sym, arith, ◌∙◌}
use Rattle.page_lending.proofs.Written.{all_written}
use Rattle.merge_core.specs.Pmap.{bytes_in}
use Rattle.merge_core.proofs.FrameLemmas.{bytes_found}
use Rattle.merge_core.proofs.lending.write_whole.Goals as goal

pub learn-requires-clause-code : goal.learn-requires-clause-code
learn-requires-clause-code g c κs within =
    let frames = c.args.held.now.frames in
    let page : List ℕ = c.args.bytes.now in
    let known = rw c.in-Some.is at c.requires.known in
    let own : length (bytes_in frames c.args.mpn) ≡ 4096 = ap length (bytes_found frames c.args.mpn c.bytes-own.result.now c.bytes-own.ensures.value) ∙ c.bytes-own.ensures.page.0 in
    let whole : bytes_in c.write.new.held.frames c.args.mpn ≡ page = c.write.ensures.bytes ∙ all_written (bytes_in frames c.args.mpn) page (omega (arith, own, c.told-bytes)) in
    known ∙ sym (ap (g.H.HashFunction.hash_of c.args.page.salt) whole)
