use Rattle.std.proofs.Common.{refl, None, ◌∙◌}
use Rattle.page_model.specs.Pages.{Private}
use Rattle.page_model.specs.declared.verdict.Verdict.TheVariants as v
use Rattle.merge_core.specs.View.{pmap_of}
use Rattle.merge_core.proofs.Staying.{moved_to, takes_free}
use Rattle.merge_core.proofs.serve.store_bytes.Goals as goal

pub returns-else-is_full-clause-served : goal.returns-else-is_full-clause-served
returns-else-is_full-clause-served g c =
    let held = c.args.held.now in
    let mpn = c.map_zeroed-mpn.result in
    let pmap = c.map_zeroed-mpn.ensures.pmap in
    let page = c.map_zeroed-mpn.ensures.page in
    let one = moved_to (pmap_of held) _ c.args.guest c.args.ppn c.in-Some.salt (Private mpn None) pmap page in
    record {
      whole = c.write.ensures.whole;
      total = c.write.ensures.total ∙ c.map_zeroed-mpn.ensures.total;
      stay = rw c.write.ensures.pmap (takes_free held.frames c.args.guest c.args.ppn mpn v.Mapped (pmap_of held) _ refl c.map_zeroed-mpn.ensures.free one);
    }
