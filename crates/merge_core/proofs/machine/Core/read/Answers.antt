use Rattle.std.proofs.Common.{◌≡◌, ℕ, List, Option, IsSome, ap, sym, ◌∙◌, subst}
use Rattle.std.specs.Prelude.{slice_index}
use Rattle.page_model.specs.Pages.{page_at}
use Rattle.page_model.specs.Stored.{byte_in, text_at}
use Rattle.machine_frames.specs.FrameMap.{FrameMap, IsTaken}
use Rattle.merge_core.specs.Pmap.{bytes_in}
use Rattle.merge_core.specs.Shown.{Shown, state_of}
use Rattle.merge_core.proofs.FrameLemmas.{bytes_are}
use Rattle.merge_core.proofs.Texts.{unmapped_reads, text_there}
use Rattle.merge_core.proofs.machine.Core.read.Goals as goal

pub returns-in-None : goal.returns-in-None
returns-in-None g c = sym (unmapped_reads (page_at (state_of c.args.self.now).guests c.args.guest c.args.ppn) c.args.at c.requires.at c.in-None.ensures.mapped)

pub returns-in-Some : goal.returns-in-Some
returns-in-Some g c =
    let now = c.args.self.now in
    let text = c.in-Some.ensures.bytes in
    let there : IsSome (text_at (state_of now).guests c.args.guest c.args.ppn) = text_there (page_at (state_of now).guests c.args.guest c.args.ppn) c.requires.page in
    let taken : IsTaken now.frames c.in-Some.mpn = let P : Option (List ℕ) → Type 0 = λ o. IsSome o in subst P (sym text) there in
    let same : c.self.inside.held.frames ≡ now.frames = ap (λ (s : Shown). s.frames) c.self.view_is in
    ap (λ (xs : List ℕ). slice_index xs c.args.at) (c.bytes_at.ensures.bytes ∙ ap (λ (f : FrameMap). bytes_in f c.in-Some.mpn) same)
    ∙ ap (byte_in c.args.at) (sym (bytes_are now.frames c.in-Some.mpn taken) ∙ text)
