use Rattle.std.proofs.Common.{◌∙◌, ℕ, Some, ap, set}
use Rattle.std.specs.Int.{w64, from_le_bytes}
use Rattle.std.proofs.lemmas.Nat.{from_le_bytes-to_le_bytes_8}
use Rattle.merge_core.specs.Pmap.{Known}
use Rattle.merge_core.specs.Noted.{notes_on}
use Rattle.merge_core.proofs.NotedFrames.{noted}
use Rattle.merge_core.proofs.notes.Notes.learn.Goals as goal

pub returns : goal.returns
returns g c =
    let frames = c.self.inside.frames in
    let notes = c.self.inside.notes.items in
    let read = ap (from_le_bytes w64) c.to_le_bytes.ensures ∙ from_le_bytes-to_le_bytes_8 c.args.code c.ranges.code.fits in
    let learnt : ℕ → Known = λ code. record { salt = c.args.salt; hash = Some code } in
    record { notes = rw (← c.self.view_is) (noted frames notes c.set_note.new.notes.items c.args.mpn _ c.self.invariant.0 (rw (← c.self.view_is) at c.requires.mpn) c.set_note.ensures.notes c.set_note.ensures.size ∙ ap (λ (code : ℕ). set (notes_on frames notes) c.args.mpn (learnt code)) read) }
