use Rattle.std.proofs.Common.{◌∙◌, List, set, ap}
use Rattle.std.proofs.lemmas.List.{map-set}
use Rattle.merge_core.specs.Pmap.{Known}
use Rattle.merge_core.specs.Noted.{known_of}
use Rattle.merge_core.proofs.notes.set_note.Goals as goal

pub returns-clause-notes : goal.returns-clause-notes
returns-clause-notes g c = map-set known_of c.lengthen.new.notes.items c.args.mpn c.args.note ∙ ap (λ (xs : List Known). set xs c.args.mpn (known_of c.args.note)) c.lengthen.ensures.notes
