use Rattle.std.proofs.Common.{◌≡◌, Some, None, sym, ◌∙◌}
use Rattle.share_table.specs.TableMaps.{SharedFrame, shared_at}
use Rattle.merge_core.specs.Pmap.{bytes_in, known_at}
use Rattle.merge_core.specs.View.{pmap_of, guests_of, notes_of}
use Rattle.merge_core.proofs.Pairing.{no_content}
use Rattle.merge_core.proofs.Matches.{no_under, not_shared, under_any}
use Rattle.merge_core.proofs.Hints.{entry_of, no_entry, unlike}
use Rattle.merge_core.proofs.Arms.{matched_offered, matched_ineligible}
use Rattle.merge_core.proofs.offer.find_match.Goals as goal

pub returns-in-None-clause-step : goal.returns-in-None-clause-step
returns-in-None-clause-step g c =
    let held = c.args.held.now in
    let shares = c.requires.whole.ties.shares in
    let absent : shared_at held.table c.args.code ≡ None = no_entry (shared_at held.table c.args.code) (sym c.in-None.is ∙ c.find_shared.ensures) in
    c.offer.ensures.step
    ∙ sym (matched_offered g.H.HashFunction.hash_of (guests_of held) c.args.page.guest c.args.page.ppn c.args.page.salt
    (bytes_in held.frames c.args.mpn) c.args.code
    (no_content g.H.HashFunction.hash_of (pmap_of held) held.frames (notes_of held) held.table.shared c.args.page.salt c.args.code
    (bytes_in held.frames c.args.mpn) shares absent (sym c.requires.code))
    (no_under g.H.HashFunction.hash_of (pmap_of held) held.frames (notes_of held) held.table.shared c.args.code shares absent))

pub returns-else-same_content-clause-step : goal.returns-else-same_content-clause-step
returns-else-same_content-clause-step g c =
    let held = c.args.held.now in
    let t = c.requires.whole.ties in
    let f : SharedFrame = record { mpn = c.in-Some.theirs; count = c.in-Some.field-0-1 } in
    let found : shared_at held.table c.args.code ≡ Some f = entry_of (shared_at held.table c.args.code) c.in-Some.theirs c.in-Some.field-0-1 (sym c.in-Some.is ∙ c.find_shared.ensures) in
    let differ = unlike (known_at (notes_of held) c.in-Some.theirs).salt c.args.page.salt (bytes_in held.frames c.in-Some.theirs) (bytes_in held.frames c.args.mpn) (sym c.same_content.ensures ∙ c.if-same_content.false) in
    sym (matched_ineligible g.H.HashFunction.hash_of (guests_of held) c.args.page.guest c.args.page.ppn c.args.page.salt
    (bytes_in held.frames c.args.mpn) c.args.code
    (not_shared g.H.HashFunction.hash_of (pmap_of held) held.frames (notes_of held) held.table.shared c.args.page.salt c.args.code
    (bytes_in held.frames c.args.mpn) f t.noted t.shares found (sym c.requires.code) differ)
    (under_any g.H.HashFunction.hash_of (pmap_of held) held.frames (notes_of held) held.table.shared c.args.code f t.shares found))
