use Rattle.merge_core.proofs.Staying.{moved_to, moves_nowhere, frame_is}
use Rattle.std.proofs.Common.{sym, Some, None}
use Rattle.page_model.specs.Pages.{Private}
use Rattle.page_model.proofs.Places.{unchanged}
use Rattle.merge_core.specs.Pmap.{bytes_in}
use Rattle.merge_core.specs.View.{pmap_of, guests_of}
use Rattle.merge_core.proofs.Views.{page_in_is}
use Rattle.merge_core.proofs.offer.settle_hint.Goals as goal

pub returns-in-None-clause-guests : goal.returns-in-None-clause-guests
returns-in-None-clause-guests g c =
    let held = c.args.held.now in
    let page = rw c.in-None.is at c.requires.page in
    sym (unchanged (guests_of held) c.args.page.guest c.args.page.ppn c.args.page.salt (Private (bytes_in held.frames c.args.mpn) None) (page_in_is held.frames (pmap_of held) c.args.page.guest c.args.page.ppn c.args.page.salt (Private c.args.mpn None) page))

pub returns-then-own-key-clause-guests : goal.returns-then-own-key-clause-guests
returns-then-own-key-clause-guests g c =
    let held = c.args.held.now in
    let page = rw c.in-Some.is at c.requires.page in
    sym (unchanged (guests_of held) c.args.page.guest c.args.page.ppn c.args.page.salt (Private (bytes_in held.frames c.args.mpn) (Some c.in-Some.own)) (page_in_is held.frames (pmap_of held) c.args.page.guest c.args.page.ppn c.args.page.salt (Private c.args.mpn (Some c.in-Some.own)) page))

pub returns-else-own-key-clause-stay : goal.returns-else-own-key-clause-stay
returns-else-own-key-clause-stay g c =
    let held = c.args.held.now in
    let one = moved_to (pmap_of held) _ c.args.page.guest c.args.page.ppn c.args.page.salt (Private c.args.mpn None) c.drop_hint.ensures.pmap c.drop_hint.ensures.page in
    moves_nowhere c.args.page.guest c.args.page.ppn (Some c.args.mpn) (pmap_of held) _ one (frame_is (pmap_of held) c.args.page.guest c.args.page.ppn c.args.page.salt (Private c.args.mpn c.args.hint) c.requires.page)
