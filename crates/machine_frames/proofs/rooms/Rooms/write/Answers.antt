use Rattle.std.proofs.Common.{◌≡◌, ◌<◌, ◌≤◌, ℕ, List, [], length, arith, ap, sym, ◌∙◌}
use Rattle.std.proofs.lemmas.List.{get_or_default}
use Rattle.core.specs.Mem.Slots.{slots_items}
use Rattle.page_model.specs.Pages.{written}
use Rattle.machine_frames.specs.PageLists.{page_in, with_page}
use Rattle.machine_frames.proofs.FirstRooms.{below, in_room, rewritten}
use Rattle.machine_frames.proofs.rooms.Rooms.write.Goals as goal

pub returns : goal.returns
returns c =
    let i = c.self.inside in
    let rooms : List (List ℕ) = slots_items i.memory.slots in
    let list = c.args.self.now in
    let n = c.args.number in
    let few : i.len ≤ length rooms = omega (arith, c.self.invariant.0, i.memory.slots.ok.0) in
    let there : n < length rooms = omega (arith, few, below rooms i.len list c.self.view_is few n c.requires.page) in
    let was : c.get_mut-page.result.now ≡ page_in list n =
    c.get_mut-page.ensures.value ∙ get_or_default rooms n c.get_mut-page.result.now [] there ∙ sym (in_room rooms i.len list c.self.view_is few n c.requires.page) in
    rewritten rooms i.len list c.self.view_is few n c.requires.page c.write_bytes.new.page
    ∙ ap (λ (page : List ℕ). with_page list n page) (c.write_bytes.ensures ∙ ap (λ (page : List ℕ). written page c.args.at c.args.bytes.now) was)
