use Rattle.std.proofs.Common.{◌≡◌, ◌∙◌, ap, arith, heap_items}
use Rattle.machine_frames.specs.PageLists.{PageList}
use Rattle.machine_frames.specs.FrameMap.{no_frames}
use Rattle.machine_frames.proofs.Places.{fresh}
use Rattle.machine_frames.proofs.Frames.in_region.Goals as goal

pub invariant_of-result : goal.invariant_of-result
invariant_of-result g c =
    let pages = c.in_memory-pages.result in
    let room : pages.room ≡ c.args.count = omega (arith, ap (λ (l : PageList). l.room) c.in_memory-pages.ensures, c.len.ensures, c.if-len-count.false) in
    let made = fresh (heap_items c.in_ok-free.free) pages c.in_ok-free.ensures.items c.in_ok-free.ensures.heap_order (ap (λ (l : PageList). l.pages) c.in_memory-pages.ensures) (omega (arith, room, c.if-count-gt-MAX_FRAMES.false)) in
    (made.sound, omega (arith, c.in_ok-free.ensures.capacity, room))

pub returns-clause-ok : goal.returns-clause-ok
returns-clause-ok g c =
    let pages = c.in_memory-pages.result in
    let room : pages.room ≡ c.args.count = omega (arith, ap (λ (l : PageList). l.room) c.in_memory-pages.ensures, c.len.ensures, c.if-len-count.false) in
    let made = fresh (heap_items c.in_ok-free.free) pages c.in_ok-free.ensures.items c.in_ok-free.ensures.heap_order (ap (λ (l : PageList). l.pages) c.in_memory-pages.ensures) (omega (arith, room, c.if-count-gt-MAX_FRAMES.false)) in
    made.is ∙ ap no_frames room
