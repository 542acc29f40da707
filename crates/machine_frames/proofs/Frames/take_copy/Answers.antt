use Rattle.std.proofs.Common.{ap, refl, arith, length, true≢false, heap_items}
use Rattle.machine_frames.specs.PageLists.{PageList, page_in}
use Rattle.machine_frames.proofs.Places.{length-frames_of, again, first_at, all_taken, not_all_taken, is_full, is_below, known}
use Rattle.machine_frames.proofs.Frames.take_copy.Goals as goal

pub copy-requires-clause-from_page : goal.copy-requires-clause-from_page
copy-requires-clause-from_page g c =
    let i = c.self.inside in
    let k = known (heap_items i.free) i.pages c.args.mpn c.self.invariant.0 (rw c.self.view_is c.requires) in
    k.opened

pub copy-requires-clause-to_page : goal.copy-requires-clause-to_page
copy-requires-clause-to_page g c =
    let i = c.self.inside in
    let a = again (heap_items i.free) (heap_items c.pop.new.self) i.pages c.in-Some.field-0.0 c.self.invariant.0 c.in-Some.ensures.permutation c.in-Some.ensures.heap_order in
    a.opened

pub add_copy-requires-clause-from_page : goal.add_copy-requires-clause-from_page
add_copy-requires-clause-from_page g c =
    let i = c.self.inside in
    let k = known (heap_items i.free) i.pages c.args.mpn c.self.invariant.0 (rw c.self.view_is c.requires) in
    k.opened

pub invariant_of-self : goal.invariant_of-self
invariant_of-self g c =
    let i = c.self.inside in
    let a = again (heap_items i.free) (heap_items c.pop.new.self) i.pages c.in-Some.field-0.0 c.self.invariant.0 c.in-Some.ensures.permutation c.in-Some.ensures.heap_order in
    let after = a.after (page_in i.pages c.args.mpn) in
    (rw c.copy.ensures after.sound, omega (arith, c.self.invariant.1, c.pop.ensures.capacity, ap (λ (l : PageList). l.room) c.copy.ensures))

pub returns-in-Some-clause-full : goal.returns-in-Some-clause-full
returns-in-Some-clause-full g c =
    let i = c.self.inside in
    let a = again (heap_items i.free) (heap_items c.pop.new.self) i.pages c.in-Some.field-0.0 c.self.invariant.0 c.in-Some.ensures.permutation c.in-Some.ensures.heap_order in
    (λ e. absurd (true≢false e), λ e. absurd (not_all_taken (heap_items i.free) i.pages c.in-Some.field-0.0 a.within a.was_free (rw (← c.self.view_is) at e)))

pub returns-in-Some-clause-free : goal.returns-in-Some-clause-free
returns-in-Some-clause-free g c =
    let i = c.self.inside in
    let a = again (heap_items i.free) (heap_items c.pop.new.self) i.pages c.in-Some.field-0.0 c.self.invariant.0 c.in-Some.ensures.permutation c.in-Some.ensures.heap_order in
    rw (← c.self.view_is) (omega (arith, a.within, length-frames_of (heap_items i.free) i.pages), a.was_free)

pub returns-in-Some-clause-lowest : goal.returns-in-Some-clause-lowest
returns-in-Some-clause-lowest g c =
    let i = c.self.inside in
    let a = again (heap_items i.free) (heap_items c.pop.new.self) i.pages c.in-Some.field-0.0 c.self.invariant.0 c.in-Some.ensures.permutation c.in-Some.ensures.heap_order in
    rw (← c.self.view_is) a.lowest

pub returns-in-Some-clause-taken : goal.returns-in-Some-clause-taken
returns-in-Some-clause-taken g c =
    let i = c.self.inside in
    let k = known (heap_items i.free) i.pages c.args.mpn c.self.invariant.0 (rw c.self.view_is c.requires) in
    let a = again (heap_items i.free) (heap_items c.pop.new.self) i.pages c.in-Some.field-0.0 c.self.invariant.0 c.in-Some.ensures.permutation c.in-Some.ensures.heap_order in
    let after = a.after (page_in i.pages c.args.mpn) in
    rw (← c.self.view_is, k.page, c.copy.ensures) after.is

pub returns-then-is_full-clause-full : goal.returns-then-is_full-clause-full
returns-then-is_full-clause-full g c =
    let i = c.self.inside in
    let all = all_taken (heap_items i.free) i.pages c.self.invariant.0 (is_full (length i.pages.pages) i.pages.room c.if-is_full.ensures) (omega (arith, c.in_default.ensures.none, i.free.data.ok.0)) in
    (λ _. rw (← c.self.view_is) all, λ _. refl)

pub invariant_of-self-2 : goal.invariant_of-self-2
invariant_of-self-2 g c =
    let i = c.self.inside in
    let a = first_at (heap_items i.free) i.pages c.add_copy.result (heap_items c.pop.new.self) c.add_copy.new.self
    (page_in i.pages c.args.mpn) c.self.invariant.0 c.add_copy.ensures.value
    (is_below (length i.pages.pages) i.pages.room c.self.invariant.0.few c.if-is_full.ensures) (omega (arith, c.in_default.ensures.none, i.free.data.ok.0)) c.in_default.ensures.unchanged.0 c.add_copy.ensures.more in
    (a.after.sound, omega (arith, c.self.invariant.1, c.pop.ensures.capacity, ap (λ (l : PageList). l.room) c.add_copy.ensures.more))

pub returns-clause-full : goal.returns-clause-full
returns-clause-full g c =
    let i = c.self.inside in
    let a = first_at (heap_items i.free) i.pages c.add_copy.result (heap_items c.pop.new.self) c.add_copy.new.self
    (page_in i.pages c.args.mpn) c.self.invariant.0 c.add_copy.ensures.value
    (is_below (length i.pages.pages) i.pages.room c.self.invariant.0.few c.if-is_full.ensures) (omega (arith, c.in_default.ensures.none, i.free.data.ok.0)) c.in_default.ensures.unchanged.0 c.add_copy.ensures.more in
    (λ e. absurd (true≢false e), λ e. absurd (not_all_taken (heap_items i.free) i.pages c.add_copy.result a.within a.was_free (rw (← c.self.view_is) at e)))

pub returns-clause-free : goal.returns-clause-free
returns-clause-free g c =
    let i = c.self.inside in
    let a = first_at (heap_items i.free) i.pages c.add_copy.result (heap_items c.pop.new.self) c.add_copy.new.self
    (page_in i.pages c.args.mpn) c.self.invariant.0 c.add_copy.ensures.value
    (is_below (length i.pages.pages) i.pages.room c.self.invariant.0.few c.if-is_full.ensures) (omega (arith, c.in_default.ensures.none, i.free.data.ok.0)) c.in_default.ensures.unchanged.0 c.add_copy.ensures.more in
    rw (← c.self.view_is) (omega (arith, a.within, length-frames_of (heap_items i.free) i.pages), a.was_free)

pub returns-clause-lowest : goal.returns-clause-lowest
returns-clause-lowest g c =
    let i = c.self.inside in
    let a = first_at (heap_items i.free) i.pages c.add_copy.result (heap_items c.pop.new.self) c.add_copy.new.self
    (page_in i.pages c.args.mpn) c.self.invariant.0 c.add_copy.ensures.value
    (is_below (length i.pages.pages) i.pages.room c.self.invariant.0.few c.if-is_full.ensures) (omega (arith, c.in_default.ensures.none, i.free.data.ok.0)) c.in_default.ensures.unchanged.0 c.add_copy.ensures.more in rw (← c.self.view_is) a.lowest

pub returns-clause-taken : goal.returns-clause-taken
returns-clause-taken g c =
    let i = c.self.inside in
    let k = known (heap_items i.free) i.pages c.args.mpn c.self.invariant.0 (rw c.self.view_is c.requires) in
    let a = first_at (heap_items i.free) i.pages c.add_copy.result (heap_items c.pop.new.self) c.add_copy.new.self
    (page_in i.pages c.args.mpn) c.self.invariant.0 c.add_copy.ensures.value
    (is_below (length i.pages.pages) i.pages.room c.self.invariant.0.few c.if-is_full.ensures) (omega (arith, c.in_default.ensures.none, i.free.data.ok.0)) c.in_default.ensures.unchanged.0 c.add_copy.ensures.more in
    rw (← c.self.view_is, k.page) a.after.is
