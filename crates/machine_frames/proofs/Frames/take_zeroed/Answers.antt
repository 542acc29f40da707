use Rattle.std.proofs.Common.{ap, refl, arith, length, true≢false, heap_items}
use Rattle.page_model.specs.Pages.{blank}
use Rattle.machine_frames.specs.PageLists.{PageList}
use Rattle.machine_frames.proofs.Places.{length-frames_of, again, first_at, all_taken, not_all_taken, is_full, is_below}
use Rattle.machine_frames.proofs.Frames.take_zeroed.Goals as goal

pub clear-requires : goal.clear-requires
clear-requires g c =
    let i = c.self.inside in
    let a = again (heap_items i.free) (heap_items c.pop.new.self) i.pages c.in-Some.field-0.0 c.self.invariant.0 c.in-Some.ensures.permutation c.in-Some.ensures.heap_order in
    a.opened

pub invariant_of-self : goal.invariant_of-self
invariant_of-self g c =
    let i = c.self.inside in
    let a = again (heap_items i.free) (heap_items c.pop.new.self) i.pages c.in-Some.field-0.0 c.self.invariant.0 c.in-Some.ensures.permutation c.in-Some.ensures.heap_order in
    let after = a.after blank in
    (rw c.clear.ensures after.sound, omega (arith, c.self.invariant.1, c.pop.ensures.capacity, ap (λ (l : PageList). l.room) c.clear.ensures))

pub returns-in-Some-clause-full : goal.returns-in-Some-clause-full
returns-in-Some-clause-full g c =
    let i = c.self.inside in
    let a = again (heap_items i.free) (heap_items c.pop.new.self) i.pages c.in-Some.field-0.0 c.self.invariant.0 c.in-Some.ensures.permutation c.in-Some.ensures.heap_order in
    (λ e. absurd (true≢false e), λ e. absurd (not_all_taken (heap_items i.free) i.pages c.in-Some.field-0.0 a.within a.was_free (rw (← c.self.view_is) at e)))

pub returns-in-Some-clause-free : goal.returns-in-Some-clause-free
returns-in-Some-clause-free g c =
    let i = c.self.inside in
    let a = again (heap_items i.free) (heap_items c.pop.new.self) i.pages c.in-Some.field-0.0 c.self.invariant.0 c.in-Some.ensures.permutation c.in-Some.ensures.heap_order in
    rw (← c.self.view_is) (omega (arith, a.within, length-frames_of (heap_items i.free) i.pages), a.was_free)

pub returns-in-Some-clause-lowest : goal.returns-in-Some-clause-lowest
returns-in-Some-clause-lowest g c =
    let i = c.self.inside in
    let a = again (heap_items i.free) (heap_items c.pop.new.self) i.pages c.in-Some.field-0.0 c.self.invariant.0 c.in-Some.ensures.permutation c.in-Some.ensures.heap_order in
    rw (← c.self.view_is) a.lowest

pub returns-in-Some-clause-taken : goal.returns-in-Some-clause-taken
returns-in-Some-clause-taken g c =
    let i = c.self.inside in
    let a = again (heap_items i.free) (heap_items c.pop.new.self) i.pages c.in-Some.field-0.0 c.self.invariant.0 c.in-Some.ensures.permutation c.in-Some.ensures.heap_order in
    let after = a.after blank in
    rw (← c.self.view_is, c.clear.ensures) after.is

pub returns-then-is_full-clause-full : goal.returns-then-is_full-clause-full
returns-then-is_full-clause-full g c =
    let i = c.self.inside in
    let all = all_taken (heap_items i.free) i.pages c.self.invariant.0 (is_full (length i.pages.pages) i.pages.room c.if-is_full.ensures) (omega (arith, c.in_default.ensures.none, i.free.data.ok.0)) in
    (λ _. rw (← c.self.view_is) all, λ _. refl)

pub invariant_of-self-2 : goal.invariant_of-self-2
invariant_of-self-2 g c =
    let i = c.self.inside in
    let a = first_at (heap_items i.free) i.pages c.add_zeroed.result (heap_items c.pop.new.self) c.add_zeroed.new.self blank c.self.invariant.0
    c.add_zeroed.ensures.value (is_below (length i.pages.pages) i.pages.room c.self.invariant.0.few c.if-is_full.ensures)
    (omega (arith, c.in_default.ensures.none, i.free.data.ok.0)) c.in_default.ensures.unchanged.0 c.add_zeroed.ensures.more in
    (a.after.sound, omega (arith, c.self.invariant.1, c.pop.ensures.capacity, ap (λ (l : PageList). l.room) c.add_zeroed.ensures.more))

pub returns-clause-full : goal.returns-clause-full
returns-clause-full g c =
    let i = c.self.inside in
    let a = first_at (heap_items i.free) i.pages c.add_zeroed.result (heap_items c.pop.new.self) c.add_zeroed.new.self blank c.self.invariant.0
    c.add_zeroed.ensures.value (is_below (length i.pages.pages) i.pages.room c.self.invariant.0.few c.if-is_full.ensures)
    (omega (arith, c.in_default.ensures.none, i.free.data.ok.0)) c.in_default.ensures.unchanged.0 c.add_zeroed.ensures.more in
    (λ e. absurd (true≢false e), λ e. absurd (not_all_taken (heap_items i.free) i.pages c.add_zeroed.result a.within a.was_free (rw (← c.self.view_is) at e)))

pub returns-clause-free : goal.returns-clause-free
returns-clause-free g c =
    let i = c.self.inside in
    let a = first_at (heap_items i.free) i.pages c.add_zeroed.result (heap_items c.pop.new.self) c.add_zeroed.new.self blank c.self.invariant.0
    c.add_zeroed.ensures.value (is_below (length i.pages.pages) i.pages.room c.self.invariant.0.few c.if-is_full.ensures)
    (omega (arith, c.in_default.ensures.none, i.free.data.ok.0)) c.in_default.ensures.unchanged.0 c.add_zeroed.ensures.more in
    rw (← c.self.view_is) (omega (arith, a.within, length-frames_of (heap_items i.free) i.pages), a.was_free)

pub returns-clause-lowest : goal.returns-clause-lowest
returns-clause-lowest g c =
    let i = c.self.inside in
    let a = first_at (heap_items i.free) i.pages c.add_zeroed.result (heap_items c.pop.new.self) c.add_zeroed.new.self blank c.self.invariant.0
    c.add_zeroed.ensures.value (is_below (length i.pages.pages) i.pages.room c.self.invariant.0.few c.if-is_full.ensures)
    (omega (arith, c.in_default.ensures.none, i.free.data.ok.0)) c.in_default.ensures.unchanged.0 c.add_zeroed.ensures.more in rw (← c.self.view_is) a.lowest

pub returns-clause-taken : goal.returns-clause-taken
returns-clause-taken g c =
    let i = c.self.inside in
    let a = first_at (heap_items i.free) i.pages c.add_zeroed.result (heap_items c.pop.new.self) c.add_zeroed.new.self blank c.self.invariant.0
    c.add_zeroed.ensures.value (is_below (length i.pages.pages) i.pages.room c.self.invariant.0.few c.if-is_full.ensures)
    (omega (arith, c.in_default.ensures.none, i.free.data.ok.0)) c.in_default.ensures.unchanged.0 c.add_zeroed.ensures.more in
    rw (← c.self.view_is) a.after.is
