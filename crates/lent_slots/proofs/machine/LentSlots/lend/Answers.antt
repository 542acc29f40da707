use Rattle.std.proofs.Common.{◌≡◌, ◌-◌, ◌≤◌, Some, None, refl, ap, sym, ◌∙◌, arith}
use Rattle.std.specs.Prelude.{slice_get, slice_index_or}
use Rattle.std.proofs.lemmas.Option.{get_or_from_slice_get}
use Rattle.page_model.specs.declared.limits.TheConstants.{MAX_PAGES}
use Rattle.lent_slots.specs.Slots.{HasFree}
use Rattle.lent_slots.specs.Tags.{slots_of, next_free, chain}
use Rattle.lent_slots.proofs.SlotLists.{got_within, got_holding}
use Rattle.lent_slots.proofs.Tags.{chain_first}
use Rattle.lent_slots.proofs.Turns.{begins_free, begins_there, begins_few, turned_lent, turned_back}
use Rattle.lent_slots.proofs.Lends.{lends_page, same_view}
use Rattle.lent_slots.proofs.Bytes.{bytes_by_lend}
use Rattle.lent_slots.proofs.Noted.{noted_more, room_noted}
use Rattle.lent_slots.proofs.machine.LentSlots.lend.Goals as goal

pub hold-requires-clause-free : goal.hold-requires-clause-free
hold-requires-clause-free g c κs within =
    let m = c.self.inside in
    begins_free m.core m.tags m.first_free m.free m.counts c.self.invariant.0 (omega (arith, c.if-self-eq0.false))

pub get-requires : goal.get-requires
get-requires g c =
    let m = c.self.inside in
    begins_there m.core m.tags m.first_free m.free m.counts c.self.invariant.0 (omega (arith, c.if-self-eq0.false))

pub next_free-self-inside-requires : goal.next_free-self-inside-requires
next_free-self-inside-requires g c =
    let m = c.self.inside in
    begins_few m.core m.tags m.first_free m.free m.counts c.self.invariant.0 (omega (arith, c.if-self-eq0.false))

pub set-requires : goal.set-requires
set-requires g c =
    let m = c.self.inside in
    begins_there m.core m.tags m.first_free m.free m.counts c.self.invariant.0 (omega (arith, c.if-self-eq0.false))

pub note_more-requires : goal.note_more-requires
note_more-requires g c =
    let m = c.self.inside in
    record { room = room_noted (slots_of m.core.pmap m.tags) m.clients.items c.args.client MAX_PAGES c.self.invariant.1 c.self.invariant.0.few.0 }

pub invariant_of-self : goal.invariant_of-self
invariant_of-self g c =
    let m = c.self.inside in
    let now = c.in-None.ensures.slots 0 in (
      turned_back m.core c.hold.new.core m.tags m.first_free m.free m.counts c.self.invariant.0 now (c.in-None.ensures.fits 0) c.in-None.ensures.frames,
      rw now c.self.invariant.1,
    )

pub invariant_of-self-in-Some : goal.invariant_of-self-in-Some
invariant_of-self-in-Some g c =
    let m = c.self.inside in
    let slots = slots_of m.core.pmap m.tags in
    let h = c.in-Some in
    let some : 1 ≤ m.free = omega (arith, c.if-self-eq0.false) in
    let free : slice_get slots m.first_free ≡ Some None = begins_free m.core m.tags m.first_free m.free m.counts c.self.invariant.0 some in
    let there = got_within slots m.first_free None free in
    let second : c.next_free-self-inside.result ≡ next_free m.first_free (slice_index_or m.tags m.first_free 0) =
    c.next_free-self-inside.ensures ∙ ap (next_free m.first_free) (sym (get_or_from_slice_get m.tags m.first_free c.get.result 0 c.get.ensures)) in
    let now = h.ensures.slots c.args.client in
    rw (c.set.ensures, c.add_sharer-sharers.ensures.counts, c.note_more.ensures) (
      turned_lent m.core c.hold.new.core m.tags m.first_free m.free c.next_free-self-inside.result (m.free - 1) c.args.client h.frame m.counts c.args.page.now c.self.invariant.0
          some second refl now (h.ensures.fits c.args.client) h.ensures.frames h.ensures.within h.ensures.spare,
      rw now (noted_more slots m.clients.items c.args.client m.first_free h.frame c.self.invariant.1 there (got_holding slots m.first_free None free)),
    )

pub returns-in-Some : goal.returns-in-Some
returns-in-Some g c =
    let m = c.self.inside in
    let slots = slots_of m.core.pmap m.tags in
    let h = c.in-Some in
    let some : 1 ≤ m.free = omega (arith, c.if-self-eq0.false) in
    let begins = chain_first m.tags m.first_free m.free some in
    let now = ap (slots_of c.hold.new.core.pmap) c.set.ensures ∙ h.ensures.slots c.args.client in
    let lends = lends_page m.core c.hold.new.core slots (slots_of c.hold.new.core.pmap c.set.new.self) (chain m.tags m.first_free m.free) _ m.counts c.args.client m.first_free h.frame
    c.add_sharer-sharers.result c.args.page.now c.self.invariant.0 begins now h.ensures.frames h.ensures.within h.ensures.held h.ensures.spare c.add_sharer-sharers.ensures.count in
    record {
      lends = rw (← c.self.view_is) lends;
      bytes = rw (← c.self.view_is) (bytes_by_lend c.args.client c.args.page.now (record { ppn = m.first_free; frame = h.frame; sharers = c.add_sharer-sharers.result }) _ _
          (rw (← c.self.view_is) at c.frames.ensures.slots) lends);
    }

pub returns-in-None-clause-lends : goal.returns-in-None-clause-lends
returns-in-None-clause-lends g c =
    let m = c.self.inside in
    let slots = slots_of m.core.pmap m.tags in
    let some : 1 ≤ m.free = omega (arith, c.if-self-eq0.false) in
    let free : slice_get slots m.first_free ≡ Some None = begins_free m.core m.tags m.first_free m.free m.counts c.self.invariant.0 some in
    let was : HasFree slots = record { ppn = m.first_free; free = free } in
    rw (← c.self.view_is) ((was, c.in-None.ensures.spent), same_view (slots_of c.hold.new.core.pmap m.tags) slots c.hold.new.core.frames m.core.frames (c.in-None.ensures.slots 0) c.in-None.ensures.frames)
