use Rattle.page_model.specs.declared.verdict.Verdict.TheVariants as v
use Rattle.merge_core.proofs.Staying.{other_page, moved_to, one_moves, keep_move, move_move, joins_another, frame_is}
use Rattle.page_model.specs.Pages.{Private, Shared, Unmapped}
use Rattle.std.proofs.Common.{◌≢◌, None, ap, sym, ◌∙◌, ◌≡◌, ℕ, refl, length, Some}
use Rattle.page_model.proofs.Places.{again}
use Rattle.share_table.specs.TableMaps.{SharedFrame, count_at}
use Rattle.merge_core.specs.Pmap.{bytes_in}
use Rattle.merge_core.specs.View.{pmap_of, guests_of, notes_of}
use Rattle.merge_core.proofs.FrameLemmas.{bytes_other}
use Rattle.merge_core.proofs.Matches.{same_any}
use Rattle.merge_core.proofs.Arms.{matched_joined, joined_outcome}
use Rattle.merge_core.proofs.offer.join_match.Goals as goal

pub join-requires-clause-found : goal.join-requires-clause-found
join-requires-clause-found g c κs live = rw (c.unmap.ensures.table, c.clear_hint.ensures.shared) c.requires.found

pub join-requires-clause-salt : goal.join-requires-clause-salt
join-requires-clause-salt g c κs live = rw (c.unmap.ensures.notes, c.clear_hint.ensures.notes) c.requires.salt

pub returns-clause-step : goal.returns-clause-step
returns-clause-step g c =
    let held = c.args.held.now in
    let f : SharedFrame = record { mpn = c.args.theirs; count = count_at held.table c.args.code } in
    let differ : c.args.theirs ≢ c.args.mpn = c.requires.whole.ties.shares.apart c.args.page.guest c.args.page.ppn c.args.page.salt c.args.mpn c.args.kept c.args.code f c.requires.page c.requires.found in
    let guests = rw (c.unmap.ensures.guests, c.clear_hint.ensures.guests, c.unmap.ensures.frames, c.clear_hint.ensures.frames, bytes_other held.frames c.args.mpn c.args.theirs None differ, c.requires.bytes) at c.join.ensures.guests in
    let count = rw (c.unmap.ensures.frames, c.clear_hint.ensures.frames, bytes_other held.frames c.args.mpn c.args.theirs None differ, c.requires.bytes) at c.join.ensures.count in
    let any = rw (c.requires.salt, c.requires.bytes) at (same_any g.H.HashFunction.hash_of (pmap_of held) held.frames (notes_of held) held.table.shared c.args.code f c.requires.whole.ties.shares c.requires.found) in
    joined_outcome c.join.result c.args.page.salt (bytes_in held.frames c.args.mpn) _ _ (guests ∙ again _ c.args.page.guest c.args.page.ppn _ _ ∙ again (guests_of held) c.args.page.guest c.args.page.ppn _ _) count
    ∙ sym (matched_joined g.H.HashFunction.hash_of (guests_of held) c.args.page.guest c.args.page.ppn c.args.page.salt (bytes_in held.frames c.args.mpn) c.args.code any)

pub returns-clause-served : goal.returns-clause-served
returns-clause-served g c =
    let held = c.args.held.now in
    let a : ℕ = c.args.page.guest in
    let b : ℕ = c.args.page.ppn in
    let t = c.requires.whole.ties in
    let f : SharedFrame = record { mpn = c.args.theirs; count = count_at held.table c.args.code } in
    let differ : c.args.theirs ≢ c.args.mpn = t.shares.apart a b c.args.page.salt c.args.mpn c.args.kept c.args.code f c.requires.page c.requires.found in
    let o = t.owned c.args.theirs (t.shares.well c.args.code f c.requires.found).taken in
    let apart : o.guest ≡ a → o.ppn ≡ b → ⊥ = other_page (pmap_of held) o.guest o.ppn a b c.args.theirs c.args.mpn (frame_is (pmap_of held) o.guest o.ppn o.salt o.slot o.at ∙ o.frame) (frame_is (pmap_of held) a b c.args.page.salt (Private c.args.mpn c.args.kept) c.requires.page) differ in
    let leaves = moved_to _ _ a b c.args.page.salt Unmapped c.unmap.ensures.pmap c.unmap.ensures.page in
    let joins = one_moves _ a b c.args.page.salt Unmapped (Shared c.args.theirs) c.unmap.ensures.page in
    let all = keep_move a b (Some c.args.theirs) (pmap_of held) _ _ c.clear_hint.ensures.stay (move_move a b None (Some c.args.theirs) _ _ _ leaves joins) in
    record {
      whole = c.join.ensures.whole;
      total = ap length c.join.ensures.frames ∙ c.unmap.ensures.total ∙ ap length c.clear_hint.ensures.frames;
      stay = rw c.join.ensures.pmap (joins_another held.frames a b o.guest o.ppn c.args.theirs (v.Joined c.join.result) (pmap_of held) _ refl apart (frame_is (pmap_of held) o.guest o.ppn o.salt o.slot o.at ∙ o.frame) all);
    }
