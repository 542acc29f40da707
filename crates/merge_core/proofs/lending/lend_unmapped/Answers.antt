use Rattle.std.proofs.Common.{ℕ, List, None, refl, ap, sym, ◌∙◌}
use Rattle.page_model.specs.Pages.{Unmapped, Private}
use Rattle.page_model.specs.Steps.{sets}
use Rattle.page_model.specs.declared.verdict.Verdict.TheVariants as v
use Rattle.merge_core.specs.View.{pmap_of, guests_of}
use Rattle.merge_core.proofs.Lends.{lends_done, lends_nothing, stored_nowhere, stored_anew, over_zeros}
use Rattle.merge_core.proofs.Views.{page_in_is}
use Rattle.merge_core.proofs.lending.lend_unmapped.Goals as goal

pub returns-then-is_full-clause-lends : goal.returns-then-is_full-clause-lends
returns-then-is_full-clause-lends g c =
    let held = c.args.held.now in
    let a : ℕ = c.args.page.guest in
    let b : ℕ = c.args.page.ppn in
    let full = rw c.if-is_full.true at c.is_full.ensures.full in
    lends_nothing g.H.HashFunction.hash_of a b c.args.page.salt c.args.bytes.now held held Unmapped (page_in_is held.frames (pmap_of held) a b c.args.page.salt Unmapped c.requires.page) v.NoFrame
    (stored_nowhere _ (guests_of held) a b 0 c.args.bytes.now c.args.page.salt (sym full)) refl refl refl refl refl refl

pub returns-clause-lends : goal.returns-clause-lends
returns-clause-lends g c =
    let held = c.args.held.now in
    let a : ℕ = c.args.page.guest in
    let b : ℕ = c.args.page.ppn in
    let page : List ℕ = c.args.bytes.now in
    let room = rw c.if-is_full.false at c.is_full.ensures.full in
    let anew = stored_anew _ (guests_of held) a b 0 page c.args.page.salt (sym room) ∙ ap (λ (x : List ℕ). sets (guests_of held) a b (Private x None) v.Mapped) (over_zeros page c.told-bytes) in
    lends_done g.H.HashFunction.hash_of a b c.args.page.salt page held c.lend_new.new.held Unmapped (page_in_is held.frames (pmap_of held) a b c.args.page.salt Unmapped c.requires.page) page None v.Mapped c.lend_new.result
    anew refl c.lend_new.ensures.total c.lend_new.ensures.step c.lend_new.ensures.stay c.lend_new.ensures.freed (rw c.lend_new.ensures.freed (record {}))
