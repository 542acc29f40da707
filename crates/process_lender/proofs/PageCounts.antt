-- Counts of parts stay right where something is noted of one page.
use Rattle.std.proofs.Common.{◌≡◌, ℕ, List, length, sym, subst}
use Rattle.std.specs.Prelude.{slice_set}
use Rattle.page_holds.specs.Rows.{PageChanges}
use Rattle.window_pages.specs.Counted.{counts_then}
use Rattle.window_pages.specs.declared.counts.PartCounts.{PartCounts}
use Rattle.window_pages.specs.declared.page.WindowPage.{WindowPage}
use Rattle.window_tables.proofs.Counts.{one_counted}
use Rattle.window_tables.specs.Tables.{Counted, part_at}
use Rattle.process_lender.specs.Pages.{PageIsNoted}
use Rattle.process_lender.specs.declared.page_notice.PageNotice.{PageNotice}
use Rattle.process_lender.specs.declared.page_notice.PageNotice.TheVariants.{AskedAtOnce, Held, GivenBack}

counts_follow : (notice : PageNotice) (x y : WindowPage) (p q : PartCounts) → PageIsNoted notice x y p q → q ≡ counts_then x y p
counts_follow AskedAtOnce x y p q n = n.counts
counts_follow (Held was_held) x y p q n = n.counts
counts_follow (GivenBack is_zeros) x y p q n = n.counts

pub page_counted : (notice : PageNotice) (lead place : ℕ) (old new : List WindowPage) (parts parts_new : List PartCounts) →
    PageChanges (λ x y p q. PageIsNoted notice x y p q) lead place old new parts parts_new → Counted lead old parts → Counted lead new parts_new
page_counted notice lead place old new parts parts_new c k =
    let its : Counted lead (slice_set old place c.after) (slice_set parts (part_at lead place) (counts_then c.before c.after c.part)) =
    one_counted lead place old parts c.before c.after c.part c.is_there c.is_part k in
    let follows : Counted lead (slice_set old place c.after) (slice_set parts (part_at lead place) c.part_after) =
    subst (λ v. Counted lead (slice_set old place c.after) (slice_set parts (part_at lead place) v)) (sym (counts_follow notice c.before c.after c.part c.part_after c.becomes)) its in
    subst (λ v. Counted lead v parts_new) (sym c.changed) (subst (λ v. Counted lead (slice_set old place c.after) v) (sym c.follows) follows)
