-- Frames are few enough for the packed entries of pages.
use Rattle.std.proofs.Common.{◌≡◌, ℕ, ◌<◌, List, Some, arith}
use Rattle.std.specs.Prelude.{◌^◌}
use Rattle.page_model.specs.Pages.{SlotOf, page_at}
use Rattle.share_table.specs.TableMaps.{SharedFrame, shared_at}
use Rattle.merge_core.specs.declared.held.Held.{Held}
use Rattle.merge_core.specs.Pmap.{frame_of}
use Rattle.merge_core.specs.View.{pmap_of, Whole}
use Rattle.merge_core.proofs.FrameLemmas.{taken_within}

-- the frame of a page
pub page_fits : {H A : Type 0} (hash : ℕ → List ℕ → ℕ) (held : Held H A) (a b salt m : ℕ) (slot : SlotOf ℕ) → Whole hash held → page_at (pmap_of held) a b ≡ Some (salt, slot) → frame_of slot ≡ Some m → m < 2 ^ 30
page_fits hash held a b salt m slot whole at has = omega (arith, whole.total, taken_within held.frames m (whole.ties.placed.taken a b salt slot m at has))

-- a shared frame of the table
pub shared_fits : {H A : Type 0} (hash : ℕ → List ℕ → ℕ) (held : Held H A) (code : ℕ) (f : SharedFrame) → Whole hash held → shared_at held.table code ≡ Some f → f.mpn < 2 ^ 30
shared_fits hash held code f whole found = omega (arith, whole.total, taken_within held.frames f.mpn (whole.ties.shares.well code f found).taken)
