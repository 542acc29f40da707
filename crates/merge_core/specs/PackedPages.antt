-- A page's entry in 8 bytes.
use Rattle.std.specs.Prelude.{ℕ, ◌/◌, ◌%◌, ◌==◌, List, map, Some, None, if◌then◌else◌}
use Rattle.merge_core.specs.declared.held.PageEntry.{PageEntry}
use Rattle.merge_core.specs.declared.held.PageEntry.TheVariants.{Unmapped, Private, Shared}
use Rattle.merge_core.specs.declared.entries.PackedPage.{PackedPage}

-- the entry of this kind, with this frame and this hint
abbrev pub entry_of : ℕ → ℕ → ℕ → PageEntry
entry_of kind mpn hint =
    if kind == 0 then Unmapped
    else (if kind == 1 then Private mpn None
    else (if kind == 2 then Private mpn (Some hint)
    else Shared mpn))

abbrev pub unpacked : PackedPage → PageEntry
unpacked p = entry_of (p.word % 4) (p.word / 4) p.hint

abbrev pub entries_in : List PackedPage → List PageEntry
entries_in pages = map unpacked pages

-- the frame of an entry, 0 if it has none
abbrev pub mpn_in : PageEntry → ℕ
mpn_in Unmapped = 0
mpn_in (Private mpn hint) = mpn
mpn_in (Shared mpn) = mpn
