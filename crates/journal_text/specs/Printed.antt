-- The lines that are written, without their line feeds.
use Rattle.std.specs.Prelude.{ℕ, true, false, List, ◌++◌, codes, decimal}
use Rattle.hex.specs.Hex.{encode_lower}
use Rattle.page_model.specs.Parts.{Totals}
use Rattle.page_model.specs.declared.verdict.Verdict.{Verdict}
use Rattle.page_model.specs.declared.verdict.Verdict.TheVariants as v
use Rattle.text_words.specs.Printed.{counted}

-- the words of a report, in three parts
unfoldable pub pages_words : Totals → List ℕ
pages_words r = counted (codes "entries ") r.entries ++ (counted (codes " mapped ") r.mapped ++ counted (codes " shared ") r.shared)

unfoldable pub saved_words : Totals → List ℕ
saved_words r = counted (codes " reclaimed ") r.reclaimed ++ counted (codes " hints ") r.hints

unfoldable pub frames_words : Totals → List ℕ
frames_words r = counted (codes " frames ") r.frames ++ saved_words r

abbrev pub report_words : Totals → List ℕ
report_words r = pages_words r ++ frames_words r

abbrev pub report_line : Totals → List ℕ
report_line r = codes "report " ++ report_words r

-- the words of a verdict
unfoldable pub verdict_words : Verdict → List ℕ
verdict_words v.NoPage = codes "no-page"
verdict_words v.Unmapped = codes "unmapped"
verdict_words v.Already = codes "already"
verdict_words (v.Joined n) = codes "joined " ++ decimal n
verdict_words v.Paired = codes "paired"
verdict_words v.Hinted = codes "hinted"
verdict_words v.Kept = codes "kept"
verdict_words v.Replaced = codes "replaced"
verdict_words v.Ineligible = codes "ineligible"
verdict_words v.Mapped = codes "mapped"
verdict_words v.Stored = codes "stored"
verdict_words v.Copied = codes "copied"
verdict_words v.Taken = codes "taken"
verdict_words v.NoFrame = codes "no-frame"
verdict_words (v.Bytes b) = codes "bytes " ++ encode_lower b.items
verdict_words (v.Released true) = codes "released freed"
verdict_words (v.Released false) = codes "released held"
verdict_words (v.Totals r) = codes "totals " ++ report_words r
verdict_words v.Closed = codes "closed"

abbrev pub verdict_line : ℕ → Verdict → List ℕ
verdict_line guest verdict = decimal guest ++ (codes " " ++ verdict_words verdict)
