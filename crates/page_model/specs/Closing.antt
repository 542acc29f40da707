-- Which requests and verdicts end a guest's part.
use Rattle.std.specs.Prelude.{Bool, true, false, List}
use Rattle.std.specs.List.{list_any}
use Rattle.page_model.specs.declared.request.Request.{Request}
use Rattle.page_model.specs.declared.request.Request.TheVariants.{Propose, Store, Load, Release, Count, Close}
use Rattle.page_model.specs.declared.verdict.Verdict.{Verdict}
use Rattle.page_model.specs.declared.verdict.Verdict.TheVariants as v

-- the guest's last request
abbrev pub is_close : Request → Bool
is_close (Propose ppn) = false
is_close (Store store) = false
is_close (Load load) = false
is_close (Release ppn) = false
is_close Count = false
is_close Close = true

-- the answer to a guest's last request
abbrev pub is_closed : Verdict → Bool
is_closed v.NoPage = false
is_closed v.Unmapped = false
is_closed v.Already = false
is_closed (v.Joined count) = false
is_closed v.Paired = false
is_closed v.Hinted = false
is_closed v.Kept = false
is_closed v.Replaced = false
is_closed v.Ineligible = false
is_closed v.Mapped = false
is_closed v.Stored = false
is_closed v.Copied = false
is_closed v.Taken = false
is_closed v.NoFrame = false
is_closed (v.Bytes bytes) = false
is_closed (v.Released freed) = false
is_closed (v.Totals report) = false
is_closed v.Closed = true

-- whether a `Close` is among the requests
abbrev pub has_close : List Request → Bool
has_close requests = list_any is_close requests

-- whether a `Closed` is among the verdicts
abbrev pub has_closed : List Verdict → Bool
has_closed verdicts = list_any is_closed verdicts
