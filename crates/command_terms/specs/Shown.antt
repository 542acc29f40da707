-- What the line says.
use Rattle.std.specs.Prelude.{ℕ, ◌/◌, ◌^◌, ◌-◌, List, [], ◌∷◌, ◌++◌, codes, decimal, Option, Some, None}
use Rattle.std.specs.Fmt.{styled_decimal, format_spec}
use Rattle.command_terms.specs.declared.progress.read_so_far.ReadSoFar.{ReadSoFar}
use Rattle.command_terms.specs.declared.progress.run_so_far.RunSoFar.{RunSoFar}
use Rattle.command_terms.specs.Amounts.{per_cent, a_second, mebibytes_a_second, seconds_left}

-- a number with spaces before it, where it has fewer than three digits
abbrev pub three_wide : ℕ → List ℕ
three_wide n = styled_decimal (format_spec 32 3 0 3 (2 ^ 64 - 1)) n

-- how long it takes yet, where that is known
abbrev pub left_text : Option ℕ → List ℕ
left_text None = []
left_text (Some seconds) = codes "  " ++ (decimal seconds ++ codes " s left")

-- how much of the images was read; 256 pages are a MiB
abbrev pub amount_text : ReadSoFar → List ℕ
amount_text r =
    three_wide (per_cent r.done r.total) ++ (codes " %  " ++ (decimal (r.done / 256) ++ (codes " of " ++
    (decimal (r.total / 256) ++ (codes " MiB  " ++ (decimal (mebibytes_a_second r.done r.elapsed) ++ codes " MiB/s"))))))

abbrev pub read_text : ReadSoFar → List ℕ
read_text r = amount_text r ++ left_text (seconds_left r.done r.total r.elapsed)

-- how many requests of a run were served
abbrev pub served_text : RunSoFar → List ℕ
served_text r =
    three_wide (per_cent r.entries r.requests) ++ (codes " %  " ++ (decimal r.entries ++ (codes " of " ++
    (decimal r.requests ++ (codes " requests  " ++ (decimal (a_second r.entries r.elapsed) ++ codes " a second"))))))

-- the pages of its machine
abbrev pub pages_text : RunSoFar → List ℕ
pages_text r =
    codes "  " ++ (decimal r.mapped ++ (codes " pages mapped, " ++ (decimal r.shared ++ (codes " shared, " ++
    (decimal r.reclaimed ++ codes " reclaimed")))))

abbrev pub run_text : RunSoFar → List ℕ
run_text r = served_text r ++ pages_text r

-- A line as it is drawn: first what puts it at the line's start (a carriage return), last what removes what stood behind it (the
-- escape `[K`).
abbrev pub drawing_text : List ℕ → List ℕ
drawing_text shown = 13 ∷ (shown ++ (27 ∷ codes "[K"))
