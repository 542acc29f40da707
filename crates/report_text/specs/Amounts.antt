-- Amounts of memory for people. A page has 4,096 bytes, so 256 pages are a MiB. Each is rounded to the nearest, a half up.
use Rattle.std.specs.Prelude.{ℕ, ◌+◌, ◌*◌, ◌/◌, ◌==◌, nat_lt, if◌then◌else◌}

-- these pages in units of which a MiB has `scale`: 1, or 10 for tenths of a MiB
abbrev pub nearest : ℕ → ℕ → ℕ
nearest scale pages = (scale * pages + 128) / 256

-- how many units a MiB has where so many pages are shown: 10 below 10 MiB, and else 1
abbrev pub scale_for : ℕ → ℕ
scale_for pages = if nat_lt pages 2560 then 10 else 1

-- how many thousandths of the whole the part is; 0 if the whole is 0
abbrev pub per_mille : ℕ → ℕ → ℕ
per_mille part whole = if whole == 0 then 0 else (1000 * part + whole / 2) / whole
