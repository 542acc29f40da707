-- How far the work is, in numbers for people. All are rounded down but the seconds that are left. A product that takes
-- more than 64 bits counts as the greatest number of 64 bits.
use Rattle.std.specs.Prelude.{ℕ, ◌*◌, ◌-◌, ◌/◌, ◌^◌, ◌==◌, min, if◌then◌else◌, Option, Some, None}
use Rattle.std.specs.Int.{div_ceil}

-- a number as 64 bits hold it
abbrev pub within_64_bits : ℕ → ℕ
within_64_bits n = min n (2 ^ 64 - 1)

-- how many hundredths of the whole the part is; 100 if the whole is 0
abbrev pub per_cent : ℕ → ℕ → ℕ
per_cent part whole = if whole == 0 then 100 else within_64_bits (part * 100) / whole

-- how many a second, where these were counted in so many milliseconds; 0 if no time has passed
abbrev pub a_second : ℕ → ℕ → ℕ
a_second count elapsed = if elapsed == 0 then 0 else within_64_bits (count * 1000) / elapsed

-- how many MiB a second, where these pages of 4,096 bytes were read in so many milliseconds
abbrev pub mebibytes_a_second : ℕ → ℕ → ℕ
mebibytes_a_second pages elapsed = if elapsed == 0 then 0 else within_64_bits (pages * 1000) / 256 / elapsed

-- the seconds until all is done, rounded up, if the rest takes as long as what was done; `None` if nothing was done
abbrev pub seconds_left : ℕ → ℕ → ℕ → Option ℕ
seconds_left done total elapsed =
    if done == 0 then None else Some (div_ceil (within_64_bits ((total - done) * elapsed) / done) 1000)
