-- When the line is drawn.
use Rattle.std.specs.Prelude.{Bool, true, false, List, ℕ, ◌+◌, nat_le, codes, Option, Some, None, if◌then◌else◌}
use Rattle.std.specs.Str.{bytes_eq}
use Rattle.command_terms.specs.declared.progress.drawing.TheConstants.{PAUSE}
use Rattle.command_terms.specs.declared.progress.when.Drawn.{Drawn}
use Rattle.command_terms.specs.declared.progress.when.Drawn.TheVariants.{Auto, Always, Never}

-- whether it is drawn, by whether standard error is a terminal
abbrev pub is_on : Drawn → Bool → Bool
is_on Auto is_terminal = is_terminal
is_on Always is_terminal = true
is_on Never is_terminal = false

-- what a word of the command line asks for
abbrev pub drawn_of : List ℕ → Option Drawn
drawn_of word =
    if bytes_eq word (codes "auto") then Some Auto
    else if bytes_eq word (codes "always") then Some Always
    else if bytes_eq word (codes "never") then Some Never
    else None

-- when the line was drawn last, by the milliseconds at which it was drawn before and those of now
abbrev pub last_after : ℕ → ℕ → ℕ
last_after last now = if nat_le (last + PAUSE) now then now else last
