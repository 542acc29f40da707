-- The lines behind that of a mapping, as /proc/PID/smaps has them: what is known of it, such as `VmFlags: rd wr mr mw me ac mg`.
use Rattle.std.specs.Prelude.{ℕ, ◌==◌, ◌&&◌, ◌||◌, nat_le, Bool, false, List, [], ◌∷◌, codes}
use Rattle.std.specs.List.{list_any, slice_split}
use Rattle.std.specs.Str.{bytes_eq}
use Rattle.live_memory.specs.Fields.{is_space}
use Rattle.live_memory.specs.Mappings.{begins_with}

-- It begins with A to Z; that of a mapping begins with a digit to base 16, which is lowercase.
abbrev pub is_detail : List ℕ → Bool
is_detail [] = false
is_detail (b ∷ bytes) = nat_le 65 b && nat_le b 90

-- one of the words between spaces is this one
abbrev pub has_word : List ℕ → List ℕ → Bool
has_word word line = list_any (λ other. bytes_eq other word) (slice_split is_space line)

abbrev pub says_offered : List ℕ → Bool
says_offered line = begins_with (codes "VmFlags:") line && has_word (codes "mg") line

-- whether one of the details that come first says that the mapping before them is offered
abbrev pub is_offered : List (List ℕ) → Bool
is_offered [] = false
is_offered (line ∷ lines) = is_detail line && (says_offered line || is_offered lines)
