-- The names of guests.
use Rattle.std.specs.Prelude.{ℕ, ◌==◌, ◌&&◌, ◌||◌, nat_le, nat_lt, Bool, if◌then◌else◌, List, length, Option, Some, None}
use Rattle.std.specs.List.{list_all}
use Rattle.digest_text.specs.declared.name.TheConstants.{MAX_NAME_BYTES}

-- A-Z, a-z, 0-9, '.', '_' and '-'
abbrev pub is_name_byte : ℕ → Bool
is_name_byte b =
    (nat_le 65 b && nat_le b 90) || (nat_le 97 b && nat_le b 122) || (nat_le 48 b && nat_le b 57) || b == 46 || b == 95 || b == 45

-- a guest's name: 1 to MAX_NAME_BYTES of these bytes
abbrev pub is_name : List ℕ → Bool
is_name word = nat_lt 0 (length word) && nat_le (length word) MAX_NAME_BYTES && list_all is_name_byte word

unfoldable pub name_in : List ℕ → Option (List ℕ)
name_in word = if is_name word then Some word else None
