-- What a source has left.
use Rattle.std.specs.Prelude.{◌≡◌, ◌≢◌, ℕ, ◌-◌, ◌<◌, ◌⊎◌, List, [], ◌++◌, length, take, drop, Option, IfSome}
use Rattle.std.specs.List.{position_or_len}
use Rattle.std.specs.Option.{option_map}
use Rattle.digest_text.specs.Rows.{is_feed}
use Rattle.digest_text.specs.declared.buffered.Found.{Found}
use Rattle.digest_text.specs.declared.buffered.Found.TheVariants.{Line, Broken, End}
use Rattle.digest_text.specs.declared.buffered.Lines.{Lines}
use Rattle.digest_text.specs.declared.row.TheConstants.{MAX_LINE_BYTES}

module _ {R A : Type 0} where
  -- what was read and not yet taken
  abbrev pub unread : Lines R A → List ℕ
  unread lines = take (lines.end - lines.from) (drop lines.from lines.buffer.items)

  -- all that is left, where the source's bytes are known
  abbrev pub left : (R → Option (List ℕ)) → Lines R A → Option (List ℕ)
  left remaining lines = option_map (λ rest. unread lines ++ rest) (remaining lines.source)

-- the first line has no line feed, or is too long
abbrev pub IsBroken : List ℕ → Type 0
IsBroken bytes = (position_or_len is_feed bytes ≡ length bytes) ⊎ (MAX_LINE_BYTES < position_or_len is_feed bytes)

-- this comes next in what is left, and if that is a line, it was read
abbrev pub IsFound : Found → List ℕ → Option (List ℕ) → Type 0
IsFound (Line n) unread left = (n < length unread) × (position_or_len is_feed unread ≡ n)
IsFound Broken unread left = IfSome left (λ bytes. (bytes ≢ []) × IsBroken bytes)
IsFound End unread left = IfSome left (λ bytes. bytes ≡ [])
