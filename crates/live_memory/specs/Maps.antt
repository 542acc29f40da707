-- The text of /proc/PID/smaps: the mappings whose pages may be read, or the number of the first line that isn't of its form.
use Rattle.std.specs.Prelude.{◌≡◌, ℕ, ◌+◌, ◌==◌, Bool, if◌then◌else◌, List, [], ◌∷◌, ◌++◌, Option, Some, None, Result, Ok, Err}
use Rattle.std.specs.List.{slice_split}
use Rattle.live_memory.specs.Details.{is_detail, is_offered}
use Rattle.live_memory.specs.Mappings.{is_kept, mapping_in, writable_of}
use Rattle.live_memory.specs.declared.fault.LiveFault.{LiveFault}
use Rattle.live_memory.specs.declared.fault.LiveFault.TheVariants.{OutOfMemory, System, Line, TooManyPages}
use Rattle.live_memory.specs.declared.mapping.Mapping.{Mapping}
use Rattle.live_memory.specs.declared.mapping.WritableMapping.{WritableMapping}

-- a mapping whose pages may be read; the lines behind it say whether it is offered
abbrev pub kept_of : List (List ℕ) → Mapping × List ℕ → List WritableMapping
kept_of behind m = if is_kept m.0 m.1 then writable_of m.0 m.1 (is_offered behind) ∷ [] else []

abbrev pub kept_in : List (List ℕ) → Option (Mapping × List ℕ) → Option (List WritableMapping)
kept_in behind None = None
kept_in behind (Some m) = Some (kept_of behind m)

-- What a line says, before these lines. None: it isn't of the form.
abbrev pub said_by : List ℕ → List (List ℕ) → Option (List WritableMapping)
said_by bytes behind = if is_detail bytes then Some [] else kept_in behind (mapping_in bytes)

-- what a line says, before what the lines behind it say
abbrev pub with_more : ℕ → Option (List WritableMapping) → Result (List WritableMapping) ℕ → Result (List WritableMapping) ℕ
with_more n None more = Err n
with_more n (Some front) (Err k) = Err k
with_more n (Some front) (Ok mappings) = Ok (front ++ mappings)

abbrev pub is_feed : ℕ → Bool
is_feed b = b == 10

-- What lines say, the first of which is line n. Each line ends with a line feed, so what comes after the last one is no line, and
-- must be empty.
unfoldable pub mappings_in : ℕ → List (List ℕ) → Result (List WritableMapping) ℕ
mappings_in n [] = Ok []
mappings_in n ([] ∷ []) = Ok []
mappings_in n ((b ∷ bytes) ∷ []) = Err n
mappings_in n (bytes ∷ line ∷ lines) = with_more n (said_by bytes (line ∷ lines)) (mappings_in (n + 1) (line ∷ lines))

-- the same of a text that begins with line n
abbrev pub mappings_from : ℕ → List ℕ → Result (List WritableMapping) ℕ
mappings_from n bytes = mappings_in n (slice_split is_feed bytes)

abbrev pub mappings_of : List ℕ → Result (List WritableMapping) ℕ
mappings_of maps = mappings_from 1 maps

-- a call answers what the text says, unless memory was refused
abbrev pub IsRead : {A : Type 0} → (A → List WritableMapping) → Result (List WritableMapping) ℕ → Result A LiveFault → Type 0
IsRead view text (Ok mappings) = text ≡ Ok (view mappings)
IsRead view text (Err (Line n)) = text ≡ Err n
IsRead view text (Err OutOfMemory) = Unit {0}
IsRead view text (Err (System error)) = ⊥
IsRead view text (Err TooManyPages) = ⊥

-- what a line says was appended
abbrev pub IsPushed : ℕ → List WritableMapping → List WritableMapping → List ℕ → List (List ℕ) → Result (Unit {0}) LiveFault → Type 0
IsPushed n old new bytes behind (Ok done) = (front : List WritableMapping) × (said_by bytes behind ≡ Some front) × (new ≡ old ++ front)
IsPushed n old new bytes behind (Err (Line k)) = (said_by bytes behind ≡ None) × (k ≡ n)
IsPushed n old new bytes behind (Err OutOfMemory) = Unit {0}
IsPushed n old new bytes behind (Err (System error)) = ⊥
IsPushed n old new bytes behind (Err TooManyPages) = ⊥
