-- Addresses of whole pages, of which the last page of all isn't used.
use Rattle.std.specs.Prelude.{◌≡◌, ◌+◌, ◌-◌, ◌%◌, ◌^◌, ◌<◌, ◌≤◌, ℕ, List, All}
use Rattle.memory_images.specs.declared.segment.Segment.{Segment}
use Rattle.live_memory.specs.declared.mapping.WritableMapping.{WritableMapping}

-- whole pages, one at least
abbrev pub IsRange : ℕ → ℕ → Type 0
IsRange from to = (from < to) × (from % 4096 ≡ 0) × (to % 4096 ≡ 0) × (to ≤ 2 ^ 64 - 1)

-- a segment of whole pages
abbrev pub IsWhole : Segment → Type 0
IsWhole segment = (segment.offset % 4096 ≡ 0) × (segment.len % 4096 ≡ 0) × (segment.offset + segment.len ≤ 2 ^ 64 - 1)

abbrev pub AreWhole : List Segment → Type 0
AreWhole segments = All IsWhole segments

abbrev pub HaveWhole : List WritableMapping → Type 0
HaveWhole mappings = All (λ mapping. IsWhole mapping.segment) mappings
