-- Which stores and loads can be made.
use Rattle.std.specs.Prelude.{ℕ, ◌+◌, ◌<◌, ◌≤◌, ◌≡◌, ◌⊎◌}
use Rattle.page_model.specs.declared.limits.TheConstants.{MAX_ACCESS_BYTES, PAGE_BYTES}
use Rattle.page_model.specs.declared.request.RequestFault.{RequestFault}
use Rattle.page_model.specs.declared.request.RequestFault.TheVariants.{Length, Crosses}

-- a store or load of this many bytes at this place stays within one page
abbrev pub Fits : ℕ → ℕ → Type 0
Fits at len = (1 ≤ len) × (len ≤ MAX_ACCESS_BYTES) × (at + len ≤ PAGE_BYTES)

-- the first reason why there is no store or load of this many bytes at this place
abbrev pub RefusedFor : ℕ → ℕ → RequestFault → Type 0
RefusedFor at len Length = (len ≡ 0) ⊎ (MAX_ACCESS_BYTES < len)
RefusedFor at len Crosses = (1 ≤ len) × (len ≤ MAX_ACCESS_BYTES) × (PAGE_BYTES < at + len)
