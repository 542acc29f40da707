-- What a merge of digests prints of a fault.
use Rattle.std.specs.Prelude.{ℕ, List, slice_get, codes, option_map, unwrap_or}
use Rattle.std.specs.Borrow.{Bor}

-- what a fault calls a guest's digest
abbrev pub digest_named : List (Bor (List ℕ)) → ℕ → List ℕ
digest_named digests guest = unwrap_or (option_map (λ digest. digest.now) (slice_get digests guest)) (codes "fleet")
