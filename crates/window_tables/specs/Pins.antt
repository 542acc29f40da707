-- How often each page was pinned.
use Rattle.std.specs.Prelude.{ℕ, ◌+◌, ◌-◌, Bool, not, ◌&&◌, nat_eq, nat_le, List, ◌++◌, length, map, take, drop}
use Rattle.std.specs.List.{list_any}
use Rattle.window_tables.specs.declared.pins.counts.TheConstants.{PINS_MOST}

-- the counts of `count` pages from `from` on
abbrev pub counts_of : ℕ → ℕ → List ℕ → List ℕ
counts_of from count ns = take count (drop from ns)

-- the pages are there, and none of their counts is this number
abbrev pub have_none : ℕ → ℕ → ℕ → List ℕ → Bool
have_none number from count ns = nat_le (from + count) (length ns) && not (list_any (nat_eq number) (counts_of from count ns))

abbrev pub can_pin : ℕ → ℕ → List ℕ → Bool
can_pin from count ns = have_none PINS_MOST from count ns

abbrev pub can_unpin : ℕ → ℕ → List ℕ → Bool
can_unpin from count ns = have_none 0 from count ns

-- the counts of these pages are changed, and no others
abbrev pub with_counts : (ℕ → ℕ) → ℕ → ℕ → List ℕ → List ℕ
with_counts change from count ns = take from ns ++ (map change (counts_of from count ns) ++ drop (from + count) ns)

abbrev pub pinned : ℕ → ℕ → List ℕ → List ℕ
pinned from count ns = with_counts (λ n. n + 1) from count ns

abbrev pub unpinned : ℕ → ℕ → List ℕ → List ℕ
unpinned from count ns = with_counts (λ n. n - 1) from count ns
