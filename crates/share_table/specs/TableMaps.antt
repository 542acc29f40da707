-- What a contract sees of a `Table`: how many entries fit, the shared frames by hash, and the hint frames by key.
use Rattle.std.specs.Prelude.{ℕ, ◌+◌, Option, Some, None, sum_by, count_by, refl, ◌-◌, if◌then◌else◌, ◌==◌, nat_lt, nat_le}
use Rattle.std.specs.Ordering.{nat_cmp}
use Rattle.std.specs.Coded.{Coded, code_by, coded×, coded_ℕ}
use Rattle.std.specs.FinMap as map
pub use Rattle.share_table.specs.declared.entries.HintFrame.{HintFrame}

-- the MPN of a shared frame, and how many pages share it
pub record SharedFrame : Type 0 where
  pub mpn : ℕ
  pub count : ℕ

abbrev pub shared_code : Coded SharedFrame
shared_code = code_by (ℕ × ℕ) (coded× coded_ℕ coded_ℕ) (λ s. (s.mpn, s.count)) (λ p. record { mpn = p.0; count = p.1 }) (λ _. refl)

abbrev pub hint_code : Coded HintFrame
hint_code =
    code_by (ℕ × (ℕ × ℕ)) (coded× coded_ℕ (coded× coded_ℕ coded_ℕ)) (λ h. (h.guest, (h.ppn, h.mpn)))
    (λ p. record { guest = p.0; ppn = p.1.0; mpn = p.1.1 }) (λ _. refl)

abbrev pub SharedMap : Type 0
SharedMap = map.FinMap nat_cmp SharedFrame

abbrev pub HintMap : Type 0
HintMap = map.FinMap nat_cmp HintFrame

pub record TableMaps : Type 0 where
  pub capacity : ℕ
  pub shared : SharedMap
  pub hints : HintMap

abbrev pub table_code : Coded TableMaps
table_code =
    code_by
    (ℕ × (SharedMap × HintMap))
    (coded× coded_ℕ (coded× (map.code coded_ℕ shared_code) (map.code coded_ℕ hint_code)))
    (λ t. (t.capacity, (t.shared, t.hints)))
    (λ p. record { capacity = p.0; shared = p.1.0; hints = p.1.1 })
    (λ _. refl)

abbrev pub empty_table : ℕ → TableMaps
empty_table capacity = record { capacity = capacity; shared = map.empty; hints = map.empty }

-- the shared frame with this hash
abbrev pub shared_at : TableMaps → ℕ → Option SharedFrame
shared_at t hash = map.get t.shared hash

-- the hint frame with this key
abbrev pub hint_at : TableMaps → ℕ → Option HintFrame
hint_at t key = map.get t.hints key

-- how many entries of both kinds there are
abbrev pub entry_count : TableMaps → ℕ
entry_count t = map.len t.shared + map.len t.hints

-- the sum of all counts
abbrev pub references : TableMaps → ℕ
references t = sum_by (λ e. e.1.count) (map.entries t.shared)

-- how many counts don't fit in a field of 16 bits
abbrev pub extended : TableMaps → ℕ
extended t = count_by (λ e. nat_lt 65535 e.1.count) (map.entries t.shared)

-- the field of a frame with this count, which is 0 if the count doesn't fit in it
abbrev pub field_of : ℕ → ℕ
field_of count = if nat_le count 65535 then count else 0

abbrev pub with_shared : TableMaps → ℕ → ℕ → ℕ → TableMaps
with_shared t hash mpn count = record t { shared = map.insert t.shared hash (record { mpn = mpn; count = count }) }

abbrev pub count_of : Option SharedFrame → ℕ
count_of None = 0
count_of (Some frame) = frame.count

-- how many pages share the frame with this hash: 0 if there is no such frame
abbrev pub count_at : TableMaps → ℕ → ℕ
count_at t hash = count_of (shared_at t hash)

abbrev pub recounted : SharedMap → ℕ → Option SharedFrame → ℕ → SharedMap
recounted m hash None count = m
recounted m hash (Some frame) count = map.insert m hash (record { mpn = frame.mpn; count = count })

-- the table after the frame with this hash got this count
abbrev pub with_count : TableMaps → ℕ → ℕ → TableMaps
with_count t hash count = record t { shared = recounted t.shared hash (shared_at t hash) count }

-- the table after one page less shares the frame with this hash, which is removed with its last page
abbrev pub with_one_less : TableMaps → ℕ → TableMaps
with_one_less t hash =
    if count_at t hash == 1 then record t { shared = map.remove t.shared hash } else with_count t hash (count_at t hash - 1)

-- the table with this hint under the key
abbrev pub with_hint : TableMaps → ℕ → ℕ → ℕ → ℕ → TableMaps
with_hint t key guest ppn mpn = record t { hints = map.insert t.hints key (record { guest = guest; ppn = ppn; mpn = mpn }) }

-- the table with no hint under the key
abbrev pub without_hint : TableMaps → ℕ → TableMaps
without_hint t key = record t { hints = map.remove t.hints key }
