-- What follows from a count that stands in its entry, and what the table is once the frame has one page more or less.
use Rattle.std.proofs.Common.{◌≡◌, ℕ, ◌+◌, ◌-◌, ◌≤◌, ◌≢◌, Bool, true, false, cond, eqb, nat_le, List, [], ◌∷◌, Option, Some, None, IsSome, sym, refl, ap, ◌∙◌, arith, rules}
use Rattle.std.proofs.lemmas.Bool.Decides.{nat_tests}
use Rattle.std.specs.FinMap.{get}
use Rattle.std.proofs.lemmas.Bool.{ne_eqb, eqb-true, eqb-false}
use Rattle.packed_entries.specs.declared.entry.Entry.{Entry}
use Rattle.packed_entries.specs.declared.entry.Entry.TheVariants.{Shared, Hint}
use Rattle.packed_entries.specs.declared.key.Key.{Key}
use Rattle.packed_entries.specs.declared.key.Key.TheVariants as keys
use Rattle.packed_entries.specs.Keys.{has_key, first_with, with_other, without_first, field_in}
use Rattle.packed_entries.specs.Entries.{EntryChains, chain_of, with_chain, counted_up, counted_down}
use Rattle.share_table.specs.TableMaps.{shared_at, with_shared, with_count, with_one_less, count_at, field_of}
use Rattle.share_table.specs.declared.entries.SharedEntry.{SharedEntry}
use Rattle.share_table.specs.Stored.{WideMap, widened, Agrees, shared_of, all_pairs, value_of, shared_in, maps_of, rewidened, IsKept}
use Rattle.share_table.proofs.Chained.{same_number}
use Rattle.share_table.proofs.Kept.{shared_found, some_frame, entry_agrees, entry_most, entry_counts, counts_as, one_less, one_less_of_more, count_changed, count_kept, frame_gone, gone_kept}

-- ---- tests

fits_field : (n : ℕ) → n ≤ 65535 → nat_le n 65535 ≡ true
fits_field n l = grind (arith, nat_tests)

field_is : (n : ℕ) → n ≤ 65535 → n ≡ field_of n
field_is n l = rw (fits_field n l) refl

narrow : (field : ℕ) (e : SharedEntry) (w : Option ℕ) → e.field ≡ field → Agrees (Some e) w → field ≢ 0 → widened e.field w ≡ e.field
narrow field e None is a some = refl
narrow field e (Some c) is a some = absurd (some (sym is ∙ a.0))

field_most : (e : SharedEntry) (w : Option ℕ) → Agrees (Some e) w → e.field ≤ 65535
field_most e None a = a.1
field_most e (Some c) a = omega (arith, a.0)

wide_least : (e : SharedEntry) (w : Option ℕ) → e.field ≡ 0 → Agrees (Some e) w → 65536 ≤ widened e.field w
wide_least e None z a = absurd (omega (arith, a.0))
wide_least e (Some c) z a = a.1

stays : (wide : WideMap) (hash field count : ℕ) → field ≢ 0 → count ≤ 65535 → rewidened wide hash field count ≡ wide
stays wide hash field count some fits = rw (fits_field count fits, ne_eqb field 0 some) refl

-- ---- what a search finds has the key
first_has_step : (k : Key) (x e : Entry) (es : List Entry) (b : Bool) → has_key k x ≡ b → cond b (Some x) (first_with k es) ≡ Some e → (first_with k es ≡ Some e → has_key k e ≡ true) → has_key k e ≡ true
first_has_step k x e es true t h ih = let same : x ≡ e = cc in ap (has_key k) (sym same) ∙ t
first_has_step k x e es false t h ih = ih h

first_has : (k : Key) (es : List Entry) (e : Entry) → first_with k es ≡ Some e → has_key k e ≡ true
first_has k [] e h = absurd (cc)
first_has k (x ∷ es) e h = first_has_step k x e es (has_key k x) refl h (first_has k es e)

module _ (total : ℕ) (T : EntryChains) (wide : WideMap) (k : IsKept total T wide) where
  -- the entry that a hash finds
  pub record FrameOf (h : ℕ) : Type 0 where
    pub e : SharedEntry
    pub hash_is : e.hash ≡ h
    pub first_is : first_with (keys.Shared e.hash) (chain_of T (keys.Shared e.hash)) ≡ Some (Shared e.hash e.mpn e.field)
    pub entry_is : shared_in (all_pairs shared_of T.chains) e.hash ≡ Some e

  frame_step : (h : ℕ) (o : Option Entry) → first_with (keys.Shared h) (chain_of T (keys.Shared h)) ≡ o → IsSome (value_of shared_of o) → FrameOf h
  frame_step h None is some = search rules
  frame_step h (Some (Hint x g n m)) is some = search rules
  frame_step h (Some (Shared x m n)) is some =
      let same : x ≡ h = same_number h x (first_has (keys.Shared h) (chain_of T (keys.Shared h)) (Shared x m n) is) in
      record {
        e = record { hash = x; mpn = m; field = n };
        hash_is = same;
        first_is = ap (λ q. first_with (keys.Shared q) (chain_of T (keys.Shared q))) same ∙ is;
        entry_is = ap (shared_in (all_pairs shared_of T.chains)) same ∙ shared_found total T wide k h ∙ ap (value_of shared_of) is;
      }

  pub frame_for : (h : ℕ) → IsSome (shared_at (maps_of T wide) h) → FrameOf h
  frame_for h present = frame_step h (first_with (keys.Shared h) (chain_of T (keys.Shared h))) refl (some_frame total T wide k h _ refl present)

  module _ (h : ℕ) (e : SharedEntry) (hash_is : e.hash ≡ h) (first_is : first_with (keys.Shared e.hash) (chain_of T (keys.Shared e.hash)) ≡ Some (Shared e.hash e.mpn e.field)) (entry_is : shared_in (all_pairs shared_of T.chains) e.hash ≡ Some e) where
    abbrev key : Key
    key = keys.Shared e.hash

    agrees : Agrees (Some e) (get wide e.hash)
    agrees = entry_agrees total T wide k e entry_is

    there : IsSome (first_with key (chain_of T key))
    there = rw first_is (search rules)

    pub there_at : IsSome (first_with (keys.Shared h) (chain_of T (keys.Shared h)))
    there_at = rw (← hash_is) there

    pub field_at : field_in (first_with (keys.Shared h) (chain_of T (keys.Shared h))) ≡ e.field
    field_at = rw (← hash_is, first_is) refl

    pub most_at : e.field ≤ 65535
    most_at = field_most e (get wide e.hash) agrees

    pub wide_at : e.field ≡ 0 → 65536 ≤ count_at (maps_of T wide) h
    wide_at zero =
        let least = wide_least e (get wide e.hash) zero agrees in
        rw (← hash_is, entry_counts total T wide k e entry_is) least

    -- nothing changes where the count doesn't stand in the entry, or won't fit it
    pub up_none : e.field ≡ 0 → counted_up T (keys.Shared h) (first_with (keys.Shared h) (chain_of T (keys.Shared h))) ≡ T
    up_none zero = rw (← hash_is, first_is, zero) refl

    pub up_full : e.field ≡ 65535 → counted_up T (keys.Shared h) (first_with (keys.Shared h) (chain_of T (keys.Shared h))) ≡ T
    up_full full = rw (← hash_is, first_is, full) refl

    pub down_none : e.field ≡ 0 → counted_down T (keys.Shared h) (first_with (keys.Shared h) (chain_of T (keys.Shared h))) ≡ T
    down_none zero = rw (← hash_is, first_is, zero) refl

    module _ (some : e.field ≢ 0) where
      is_narrow : widened e.field (get wide e.hash) ≡ e.field
      is_narrow = narrow e.field e (get wide e.hash) refl agrees some

      counts : count_at (maps_of T wide) e.hash ≡ e.field
      counts = entry_counts total T wide k e entry_is ∙ is_narrow

      pub count_is : count_at (maps_of T wide) h ≡ e.field
      count_is = rw (← hash_is) counts

      pub field_within : e.field ≤ total
      field_within = let most = entry_most total T wide k e entry_is in omega (arith, most, is_narrow)

      module _ (n : ℕ) (least : 1 ≤ n) (most : n ≤ 65535) where
        abbrev with_n : EntryChains
        with_n = with_chain T key (with_other key (Shared e.hash e.mpn n) (chain_of T key))

        n_maps : maps_of with_n wide ≡ with_shared (maps_of T wide) e.hash e.mpn n
        n_maps = rw (stays wide e.hash e.field n some most) at (count_changed total T wide k e there entry_is n n (field_is n most) least)

        n_kept : (rest : ℕ) → rest + e.field ≡ n + total → rest ≤ 1048576 → IsKept rest with_n wide
        n_kept rest sum fits =
            let counted : rest + widened e.field (get wide e.hash) ≡ n + total = omega (arith, sum, is_narrow) in
            rw (stays wide e.hash e.field n some most) at (count_kept total T wide k e there entry_is n n (field_is n most) least rest counted fits)

      -- one page more
      module _ (room : e.field ≢ 65535) where
        up : counted_up T key (first_with key (chain_of T key)) ≡ with_chain T key (with_other key (Shared e.hash e.mpn (e.field + 1)) (chain_of T key))
        up = rw (first_is, ne_eqb e.field 0 some, ne_eqb e.field 65535 room) refl

        fits_more : e.field + 1 ≤ 65535
        fits_more = omega (arith, most_at)

        up_here : maps_of (counted_up T key (first_with key (chain_of T key))) wide ≡ with_count (maps_of T wide) e.hash (count_at (maps_of T wide) e.hash + 1)
        up_here =
            let n : ℕ = e.field + 1 in
            let made : maps_of (counted_up T key (first_with key (chain_of T key))) wide ≡ with_shared (maps_of T wide) e.hash e.mpn n = ap (λ t. maps_of t wide) up ∙ n_maps n (omega arith) fits_more in
            made ∙ sym (counts_as total T wide k e entry_is n) ∙ ap (λ c. with_count (maps_of T wide) e.hash (c + 1)) (sym counts)

        pub up_maps : maps_of (counted_up T (keys.Shared h) (first_with (keys.Shared h) (chain_of T (keys.Shared h)))) wide ≡ with_count (maps_of T wide) h (count_at (maps_of T wide) h + 1)
        up_maps = rw (← hash_is) up_here

        pub up_kept : total + 1 ≤ 1048576 → IsKept (total + 1) (counted_up T (keys.Shared h) (first_with (keys.Shared h) (chain_of T (keys.Shared h)))) wide
        up_kept fits = rw (← hash_is, up) (n_kept (e.field + 1) (omega arith) fits_more (total + 1) (omega arith) fits)

      -- one page less, and another is left
      module _ (more : e.field ≢ 1) where
        down : counted_down T key (first_with key (chain_of T key)) ≡ with_chain T key (with_other key (Shared e.hash e.mpn (e.field - 1)) (chain_of T key))
        down = rw (first_is, ne_eqb e.field 0 some, ne_eqb e.field 1 more) refl

        some_left : 1 ≤ e.field - 1
        some_left = omega arith

        fits_less : e.field - 1 ≤ 65535
        fits_less = omega (arith, most_at)

        down_here : maps_of (counted_down T key (first_with key (chain_of T key))) wide ≡ with_one_less (maps_of T wide) e.hash
        down_here =
            let n : ℕ = e.field - 1 in
            ap (λ t. maps_of t wide) down ∙ n_maps n some_left fits_less ∙ sym (one_less_of_more total T wide k e entry_is n (omega (arith, is_narrow)) some_left)

        down_maps : maps_of (counted_down T (keys.Shared h) (first_with (keys.Shared h) (chain_of T (keys.Shared h)))) wide ≡ with_one_less (maps_of T wide) h
        down_maps = rw (← hash_is) down_here

        down_kept : IsKept (total - 1) (counted_down T (keys.Shared h) (first_with (keys.Shared h) (chain_of T (keys.Shared h)))) wide
        down_kept =
            let bounded = k.counted.bounded in
            rw (← hash_is, down) (n_kept (e.field - 1) some_left fits_less (total - 1) (omega (arith, field_within)) (omega arith))

      -- the last page leaves
      module _ (last : e.field ≡ 1) where
        one : widened e.field (get wide e.hash) ≡ 1
        one = is_narrow ∙ last

        gone : counted_down T key (first_with key (chain_of T key)) ≡ with_chain T key (without_first key (chain_of T key))
        gone = rw (first_is, last) refl

        gone_here : maps_of (counted_down T key (first_with key (chain_of T key))) wide ≡ with_one_less (maps_of T wide) e.hash
        gone_here = ap (λ t. maps_of t wide) gone ∙ frame_gone total T wide k e there entry_is one ∙ sym (one_less total T wide k e entry_is one)

        gone_maps : maps_of (counted_down T (keys.Shared h) (first_with (keys.Shared h) (chain_of T (keys.Shared h)))) wide ≡ with_one_less (maps_of T wide) h
        gone_maps = rw (← hash_is) gone_here

        last_kept : IsKept (total - 1) (counted_down T (keys.Shared h) (first_with (keys.Shared h) (chain_of T (keys.Shared h)))) wide
        last_kept = rw (← hash_is, gone) (gone_kept total T wide k e there entry_is one (total - 1) (omega (arith, field_within)))

      left_maps_step : (b : Bool) → eqb e.field 1 ≡ b → maps_of (counted_down T (keys.Shared h) (first_with (keys.Shared h) (chain_of T (keys.Shared h)))) wide ≡ with_one_less (maps_of T wide) h
      left_maps_step true t = gone_maps (eqb-true e.field 1 t)
      left_maps_step false t = down_maps (eqb-false e.field 1 t)

      pub left_maps : maps_of (counted_down T (keys.Shared h) (first_with (keys.Shared h) (chain_of T (keys.Shared h)))) wide ≡ with_one_less (maps_of T wide) h
      left_maps = left_maps_step (eqb e.field 1) refl

      left_kept_step : (b : Bool) → eqb e.field 1 ≡ b → IsKept (total - 1) (counted_down T (keys.Shared h) (first_with (keys.Shared h) (chain_of T (keys.Shared h)))) wide
      left_kept_step true t = last_kept (eqb-true e.field 1 t)
      left_kept_step false t = down_kept (eqb-false e.field 1 t)

      pub left_kept : IsKept (total - 1) (counted_down T (keys.Shared h) (first_with (keys.Shared h) (chain_of T (keys.Shared h)))) wide
      left_kept = left_kept_step (eqb e.field 1) refl
