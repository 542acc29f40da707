-- What each change of a table's chains does to its maps, and that the table stays kept.
use Rattle.std.proofs.Common.{◌≡◌, ℕ, ◌+◌, ◌-◌, ◌<◌, ◌≤◌, true, false, cond, List, [], ◌∷◌, length, get_or, Option, Some, None, IsSome, sym, refl, ap, ◌∙◌, arith, rules, subst, replicate}
use Prim.Native.Nat.{zero, suc}
use Rattle.std.proofs.Math.ListN.{set}
use Rattle.std.proofs.Math.Nat.{mod-lt}
use Rattle.std.specs.Prelude.{◌==◌}
use Rattle.std.specs.Option.{option_map}
use Rattle.std.proofs.lemmas.Bool.Decides.{nat_tests}
use Rattle.std.specs.Ordering.{nat_cmp}
use Rattle.std.specs.Cmp.{nat_cmp_total}
use Rattle.std.specs.FinMap.{from_entries, insert, remove, get, len, empty, nat_cmp-IsAntisymmetric, same_map, get-from_entries, get-insert, get-remove, len-empty}
use Rattle.std.proofs.lemmas.List.{length-set, length-replicate}
use Rattle.packed_entries.specs.declared.entry.Entry.{Entry}
use Rattle.packed_entries.specs.declared.entry.Entry.TheVariants.{Shared, Hint}
use Rattle.packed_entries.specs.declared.key.Key.{Key}
use Rattle.packed_entries.specs.declared.key.Key.TheVariants as keys
use Rattle.packed_entries.specs.Keys.{truncated, first_with, with_other, without_first}
use Rattle.packed_entries.specs.Entries.{EntryChains, home, entries_in, chain_of, with_chain, empty_chains, entry_count as chained}
use Rattle.packed_entries.proofs.Filed.{some_of}
use Rattle.share_table.specs.TableMaps.{SharedFrame, HintFrame, SharedMap, HintMap, TableMaps, shared_at, hint_at, entry_count, empty_table, with_shared, with_hint, without_hint, with_count, with_one_less, count_at, field_of}
use Rattle.share_table.specs.declared.entries.SharedEntry.{SharedEntry}
use Rattle.share_table.specs.Buckets.{IsGreatestPower}
use Rattle.share_table.specs.Stored.{WideMap, widened, frame_of, Agrees, shared_of, hint_of, all_pairs, value_of, shared_in, maps_of, rewidened, BelongInto, HasEachOnce, IsFiled, IsCounted, IsKept}
use Rattle.share_table.proofs.Maps.{true_not_false, tied, found, len_new, len_gone}
use Rattle.share_table.proofs.Chained.{shared_kind, hint_kind, found_value, found_there, absent_first, changed, found_other, found_without, all_stay, stay_other, stay_without}
use Rattle.share_table.proofs.Chained.{no_hint, no_shared, each_set, once_without, once_other, belong_without, belong_other, length_other, length_without, entries_in_set}
use Rattle.share_table.proofs.Tables.{frames, frame_got, frame_is, agrees_entry, count_most, count_least, none_of_map, nothing_counted, added_frames, added_counted, len_added, recounted_frames, recounted, len_recounted, removed_frames, removed_counted, len_removed}

same_maps : (capacity : ℕ) (a b : SharedMap) (c d : HintMap) → a ≡ b → c ≡ d → ◌≡◌ {A = TableMaps} (record { capacity = capacity; shared = a; hints = c }) (record { capacity = capacity; shared = b; hints = d })
same_maps capacity a b c d e f = rw (e, f) refl

inserted : {X : Type 0} (es new : List (ℕ × X)) (k : ℕ) (v : X) → ((q : ℕ) → found q new ≡ cond (tied q k) (Some v) (found q es)) → from_entries {R = nat_cmp} new ≡ insert (from_entries es) k v
inserted es new k v h =
    same_map nat_cmp_total nat_cmp-IsAntisymmetric _ _ (λ q. get-from_entries nat_cmp_total new q ∙ h q ∙ sym (get-insert nat_cmp_total (from_entries es) k v q ∙ ap (cond (tied q k) (Some v)) (get-from_entries nat_cmp_total es q)))

taken : {X : Type 0} (es new : List (ℕ × X)) (k : ℕ) → ((q : ℕ) → found q new ≡ cond (tied q k) None (found q es)) → from_entries {R = nat_cmp} new ≡ remove (from_entries es) k
taken es new k h =
    same_map nat_cmp_total nat_cmp-IsAntisymmetric _ _ (λ q. get-from_entries nat_cmp_total new q ∙ h q ∙ sym (get-remove nat_cmp_total (from_entries es) k q ∙ ap (cond (tied q k) None) (get-from_entries nat_cmp_total es q)))

some_value : {X : Type 0} (kind : Entry → Option (ℕ × X)) (o : Option Entry) → IsSome (value_of kind o) → IsSome o
some_value kind None h = h
some_value kind (Some e) h = search rules

-- an entry that is found in what a slice of facts says
some_is : {X : Type 0} (o : Option X) (x : X) → o ≡ Some x → IsSome o
some_is o x e = rw e (search rules)

not_one : (n : ℕ) → 2 ≤ n → (n == 1) ≡ false
not_one n h = grind (arith, nat_tests)

module _ (total : ℕ) (T : EntryChains) (wide : WideMap) (k : IsKept total T wide) where
  abbrev shared_pairs : List (ℕ × SharedEntry)
  shared_pairs = all_pairs shared_of T.chains

  abbrev hint_pairs : List (ℕ × HintFrame)
  hint_pairs = all_pairs hint_of T.chains

  abbrev home_of : Key → ℕ
  home_of key = home (length T.chains) key

  within : (key : Key) → home_of key < length T.chains
  within key = let some : zero < length T.chains = omega (arith, k.filed.buckets.greatest) in mod-lt (truncated key) some

  -- what is found in the chains is what the maps have
  pub shared_found : (h : ℕ) → shared_in shared_pairs h ≡ value_of shared_of (first_with (keys.Shared h) (chain_of T (keys.Shared h)))
  shared_found h =
      found_there shared_of keys.Shared shared_kind (length T.chains) h T.chains k.filed.at_home
      ∙ found_value shared_of keys.Shared shared_kind h (chain_of T (keys.Shared h))

  hint_found : (h : ℕ) → found h hint_pairs ≡ value_of hint_of (first_with (keys.Hint h) (chain_of T (keys.Hint h)))
  hint_found h =
      found_there hint_of keys.Hint hint_kind (length T.chains) h T.chains k.filed.at_home
      ∙ found_value hint_of keys.Hint hint_kind h (chain_of T (keys.Hint h))

  -- the frame with a hash, from what a search of its chain found
  module _ (h : ℕ) (o : Option SharedEntry) (is : o ≡ value_of shared_of (first_with (keys.Shared h) (chain_of T (keys.Shared h)))) where
    pub frame_at : shared_at (maps_of T wide) h ≡ option_map (frame_of (get wide h)) o
    frame_at = frame_got wide shared_pairs h ∙ ap (option_map (frame_of (get wide h))) (shared_found h ∙ sym is)

    pub some_frame : IsSome (shared_at (maps_of T wide) h) → IsSome o
    some_frame present = some_of (frame_of (get wide h)) o (rw frame_at at present)

    pub none_at : o ≡ None → shared_at (maps_of T wide) h ≡ None
    none_at none = frame_at ∙ ap (option_map (frame_of (get wide h))) none

    module _ (e : SharedEntry) (found_is : o ≡ Some e) (hash_is : e.hash ≡ h) where
      pub frame_here : shared_at (maps_of T wide) h ≡ Some (record { mpn = e.mpn; count = widened e.field (get wide e.hash) })
      frame_here =
          frame_at ∙ ap (option_map (frame_of (get wide h))) found_is ∙ ap (λ x. Some (frame_of (get wide x) e)) (sym hash_is)

      pub entry_in : shared_in shared_pairs e.hash ≡ Some e
      entry_in = ap (shared_in shared_pairs) hash_is ∙ shared_found h ∙ sym is ∙ found_is

      pub first_in : IsSome (first_with (keys.Shared e.hash) (chain_of T (keys.Shared e.hash)))
      first_in =
          let there : IsSome (value_of shared_of (first_with (keys.Shared h) (chain_of T (keys.Shared h)))) = some_is _ e (sym is ∙ found_is) in
          subst (λ x. IsSome (first_with (keys.Shared x) (chain_of T (keys.Shared x)))) (sym hash_is) (some_value shared_of _ there)

  module _ (e : SharedEntry) (entry_is : shared_in shared_pairs e.hash ≡ Some e) where
    pub entry_agrees : Agrees (Some e) (get wide e.hash)
    entry_agrees = agrees_entry total shared_pairs wide k.counted e entry_is

    pub entry_least : 1 ≤ widened e.field (get wide e.hash)
    entry_least = count_least e (get wide e.hash) entry_agrees

    pub entry_most : widened e.field (get wide e.hash) ≤ total
    entry_most = count_most total shared_pairs wide k.counted e entry_is

    pub entry_frame : shared_at (maps_of T wide) e.hash ≡ Some (record { mpn = e.mpn; count = widened e.field (get wide e.hash) })
    entry_frame = frame_is total shared_pairs wide k.counted e entry_is

    pub entry_counts : count_at (maps_of T wide) e.hash ≡ widened e.field (get wide e.hash)
    entry_counts = rw entry_frame refl

    pub counts_as : (n : ℕ) → with_count (maps_of T wide) e.hash n ≡ with_shared (maps_of T wide) e.hash e.mpn n
    counts_as n = rw entry_frame refl

    pub one_less : widened e.field (get wide e.hash) ≡ 1 → with_one_less (maps_of T wide) e.hash ≡ record (maps_of T wide) { shared = remove (frames wide shared_pairs) e.hash }
    one_less one = rw (entry_counts, one) refl

    pub one_less_of_more : (n : ℕ) → n + 1 ≡ widened e.field (get wide e.hash) → 1 ≤ n → with_one_less (maps_of T wide) e.hash ≡ with_shared (maps_of T wide) e.hash e.mpn n
    one_less_of_more n more least =
        let other : (widened e.field (get wide e.hash) == 1) ≡ false = not_one _ (omega (arith, more, least)) in
        let n_is : widened e.field (get wide e.hash) - 1 ≡ n = omega (arith, more) in
        rw (entry_counts, other, n_is) (counts_as n)

  pub hint_got : (h : ℕ) → hint_at (maps_of T wide) h ≡ value_of hint_of (first_with (keys.Hint h) (chain_of T (keys.Hint h)))
  hint_got h = get-from_entries nat_cmp_total hint_pairs h ∙ hint_found h

  pub count_is : entry_count (maps_of T wide) ≡ chained T
  count_is = k.all_counted

  -- ---- another chain
  module _ (key : Key) (es : List Entry) (belongs : BelongInto (length T.chains) (home_of key) es) where
    homes : (i : ℕ) → BelongInto (length T.chains) i (get_or (set T.chains (home_of key) es) i [])
    homes = each_set (BelongInto (length T.chains)) T.chains (home_of key) es k.filed.at_home belongs (within key)

    filed_set : HasEachOnce es → entries_in (set T.chains (home_of key) es) ≤ T.capacity → IsFiled (with_chain T key es)
    filed_set once room =
        let len : length (set T.chains (home_of key) es) ≡ length T.chains = length-set T.chains (home_of key) es in
        record {
          buckets = rw len k.filed.buckets;
          at_home = λ i. subst (λ n. BelongInto n i (get_or (set T.chains (home_of key) es) i [])) (sym len) (homes i);
          once = each_set (λ i. HasEachOnce) T.chains (home_of key) es k.filed.once once (within key);
          limit = k.filed.limit;
          room = room;
        }

  -- ---- a new shared frame, of two pages
  module _ (h m : ℕ) (absent : shared_at (maps_of T wide) h ≡ None) (room : chained T < T.capacity) where
    abbrev with_frame : List Entry
    with_frame = Shared h m 2 ∷ chain_of T (keys.Shared h)

    none_in : shared_in shared_pairs h ≡ None
    none_in = none_of_map _ _ (sym (frame_got wide shared_pairs h) ∙ absent)

    none_first : first_with (keys.Shared h) (chain_of T (keys.Shared h)) ≡ None
    none_first =
        absent_first shared_of keys.Shared shared_kind h (chain_of T (keys.Shared h))
        (sym (found_there shared_of keys.Shared shared_kind (length T.chains) h T.chains k.filed.at_home) ∙ none_in)

    frame_homes : BelongInto (length T.chains) (home_of (keys.Shared h)) with_frame
    frame_homes = (refl, k.filed.at_home (home_of (keys.Shared h)))

    frame_put : (q : ℕ) → shared_in (all_pairs shared_of (set T.chains (home_of (keys.Shared h)) with_frame)) q ≡ cond (tied q h) (Some (record { hash = h; mpn = m; field = 2 })) (shared_in shared_pairs q)
    frame_put =
        changed shared_of keys.Shared shared_kind (length T.chains) (home_of (keys.Shared h)) h T.chains with_frame (Some (record { hash = h; mpn = m; field = 2 })) k.filed.at_home
        (homes (keys.Shared h) with_frame frame_homes) (within (keys.Shared h)) refl (λ q. refl)

    hints_stay : all_pairs hint_of (set T.chains (home_of (keys.Shared h)) with_frame) ≡ hint_pairs
    hints_stay = all_stay hint_of T.chains (home_of (keys.Shared h)) with_frame refl

    frame_counted : entries_in (set T.chains (home_of (keys.Shared h)) with_frame) ≡ chained T + 1
    frame_counted = omega (arith, entries_in_set T.chains (home_of (keys.Shared h)) with_frame (within (keys.Shared h)))

    pub frame_added : maps_of (with_chain T (keys.Shared h) with_frame) wide ≡ with_shared (maps_of T wide) h m 2
    frame_added =
        same_maps _ _ _ _ _
        (added_frames total shared_pairs wide k.counted _ (record { hash = h; mpn = m; field = 2 }) refl none_in frame_put)
        (ap (from_entries {R = nat_cmp}) hints_stay)

    pub frame_kept : total + 2 ≤ 1048576 → IsKept (total + 2) (with_chain T (keys.Shared h) with_frame) wide
    frame_kept most =
        let frames_len = len_added total shared_pairs wide k.counted (all_pairs shared_of (set T.chains (home_of (keys.Shared h)) with_frame)) (record { hash = h; mpn = m; field = 2 }) refl none_in frame_put in
        let hints_len : len (from_entries {R = nat_cmp} (all_pairs hint_of (set T.chains (home_of (keys.Shared h)) with_frame))) ≡ len (from_entries {R = nat_cmp} hint_pairs) = ap (λ ps. len (from_entries {R = nat_cmp} ps)) hints_stay in
        record {
          filed = filed_set (keys.Shared h) with_frame frame_homes (none_first, k.filed.once (home_of (keys.Shared h))) (omega (arith, frame_counted, room));
          counted = added_counted total shared_pairs wide k.counted _ (record { hash = h; mpn = m; field = 2 }) refl none_in frame_put most;
          all_counted = omega (arith, frames_len, hints_len, frame_counted, k.all_counted);
        }

  -- ---- another count of a shared frame
  module _ (e : SharedEntry) (first : IsSome (first_with (keys.Shared e.hash) (chain_of T (keys.Shared e.hash)))) (entry_is : shared_in shared_pairs e.hash ≡ Some e) where
    module _ (c field : ℕ) (field_is : field ≡ field_of c) (least : 1 ≤ c) where
      abbrev with_field : List Entry
      with_field = with_other (keys.Shared e.hash) (Shared e.hash e.mpn field) (chain_of T (keys.Shared e.hash))

      abbrev new_entry : SharedEntry
      new_entry = record { hash = e.hash; mpn = e.mpn; field = field }

      field_homes : BelongInto (length T.chains) (home_of (keys.Shared e.hash)) with_field
      field_homes =
          belong_other (length T.chains) (home_of (keys.Shared e.hash)) (keys.Shared e.hash) (Shared e.hash e.mpn field) (chain_of T (keys.Shared e.hash)) refl (k.filed.at_home (home_of (keys.Shared e.hash)))

      field_put : (q : ℕ) → shared_in (all_pairs shared_of (set T.chains (home_of (keys.Shared e.hash)) with_field)) q ≡ cond (tied q e.hash) (Some new_entry) (shared_in shared_pairs q)
      field_put =
          changed shared_of keys.Shared shared_kind (length T.chains) (home_of (keys.Shared e.hash)) e.hash T.chains with_field (Some new_entry) k.filed.at_home
          (homes (keys.Shared e.hash) with_field field_homes) (within (keys.Shared e.hash)) refl
          (λ q. found_other shared_of keys.Shared shared_kind e.hash q (Shared e.hash e.mpn field) (chain_of T (keys.Shared e.hash)) new_entry refl first)

      hints_stay_too : all_pairs hint_of (set T.chains (home_of (keys.Shared e.hash)) with_field) ≡ hint_pairs
      hints_stay_too =
          all_stay hint_of T.chains (home_of (keys.Shared e.hash)) with_field
          (stay_other hint_of (keys.Shared e.hash) (no_hint e.hash) (Shared e.hash e.mpn field) (chain_of T (keys.Shared e.hash)) refl)

      field_counted : entries_in (set T.chains (home_of (keys.Shared e.hash)) with_field) ≡ chained T
      field_counted =
          omega (arith, entries_in_set T.chains (home_of (keys.Shared e.hash)) with_field (within (keys.Shared e.hash)), length_other (keys.Shared e.hash) (Shared e.hash e.mpn field) (chain_of T (keys.Shared e.hash)))

      pub count_changed : maps_of (with_chain T (keys.Shared e.hash) with_field) (rewidened wide e.hash e.field c) ≡ with_shared (maps_of T wide) e.hash e.mpn c
      count_changed =
          same_maps _ _ _ _ _
          (recounted_frames total shared_pairs wide k.counted e entry_is c _ new_entry refl field_is least field_put)
          (ap (from_entries {R = nat_cmp}) hints_stay_too)

      pub count_kept : (rest : ℕ) → rest + widened e.field (get wide e.hash) ≡ c + total → rest ≤ 1048576 → IsKept rest (with_chain T (keys.Shared e.hash) with_field) (rewidened wide e.hash e.field c)
      count_kept rest sum most =
          let frames_len = len_recounted total shared_pairs wide k.counted e entry_is c (all_pairs shared_of (set T.chains (home_of (keys.Shared e.hash)) with_field)) new_entry refl field_is least field_put in
          let hints_len : len (from_entries {R = nat_cmp} (all_pairs hint_of (set T.chains (home_of (keys.Shared e.hash)) with_field))) ≡ len (from_entries {R = nat_cmp} hint_pairs) = ap (λ ps. len (from_entries {R = nat_cmp} ps)) hints_stay_too in
          let fits : chained T ≤ T.capacity = k.filed.room in
          record {
            filed = filed_set (keys.Shared e.hash) with_field field_homes (once_other (keys.Shared e.hash) (Shared e.hash e.mpn field) (chain_of T (keys.Shared e.hash)) refl (k.filed.once (home_of (keys.Shared e.hash)))) (omega (arith, field_counted, fits));
            counted = recounted total shared_pairs wide k.counted e entry_is c _ new_entry refl field_is least field_put rest sum most;
            all_counted = omega (arith, frames_len, hints_len, field_counted, k.all_counted);
          }

    -- ---- the last page leaves a shared frame
    module _ (one : widened e.field (get wide e.hash) ≡ 1) where
      abbrev without_frame : List Entry
      without_frame = without_first (keys.Shared e.hash) (chain_of T (keys.Shared e.hash))

      gone_homes : BelongInto (length T.chains) (home_of (keys.Shared e.hash)) without_frame
      gone_homes =
          belong_without (length T.chains) (home_of (keys.Shared e.hash)) (keys.Shared e.hash) (chain_of T (keys.Shared e.hash)) (k.filed.at_home (home_of (keys.Shared e.hash)))

      frame_taken : (q : ℕ) → shared_in (all_pairs shared_of (set T.chains (home_of (keys.Shared e.hash)) without_frame)) q ≡ cond (tied q e.hash) None (shared_in shared_pairs q)
      frame_taken =
          changed shared_of keys.Shared shared_kind (length T.chains) (home_of (keys.Shared e.hash)) e.hash T.chains without_frame None k.filed.at_home
          (homes (keys.Shared e.hash) without_frame gone_homes) (within (keys.Shared e.hash)) refl
          (λ q. found_without shared_of keys.Shared shared_kind e.hash q (chain_of T (keys.Shared e.hash)) (k.filed.once (home_of (keys.Shared e.hash))))

      hints_still : all_pairs hint_of (set T.chains (home_of (keys.Shared e.hash)) without_frame) ≡ hint_pairs
      hints_still =
          all_stay hint_of T.chains (home_of (keys.Shared e.hash)) without_frame
          (stay_without hint_of (keys.Shared e.hash) (no_hint e.hash) (chain_of T (keys.Shared e.hash)))

      gone_counted : entries_in (set T.chains (home_of (keys.Shared e.hash)) without_frame) + 1 ≡ chained T
      gone_counted =
          omega (arith, entries_in_set T.chains (home_of (keys.Shared e.hash)) without_frame (within (keys.Shared e.hash)), length_without (keys.Shared e.hash) (chain_of T (keys.Shared e.hash)) first)

      pub frame_gone : maps_of (with_chain T (keys.Shared e.hash) without_frame) wide ≡ record (maps_of T wide) { shared = remove (frames wide shared_pairs) e.hash }
      frame_gone =
          same_maps _ _ _ _ _
          (removed_frames total shared_pairs wide k.counted e entry_is one _ frame_taken)
          (ap (from_entries {R = nat_cmp}) hints_still)

      pub gone_kept : (rest : ℕ) → rest + 1 ≡ total → IsKept rest (with_chain T (keys.Shared e.hash) without_frame) wide
      gone_kept rest sum =
          let frames_len = len_removed total shared_pairs wide k.counted e entry_is one (all_pairs shared_of (set T.chains (home_of (keys.Shared e.hash)) without_frame)) frame_taken in
          let hints_len : len (from_entries {R = nat_cmp} (all_pairs hint_of (set T.chains (home_of (keys.Shared e.hash)) without_frame))) ≡ len (from_entries {R = nat_cmp} hint_pairs) = ap (λ ps. len (from_entries {R = nat_cmp} ps)) hints_still in
          let fits : chained T ≤ T.capacity = k.filed.room in
          record {
            filed = filed_set (keys.Shared e.hash) without_frame gone_homes (once_without (keys.Shared e.hash) (chain_of T (keys.Shared e.hash)) (k.filed.once (home_of (keys.Shared e.hash)))) (omega (arith, gone_counted, fits));
            counted = removed_counted total shared_pairs wide k.counted e entry_is one _ frame_taken rest sum;
            all_counted = omega (arith, frames_len, hints_len, gone_counted, k.all_counted);
          }

  -- ---- a new hint
  module _ (j : ℕ) (frame : HintFrame) (absent : hint_at (maps_of T wide) j ≡ None) (room : chained T < T.capacity) where
    abbrev with_note : List Entry
    with_note = Hint j frame.guest frame.ppn frame.mpn ∷ chain_of T (keys.Hint j)

    note_none : found j hint_pairs ≡ None
    note_none = sym (get-from_entries nat_cmp_total hint_pairs j) ∙ absent

    note_first : first_with (keys.Hint j) (chain_of T (keys.Hint j)) ≡ None
    note_first =
        absent_first hint_of keys.Hint hint_kind j (chain_of T (keys.Hint j))
        (sym (found_there hint_of keys.Hint hint_kind (length T.chains) j T.chains k.filed.at_home) ∙ note_none)

    note_homes : BelongInto (length T.chains) (home_of (keys.Hint j)) with_note
    note_homes = (refl, k.filed.at_home (home_of (keys.Hint j)))

    note_put : (q : ℕ) → found q (all_pairs hint_of (set T.chains (home_of (keys.Hint j)) with_note)) ≡ cond (tied q j) (Some frame) (found q hint_pairs)
    note_put =
        changed hint_of keys.Hint hint_kind (length T.chains) (home_of (keys.Hint j)) j T.chains with_note (Some frame) k.filed.at_home
        (homes (keys.Hint j) with_note note_homes) (within (keys.Hint j)) refl (λ q. refl)

    frames_stay : all_pairs shared_of (set T.chains (home_of (keys.Hint j)) with_note) ≡ shared_pairs
    frames_stay = all_stay shared_of T.chains (home_of (keys.Hint j)) with_note refl

    note_counted : entries_in (set T.chains (home_of (keys.Hint j)) with_note) ≡ chained T + 1
    note_counted = omega (arith, entries_in_set T.chains (home_of (keys.Hint j)) with_note (within (keys.Hint j)))

    pub hint_added : maps_of (with_chain T (keys.Hint j) with_note) wide ≡ with_hint (maps_of T wide) j frame.guest frame.ppn frame.mpn
    hint_added =
        same_maps _ _ _ _ _ (ap (frames wide) frames_stay) (inserted hint_pairs _ j frame note_put)

    pub hint_kept : IsKept total (with_chain T (keys.Hint j) with_note) wide
    hint_kept =
        let frames_len : len (frames wide (all_pairs shared_of (set T.chains (home_of (keys.Hint j)) with_note))) ≡ len (frames wide shared_pairs) = ap (λ ps. len (frames wide ps)) frames_stay in
        let hints_len : len (from_entries {R = nat_cmp} (all_pairs hint_of (set T.chains (home_of (keys.Hint j)) with_note))) ≡ len (from_entries {R = nat_cmp} hint_pairs) + 1 = ap (λ (x : HintMap). len x) (inserted hint_pairs _ j frame note_put) ∙ len_new (from_entries hint_pairs) j frame absent in
        record {
          filed = filed_set (keys.Hint j) with_note note_homes (note_first, k.filed.once (home_of (keys.Hint j))) (omega (arith, note_counted, room));
          counted = subst (λ ps. IsCounted total ps wide) (sym frames_stay) k.counted;
          all_counted = omega (arith, frames_len, hints_len, note_counted, k.all_counted);
        }

  -- ---- a hint goes
  module _ (j : ℕ) (present : IsSome (hint_at (maps_of T wide) j)) where
    abbrev without_note : List Entry
    without_note = without_first (keys.Hint j) (chain_of T (keys.Hint j))

    pub note_there : IsSome (first_with (keys.Hint j) (chain_of T (keys.Hint j)))
    note_there = some_value hint_of _ (rw (hint_got j) at present)

    drop_homes : BelongInto (length T.chains) (home_of (keys.Hint j)) without_note
    drop_homes = belong_without (length T.chains) (home_of (keys.Hint j)) (keys.Hint j) (chain_of T (keys.Hint j)) (k.filed.at_home (home_of (keys.Hint j)))

    note_taken : (q : ℕ) → found q (all_pairs hint_of (set T.chains (home_of (keys.Hint j)) without_note)) ≡ cond (tied q j) None (found q hint_pairs)
    note_taken =
        changed hint_of keys.Hint hint_kind (length T.chains) (home_of (keys.Hint j)) j T.chains without_note None k.filed.at_home
        (homes (keys.Hint j) without_note drop_homes) (within (keys.Hint j)) refl
        (λ q. found_without hint_of keys.Hint hint_kind j q (chain_of T (keys.Hint j)) (k.filed.once (home_of (keys.Hint j))))

    frames_still : all_pairs shared_of (set T.chains (home_of (keys.Hint j)) without_note) ≡ shared_pairs
    frames_still =
        all_stay shared_of T.chains (home_of (keys.Hint j)) without_note (stay_without shared_of (keys.Hint j) (no_shared j) (chain_of T (keys.Hint j)))

    drop_counted : entries_in (set T.chains (home_of (keys.Hint j)) without_note) + 1 ≡ chained T
    drop_counted =
        omega (arith, entries_in_set T.chains (home_of (keys.Hint j)) without_note (within (keys.Hint j)), length_without (keys.Hint j) (chain_of T (keys.Hint j)) note_there)

    pub hint_gone : maps_of (with_chain T (keys.Hint j) without_note) wide ≡ without_hint (maps_of T wide) j
    hint_gone =
        same_maps _ _ _ _ _ (ap (frames wide) frames_still) (taken hint_pairs _ j note_taken)

    gone_len : (o : Option HintFrame) → get (from_entries {R = nat_cmp} hint_pairs) j ≡ o → IsSome o → len (remove (from_entries {R = nat_cmp} hint_pairs) j) + 1 ≡ len (from_entries {R = nat_cmp} hint_pairs)
    gone_len None e h = absurd (true_not_false true refl (sym h))
    gone_len (Some x) e h = len_gone (from_entries hint_pairs) j x e

    pub drop_kept : IsKept total (with_chain T (keys.Hint j) without_note) wide
    drop_kept =
        let frames_len : len (frames wide (all_pairs shared_of (set T.chains (home_of (keys.Hint j)) without_note))) ≡ len (frames wide shared_pairs) = ap (λ ps. len (frames wide ps)) frames_still in
        let hints_len : len (from_entries {R = nat_cmp} (all_pairs hint_of (set T.chains (home_of (keys.Hint j)) without_note))) + 1 ≡ len (from_entries {R = nat_cmp} hint_pairs) = ap (λ (x : HintMap). len x + 1) (taken hint_pairs _ j note_taken) ∙ gone_len _ refl present in
        let fits : chained T ≤ T.capacity = k.filed.room in
        record {
          filed = filed_set (keys.Hint j) without_note drop_homes (once_without (keys.Hint j) (chain_of T (keys.Hint j)) (k.filed.once (home_of (keys.Hint j)))) (omega (arith, drop_counted, fits));
          counted = subst (λ ps. IsCounted total ps wide) (sym frames_still) k.counted;
          all_counted = omega (arith, frames_len, hints_len, drop_counted, k.all_counted);
        }

-- ---- an empty table
no_chain : (n i : ℕ) → ◌≡◌ {A = List Entry} (get_or (replicate n []) i []) []
no_chain zero i = refl
no_chain (suc n) zero = refl
no_chain (suc n) (suc i) = no_chain n i

no_pairs : {X : Type 0} (kind : Entry → Option (ℕ × X)) (n : ℕ) → all_pairs kind (replicate n []) ≡ []
no_pairs kind zero = refl
no_pairs kind (suc n) = no_pairs kind n

no_entries : (n : ℕ) → entries_in (replicate n []) ≡ 0
no_entries zero = refl
no_entries (suc n) = omega (arith, no_entries n)

pub nothing_shown : (n capacity : ℕ) → maps_of (empty_chains n capacity) empty ≡ empty_table capacity
nothing_shown n capacity = rw (no_pairs shared_of n, no_pairs hint_of n) refl

no_entry_counted : (n : ℕ) → len (empty {K = ℕ} {X = SharedFrame} {R = nat_cmp}) + len (empty {K = ℕ} {X = HintFrame} {R = nat_cmp}) ≡ entries_in (replicate n [])
no_entry_counted n = omega (arith, no_entries n, len-empty nat_cmp SharedFrame, len-empty nat_cmp HintFrame)

pub nothing_kept : (n capacity : ℕ) → IsGreatestPower capacity n → capacity ≤ 1048576 → IsKept 0 (empty_chains n capacity) empty
nothing_kept n capacity buckets most =
    let chains : List (List Entry) = replicate n [] in
    let lens : length chains ≡ n = length-replicate n [] in
    let none : entries_in (replicate n []) ≡ 0 = no_entries n in
    record {
      filed = record {
        buckets = rw lens buckets;
        at_home = λ i. subst (BelongInto (length chains) i) (sym (no_chain n i)) tt;
        once = λ i. subst HasEachOnce (sym (no_chain n i)) tt;
        limit = most;
        room = omega (arith, none);
      };
      counted = subst (λ ps. IsCounted 0 ps empty) (sym (no_pairs shared_of n)) nothing_counted;
      all_counted = ap (λ (t : TableMaps). entry_count t) (nothing_shown n capacity) ∙ no_entry_counted n;
    }
