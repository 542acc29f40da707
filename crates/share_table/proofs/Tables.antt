-- What each change of the shared frames does to their map and their counts.
use Rattle.std.proofs.Common.{◌≡◌, ℕ, ◌+◌, ◌*◌, ◌≤◌, Bool, true, false, cond, nat_lt, nat_le, nat_eq, List, [], ◌∷◌, map, Option, Some, None, IsSome, sym, refl, ap, ◌∙◌, arith, subst}
use Rattle.std.specs.List.{sum_by}
use Rattle.std.specs.Option.{option_map}
use Rattle.std.specs.Ordering.{nat_cmp}
use Rattle.std.specs.Cmp.{nat_cmp_total}
use Rattle.std.specs.FinMap.{from_entries, entries, insert, remove, get, len, empty, get-empty, len-empty, nat_cmp-IsAntisymmetric, same_map, get-from_entries, get-insert, get-remove}
use Rattle.std.proofs.lemmas.Bool.Decides.{nat_tests}
use Rattle.std.proofs.lemmas.List.Sums.{sum_by-cons}
use Rattle.share_table.specs.TableMaps.{SharedFrame, SharedMap, field_of}
use Rattle.share_table.specs.declared.entries.SharedEntry.{SharedEntry}
use Rattle.share_table.specs.Stored.{WideMap, widened, frame_of, frame_pair, shared_in, Agrees, rewidened, IsCounted}
use Rattle.share_table.proofs.Maps.{tied, found, tied_same, len_new, len_old, len_gone, sum_empty, sum_new, sum_old, sum_gone}
use Rattle.packed_entries.proofs.Filed.{some_of}

-- the map of a table's shared frames
abbrev pub frames : WideMap → List (ℕ × SharedEntry) → SharedMap
frames wide es = from_entries (map (frame_pair wide) es)

abbrev pub count_in : ℕ × SharedFrame → ℕ
count_in e = e.1.count

-- 1 for a count that doesn't fit a field, else 0
abbrev pub width_in : ℕ × SharedFrame → ℕ
width_in e = cond (nat_lt 65535 e.1.count) 1 0

frame_step : (wide : WideMap) (p : ℕ × SharedEntry) (q : ℕ) (b : Bool) (r : Option SharedFrame) (s : Option SharedEntry) → tied q p.0 ≡ b → r ≡ option_map (frame_of (get wide q)) s → cond b (Some (frame_of (get wide p.0) p.1)) r ≡ option_map (frame_of (get wide q)) (cond b (Some p.1) s)
frame_step wide p q true r s t h = ap (λ k. Some (frame_of (get wide k) p.1)) (sym (tied_same q p.0 t))
frame_step wide p q false r s t h = h

frame_found : (wide : WideMap) (es : List (ℕ × SharedEntry)) (q : ℕ) → found q (map (frame_pair wide) es) ≡ option_map (frame_of (get wide q)) (shared_in es q)
frame_found wide [] q = refl
frame_found wide (p ∷ es) q = frame_step wide p q (tied q p.0) _ (shared_in es q) refl (frame_found wide es q)

-- the shared frame with a hash, from the two lists
pub frame_got : (wide : WideMap) (es : List (ℕ × SharedEntry)) (q : ℕ) → get (frames wide es) q ≡ option_map (frame_of (get wide q)) (shared_in es q)
frame_got wide es q = get-from_entries nat_cmp_total (map (frame_pair wide) es) q ∙ frame_found wide es q

-- a hash without an entry has no shared frame
pub no_frame : (wide : WideMap) (es : List (ℕ × SharedEntry)) (q : ℕ) → shared_in es q ≡ None → get (frames wide es) q ≡ None
no_frame wide es q n = frame_got wide es q ∙ ap (option_map (frame_of (get wide q))) n

pub none_of_map : {A B : Type 0} (f : A → B) (o : Option A) → option_map f o ≡ None → o ≡ None
none_of_map f None e = refl
none_of_map f (Some x) e = absurd (cc)

-- a hash with a shared frame has an entry
pub entry_of_frame : (wide : WideMap) (es : List (ℕ × SharedEntry)) (q : ℕ) → IsSome (get (frames wide es) q) → IsSome (shared_in es q)
entry_of_frame wide es q h = some_of (frame_of (get wide q)) (shared_in es q) (rw (← frame_got wide es q) h)

-- ---- a field and a wide count that agree
wide_of_absent : (o : Option SharedEntry) (w : Option ℕ) → Agrees o w → o ≡ None → w ≡ None
wide_of_absent None None a e = refl
wide_of_absent None (Some c) a e = absurd a
wide_of_absent (Some x) w a e = absurd (cc)

pub agrees_at : (o : Option SharedEntry) (w : Option ℕ) (e : SharedEntry) → Agrees o w → o ≡ Some e → Agrees (Some e) w
agrees_at o w e a is = let P : Option SharedEntry → Type 0 = λ p. Agrees p w in subst P is a

-- ---- a change at one hash
pub record Changes (old new : List (ℕ × SharedEntry)) (wide wide' : WideMap) (hash : ℕ) (entry : Option SharedEntry) (count : Option ℕ) : Type 0 where
  pub entries : (q : ℕ) → shared_in new q ≡ cond (tied q hash) entry (shared_in old q)
  pub counts : (q : ℕ) → get wide' q ≡ cond (tied q hash) count (get wide q)

changed_frame : (b : Bool) (entry old : Option SharedEntry) (count wide : Option ℕ) → option_map (frame_of (cond b count wide)) (cond b entry old) ≡ cond b (option_map (frame_of count) entry) (option_map (frame_of wide) old)
changed_frame true entry old count wide = refl
changed_frame false entry old count wide = refl

changed_agrees : (b : Bool) (entry old : Option SharedEntry) (count wide : Option ℕ) → Agrees entry count → Agrees old wide → Agrees (cond b entry old) (cond b count wide)
changed_agrees true entry old count wide a h = a
changed_agrees false entry old count wide a h = h

module _ (old new : List (ℕ × SharedEntry)) (wide wide' : WideMap) (hash : ℕ) (entry : Option SharedEntry) (count : Option ℕ) (c : Changes old new wide wide' hash entry count) where
  got_changed : (q : ℕ) → get (frames wide' new) q ≡ cond (tied q hash) (option_map (frame_of count) entry) (get (frames wide old) q)
  got_changed q =
      frame_got wide' new q
      ∙ ap (λ w. option_map (frame_of w) (shared_in new q)) (c.counts q)
      ∙ ap (option_map (frame_of (cond (tied q hash) count (get wide q)))) (c.entries q)
      ∙ changed_frame (tied q hash) entry (shared_in old q) count (get wide q)
      ∙ ap (cond (tied q hash) (option_map (frame_of count) entry)) (sym (frame_got wide old q))

  agrees_changed : ((q : ℕ) → Agrees (shared_in old q) (get wide q)) → Agrees entry count → (q : ℕ) → Agrees (shared_in new q) (get wide' q)
  agrees_changed h a q =
      let P : Option SharedEntry → Type 0 = λ o. Agrees o (get wide' q) in
      let Q : Option ℕ → Type 0 = λ w. Agrees (cond (tied q hash) entry (shared_in old q)) w in
      subst P (sym (c.entries q)) (subst Q (sym (c.counts q)) (changed_agrees (tied q hash) entry (shared_in old q) count (get wide q) a (h q)))

module _ (old new : List (ℕ × SharedEntry)) (wide wide' : WideMap) (hash : ℕ) (entry : SharedEntry) (count : Option ℕ) (c : Changes old new wide wide' hash (Some entry) count) where
  frames_inserted : frames wide' new ≡ insert (frames wide old) hash (frame_of count entry)
  frames_inserted =
      same_map nat_cmp_total nat_cmp-IsAntisymmetric _ _ (λ q. got_changed old new wide wide' hash (Some entry) count c q ∙ sym (get-insert nat_cmp_total (frames wide old) hash (frame_of count entry) q))

frames_removed : (old new : List (ℕ × SharedEntry)) (wide wide' : WideMap) (hash : ℕ) (count : Option ℕ) → Changes old new wide wide' hash None count → frames wide' new ≡ remove (frames wide old) hash
frames_removed old new wide wide' hash count c =
    same_map nat_cmp_total nat_cmp-IsAntisymmetric _ _ (λ q. got_changed old new wide wide' hash None count c q ∙ sym (get-remove nat_cmp_total (frames wide old) hash q))

same_here : (wide : WideMap) (hash q : ℕ) (b : Bool) (w : Option ℕ) → tied q hash ≡ b → get wide hash ≡ w → get wide q ≡ cond b w (get wide q)
same_here wide hash q true w t h = ap (get wide) (tied_same q hash t) ∙ h
same_here wide hash q false w t h = refl

-- ---- sums
width_narrow : (n : ℕ) → n ≤ 65535 → ◌≡◌ {A = ℕ} (cond (nat_lt 65535 n) 1 0) 0
width_narrow n h = grind (arith, nat_tests)

width_wide : (n : ℕ) → 65536 ≤ n → ◌≡◌ {A = ℕ} (cond (nat_lt 65535 n) 1 0) 1
width_wide n h = grind (arith, nat_tests)

width_le : (n : ℕ) (b : Bool) → nat_lt 65535 n ≡ b → 65536 * cond b 1 0 ≤ n
width_le n true e = grind (arith, nat_tests)
width_le n false e = omega arith

wide_sum : (xs : List (ℕ × SharedFrame)) → 65536 * sum_by width_in xs ≤ sum_by count_in xs
wide_sum [] = omega arith
wide_sum (x ∷ xs) =
    omega (arith, wide_sum xs, sum_by-cons width_in x xs, sum_by-cons count_in x xs, width_le x.1.count (nat_lt 65535 x.1.count) refl)

-- sixteen places are enough: each has a count of 65,536 or more, of 1,048,576 references in all
pub wide_fits : (total : ℕ) (shared : List (ℕ × SharedEntry)) (wide : WideMap) → IsCounted total shared wide → len wide ≤ 16
wide_fits total shared wide k =
    let all = entries (frames wide shared) in
    let sums : sum_by count_in all ≡ total = k.summed in
    let widths : len wide ≡ sum_by width_in all = k.widths in
    omega (arith, wide_sum all, sums, widths, k.bounded)

-- no frames
pub nothing_counted : IsCounted 0 [] empty
nothing_counted = record {
  agrees = λ q. let P : Option ℕ → Type 0 = λ w. Agrees None w in subst P (sym (get-empty nat_cmp q)) tt;
  summed = sum_empty count_in;
  bounded = omega arith;
  widths = len-empty nat_cmp ℕ ∙ sym (sum_empty width_in);
}

-- ---- a new count
narrow_is_not_wide : (e : SharedEntry) (w : Option ℕ) → Agrees (Some e) w → nat_eq e.field 0 ≡ false → w ≡ None
narrow_is_not_wide e None a h = refl
narrow_is_not_wide e (Some c) a h = absurd (grind (arith, nat_tests, a.0))

stored_at : (e : SharedEntry) (wide : WideMap) (hash c q : ℕ) → Agrees (Some e) (get wide hash) → (b z : Bool) → nat_eq e.field 0 ≡ z → get (cond b (cond z (remove wide hash) wide) (insert wide hash c)) q ≡ cond (tied q hash) (cond b None (Some c)) (get wide q)
stored_at e wide hash c q a true true h = get-remove nat_cmp_total wide hash q
stored_at e wide hash c q a true false h = same_here wide hash q (tied q hash) None refl (narrow_is_not_wide e (get wide hash) a h)
stored_at e wide hash c q a false z h = get-insert nat_cmp_total wide hash c q

stored_agrees : (new : SharedEntry) (c : ℕ) (b : Bool) → 1 ≤ c → nat_le c 65535 ≡ b → new.field ≡ cond b c 0 → Agrees (Some new) (cond b None (Some c))
stored_agrees new c true least h f = (omega arith, grind (arith, nat_tests))
stored_agrees new c false least h f = (f, grind (arith, nat_tests))

stored_count : (new : SharedEntry) (c : ℕ) (b : Bool) → new.field ≡ cond b c 0 → widened new.field (cond b None (Some c)) ≡ c
stored_count new c true f = f
stored_count new c false f = refl

stored_len : (e : SharedEntry) (wide : WideMap) (hash c : ℕ) (w : Option ℕ) → get wide hash ≡ w → Agrees (Some e) w → (b z : Bool)
    → nat_le c 65535 ≡ b → nat_eq e.field 0 ≡ z
    → len (cond b (cond z (remove wide hash) wide) (insert wide hash c)) + cond (nat_lt 65535 (widened e.field w)) 1 0
    ≡ cond (nat_lt 65535 c) 1 0 + len wide
stored_len e wide hash c None g a b true h f = absurd (grind (arith, nat_tests, a.0))
stored_len e wide hash c (Some x) g a b false h f = absurd (grind (arith, nat_tests, a.0))
stored_len e wide hash c None g a true false h f =
    let le : c ≤ 65535 = grind (arith, nat_tests) in
    omega (arith, width_narrow e.field a.1, width_narrow c le)
stored_len e wide hash c None g a false false h f =
    let more : 65536 ≤ c = grind (arith, nat_tests) in
    omega (arith, width_narrow e.field a.1, width_wide c more, len_new wide hash c g)
stored_len e wide hash c (Some x) g a true true h f =
    let le : c ≤ 65535 = grind (arith, nat_tests) in
    omega (arith, width_wide x a.1, width_narrow c le, len_gone wide hash x g)
stored_len e wide hash c (Some x) g a false true h f =
    let more : 65536 ≤ c = grind (arith, nat_tests) in
    omega (arith, width_wide x a.1, width_wide c more, len_old wide hash c x g)

one_is_narrow : (e : SharedEntry) (w : Option ℕ) → Agrees (Some e) w → widened e.field w ≡ 1 → w ≡ None
one_is_narrow e None a h = refl
one_is_narrow e (Some c) a h = absurd (omega (arith, a.1, h))

-- a frame's count is at least 1
pub count_least : (e : SharedEntry) (w : Option ℕ) → Agrees (Some e) w → 1 ≤ widened e.field w
count_least e None a = a.0
count_least e (Some c) a = omega (arith, a.1)

pub field_is_kept : (e : SharedEntry) (w : Option ℕ) → Agrees (Some e) w → e.field ≡ field_of (widened e.field w)
field_is_kept e None a = let le : e.field ≤ 65535 = a.1 in grind (arith, nat_tests)
field_is_kept e (Some c) a = let more : 65536 ≤ c = a.1 in let zero : e.field ≡ 0 = a.0 in grind (arith, nat_tests)

module _ (total : ℕ) (shared : List (ℕ × SharedEntry)) (wide : WideMap) (k : IsCounted total shared wide) where
  -- a new frame, of two pages
  module _ (shared' : List (ℕ × SharedEntry)) (new : SharedEntry) (two : new.field ≡ 2) (none : shared_in shared new.hash ≡ None) (put : (q : ℕ) → shared_in shared' q ≡ cond (tied q new.hash) (Some new) (shared_in shared q)) where
    add_changes : Changes shared shared' wide wide new.hash (Some new) None
    add_changes = record {
      entries = put;
      counts = λ q. same_here wide new.hash q (tied q new.hash) None refl (wide_of_absent (shared_in shared new.hash) (get wide new.hash) (k.agrees new.hash) none);
    }

    pub added_frames : frames wide shared' ≡ insert (frames wide shared) new.hash (record { mpn = new.mpn; count = 2 })
    added_frames =
        frames_inserted shared shared' wide wide new.hash new None add_changes
        ∙ ap (λ n. insert (frames wide shared) new.hash (record { mpn = new.mpn; count = n })) two

    sum_of_added : (f : ℕ × SharedFrame → ℕ) → sum_by f (entries (frames wide shared')) ≡ f (new.hash, record { mpn = new.mpn; count = 2 }) + sum_by f (entries (frames wide shared))
    sum_of_added f =
        ap (λ (n : SharedMap). sum_by f (entries n)) added_frames
        ∙ sum_new f (frames wide shared) new.hash (record { mpn = new.mpn; count = 2 }) (no_frame wide shared new.hash none)

    pub len_added : len (frames wide shared') ≡ len (frames wide shared) + 1
    len_added = ap (λ (n : SharedMap). len n) added_frames ∙ len_new (frames wide shared) new.hash _ (no_frame wide shared new.hash none)

    pub added_counted : total + 2 ≤ 1048576 → IsCounted (total + 2) shared' wide
    added_counted most =
        let sums : sum_by count_in (entries (frames wide shared)) ≡ total = k.summed in
        let widths : len wide ≡ sum_by width_in (entries (frames wide shared)) = k.widths in
        record {
          agrees = agrees_changed shared shared' wide wide new.hash (Some new) None add_changes k.agrees (omega arith, omega arith);
          summed = omega (arith, sum_of_added count_in, sums);
          bounded = most;
          widths = omega (arith, sum_of_added width_in, widths);
        }

  -- a frame that stands among them
  module _ (e : SharedEntry) (entry_is : shared_in shared e.hash ≡ Some e) where
    pub agrees_entry : Agrees (Some e) (get wide e.hash)
    agrees_entry = agrees_at (shared_in shared e.hash) (get wide e.hash) e (k.agrees e.hash) entry_is

    pub frame_is : get (frames wide shared) e.hash ≡ Some (record { mpn = e.mpn; count = widened e.field (get wide e.hash) })
    frame_is = frame_got wide shared e.hash ∙ ap (option_map (frame_of (get wide e.hash))) entry_is

    -- a count is at most the sum of all
    pub count_most : widened e.field (get wide e.hash) ≤ total
    count_most =
        let sums : sum_by count_in (entries (frames wide shared)) ≡ total = k.summed in
        omega (arith, sums, sum_gone count_in (frames wide shared) e.hash _ frame_is)

    -- another count
    module _ (c : ℕ) (shared' : List (ℕ × SharedEntry)) (new : SharedEntry) (new_mpn : new.mpn ≡ e.mpn) (new_field : new.field ≡ field_of c) (least : 1 ≤ c) (put : (q : ℕ) → shared_in shared' q ≡ cond (tied q e.hash) (Some new) (shared_in shared q)) where
      recount_changes : Changes shared shared' wide (rewidened wide e.hash e.field c) e.hash (Some new) (cond (nat_le c 65535) None (Some c))
      recount_changes = record {
        entries = put;
        counts = λ q. stored_at e wide e.hash c q agrees_entry (nat_le c 65535) (nat_eq e.field 0) refl;
      }

      pub recounted_frames : frames (rewidened wide e.hash e.field c) shared' ≡ insert (frames wide shared) e.hash (record { mpn = e.mpn; count = c })
      recounted_frames =
          frames_inserted shared shared' wide (rewidened wide e.hash e.field c) e.hash new (cond (nat_le c 65535) None (Some c)) recount_changes
          ∙ ap (λ n. insert (frames wide shared) e.hash (record { mpn = new.mpn; count = n })) (stored_count new c (nat_le c 65535) new_field)
          ∙ ap (λ n. insert (frames wide shared) e.hash (record { mpn = n; count = c })) new_mpn

      sum_of_recounted : (f : ℕ × SharedFrame → ℕ) → sum_by f (entries (frames (rewidened wide e.hash e.field c) shared')) + f (e.hash, record { mpn = e.mpn; count = widened e.field (get wide e.hash) }) ≡ f (e.hash, record { mpn = e.mpn; count = c }) + sum_by f (entries (frames wide shared))
      sum_of_recounted f =
          ap (λ (n : SharedMap). sum_by f (entries n) + f (e.hash, record { mpn = e.mpn; count = widened e.field (get wide e.hash) })) recounted_frames
          ∙ sum_old f (frames wide shared) e.hash (record { mpn = e.mpn; count = c }) _ frame_is

      pub len_recounted : len (frames (rewidened wide e.hash e.field c) shared') ≡ len (frames wide shared)
      len_recounted = ap (λ (n : SharedMap). len n) recounted_frames ∙ len_old (frames wide shared) e.hash _ _ frame_is

      pub recounted : (rest : ℕ) → rest + widened e.field (get wide e.hash) ≡ c + total → rest ≤ 1048576 → IsCounted rest shared' (rewidened wide e.hash e.field c)
      recounted rest sum most =
          let sums : sum_by count_in (entries (frames wide shared)) ≡ total = k.summed in
          let widths : len wide ≡ sum_by width_in (entries (frames wide shared)) = k.widths in
          let lens = stored_len e wide e.hash c (get wide e.hash) refl agrees_entry (nat_le c 65535) (nat_eq e.field 0) refl refl in
          record {
            agrees = agrees_changed shared shared' wide (rewidened wide e.hash e.field c) e.hash (Some new) (cond (nat_le c 65535) None (Some c)) recount_changes k.agrees (stored_agrees new c (nat_le c 65535) least refl new_field);
            summed = omega (arith, sum_of_recounted count_in, sums, sum);
            bounded = most;
            widths = omega (arith, sum_of_recounted width_in, widths, lens);
          }

    -- the last page of the frame leaves it
    module _ (one : widened e.field (get wide e.hash) ≡ 1) (shared' : List (ℕ × SharedEntry)) (gone : (q : ℕ) → shared_in shared' q ≡ cond (tied q e.hash) None (shared_in shared q)) where
      remove_changes : Changes shared shared' wide wide e.hash None None
      remove_changes = record {
        entries = gone;
        counts = λ q. same_here wide e.hash q (tied q e.hash) None refl (one_is_narrow e (get wide e.hash) agrees_entry one);
      }

      pub removed_frames : frames wide shared' ≡ remove (frames wide shared) e.hash
      removed_frames = frames_removed shared shared' wide wide e.hash None remove_changes

      sum_of_removed : (f : ℕ × SharedFrame → ℕ) → sum_by f (entries (frames wide shared)) ≡ f (e.hash, record { mpn = e.mpn; count = 1 }) + sum_by f (entries (frames wide shared'))
      sum_of_removed f =
          sum_gone f (frames wide shared) e.hash _ frame_is
          ∙ ap (λ n. f (e.hash, record { mpn = e.mpn; count = n }) + sum_by f (entries (remove (frames wide shared) e.hash))) one
          ∙ ap (λ (n : SharedMap). f (e.hash, record { mpn = e.mpn; count = 1 }) + sum_by f (entries n)) (sym removed_frames)

      pub len_removed : len (frames wide shared') + 1 ≡ len (frames wide shared)
      len_removed = ap (λ (n : SharedMap). len n + 1) removed_frames ∙ len_gone (frames wide shared) e.hash _ frame_is

      pub removed_counted : (rest : ℕ) → rest + 1 ≡ total → IsCounted rest shared' wide
      removed_counted rest sum =
          let sums : sum_by count_in (entries (frames wide shared)) ≡ total = k.summed in
          let widths : len wide ≡ sum_by width_in (entries (frames wide shared)) = k.widths in
          record {
            agrees = agrees_changed shared shared' wide wide e.hash None None remove_changes k.agrees tt;
            summed = omega (arith, sum_of_removed count_in, sums, sum);
            bounded = omega (arith, k.bounded, sum);
            widths = omega (arith, sum_of_removed width_in, widths);
          }
