-- The page of a hint, and pages that are another.
use Rattle.std.proofs.Common.{◌≡◌, ◌≢◌, ℕ, ◌<◌, true, false, ◌&&◌, List, length, Option, Some, None, refl, ap, sym, ◌∙◌, arith}
use Rattle.std.specs.Prelude.{◌==◌, option_map}
use Rattle.std.specs.Str.{bytes_eq}
use Rattle.std.proofs.lemmas.Bool.{false≢true, and_from, and_parts, eqb-true, eq-eqb}
use Rattle.std.proofs.lemmas.Slice.Eq.{bytes_eq-Decides}
use Rattle.page_model.specs.Pages.{SlotOf, Slot, Private, Guest, page_at, with_slot}
use Rattle.page_model.proofs.Places.{again, swap, same_page}
use Rattle.machine_frames.specs.FrameMap.{FrameMap, IsTaken}
use Rattle.share_table.specs.TableMaps.{TableMaps, SharedFrame, hint_at}
use Rattle.share_table.specs.declared.entries.HintFrame.{HintFrame}
use Rattle.merge_core.specs.Pmap.{Pmap, Known, known_at}
use Rattle.merge_core.specs.Ties.{HintWell, Placed, Ties}
use Rattle.merge_core.proofs.FrameLemmas.{taken_within}

module _ (hash : ℕ → List ℕ → ℕ) (pmap : Pmap) (frames : FrameMap) (table : TableMaps) (notes : List Known) (key x y m : ℕ) (t : Ties hash pmap frames table notes) (found : hint_at table key ≡ Some (record { guest = x; ppn = y; mpn = m })) where
  abbrev the_hint : HintFrame
  the_hint = record { guest = x; ppn = y; mpn = m }

  hint_well : HintWell pmap key the_hint
  hint_well = t.hinted.well key the_hint found

  pub hint_taken : IsTaken frames m
  hint_taken = t.placed.taken x y hint_well.salt (Private m (Some key)) m hint_well.here refl

  pub hint_within : m < length notes
  hint_within = omega (arith, t.noted.len, taken_within frames m hint_taken)

  -- the hint's page, with the salt that is noted at its frame
  pub hint_page : (salt : ℕ) → salt ≡ (known_at notes m).salt → page_at pmap x y ≡ Some (salt, Private m (Some key))
  hint_page salt e =
      let noted : (known_at notes m).salt ≡ hint_well.salt = t.noted.salts x y hint_well.salt (Private m (Some key)) m hint_well.here refl in
      hint_well.here ∙ ap (λ (z : ℕ). let p : ℕ × SlotOf ℕ = (z, Private m (Some key)) in Some p) (sym (e ∙ noted))

-- a page with a hint is another page than one without
pub hint_apart : (pmap : Pmap) (a b c d s t m k key : ℕ) → page_at pmap a b ≡ Some (s, Private m None) → page_at pmap c d ≡ Some (t, Private k (Some key)) → a ≡ c → b ≡ d → ⊥
hint_apart pmap a b c d s t m k key e f p q =
    let moved : page_at pmap a b ≡ Some (t, Private k (Some key)) = ap (λ (i : ℕ). page_at pmap i b) p ∙ ap (λ (i : ℕ). page_at pmap c i) q ∙ f in
    no (same_page (page_at pmap a b) s t (Private m None) (Private k (Some key)) e moved).1 where
      no : Private m None ≡ Private k (Some key) → ⊥
      no e = cc

-- and has another frame
pub hint_frame_apart : (pmap : Pmap) (frames : FrameMap) (a b c d s t m k key : ℕ) → Placed pmap frames → page_at pmap a b ≡ Some (s, Private m None) → page_at pmap c d ≡ Some (t, Private k (Some key)) → k ≢ m
hint_frame_apart pmap frames a b c d s t m k key placed e f q =
    let same = placed.alone a b s m None c d t (Private k (Some key)) e f (ap Some q) in
    hint_apart pmap a b c d s t m k key e f (sym same.0) (sym same.1)

-- two pages that changed twice each, in turn
pub changed_twice : (gs : List Guest) (a b c d : ℕ) (w x y z : Slot) → (c ≡ a → d ≡ b → ⊥) → with_slot (with_slot (with_slot (with_slot gs a b w) c d x) a b y) c d z ≡ with_slot (with_slot gs a b y) c d z
changed_twice gs a b c d w x y z apart =
    ap (λ (g : List Guest). with_slot g c d z) (swap (with_slot gs a b w) c d a b x y apart ∙ ap (λ (g : List Guest). with_slot g c d x) (again gs a b w y))
    ∙ again (with_slot gs a b y) c d x z

-- what the table's entry under a hash is
pub entry_of : (o : Option SharedFrame) (m n : ℕ) → Some (m, n) ≡ option_map {U = ℕ × ℕ} (λ (f : SharedFrame). (f.mpn, f.count)) o → o ≡ Some (record { mpn = m; count = n })
entry_of None m n e = absurd (cc)
entry_of (Some f) m n e =
    let one : ℕ × ℕ = (m, n) in
    let two : ℕ × ℕ = (f.mpn, f.count) in
    let same : one ≡ two = cc in
    ap (λ (p : ℕ × ℕ). let f : SharedFrame = record { mpn = p.0; count = p.1 } in Some f) (sym same)

-- contents that don't compare equal differ
pub unlike : (s salt : ℕ) (bs bytes : List ℕ) → (s == salt && bytes_eq bs bytes) ≡ false → s ≡ salt → bs ≡ bytes → ⊥
unlike s salt bs bytes h e f = false≢true (sym h ∙ and_from (s == salt) (bytes_eq bs bytes) (eq-eqb s salt e) ((bytes_eq-Decides bs bytes).1 f))

pub alike : (s salt : ℕ) (bs bytes : List ℕ) → (s == salt && bytes_eq bs bytes) ≡ true → (s ≡ salt) × (bs ≡ bytes)
alike s salt bs bytes h =
    let parts = and_parts (s == salt) (bytes_eq bs bytes) h in
    (eqb-true s salt parts.0, (bytes_eq-Decides bs bytes).0 parts.1)

-- no entry stands under the hash
pub no_entry : (o : Option SharedFrame) → None ≡ option_map {U = ℕ × ℕ} (λ (f : SharedFrame). (f.mpn, f.count)) o → o ≡ None
no_entry None e = refl
no_entry (Some f) e = cc
