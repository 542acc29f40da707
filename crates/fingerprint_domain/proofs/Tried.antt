-- Which machines were tried, one after the other.
use Rattle.std.proofs.Common.{◌≡◌, ◌∙◌, ℕ, ◌*◌, ◌<◌, ◌≤◌, ◌/◌, ◌%◌, ◌⊎◌, inl, inr, Bool, true, false, List, [], ◌∷◌, length, replicate, Option, Some, None, refl, sym, ap, subst, arith, zero, suc}
use Rattle.std.specs.Prelude.{slice_index_or, slice_set}
use Rattle.std.proofs.lemmas.Bool.{false≢true, cases_eq, cases_lt}
use Rattle.std.proofs.lemmas.List.{get_or-set_other, get_or_past, length-set}
use Rattle.std.proofs.lemmas.Nat.{div-add-mod', div-mul-add}
use Rattle.std.proofs.Math.Nat.{mod-lt}
use Rattle.share_domain.specs.declared.fault.LendFault.{LendFault}
use Rattle.share_domain.specs.declared.holding.Loan.{Loan}
use Rattle.share_domain.specs.Domains.{DomainView, LendsIn, RefusesIn, region_frame}
use Rattle.frame_fingerprints.specs.Held.{Finds}
use Rattle.fingerprint_domain.specs.Known.{IsRefused}
use Rattle.fingerprint_domain.specs.Beside.{AllRefuseKept, IsHeldAt, LendsKept}

-- how many machines weren't tried
pub untried : List Bool → ℕ
untried [] = 0
untried (true ∷ bs) = untried bs
untried (false ∷ bs) = suc (untried bs)

pub fewer : (bs : List Bool) (m : ℕ) → m < length bs → slice_index_or bs m false ≡ false → untried (slice_set bs m true) < untried bs
unfolding untried
fewer [] m lt is = absurd (omega (arith, lt))
fewer (true ∷ bs) zero lt is = absurd (false≢true (sym is))
fewer (false ∷ bs) zero lt is = let e : untried bs < suc (untried bs) = omega arith in e
fewer (true ∷ bs) (suc m) lt is = fewer bs m (omega (arith, lt)) is
fewer (false ∷ bs) (suc m) lt is = let less : untried (slice_set bs m true) < untried bs = fewer bs m (omega (arith, lt)) is in let e : suc (untried (slice_set bs m true)) < suc (untried bs) = omega (arith, less) in e

none_tried : (n m : ℕ) → slice_index_or (replicate n false) m false ≡ false
none_tried zero m = refl
none_tried (suc n) zero = refl
none_tried (suc n) (suc m) = none_tried n m

-- the machines that were tried refuse the page, and nothing has changed
pub record Tries (client : ℕ) (d now : DomainView) (tried : List Bool) : Type 0 where
  pub same : now ≡ d
  pub refused : (m : ℕ) → slice_index_or tried m false ≡ true → IsRefused m client d
  pub long : length tried ≡ 64

pub tries_none : (client : ℕ) (d : DomainView) → Tries client d d (replicate 64 false)
tries_none client d = record { same = refl; refused = λ m is. absurd (false≢true (sym (none_tried 64 m) ∙ is)); long = refl }

pub tries_more : (client m : ℕ) (fault : LendFault) (d now new : DomainView) (tried : List Bool) → Tries client d now tried → m < 64 → RefusesIn m client fault now → new ≡ now
    → Tries client d new (slice_set tried m true)
tries_more client m fault d now new tried t lt refuses same = record {
  same = same ∙ t.same;
  refused = λ k is. pick k (cases_eq k m) is;
  long = length-set tried m true ∙ t.long;
} where
  pick : (k : ℕ) → ((k ≡ m) ⊎ (k ≡ m → ⊥)) → slice_index_or (slice_set tried m true) k false ≡ true → IsRefused k client d
  pick k (inl e) is = subst (λ (i : ℕ). IsRefused i client d) (sym e) (record { fault = fault; refuses = subst (λ (x : DomainView). RefusesIn m client fault x) t.same refuses })
  pick k (inr n) is = t.refused k (sym (get_or-set_other tried m k true false n) ∙ is)

below : (held : List (Option ℕ)) (at f : ℕ) → slice_index_or held at None ≡ Some f → at < length held
below held at f e =
    elim (cases_lt at (length held)) [
      | inl lt ↦ lt
      | inr le ↦ absurd (nothing (sym (get_or_past held at None le) ∙ e))
    ] where
      nothing : None ≡ Some f → ⊥
      nothing q = cc

-- the frame that was found is one of a machine
pub frame_within : (fingerprint : ℕ) (held : List (Option ℕ)) (frame : ℕ) (d now : DomainView) (client : ℕ) (tried : List Bool) → length held ≡ length d.machines * d.frames
    → slice_index_or held frame None ≡ Some fingerprint → Tries client d now tried → frame < length now.machines * now.frames
frame_within fingerprint held frame d now client tried all e t =
    subst (λ (x : DomainView). frame < length x.machines * x.frames) (sym t.same) (let lt = below held frame fingerprint e in omega (arith, lt, all))

-- each machine with such a frame was tried
pub all_tried : (fingerprint : ℕ) (held : List (Option ℕ)) (d now : DomainView) (client : ℕ) (tried : List Bool) → Finds fingerprint d.frames tried held None → Tries client d now tried
    → AllRefuseKept fingerprint held client d
all_tried fingerprint held d now client tried none t m lt at =
    let is : region_frame d.frames m at.mpn / d.frames ≡ m = div-mul-add m d.frames at.mpn at.within in
    t.refused m (ap (λ (k : ℕ). slice_index_or tried k false) (sym is) ∙ none (region_frame d.frames m at.mpn) at.has)

-- the machine of a frame that was found
pub held_at : (fingerprint frame : ℕ) (held : List (Option ℕ)) (d : DomainView) → 1 ≤ d.frames → slice_index_or held frame None ≡ Some fingerprint → IsHeldAt fingerprint d.frames (frame / d.frames) held
held_at fingerprint frame held d some e = record {
  mpn = frame % d.frames;
  within = mod-lt frame some;
  has = ap (λ (k : ℕ). slice_index_or held k None) (div-add-mod' frame d.frames) ∙ e;
}

pub lends_kept : (fingerprint frame m client : ℕ) (held : List (Option ℕ)) (page : List ℕ) (loan : Loan) (d now new : DomainView) (tried : List Bool) → 1 ≤ d.frames
    → slice_index_or held frame None ≡ Some fingerprint → m ≡ frame / d.frames → m < length d.machines → Tries client d now tried → LendsIn m client page loan now new
    → LendsKept fingerprint held client page loan d new
lends_kept fingerprint frame m client held page loan d now new tried some e is lt t lends =
    let at = subst (λ (k : ℕ). IsHeldAt fingerprint d.frames k held) (sym is) (held_at fingerprint frame held d some e) in
    let here = subst (λ (x : DomainView). LendsIn m client page loan x new) t.same lends in
    record {
      there = subst (λ (k : ℕ). k < length d.machines) (sym lends.machine) lt;
      at = subst (λ (k : ℕ). IsHeldAt fingerprint d.frames k held) (sym lends.machine) at;
      lends = subst (λ (k : ℕ). LendsIn k client page loan d new) (sym lends.machine) here;
    }
