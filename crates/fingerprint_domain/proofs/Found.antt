-- The machines that have a frame with a fingerprint, by what is kept and by the frames' bytes.
use Rattle.std.proofs.Common.{◌≡◌, ℕ, ◌+◌, ◌*◌, ◌<◌, List, [], ◌∷◌, length, Option, Some, None, refl, sym, ap, subst, ◌∙◌, ◌⊎◌, arith, suc, inl, inr}
use Rattle.std.specs.Prelude.{slice_index_or}
use Rattle.std.proofs.lemmas.Bool.{cases_lt}
use Rattle.std.proofs.lemmas.List.{get_or_past, length-append}
use Rattle.std.proofs.Math.Nat.{suc-mul}
use Rattle.page_digest.specs.Hashes.{fold_hash}
use Rattle.machine_frames.specs.FrameMap.{FrameMap, frame}
use Rattle.lent_slots.specs.Slots.{MachineView}
use Rattle.share_domain.specs.declared.fault.LendFault.{LendFault}
use Rattle.share_domain.specs.declared.holding.Loan.{Loan}
use Rattle.share_domain.specs.Domains.{DomainView, LendsIn, RefusesIn, machine_at, region_frame}
use Rattle.share_domain.specs.Open.{first_open}
use Rattle.frame_fingerprints.specs.Held.{Fingerprints}
use Rattle.fingerprint_domain.specs.Known.{fingerprints_of, fingerprints_in, AllRefuse, HasFingerprint, LendsFound, RefusesFound}
use Rattle.fingerprint_domain.specs.Beside.{AllRefuseKept, GoesKept, IsHeldAt}
use Rattle.fingerprint_domain.specs.Fits.{EachHas, Reflects}
use Rattle.fingerprint_domain.proofs.Reflected.{fingerprint_of, frame_at, length_of, machine_has}

-- how many frames all machines have
count_all : (salt frames : ℕ) (ms : List MachineView) → EachHas frames ms → length (fingerprints_in salt ms) ≡ length ms * frames
count_all salt frames [] h = let e : 0 * frames ≡ 0 = omega arith in sym e
count_all salt frames (x ∷ ms) h =
    let both = length-append (fingerprints_of salt x.frames) (fingerprints_in salt ms) in
    let first : length (fingerprints_of salt x.frames) ≡ frames = length_of salt x.frames ∙ h.0.count in
    let rest = count_all salt frames ms h.1 in
    let all : suc (length ms) * frames ≡ frames + length ms * frames = (let m = suc-mul (length ms) frames in omega (arith, m)) in
    omega (arith, both, first, rest, all)

bytes_of : (salt f : ℕ) (m : MachineView) (mpn : ℕ) (held : Option (List ℕ)) → frame m.frames mpn ≡ held → fingerprint_of salt held ≡ Some f → HasFingerprint salt f m
bytes_of salt f m mpn None at e = absurd cc
bytes_of salt f m mpn (Some bytes) at e = record { mpn = mpn; bytes = bytes; has = at; is = some_is e } where
  some_is : Some (fold_hash salt bytes) ≡ Some f → fold_hash salt bytes ≡ f
  some_is q = cc

-- a frame that has bytes is one of its machine's
taken_within : (frames : FrameMap) (mpn : ℕ) (bytes : List ℕ) → frame frames mpn ≡ Some bytes → mpn < length frames
taken_within frames mpn bytes e =
    elim (cases_lt mpn (length frames)) [
      | inl lt ↦ lt
      | inr le ↦ absurd (nothing (sym (get_or_past frames mpn None le) ∙ e))
    ] where
      nothing : None ≡ Some bytes → ⊥
      nothing q = cc

module _ (salt : ℕ) (d : DomainView) (kept : Fingerprints) (r : Reflects salt d kept) where
  pub held_length : length kept.held ≡ length d.machines * d.frames
  held_length = ap (λ (x : List (Option ℕ)). length x) r.held ∙ count_all salt d.frames d.machines r.each

  held_there : (m mpn : ℕ) → m < length d.machines → mpn < d.frames
      → slice_index_or kept.held (region_frame d.frames m mpn) None ≡ fingerprint_of salt (frame (machine_at d.machines m).frames mpn)
  held_there m mpn lt ilt = ap (λ (x : List (Option ℕ)). slice_index_or x (region_frame d.frames m mpn) None) r.held ∙ frame_at salt d.frames d.machines m mpn r.each lt ilt

  -- a machine that is kept to have a frame with a fingerprint has one, and the other way round
  has_of_held : (fingerprint m : ℕ) → m < length d.machines → IsHeldAt fingerprint d.frames m kept.held → HasFingerprint salt fingerprint (machine_at d.machines m)
  has_of_held fingerprint m lt at =
      bytes_of salt fingerprint (machine_at d.machines m) at.mpn (frame (machine_at d.machines m).frames at.mpn) refl (sym (held_there m at.mpn lt at.within) ∙ at.has)

  held_of_has : (fingerprint m : ℕ) → m < length d.machines → HasFingerprint salt fingerprint (machine_at d.machines m) → IsHeldAt fingerprint d.frames m kept.held
  held_of_has fingerprint m lt has =
      let count = (machine_has d.frames d.machines m r.each lt).count in
      let within : has.mpn < d.frames = (let w = taken_within (machine_at d.machines m).frames has.mpn has.bytes has.has in omega (arith, w, count)) in
      record { mpn = has.mpn; within = within; has = held_there m has.mpn lt within ∙ ap (fingerprint_of salt) has.has ∙ ap (λ (f : ℕ). Some f) has.is }

  all_refuse : (fingerprint client : ℕ) → AllRefuseKept fingerprint kept.held client d → AllRefuse salt fingerprint client d
  all_refuse fingerprint client all = λ m lt has. all m lt (held_of_has fingerprint m lt has)

  goes_of : (fingerprint client : ℕ) (loan : Loan) → GoesKept fingerprint kept.held client loan d
      → HasFingerprint salt fingerprint (machine_at d.machines loan.slot.machine) ⊎ (AllRefuse salt fingerprint client d × (loan.slot.machine ≡ first_open d.machines))
  goes_of fingerprint client loan (inl at) = inl (has_of_held fingerprint loan.slot.machine at.0 at.1)
  goes_of fingerprint client loan (inr all) = inr (all_refuse fingerprint client all.0, all.1)

  -- what was lent or refused by what is kept, of the fingerprint of a page
  pub lends_found : (fingerprint client : ℕ) (page : List ℕ) (loan : Loan) (new : DomainView) → fingerprint ≡ fold_hash salt page → GoesKept fingerprint kept.held client loan d
      → LendsIn loan.slot.machine client page loan d new → LendsFound salt client page loan d new
  lends_found fingerprint client page loan new e goes lends = record {
    goes = goes_of (fold_hash salt page) client loan (subst (λ (f : ℕ). GoesKept f kept.held client loan d) e goes);
    lends = lends;
  }

  pub refuses_found : (fingerprint client : ℕ) (page : List ℕ) (fault : LendFault) → fingerprint ≡ fold_hash salt page → AllRefuseKept fingerprint kept.held client d
      → RefusesIn (first_open d.machines) client fault d → RefusesFound salt client page fault d
  refuses_found fingerprint client page fault e all refuses = record {
    each = all_refuse (fold_hash salt page) client (subst (λ (f : ℕ). AllRefuseKept f kept.held client d) e all);
    refuses = refuses;
  }
