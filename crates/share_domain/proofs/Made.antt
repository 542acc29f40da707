-- A new domain's parts.
use Rattle.std.proofs.Common.{◌≡◌, ℕ, ◌<◌, ◌≤◌, List, [], ◌∷◌, ◌++◌, length, replicate, get_or, refl, ap, sym, ◌∙◌, arith}
use Rattle.std.proofs.lemmas.List.{get_or_at, get_or-replicate, length-append, length-replicate, length_push, replicate-append-replicate}
use Rattle.std.specs.Prelude.{None, Option}
use Rattle.page_model.specs.declared.limits.TheConstants.{MAX_FRAMES, MAX_PAGES}
use Rattle.machine_frames.specs.FrameMap.{FrameMap, no_frames}
use Rattle.lent_slots.specs.declared.holding.Holding.{Holding}
use Rattle.lent_slots.specs.Slots.{MachineView}
use Rattle.lent_slots.specs.Totals.{empty_machine}
use Rattle.share_domain.specs.declared.client.Presence.{Presence}
use Rattle.share_domain.specs.declared.client.Presence.TheVariants.{Out}
use Rattle.share_domain.specs.declared.config.TheConstants.{MAX_MACHINES, MAX_CLIENTS}
use Rattle.share_domain.specs.Domains.{machine_at, no_machine}
use Rattle.share_domain.specs.Sound.{SoundDomain}

module _ {X : Type 0} (before rest : List X) (x : X) (n : ℕ) (v : X) (e : before ++ x ∷ rest ≡ replicate n v) where
  -- an element of a list of equal ones has its place there
  pub place_within : length before < n
  place_within = omega (arith, ap (λ (l : List X). length l) e, length-append before (x ∷ rest), length-replicate n v)

  pub element_is : x ≡ v
  element_is = sym (get_or_at before x rest x (length before) refl) ∙ ap (λ (l : List X). get_or l (length before) x) e ∙ get_or-replicate n (length before) v x place_within

-- the frames of one machine may be those of its slots
pub frames_fit : (n most : ℕ) (own : FrameMap) → own ≡ no_frames n → 2 ≤ n → n ≤ most → (2 ≤ length own) × (length own ≤ most) × (own ≡ no_frames (length own))
frames_fit n most own e few many =
    let size : length own ≡ n = ap (λ (l : FrameMap). length l) e ∙ length-replicate n None in
    (omega arith, omega arith, e ∙ ap no_frames (sym size))

-- one machine more was made
pub more_made : {X : Type 0} (machines after : List MachineView) (done : List X) (own : X) (x : MachineView) (slots frames count : ℕ)
    → machines ≡ replicate (length done) (empty_machine slots frames) → x ≡ empty_machine slots count → count ≡ frames → after ≡ machines ++ x ∷ []
    → after ≡ replicate (length (done ++ own ∷ [])) (empty_machine slots frames)
more_made machines after done own x slots frames count em ex ec ea =
    let v : MachineView = empty_machine slots frames in
    let is : x ≡ v = ex ∙ ap (empty_machine slots) ec in
    ea ∙ ap (λ (l : List MachineView). l ++ x ∷ []) em ∙ ap (λ (y : MachineView). replicate (length done) v ++ y ∷ []) is
    ∙ replicate-append-replicate (length done) 1 v ∙ ap (λ (n : ℕ). replicate n v) (sym (length_push done own))

-- the sizes of a new domain
pub sound_new : (machines slots frames clients : ℕ) → (1 ≤ machines) × (machines ≤ MAX_MACHINES) → slots ≤ MAX_PAGES → (1 ≤ frames) × (frames ≤ MAX_FRAMES) → clients ≤ MAX_CLIENTS
    → SoundDomain frames (replicate machines (empty_machine slots frames)) (replicate clients Out)
sound_new machines slots frames clients some few_slots few_frames few_clients =
    let v : MachineView = empty_machine slots frames in
    let size : length (replicate machines v) ≡ machines = length-replicate machines v in
    let at : (m : ℕ) → m < length (replicate machines v) → machine_at (replicate machines v) m ≡ v = λ m less. get_or-replicate machines m v no_machine (omega (arith, size)) in
    record {
      few = (omega (arith, size, some.0), omega (arith, size, some.1), few_frames.1, omega (arith, length-replicate {A = Presence} clients Out), few_frames.0);
      sizes = λ m less. ap (λ (y : MachineView). length y.frames) (at m less) ∙ length-replicate {A = Option (List ℕ)} frames None;
      slots = record { few = λ m less. omega (arith, ap (λ (y : MachineView). length y.slots) (at m less), length-replicate {A = Option Holding} slots None) };
    }
