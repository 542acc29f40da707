-- A domain and mappings before anything happened.
use Rattle.std.proofs.Common.{◌≡◌, ℕ, zero, suc, ◌*◌, ◌<◌, List, [], ◌∷◌, length, map, replicate, get_or, Option, None, refl, ap, sym, ◌∙◌, arith}
use Rattle.std.proofs.lemmas.List.{length-replicate}
use Rattle.std.proofs.lemmas.List.Elements.{All-replicate}
use Rattle.std.proofs.lemmas.Option.{none-some}
use Rattle.machine_frames.specs.FrameMap.{frame}
use Rattle.lent_slots.specs.declared.holding.Holding.{Holding}
use Rattle.lent_slots.specs.Slots.{MachineView, holding}
use Rattle.lent_slots.specs.Totals.{empty_machine}
use Rattle.share_domain.specs.declared.config.DomainConfig.{DomainConfig}
use Rattle.share_domain.specs.Domains.{DomainView, machine_at}
use Rattle.share_domain.specs.Made.{empty_domain}
use Rattle.window_events.specs.declared.page.Page.{Page}
use Rattle.window_events.specs.Windows.{start, fresh}
use Rattle.window_domains.specs.Agreement.{frame_by, HasHeld, Agrees}

no_frame : (n i : ℕ) → get_or (let l : List (Option (List ℕ)) = replicate n None in l) i None ≡ None
no_frame zero i = refl
no_frame (suc n) zero = refl
no_frame (suc n) (suc i) = no_frame n i

no_slot : (n i : ℕ) → get_or (let l : List (Option Holding) = replicate n None in l) i None ≡ None
no_slot zero i = refl
no_slot (suc n) zero = refl
no_slot (suc n) (suc i) = no_slot n i

free_at : (n s f m i : ℕ) → frame (machine_at (replicate n (empty_machine s f)) m).frames i ≡ None
free_at zero s f m i = refl
free_at (suc n) s f zero i = no_frame f i
free_at (suc n) s f (suc m) i = free_at n s f m i

unheld_at : (n s f m i : ℕ) → holding (machine_at (replicate n (empty_machine s f)) m).slots i ≡ None
unheld_at zero s f m i = refl
unheld_at (suc n) s f zero i = no_slot s i
unheld_at (suc n) s f (suc m) i = unheld_at n s f m i

size_at : (n s f m : ℕ) → m < n → length (machine_at (replicate n (empty_machine s f)) m).frames ≡ f
size_at zero s f m l = absurd (omega arith)
size_at (suc n) s f zero l = length-replicate f None
size_at (suc n) s f (suc m) l = size_at n s f m (omega arith)

hold_none : (d : DomainView) (contents : List ℕ) → map (λ (x : Page). x.held) (map fresh contents) ≡ map (frame_by d) (replicate (length contents) None)
hold_none d [] = refl
hold_none d (x ∷ contents) = ap (λ (l : List (Option ℕ)). None ∷ l) (hold_none d contents)

pub begins : (number : List ℕ → ℕ) (config : DomainConfig) (contents frames : List ℕ) → length frames ≡ config.machines * config.frames
    → Agrees number (empty_domain config) (replicate (length contents) None) (start contents frames)
begins number config contents frames e =
    let d : DomainView = empty_domain config in
    record {
      holds = hold_none d contents;
      are_held = All-replicate (HasHeld d) (length contents) None tt;
      contains = λ m mpn bytes is. absurd (none-some bytes (sym (free_at config.machines config.slots config.frames m mpn) ∙ is));
      in_use = λ slot h is. absurd (none-some h (sym (unheld_at config.machines config.slots config.frames slot.machine slot.ppn) ∙ is));
      count = e ∙ ap (λ k. k * config.frames) (sym (length-replicate config.machines (empty_machine config.slots config.frames)));
      sizes = λ m l. size_at config.machines config.slots config.frames m (subst_len config.machines (empty_machine config.slots config.frames) m l);
    } where
      subst_len : (n : ℕ) (x : MachineView) (m : ℕ) → m < length (replicate n x) → m < n
      subst_len n x m l = omega (arith, length-replicate n x)
