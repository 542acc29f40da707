-- The numbers of frames among those of all machines, and what lists of frames, machines and slots have after one of them changed.
use Rattle.std.proofs.Common.{◌≡◌, ℕ, zero, suc, ◌*◌, ◌/◌, ◌%◌, ◌<◌, List, [], ◌∷◌, length, Option, Some, None, IsSome, refl, ap, sym, ◌∙◌, subst, arith}
use Rattle.std.specs.Prelude.{slice_get, slice_set}
use Rattle.std.proofs.lemmas.Bool.{false≢true}
use Rattle.std.proofs.lemmas.Nat.{div-mul-add, mod-mul-add, mul-add-lt}
use Rattle.lent_slots.specs.Slots.{MachineView}
use Rattle.share_domain.specs.Domains.{machine_at, region_frame}

-- what there is
pub the : {X : Type 0} (o : Option X) → IsSome o → (x : X) × (o ≡ Some x)
the None h = absurd (false≢true h)
the (Some x) h = (x, refl)

pub is_there : {X : Type 0} (o : Option X) (x : X) → o ≡ Some x → IsSome o
is_there {X} o x e = let P : Option X → Type 0 = λ y. IsSome y in subst P (sym e) refl

-- frames of one number are of one machine, and have one number there
pub same_machine : (k m a n b : ℕ) → a < k → b < k → region_frame k m a ≡ region_frame k n b → m ≡ n
same_machine k m a n b la lb e = sym (div-mul-add m k a la) ∙ ap (λ x. x / k) e ∙ div-mul-add n k b lb

pub same_frame : (k m a n b : ℕ) → a < k → b < k → region_frame k m a ≡ region_frame k n b → a ≡ b
same_frame k m a n b la lb e = sym (mod-mul-add m k a la) ∙ ap (λ x. x % k) e ∙ mod-mul-add n k b lb

pub frame_within : (k m a n : ℕ) → m < n → a < k → region_frame k m a < n * k
frame_within k m a n lm la = omega (arith, mul-add-lt m k a n lm la, swap k n) where
  swap : (x y : ℕ) → x * y ≡ y * x
  swap x y = grind arith

-- a machine that has frames is there
pub machine_within : (machines : List MachineView) (m a : ℕ) → a < length (machine_at machines m).frames → m < length machines
machine_within [] m a l = absurd (omega arith)
machine_within (x ∷ machines) zero a l = omega arith
machine_within (x ∷ machines) (suc m) a l = omega (arith, machine_within machines m a l)

pub got : {X : Type 0} (xs : List X) (i : ℕ) (x y : X) → slice_get xs i ≡ Some x → slice_get (slice_set xs i y) i ≡ Some y
got [] i x y e = cc
got (z ∷ xs) zero x y e = refl
got (z ∷ xs) (suc i) x y e = got xs i x y e

pub got_other : {X : Type 0} (xs : List X) (i j : ℕ) (y : X) → (j ≡ i → ⊥) → slice_get (slice_set xs i y) j ≡ slice_get xs j
got_other [] i j y ne = refl
got_other (z ∷ xs) zero zero y ne = absurd (ne refl)
got_other (z ∷ xs) zero (suc j) y ne = refl
got_other (z ∷ xs) (suc i) zero y ne = refl
got_other (z ∷ xs) (suc i) (suc j) y ne = got_other xs i j y (λ e. ne (ap (λ k. suc k) e))

pub got_within : {X : Type 0} (xs : List X) (i : ℕ) → i < length xs → (x : X) × (slice_get xs i ≡ Some x)
got_within [] i l = absurd (omega arith)
got_within (x ∷ xs) zero l = (x, refl)
got_within (x ∷ xs) (suc i) l = got_within xs i (omega arith)

pub set_same : {X : Type 0} (xs : List X) (i : ℕ) (x : X) → slice_get xs i ≡ Some x → slice_set xs i x ≡ xs
set_same [] i x e = refl
set_same (y ∷ xs) zero x e = let same : y ≡ x = cc in ap (λ z. z ∷ xs) (sym same)
set_same (y ∷ xs) (suc i) x e = ap (λ zs. y ∷ zs) (set_same xs i x e)
