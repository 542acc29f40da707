-- `refuses_next` and `take_back` at a call: what each is handed, and what a caller has of it. Assumes `Logic`.
use Rattle.std.proofs.Common.{◌≡◌, ℕ, ◌^◌, ◌<◌, w64, Bool, List, [], ◌∷◌, refl, ap}
use seplogic.Ra.Ura.{Ura}
use mir.Val.{Val, vunit, vbool, vint, vptr}
use base.Logic.{SProp, ent, sep, ex, guard, id⊢}
use base.Fml.{Lft, Share, ftrue, fsep, flft}
use prog.Memory.{Memory}
use prog.Routine.{Routine}
use types.Logic.{Logic, sem}
use contract.Monad.{Fun}
use types.Kit.{‵, ◌⊛◌, some, later, ◌$◌, ◌∵◌, !, qed, move, keep, use1, split, join, pick, fjoin, feq_i, flt_i, feq_l, check, show, await, updating, now as at_once, done}
use denote.Memory.{hidden_shr}
use denote.Builtin.{unit, bool}
use denote.Steps.{nothing, only}
use denote.Triple.Statement.{Contract}
use denote.Triple.Spec.{triple_of}
use Rattle.refusing.specs.contracts.Requests as RQ
use Rattle.refusing.specs.contracts.Requests.refuses_next as AK
use Rattle.refusing.specs.contracts.Requests.take_back as RT

module _ {M : Type 1} {𝓤 : Ura M} (𝓛 : Logic 𝓤) (at_mem : Memory → SProp 𝓤) (run : Routine → Fun 𝓤) where
  abbrev pub Return : Contract 𝓤
  Return = triple_of 𝓛 RT.signature (RT.spec 𝓛 at_mem run)

  abbrev pub Ask : Contract 𝓤
  Ask = triple_of 𝓛 AK.signature (AK.spec 𝓛 at_mem run)

  abbrev pub at_return : Lft → Share → RQ.the_row.Denot → ℕ × ℕ → Return.Ghost
  at_return κ q w c = (((κ, tt), (q, tt), tt, (record { ref_ptr = c; now = w }, tt), (vptr c.0 c.1 ∷ [], tt)), tt)

  abbrev pub at_ask : Lft → Share → RQ.the_row.Denot → ℕ × ℕ → ℕ → Ask.Ghost
  at_ask κ q w c n = (((κ, tt), (q, tt), tt, (record { ref_ptr = c; now = w }, (n, tt)), (vptr c.0 c.1 ∷ [], (vint w64 n ∷ [], tt))), tt)

module _ {M : Type 1} {𝓤 : Ura M} (𝓛 : Logic 𝓤) (at_mem : Memory → SProp 𝓤) (run : Routine → Fun 𝓤) (κ : Lft) (q : Share) (w : RQ.the_row.Denot) (c : ℕ × ℕ) where
  open 𝓛 use {H, A}

  pub Return-goes : ent 𝓤 (sep 𝓤 (sem 𝓛 (hidden_shr RQ.the_row κ w c.0 c.1)) (A.lft κ q)) ((Return 𝓛 at_mem run).pre (at_return 𝓛 at_mem run κ q w c))
  Return-goes =
      qed 𝓛 (‵ (hidden_shr RQ.the_row κ w c.0 c.1) ∷ ‵ (flft κ q) ∷ []) ∵ feq_i ! (List Val) (vptr c.0 c.1 ∷ []) (vptr c.0 c.1 ∷ []) refl $ fjoin ! $
      nothing ! $ move ! (1 ∷ []) $ fjoin ! $ nothing ! $ move ! (2 ∷ []) $ join ! $ join ! $ nothing ! $ move ! (1 ∷ []) $ done !

  pub Return-gives : (v : Val) → ent 𝓤 ((Return 𝓛 at_mem run).post (at_return 𝓛 at_mem run κ q w c) v) (H.⇛ (guard 𝓤 (v ≡ vunit) (A.lft κ q)))
  Return-gives v =
      qed 𝓛 (types.Kit.raw ((Return 𝓛 at_mem run).post (at_return 𝓛 at_mem run κ q w c) v) ∷ []) ∵ updating ! $
      use1 𝓛 (later (some (λ (r : Unit {0}). ((‵ (flft κ q) ⊛ ‵ ftrue) ⊛ ‵ (unit.own_val r (v ∷ []))) ⊛ some (λ (ws : Unit {0} × Unit {0}). ‵ (fsep ftrue ftrue) ⊛ ‵ ftrue)))) (id⊢ 𝓤 _) $ await ! tt $ pick ! (λ r.
      split ! $ split ! $ move ! (1 ∷ []) $ feq_l ! (λ e. split ! $ at_once ! $ check ! (ap only e) $ keep ! (0 ∷ []) $ done !))

  pub Ask-goes : (n : ℕ) → n < 2 ^ 64 → ent 𝓤 (sep 𝓤 (sem 𝓛 (hidden_shr RQ.the_row κ w c.0 c.1)) (A.lft κ q)) ((Ask 𝓛 at_mem run).pre (at_ask 𝓛 at_mem run κ q w c n))
  Ask-goes n small =
      qed 𝓛 (‵ (hidden_shr RQ.the_row κ w c.0 c.1) ∷ ‵ (flft κ q) ∷ []) ∵
      nothing ! $ flt_i ! n (2 ^ 64) small $ feq_i ! (List Val) (vint w64 n ∷ []) (vint w64 n ∷ []) refl $ fjoin ! $ fjoin ! $
      move ! (1 ∷ []) $ feq_i ! (List Val) (vptr c.0 c.1 ∷ []) (vptr c.0 c.1 ∷ []) refl $ fjoin ! $ fjoin ! $
      nothing ! $ move ! (2 ∷ []) $ join ! $ join ! $ nothing ! $ move ! (1 ∷ []) $ done !

  abbrev pub Asked : Val → SProp 𝓤
  Asked v = ex 𝓤 (λ (y : Bool). guard 𝓤 (v ≡ vbool y) (A.lft κ q))

  pub Ask-gives : (n : ℕ) (v : Val) → ent 𝓤 ((Ask 𝓛 at_mem run).post (at_ask 𝓛 at_mem run κ q w c n) v) (H.⇛ (Asked v))
  Ask-gives n v =
      qed 𝓛 (types.Kit.raw ((Ask 𝓛 at_mem run).post (at_ask 𝓛 at_mem run κ q w c n) v) ∷ []) ∵ updating ! $
      use1 𝓛 (later (some (λ (r : Bool). ((‵ (flft κ q) ⊛ ‵ ftrue) ⊛ ‵ (bool.own_val r (v ∷ []))) ⊛ some (λ (ws : Unit {0} × (Unit {0} × Unit {0})). ‵ (fsep ftrue (fsep ftrue ftrue)) ⊛ ‵ ftrue)))) (id⊢ 𝓤 _) $ await ! tt $ pick ! (λ r.
      split ! $ split ! $ move ! (1 ∷ []) $ feq_l ! (λ e. split ! $ at_once ! $ show ! (λ (y : Bool). guard 𝓤 (v ≡ vbool y) (A.lft κ q)) r $ check ! (ap only e) $ keep ! (0 ∷ []) $ done !))
