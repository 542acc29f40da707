-- A `&` to the allocator: where its two fields lie, and what it gives of each. Assumes `Logic`.
use Rattle.std.proofs.Common.{ℕ, ◌+◌, [], ◌∷◌}
use seplogic.Ra.Ura.{Ura}
use base.Logic.{ent, sep, id⊢}
use base.Fml.{Lft}
use prog.Memory.{size, align, up}
use types.Logic.{Logic, sem}
use types.Kit.{‵, ◌$◌, ◌∵◌, !, qed, keep, use1, fsplit, frame, done}
use denote.Memory.{hidden_shr}
use denote.Opens.{unhide}
use denote.Param.{param}
use denote.RattleType.{RattleType}
use Rattle.std.proofs.alloc.Calls.{Al, α, seen}
use Rattle.refusing.specs.contracts.Refusing as refusing
use Rattle.refusing.specs.contracts.Requests as requests

module _ (Z : Al) where
  abbrev pub Handle : RattleType
  Handle = refusing.the_row (param 0 Z.row)

  -- the inner allocator comes first
  abbrev pub inner_at : ℕ × ℕ → ℕ × ℕ
  inner_at at = (at.0, at.1 + up (align (α Z)) 0)

  -- the counts lie behind it
  abbrev pub counts_at : ℕ × ℕ → ℕ × ℕ
  counts_at at = (at.0, at.1 + up 8 (up (align (α Z)) 0 + size (α Z)))

  pub opened : {M : Type 1} {𝓤 : Ura M} (𝓛 : Logic 𝓤) (κ : Lft) (at : ℕ × ℕ) (x : Handle.Denot)
      → ent 𝓤 (sem 𝓛 (hidden_shr Handle κ x at.0 at.1))
      (sep 𝓤 (sem 𝓛 (seen Z κ (inner_at at) x.inner)) (sem 𝓛 (hidden_shr requests.the_row κ x.requests (counts_at at).0 (counts_at at).1)))
  opened {𝓤 = 𝓤} 𝓛 κ at x =
      qed 𝓛 (‵ (hidden_shr Handle κ x at.0 at.1) ∷ []) ∵ unhide ! $ fsplit ! $ fsplit ! $
      use1 𝓛 (‵ (seen Z κ (inner_at at) x.inner)) (id⊢ 𝓤 _) $ frame ! $ fsplit ! $ keep ! (0 ∷ []) $ done !
