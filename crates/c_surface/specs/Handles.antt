-- What a call does that makes what a handle holds, or what it needs for that.
use Rattle.std.specs.Prelude.{◌≡◌, ◌≢◌, ◌⊎◌, ℕ, Option, Some, None}
use Rattle.c_surface.specs.declared.status.TheConstants as status

-- What a handle holds is made, or begun, by the status: the first cause that holds, or lack of memory where there is no other; then the
-- handle is as it was.
pub record Makes {X : Type 0} (cause : ℕ) (made : X) (old new : Option X) (st : ℕ) : Type 0 where
  pub refused : cause ≢ status.OK → st ≡ cause
  pub memory : cause ≡ status.OK → (st ≡ status.OK) ⊎ (st ≡ status.MEMORY)
  pub done : st ≡ status.OK → new ≡ Some made
  pub kept : st ≢ status.OK → new ≡ old

-- The frames of one machine are added to what was begun, or not: for the first cause that holds, and then the handle is as it was; or
-- for lack of memory, and then it holds nothing.
pub record Adds {X : Type 0} (cause : ℕ) (more old new : Option X) (st : ℕ) : Type 0 where
  pub refused : cause ≢ status.OK → (st ≡ cause) × (new ≡ old)
  pub memory : cause ≡ status.OK → (st ≡ status.OK) ⊎ (st ≡ status.MEMORY)
  pub added : st ≡ status.OK → new ≡ more
  pub lost : st ≡ status.MEMORY → new ≡ None
