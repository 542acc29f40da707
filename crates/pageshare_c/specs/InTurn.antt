-- Pages that are lent one after the other.
use Rattle.std.specs.Prelude.{◌≡◌, ℕ, List, [], ◌∷◌, Option, Some, None}
use Rattle.pageshare_c.specs.declared.answer.Answer.{Answer}
use Rattle.pageshare_c.specs.declared.group.Lending.{Lending}
use Rattle.pageshare_c.specs.declared.hashed_core.HashedCore.{HashedCore}
use Rattle.pageshare_c.specs.Framed.{frame_left, LeftFree}
use Rattle.pageshare_c.specs.Kept.{LendKept}
use Rattle.pageshare_c.specs.Outcomes.{lend_outcome, state_lent, seen}
use Rattle.pageshare_c.specs.Gets.{lend_answer}

-- A page was lent to the machine behind a handle, and C got this answer.
pub record LendsOne (guest ppn : ℕ) (page : List ℕ) (returned : Answer) (old new : Option HashedCore) : Type 0 where
  pub answer : returned ≡ lend_answer old new guest ppn page
  pub state : seen new ≡ state_lent old guest ppn page
  pub frames : LendKept guest ppn page (lend_outcome old guest ppn page) old new
  pub free : LeftFree (frame_left old guest ppn page) new

-- A page was lent, with this answer, and then came the others.
pub record LendsThen (page : Lending) (returned : Answer) (Others : Option HashedCore → Option HashedCore → Type 0)
    (old new : Option HashedCore) : Type 0 where
  pub between : Option HashedCore
  pub first : LendsOne page.guest page.ppn page.page.now returned old between
  pub others : Others between new

-- These pages were lent one after the other, and each got the answer at its place.
abbrev pub LendInTurn : List Lending → List Answer → Option HashedCore → Option HashedCore → Type 0
LendInTurn [] [] old new = new ≡ old
LendInTurn (page ∷ pages) (returned ∷ answers) old new = LendsThen page returned (LendInTurn pages answers) old new
LendInTurn _ _ old new = ⊥

-- A handle that contains a machine lends a group of pages in turn. Without one, nothing is lent, and the answers stay as they were.
abbrev pub LendsGroup : List Lending → List Answer → List Answer → Option HashedCore → Option HashedCore → Type 0
LendsGroup pages before after None new = (new ≡ None) × (after ≡ before)
LendsGroup pages before after (Some old) new = LendInTurn pages after (Some old) new
