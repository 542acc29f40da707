-- A merger before its first step.
use Rattle.std.proofs.Common.{◌≡◌, ℕ, All, List, [], refl, ap, sym, ◌∙◌}
use Rattle.page_model.specs.Pages.{State}
use Rattle.page_model.specs.Parts.{MachineParts}
use Rattle.page_model.specs.Replay.{empty_state, state_after}
use Rattle.page_model.specs.Limits.{shapes}
use Rattle.share_rings.specs.declared.merger_end.MergerEnd.{MergerEnd}
use Rattle.merge_machine.specs.Kept.{Keeps}
use Rattle.merge_machine.specs.Fresh.{IsFreshEnd}
use Rattle.merge_machine.specs.Limits.{Numbers}
use Rattle.merge_machine.specs.Machines.{opening, IsReplayOf}
use Rattle.merge_machine.proofs.Openings.{opening_empty}

-- ends through which nothing went keep the empty journal
pub keeps_nothing : {A : Type 0} (hash : ℕ → List ℕ → ℕ) (machine : State) (capacity : ℕ) (ends : List (MergerEnd A)) → All (IsFreshEnd capacity) ends → Keeps hash machine ends []
keeps_nothing hash machine capacity ends all i d l = ((all i d l).taken, (all i d l).given)

-- a machine before its first request is the replay of the empty journal
pub replay_of_nothing : (hash : ℕ → List ℕ → ℕ) (s : State) → opening s ≡ s → IsReplayOf hash s []
unfolding state_after
replay_of_nothing hash s e = sym e

-- an empty machine is its own opening
pub is_opening : (s : State) (frames : ℕ) (salts pages : List ℕ) → s ≡ empty_state frames (shapes salts pages) → opening s ≡ s
is_opening s frames salts pages e = ap opening e ∙ (opening_empty frames (shapes salts pages) ∙ sym e)

-- and the one of this shape, whose numbers are these
pub opens_empty : (s : State) (shape : MachineParts) (numbers : Numbers) → s ≡ empty_state shape.frames (shapes shape.salts shape.pages) → shape.frames ≡ numbers.frames → shape.salts ≡ numbers.salts → shape.pages ≡ numbers.pages
    → opening s ≡ empty_state numbers.frames (shapes numbers.salts numbers.pages)
opens_empty s shape numbers e f g h = is_opening s shape.frames shape.salts shape.pages e ∙ (e ∙ rw (f, g, h) refl)
