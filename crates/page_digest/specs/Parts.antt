-- What workers hash, and what they return.
use Rattle.std.specs.Prelude.{◌≡◌, ℕ, ◌≤◌, List, [], map, length, vec_capacity}
use Rattle.std.specs.List.{concat}
use Rattle.std.specs.declared.vec.Vec.{Vec}
use Rattle.std.specs.declared.thread.PromisedHandle.{PromisedHandle}
use Rattle.machine_frames.specs.FrameMap.{FrameMap}
use Rattle.page_digest.specs.declared.workers.Part.{Part}
use Rattle.page_digest.specs.declared.workers.Task.{Task}
use Rattle.page_digest.specs.Many.{AreTaken, frame_hashes}

module _ {H B : Type 0} where
  -- the hashes that a worker must return
  abbrev pub hashes_of_part : (ℕ → List ℕ → ℕ) → Part H B → List ℕ
  hashes_of_part hash part = frame_hashes hash part.frames.now part.pairs.now

  -- the hashes that several workers must return, one after the other
  abbrev pub hashes_of_parts : (ℕ → List ℕ → ℕ) → List (Part H B) → List ℕ
  hashes_of_parts hash parts = concat (map (hashes_of_part hash) parts)

module _ {H A B : Type 0} where
  -- the frames are taken, and the list of hashes is empty, with room for theirs
  pub record IsReady (task : Task H A B) : Type 0 where
    pub taken : AreTaken task.part.frames.now task.part.pairs.now
    pub empty : task.hashes.items ≡ []
    pub room : length task.part.pairs.now ≤ vec_capacity task.hashes

  abbrev pub task_parts : List (Task H A B) → List (Part H B)
  task_parts tasks = map (λ task. task.part) tasks

  -- the parts that the threads were started with
  abbrev pub parts_of : List (PromisedHandle (Vec ℕ A) (Part H B)) → List (Part H B)
  parts_of handles = map (λ handle. handle.promise) handles

-- the frames are taken, parts of this size are neither empty nor longer than the list of pairs, and the list of hashes is
-- empty, with room for all
pub record CanShare {A : Type 0} (frames : FrameMap) (pairs : List (ℕ × ℕ)) (size : ℕ) (hashes : Vec ℕ A) : Type 0 where
  pub taken : AreTaken frames pairs
  pub some : 1 ≤ size
  pub most : size ≤ length pairs
  pub empty : hashes.items ≡ []
  pub room : length pairs ≤ vec_capacity hashes
