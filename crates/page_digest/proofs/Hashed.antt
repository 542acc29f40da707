-- More frames are hashed, and more parts.
use Rattle.std.proofs.Common.{◌≡◌, ℕ, ◌+◌, ◌≤◌, List, [], ◌∷◌, ◌++◌, length, map, take, drop, refl, sym, ap, ◌∙◌, arith, length-append}
use Rattle.std.proofs.lemmas.List.{append_assoc, append-nil, map-append, take-append-drop}
use Rattle.std.proofs.lemmas.List.Folds.{concat-append}
use Rattle.std.proofs.Math.Seq.{take-add}
use Rattle.std.specs.List.{concat}
use Rattle.std.specs.declared.vec.Vec.{Vec}
use Rattle.std.specs.declared.thread.PromisedHandle.{PromisedHandle}
use Rattle.machine_frames.specs.FrameMap.{FrameMap}
use Rattle.page_digest.specs.Many.{frame_hash, frame_hashes}
use Rattle.page_digest.specs.Parts.{hashes_of_part, hashes_of_parts, parts_of, task_parts}
use Rattle.page_digest.specs.declared.workers.Part.{Part}
use Rattle.page_digest.specs.declared.workers.Task.{Task}

-- the hashes of the pairs up to n, and of k more
pub more_hashes : (hash : ℕ → List ℕ → ℕ) (frames : FrameMap) (pairs : List (ℕ × ℕ)) (n k : ℕ)
    → frame_hashes hash frames (take (n + k) pairs) ≡ frame_hashes hash frames (take n pairs) ++ frame_hashes hash frames (take k (drop n pairs))
more_hashes hash frames pairs n k =
    ap (map (frame_hash hash frames)) (take-add n k pairs) ∙ map-append (frame_hash hash frames) (take n pairs) (take k (drop n pairs))

module _ {H B : Type 0} where
  -- one part more
  pub more_parts : (hash : ℕ → List ℕ → ℕ) (parts : List (Part H B)) (part : Part H B)
      → hashes_of_parts hash (parts ++ part ∷ []) ≡ hashes_of_parts hash parts ++ hashes_of_part hash part
  more_parts hash parts part =
      ap concat (map-append (hashes_of_part hash) parts (part ∷ [])) ∙ concat-append (map (hashes_of_part hash) parts) (hashes_of_part hash part ∷ [])
      ∙ ap (λ (last : List ℕ). hashes_of_parts hash parts ++ last) (append-nil (hashes_of_part hash part))

  pub parts_apart : (hash : ℕ → List ℕ → ℕ) (parts rest : List (Part H B))
      → hashes_of_parts hash (parts ++ rest) ≡ hashes_of_parts hash parts ++ hashes_of_parts hash rest
  parts_apart hash parts rest =
      ap concat (map-append (hashes_of_part hash) parts rest) ∙ concat-append (map (hashes_of_part hash) parts) (map (hashes_of_part hash) rest)

-- what stands there once k more are hashed
pub hashes_on : (hash : ℕ → List ℕ → ℕ) (frames : FrameMap) (pairs : List (ℕ × ℕ)) (n k : ℕ) (start before after : List ℕ)
    → before ≡ start ++ frame_hashes hash frames (take n pairs) → after ≡ before ++ frame_hashes hash frames (take k (drop n pairs))
    → after ≡ start ++ frame_hashes hash frames (take (n + k) pairs)
hashes_on hash frames pairs n k start before after eb ea =
    ea ∙ rw (eb, more_hashes hash frames pairs n k)
    (append_assoc start (frame_hashes hash frames (take n pairs)) (frame_hashes hash frames (take k (drop n pairs))))

module _ {H A B : Type 0} where
  -- one handle more is joined
  pub more_joined : (hash : ℕ → List ℕ → ℕ) (handles : List (PromisedHandle (Vec ℕ A) (Part H B))) (handle : PromisedHandle (Vec ℕ A) (Part H B)) (start before after part : List ℕ)
      → before ≡ start ++ hashes_of_parts hash (parts_of handles) → part ≡ hashes_of_part hash handle.promise → after ≡ before ++ part
      → after ≡ start ++ hashes_of_parts hash (parts_of (handles ++ handle ∷ []))
  more_joined hash handles handle start before after part eb ep ea =
      let names : parts_of (handles ++ handle ∷ []) ≡ parts_of handles ++ handle.promise ∷ [] = map-append (λ (h : PromisedHandle (Vec ℕ A) (Part H B)). h.promise) handles (handle ∷ []) in
      ea ∙ rw (eb, ep, names, more_parts hash (parts_of handles) handle.promise)
      (append_assoc start (hashes_of_parts hash (parts_of handles)) (hashes_of_part hash handle.promise))

  -- the room that the parts left take
  pub room_left : (hash : ℕ → List ℕ → ℕ) (handles rest all : List (PromisedHandle (Vec ℕ A) (Part H B))) (handle : PromisedHandle (Vec ℕ A) (Part H B)) → handles ++ handle ∷ rest ≡ all
      → length (hashes_of_parts hash (parts_of handles)) + length (hashes_of_part hash handle.promise) ≤ length (hashes_of_parts hash (parts_of all))
  room_left hash handles rest all handle e =
      let names : parts_of (handles ++ handle ∷ rest) ≡ parts_of handles ++ handle.promise ∷ parts_of rest = map-append (λ (h : PromisedHandle (Vec ℕ A) (Part H B)). h.promise) handles (handle ∷ rest) in
      let apart = parts_apart hash (parts_of handles) (handle.promise ∷ parts_of rest) in
      let sizes : length (hashes_of_parts hash (parts_of (handles ++ handle ∷ rest))) ≡ length (hashes_of_parts hash (parts_of handles)) + (length (hashes_of_part hash handle.promise) + length (hashes_of_parts hash (parts_of rest))) =
      ap (λ (ps : List (Part H B)). length (hashes_of_parts hash ps)) names ∙ ap length apart
      ∙ length-append (hashes_of_parts hash (parts_of handles)) (hashes_of_part hash handle.promise ++ hashes_of_parts hash (parts_of rest))
      ∙ ap (λ (k : ℕ). length (hashes_of_parts hash (parts_of handles)) + k) (length-append (hashes_of_part hash handle.promise) (hashes_of_parts hash (parts_of rest))) in
      let same = ap (λ (hs : List (PromisedHandle (Vec ℕ A) (Part H B))). length (hashes_of_parts hash (parts_of hs))) e in
      omega (arith, sizes, same)

module _ {H A B : Type 0} where
  -- one task more, with the part that follows
  pub more_tasks : (hash : ℕ → List ℕ → ℕ) (frames : FrameMap) (pairs : List (ℕ × ℕ)) (n k : ℕ) (tasks : List (Task H A B)) (task : Task H A B)
      → hashes_of_parts hash (task_parts tasks) ≡ frame_hashes hash frames (take n pairs)
      → hashes_of_part hash task.part ≡ frame_hashes hash frames (take k (drop n pairs))
      → hashes_of_parts hash (task_parts (tasks ++ task ∷ [])) ≡ frame_hashes hash frames (take (n + k) pairs)
  more_tasks hash frames pairs n k tasks task before here =
      let names : task_parts (tasks ++ task ∷ []) ≡ task_parts tasks ++ task.part ∷ [] = map-append (λ (t : Task H A B). t.part) tasks (task ∷ []) in
      rw (names, more_parts hash (task_parts tasks) task.part, before, here, more_hashes hash frames pairs n k) refl

-- the first part's hashes and then those of the other parts are the hashes of all
pub parts_together : {H B : Type 0} (hash : ℕ → List ℕ → ℕ) (frames : FrameMap) (pairs : List (ℕ × ℕ)) (size : ℕ) (parts : List (Part H B)) (none own all : List ℕ)
    → none ≡ [] → own ≡ none ++ frame_hashes hash frames (take size pairs) → all ≡ own ++ hashes_of_parts hash parts
    → hashes_of_parts hash parts ≡ frame_hashes hash frames (drop size pairs) → all ≡ frame_hashes hash frames pairs
parts_together hash frames pairs size parts none own all en eo ea rest =
    ea ∙ rw (eo, en, rest) (sym (map-append (frame_hash hash frames) (take size pairs) (drop size pairs)) ∙ ap (map (frame_hash hash frames)) (take-append-drop size pairs))
