-- Hashes of listed frames.
use Rattle.std.proofs.Common.{◌≡◌, ℕ, zero, suc, ◌<◌, List, [], ◌∷◌, Option, Some, None, length, get_or, refl, ap, ◌∙◌, arith}
use Rattle.std.specs.Prelude.{unwrap_or}
use Rattle.machine_frames.specs.FrameMap.{FrameMap, frame}
use Rattle.page_digest.specs.Many.{bytes_of, frame_hash, frame_hashes}
use Rattle.merge_core.specs.Pmap.{bytes_in}

bytes_or_none : (o : Option (List ℕ)) → bytes_of o ≡ unwrap_or o []
bytes_or_none None = refl
bytes_or_none (Some bytes) = refl

listed : (hash : ℕ → List ℕ → ℕ) (frames : FrameMap) (pairs : List (ℕ × ℕ)) (n : ℕ) → n < length pairs → get_or (frame_hashes hash frames pairs) n 0 ≡ frame_hash hash frames (get_or pairs n (0, 0))
listed hash frames [] n l = absurd (omega arith)
listed hash frames (p ∷ pairs) zero l = refl
listed hash frames (p ∷ pairs) (suc n) l = listed hash frames pairs n (omega arith)

-- the hash at a place of the list is that of the frame at that place of the pairs
pub hash_at : (hash : ℕ → List ℕ → ℕ) (frames : FrameMap) (pairs : List (ℕ × ℕ)) (n : ℕ) → n < length pairs → get_or (frame_hashes hash frames pairs) n 0 ≡ hash (get_or pairs n (0, 0)).0 (bytes_in frames (get_or pairs n (0, 0)).1)
unfolding bytes_in
hash_at hash frames pairs n l = let p = get_or pairs n (0, 0) in listed hash frames pairs n l ∙ ap (hash p.0) (bytes_or_none (frame frames p.1))
