-- Why a machine is made or not, and what the handle holds afterwards.
use Rattle.std.specs.Prelude.{◌≡◌, ◌≢◌, ◌≤◌, ◌<◌, ◌⊎◌, ℕ, List, Option, Some, None, IsSome}
use Rattle.std.specs.Option.{option_map}
use Rattle.c_surface.specs.declared.status.TheConstants as status
use Rattle.page_model.specs.Limits.{shapes, AreLimits, NoShapeFor}
use Rattle.page_model.specs.Replay.{empty_state}
use Rattle.page_model.specs.declared.machine_shape.ShapeFault.TheVariants.{Frames, Guests, Pages}
use Rattle.pageshare_c.specs.Hashed.{hash_number}
use Rattle.pageshare_c.specs.Outcomes.{seen}
use Rattle.pageshare_c.specs.declared.hashed_core.HashedCore.{HashedCore}
use Rattle.pageshare_c.specs.declared.make.TheConstants.{WIDE_SHA256}

-- the caller gave a region for the frames, and it has room for another number of them
abbrev pub IsUnfit : Option ℕ → ℕ → Type 0
IsUnfit None frames = ⊥
IsUnfit (Some pages) frames = pages ≢ frames

-- What a call that makes a machine does, by its status: of these frames, pages and salts, with the hash of this number, in a
-- region of so many pages, if the caller gave one. The handle held old before, and holds new.
pub record Makes (frames : ℕ) (pages salts : List ℕ) (hash : ℕ) (region : Option ℕ) (old new : Option HashedCore) (result : ℕ) : Type 0 where
  pub made : result ≡ status.OK → AreLimits frames pages salts × ¬ IsUnfit region frames × (old ≡ None)
  pub empty : result ≡ status.OK → seen new ≡ Some (empty_state frames (shapes salts pages))
  pub named : result ≡ status.OK → option_map hash_number new ≡ Some hash
  pub kept : result ≢ status.OK → new ≡ old
  pub frames_fault : result ≡ status.FRAMES → NoShapeFor frames pages salts Frames
  pub guests_fault : result ≡ status.GUESTS → NoShapeFor frames pages salts Guests
  pub pages_fault : result ≡ status.PAGES → NoShapeFor frames pages salts Pages
  pub memory_fault : result ≡ status.MEMORY → AreLimits frames pages salts × ¬ IsUnfit region frames
  pub in_use : IsSome old → result ≡ status.IN_USE
  pub unused : result ≡ status.IN_USE → IsSome old
  pub region_fault : result ≡ status.REGION → AreLimits frames pages salts × IsUnfit region frames
  pub hash_fault : result ≡ status.HASH → WIDE_SHA256 < hash
  pub no_hash : old ≡ None → WIDE_SHA256 < hash → result ≡ status.HASH
  pub known : (result ≤ status.IN_USE) ⊎ ((result ≡ status.REGION) ⊎ (result ≡ status.HASH))
