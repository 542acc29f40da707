-- Why no core was made.
use Rattle.std.specs.Prelude.{ℕ, List}
pub use Rattle.page_model.specs.Limits.{AreLimits}
use Rattle.page_model.specs.Limits.{AreFrames, AreGuests, ArePages}
use Rattle.page_model.specs.declared.machine_shape.ShapeFault.{ShapeFault}
use Rattle.page_model.specs.declared.machine_shape.ShapeFault.TheVariants as shape
use Rattle.merge_core.specs.declared.fault.CoreFault.{CoreFault}
use Rattle.merge_core.specs.declared.fault.CoreFault.TheVariants.{Frames, Guests, Pages, OutOfMemory}

-- the first cause for which there is no core of these frames, pages and salts; lack of memory is the cause only if there is
-- no other
abbrev pub NoCoreFor : ℕ → List ℕ → List ℕ → CoreFault → Type 0
NoCoreFor frames pages salts Frames = ¬ AreFrames frames
NoCoreFor frames pages salts Guests = AreFrames frames × ¬ AreGuests salts pages
NoCoreFor frames pages salts Pages = AreFrames frames × AreGuests salts pages × ¬ ArePages pages
NoCoreFor frames pages salts OutOfMemory = AreLimits frames pages salts

-- why there is no machine of this shape, as a fault of the core
abbrev pub fault_of : ShapeFault → CoreFault
fault_of shape.Frames = Frames
fault_of shape.Guests = Guests
fault_of shape.Pages = Pages
