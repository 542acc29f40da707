use Rattle.std.proofs.Common.{◌≡◌, replicate, vec_len}
use Rattle.std.specs.Prelude.{vec_capacity}
use Rattle.machine_frames.specs.FrameMap.{no_frames}
use Rattle.share_domain.proofs.make.new_frames.Given as goal

abbrev pub invariant-loop : goal.invariant-loop
invariant-loop g l = record { free : l.all.items ≡ replicate l.counter (no_frames l.config.frames); len : vec_len l.all ≡ l.counter; room : vec_capacity l.all ≡ l.config.machines }
