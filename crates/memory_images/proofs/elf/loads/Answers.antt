use Rattle.memory_images.specs.Images.{loads}
use Rattle.memory_images.proofs.Loaded.{more_loads}
use Rattle.memory_images.proofs.elf.loads.Goals as goal

pub loop-n-init : goal.loop-n-init
unfolding loads
loop-n-init g c = λ steady. c.new-segments.ensures.items

pub loop-n-preserved : goal.loop-n-preserved
loop-n-preserved g c = λ steady.
    more_loads (g.R.ReadAt.bytes c.args.reader.now) c.args.table c.loop-n.n c.loop-n.segments.items c.push_load.new.segments.items c.in_ok-header.header
    (c.loop-n.invariant steady) (c.in_ok-header.ensures.read steady) (c.in_ok-push_load.ensures {u = tt})
