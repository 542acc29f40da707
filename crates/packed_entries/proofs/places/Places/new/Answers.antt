use Rattle.std.proofs.Common.{◌≡◌, ℕ, replicate, [], refl, arith, ◌∙◌}
use Rattle.packed_entries.specs.Linked.{link_in, chains_from}
use Rattle.packed_entries.proofs.Threaded.{started, kept, chains_are, no_lengths, resized}
use Rattle.packed_entries.proofs.Reached.{entries_unused}
use Rattle.packed_entries.proofs.places.Places.new.Given.{Over}
use Rattle.packed_entries.proofs.places.Places.new.Goals as goal
use Rattle.packed_entries.proofs.places.Places.new.Goals.{In_ok-resize}

-- no bucket has a place
heads : (g : Over) (c : In_ok-resize g) → c.resize.new.self.items ≡ replicate c.args.buckets 0
heads g c = rw c.in_ok-resize.was at c.resize.ensures.items ∙ resized c.args.buckets _ _ c.new-heads.ensures.items c.new-heads.ensures.len

pub invariant_of-result : goal.invariant_of-result
invariant_of-result g c =
    let b : ℕ = c.args.buckets in
    rw (heads g (goal.at.invariant_of-result g c).In_ok-resize, c.in_ok-packed.ensures.items) (
      kept (replicate b 0) [] 0 0 0 [] (replicate b []) refl (started (link_in []) b) (no_lengths b),
      record { fits = omega arith; room = c.in_ok-packed.ensures.capacity; limit = c.requires },
    )

pub returns : goal.returns
returns g c =
    let b : ℕ = c.args.buckets in
    let none : chains_from [] (replicate b 0) ≡ replicate b [] = chains_are (replicate b 0) [] 0 0 [] (replicate b []) refl (started (link_in []) b) in
    rw (heads g (goal.at.returns g c).In_ok-resize, c.in_ok-packed.ensures.items, none, entries_unused c.args.capacity) refl
