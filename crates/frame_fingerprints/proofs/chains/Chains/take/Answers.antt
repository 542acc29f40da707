use Rattle.std.proofs.Common.{sym}
use Rattle.std.proofs.lemmas.Option.{get_or_from_slice_get}
use Rattle.frame_fingerprints.specs.Chained.{no_node, node_at}
use Rattle.frame_fingerprints.proofs.Changes.{before_below, fingerprint_at, taken_kept, taken_held}
use Rattle.frame_fingerprints.proofs.chains.Chains.take.Goals as goal

pub set_link-requires : goal.set_link-requires
set_link-requires g c =
    let s = c.args.self.now in
    let read = sym (get_or_from_slice_get s.nodes c.args.frame c.get-node.result no_node c.get-node.ensures) in
    rw read (before_below s.nodes s.heads.items s.buckets.factor s.buckets.shift c.args.frame (node_at s.nodes c.args.frame).fingerprint c.requires.kept c.requires.within (fingerprint_at s.nodes c.args.frame c.requires.used))

pub returns-clause-kept : goal.returns-clause-kept
returns-clause-kept g c =
    let s = c.args.self.now in
    let read = sym (get_or_from_slice_get s.nodes c.args.frame c.get-node.result no_node c.get-node.ensures) in
    rw (c.set_before-2.ensures, c.set_before.ensures, c.set_link.ensures.nodes, c.set_link.ensures.heads, c.set_link.ensures.buckets, read)
    (taken_kept s.nodes s.heads.items s.buckets.factor s.buckets.shift c.args.frame (node_at s.nodes c.args.frame).fingerprint c.requires.kept c.requires.within (fingerprint_at s.nodes c.args.frame c.requires.used))

pub returns-clause-held : goal.returns-clause-held
returns-clause-held g c =
    let s = c.args.self.now in
    let read = sym (get_or_from_slice_get s.nodes c.args.frame c.get-node.result no_node c.get-node.ensures) in
    rw (c.set_before-2.ensures, c.set_before.ensures, c.set_link.ensures.nodes, read)
    (taken_held s.nodes s.heads.items s.buckets.factor s.buckets.shift c.args.frame (node_at s.nodes c.args.frame).fingerprint c.requires.kept c.requires.within (fingerprint_at s.nodes c.args.frame c.requires.used))
