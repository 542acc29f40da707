use Rattle.std.proofs.Common.{◌<◌, ◌≤◌, ◌∙◌, sym, ap, length, arith}
use Rattle.std.specs.Prelude.{slice_index}
use Rattle.std.proofs.lemmas.List.{get_or_read}
use Rattle.std.proofs.lemmas.Option.{get_or_from_slice_get}
use Rattle.recent_fingerprints.specs.Chains.{bucket_of}
use Rattle.frame_fingerprints.specs.Held.{is_tried}
use Rattle.frame_fingerprints.specs.Chained.{no_node}
use Rattle.frame_fingerprints.proofs.Nodes.{bucket_below, link_head}
use Rattle.frame_fingerprints.proofs.Search.{is_sought, not_sought, passes, search_begins, search_ends, search_finds, search_steps, search_gone}
use Rattle.frame_fingerprints.proofs.chains.Chains.find.Goals as goal

pub index-at-requires : goal.index-at-requires
index-at-requires g c =
    let s = c.args.self.now in
    let below = bucket_below (length s.heads.items) s.buckets.factor s.buckets.shift c.args.fingerprint c.requires.kept.all_buckets in
    omega (arith, below, c.of.ensures, s.heads.ok.0)

pub loop-init : goal.loop-init
loop-init g c =
    let s = c.args.self.now in
    let below = bucket_below (length s.heads.items) s.buckets.factor s.buckets.shift c.args.fingerprint c.requires.kept.all_buckets in
    let read = get_or_read s.heads.items c.of.result c.index-at.result.now (omega (arith, below, c.of.ensures)) c.index-at.ensures 0 in
    search_begins s.nodes s.heads.items (bucket_of s.buckets.factor s.buckets.shift) (length s.heads.items) c.args.fingerprint c.args.each c.args.tried.now c.index-at.result.now below
    c.requires.kept.chained (read ∙ ap (slice_index s.heads.items) c.of.ensures ∙ sym (link_head s.nodes s.heads.items (bucket_of s.buckets.factor s.buckets.shift c.args.fingerprint)))

pub returns-then-at-len : goal.returns-then-at-len
returns-then-at-len g c =
    let s = c.args.self.now in
    let past : length s.nodes ≤ c.loop.at = omega (arith, c.len.ensures) in
    search_ends s.nodes s.heads.items c.args.fingerprint c.args.each c.args.tried.now c.loop.at c.loop.counter c.loop.invariant past

pub returns-then-is_sought : goal.returns-then-is_sought
returns-then-is_sought g c =
    let s = c.args.self.now in
    let within : c.loop.at < length s.nodes = omega (arith, c.len.ensures) in
    let read = sym (get_or_from_slice_get s.nodes c.loop.at c.get-node.result no_node c.get-node.ensures) in
    let both = is_sought (passes s.nodes c.args.fingerprint c.loop.at) (is_tried c.args.each c.args.tried.now c.loop.at) (rw (← read) (sym c.is_sought.ensures ∙ c.if-is_sought.true)) in
    search_finds s.nodes s.heads.items c.args.fingerprint c.args.each c.args.tried.now c.loop.at c.loop.counter c.loop.invariant within both.0 both.1

pub loop-preserved : goal.loop-preserved
loop-preserved g c =
    let s = c.args.self.now in
    let within : c.loop.at < length s.nodes = omega (arith, c.len.ensures) in
    let read = sym (get_or_from_slice_get s.nodes c.loop.at c.get-node.result no_node c.get-node.ensures) in
    let by = not_sought (passes s.nodes c.args.fingerprint c.loop.at) (is_tried c.args.each c.args.tried.now c.loop.at) (rw (← read) (sym c.is_sought.ensures ∙ c.if-is_sought.false)) in
    rw read (search_steps s.nodes s.heads.items c.args.fingerprint c.args.each c.args.tried.now c.loop.at c.loop.counter c.loop.invariant within by)

pub returns : goal.returns
returns g c =
    let s = c.args.self.now in
    search_gone s.nodes s.heads.items c.args.fingerprint c.args.each c.args.tried.now c.loop.at c.loop.counter c.loop.invariant (omega (arith, c.len-end.ensures, c.loop-test.false))
