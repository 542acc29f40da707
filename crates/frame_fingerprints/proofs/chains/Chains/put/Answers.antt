use Rattle.std.proofs.Common.{◌≡◌, ◌∙◌, ap, length, arith}
use Rattle.std.specs.Prelude.{slice_index}
use Rattle.std.proofs.lemmas.List.{get_or_read}
use Rattle.recent_fingerprints.specs.Chains.{bucket_of}
use Rattle.frame_fingerprints.proofs.Nodes.{bucket_below}
use Rattle.frame_fingerprints.proofs.Changes.{put_kept, put_held}
use Rattle.frame_fingerprints.proofs.chains.Chains.put.Goals as goal

pub index-next-requires : goal.index-next-requires
index-next-requires g c =
    let s = c.args.self.now in
    let below = bucket_below (length s.heads.items) s.buckets.factor s.buckets.shift c.args.fingerprint c.requires.kept.all_buckets in
    omega (arith, below, c.of-bucket.ensures, s.heads.ok.0)

pub overflow_cast-before : goal.overflow_cast-before
overflow_cast-before g c =
    let s = c.args.self.now in
    let below = bucket_below (length s.heads.items) s.buckets.factor s.buckets.shift c.args.fingerprint c.requires.kept.all_buckets in
    let few = c.requires.kept.few in
    omega (arith, below, c.of-bucket.ensures, few)

pub overflow_add-before : goal.overflow_add-before
overflow_add-before g c =
    let s = c.args.self.now in
    let below = bucket_below (length s.heads.items) s.buckets.factor s.buckets.shift c.args.fingerprint c.requires.kept.all_buckets in
    let few = c.requires.kept.few in
    let limit = c.requires.kept.limit in
    omega (arith, below, c.of-bucket.ensures, few, limit, c.len.ensures)

pub index_mut-requires : goal.index_mut-requires
index_mut-requires g c =
    let s = c.args.self.now in
    let below = bucket_below (length s.heads.items) s.buckets.factor s.buckets.shift c.args.fingerprint c.requires.kept.all_buckets in
    omega (arith, below, c.of-bucket.ensures, s.heads.ok.0)

pub returns-clause-kept : goal.returns-clause-kept
returns-clause-kept g c =
    let s = c.args.self.now in
    let below = bucket_below (length s.heads.items) s.buckets.factor s.buckets.shift c.args.fingerprint c.requires.kept.all_buckets in
    let read = get_or_read s.heads.items c.of-bucket.result c.index-next.result.now (omega (arith, below, c.of-bucket.ensures)) c.index-next.ensures 0 in
    let next : c.index-next.result.now ≡ slice_index s.heads.items (bucket_of s.buckets.factor s.buckets.shift c.args.fingerprint) = read ∙ ap (slice_index s.heads.items) c.of-bucket.ensures in
    rw (c.set_before.ensures, c.set.ensures, next, c.of-bucket.ensures, c.len.ensures)
    (put_kept s.nodes s.heads.items s.buckets.factor s.buckets.shift c.args.frame c.args.fingerprint c.requires.kept c.requires.within c.requires.free)

pub returns-clause-held : goal.returns-clause-held
returns-clause-held g c =
    let s = c.args.self.now in
    let below = bucket_below (length s.heads.items) s.buckets.factor s.buckets.shift c.args.fingerprint c.requires.kept.all_buckets in
    let read = get_or_read s.heads.items c.of-bucket.result c.index-next.result.now (omega (arith, below, c.of-bucket.ensures)) c.index-next.ensures 0 in
    let next : c.index-next.result.now ≡ slice_index s.heads.items (bucket_of s.buckets.factor s.buckets.shift c.args.fingerprint) = read ∙ ap (slice_index s.heads.items) c.of-bucket.ensures in
    rw (c.set_before.ensures, c.set.ensures, next, c.of-bucket.ensures, c.len.ensures)
    (put_held s.nodes s.heads.items s.buckets.factor s.buckets.shift c.args.frame c.args.fingerprint c.requires.kept c.requires.within c.requires.free)
