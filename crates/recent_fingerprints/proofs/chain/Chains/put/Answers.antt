use Rattle.std.proofs.Common.{map, take, ◌∷◌, arith, sym, ap, ◌∙◌}
use Rattle.recent_fingerprints.specs.declared.note.Note.{Note}
use Rattle.recent_fingerprints.specs.Chains.{bucket_of, comes_next, first_where, note_in}
use Rattle.recent_fingerprints.proofs.Linked.{bucket-within, first-le, kept-more, notes-more}
use Rattle.recent_fingerprints.proofs.chain.Chains.put.Goals as goal

pub first-requires-clause-bucket : goal.first-requires-clause-bucket
first-requires-clause-bucket g c =
    let s = c.args.self.now in
    rw c.of-bucket.ensures (bucket-within s.ring.items s.heads.items s.buckets.factor s.buckets.shift s.places s.newest _ c.args.note.fingerprint c.requires)

pub overflow_cast-between : goal.overflow_cast-between
overflow_cast-between g c =
    let s = c.args.self.now in
    let l = first-le (comes_next s.buckets.factor s.buckets.shift c.args.note) s.ring.items in
    let e = c.between-between.ensures in
    let few = c.requires.few in
    let limit = c.requires.limit in
    omega (arith, l, e, few, limit)

pub index_mut-requires : goal.index_mut-requires
index_mut-requires g c =
    let s = c.args.self.now in
    let b = bucket-within s.ring.items s.heads.items s.buckets.factor s.buckets.shift s.places s.newest _ c.args.note.fingerprint c.requires in
    omega (arith, b, c.of-bucket.ensures, s.heads.ok.0)

pub returns-clause-kept : goal.returns-clause-kept
returns-clause-kept g c =
    let s = c.args.self.now in
    rw (c.put_first.ensures.items, c.put_first.ensures.capacity)
    (kept-more s.ring.items s.heads.items s.buckets.factor s.buckets.shift s.places s.newest _ c.of-bucket.result c.of.result c.requires
    (c.of-bucket.ensures ∙ ap (λ (n : Note). bucket_of s.buckets.factor s.buckets.shift n.fingerprint) (sym c.of.ensures.note))
    (c.of.ensures.between ∙ c.between-between.ensures ∙ ap (λ (n : Note). first_where (comes_next s.buckets.factor s.buckets.shift n) s.ring.items) (sym c.of.ensures.note)))

pub returns-clause-notes : goal.returns-clause-notes
returns-clause-notes g c =
    let s = c.args.self.now in
    ap (map note_in) c.put_first.ensures.items ∙ notes-more c.of.result s.ring.items s.places c.requires.some
    ∙ ap (λ (n : Note). take s.places (n ∷ map note_in s.ring.items)) c.of.ensures.note
