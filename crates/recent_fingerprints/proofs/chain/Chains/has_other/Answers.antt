use Rattle.std.proofs.Common.{◌<◌, ◌≤◌, length, arith, sym, ap, ◌∙◌}
use Rattle.recent_fingerprints.specs.declared.note.Note.{Note}
use Rattle.recent_fingerprints.specs.Notes.{is_other}
use Rattle.recent_fingerprints.specs.Chains.{in_bucket, first_where}
use Rattle.recent_fingerprints.proofs.Linked.{bucket-within, search-begins, search-steps, search-finds, search-ends}
use Rattle.recent_fingerprints.proofs.chain.Chains.has_other.Goals as goal

pub first-age-requires-clause-bucket : goal.first-age-requires-clause-bucket
first-age-requires-clause-bucket g c =
    let s = c.args.self.now in
    rw c.of.ensures (bucket-within s.ring.items s.heads.items s.buckets.factor s.buckets.shift s.places s.newest _ c.args.asked.fingerprint c.requires)

pub loop-age-init : goal.loop-age-init
loop-age-init g c =
    let s = c.args.self.now in
    search-begins s.buckets.factor s.buckets.shift c.args.lives.now c.args.asked s.ring.items c.first-age.result (c.first-age.ensures ∙ ap (λ b. first_where (in_bucket s.buckets.factor s.buckets.shift b) s.ring.items) c.of.ensures)

pub returns-then-is_other : goal.returns-then-is_other
returns-then-is_other g c =
    let s = c.args.self.now in
    let within : c.loop-age.age < length s.ring.items = omega (arith, c.len.ensures, s.ring.ok.0) in
    sym (search-finds s.buckets.factor s.buckets.shift c.args.lives.now c.args.asked s.ring.items c.loop-age.age c.index-place.result.now c.loop-age.invariant within c.index-place.ensures (ap (λ (n : Note). is_other c.args.lives.now c.args.asked n) (sym c.note.ensures) ∙ sym c.is_other.ensures ∙ c.if-is_other.true))

pub loop-age-preserved : goal.loop-age-preserved
loop-age-preserved g c =
    let s = c.args.self.now in
    let within : c.loop-age.age < length s.ring.items = omega (arith, c.len.ensures, s.ring.ok.0) in
    search-steps s.buckets.factor s.buckets.shift c.args.lives.now c.args.asked s.ring.items c.loop-age.age c.index-place.result.now c.requires.linked c.loop-age.invariant within c.index-place.ensures (ap (λ (n : Note). is_other c.args.lives.now c.args.asked n) (sym c.note.ensures) ∙ sym c.is_other.ensures ∙ c.if-is_other.false)

pub returns : goal.returns
returns g c =
    let s = c.args.self.now in
    let past : length s.ring.items ≤ c.loop-age.age = omega (arith, c.len.ensures, s.ring.ok.0) in
    sym (search-ends s.buckets.factor s.buckets.shift c.args.lives.now c.args.asked s.ring.items c.loop-age.age c.loop-age.invariant past)
