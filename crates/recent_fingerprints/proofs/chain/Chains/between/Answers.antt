use Rattle.std.proofs.Common.{◌≡◌, ◌<◌, ◌≤◌, length, arith, sym, ap, ◌∙◌}
use Rattle.recent_fingerprints.specs.declared.note.Note.{Note}
use Rattle.recent_fingerprints.specs.Notes.{is_same}
use Rattle.recent_fingerprints.proofs.Linked.{link-none, link-other, link-same}
use Rattle.recent_fingerprints.proofs.chain.Chains.between.Goals as goal

pub returns-then-first-len : goal.returns-then-first-len
returns-then-first-len g c =
    let s = c.args.self.now in
    let len : c.len-len.result ≡ length s.ring.items = c.len-len.ensures ∙ s.ring.ok.0 in
    let past : length s.ring.items ≤ c.args.first = omega (arith, len) in
    len ∙ link-none s.buckets.factor s.buckets.shift c.args.note s.ring.items c.args.first c.requires.first past

pub returns-then-not-is_same : goal.returns-then-not-is_same
returns-then-not-is_same g c =
    let s = c.args.self.now in
    let len : c.len-len.result ≡ length s.ring.items = c.len-len.ensures ∙ s.ring.ok.0 in
    let within : c.args.first < length s.ring.items = omega (arith, len) in
    link-other s.buckets.factor s.buckets.shift c.args.note s.ring.items c.args.first c.index-place.result.now c.requires.first within c.index-place.ensures (ap (λ (n : Note). is_same c.args.note n) (sym c.note.ensures) ∙ sym c.is_same.ensures ∙ c.if-not-is_same.true)

pub returns : goal.returns
returns g c =
    let s = c.args.self.now in
    let len : c.len-len.result ≡ length s.ring.items = c.len-len.ensures ∙ s.ring.ok.0 in
    let within : c.args.first < length s.ring.items = omega (arith, len) in
    let l = link-same s.buckets.factor s.buckets.shift c.args.note s.ring.items c.args.first c.index-place.result.now c.requires.kept.linked c.requires.first within c.index-place.ensures (ap (λ (n : Note). is_same c.args.note n) (sym c.note.ensures) ∙ sym c.is_same.ensures ∙ c.if-not-is_same.false) in
    omega (arith, len, l)
