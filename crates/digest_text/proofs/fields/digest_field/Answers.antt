use Rattle.std.proofs.Common.{◌≡◌, ◌-◌, ◌<◌, ℕ, List, take, drop, length, get_or, Some, sym, ap, ◌∙◌, arith, length-drop}
use Rattle.std.proofs.lemmas.List.{length-take-le, take_all}
use Rattle.digest_text.proofs.Digits.{digest_first_is, digest_first_none, no_digest_first}
use Rattle.digest_text.proofs.fields.digest_field.Goals.{then-bytes-le32-via-then-bytes-le32, then-bytes-le32-via-else-bytes-le32+then-bytes-ne44}
use Rattle.digest_text.proofs.fields.digest_field.Goals as goal

pub returns-then-bytes-le32 : goal.returns-then-bytes-le32
returns-then-bytes-le32 c = elim c.then-bytes-le32.branch [
  | then-bytes-le32-via-then-bytes-le32 w ↦ sym (no_digest_first c.args.bytes.now (λ within. absurd (let few = w.if-bytes-le32.true in omega (arith, few))))
  | then-bytes-le32-via-else-bytes-le32+then-bytes-ne44 w ↦ sym (no_digest_first c.args.bytes.now (λ within e. w.if-bytes-ne44.true e))
]

pub slice_bounds-word-end : goal.slice_bounds-word-end
slice_bounds-word-end c = sym (length-take-le 32 c.args.bytes.now (omega (arith, c.if-bytes-le32.false)))

pub returns-in-Some : goal.returns-in-Some
returns-in-Some c =
    let bytes = c.args.bytes.now in
    let within : 32 < length bytes = omega (arith, c.if-bytes-le32.false) in
    let comma : get_or bytes 32 0 ≡ 44 = c.if-bytes-ne44.false in
    let rest : take (length bytes - 33) (drop 33 bytes) ≡ drop 33 bytes = take_all (length bytes - 33) (drop 33 bytes) (omega (arith, length-drop 33 bytes)) in
    ap (λ (xs : List ℕ). Some (c.in-Some.digest, xs)) rest ∙ sym (digest_first_is bytes c.in-Some.digest within comma (sym c.in-Some.ensures))

pub returns-in-None : goal.returns-in-None
returns-in-None c =
    let bytes = c.args.bytes.now in
    let within : 32 < length bytes = omega (arith, c.if-bytes-le32.false) in
    let comma : get_or bytes 32 0 ≡ 44 = c.if-bytes-ne44.false in
    sym (digest_first_none bytes within comma (sym c.in-None.ensures))
