-- Bytes that are written one part after the other.
use Rattle.std.proofs.Common.{◌≡◌, ℕ, ◌+◌, List, [], ◌++◌, length, take, drop, Option, Result, Ok, Err, refl, sym, ap, ◌∙◌, append_assoc, append-nil}
use Rattle.std.specs.Prelude.{IsErr}
use Rattle.std.specs.Io.KnownBytes.{Appends, Keeps}
use Rattle.std.proofs.KnownBytes.{Appends-kept, Appends-nil, Appends-trans}
use Rattle.std.proofs.Math.Seq.{take-add, take-append_seam}
use Rattle.std.proofs.lemmas.Grind.{flat_map-append}
use Rattle.std.proofs.lemmas.List.{take-append-drop}
use Rattle.guest_digests.specs.declared.line.DigestLine.{DigestLine}
use Rattle.digest_text.specs.Written.{AppendsFront, IsSent, counted_text, lines_text}

module _ (a b c : Option (List ℕ)) where
  -- more of a list of bytes was written
  pub bytes_more : (bytes : List ℕ) (done n : ℕ) → Appends a b (take done bytes) → Appends b c (take n (drop done bytes)) → Appends a c (take (done + n) bytes)
  bytes_more bytes done n first next = rw (take-add done n bytes) (Appends-trans a b c (take done bytes) (take n (drop done bytes)) first next)

  -- more of a list of lines was written
  pub lines_more : (head : List ℕ) (lines : List DigestLine) (done n : ℕ) → Appends a b (lines_text head (take done lines)) → Appends b c (lines_text head (take n (drop done lines)))
      → Appends a c (lines_text head (take (done + n) lines))
  lines_more head lines done n first next =
      let line = λ (l : DigestLine). head ++ counted_text l in
      rw (take-add done n lines, flat_map-append line (take done lines) (take n (drop done lines))) (Appends-trans a b c (lines_text head (take done lines)) (lines_text head (take n (drop done lines))) first next)

  -- a front of what comes next was written, so a front of the whole
  pub front_on : (sent more rest whole : List ℕ) → sent ++ (more ++ rest) ≡ whole → Appends a b sent → AppendsFront b c more → AppendsFront a c whole
  front_on sent more rest whole e first next =
      let front : List ℕ = sent ++ take next.0 more in
      let left : List ℕ = drop next.0 more ++ rest in
      let parts : front ++ left ≡ whole =
      append_assoc sent (take next.0 more) left
      ∙ ap (λ (xs : List ℕ). sent ++ xs) (sym (append_assoc (take next.0 more) (drop next.0 more) rest) ∙ ap (λ (xs : List ℕ). xs ++ rest) (take-append-drop next.0 more))
      ∙ e in
      (length front, rw (← parts, take-append_seam front left) (Appends-trans a b c sent (take next.0 more) first next.1))

-- the lines at a place are those that come next and the others
pub lines_parts : (head : List ℕ) (lines : List DigestLine) (done n : ℕ)
    → lines_text head (take done lines) ++ (lines_text head (take n (drop done lines)) ++ lines_text head (drop n (drop done lines))) ≡ lines_text head lines
lines_parts head lines done n =
    let line = λ (l : DigestLine). head ++ counted_text l in
    let next : lines_text head (take n (drop done lines)) ++ lines_text head (drop n (drop done lines)) ≡ lines_text head (drop done lines) =
    sym (flat_map-append line (take n (drop done lines)) (drop n (drop done lines))) ∙ ap (lines_text head) (take-append-drop n (drop done lines)) in
    ap (λ (xs : List ℕ). lines_text head (take done lines) ++ xs) next
    ∙ sym (flat_map-append line (take done lines) (drop done lines))
    ∙ ap (lines_text head) (take-append-drop done lines)

module _ {E : Type 0} (a b : Option (List ℕ)) where
  -- a front of what comes first was written
  pub cut_first : (first rest : List ℕ) (r : Result (Unit {0}) E) → IsErr r → AppendsFront a b first → IsSent a b (first ++ rest) r
  cut_first first rest (Ok done) is front = cc
  cut_first first rest (Err e) is front = front_on a a b [] first rest (first ++ rest) refl (Appends-nil a) front

  -- what comes first was written, and then the rest or a front of it
  pub first_then : (c : Option (List ℕ)) (first rest : List ℕ) (r : Result (Unit {0}) E) → Appends a b first → IsSent b c rest r → IsSent a c (first ++ rest) r
  first_then c first rest (Ok done) sent more = Appends-trans a b c first rest sent more
  first_then c first rest (Err e) sent more = front_on a b c first rest [] (first ++ rest) (ap (λ (xs : List ℕ). first ++ xs) (append-nil rest)) sent more

  -- nothing more was written, and the writing failed
  pub cut_at : (c : Option (List ℕ)) (bytes : List ℕ) (done : ℕ) (r : Result (Unit {0}) E) → IsErr r → Appends a b (take done bytes) → Keeps b c → IsSent a c bytes r
  cut_at c bytes done (Ok ok) is sent kept = cc
  cut_at c bytes done (Err e) is sent kept = (done, Appends-kept a b c (take done bytes) sent kept)

  -- a front of the lines that come next was written
  pub cut_lines : (c : Option (List ℕ)) (head : List ℕ) (lines : List DigestLine) (done n : ℕ) (r : Result (Unit {0}) E) → IsErr r
      → Appends a b (lines_text head (take done lines)) → AppendsFront b c (lines_text head (take n (drop done lines))) → IsSent a c (lines_text head lines) r
  cut_lines c head lines done n (Ok ok) is sent front = cc
  cut_lines c head lines done n (Err e) is sent front =
      front_on a b c (lines_text head (take done lines)) (lines_text head (take n (drop done lines))) (lines_text head (drop n (drop done lines))) (lines_text head lines) (lines_parts head lines done n) sent front
