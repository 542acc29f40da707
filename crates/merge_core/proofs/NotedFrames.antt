-- Notes on more frames than were noted.
use Rattle.std.proofs.Common.{◌≡◌, ◌+◌, ◌-◌, ◌++◌, ◌<◌, ◌≤◌, ◌∙◌, ℕ, List, length, replicate, set, ap, sym, arith, append_assoc}
use Rattle.std.proofs.lemmas.List.{replicate-append-replicate, set-append_left, length-replicate, length-append, length-map}
use Rattle.merge_core.specs.Pmap.{Known, unknown}
use Rattle.merge_core.specs.Noted.{known_of, notes_in, notes_on}
use Rattle.merge_core.specs.declared.notes.Note.{Note}

-- a note is set in the list, which was lengthened before, or in all of them
pub set_padded : (xs : List Known) (j k n : ℕ) (v : Known) → n < length xs + j → set (xs ++ replicate j unknown) n v ++ replicate k unknown ≡ set (xs ++ replicate (j + k) unknown) n v
set_padded xs j k n v l =
    let ys : List Known = replicate j unknown in
    let zs : List Known = replicate k unknown in
    let parts : xs ++ replicate (j + k) unknown ≡ (xs ++ ys) ++ zs = ap (λ (rest : List Known). xs ++ rest) (sym (replicate-append-replicate j k unknown)) ∙ sym (append_assoc xs ys zs) in
    sym (ap (λ (all : List Known). set all n v) parts ∙ set-append_left (xs ++ ys) zs n v (omega (arith, l, length-append xs ys, length-replicate j unknown)))

pub frames_noted : (total : ℕ) (notes : List Note) → length notes ≤ total → length (notes_on total notes) ≡ total
frames_noted total notes few = omega (arith, few, length-append (notes_in notes) (replicate (total - length notes) unknown), length-replicate (total - length notes) unknown, length-map notes known_of)

-- the list was lengthened up to a frame, and that frame's note set
pub noted : (total : ℕ) (old new : List Note) (n : ℕ) (v : Known) → length old ≤ total → n < length (notes_on total old) →
    notes_in new ≡ set (notes_in old ++ replicate (n + 1 - length old) unknown) n v → length new ≡ length old + (n + 1 - length old) →
    notes_on total new ≡ set (notes_on total old) n v
noted total old new n v few l made size =
    let xs : List Known = notes_in old in
    let j : ℕ = n + 1 - length old in
    let k : ℕ = total - (length old + j) in
    let within : n < total = omega (arith, l, frames_noted total old few) in
    let rest : total - length new ≡ k = ap (λ (m : ℕ). total - m) size in
    let whole : j + k ≡ total - length old = omega (arith, within, few) in
    let there : n < length xs + j = omega (arith, length-map old known_of) in
    ap (λ (a : List Known). a ++ replicate (total - length new) unknown) made
    ∙ (ap (λ (m : ℕ). set (xs ++ replicate j unknown) n v ++ replicate m unknown) rest
    ∙ (set_padded xs j k n v there
    ∙ ap (λ (m : ℕ). set (xs ++ replicate m unknown) n v) whole))
