-- Segments of a table of program headers.
use Rattle.std.proofs.Common.{◌≡◌, ℕ, ◌+◌, Bool, true, false, cond, List, [], ◌∷◌, ◌++◌, map, refl, ap, sym, ◌∙◌, arith}
use Rattle.std.specs.Prelude.{filter}
use Rattle.std.specs.List.{range_with_len}
use Rattle.std.proofs.lemmas.List.{map-append}
use Rattle.std.proofs.lemmas.List.FromFn.{filter_of_map_range_with_len_more}
use Rattle.memory_images.specs.Images.{program_header, is_load, segment_of, loaded, loads}
use Rattle.memory_images.specs.declared.parts.ProgramHeader.{ProgramHeader}
use Rattle.memory_images.specs.declared.segment.Segment.{Segment}

one_loaded : (header : ProgramHeader) (b : Bool) → map segment_of (cond b (header ∷ []) []) ≡ cond b (segment_of header ∷ []) []
one_loaded header true = refl
one_loaded header false = refl

pub more_loads : (bytes : List ℕ) (table n : ℕ) (before after : List Segment) (header : ProgramHeader) → before ≡ loads bytes table n → header ≡ program_header bytes table n
    → after ≡ before ++ loaded header → after ≡ loads bytes table (n + 1)
unfolding loads
more_loads bytes table n before after header b h a =
    let here : ProgramHeader = program_header bytes table n in
    let headers : List ProgramHeader = map (program_header bytes table) (range_with_len 0 n) in
    let more = ap (map segment_of) (filter_of_map_range_with_len_more is_load (program_header bytes table) 0 n n (omega arith)) ∙ map-append segment_of (filter is_load headers) (cond (is_load here) (here ∷ []) []) in
    let apart = ap (λ (xs : List Segment). map segment_of (filter is_load headers) ++ xs) (one_loaded here (is_load here)) in
    a ∙ ap (λ (x : ProgramHeader). before ++ loaded x) h ∙ ap (λ (xs : List Segment). xs ++ loaded here) b ∙ sym (more ∙ apart)
