-- The contents of one guest more.
use Rattle.std.proofs.Common.{◌≡◌, ℕ, ◌+◌, ◌<◌, ◌≤◌, List, [], ◌∷◌, ◌++◌, length, take, drop, map, get_or, refl, ap, sym, ◌∙◌, arith, append_assoc, length-append}
use Rattle.std.proofs.lemmas.List.{drop-drop, drop_more, flat_map_more, length-map, map-append, take_more}
use Rattle.std.proofs.lemmas.List.Folds.{length-flat_map-take}
use Rattle.page_census.specs.Contents.{Content, contents, contents_of}
use Rattle.page_census.specs.Counted.{counted_guests, counted_numbers}
use Rattle.page_census.specs.declared.numbers.GuestNumbers.{GuestNumbers}
use Rattle.page_census.specs.Marks.{mark, mark_at, marks_of}
use Rattle.page_census.specs.declared.guest.Guest.{Guest}

module _ {S : Type 0} (pages : S → List (List ℕ)) where
  pub one_more : (guests : List (Guest S)) (i : ℕ) (d : Guest S) → i < length guests → contents pages (take (i + 1) guests) ≡ contents pages (take i guests) ++ contents_of pages (get_or guests i d)
  one_more guests i d lt = ap (contents pages) (take_more guests i d lt) ∙ sym (flat_map_more (contents_of pages) [] (take i guests) (get_or guests i d))

  pub length_more : (guests : List (Guest S)) (i : ℕ) (d : Guest S) → i < length guests → length (contents pages (take (i + 1) guests)) ≡ length (contents pages (take i guests)) + length (pages (get_or guests i d).source)
  length_more guests i d lt =
      let guest = get_or guests i d in
      ap length (one_more guests i d lt) ∙ length-append (contents pages (take i guests)) (contents_of pages guest)
      ∙ ap (λ (n : ℕ). length (contents pages (take i guests)) + n) (length-map (pages guest.source) (λ (bytes : List ℕ). let c : Content = (guest.salt, bytes) in c))

  pub length_within : (guests : List (Guest S)) (i : ℕ) (d : Guest S) → i < length guests → length (contents pages (take i guests)) + length (pages (get_or guests i d).source) ≤ length (contents pages guests)
  length_within guests i d lt =
      let guest = get_or guests i d in
      let within = length-flat_map-take (contents_of pages) guests i d lt in
      omega (arith, within, length-map (pages guest.source) (λ (bytes : List ℕ). let c : Content = (guest.salt, bytes) in c))

  marks_there : (hash : ℕ → List ℕ → ℕ) (salt : ℕ) (ps : List (List ℕ)) → marks_of hash salt ps ≡ map (mark_at hash) (map (λ (bytes : List ℕ). let c : Content = (salt, bytes) in c) ps)
  marks_there hash salt [] = refl
  marks_there hash salt (p ∷ ps) = ap (λ (ms : List ℕ). mark hash salt p ∷ ms) (marks_there hash salt ps)

  pub marks_more : (hash : ℕ → List ℕ → ℕ) (guests : List (Guest S)) (i : ℕ) (d : Guest S) (before after : List ℕ) → i < length guests
      → before ≡ map (mark_at hash) (contents pages (take i guests)) → after ≡ before ++ marks_of hash (get_or guests i d).salt (pages (get_or guests i d).source)
      → after ≡ map (mark_at hash) (contents pages (take (i + 1) guests))
  marks_more hash guests i d before after lt eb ea =
      let guest = get_or guests i d in
      ea ∙ rw (eb, one_more guests i d lt, marks_there hash guest.salt (pages guest.source)) (sym (map-append (mark_at hash) (contents pages (take i guests)) (contents_of pages guest)))

  -- the numbers of one guest more
  pub counted_more : (copies : List ℕ) (guests : List (Guest S)) (i : ℕ) (d : Guest S) → i < length guests → (marks classes : List ℕ) (start n : ℕ) → n ≡ length (pages (get_or guests i d).source)
      → (before whole : List GuestNumbers) (own : GuestNumbers) → own ≡ counted_numbers copies (take n (drop start marks)) (take n (drop start classes))
      → before ++ counted_guests pages copies (drop i guests) (drop start marks) (drop start classes) ≡ whole
      → (before ++ own ∷ []) ++ counted_guests pages copies (drop (i + 1) guests) (drop (start + n) marks) (drop (start + n) classes) ≡ whole
  counted_more copies guests i d lt marks classes start n en before whole own eo e =
      let after : List GuestNumbers = counted_guests pages copies (drop (i + 1) guests) (drop (start + n) marks) (drop (start + n) classes) in
      let apart : counted_guests pages copies (drop i guests) (drop start marks) (drop start classes) ≡ own ∷ after =
      ap (λ (gs : List (Guest S)). counted_guests pages copies gs (drop start marks) (drop start classes)) (drop_more guests i d lt)
      ∙ rw (← en, drop-drop n start marks, drop-drop n start classes, eo) refl in
      append_assoc before (own ∷ []) after ∙ ap (λ (ns : List GuestNumbers). before ++ ns) (sym apart) ∙ e
