-- More pages are read, and their items appended.
use Rattle.std.proofs.Common.{◌≡◌, ℕ, ◌+◌, ◌*◌, ◌≤◌, List, [], ◌++◌, length, take, drop, refl, sym, ◌∙◌, arith, append-nil, append_assoc, length-append, length-drop}
use Rattle.std.proofs.lemmas.Grind.{flat_map-append}
use Rattle.std.proofs.lemmas.List.{drop-drop, length-take}
use Rattle.std.proofs.Math.Seq.{take-add}
use Rattle.std.specs.List.{flat_map}
use Rattle.memory_pages.specs.Made.{AreMade, part_of}

module _ {X : Type 0} (steady : Type 0) (gives : List ℕ → List X) where
  -- pages are read, and then others
  pub read_on : (xs ys : List (List ℕ)) (start before more after : List X)
      → AreMade steady xs gives start before → AreMade steady ys gives [] more → after ≡ before ++ more → AreMade steady (xs ++ ys) gives start after
  read_on xs ys start before more after first then e = record {
    read = first.read ++ then.read;
    all = omega (arith, length-append first.read then.read, length-append xs ys, first.all, then.all);
    same = λ s. rw (first.same s, then.same s) refl;
    added = e ∙ rw (first.added, then.added, flat_map-append gives first.read then.read) (append_assoc start (flat_map gives first.read) (flat_map gives then.read));
  }

  -- no page is read
  pub nothing_read : (pages : List (List ℕ)) (n : ℕ) (start items : List X) → n ≡ 0 → items ≡ start → AreMade steady (take n pages) gives start items
  nothing_read pages n start items none e = rw (none, e) (record { read = []; all = refl; same = λ s. refl; added = sym (append-nil start) })

  -- a run of pages more is read
  pub run_read : (pages : List (List ℕ)) (from done n : ℕ) (run : List (List ℕ)) (start before after : List X)
      → AreMade steady (take done (drop from pages)) gives start before → length run ≡ n → from + done + n ≤ length pages
      → (steady → run ≡ take n (drop (from + done) pages)) → after ≡ before ++ flat_map gives run
      → AreMade steady (take (done + n) (drop from pages)) gives start after
  run_read pages from done n run start before after first len within same e =
      let here : AreMade steady (take n (drop (from + done) pages)) gives [] (flat_map gives run) = record {
        read = run;
        all = omega (arith, len, within, length-take n (drop (from + done) pages), length-drop (from + done) pages);
        same = same;
        added = refl;
      } in
      let both = read_on (take done (drop from pages)) (take n (drop (from + done) pages)) start before (flat_map gives run) after first here e in
      rw (take-add done n (drop from pages), drop-drop done from pages) both

  -- one part more is read
  pub part_read : (pages : List (List ℕ)) (size n more : ℕ) (start before part after : List X)
      → AreMade steady (take (size * n) pages) gives start before → AreMade steady (part_of pages size n) gives [] part → after ≡ before ++ part → more ≡ n + 1
      → AreMade steady (take (size * more) pages) gives start after
  part_read pages size n more start before part after first here e one =
      let end : size * more ≡ size * n + size = rw one (omega arith) in
      rw (end, take-add (size * n) size pages) (read_on (take (size * n) pages) (part_of pages size n) start before part after first here e)
