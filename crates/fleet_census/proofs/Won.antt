-- Winners that are found again, and what the first of them is.
use Rattle.std.proofs.Common.{◌≡◌, ℕ, zero, suc, ◌+◌, ◌*◌, ◌-◌, ◌/◌, ◌<◌, ◌≤◌, ◌⊎◌, Bool, true, false, cond, List, length, drop, get_or, replicate, set, refl, sym, ap, ◌∙◌, arith, inl, inr, get_or-set_other, get_or-set_same, length-drop}
use Rattle.std.proofs.lemmas.Bool.{cases_lt, cases_eq}
use Rattle.std.proofs.lemmas.Bool.Decides.{nat_tests}
use Rattle.std.proofs.lemmas.List.{drop-replicate, get_or-drop, get_or-replicate}
use Rattle.std.specs.Prelude.{nat_lt}
use Rattle.fleet_census.specs.Tournaments.{AreWon, AreWonBut, IsFirst, entry_at, key, leaves, lesser, nothing}
use Rattle.fleet_census.specs.declared.entry.Entry.{Entry}

-- the entry that is put right, and then perhaps the one above it is wrong
pub mended : (entries : List Entry) (files at : ℕ) (winner : Entry) → AreWonBut at files entries → 1 ≤ at → at < files → length entries ≡ 2 * files
    → winner ≡ lesser (entry_at entries (2 * at)) (entry_at entries (2 * at + 1)) → AreWonBut (at / 2) files (set entries at winner)
mended entries files at winner so_far some within len is = record {
  each = λ n low high other. elim (cases_eq n at) [
    | inl e ↦
        let here : get_or (set entries at winner) n nothing ≡ winner = rw e (get_or-set_same entries at winner nothing (omega arith)) in
        let left : get_or (set entries at winner) (2 * n) nothing ≡ get_or entries (2 * at) nothing = rw e (get_or-set_other entries at (2 * at) winner nothing (omega arith)) in
        let right : get_or (set entries at winner) (2 * n + 1) nothing ≡ get_or entries (2 * at + 1) nothing = rw e (get_or-set_other entries at (2 * at + 1) winner nothing (omega arith)) in
        here ∙ is ∙ rw (left, right) refl
    | inr ne ↦
        let here : get_or (set entries at winner) n nothing ≡ get_or entries n nothing = get_or-set_other entries at n winner nothing ne in
        let left : get_or (set entries at winner) (2 * n) nothing ≡ get_or entries (2 * n) nothing = get_or-set_other entries at (2 * n) winner nothing (omega arith) in
        let right : get_or (set entries at winner) (2 * n + 1) nothing ≡ get_or entries (2 * n + 1) nothing = get_or-set_other entries at (2 * n + 1) winner nothing (omega arith) in
        here ∙ so_far.each n low high ne ∙ rw (left, right) refl
  ];
}

-- an entry of a file becomes another
pub put_wrong : (entries : List Entry) (files file : ℕ) (entry : Entry) → AreWon files entries → length entries ≡ 2 * files
    → AreWonBut ((files + file) / 2) files (set entries (files + file) entry)
put_wrong entries files file entry so_far len = record {
  each = λ n low high other.
      let here : get_or (set entries (files + file) entry) n nothing ≡ get_or entries n nothing = get_or-set_other entries (files + file) n entry nothing (omega arith) in
      let left : get_or (set entries (files + file) entry) (2 * n) nothing ≡ get_or entries (2 * n) nothing = get_or-set_other entries (files + file) (2 * n) entry nothing (omega arith) in
      let right : get_or (set entries (files + file) entry) (2 * n + 1) nothing ≡ get_or entries (2 * n + 1) nothing = get_or-set_other entries (files + file) (2 * n + 1) entry nothing (omega arith) in
      here ∙ so_far.each n low high ∙ rw (left, right) refl;
}

pub all_won : (files : ℕ) (entries : List Entry) → AreWonBut 0 files entries → AreWon files entries
all_won files entries but = record { each = λ n low high. but.each n low high (omega arith) }

-- the lesser of two is one of them
lesser_is : (a b : Entry) (before : Bool) → (cond before b a ≡ a) ⊎ (cond before b a ≡ b)
lesser_is a b true = inr refl
lesser_is a b false = inl refl

lesser_low : (a b : Entry) → (key (lesser a b) ≤ key a) × (key (lesser a b) ≤ key b)
lesser_low a b = grind (arith, nat_tests)

module _ (files : ℕ) (entries : List Entry) (len : length entries ≡ 2 * files) (won : AreWon files entries) where
  -- a winner stands among the files' entries
  winner_from : (steps n : ℕ) → 2 * files ≤ n + steps → 1 ≤ n → n < 2 * files
      → (file : ℕ) × (file < files) × (entry_at entries (files + file) ≡ entry_at entries n)
  winner_from zero n enough low high = absurd (omega arith)
  winner_from (suc steps) n enough low high = elim (cases_lt n files) [
    | inr ge ↦ (n - files, omega arith, let e : files + (n - files) ≡ n = omega arith in ap (entry_at entries) e)
    | inl lt ↦ elim (lesser_is (entry_at entries (2 * n)) (entry_at entries (2 * n + 1)) (nat_lt (key (entry_at entries (2 * n + 1))) (key (entry_at entries (2 * n))))) [
      | inl e ↦ let found = winner_from steps (2 * n) (omega arith) (omega arith) (omega arith) in (found.0, found.1, found.2 ∙ sym (won.each n low lt ∙ e))
      | inr e ↦ let found = winner_from steps (2 * n + 1) (omega arith) (omega arith) (omega arith) in (found.0, found.1, found.2 ∙ sym (won.each n low lt ∙ e))
    ]
  ]

  half_of : (n : ℕ) → 2 ≤ n → (n ≡ 2 * (n / 2)) ⊎ (n ≡ 2 * (n / 2) + 1)
  half_of n some = elim (cases_eq n (2 * (n / 2))) [ inl e ↦ inl e | inr ne ↦ inr (omega arith) ]

  -- a winner comes before none of the two below it
  below_low : (above n : ℕ) → 1 ≤ above → above < files → (n ≡ 2 * above) ⊎ (n ≡ 2 * above + 1) → key (entry_at entries above) ≤ key (entry_at entries n)
  below_low above n low high which =
      let both = lesser_low (entry_at entries (2 * above)) (entry_at entries (2 * above + 1)) in
      elim which [
        | inl e ↦ rw (won.each above low high, e) both.0
        | inr e ↦ rw (won.each above low high, e) both.1
      ]

  -- no entry comes before the first winner
  first_low : (steps n : ℕ) → n ≤ steps → 1 ≤ n → n < 2 * files → key (entry_at entries 1) ≤ key (entry_at entries n)
  first_low zero n enough low high = absurd (omega arith)
  first_low (suc steps) n enough low high = elim (cases_lt n 2) [
    | inl lt ↦ let one : n ≡ 1 = omega arith in rw one (omega arith)
    | inr ge ↦
        let above : key (entry_at entries 1) ≤ key (entry_at entries (n / 2)) = first_low steps (n / 2) (omega arith) (omega arith) (omega arith) in
        let lower : key (entry_at entries (n / 2)) ≤ key (entry_at entries n) = below_low (n / 2) n (omega arith) (omega arith) (half_of n ge) in
        omega (arith, above, lower)
  ]

  pub first_is : 1 ≤ files → (first : Entry) → first ≡ entry_at entries 1 → IsFirst (leaves files entries) first
  first_is some first is =
      let found = winner_from (2 * files) 1 (omega arith) (omega arith) (omega arith) in
      let count : length (drop files entries) ≡ files = omega (arith, length-drop files entries) in
      record {
        file = found.0;
        within = omega (arith, count, found.1);
        is = get_or-drop files entries found.0 nothing ∙ found.2 ∙ sym is;
        least = λ n lt. rw (is, get_or-drop files entries n nothing) (first_low (files + n) (files + n) (omega arith) (omega arith) (omega (arith, count, lt)));
      }

itself : (before : Bool) (entry : Entry) → cond before entry entry ≡ entry
itself true entry = refl
itself false entry = refl

-- the winners among files that are all alike
pub alike_won : (files : ℕ) (entry : Entry) (entries : List Entry) → entries ≡ replicate (2 * files) entry → AreWon files entries
alike_won files entry entries e = record {
  each = λ n low high.
      let here : get_or entries n nothing ≡ entry = rw e (get_or-replicate (2 * files) n entry nothing (omega arith)) in
      let left : get_or entries (2 * n) nothing ≡ entry = rw e (get_or-replicate (2 * files) (2 * n) entry nothing (omega arith)) in
      let right : get_or entries (2 * n + 1) nothing ≡ entry = rw e (get_or-replicate (2 * files) (2 * n + 1) entry nothing (omega arith)) in
      here ∙ sym (rw (left, right) (itself (nat_lt (key entry) (key entry)) entry));
}

pub alike_leaves : (files : ℕ) (entry : Entry) (entries : List Entry) → entries ≡ replicate (2 * files) entry → leaves files entries ≡ replicate files entry
alike_leaves files entry entries e = let half : 2 * files - files ≡ files = omega arith in rw e (drop-replicate files (2 * files) entry ∙ ap (λ (n : ℕ). replicate n entry) half)
