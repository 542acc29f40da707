-- A page is idle exactly if its last reads are alike, as many as needed.
use Rattle.std.proofs.Common.{◌≡◌, ◌∙◌, ℕ, ◌+◌, ◌<◌, ◌≤◌, Bool, true, false, cond, ◌&&◌, List, [], ◌∷◌, refl, ap, sym, subst, arith}
use Rattle.std.specs.Prelude.{min, nat_eq, nat_lt, nat_le}
use Rattle.std.proofs.lemmas.Bool.{eqb-true, eqb-false, leb-true, and_parts, ltb-true, ltb-false, lt-ltb, le-ltb, le-leb, lt-leb}
use Rattle.page_looks.specs.declared.idle.look.PageLooks.{PageLooks}
use Rattle.page_looks.specs.Idle.{next_up_to, is_read, again, anew, clue_then, read, Found, meets, reads, asks, asks_last, is_due, forgets, lends, holds, known, read_since, last_read, read_over, is_own, is_over, two_alike, three_alike, IdleIsAlike, IdleMeansAlike, IdleOverMeansAlike}

next_is : (n most : ℕ) → n ≤ most → next_up_to n most ≡ min (n + 1) most
next_is n most h = pick (nat_lt n most) refl where
  pick : (b : Bool) → nat_lt n most ≡ b → cond b (n + 1) most ≡ min (n + 1) most
  pick true t = let l : n < most = ltb-true n most t in omega (arith, l)
  pick false t = let l : most ≤ n = ltb-false n most t in omega (arith, l, h)

-- what a read comes to, by its test
pub by_test : (p : PageLooks) (over : Bool) (f g : ℕ) (t : Bool) → (is_read p over && nat_eq p.fingerprint f) ≡ t →
    read p over f g ≡ cond t (again p (clue_then p over g)) (anew p over f (clue_then p over g))
by_test p over f g t e = ap (λ b. cond b (again p (clue_then p over g)) (anew p over f (clue_then p over g))) e

-- ---- any memory ----

-- There was no read since, and one look at most found the page the same. Or its fingerprint is that of the last read, and more than two did
-- only if the last two are alike.
abbrev KnowsAny : PageLooks → List ℕ → Type 0
KnowsAny p [] = p.looks ≤ 1
KnowsAny p (a ∷ fs) = (p.fingerprint ≡ a) × (two_alike (a ∷ fs) ≡ false → p.looks ≤ 2)

again_any : (p : PageLooks) (f clue : ℕ) (fs : List ℕ) → p.fingerprint ≡ f → KnowsAny p fs → KnowsAny (again p clue) (f ∷ fs)
again_any p f clue [] e k = (e, λ u. let is : next_up_to p.looks 3 ≡ min (p.looks + 1) 3 = next_is p.looks 3 (omega (arith, k)) in omega (arith, is, k))
again_any p f clue (b ∷ fs) e k = (e, λ u. absurd (eqb-false b f u (sym k.0 ∙ e)))

anew_any : (p : PageLooks) (over : Bool) (f clue : ℕ) (fs : List ℕ) → KnowsAny (anew p over f clue) (f ∷ fs)
anew_any p true f clue fs = (refl, λ u. omega arith)
anew_any p false f clue fs = (refl, λ u. omega arith)

any_read : (p : PageLooks) (over : Bool) (f g : ℕ) (fs : List ℕ) → KnowsAny p fs → KnowsAny (read p over f g) (f ∷ fs)
any_read p over f g fs k = pick (is_read p over && nat_eq p.fingerprint f) refl where
  pick : (t : Bool) → (is_read p over && nat_eq p.fingerprint f) ≡ t → KnowsAny (read p over f g) (f ∷ fs)
  pick true t =
      let same : p.fingerprint ≡ f = eqb-true p.fingerprint f (and_parts (is_read p over) (nat_eq p.fingerprint f) t).1 in
      subst (λ (q : PageLooks). KnowsAny q (f ∷ fs)) (sym (by_test p over f g true t)) (again_any p f (clue_then p over g) fs same k)
  pick false t = subst (λ (q : PageLooks). KnowsAny q (f ∷ fs)) (sym (by_test p over f g false t)) (anew_any p over f (clue_then p over g) fs)

-- nothing but the questions has changed
same_any : (p q : PageLooks) (fs : List ℕ) → q.looks ≡ p.looks → q.fingerprint ≡ p.fingerprint → KnowsAny p fs → KnowsAny q fs
same_any p q [] l f k = omega (arith, l, k)
same_any p q (a ∷ fs) l f k = (f ∙ k.0, λ u. subst (λ n. n ≤ 2) (sym l) (k.1 u))

one_held : (was : Bool) → cond was 0 1 ≤ 1
one_held true = omega arith
one_held false = omega arith

any_knows : (p : PageLooks) (xs : List Found) → p.looks ≡ 0 → KnowsAny (known p xs) (read_since xs)
any_knows p [] h = omega (arith, h)
any_knows p (meets number glance ∷ xs) h = omega arith
any_knows p (reads over f g ∷ xs) h = any_read (known p xs) over f g (read_since xs) (any_knows p xs h)
any_knows p (asks ∷ xs) h = same_any (known p xs) (known p (asks ∷ xs)) (read_since xs) refl refl (any_knows p xs h)
any_knows p (asks_last ∷ xs) h = same_any (known p xs) (known p (asks_last ∷ xs)) (read_since xs) refl refl (any_knows p xs h)
any_knows p (is_due ∷ xs) h = same_any (known p xs) (known p (is_due ∷ xs)) (read_since xs) refl refl (any_knows p xs h)
any_knows p (forgets ∷ xs) h = omega arith
any_knows p (lends ∷ xs) h = omega arith
any_knows p (holds was ∷ xs) h = one_held was

any_idle : (p : PageLooks) (fs : List ℕ) → KnowsAny p fs → nat_le 3 p.looks ≡ true → two_alike fs ≡ true
any_idle p [] k i = let three : 3 ≤ p.looks = leb-true 3 p.looks i in absurd (omega (arith, three, k))
any_idle p (a ∷ fs) k i = pick (two_alike (a ∷ fs)) refl where
  pick : (b : Bool) → two_alike (a ∷ fs) ≡ b → b ≡ true
  pick true e = refl
  pick false e = let three : 3 ≤ p.looks = leb-true 3 p.looks i in absurd (omega (arith, three, k.1 e))

pub idle_is_alike : IdleIsAlike
idle_is_alike p xs h i = any_idle (known p xs) (read_since xs) (any_knows p xs h) i

-- ---- memory of its own ----

-- how many findings are alike then, with the glance before these reads
abbrev level : List ℕ → ℕ
level [] = 0
level (a ∷ []) = 2
level (a ∷ b ∷ xs) = cond (nat_eq b a) 3 2

record Leveled (n : ℕ) : Type 0 where
  some : 2 ≤ n
  most : n ≤ 3

leveled : (a : ℕ) (xs : List ℕ) → Leveled (level (a ∷ xs))
leveled a [] = record { some = omega arith; most = omega arith }
leveled a (b ∷ xs) = pick (nat_eq b a) where
  pick : (t : Bool) → Leveled (cond t 3 2)
  pick true = record { some = omega arith; most = omega arith }
  pick false = record { some = omega arith; most = omega arith }

abbrev KnowsOwn : PageLooks → List ℕ → Type 0
KnowsOwn p [] = p.looks ≤ 1
KnowsOwn p (a ∷ xs) = (p.looks ≡ level (a ∷ xs)) × (p.fingerprint ≡ a)

own_read : (p : PageLooks) (f g : ℕ) (fs : List ℕ) → KnowsOwn p fs → KnowsOwn (read p false f g) (f ∷ fs)
own_read p f g [] k =
    let none : nat_lt 1 p.looks ≡ false = le-ltb 1 p.looks k in
    let is = by_test p false f g false (ap (λ b. b && nat_eq p.fingerprint f) none) in
    (ap (λ (q : PageLooks). q.looks) is, ap (λ (q : PageLooks). q.fingerprint) is)
own_read p f g (b ∷ fs) k = pick (nat_eq b f) refl where
  some : nat_lt 1 p.looks ≡ true
  some = let l : Leveled (level (b ∷ fs)) = leveled b fs in lt-ltb 1 p.looks (omega (arith, k.0, l.some))

  test : (is_read p false && nat_eq p.fingerprint f) ≡ nat_eq b f
  test = ap (λ c. c && nat_eq p.fingerprint f) some ∙ ap (λ n. nat_eq n f) k.1

  three : next_up_to p.looks 3 ≡ 3
  three =
      let l : Leveled (level (b ∷ fs)) = leveled b fs in
      let is : next_up_to p.looks 3 ≡ min (p.looks + 1) 3 = next_is p.looks 3 (omega (arith, k.0, l.most)) in
      omega (arith, is, k.0, l.some)

  pick : (t : Bool) → nat_eq b f ≡ t → KnowsOwn (read p false f g) (f ∷ b ∷ fs)
  pick true t =
      let is = by_test p false f g true (test ∙ t) in
      (ap (λ (q : PageLooks). q.looks) is ∙ three ∙ sym (ap (λ c. cond c 3 2) t), ap (λ (q : PageLooks). q.fingerprint) is ∙ k.1 ∙ eqb-true b f t)
  pick false t =
      let is = by_test p false f g false (test ∙ t) in
      (ap (λ (q : PageLooks). q.looks) is ∙ sym (ap (λ c. cond c 3 2) t), ap (λ (q : PageLooks). q.fingerprint) is)

-- nothing but the questions has changed
same_own : (p q : PageLooks) (fs : List ℕ) → q.looks ≡ p.looks → q.fingerprint ≡ p.fingerprint → KnowsOwn p fs → KnowsOwn q fs
same_own p q [] l f k = omega (arith, l, k)
same_own p q (a ∷ fs) l f k = (l ∙ k.0, f ∙ k.1)

own_knows : (p : PageLooks) (xs : List Found) → p.looks ≡ 0 → is_own xs ≡ true → KnowsOwn (known p xs) (read_since xs)
own_knows p [] h m = omega (arith, h)
own_knows p (meets number glance ∷ xs) h m = omega arith
own_knows p (reads true f g ∷ xs) h m = cc
own_knows p (reads false f g ∷ xs) h m = own_read (known p xs) f g (read_since xs) (own_knows p xs h m)
own_knows p (asks ∷ xs) h m = same_own (known p xs) (known p (asks ∷ xs)) (read_since xs) refl refl (own_knows p xs h m)
own_knows p (asks_last ∷ xs) h m = same_own (known p xs) (known p (asks_last ∷ xs)) (read_since xs) refl refl (own_knows p xs h m)
own_knows p (is_due ∷ xs) h m = same_own (known p xs) (known p (is_due ∷ xs)) (read_since xs) refl refl (own_knows p xs h m)
own_knows p (forgets ∷ xs) h m = omega arith
own_knows p (lends ∷ xs) h m = omega arith
own_knows p (holds was ∷ xs) h m = one_held was

own_idle : (p : PageLooks) (fs : List ℕ) → KnowsOwn p fs → nat_le 3 p.looks ≡ two_alike fs
own_idle p [] k = lt-leb 3 p.looks (omega (arith, k))
own_idle p (a ∷ []) k = ap (λ n. nat_le 3 n) k.0
own_idle p (a ∷ b ∷ xs) k = ap (λ n. nat_le 3 n) k.0 ∙ pick (nat_eq b a) where
  pick : (t : Bool) → nat_le 3 (cond t 3 2) ≡ t
  pick true = refl
  pick false = refl

pub idle_means_alike : IdleMeansAlike
idle_means_alike p xs h m = own_idle (known p xs) (read_since xs) (own_knows p xs h m)

-- ---- memory over a frame ----

-- how many of the first are alike, up to three
abbrev alike : List ℕ → ℕ
alike [] = 0
alike (a ∷ []) = 1
alike (a ∷ b ∷ xs) = cond (nat_eq b a) (next_up_to (alike (b ∷ xs)) 3) 1

-- some are alike, and no more than three
record Between (n : ℕ) : Type 0 where
  some : 1 ≤ n
  most : n ≤ 3

one_more : (t : Bool) (n : ℕ) → Between n → Between (cond t (next_up_to n 3) 1)
one_more false n b = record { some = omega arith; most = omega arith }
one_more true n b =
    let is : next_up_to n 3 ≡ min (n + 1) 3 = next_is n 3 b.most in
    record { some = omega (arith, is); most = omega (arith, is) }

alike_between : (a : ℕ) (xs : List ℕ) → Between (alike (a ∷ xs))
alike_between a [] = record { some = omega arith; most = omega arith }
alike_between a (b ∷ xs) = one_more (nat_eq b a) (alike (b ∷ xs)) (alike_between b xs)

-- the fingerprint is that of the first, if there is one
abbrev Begins : ℕ → List ℕ → Type 0
Begins f [] = Unit {0}
Begins f (a ∷ xs) = f ≡ a

record Knows (p : PageLooks) (fs : List ℕ) (last : ℕ) : Type 0 where
  looks : p.looks ≡ alike fs
  begins : Begins p.fingerprint fs
  kept : p.fingerprint ≡ last

over_read : (p : PageLooks) (f g last : ℕ) (fs : List ℕ) → Knows p fs last → Knows (read p true f g) (f ∷ fs) f
over_read p f g last [] k =
    let none : (nat_lt 0 p.looks && nat_eq p.fingerprint f) ≡ false = ap (λ n. nat_lt 0 n && nat_eq p.fingerprint f) k.looks in
    let is = by_test p true f g false none in
    record { looks = ap (λ (q : PageLooks). q.looks) is; begins = ap (λ (q : PageLooks). q.fingerprint) is; kept = ap (λ (q : PageLooks). q.fingerprint) is }
over_read p f g last (b ∷ fs) k = pick (nat_eq b f) refl where
  some : nat_lt 0 p.looks ≡ true
  some = lt-ltb 0 p.looks (omega (arith, k.looks, (alike_between b fs).some))

  test : (is_read p true && nat_eq p.fingerprint f) ≡ nat_eq b f
  test = ap (λ c. c && nat_eq p.fingerprint f) some ∙ ap (λ n. nat_eq n f) k.begins

  pick : (t : Bool) → nat_eq b f ≡ t → Knows (read p true f g) (f ∷ b ∷ fs) f
  pick true t =
      let is = by_test p true f g true (test ∙ t) in
      let counted : alike (f ∷ b ∷ fs) ≡ next_up_to (alike (b ∷ fs)) 3 = ap (λ c. cond c (next_up_to (alike (b ∷ fs)) 3) 1) t in
      let same : (read p true f g).fingerprint ≡ f = ap (λ (q : PageLooks). q.fingerprint) is ∙ k.begins ∙ eqb-true b f t in
      record { looks = ap (λ (q : PageLooks). q.looks) is ∙ ap (λ n. next_up_to n 3) k.looks ∙ sym counted; begins = same; kept = same }
  pick false t =
      let is = by_test p true f g false (test ∙ t) in
      let counted : alike (f ∷ b ∷ fs) ≡ 1 = ap (λ c. cond c (next_up_to (alike (b ∷ fs)) 3) 1) t in
      let same : (read p true f g).fingerprint ≡ f = ap (λ (q : PageLooks). q.fingerprint) is in
      record { looks = ap (λ (q : PageLooks). q.looks) is ∙ sym counted; begins = same; kept = same }

over_knows : (p : PageLooks) (xs : List Found) → p.looks ≡ 0 → is_over xs ≡ true → Knows (known p xs) (read_over p.fingerprint xs) (last_read p.fingerprint xs)
over_knows p [] h m = record { looks = h; begins = tt; kept = refl }
over_knows p (meets number glance ∷ xs) h m = cc
over_knows p (reads false f g ∷ xs) h m = cc
over_knows p (reads true f g ∷ xs) h m = over_read (known p xs) f g (last_read p.fingerprint xs) (read_over p.fingerprint xs) (over_knows p xs h m)
over_knows p (asks ∷ xs) h m = let k = over_knows p xs h m in record { looks = k.looks; begins = k.begins; kept = k.kept }
over_knows p (asks_last ∷ xs) h m = let k = over_knows p xs h m in record { looks = k.looks; begins = k.begins; kept = k.kept }
over_knows p (is_due ∷ xs) h m = let k = over_knows p xs h m in record { looks = k.looks; begins = k.begins; kept = k.kept }
over_knows p (forgets ∷ xs) h m = let k = over_knows p xs h m in record { looks = refl; begins = tt; kept = k.kept }
over_knows p (lends ∷ xs) h m = let k = over_knows p xs h m in record { looks = refl; begins = tt; kept = k.kept }
over_knows p (holds true ∷ xs) h m = let k = over_knows p xs h m in record { looks = refl; begins = tt; kept = k.kept }
over_knows p (holds false ∷ xs) h m = let k = over_knows p xs h m in record { looks = refl; begins = k.kept; kept = k.kept }

three : (fs : List ℕ) → nat_le 3 (alike fs) ≡ three_alike fs
three [] = refl
three (a ∷ []) = refl
three (a ∷ b ∷ []) = pick (nat_eq b a) where
  pick : (t : Bool) → nat_le 3 (cond t 2 1) ≡ false
  pick true = refl
  pick false = refl
three (a ∷ b ∷ c ∷ xs) = pick (nat_eq b a) (nat_eq c b) where
  n : ℕ
  n = alike (c ∷ xs)

  pick : (s t : Bool) → nat_le 3 (cond s (next_up_to (cond t (next_up_to n 3) 1) 3) 1) ≡ (s && t)
  pick false t = refl
  pick true false = refl
  pick true true =
      let one : next_up_to n 3 ≡ min (n + 1) 3 = next_is n 3 (alike_between c xs).most in
      let two : next_up_to (next_up_to n 3) 3 ≡ min (next_up_to n 3 + 1) 3 = next_is (next_up_to n 3) 3 (omega (arith, one)) in
      le-leb 3 _ (omega (arith, one, two, (alike_between c xs).some))

pub idle_over_means_alike : IdleOverMeansAlike
idle_over_means_alike p xs h m = ap (λ n. nat_le 3 n) (over_knows p xs h m).looks ∙ three (read_over p.fingerprint xs)
