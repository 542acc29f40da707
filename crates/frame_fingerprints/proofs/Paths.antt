-- Chains of frames, by what their links lead to.
use Rattle.std.proofs.Common.{◌≡◌, ◌≢◌, ℕ, ◌+◌, ◌<◌, ◌≤◌, Bool, true, false, ◌||◌, cond, eqb, List, [], ◌∷◌, Option, Some, None, sym, refl, ap, ◌∙◌, arith, subst, ◌⊎◌, inl, inr}
use Rattle.std.proofs.lemmas.Bool.{false≢true, eqb-true, eq-eqb, cases_eq, ne_eqb}
use Rattle.frame_fingerprints.specs.Chained.{is_in, IsChain, AreApart, belongs, AreChained}

-- ---- membership

pub in_rest : (x y : ℕ) (ys : List ℕ) → x ≢ y → is_in x (y ∷ ys) ≡ is_in x ys
in_rest x y ys n = rw (ne_eqb x y n) refl

pub in_first : (x : ℕ) (ys : List ℕ) → is_in x (x ∷ ys) ≡ true
in_first x ys = rw (eq-eqb x x refl) refl

neither : (a b : Bool) → (a || b) ≡ false → (a ≡ false) × (b ≡ false)
neither true b h = absurd (false≢true (sym h))
neither false b h = (refl, h)

pub not_first : (x y : ℕ) (ys : List ℕ) → is_in x (y ∷ ys) ≡ false → eqb x y ≡ false
not_first x y ys h = (neither (eqb x y) (is_in x ys) h).0

pub not_later : (x y : ℕ) (ys : List ℕ) → is_in x (y ∷ ys) ≡ false → is_in x ys ≡ false
not_later x y ys h = (neither (eqb x y) (is_in x ys) h).1

pub in_later : (x y : ℕ) (ys : List ℕ) → is_in x ys ≡ true → is_in x (y ∷ ys) ≡ true
in_later x y ys h = elim (eqb x y) as (λ (b : Bool). (b || is_in x ys) ≡ true) [ true ↦ refl | false ↦ h ]

pub in_apart : (x y : ℕ) (ys : List ℕ) → is_in x ys ≡ true → is_in y ys ≡ false → x ≢ y
in_apart x y ys h g e = false≢true (sym g ∙ ap (λ (z : ℕ). is_in z ys) (sym e) ∙ h)

-- ---- paths

pub chain_keeps : (link before link' before' : ℕ → ℕ) (frames a to : ℕ) (xs : List ℕ)
    → ((y : ℕ) → is_in y xs ≡ true → (link' y ≡ link y) × (before' y ≡ before y))
    → IsChain link before frames a to xs → IsChain link' before' frames a to xs
chain_keeps link before link' before' frames a to [] same h = h
chain_keeps link before link' before' frames a to (x ∷ xs) same h =
    let here = same x (in_first x xs) in (
      h.0,
      here.1 ∙ h.1,
      h.2,
      subst (λ (t : ℕ). IsChain link' before' frames x t xs) (sym here.0)
          (chain_keeps link before link' before' frames x (link x) xs (λ y i. same y (in_later y x xs i)) h.3),
    )

-- all frames of a chain are below the total
pub chain_below : (link before : ℕ → ℕ) (frames a to : ℕ) (xs : List ℕ) (y : ℕ) → IsChain link before frames a to xs → is_in y xs ≡ true → y < frames
chain_below link before frames a to [] y h i = absurd (false≢true i)
chain_below link before frames a to (x ∷ xs) y h i =
    elim (cases_eq y x) [
      | inl e ↦ rw e h.2
      | inr n ↦ chain_below link before frames x (link x) xs y h.3 (sym (in_rest y x xs n) ∙ i)
    ]

-- a frame is in front
pub chain_first : (link before link' before' : ℕ → ℕ) (frames head x : ℕ) (xs : List ℕ)
    → x < frames → link' x ≡ link head → before' x ≡ head → (link head < frames → before' (link head) ≡ x)
    → ((y : ℕ) → is_in y xs ≡ true → link' y ≡ link y)
    → ((y : ℕ) → is_in y xs ≡ true → y ≢ link head → before' y ≡ before y)
    → AreApart xs → IsChain link before frames head (link head) xs → IsChain link' before' frames head x (x ∷ xs)
chain_first link before link' before' frames head x [] lt next back first links backs apart h = (refl, back, lt, rw next h)
chain_first link before link' before' frames head x (z ∷ zs) lt next back first links backs apart h =
    let to : link head ≡ z = h.0 in
    let zlt : link head < frames = rw to h.2 in (
      refl,
      back,
      lt,
      subst (λ (t : ℕ). IsChain link' before' frames x t (z ∷ zs)) (sym next) (
        to,
        ap before' (sym to) ∙ first zlt,
        h.2,
        subst (λ (t : ℕ). IsChain link' before' frames z t zs) (sym (links z (in_first z zs)))
            (chain_keeps link before link' before' frames z (link z) zs
            (λ y i. (links y (in_later y z zs i), backs y (in_later y z zs i) (λ e. in_apart y z zs i apart.0 (e ∙ to)))) h.3),
      ),
    )

-- the one before a frame of the chain is what it begins from, or in it; and what comes next is in it, or none
pub before_in : (link before : ℕ → ℕ) (frames a to : ℕ) (xs : List ℕ) (x : ℕ) → IsChain link before frames a to xs → is_in x xs ≡ true → (before x ≡ a) ⊎ (is_in (before x) xs ≡ true)
before_in link before frames a to [] x h i = absurd (false≢true i)
before_in link before frames a to (y ∷ ys) x h i =
    elim (cases_eq x y) [
      | inl e ↦ inl (ap before e ∙ h.1)
      | inr n ↦
          elim (before_in link before frames y (link y) ys x h.3 (sym (in_rest x y ys n) ∙ i)) [
            | inl e ↦ inr (subst (λ (z : ℕ). is_in z (y ∷ ys) ≡ true) (sym e) (in_first y ys))
            | inr j ↦ inr (in_later (before x) y ys j)
          ]
    ]

pub next_in : (link before : ℕ → ℕ) (frames a to : ℕ) (xs : List ℕ) (x : ℕ) → IsChain link before frames a to xs → is_in x xs ≡ true → (frames ≤ link x) ⊎ (is_in (link x) xs ≡ true)
next_in link before frames a to [] x h i = absurd (false≢true i)
next_in link before frames a to (y ∷ []) x h i =
    elim (cases_eq x y) [
      | inl e ↦ inl (rw e h.3)
      | inr n ↦ absurd (false≢true (sym (in_rest x y [] n) ∙ i))
    ]
next_in link before frames a to (y ∷ z ∷ zs) x h i =
    elim (cases_eq x y) [
      | inl e ↦ inr (subst (λ (w : ℕ). is_in w (y ∷ z ∷ zs) ≡ true) (sym (ap link e ∙ h.3.0)) (in_later z y (z ∷ zs) (in_first z zs)))
      | inr n ↦
          elim (next_in link before frames y (link y) (z ∷ zs) x h.3 (sym (in_rest x y (z ∷ zs) n) ∙ i)) [
            | inl e ↦ inl e
            | inr j ↦ inr (in_later (link x) y (z ∷ zs) j)
          ]
    ]

-- the chain without a frame
abbrev pub without : ℕ → List ℕ → List ℕ
without x [] = []
without x (y ∷ ys) = cond (eqb x y) ys (y ∷ without x ys)

-- the chain behind the first frame, when that one is taken out
chain_closed : (link before link' before' : ℕ → ℕ) (frames x a : ℕ)
    → before x ≡ a
    → ((b : ℕ) → b ≢ before x → link' b ≡ link b)
    → (link x < frames → before' (link x) ≡ before x)
    → ((y : ℕ) → y ≢ x → y ≢ link x → before' y ≡ before y)
    → (ys : List ℕ) → AreApart ys → is_in x ys ≡ false → is_in a ys ≡ false
    → IsChain link before frames x (link x) ys → IsChain link' before' frames a (link x) ys
chain_closed link before link' before' frames x a from links back backs [] apart own new h = h
chain_closed link before link' before' frames x a from links back backs (z ∷ zs) apart own new h =
    let zlt : link x < frames = rw h.0 h.2 in (
      h.0,
      ap before' (sym h.0) ∙ back zlt ∙ from,
      h.2,
      subst (λ (t : ℕ). IsChain link' before' frames z t zs) (sym (links z (λ e. in_apart z a (z ∷ zs) (in_first z zs) new (e ∙ from))))
          (chain_keeps link before link' before' frames z (link z) zs
          (λ y i. (
            links y (λ e. in_apart y a (z ∷ zs) (in_later y z zs i) new (e ∙ from)),
            backs y (λ e. in_apart y x (z ∷ zs) (in_later y z zs i) own e) (λ e. in_apart y z zs i apart.0 (e ∙ h.0)),
          )) h.3),
    )

-- a frame other than the first is taken out
before_later : (link before : ℕ → ℕ) (frames x a to y : ℕ) (ys : List ℕ) → is_in a (y ∷ ys) ≡ false → IsChain link before frames y to ys → is_in x ys ≡ true → a ≢ before x
before_later link before frames x a to y ys new h i e =
    elim (before_in link before frames y to ys x h i) [
      | inl f ↦ in_apart y a (y ∷ ys) (in_first y ys) new (sym f ∙ sym e)
      | inr j ↦ in_apart (before x) a (y ∷ ys) (in_later (before x) y ys j) new (sym e)
    ]

next_later : (link before : ℕ → ℕ) (frames x to y : ℕ) (ys : List ℕ) → y < frames → is_in y ys ≡ false → IsChain link before frames y to ys → is_in x ys ≡ true → y ≢ link x
next_later link before frames x to y ys lt own h i e =
    elim (next_in link before frames y to ys x h i) [
      | inl le ↦ absurd (omega (arith, le, lt, e))
      | inr j ↦ in_apart (link x) y ys j own (sym e)
    ]

pub chain_without : (link before link' before' : ℕ → ℕ) (frames x : ℕ)
    → link' (before x) ≡ link x
    → ((a : ℕ) → a ≢ before x → link' a ≡ link a)
    → (link x < frames → before' (link x) ≡ before x)
    → ((y : ℕ) → y ≢ x → y ≢ link x → before' y ≡ before y)
    → (a : ℕ) (xs : List ℕ) → AreApart xs → is_in a xs ≡ false → is_in x xs ≡ true
    → IsChain link before frames a (link a) xs → IsChain link' before' frames a (link' a) (without x xs)
chain_without link before link' before' frames x gap links back backs a [] apart new i h = absurd (false≢true i)
chain_without link before link' before' frames x gap links back backs a (y ∷ ys) apart new i h =
    elim (cases_eq x y) [
      | inl e ↦
          let from : before x ≡ a = ap before e ∙ h.1 in
          let goes : link' a ≡ link x = ap link' (sym from) ∙ gap in
          let behind : IsChain link before frames x (link x) ys = subst (λ (k : ℕ). IsChain link before frames k (link k) ys) (sym e) h.3 in
          let own : is_in x ys ≡ false = ap (λ (k : ℕ). is_in k ys) e ∙ apart.0 in
          let closed : IsChain link' before' frames a (link' a) ys = subst (λ (t : ℕ). IsChain link' before' frames a t ys) (sym goes)
          (chain_closed link before link' before' frames x a from links back backs ys apart.1 own (not_later a y ys new) behind) in
          subst (λ (b : Bool). IsChain link' before' frames a (link' a) (cond b ys (y ∷ without x ys))) (sym (eq-eqb x y e)) closed
      | inr n ↦
          let later : is_in x ys ≡ true = sym (in_rest x y ys n) ∙ i in
          let goes : link' a ≡ link a = links a (before_later link before frames x a (link y) y ys new h.3 later) in
          let back_y : before' y ≡ before y = backs y (λ e. n (sym e)) (next_later link before frames x (link y) y ys h.2 apart.0 h.3 later) in
          subst (λ (b : Bool). IsChain link' before' frames a (link' a) (cond b ys (y ∷ without x ys))) (sym (ne_eqb x y n))
          (goes ∙ h.0, back_y ∙ h.1, h.2, chain_without link before link' before' frames x gap links back backs y ys apart.1 apart.0 later h.3)
    ]

pub in_without_other : (x y : ℕ) (xs : List ℕ) → y ≢ x → is_in y (without x xs) ≡ is_in y xs
in_without_other x y [] n = refl
in_without_other x y (z ∷ zs) n =
    elim (cases_eq x z) [
      | inl e ↦ rw (eq-eqb x z e) (sym (in_rest y z zs (λ f. n (f ∙ sym e))))
      | inr m ↦ rw (ne_eqb x z m) (ap (λ (b : Bool). eqb y z || b) (in_without_other x y zs n))
    ]

pub in_without_same : (x : ℕ) (xs : List ℕ) → AreApart xs → is_in x (without x xs) ≡ false
in_without_same x [] apart = refl
in_without_same x (z ∷ zs) apart =
    elim (cases_eq x z) [
      | inl e ↦ rw (eq-eqb x z e) (ap (λ (k : ℕ). is_in k zs) e ∙ apart.0)
      | inr m ↦ rw (ne_eqb x z m) (in_rest x z (without x zs) m ∙ in_without_same x zs apart.1)
    ]

pub not_in_without : (x y : ℕ) (xs : List ℕ) → is_in y xs ≡ false → is_in y (without x xs) ≡ false
not_in_without x y [] h = h
not_in_without x y (z ∷ zs) h =
    elim (cases_eq x z) [
      | inl e ↦ rw (eq-eqb x z e) (not_later y z zs h)
      | inr m ↦ rw (ne_eqb x z m) (ap (λ (b : Bool). b || is_in y (without x zs)) (not_first y z zs h) ∙ not_in_without x y zs (not_later y z zs h))
    ]

pub apart_without : (x : ℕ) (xs : List ℕ) → AreApart xs → AreApart (without x xs)
apart_without x [] h = h
apart_without x (z ∷ zs) h =
    elim (cases_eq x z) [
      | inl e ↦ rw (eq-eqb x z e) h.1
      | inr m ↦ rw (ne_eqb x z m) (not_in_without x z zs h.0, apart_without x zs h.1)
    ]

-- ---- where chains begin and end

pub first_in : (link before : ℕ → ℕ) (frames a to : ℕ) (xs : List ℕ) → IsChain link before frames a to xs → (frames ≤ to) ⊎ (is_in to xs ≡ true)
first_in link before frames a to [] h = inl h
first_in link before frames a to (x ∷ xs) h = inr (subst (λ (y : ℕ). is_in y (x ∷ xs) ≡ true) (sym h.0) (in_first x xs))

pub first_apart : (link before : ℕ → ℕ) (frames a to : ℕ) (xs : List ℕ) (x : ℕ) → IsChain link before frames a to xs → is_in x xs ≡ false → x < frames → x ≢ to
first_apart link before frames a to xs x h absent lt e =
    elim (first_in link before frames a to xs h) [
      | inl le ↦ omega (arith, le, lt, e)
      | inr i ↦ in_apart to x xs i absent (sym e)
    ]

pub next_apart : (link before : ℕ → ℕ) (frames a to : ℕ) (xs : List ℕ) (x : ℕ) → IsChain link before frames a to xs → AreApart xs → is_in x xs ≡ true → x < frames → x ≢ link x
next_apart link before frames a to [] x h apart i lt = absurd (false≢true i)
next_apart link before frames a to (y ∷ ys) x h apart i lt =
    elim (cases_eq x y) [
      | inl e ↦ subst (λ (k : ℕ). k ≢ link k) (sym e) (first_apart link before frames y (link y) ys y h.3 apart.0 h.2)
      | inr n ↦ next_apart link before frames y (link y) ys x h.3 apart.1 (sym (in_rest x y ys n) ∙ i) lt
    ]

pub first_before : (link before : ℕ → ℕ) (frames a to : ℕ) (xs : List ℕ) → IsChain link before frames a to xs → to < frames → before to ≡ a
first_before link before frames a to [] h lt = absurd (omega (arith, h, lt))
first_before link before frames a to (x ∷ xs) h lt = ap before h.0 ∙ h.1

pub next_before : (link before : ℕ → ℕ) (frames a to : ℕ) (xs : List ℕ) (x : ℕ) → IsChain link before frames a to xs → is_in x xs ≡ true → link x < frames → before (link x) ≡ x
next_before link before frames a to [] x h i lt = absurd (false≢true i)
next_before link before frames a to (y ∷ ys) x h i lt =
    elim (cases_eq x y) [
      | inl e ↦ subst (λ (k : ℕ). link k < frames → before (link k) ≡ k) (sym e) (first_before link before frames y (link y) ys h.3) lt
      | inr n ↦ next_before link before frames y (link y) ys x h.3 (sym (in_rest x y ys n) ∙ i) lt
    ]

head-out : (link before : ℕ → ℕ) (frames a to b : ℕ) (xs : List ℕ) (t : Bool) → IsChain link before frames a to xs → is_in (frames + b) xs ≡ t → t ≡ false
head-out link before frames a to b xs false h e = refl
head-out link before frames a to b xs true h e = absurd (let lt = chain_below link before frames a to xs (frames + b) h e in omega (arith, lt))

pub head_out : (link before : ℕ → ℕ) (frames a to b : ℕ) (xs : List ℕ) → IsChain link before frames a to xs → is_in (frames + b) xs ≡ false
head_out link before frames a to b xs h = head-out link before frames a to b xs (is_in (frames + b) xs) h refl

-- ---- buckets

belongs_one : (bucket : ℕ → ℕ) (b c : ℕ) (h : Option ℕ) → belongs bucket b h ≡ true → belongs bucket c h ≡ true → b ≡ c
belongs_one bucket b c None p q = absurd (false≢true p)
belongs_one bucket b c (Some f) p q = sym (eqb-true _ _ p) ∙ eqb-true _ _ q

module _ (link before : ℕ → ℕ) (held : ℕ → Option ℕ) (bucket : ℕ → ℕ) (frames buckets : ℕ) (h : AreChained link before held bucket frames buckets) where
  pub below_in : (b y : ℕ) → b < buckets → is_in y (h.chain b) ≡ true → y < frames
  below_in b y lt i = chain_below link before frames (frames + b) (link (frames + b)) (h.chain b) y (h.path b lt) i

  other_chain : (b c y : ℕ) → b < buckets → c < buckets → c ≢ b → is_in y (h.chain c) ≡ true → is_in y (h.chain b) ≡ true → ⊥
  other_chain b c y blt clt ne i j =
      let lt = below_in b y blt j in
      ne (belongs_one bucket c b (held y) (sym (h.listed c y clt lt) ∙ i) (sym (h.listed b y blt lt) ∙ j))

  absent_in : (b x : ℕ) → b < buckets → x < frames → held x ≡ None → is_in x (h.chain b) ≡ false
  absent_in b x blt lt free = h.listed b x blt lt ∙ ap (belongs bucket b) free

  pub chained_put : (link' before' : ℕ → ℕ) (held' : ℕ → Option ℕ) (b x f : ℕ)
      → b < buckets → bucket f ≡ b → x < frames → held x ≡ None
      → link' (frames + b) ≡ x → link' x ≡ link (frames + b)
      → ((a : ℕ) → a ≢ frames + b → a ≢ x → link' a ≡ link a)
      → (x ≢ link (frames + b) → before' x ≡ frames + b)
      → (link (frames + b) < frames → before' (link (frames + b)) ≡ x)
      → ((y : ℕ) → y ≢ x → y ≢ link (frames + b) → before' y ≡ before y)
      → held' x ≡ Some f → ((y : ℕ) → y ≢ x → held' y ≡ held y)
      → AreChained link' before' held' bucket frames buckets
  chained_put link' before' held' b x f blt own xlt free to_x next links back first backs put kept =
      let chain' : ℕ → List ℕ = λ c. cond (eqb c b) (x ∷ h.chain b) (h.chain c) in
      let absent : is_in x (h.chain b) ≡ false = absent_in b x blt xlt free in
      let mine : chain' b ≡ x ∷ h.chain b = ap (λ (t : Bool). cond t (x ∷ h.chain b) (h.chain b)) (eq-eqb b b refl) in
      let others : (c : ℕ) → c ≢ b → chain' c ≡ h.chain c = λ c n. ap (λ (t : Bool). cond t (x ∷ h.chain b) (h.chain c)) (ne_eqb c b n) in
      record {
        chain = chain';
        path = λ c clt.
            elim (cases_eq c b) [
              | inl e ↦
                  subst (λ (k : ℕ). IsChain link' before' frames (frames + k) (link' (frames + k)) (chain' k)) (sym e)
                  (subst (λ (l : List ℕ). IsChain link' before' frames (frames + b) (link' (frames + b)) l) (sym mine)
                  (subst (λ (t : ℕ). IsChain link' before' frames (frames + b) t (x ∷ h.chain b)) (sym to_x)
                  (chain_first link before link' before' frames (frames + b) x (h.chain b) xlt next
                  (back (first_apart link before frames (frames + b) (link (frames + b)) (h.chain b) x (h.path b blt) absent xlt)) first
                  (λ y i. links y (let lt = below_in b y blt i in λ q. omega (arith, lt, q)) (in_apart y x (h.chain b) i absent))
                  (λ y i n. backs y (in_apart y x (h.chain b) i absent) n) (h.apart b blt) (h.path b blt))))
              | inr n ↦
                  subst (λ (l : List ℕ). IsChain link' before' frames (frames + c) (link' (frames + c)) l) (sym (others c n))
                  (subst (λ (t : ℕ). IsChain link' before' frames (frames + c) t (h.chain c)) (sym (links (frames + c) (λ q. n (omega (arith, q))) (λ q. omega (arith, q, xlt))))
                  (chain_keeps link before link' before' frames (frames + c) (link (frames + c)) (h.chain c)
                  (λ y i.
                  let lt = below_in c y clt i in
                  let apart_x : y ≢ x = in_apart y x (h.chain c) i (absent_in c x clt xlt free) in (
                    links y (λ q. omega (arith, lt, q)) apart_x,
                    backs y apart_x (λ q. elim (first_in link before frames (frames + b) (link (frames + b)) (h.chain b) (h.path b blt)) [
                      | inl le ↦ omega (arith, le, lt, q)
                      | inr j ↦ other_chain b c y blt clt n i (subst (λ (k : ℕ). is_in k (h.chain b) ≡ true) (sym q) j)
                    ]),
                  )) (h.path c clt)))
            ];
        apart = λ c clt.
            elim (cases_eq c b) [
              | inl e ↦ subst (λ (k : ℕ). AreApart (chain' k)) (sym e) (subst AreApart (sym mine) (absent, h.apart b blt))
              | inr n ↦ subst AreApart (sym (others c n)) (h.apart c clt)
            ];
        listed = λ c y clt ylt.
            elim (cases_eq y x) [
              | inl same ↦
                  subst (λ (k : ℕ). is_in k (chain' c) ≡ belongs bucket c (held' k)) (sym same)
                  (elim (cases_eq c b) [
                    | inl e ↦ subst (λ (k : ℕ). is_in x (chain' k) ≡ belongs bucket k (held' x)) (sym e)
                        (ap (is_in x) mine ∙ in_first x (h.chain b) ∙ sym (ap (belongs bucket b) put ∙ eq-eqb (bucket f) b own))
                    | inr n ↦ ap (is_in x) (others c n) ∙ absent_in c x clt xlt free ∙ sym (ap (belongs bucket c) put ∙ ne_eqb (bucket f) c (λ q. n (sym q ∙ own)))
                  ])
              | inr other ↦
                  (elim (cases_eq c b) [
                    | inl e ↦ subst (λ (k : ℕ). is_in y (chain' k) ≡ is_in y (h.chain k)) (sym e) (ap (is_in y) mine ∙ in_rest y x (h.chain b) other)
                    | inr n ↦ ap (is_in y) (others c n)
                  ]) ∙ h.listed c y clt ylt ∙ ap (belongs bucket c) (sym (kept y other))
            ];
      }

  pub chained_take : (link' before' : ℕ → ℕ) (held' : ℕ → Option ℕ) (x f : ℕ)
      → bucket f < buckets → x < frames → held x ≡ Some f
      → link' (before x) ≡ link x
      → ((a : ℕ) → a ≢ before x → link' a ≡ link a)
      → (link x < frames → x ≢ link x → before' (link x) ≡ before x)
      → ((y : ℕ) → y ≢ x → y ≢ link x → before' y ≡ before y)
      → held' x ≡ None → ((y : ℕ) → y ≢ x → held' y ≡ held y)
      → AreChained link' before' held' bucket frames buckets
  chained_take link' before' held' x f blt xlt used gap links back backs taken kept =
      let b : ℕ = bucket f in
      let chain' : ℕ → List ℕ = λ c. cond (eqb c b) (without x (h.chain b)) (h.chain c) in
      let there : is_in x (h.chain b) ≡ true = h.listed b x blt xlt ∙ ap (belongs bucket b) used ∙ eq-eqb b b refl in
      let path : IsChain link before frames (frames + b) (link (frames + b)) (h.chain b) = h.path b blt in
      let mine : chain' b ≡ without x (h.chain b) = ap (λ (t : Bool). cond t (without x (h.chain b)) (h.chain b)) (eq-eqb b b refl) in
      let others : (c : ℕ) → c ≢ b → chain' c ≡ h.chain c = λ c n. ap (λ (t : Bool). cond t (without x (h.chain b)) (h.chain c)) (ne_eqb c b n) in
      record {
        chain = chain';
        path = λ c clt.
            elim (cases_eq c b) [
              | inl e ↦
                  subst (λ (k : ℕ). IsChain link' before' frames (frames + k) (link' (frames + k)) (chain' k)) (sym e)
                  (subst (λ (l : List ℕ). IsChain link' before' frames (frames + b) (link' (frames + b)) l) (sym mine)
                  (chain_without link before link' before' frames x gap links
                  (λ lt. back lt (next_apart link before frames (frames + b) (link (frames + b)) (h.chain b) x path (h.apart b blt) there xlt))
                  backs (frames + b) (h.chain b) (h.apart b blt) (head_out link before frames (frames + b) (link (frames + b)) b (h.chain b) path) there path))
              | inr n ↦
                  let apart_before : (y : ℕ) → y < frames → is_in y (h.chain c) ≡ true → y ≢ before x = λ y lt i q.
                  elim (before_in link before frames (frames + b) (link (frames + b)) (h.chain b) x path there) [
                    | inl p ↦ omega (arith, lt, q, p)
                    | inr j ↦ other_chain b c y blt clt n i (subst (λ (k : ℕ). is_in k (h.chain b) ≡ true) (sym q) j)
                  ] in
                  let head_before : frames + c ≢ before x = λ q.
                  elim (before_in link before frames (frames + b) (link (frames + b)) (h.chain b) x path there) [
                    | inl p ↦ n (omega (arith, q, p))
                    | inr j ↦ let lt = below_in b (before x) blt j in omega (arith, lt, q)
                  ] in
                  subst (λ (l : List ℕ). IsChain link' before' frames (frames + c) (link' (frames + c)) l) (sym (others c n))
                  (subst (λ (t : ℕ). IsChain link' before' frames (frames + c) t (h.chain c)) (sym (links (frames + c) head_before))
                  (chain_keeps link before link' before' frames (frames + c) (link (frames + c)) (h.chain c)
                  (λ y i.
                  let lt = below_in c y clt i in (
                    links y (apart_before y lt i),
                    backs y (λ q. other_chain b c y blt clt n i (subst (λ (k : ℕ). is_in k (h.chain b) ≡ true) (sym q) there))
                        (λ q. elim (next_in link before frames (frames + b) (link (frames + b)) (h.chain b) x path there) [
                          | inl le ↦ omega (arith, le, lt, q)
                          | inr j ↦ other_chain b c y blt clt n i (subst (λ (k : ℕ). is_in k (h.chain b) ≡ true) (sym q) j)
                        ]),
                  )) (h.path c clt)))
            ];
        apart = λ c clt.
            elim (cases_eq c b) [
              | inl e ↦ subst (λ (k : ℕ). AreApart (chain' k)) (sym e) (subst AreApart (sym mine) (apart_without x (h.chain b) (h.apart b blt)))
              | inr n ↦ subst AreApart (sym (others c n)) (h.apart c clt)
            ];
        listed = λ c y clt ylt.
            elim (cases_eq y x) [
              | inl same ↦
                  subst (λ (k : ℕ). is_in k (chain' c) ≡ belongs bucket c (held' k)) (sym same)
                  ((elim (cases_eq c b) [
                    | inl e ↦ subst (λ (k : ℕ). is_in x (chain' k) ≡ false) (sym e) (ap (is_in x) mine ∙ in_without_same x (h.chain b) (h.apart b blt))
                    | inr n ↦ ap (is_in x) (others c n) ∙ h.listed c x clt xlt ∙ ap (belongs bucket c) used ∙ ne_eqb b c (λ q. n (sym q))
                  ]) ∙ sym (ap (belongs bucket c) taken))
              | inr other ↦
                  (elim (cases_eq c b) [
                    | inl e ↦ subst (λ (k : ℕ). is_in y (chain' k) ≡ is_in y (h.chain k)) (sym e) (ap (is_in y) mine ∙ in_without_other x y (h.chain b) other)
                    | inr n ↦ ap (is_in y) (others c n)
                  ]) ∙ h.listed c y clt ylt ∙ ap (belongs bucket c) (sym (kept y other))
            ];
      }
