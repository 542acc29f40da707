-- No fewer frames than different contents, and just as many where all equal pages are shared.
use Rattle.std.proofs.Common.{◌≡◌, ℕ, zero, suc, ◌+◌, ◌≤◌, Bool, true, false, cond, List, [], ◌∷◌, ◌++◌, Some, length, refl, ap, sym, ◌∙◌, inl, inr, arith, subst}
use Rattle.std.specs.Prelude.{count_by}
use Rattle.std.specs.List.{list_any, flat_map}
use Rattle.std.proofs.lemmas.List.Sums.{sum_by-cons}
use Rattle.page_model.specs.Pages.{Slot, Unmapped, Private, Shared, Guest, is_private, count_pages, any_page, used, page_at}
use Rattle.page_model.specs.Contents.{mapped_content, mapped_contents, copies, different, EqualPagesAreShared, NeedsAFrameEach, SharingAllIsLeast}
use Rattle.page_model.proofs.Used.{Content, same, same_is, same_self, once, once_is, kinds, contents_in, contents, distinct_is}
use Rattle.page_model.proofs.Anys.{AnyIsCount, joined, one_of, any_is_count, page_passing, Passing}

-- ---- occurrences of a content
copies_cons : (p c : Content) (cs : List Content) → copies p (c ∷ cs) ≡ cond (same p c) 1 0 + copies p cs
copies_cons p c cs = sum_by-cons (λ (x : Content). cond (same p x) 1 0) c cs

copies_self : (c : Content) (cs : List Content) → copies c (c ∷ cs) ≡ 1 + copies c cs
copies_self c cs = copies_cons c c cs ∙ ap (λ b. cond b 1 0 + copies c cs) (same_self c)

any_copies : (p : Content) (cs : List Content) → AnyIsCount (list_any (same p) cs) (copies p cs)
any_copies p [] = inr (refl, refl)
any_copies p (c ∷ cs) = joined (same p c) (list_any (same p) cs) (cond (same p c) 1 0) (copies p cs) (copies p (c ∷ cs)) (one_of (same p c)) (any_copies p cs) (copies_cons p c cs)

different_is : (cs : List Content) → different cs ≡ kinds cs
different_is [] = refl
different_is (c ∷ cs) = omega (arith, different_is cs, once_is (list_any (same c) cs))

once_le : (a b : Bool) (m n : ℕ) → AnyIsCount a m → AnyIsCount b n → n ≤ m → once a ≤ once b
once_le a b m n (inl h) y le = let e : once a ≡ 0 = ap once h.0 in omega arith
once_le a b m n (inr h) (inl j) le = absurd (omega (arith, h.1, j.1))
once_le a b m n (inr h) (inr j) le = let e : once a ≡ once b = ap once (h.0 ∙ sym j.0) in omega arith

once_same : (a b : Bool) (m n : ℕ) → AnyIsCount a m → AnyIsCount b n → n ≤ m → (1 ≤ m → 1 ≤ n) → once a ≡ once b
once_same a b m n (inl h) (inl j) le more = ap once (h.0 ∙ sym j.0)
once_same a b m n (inl h) (inr j) le more = absurd (let some = more h.1 in omega (arith, j.1))
once_same a b m n (inr h) (inl j) le more = absurd (omega (arith, h.1, j.1))
once_same a b m n (inr h) (inr j) le more = ap once (h.0 ∙ sym j.0)

once_none : (a : Bool) (m : ℕ) → AnyIsCount a m → m ≡ 0 → once a ≡ 1
once_none a m (inl h) z = absurd (omega (arith, h.1))
once_none a m (inr h) z = ap once h.0

once_most : (b : Bool) → once b ≤ 1
once_most true = omega arith
once_most false = omega arith

-- ---- what mapped pages hold: a content in a frame of its own, or in one that others may have too
data Held : Type 0 where
  Own : Content → Held
  Common : Content → Held

abbrev all : List Held → List Content
all [] = []
all (Own c ∷ hs) = c ∷ all hs
all (Common c ∷ hs) = c ∷ all hs

abbrev owns : List Held → List Content
owns [] = []
owns (Own c ∷ hs) = c ∷ owns hs
owns (Common c ∷ hs) = owns hs

abbrev commons : List Held → List Content
commons [] = []
commons (Own c ∷ hs) = commons hs
commons (Common c ∷ hs) = c ∷ commons hs

copies_parts : (p : Content) (hs : List Held) → copies p (all hs) ≡ copies p (owns hs) + copies p (commons hs)
copies_parts p [] = refl
copies_parts p (Own c ∷ hs) = omega (arith, copies_parts p hs, copies_cons p c (all hs), copies_cons p c (owns hs))
copies_parts p (Common c ∷ hs) = omega (arith, copies_parts p hs, copies_cons p c (all hs), copies_cons p c (commons hs))

least : (hs : List Held) → kinds (all hs) ≤ length (owns hs) + kinds (commons hs)
least [] = omega arith
least (Own c ∷ hs) = omega (arith, least hs, once_most (list_any (same c) (all hs)))
least (Common c ∷ hs) =
    let le = once_le (list_any (same c) (all hs)) (list_any (same c) (commons hs)) (copies c (all hs)) (copies c (commons hs)) (any_copies c (all hs)) (any_copies c (commons hs)) (omega (arith, copies_parts c hs)) in
    omega (arith, least hs, le)

some_common : (o m : ℕ) → (1 ≤ o → 1 + (o + m) ≤ 1) → 1 ≤ o + m → 1 ≤ m
some_common zero m h some = omega arith
some_common (suc o) m h some = absurd (let few = h (omega arith) in omega arith)

exact : (hs : List Held) → ((p : Content) → 1 ≤ copies p (owns hs) → copies p (all hs) ≤ 1) → kinds (all hs) ≡ length (owns hs) + kinds (commons hs)
exact [] h = refl
exact (Own c ∷ hs) h =
    let few = h c (omega (arith, copies_self c (owns hs))) in
    let alone : copies c (all hs) ≡ 0 = omega (arith, few, copies_self c (all hs)) in
    let one = once_none (list_any (same c) (all hs)) (copies c (all hs)) (any_copies c (all hs)) alone in
    let rest = exact hs (λ p some. let l = h p (omega (arith, some, copies_cons p c (owns hs))) in omega (arith, l, copies_cons p c (all hs))) in
    omega (arith, rest, one)
exact (Common c ∷ hs) h =
    let few : 1 ≤ copies c (owns hs) → 1 + (copies c (owns hs) + copies c (commons hs)) ≤ 1 = λ some. let l = h c some in omega (arith, l, copies_self c (all hs), copies_parts c hs) in
    let e = once_same (list_any (same c) (all hs)) (list_any (same c) (commons hs)) (copies c (all hs)) (copies c (commons hs))
    (any_copies c (all hs)) (any_copies c (commons hs)) (omega (arith, copies_parts c hs))
    (λ some. some_common (copies c (owns hs)) (copies c (commons hs)) few (omega (arith, some, copies_parts c hs))) in
    let rest = exact hs (λ p some. let l = h p some in omega (arith, l, copies_cons p c (all hs))) in
    omega (arith, rest, e)

-- ---- the pages of a machine
abbrev held : ℕ → Slot → List Held
held salt Unmapped = []
held salt (Private bytes hint) = Own (salt, bytes) ∷ []
held salt (Shared bytes) = Common (salt, bytes) ∷ []

abbrev held_in : ℕ → List Slot → List Held
held_in salt slots = flat_map (held salt) slots

abbrev held_by : List Guest → List Held
held_by guests = flat_map (λ g. held_in g.salt g.slots) guests

all_append : (xs ys : List Held) → all (xs ++ ys) ≡ all xs ++ all ys
all_append [] ys = refl
all_append (Own c ∷ xs) ys = ap (λ cs. c ∷ cs) (all_append xs ys)
all_append (Common c ∷ xs) ys = ap (λ cs. c ∷ cs) (all_append xs ys)

commons_append : (xs ys : List Held) → commons (xs ++ ys) ≡ commons xs ++ commons ys
commons_append [] ys = refl
commons_append (Own c ∷ xs) ys = commons_append xs ys
commons_append (Common c ∷ xs) ys = ap (λ cs. c ∷ cs) (commons_append xs ys)

owns_length : (xs ys : List Held) → length (owns (xs ++ ys)) ≡ length (owns xs) + length (owns ys)
owns_length [] ys = omega arith
owns_length (Own c ∷ xs) ys = omega (arith, owns_length xs ys)
owns_length (Common c ∷ xs) ys = owns_length xs ys

owns_copies : (p : Content) (xs ys : List Held) → copies p (owns (xs ++ ys)) ≡ copies p (owns xs) + copies p (owns ys)
owns_copies p [] ys = omega arith
owns_copies p (Own c ∷ xs) ys = omega (arith, owns_copies p xs ys, copies_cons p c (owns (xs ++ ys)), copies_cons p c (owns xs))
owns_copies p (Common c ∷ xs) ys = owns_copies p xs ys

all_in : (salt : ℕ) (slots : List Slot) → all (held_in salt slots) ≡ flat_map (mapped_content salt) slots
all_in salt [] = refl
all_in salt (Unmapped ∷ slots) = all_in salt slots
all_in salt (Private bytes hint ∷ slots) = ap (λ cs. (salt, bytes) ∷ cs) (all_in salt slots)
all_in salt (Shared bytes ∷ slots) = ap (λ cs. (salt, bytes) ∷ cs) (all_in salt slots)

all_is : (guests : List Guest) → all (held_by guests) ≡ mapped_contents guests
all_is [] = refl
all_is (g ∷ guests) =
    all_append (held_in g.salt g.slots) (held_by guests)
    ∙ ap (λ cs. cs ++ all (held_by guests)) (all_in g.salt g.slots)
    ∙ ap (λ cs. flat_map (mapped_content g.salt) g.slots ++ cs) (all_is guests)

commons_in : (salt : ℕ) (slots : List Slot) → commons (held_in salt slots) ≡ contents_in salt slots
commons_in salt [] = refl
commons_in salt (Unmapped ∷ slots) = commons_in salt slots
commons_in salt (Private bytes hint ∷ slots) = commons_in salt slots
commons_in salt (Shared bytes ∷ slots) = ap (λ cs. (salt, bytes) ∷ cs) (commons_in salt slots)

commons_are : (guests : List Guest) → commons (held_by guests) ≡ contents guests
commons_are [] = refl
commons_are (g ∷ guests) =
    commons_append (held_in g.salt g.slots) (held_by guests)
    ∙ ap (λ cs. cs ++ commons (held_by guests)) (commons_in g.salt g.slots)
    ∙ ap (λ cs. contents_in g.salt g.slots ++ cs) (commons_are guests)

count_cons : (q : Slot → Bool) (s : Slot) (slots : List Slot) → count_by q (s ∷ slots) ≡ cond (q s) 1 0 + count_by q slots
count_cons q s slots = sum_by-cons (λ (x : Slot). cond (q x) 1 0) s slots

owns_in : (salt : ℕ) (slots : List Slot) → length (owns (held_in salt slots)) ≡ count_by is_private slots
owns_in salt [] = refl
owns_in salt (Unmapped ∷ slots) = omega (arith, owns_in salt slots, count_cons is_private Unmapped slots)
owns_in salt (Private bytes hint ∷ slots) = omega (arith, owns_in salt slots, count_cons is_private (Private bytes hint) slots)
owns_in salt (Shared bytes ∷ slots) = omega (arith, owns_in salt slots, count_cons is_private (Shared bytes) slots)

owns_are : (guests : List Guest) → length (owns (held_by guests)) ≡ count_pages (λ _. is_private) guests
owns_are [] = refl
owns_are (g ∷ guests) =
    omega (arith, owns_length (held_in g.salt g.slots) (held_by guests), owns_in g.salt g.slots, owns_are guests, sum_by-cons (λ (x : Guest). count_by is_private x.slots) g guests)

-- the page is private with this content
abbrev is_own : Content → ℕ → Slot → Bool
is_own p salt Unmapped = false
is_own p salt (Private bytes hint) = same p (salt, bytes)
is_own p salt (Shared bytes) = false

own_copies_in : (p : Content) (salt : ℕ) (slots : List Slot) → copies p (owns (held_in salt slots)) ≡ count_by (is_own p salt) slots
own_copies_in p salt [] = refl
own_copies_in p salt (Unmapped ∷ slots) = omega (arith, own_copies_in p salt slots, count_cons (is_own p salt) Unmapped slots)
own_copies_in p salt (Private bytes hint ∷ slots) =
    omega (arith, own_copies_in p salt slots, count_cons (is_own p salt) (Private bytes hint) slots, copies_cons p (salt, bytes) (owns (held_in salt slots)))
own_copies_in p salt (Shared bytes ∷ slots) = omega (arith, own_copies_in p salt slots, count_cons (is_own p salt) (Shared bytes) slots)

own_copies : (p : Content) (guests : List Guest) → copies p (owns (held_by guests)) ≡ count_pages (is_own p) guests
own_copies p [] = refl
own_copies p (g ∷ guests) =
    omega (arith, owns_copies p (held_in g.salt g.slots) (held_by guests), own_copies_in p g.salt g.slots, own_copies p guests, sum_by-cons (λ (x : Guest). count_by (is_own p x.salt) x.slots) g guests)

false_not_true : false ≡ true → ⊥
false_not_true e = cc

-- a private page's content occurs once where all equal pages are shared
once_step : (p : Content) (guests : List Guest) (guest ppn salt : ℕ) (slot : Slot) → EqualPagesAreShared guests → page_at guests guest ppn ≡ Some (salt, slot) → is_own p salt slot ≡ true → 2 ≤ copies p (mapped_contents guests) → ⊥
once_step p guests guest ppn salt Unmapped shared at own more = false_not_true own
once_step p guests guest ppn salt (Private bytes hint) shared at own more =
    let is : (salt, bytes) ≡ p = same_is p (salt, bytes) own in
    false_not_true (shared guest ppn salt (Private bytes hint) at refl (subst (λ (c : Content). 2 ≤ copies c (mapped_contents guests)) (sym is) more))
once_step p guests guest ppn salt (Shared bytes) shared at own more = false_not_true own

any_own : (t : Bool) (n : ℕ) → AnyIsCount t n → 1 ≤ n → t ≡ true
any_own t n (inl h) some = h.0
any_own t n (inr h) some = absurd (omega (arith, h.1))

at_most_one : (n : ℕ) → (2 ≤ n → ⊥) → n ≤ 1
at_most_one zero h = omega arith
at_most_one (suc zero) h = omega arith
at_most_one (suc (suc n)) h = absurd (h (omega arith))

owned_once : (guests : List Guest) → EqualPagesAreShared guests → (p : Content) → 1 ≤ copies p (owns (held_by guests)) → copies p (all (held_by guests)) ≤ 1
owned_once guests shared p some =
    let any : any_page (is_own p) guests ≡ true = any_own _ (count_pages (is_own p) guests) (any_is_count (is_own p) guests) (omega (arith, some, own_copies p guests)) in
    let page : Passing (is_own p) guests = page_passing (is_own p) guests any in
    rw (all_is guests) (at_most_one (copies p (mapped_contents guests)) (once_step p guests page.guest page.ppn page.salt page.slot shared page.at page.passes))

frames_are : (guests : List Guest) → used guests ≡ length (owns (held_by guests)) + kinds (commons (held_by guests))
frames_are guests = let c : kinds (commons (held_by guests)) ≡ kinds (contents guests) = ap kinds (commons_are guests) in omega (arith, owns_are guests, distinct_is guests, c)

contents_are : (guests : List Guest) → different (mapped_contents guests) ≡ kinds (all (held_by guests))
contents_are guests = different_is (mapped_contents guests) ∙ ap kinds (sym (all_is guests))

pub needs_a_frame_each : NeedsAFrameEach
needs_a_frame_each s = omega (arith, least (held_by s.guests), frames_are s.guests, contents_are s.guests)

pub sharing_all_is_least : SharingAllIsLeast
sharing_all_is_least s shared = omega (arith, exact (held_by s.guests) (owned_once s.guests shared), frames_are s.guests, contents_are s.guests)
