-- Slots in lists, and messages under way.
use Rattle.std.proofs.Common.{◌≡◌, ◌∙◌, ℕ, zero, suc, ◌+◌, ◌≤◌, ◌⊎◌, inl, inr, Bool, true, false, ◌||◌, List, [], ◌∷◌, ◌++◌, length, take, drop, Option, Some, None, refl, ap, sym, subst, arith, length-append, length-drop, length-take}
use Rattle.std.specs.Prelude.{nat_eq}
use Rattle.std.proofs.lemmas.Bool.{eqb-true}
use Rattle.std.proofs.lemmas.Slice.Eq.{bytes_eq-Decides}
use Rattle.std.specs.Str.{bytes_eq}
use Rattle.host_messages.specs.declared.client.Wanted.{Wanted}
use Rattle.client_session.specs.declared.link.Link.{Link}
use Rattle.client_session.specs.declared.link.Link.TheVariants as link
use Rattle.client_session.specs.Sessions.{is_talking, is_greeting, is_asked, is_lent, is_named, wanted_as}
use Rattle.session_laws.specs.World.{Said, Hello, Ask, Lend, Release, Reply, has, sent, next_loans}
use Rattle.session_laws.specs.Sound.{Sub, OnlyReleases, AreAsked, OnlyHellos, AreStale, is_coming}

-- ---- tests

pub or_left : (a b : Bool) → a ≡ true → (a || b) ≡ true
or_left true b e = refl
or_left false b e = cc

pub or_right : (a b : Bool) → b ≡ true → (a || b) ≡ true
or_right true b e = refl
or_right false b e = e

or_either : (a b c : Bool) → (b ≡ true → c ≡ true) → (a || b) ≡ true → (a || c) ≡ true
or_either true b c f e = refl
or_either false b c f e = f e

or_none : (a b : Bool) → (a || b) ≡ false → (a ≡ false) × (b ≡ false)
or_none true b e = absurd (cc)
or_none false b e = (refl, e)

or_false : (a b : Bool) → a ≡ false → b ≡ false → (a || b) ≡ false
or_false true b e f = cc
or_false false b e f = f

pub or_second : (a b : Bool) → a ≡ false → (a || b) ≡ true → b ≡ true
or_second true b e f = absurd (cc)
or_second false b e f = f

pub differs : (b : Bool) → b ≡ true → b ≡ false → ⊥
differs true e f = cc
differs false e f = cc

-- ---- has

pub has_left : (xs ys : List ℕ) (s : ℕ) → has xs s ≡ true → has (xs ++ ys) s ≡ true
has_left [] ys s e = cc
has_left (x ∷ xs) ys s e = or_either (nat_eq x s) (has xs s) (has (xs ++ ys) s) (has_left xs ys s) e

pub has_right : (xs ys : List ℕ) (s : ℕ) → has ys s ≡ true → has (xs ++ ys) s ≡ true
has_right [] ys s e = e
has_right (x ∷ xs) ys s e = or_right (nat_eq x s) (has (xs ++ ys) s) (has_right xs ys s e)

split_or : (a b c : Bool) (R : Type 0) → (b ≡ true → (c ≡ true) ⊎ R) → (a || b) ≡ true → ((a || c) ≡ true) ⊎ R
split_or true b c R f e = inl refl
split_or false b c R f e = f e

pub has_split : (xs ys : List ℕ) (s : ℕ) → has (xs ++ ys) s ≡ true → (has xs s ≡ true) ⊎ (has ys s ≡ true)
has_split [] ys s e = inr e
has_split (x ∷ xs) ys s e = split_or (nat_eq x s) (has (xs ++ ys) s) (has xs s) (has ys s ≡ true) (has_split xs ys s) e

pub has_neither : (xs ys : List ℕ) (s : ℕ) → has xs s ≡ false → has ys s ≡ false → has (xs ++ ys) s ≡ false
has_neither [] ys s e f = f
has_neither (x ∷ xs) ys s e f =
    let both : (nat_eq x s ≡ false) × (has xs s ≡ false) = or_none (nat_eq x s) (has xs s) e in
    or_false (nat_eq x s) (has (xs ++ ys) s) both.0 (has_neither xs ys s both.1 f)

pub has_drop : (n : ℕ) (xs : List ℕ) (s : ℕ) → has (drop n xs) s ≡ true → has xs s ≡ true
has_drop zero xs s e = e
has_drop (suc n) [] s e = e
has_drop (suc n) (x ∷ xs) s e = or_right (nat_eq x s) (has xs s) (has_drop n xs s e)

pub drop_has_none : (n : ℕ) (xs : List ℕ) (s : ℕ) → has xs s ≡ false → has (drop n xs) s ≡ false
drop_has_none zero xs s e = e
drop_has_none (suc n) [] s e = e
drop_has_none (suc n) (x ∷ xs) s e = drop_has_none n xs s (or_none (nat_eq x s) (has xs s) e).1

pub has_take : (n : ℕ) (xs : List ℕ) (s : ℕ) → has (take n xs) s ≡ true → has xs s ≡ true
has_take zero xs s e = cc
has_take (suc n) [] s e = e
has_take (suc n) (x ∷ xs) s e = or_either (nat_eq x s) (has (take n xs) s) (has xs s) (has_take n xs s) e

pub has_rest : (k : ℕ) (xs : List ℕ) (s : ℕ) → has xs s ≡ true → (has (take k xs) s ≡ true) ⊎ (has (drop (length (take k xs)) xs) s ≡ true)
has_rest zero xs s e = inr e
has_rest (suc k) [] s e = inr e
has_rest (suc k) (x ∷ xs) s e =
    split_or (nat_eq x s) (has xs s) (has (take k xs) s) (has (drop (length (take k xs)) xs) s ≡ true) (has_rest k xs s) e

-- ---- lists

drop_none : (n : ℕ) (xs : List ℕ) → xs ≡ [] → drop n xs ≡ []
drop_none zero xs e = e
drop_none (suc n) [] e = refl
drop_none (suc n) (x ∷ xs) e = absurd (cc)

pub drop_twice : (n m : ℕ) (xs : List ℕ) → drop (n + m) xs ≡ drop m (drop n xs)
drop_twice zero m xs = let e : 0 + m ≡ m = omega arith in ap (λ (k : ℕ). drop k xs) e
drop_twice (suc n) m [] = drop_none (suc n + m) [] refl ∙ sym (drop_none m [] refl)
drop_twice (suc n) m (x ∷ xs) = let e : suc n + m ≡ suc (n + m) = omega arith in ap (λ (k : ℕ). drop k (x ∷ xs)) e ∙ drop_twice n m xs

pub drop_all : (n : ℕ) (xs : List ℕ) → n ≡ length xs → drop n xs ≡ []
drop_all zero [] e = refl
drop_all zero (x ∷ xs) e = absurd (omega arith)
drop_all (suc n) [] e = refl
drop_all (suc n) (x ∷ xs) e = drop_all n xs (omega arith)

pub more_within : (n k : ℕ) (xs : List ℕ) → n ≤ length xs → n + length (take k (drop n xs)) ≤ length xs
more_within n k xs h = omega (arith, length-take k (drop n xs), length-drop n xs)

pub and_nothing : (ms : List Said) → ms ++ [] ≡ ms
and_nothing [] = refl
and_nothing (m ∷ ms) = ap (λ (r : List Said). m ∷ r) (and_nothing ms)

pub none_first : (ms : List Said) (m : Said) (rest : List Said) → ms ≡ [] → ms ≡ m ∷ rest → ⊥
none_first ms m rest e f = cc

pub zero_least : (n : ℕ) → 0 ≤ n
zero_least n = omega arith

pub grown : (n : ℕ) (xs ys : List ℕ) → n ≤ length xs → n ≤ length (xs ++ ys)
grown n xs ys h = omega (arith, length-append xs ys)

pub no_frame : (f : ℕ) → None ≡ Some f → ⊥
no_frame f e = cc

-- what is heard first isn't Hello
pub hello_ask : (ms rest : List Said) (o : Option Wanted) (n : ℕ) → (ms ≡ []) ⊎ (ms ≡ Hello o ∷ []) → ms ≡ Ask n ∷ rest → ⊥
hello_ask ms rest o n (inl e) f = cc
hello_ask ms rest o n (inr e) f = cc

pub hello_lend : (ms rest : List Said) (o : Option Wanted) (n : ℕ) → (ms ≡ []) ⊎ (ms ≡ Hello o ∷ []) → ms ≡ Lend n ∷ rest → ⊥
hello_lend ms rest o n (inl e) f = cc
hello_lend ms rest o n (inr e) f = cc

pub hello_release : (ms rest : List Said) (o : Option Wanted) (slots : List ℕ) → (ms ≡ []) ⊎ (ms ≡ Hello o ∷ []) → ms ≡ Release slots ∷ rest → ⊥
hello_release ms rest o slots (inl e) f = cc
hello_release ms rest o slots (inr e) f = cc

pub ask_lend : (n m : ℕ) → Ask n ≡ Lend m → ⊥
ask_lend n m e = cc

pub lend_ask : (n m : ℕ) → Lend n ≡ Ask m → ⊥
lend_ask n m e = cc

pub one_ask : (n m : ℕ) → Ask n ≡ Ask m → n ≡ m
one_ask n m e = cc

pub none_heard : (rs : List Reply) (r : Reply) (rest : List Reply) → rs ≡ [] → rs ≡ r ∷ rest → ⊥
none_heard rs r rest e f = cc

-- ---- more slots are given up

pub sub_more : (slots unheard more : List ℕ) → Sub slots unheard → Sub slots (unheard ++ more)
sub_more slots unheard more h s e = has_left unheard more s (h s e)

pub only_more : (unheard more : List ℕ) (ms : List Said) → OnlyReleases unheard ms → OnlyReleases (unheard ++ more) ms
only_more unheard more [] h = tt
only_more unheard more (Hello w ∷ ms) h = h
only_more unheard more (Ask n ∷ ms) h = h
only_more unheard more (Lend n ∷ ms) h = h
only_more unheard more (Release slots ∷ ms) h = (sub_more slots unheard more h.0, only_more unheard more ms h.1)

pub asked_more : (asked : Said) (unheard more : List ℕ) (ms : List Said) → AreAsked asked unheard ms → AreAsked asked (unheard ++ more) ms
asked_more asked unheard more [] h = tt
asked_more asked unheard more (Hello w ∷ ms) h = h
asked_more asked unheard more (Ask n ∷ ms) h = h
asked_more asked unheard more (Lend n ∷ ms) h = h
asked_more asked unheard more (Release slots ∷ ms) h = (sub_more slots unheard more h.0, asked_more asked unheard more ms h.1)

pub stale_more : (wanted : Option Wanted) (unheard more : List ℕ) (ms : List Said) → AreStale wanted unheard ms → AreStale wanted (unheard ++ more) ms
stale_more wanted unheard more [] h = tt
stale_more wanted unheard more (Hello w ∷ ms) h = h
stale_more wanted unheard more (Ask n ∷ ms) h = h
stale_more wanted unheard more (Lend n ∷ ms) h = h
stale_more wanted unheard more (Release slots ∷ ms) h = (sub_more slots unheard more h.0, stale_more wanted unheard more ms h.1)

-- ---- a message more is said

only_asked : (asked : Said) (unheard : List ℕ) (ms : List Said) → OnlyReleases unheard ms → AreAsked asked unheard ms
only_asked asked unheard [] h = tt
only_asked asked unheard (Hello w ∷ ms) h = h
only_asked asked unheard (Ask n ∷ ms) h = absurd h
only_asked asked unheard (Lend n ∷ ms) h = absurd h
only_asked asked unheard (Release slots ∷ ms) h = (h.0, only_asked asked unheard ms h.1)

and_ask : (n : ℕ) (unheard : List ℕ) (ms : List Said) → OnlyReleases unheard ms → AreAsked (Ask n) unheard (ms ++ Ask n ∷ [])
and_ask n unheard [] h = (refl, refl)
and_ask n unheard (Hello w ∷ ms) h = h
and_ask n unheard (Ask m ∷ ms) h = absurd h
and_ask n unheard (Lend m ∷ ms) h = absurd h
and_ask n unheard (Release slots ∷ ms) h = (h.0, and_ask n unheard ms h.1)

and_lend : (n : ℕ) (unheard : List ℕ) (ms : List Said) → OnlyReleases unheard ms → AreAsked (Lend n) unheard (ms ++ Lend n ∷ [])
and_lend n unheard [] h = (refl, refl)
and_lend n unheard (Hello w ∷ ms) h = h
and_lend n unheard (Ask m ∷ ms) h = absurd h
and_lend n unheard (Lend m ∷ ms) h = absurd h
and_lend n unheard (Release slots ∷ ms) h = (h.0, and_lend n unheard ms h.1)

and_release : (slots unheard : List ℕ) (ms : List Said) → Sub slots unheard → OnlyReleases unheard ms → OnlyReleases unheard (ms ++ Release slots ∷ [])
and_release slots unheard [] sub h = (sub, tt)
and_release slots unheard (Hello w ∷ ms) sub h = h
and_release slots unheard (Ask n ∷ ms) sub h = h
and_release slots unheard (Lend n ∷ ms) sub h = h
and_release slots unheard (Release others ∷ ms) sub h = (h.0, and_release slots unheard ms sub h.1)

pub sent_ask : (b : Bool) (n : ℕ) (unheard : List ℕ) (ms : List Said) → OnlyReleases unheard ms → AreAsked (Ask n) unheard (sent b ms (Ask n))
sent_ask true n unheard ms h = and_ask n unheard ms h
sent_ask false n unheard ms h = only_asked (Ask n) unheard ms h

pub sent_lend : (b : Bool) (n : ℕ) (unheard : List ℕ) (ms : List Said) → OnlyReleases unheard ms → AreAsked (Lend n) unheard (sent b ms (Lend n))
sent_lend true n unheard ms h = and_lend n unheard ms h
sent_lend false n unheard ms h = only_asked (Lend n) unheard ms h

pub sent_release : (b : Bool) (slots unheard : List ℕ) (ms : List Said) → Sub slots unheard → OnlyReleases unheard ms → OnlyReleases unheard (sent b ms (Release slots))
sent_release true slots unheard ms sub h = and_release slots unheard ms sub h
sent_release false slots unheard ms sub h = h

pub sent_silent : (b : Bool) (ms : List Said) (m : Said) → (b ≡ false → ms ≡ []) → b ≡ false → sent b ms m ≡ []
sent_silent true ms m h e = absurd (cc)
sent_silent false ms m h e = h e

coming_left : (ms more : List Said) (s : ℕ) → is_coming ms s ≡ true → is_coming (ms ++ more) s ≡ true
coming_left [] more s e = cc
coming_left (Hello w ∷ ms) more s e = coming_left ms more s e
coming_left (Ask n ∷ ms) more s e = coming_left ms more s e
coming_left (Lend n ∷ ms) more s e = coming_left ms more s e
coming_left (Release slots ∷ ms) more s e = or_either (has slots s) (is_coming ms s) (is_coming (ms ++ more) s) (coming_left ms more s) e

coming_last : (ms : List Said) (slots : List ℕ) (s : ℕ) → has slots s ≡ true → is_coming (ms ++ Release slots ∷ []) s ≡ true
coming_last [] slots s e = or_left (has slots s) false e
coming_last (Hello w ∷ ms) slots s e = coming_last ms slots s e
coming_last (Ask n ∷ ms) slots s e = coming_last ms slots s e
coming_last (Lend n ∷ ms) slots s e = coming_last ms slots s e
coming_last (Release others ∷ ms) slots s e = or_right (has others s) (is_coming (ms ++ Release slots ∷ []) s) (coming_last ms slots s e)

pub sent_coming : (b : Bool) (ms : List Said) (m : Said) (s : ℕ) → is_coming ms s ≡ true → is_coming (sent b ms m) s ≡ true
sent_coming true ms m s e = coming_left ms (m ∷ []) s e
sent_coming false ms m s e = e

pub sent_last : (b : Bool) (ms : List Said) (slots : List ℕ) (s : ℕ) → b ≡ true → has slots s ≡ true → is_coming (sent b ms (Release slots)) s ≡ true
sent_last true ms slots s on e = coming_last ms slots s e
sent_last false ms slots s on e = absurd (cc)

-- ---- what is said becomes old

pub hellos_stale : (wanted : Option Wanted) (unheard : List ℕ) (ms : List Said) → OnlyHellos wanted ms → AreStale wanted unheard ms
hellos_stale wanted unheard [] h = tt
hellos_stale wanted unheard (Hello w ∷ ms) h = h
hellos_stale wanted unheard (Ask n ∷ ms) h = absurd h
hellos_stale wanted unheard (Lend n ∷ ms) h = absurd h
hellos_stale wanted unheard (Release slots ∷ ms) h = absurd h

pub only_stale : (wanted : Option Wanted) (unheard : List ℕ) (ms : List Said) → OnlyReleases unheard ms → AreStale wanted unheard ms
only_stale wanted unheard [] h = tt
only_stale wanted unheard (Hello w ∷ ms) h = absurd h
only_stale wanted unheard (Ask n ∷ ms) h = absurd h
only_stale wanted unheard (Lend n ∷ ms) h = absurd h
only_stale wanted unheard (Release slots ∷ ms) h = (h.0, only_stale wanted unheard ms h.1)

pub asked_stale : (wanted : Option Wanted) (asked : Said) (unheard : List ℕ) (ms : List Said) → AreAsked asked unheard ms → AreStale wanted unheard ms
asked_stale wanted asked unheard [] h = tt
asked_stale wanted asked unheard (Hello w ∷ ms) h = absurd h
asked_stale wanted asked unheard (Ask n ∷ ms) h = subst (OnlyHellos wanted) (sym h.1) tt
asked_stale wanted asked unheard (Lend n ∷ ms) h = subst (OnlyHellos wanted) (sym h.1) tt
asked_stale wanted asked unheard (Release slots ∷ ms) h = (h.0, asked_stale wanted asked unheard ms h.1)

pub hellos_hello : (wanted : Option Wanted) (ms : List Said) → OnlyHellos wanted ms → OnlyHellos wanted (ms ++ Hello wanted ∷ [])
hellos_hello wanted [] h = (refl, tt)
hellos_hello wanted (Hello w ∷ ms) h = (h.0, hellos_hello wanted ms h.1)
hellos_hello wanted (Ask n ∷ ms) h = h
hellos_hello wanted (Lend n ∷ ms) h = h
hellos_hello wanted (Release slots ∷ ms) h = h

pub stale_hello : (wanted : Option Wanted) (unheard : List ℕ) (ms : List Said) → AreStale wanted unheard ms → AreStale wanted unheard (ms ++ Hello wanted ∷ [])
stale_hello wanted unheard [] h = (refl, tt)
stale_hello wanted unheard (Hello w ∷ ms) h = (h.0, hellos_hello wanted ms h.1)
stale_hello wanted unheard (Ask n ∷ ms) h = hellos_hello wanted ms h
stale_hello wanted unheard (Lend n ∷ ms) h = hellos_hello wanted ms h
stale_hello wanted unheard (Release slots ∷ ms) h = (h.0, stale_hello wanted unheard ms h.1)

pub stale_rest : (wanted : Option Wanted) (unheard : List ℕ) (m : Said) (ms : List Said) → AreStale wanted unheard (m ∷ ms) → AreStale wanted unheard ms
stale_rest wanted unheard (Hello w) ms h = hellos_stale wanted unheard ms h.1
stale_rest wanted unheard (Ask n) ms h = hellos_stale wanted unheard ms h
stale_rest wanted unheard (Lend n) ms h = hellos_stale wanted unheard ms h
stale_rest wanted unheard (Release slots) ms h = h.1

pub hellos_rest : (wanted : Option Wanted) (m : Said) (ms : List Said) → OnlyHellos wanted (m ∷ ms) → OnlyHellos wanted ms
hellos_rest wanted (Hello w) ms h = h.1
hellos_rest wanted (Ask n) ms h = absurd h
hellos_rest wanted (Lend n) ms h = absurd h
hellos_rest wanted (Release slots) ms h = absurd h

-- ---- links and names

pub talking : (l : Link) → is_talking l ≡ true → l ≡ link.Talking
talking link.Apart e = cc
talking link.Greeting e = cc
talking link.Talking e = refl
talking (link.Asked n) e = cc
talking (link.Lending n) e = cc

pub greeting : (l : Link) → is_greeting l ≡ true → l ≡ link.Greeting
greeting link.Apart e = cc
greeting link.Greeting e = refl
greeting link.Talking e = cc
greeting (link.Asked n) e = cc
greeting (link.Lending n) e = cc

pub asked_of : (n : ℕ) (l : Link) → is_asked n l ≡ true → l ≡ link.Asked n
asked_of n link.Apart e = cc
asked_of n link.Greeting e = cc
asked_of n link.Talking e = cc
asked_of n (link.Asked m) e = ap (λ (k : ℕ). link.Asked k) (eqb-true m n e)
asked_of n (link.Lending m) e = cc

pub lending_of : (n : ℕ) (l : Link) → is_lent n l ≡ true → l ≡ link.Lending n
lending_of n link.Apart e = cc
lending_of n link.Greeting e = cc
lending_of n link.Talking e = cc
lending_of n (link.Asked m) e = cc
lending_of n (link.Lending m) e = ap (λ (k : ℕ). link.Lending k) (eqb-true m n e)

pub named : (name : List ℕ) (o : Option (List ℕ)) → is_named name o ≡ true → o ≡ Some name
named name None e = cc
named name (Some own) e = ap (λ (n : List ℕ). Some n) ((bytes_eq-Decides own name).0 e)

pub not_named : (name : List ℕ) (o : Option (List ℕ)) → is_named name o ≡ false → o ≡ Some name → ⊥
not_named name None e f = cc
not_named name (Some own) e f =
    let same : own ≡ name = cc in
    differs (bytes_eq own name) ((bytes_eq-Decides own name).1 same) e

pub wanted_is : (o : Option (List ℕ)) (loans : ℕ) (w : Wanted) → wanted_as o loans ≡ Some w → (o ≡ Some w.name) × (w.loans ≡ loans)
wanted_is None loans w e = absurd (cc)
wanted_is (Some name) loans w e =
    let made : Wanted = record { name = name; loans = loans } in
    let same : made ≡ w = cc in
    (ap (λ (x : Wanted). Some x.name) same, sym (ap (λ (x : Wanted). x.loans) same))

-- a count is never the next one
pub next_other : (n : ℕ) → next_loans n ≡ n → ⊥
next_other n e = omega arith
