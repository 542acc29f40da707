-- What is written of a page is there again.
use Rattle.std.proofs.Common.{◌≡◌, ◌∙◌, ℕ, ◌+◌, ◌*◌, ◌/◌, ◌%◌, ◌≤◌, Bool, true, false, cond, refl, ap, arith}
use Rattle.std.specs.Prelude.{nat_eq}
use Rattle.page_lender.specs.declared.belief.Belief.{Belief}
use Rattle.page_lender.specs.declared.belief.Belief.TheVariants.{Private, Chosen, Copied, Turning, Shown, Leaving}
use Rattle.page_lender.specs.declared.belief.Homing.{Homing}
use Rattle.page_lender.specs.declared.belief.Homing.TheVariants.{Off, InPlace, Elsewhere}
use Rattle.page_lender.specs.declared.belief.Stage.{Stage}
use Rattle.page_lender.specs.declared.belief.Stage.TheVariants.{Ready, Held, Equal, LettingGo}
use Rattle.page_lender.specs.declared.belief.Target.{Target}
use Rattle.page_lender.specs.declared.belief.Target.TheVariants.{Frame, Zeros}
use Rattle.page_lender.specs.Packing.{belief_if, belief_in, frame_in, homing_number, number_of, slot_in, stage_number, target_if, target_number}
use Rattle.window_pages.specs.Bytes.{belief_byte, belief_of, digit, known_of, looks_byte}
use Rattle.window_pages.specs.Known.{has_slot}
use Rattle.window_pages.specs.declared.page.KnownPage.{KnownPage}
use Rattle.window_pages.specs.declared.page.WindowPage.{WindowPage}

-- a belief by its number, with a slot and a frame in the places that it uses
turning_again : (stage : Stage) (target : Target) (slot n : ℕ) →
    belief_in (number_of (Turning stage target)) (cond (has_slot (Turning stage target)) (slot_in (Turning stage target)) slot) (cond (has_slot (Turning stage target)) (frame_in (Turning stage target)) n) ≡ Turning stage target
turning_again Ready (Frame s m) slot n = refl
turning_again Ready Zeros slot n = refl
turning_again Held (Frame s m) slot n = refl
turning_again Held Zeros slot n = refl
turning_again Equal (Frame s m) slot n = refl
turning_again Equal Zeros slot n = refl
turning_again LettingGo (Frame s m) slot n = refl
turning_again LettingGo Zeros slot n = refl

shown_again : (s m : ℕ) (homing : Homing) → belief_in (number_of (Shown s m homing)) s m ≡ Shown s m homing
shown_again s m Off = refl
shown_again s m InPlace = refl
shown_again s m Elsewhere = refl

belief_again : (b : Belief) (slot n : ℕ) → belief_in (number_of b) (cond (has_slot b) (slot_in b) slot) (cond (has_slot b) (frame_in b) n) ≡ b
belief_again Private slot n = refl
belief_again Chosen slot n = refl
belief_again Copied slot n = refl
belief_again (Turning stage target) slot n = turning_again stage target slot n
belief_again (Shown s m homing) slot n = shown_again s m homing
belief_again (Leaving s) slot n = refl

stage_fits : (stage : Stage) → stage_number stage ≤ 6
stage_fits Ready = omega arith
stage_fits Held = omega arith
stage_fits Equal = omega arith
stage_fits LettingGo = omega arith

target_fits : (target : Target) → target_number target ≤ 16
target_fits (Frame slot n) = omega arith
target_fits Zeros = omega arith

homing_fits : (homing : Homing) → homing_number homing ≤ 22
homing_fits Off = omega arith
homing_fits InPlace = omega arith
homing_fits Elsewhere = omega arith

number_fits : (b : Belief) → number_of b ≤ 22
number_fits Private = omega arith
number_fits Chosen = omega arith
number_fits Copied = omega arith
number_fits (Turning stage target) = omega (arith, stage_fits stage, target_fits target)
number_fits (Shown s m homing) = homing_fits homing
number_fits (Leaving s) = omega arith

digit_fits : (b : Bool) → digit b ≤ 1
digit_fits true = omega arith
digit_fits false = omega arith

digit_is : (b : Bool) → nat_eq (digit b) 1 ≡ b
digit_is true = refl
digit_is false = refl

-- a number below 32, and three digits
low_5 : (k a b c : ℕ) → k ≤ 22 → a ≤ 1 → b ≤ 1 → c ≤ 1 → (k + 32 * a + 64 * b + 128 * c) % 32 ≡ k
low_5 k a b c hk ha hb hc = omega arith

at_32 : (k a b c : ℕ) → k ≤ 22 → a ≤ 1 → b ≤ 1 → c ≤ 1 → (k + 32 * a + 64 * b + 128 * c) / 32 % 2 ≡ a
at_32 k a b c hk ha hb hc = omega arith

at_64 : (k a b c : ℕ) → k ≤ 22 → a ≤ 1 → b ≤ 1 → c ≤ 1 → (k + 32 * a + 64 * b + 128 * c) / 64 % 2 ≡ b
at_64 k a b c hk ha hb hc = omega arith

at_128 : (k a b c : ℕ) → k ≤ 22 → a ≤ 1 → b ≤ 1 → c ≤ 1 → (k + 32 * a + 64 * b + 128 * c) / 128 % 2 ≡ c
at_128 k a b c hk ha hb hc = omega arith

-- a multiple of 16, and four digits
at_1 : (h a b c d : ℕ) → a ≤ 1 → b ≤ 1 → c ≤ 1 → d ≤ 1 → (h * 16 + (a + 2 * b + 4 * c + 8 * d)) / 1 % 2 ≡ a
at_1 h a b c d ha hb hc hd = omega arith

at_2 : (h a b c d : ℕ) → a ≤ 1 → b ≤ 1 → c ≤ 1 → d ≤ 1 → (h * 16 + (a + 2 * b + 4 * c + 8 * d)) / 2 % 2 ≡ b
at_2 h a b c d ha hb hc hd = omega arith

at_4 : (h a b c d : ℕ) → a ≤ 1 → b ≤ 1 → c ≤ 1 → d ≤ 1 → (h * 16 + (a + 2 * b + 4 * c + 8 * d)) / 4 % 2 ≡ c
at_4 h a b c d ha hb hc hd = omega arith

at_8 : (h a b c d : ℕ) → a ≤ 1 → b ≤ 1 → c ≤ 1 → d ≤ 1 → (h * 16 + (a + 2 * b + 4 * c + 8 * d)) / 8 % 2 ≡ d
at_8 h a b c d ha hb hc hd = omega arith

-- a fact by its digit
fact : (n : ℕ) (b : Bool) → n ≡ digit b → nat_eq n 1 ≡ b
fact n b e = ap (λ m. nat_eq m 1) e ∙ digit_is b

known_are : (b : Belief) (o v p u s m g : Bool) (page : KnownPage) → b ≡ page.belief → o ≡ page.ordered → v ≡ page.over → p ≡ page.past → u ≡ page.out → s ≡ page.same → m ≡ page.moved → g ≡ page.begins →
    record { belief = b; ordered = o; over = v; past = p; out = u; same = s; moved = m; begins = g } ≡ page
known_are b o v p u s m g page e1 e2 e3 e4 e5 e6 e7 e8 = rw (e1, e2, e3, e4, e5, e6, e7, e8) refl

-- the belief in a byte
pub believed_again : (page : KnownPage) (slot n : ℕ) → belief_in (belief_byte page % 32) (cond (has_slot page.belief) (slot_in page.belief) slot) (cond (has_slot page.belief) (frame_in page.belief) n) ≡ page.belief
believed_again page slot n =
    let low : belief_byte page % 32 ≡ number_of page.belief = low_5 (number_of page.belief) (digit page.over) (digit page.past) (digit page.out) (number_fits page.belief) (digit_fits page.over) (digit_fits page.past) (digit_fits page.out) in
    ap (λ k. belief_in k (cond (has_slot page.belief) (slot_in page.belief) slot) (cond (has_slot page.belief) (frame_in page.belief) n)) low ∙ belief_again page.belief slot n

pub known_again : (page : KnownPage) (slot n clue looks : ℕ) →
    known_of record { slot = cond (has_slot page.belief) (slot_in page.belief) slot; frame = cond (has_slot page.belief) (frame_in page.belief) n; clue = clue; belief = belief_byte page; looks = looks_byte looks page } ≡ page
known_again page slot n clue looks =
    let k = number_of page.belief in
    let h = looks / 16 in
    let f = number_fits page.belief in
    let v = digit_fits page.over in
    let p = digit_fits page.past in
    let u = digit_fits page.out in
    let o = digit_fits page.ordered in
    let s = digit_fits page.same in
    let m = digit_fits page.moved in
    let g = digit_fits page.begins in
    known_are _ _ _ _ _ _ _ _ page
    (believed_again page slot n)
    (fact _ page.ordered (at_1 h (digit page.ordered) (digit page.same) (digit page.moved) (digit page.begins) o s m g))
    (fact _ page.over (at_32 k (digit page.over) (digit page.past) (digit page.out) f v p u))
    (fact _ page.past (at_64 k (digit page.over) (digit page.past) (digit page.out) f v p u))
    (fact _ page.out (at_128 k (digit page.over) (digit page.past) (digit page.out) f v p u))
    (fact _ page.same (at_2 h (digit page.ordered) (digit page.same) (digit page.moved) (digit page.begins) o s m g))
    (fact _ page.moved (at_4 h (digit page.ordered) (digit page.same) (digit page.moved) (digit page.begins) o s m g))
    (fact _ page.begins (at_8 h (digit page.ordered) (digit page.same) (digit page.moved) (digit page.begins) o s m g))

-- what is believed stays where its slot and frame do, if it has them
turning_kept : (stage : Stage) (z : Bool) (slot n x y : ℕ) →
    Turning stage (target_if z (cond (has_slot (Turning stage (target_if z slot n))) slot x) (cond (has_slot (Turning stage (target_if z slot n))) n y)) ≡ Turning stage (target_if z slot n)
turning_kept stage true slot n x y = refl
turning_kept stage false slot n x y = refl

-- a belief by ten tests of its stage's number and one of its target's
abbrev tested : Bool → Bool → Bool → Bool → Bool → Bool → Bool → Bool → Bool → Bool → Bool → ℕ → ℕ → Belief
tested b1 b2 b3 b4 b5 b6 b7 b8 b9 b10 z slot n = belief_if b1 b2 b3 b4 b5 b6 b7 b8 b9 b10 (target_if z slot n) slot n

kept_if : (b1 b2 b3 b4 b5 b6 b7 b8 b9 b10 z : Bool) (slot n x y : ℕ) →
    tested b1 b2 b3 b4 b5 b6 b7 b8 b9 b10 z (cond (has_slot (tested b1 b2 b3 b4 b5 b6 b7 b8 b9 b10 z slot n)) slot x) (cond (has_slot (tested b1 b2 b3 b4 b5 b6 b7 b8 b9 b10 z slot n)) n y) ≡ tested b1 b2 b3 b4 b5 b6 b7 b8 b9 b10 z slot n
kept_if true b2 b3 b4 b5 b6 b7 b8 b9 b10 z slot n x y = refl
kept_if false true b3 b4 b5 b6 b7 b8 b9 b10 z slot n x y = refl
kept_if false false true b4 b5 b6 b7 b8 b9 b10 z slot n x y = turning_kept Ready z slot n x y
kept_if false false false true b5 b6 b7 b8 b9 b10 z slot n x y = turning_kept Held z slot n x y
kept_if false false false false true b6 b7 b8 b9 b10 z slot n x y = turning_kept Equal z slot n x y
kept_if false false false false false true b7 b8 b9 b10 z slot n x y = turning_kept LettingGo z slot n x y
kept_if false false false false false false true b8 b9 b10 z slot n x y = refl
kept_if false false false false false false false true b9 b10 z slot n x y = refl
kept_if false false false false false false false false true b10 z slot n x y = refl
kept_if false false false false false false false false false true z slot n x y = refl
kept_if false false false false false false false false false false z slot n x y = refl

believed_kept : (k slot n x y : ℕ) → belief_in k (cond (has_slot (belief_in k slot n)) slot x) (cond (has_slot (belief_in k slot n)) n y) ≡ belief_in k slot n
believed_kept k slot n x y =
    let s : ℕ = k % 16 in
    kept_if (nat_eq s 1) (nat_eq s 2) (nat_eq s 3) (nat_eq s 4) (nat_eq s 5) (nat_eq s 6) (nat_eq s 7) (nat_eq s 8) (nat_eq s 9) (nat_eq s 10) (nat_eq (k / 16) 1) slot n x y

-- the lowest digits stay where higher ones change
low_1 : (n l a : ℕ) → (n % 16 + 16 * l + 64 * a) / 1 % 2 ≡ n / 1 % 2
low_1 n l a = omega arith

low_2 : (n l a : ℕ) → (n % 16 + 16 * l + 64 * a) / 2 % 2 ≡ n / 2 % 2
low_2 n l a = omega arith

low_4 : (n l a : ℕ) → (n % 16 + 16 * l + 64 * a) / 4 % 2 ≡ n / 4 % 2
low_4 n l a = omega arith

low_8 : (n l a : ℕ) → (n % 16 + 16 * l + 64 * a) / 8 % 2 ≡ n / 8 % 2
low_8 n l a = omega arith

pub known_kept : (page : WindowPage) (x y clue looks asks : ℕ) →
    known_of record { slot = cond (has_slot (belief_of page)) page.slot x; frame = cond (has_slot (belief_of page)) page.frame y; clue = clue; belief = page.belief; looks = page.looks % 16 + 16 * looks + 64 * asks } ≡ known_of page
known_kept page x y clue looks asks =
    known_are _ _ _ _ _ _ _ _ (known_of page)
    (believed_kept (page.belief % 32) page.slot page.frame x y)
    (ap (λ m. nat_eq m 1) (low_1 page.looks looks asks))
    refl
    refl
    refl
    (ap (λ m. nat_eq m 1) (low_2 page.looks looks asks))
    (ap (λ m. nat_eq m 1) (low_4 page.looks looks asks))
    (ap (λ m. nat_eq m 1) (low_8 page.looks looks asks))
