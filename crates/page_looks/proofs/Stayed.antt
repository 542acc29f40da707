-- A page that stays as it is becomes idle.
use Rattle.std.proofs.Common.{◌≡◌, ◌∙◌, ℕ, ◌%◌, Bool, true, false, cond, not, ◌&&◌, refl, ap, arith}
use Rattle.std.specs.Prelude.{nat_eq, nat_lt, nat_le}
use Rattle.std.proofs.lemmas.Bool.{eq-eqb}
use Rattle.page_looks.specs.declared.idle.look.Act.TheVariants.{Meet, Read}
use Rattle.page_looks.specs.declared.idle.look.LookConfig.{LookConfig}
use Rattle.page_looks.specs.declared.idle.look.PageLooks.{PageLooks}
use Rattle.page_looks.specs.declared.parts.part.Part.{Part}
use Rattle.page_looks.specs.declared.idle.look.TheConstants.{STILL, ASKS_MOST}
use Rattle.page_looks.specs.Idle.{is_idle, is_again, glanced_by, asks_then, met, again, anew, read}
use Rattle.page_looks.specs.Turns.{power, idle_apart, turn_at, looks_apart, has_turn}
use Rattle.page_looks.specs.Ways.{read_each, is_kept, turn_of, glances, then_looked, looked, StaysIsIdle}
use Rattle.page_looks.proofs.Alike.{by_test}
use Rattle.page_looks.proofs.Went.{acts, new_is_met}

by_one : (n : ℕ) → n % 1 ≡ 0
by_one n = omega arith

-- a page that is not idle, and has its turn at each look, is read if it is the same
reads : (config : LookConfig) (part : Part) (over : Bool) (number fingerprint : ℕ) (glance : ℕ → ℕ) (look : ℕ) (q : PageLooks) →
    (nat_eq q.looks 0 && not over) ≡ false → is_again q ≡ false → looks_apart config part q ≡ 1 →
    (not over && not (nat_eq (glance (glanced_by q number)) q.clue)) ≡ false →
    looked config part over number fingerprint glance look q ≡ read q over fingerprint (glance fingerprint)
reads config part over number fingerprint glance look q old other apart same =
    let turn : has_turn config part q look number ≡ true = eq-eqb _ _ (ap (λ a. turn_at look number % a) apart ∙ by_one (turn_at look number)) in
    let kept : is_kept part q over (turn_of config part q look number) ≡ false = ap (λ b. b && not (nat_eq (turn_of config part q look number % read_each part over) 0)) other in
    ap (λ a. then_looked q a over number fingerprint glance)
    (pick (nat_eq q.looks 0 && not over) (has_turn config part q look number) (is_kept part q over (turn_of config part q look number)) over (nat_eq (glance (glanced_by q number)) q.clue) old turn kept same)
  where
    pick : (f t k o s : Bool) → f ≡ false → t ≡ true → k ≡ false → (not o && not s) ≡ false →
        cond ((not o && glances part q (acts f t k) look number) && not s) Meet (acts f t k) ≡ Read
    pick true t k o s a b c d = cc
    pick false false k o s a b c d = cc
    pick false true true o s a b c d = cc
    pick false true false true s a b c d = refl
    pick false true false false true a b c d = refl
    pick false true false false false a b c d = cc

stays_own : (config : LookConfig) (part : Part) (number fingerprint : ℕ) (glance : ℕ → ℕ) (one two three : ℕ) (p : PageLooks) → p.looks ≡ 0 →
    is_idle
    (looked config part false number fingerprint glance three
    (looked config part false number fingerprint glance two (looked config part false number fingerprint glance one p)))
    ≡ true
stays_own config part number fingerprint glance one two three p h =
    ap (λ (q : PageLooks). is_idle (looked config part false number fingerprint glance three (looked config part false number fingerprint glance two q))) first
    ∙ ap (λ (q : PageLooks). is_idle (looked config part false number fingerprint glance three q)) second
    ∙ ap (λ (q : PageLooks). is_idle q) third
    ∙ ap (λ (q : PageLooks). is_idle q) last
  where
    seen : ℕ
    seen = glanced_by p number

    p1 : PageLooks
    p1 = met p number (glance seen)

    first : looked config part false number fingerprint glance one p ≡ p1
    first = ap (λ a. then_looked p a false number fingerprint glance) (new_is_met config part p one number (nat_eq (glance seen) p.clue) h)

    cold : p1.asks ≡ 0
    cold = ap (λ n. asks_then p (nat_lt 0 n && nat_lt n STILL)) h

    p2 : PageLooks
    p2 = read p1 false fingerprint (glance fingerprint)

    same : (n : ℕ) → (true && not (nat_eq n n)) ≡ false
    same n = ap (λ b. true && not b) (eq-eqb n n refl)

    second : looked config part false number fingerprint glance two p1 ≡ p2
    second = reads config part false number fingerprint glance two p1 refl refl (ap (λ n. power n) cold) (same (glance seen))

    third : looked config part false number fingerprint glance three p2 ≡ read p2 false fingerprint (glance fingerprint)
    third = reads config part false number fingerprint glance three p2 refl refl refl (same (glance fingerprint))

    last : read p2 false fingerprint (glance fingerprint) ≡ again p2 (glance fingerprint)
    last = by_test p2 false fingerprint (glance fingerprint) true (eq-eqb fingerprint fingerprint refl)

stays_over : (config : LookConfig) (part : Part) (number fingerprint : ℕ) (glance : ℕ → ℕ) (one two three : ℕ) (p : PageLooks) → p.looks ≡ 0 →
    is_idle
    (looked config part true number fingerprint glance three
    (looked config part true number fingerprint glance two (looked config part true number fingerprint glance one p)))
    ≡ true
stays_over config part number fingerprint glance one two three p h =
    ap (λ (q : PageLooks). is_idle (looked config part true number fingerprint glance three (looked config part true number fingerprint glance two q))) first
    ∙ ap (λ (q : PageLooks). is_idle (looked config part true number fingerprint glance three q)) second
    ∙ ap (λ (q : PageLooks). is_idle q) third
  where
    -- the page after so many looks
    at : ℕ → PageLooks
    at n = record { fingerprint = fingerprint; clue = p.clue; looks = n; asks = 0 }

    itself : nat_eq fingerprint fingerprint ≡ true
    itself = eq-eqb fingerprint fingerprint refl

    none : (a b : Bool) → a ≡ false → (a && b) ≡ false
    none a b e = ap (λ c. c && b) e

    unread : (nat_lt 0 p.looks && nat_eq p.fingerprint fingerprint) ≡ false
    unread = ap (λ n. nat_lt 0 n && nat_eq p.fingerprint fingerprint) h

    begun : anew p true fingerprint p.clue ≡ at 1
    begun = ap (λ n. record { fingerprint = fingerprint; clue = p.clue; looks = 1; asks = asks_then p (nat_lt 0 n && nat_lt n STILL) }) h

    first : looked config part true number fingerprint glance one p ≡ at 1
    first =
        reads config part true number fingerprint glance one p (ap (λ n. nat_eq n 0 && false) h) (ap (λ n. nat_le STILL n && nat_le ASKS_MOST p.asks) h)
        (ap (λ n. cond (nat_eq n 0) 1 (cond (is_again p) (idle_apart config part) (power p.asks))) h) refl
        ∙ by_test p true fingerprint (glance fingerprint) false unread ∙ begun

    second : looked config part true number fingerprint glance two (at 1) ≡ at 2
    second = reads config part true number fingerprint glance two (at 1) refl refl refl refl ∙ by_test (at 1) true fingerprint (glance fingerprint) true itself

    third : looked config part true number fingerprint glance three (at 2) ≡ at 3
    third = reads config part true number fingerprint glance three (at 2) refl refl refl refl ∙ by_test (at 2) true fingerprint (glance fingerprint) true itself

pub stays_is_idle : StaysIsIdle
stays_is_idle config part false number fingerprint glance one two three p h = stays_own config part number fingerprint glance one two three p h
stays_is_idle config part true number fingerprint glance one two three p h = stays_over config part number fingerprint glance one two three p h
