-- What a scan gives next, and what it gives from then on.
use Rattle.std.proofs.Common.{◌≡◌, ℕ, ◌+◌, ◌%◌, ap, sym, ◌∙◌, add_assoc, add_comm}
use Rattle.std.proofs.Math.Nat.{mod-add-mod}
use Rattle.rand_pcg.specs.Lcg.{Lcg}
use Rattle.rand_pcg.specs.Pcg.{multiplier_64, pcg32}
use Rattle.rand_pcg.proofs.LcgLemmas.{advance_zero, advance_more}
use Rattle.share_rings.specs.Numbers.{word, drawn}
use Rattle.share_rings.specs.declared.scan.Order.{Order}
use Rattle.share_rings.specs.declared.scan.Order.TheVariants.{Sequential, Random}

pub in_order_next : (order : Order) (pages at n : ℕ) → order ≡ Sequential at → (at % pages + 1 + n) % pages ≡ drawn order (n + 1) % pages
in_order_next order pages at n is =
    ap (λ k. k % pages) (add_assoc (at % pages) 1 n) ∙ (mod-add-mod at pages (1 + n) ∙ (ap (λ k. (at + k) % pages) (add_comm 1 n) ∙ ap (λ o. drawn o (n + 1) % pages) (sym is)))

pub word_first : (g : Lcg) → (pcg32 g).0 ≡ word g 0
word_first g = ap (λ h. (pcg32 h).0) (sym (advance_zero 64 multiplier_64 g))

pub word_rest : (g : Lcg) (n : ℕ) → word (pcg32 g).1 n ≡ word g (n + 1)
word_rest g n = ap (λ h. (pcg32 h).0) (advance_more 64 multiplier_64 n g)

pub at_random_first : (order : Order) (pages result : ℕ) (g h : Lcg) → order ≡ Random g → (result, h) ≡ pcg32 g → result % pages ≡ drawn order 0 % pages
at_random_first order pages result g h is steps =
    ap (λ (p : ℕ × Lcg). p.0 % pages) steps ∙ (ap (λ k. k % pages) (word_first g) ∙ ap (λ o. drawn o 0 % pages) (sym is))

pub at_random_next : (order : Order) (pages result n : ℕ) (g h : Lcg) → order ≡ Random g → (result, h) ≡ pcg32 g → word h n % pages ≡ drawn order (n + 1) % pages
at_random_next order pages result n g h is steps =
    ap (λ (p : ℕ × Lcg). word p.1 n % pages) steps ∙ (ap (λ k. k % pages) (word_rest g n) ∙ ap (λ o. drawn o (n + 1) % pages) (sym is))
