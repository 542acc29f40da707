-- The numbers of a scan.
use Rattle.std.specs.Prelude.{ℕ, ◌+◌, ◌%◌}
use Rattle.rand_core.specs.Pcg32Seed.{pcg32_seed}
use Rattle.rand_pcg.specs.Lcg.{Lcg, advance}
use Rattle.rand_pcg.specs.Pcg.{multiplier_64, pcg32, pcg32_of_seed}
use Rattle.share_rings.specs.declared.scan.Scan.{Scan}
use Rattle.share_rings.specs.declared.scan.Order.{Order}
use Rattle.share_rings.specs.declared.scan.Order.TheVariants.{Sequential, Random}

-- word n of a generator, whose next word is word 0
abbrev pub word : Lcg → ℕ → ℕ
word generator n = (pcg32 (advance 64 multiplier_64 n generator)).0

-- word n of the `Pcg32` that `seed_from_u64` makes from a seed
abbrev pub seeded_word : ℕ → ℕ → ℕ
seeded_word seed n = word (pcg32_of_seed (pcg32_seed 16 seed)) n

-- number n of a scan of this many pages in order
abbrev pub sequential_number : ℕ → ℕ → ℕ
sequential_number pages n = n % pages

-- number n of a scan of this many pages at random
abbrev pub random_number : ℕ → ℕ → ℕ → ℕ
random_number seed pages n = seeded_word seed n % pages

-- what is taken modulo the number of pages for number n, counted from now on
abbrev pub drawn : Order → ℕ → ℕ
drawn (Sequential at) n = at + n
drawn (Random generator) n = word generator n

-- number n of a scan, counted from now on: the next is number 0
abbrev pub number_of : Scan → ℕ → ℕ
number_of scan n = drawn scan.order n % scan.pages
