-- The counted list of digests.
use Rattle.std.specs.Prelude.{◌≡◌, ℕ, ◌≤◌, ◌==◌, if◌then◌else◌, All, List, count_by, length, map, sum_by}
use Rattle.std.specs.List.Sorted.{IsStrictlyIncreasing}
use Rattle.guest_digests.specs.Samples.{Sampled, kept_digests}
use Rattle.guest_digests.specs.declared.line.DigestLine.{DigestLine}

-- how often a digest occurs
abbrev pub count_of : ℕ → List ℕ → ℕ
count_of digest digests = count_by (λ other. other == digest) digests

-- how many copies the lines list of a digest
abbrev pub listed_copies : ℕ → List DigestLine → ℕ
listed_copies digest lines = sum_by (λ line. if line.digest == digest then line.copies else 0) lines

-- all copies that the lines list
abbrev pub all_copies : List DigestLine → ℕ
all_copies lines = sum_by (λ line. line.copies) lines

-- These lines count these digests: they rise, each lists a copy at least, and of each digest they list as many copies as
-- there are.
pub record AreCounted (digests : List ℕ) (lines : List DigestLine) : Type 0 where
  pub rising : IsStrictlyIncreasing (map (λ line. line.digest) lines)
  pub some : All (λ line. 1 ≤ line.copies) lines
  pub copies : (digest : ℕ) → listed_copies digest lines ≡ count_of digest digests
  pub total : all_copies lines ≡ length digests

-- These lines count the digests of pages that are kept, by one read of each page; a steady source returns these very pages.
pub record AreDigests (steady : Type 0) (pages : List (List ℕ)) (by : Sampled) (lines : List DigestLine) : Type 0 where
  pub read : List (List ℕ)
  pub all : length read ≡ length pages
  pub same : steady → read ≡ pages
  pub counted : AreCounted (kept_digests by read) lines
