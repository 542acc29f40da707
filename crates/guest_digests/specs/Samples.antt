-- The digests of pages, and which of them a sample keeps.
use Rattle.std.specs.Prelude.{ℕ, ◌%◌, ◌^◌, ◌≤◌, ◌==◌, ◌||◌, Bool, IsTrue, List, filter, map}
use Rattle.std.specs.Int.{is_power_of_two}
use Rattle.page_model.specs.Pages.{blank}
use Rattle.page_digest.specs.Hashes.{content_digest}
use Rattle.guest_digests.specs.declared.sample.TheConstants.{MAX_SAMPLE}

-- a sample is a power of two from 1 to MAX_SAMPLE
pub record IsSample (every : ℕ) : Type 0 where
  pub some : 1 ≤ every
  pub most : every ≤ MAX_SAMPLE
  pub power : IsTrue (is_power_of_two every)

-- a guest's salt, and a sample
pub record Sampled : Type 0 where
  pub salt : ℕ
  pub every : ℕ

-- the digest of the page of zeros
abbrev pub zeros_digest : ℕ → ℕ
zeros_digest salt = content_digest salt blank

-- The digest is kept: its last 16 bits, read as a number, are a multiple of the sample, or it is the digest of the page of
-- zeros. So of guests with the same salt and sample the same contents are kept.
abbrev pub is_kept : Sampled → ℕ → Bool
is_kept by digest = digest % 2 ^ 16 % by.every == 0 || digest == zeros_digest by.salt

-- the digest of each page
abbrev pub digests_of : ℕ → List (List ℕ) → List ℕ
digests_of salt pages = map (content_digest salt) pages

-- those that are kept
abbrev pub kept_digests : Sampled → List (List ℕ) → List ℕ
kept_digests by pages = filter (is_kept by) (digests_of by.salt pages)
