-- A text that was written is read as what was written.
use Rattle.std.specs.Prelude.{◌≡◌, ℕ, ◌^◌, ◌<◌, ◌≤◌, true, All, List, length, map, Ok}
use Rattle.std.specs.List.Sorted.{IsStrictlyIncreasing}
use Rattle.guest_digests.specs.Counted.{AreCounted, all_copies}
use Rattle.guest_digests.specs.Samples.{IsSample, Sampled, is_kept, kept_digests}
use Rattle.guest_digests.specs.declared.line.DigestLine.{DigestLine}
use Rattle.digest_text.specs.Names.{is_name}
use Rattle.digest_text.specs.Rows.{digest_of, sampled_by}
use Rattle.digest_text.specs.Written.{rows_of, rows_text}
use Rattle.digest_text.specs.declared.head.DigestHead.{DigestHead}

-- what a guest's lines begin with, as its type keeps it
pub record IsHead (head : DigestHead) : Type 0 where
  pub name : is_name head.guest ≡ true
  pub salt : head.salt < 2 ^ 32
  pub pages : head.pages < 2 ^ 64
  pub sample : IsSample head.sample

-- lines of different digests that the sample keeps, rising, which list all pages, or with a sample of at most all
pub record AreLines (head : DigestHead) (lines : List DigestLine) : Type 0 where
  pub fits : All (λ line. line.digest < 2 ^ 128) lines
  pub some : All (λ line. 1 ≤ line.copies) lines
  pub kept : All (λ line. is_kept (sampled_by head) line.digest ≡ true) lines
  pub rising : IsStrictlyIncreasing (map (λ line. line.digest) lines)
  pub few : all_copies lines ≤ head.pages
  pub whole : head.sample ≡ 1 → all_copies lines ≡ head.pages

abbrev pub ReadsAsWritten : Type 0
ReadsAsWritten = (head : DigestHead) (lines : List DigestLine) → IsHead head → AreLines head lines → digest_of (rows_text head lines) ≡ Ok (rows_of head lines)

-- the head of a guest of whom these pages were read
abbrev pub head_by : List ℕ → Sampled → List (List ℕ) → DigestHead
head_by guest by read = record { guest = guest; salt = by.salt; pages = length read; sample = by.every }

-- Lines that count the digests of the pages that were read are such lines. A number of 128 bits is below 2^128.
abbrev pub DigestsAreLines : Type 0
DigestsAreLines = (guest : List ℕ) (by : Sampled) (read : List (List ℕ)) (lines : List DigestLine)
    → All (λ line. line.digest < 2 ^ 128) lines → AreCounted (kept_digests by read) lines → AreLines (head_by guest by read) lines
