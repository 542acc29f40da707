-- Notes in their places, newest first, and their chains. A note's age is how many are newer.
use Rattle.std.specs.Prelude.{◌≡◌, ℕ, suc, ◌+◌, ◌-◌, ◌*◌, ◌/◌, ◌%◌, ◌^◌, ◌≤◌, ◌<◌, min, Bool, false, ◌&&◌, ◌==◌, not, if◌then◌else◌, List, [], ◌∷◌, length, drop, slice_index}
use Rattle.recent_fingerprints.specs.declared.note.Note.{Note}
use Rattle.recent_fingerprints.specs.declared.note.Place.{Place}
use Rattle.recent_fingerprints.specs.declared.limits.TheConstants.{MAX_PLACES}
use Rattle.recent_fingerprints.specs.Halved.{whole}
use Rattle.recent_fingerprints.specs.Notes.{is_same}

-- the note in a place
abbrev pub note_in : Place → Note
note_in p = record { fingerprint = whole p.fingerprint; page = record { client = p.client; number = whole p.number }; life = p.life }

-- how many stand before the first that passes the test
abbrev pub first_where : {X : Type 0} → (X → Bool) → List X → ℕ
first_where test [] = 0
first_where test (x ∷ xs) = if test x then 0 else suc (first_where test xs)

-- the bucket of a fingerprint
unfoldable pub bucket_of : ℕ → ℕ → ℕ → ℕ
bucket_of factor shift fingerprint = (fingerprint * factor) % 2 ^ 64 / 2 ^ shift

-- how many buckets there are for so many places: as many at least, and fewer than twice as many, unless there are 2
pub record IsBucketCount (places count : ℕ) : Type 0 where
  pub enough : places ≤ count
  pub least : 2 ≤ count
  pub few : 2 < count → count < 2 * places

-- whether a note is in a bucket
abbrev pub in_bucket : ℕ → ℕ → ℕ → Place → Bool
in_bucket factor shift bucket p = bucket_of factor shift (whole p.fingerprint) == bucket

-- whether a note may follow this one in its chain: it is in the same bucket, and not the same
abbrev pub comes_next : ℕ → ℕ → Note → Place → Bool
comes_next factor shift note p = in_bucket factor shift (bucket_of factor shift note.fingerprint) p && not (is_same note (note_in p))

-- each note is followed in its chain by the newest older one that may follow it, or by none
abbrev pub AreLinked : ℕ → ℕ → List Place → Type 0
AreLinked factor shift [] = Unit {0}
AreLinked factor shift (p ∷ older) = (min p.between (length older) ≡ first_where (comes_next factor shift (note_in p)) older) × AreLinked factor shift older

-- whether the list begins with a note in this bucket
abbrev pub begins_in : ℕ → ℕ → ℕ → List Place → Bool
begins_in factor shift bucket [] = false
begins_in factor shift bucket (p ∷ older) = in_bucket factor shift bucket p

-- the age of the note with this number, if the newest has that one; numbers wrap
abbrev pub age_of : ℕ → ℕ → ℕ
age_of newest number = (newest + (2 ^ 32 - number)) % 2 ^ 32

-- the age where the note of this age is in the bucket, or the number of notes
abbrev pub age_in : ℕ → ℕ → ℕ → List Place → ℕ → ℕ
age_in factor shift bucket ring age = if begins_in factor shift bucket (drop age ring) then age else length ring

-- a bucket's head has the number of its newest note, or one whose note isn't in the bucket
pub record IsHead (factor shift bucket : ℕ) (ring : List Place) (newest head : ℕ) : Type 0 where
  pub fits : head < 2 ^ 32
  pub first : first_where (in_bucket factor shift bucket) ring ≡ age_in factor shift bucket ring (age_of newest head)

-- what always holds
pub record AreKept (ring : List Place) (heads : List ℕ) (factor shift places newest room : ℕ) : Type 0 where
  pub some : 1 ≤ places
  pub limit : places ≤ MAX_PLACES
  pub few : length ring ≤ places
  pub room_for_all : room ≡ places
  pub fits : newest < 2 ^ 32
  pub shifted : shift < 64
  pub all_buckets : length heads * 2 ^ shift ≡ 2 ^ 64
  pub buckets : IsBucketCount (places / 2) (length heads)
  pub linked : AreLinked factor shift ring
  pub headed : (b : ℕ) → b < length heads → IsHead factor shift b ring newest (slice_index heads b)
