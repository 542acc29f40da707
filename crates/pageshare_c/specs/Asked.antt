-- What is answered to a question about a page, and what a domain's handle holds afterwards.
use Rattle.std.specs.Prelude.{ℕ, Bool, true, false, Option}
use Rattle.recent_fingerprints.specs.declared.note.PageName.{PageName}
use Rattle.recent_fingerprints.specs.Notes.{was_noted, with_note}
use Rattle.pageshare_c.specs.Hosts.{changed, of_made}
use Rattle.pageshare_c.specs.declared.hosted.Hosted.{Hosted}

abbrev pub bit_of : Bool → ℕ
bit_of true = 1
bit_of false = 0

-- the answer: 1 if another page was asked about with this fingerprint, by a client that has not ended since; without a domain the
-- caller's byte is as it was
abbrev pub seen_after : PageName → ℕ → ℕ → Option Hosted → ℕ
seen_after page fingerprint seen old = of_made seen (λ m. bit_of (was_noted page fingerprint m.recent)) old

-- what the handle holds, with the question noted
abbrev pub asked : PageName → ℕ → Option Hosted → Option Hosted
asked page fingerprint old = changed (λ m. record m { recent = with_note page fingerprint m.recent }) old
