-- The last notes, as callers see them.
use Rattle.std.specs.Prelude.{ℕ, ◌+◌, ◌%◌, ◌^◌, Bool, ◌&&◌, ◌==◌, not, List, [], ◌∷◌, replicate, slice_index, slice_set, take, bit_or}
use Rattle.std.specs.List.{list_any}
use Rattle.recent_fingerprints.specs.declared.note.Note.{Note}
use Rattle.recent_fingerprints.specs.declared.note.PageName.{PageName}

-- how many notes are kept, and these, newest first; the lives of the clients by their numbers; and the number by which
-- fingerprints are spread over buckets, on which no answer depends
pub record Recent : Type 0 where
  pub places : ℕ
  pub factor : ℕ
  pub lives : List ℕ
  pub notes : List Note

-- the life of the client with this number
abbrev pub life_of : List ℕ → ℕ → ℕ
life_of lives client = slice_index lives client

-- the note of a page with its fingerprint
abbrev pub note_of : List ℕ → PageName → ℕ → Note
note_of lives page fingerprint = record { fingerprint = fingerprint; page = page; life = life_of lives page.client }

-- whether two names are of one page
abbrev pub is_same_page : PageName → PageName → Bool
is_same_page p q = (p.client == q.client) && (p.number == q.number)

-- whether two notes are of one page in one life of its client, with one fingerprint
abbrev pub is_same : Note → Note → Bool
is_same a b = (a.fingerprint == b.fingerprint) && (is_same_page a.page b.page && (a.life == b.life))

-- whether a note counts: its client has the life that it had then
abbrev pub counts : List ℕ → Note → Bool
counts lives note = note.life == life_of lives note.page.client

-- whether a note counts and is of another page, with the fingerprint of the one asked about
abbrev pub is_other : List ℕ → Note → Note → Bool
is_other lives asked note = (note.fingerprint == asked.fingerprint) && (not (is_same_page note.page asked.page) && counts lives note)

-- whether another page was noted with this fingerprint, by a client that has not ended since
abbrev pub was_noted : PageName → ℕ → Recent → Bool
was_noted page fingerprint r = list_any (is_other r.lives (note_of r.lives page fingerprint)) r.notes

-- no notes; the factor is the seed made odd
abbrev pub nothing_noted : ℕ → ℕ → ℕ → Recent
nothing_noted places clients seed = record { places = places; factor = bit_or seed 1; lives = replicate clients 0; notes = [] }

-- one more note, and the oldest is forgotten where there are more than places
abbrev pub with_note : PageName → ℕ → Recent → Recent
with_note page fingerprint r = record r { notes = take r.places (note_of r.lives page fingerprint ∷ r.notes) }

-- a client has ended: who has its number from now on has another life
abbrev pub forgotten : ℕ → Recent → Recent
forgotten client r = record r { lives = slice_set r.lives client ((life_of r.lives client + 1) % 2 ^ 32) }
