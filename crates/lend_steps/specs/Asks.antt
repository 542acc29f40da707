-- Pages about which a host is asked.
use Rattle.std.specs.Prelude.{◌≡◌, ℕ, Bool, true, false, not, ◌&&◌, ◌||◌, nat_eq, nat_lt, if◌then◌else◌, List, slice_get, slice_index_or}
use Rattle.std.specs.Option.{option_map_or}
use Rattle.lend_steps.specs.Copies.{facts_in}
use Rattle.lend_steps.specs.Lists.{Deed}
use Rattle.look_tasks.specs.Rooms.{fits}
use Rattle.page_lender.specs.Calls.{is_free}
use Rattle.page_looks.specs.Idle.{asked, asked_last, is_idle}
use Rattle.page_looks.specs.Notes.{Notes, looks_of}
use Rattle.page_looks.specs.Turns.{is_asked_in_passing}
use Rattle.page_looks.specs.declared.idle.look.LookConfig.{LookConfig}
use Rattle.page_looks.specs.declared.parts.part.Part.{Part}
use Rattle.window_pages.specs.Bytes.{known_of, notes_of}
use Rattle.window_pages.specs.Counted.{counts_then}
use Rattle.window_pages.specs.Known.{lender_of}
use Rattle.window_pages.specs.Runs.{same}
use Rattle.window_pages.specs.declared.counts.PartCounts.{PartCounts}
use Rattle.window_pages.specs.declared.facts.WindowFacts.{WindowFacts}
use Rattle.window_pages.specs.declared.page.WindowPage.{WindowPage}
use Rattle.window_tables.specs.Mappings.{is_whole, mappings_more}
use Rattle.window_tables.specs.Tables.{part_at}
use Rattle.window_tables.specs.declared.facts.TableFacts.{TableFacts}

-- There is room for the mappings that a page may take, whatever becomes of it, where so many of so many are taken.
abbrev pub has_room : ℕ → ℕ → ℕ → List Part → List WindowPage → ℕ → Bool
has_room most taken lead wholes pages place = fits most taken (mappings_more lead wholes pages place 1)

-- the question about a page isn't noted, so that others don't find it
abbrev pub is_passing : LookConfig → ℕ → ℕ → List Part → ℕ → WindowPage → Bool
is_passing config look lead wholes number page =
    option_map_or (λ part. is_asked_in_passing config part (looks_of page) look number) (slice_get wholes (part_at lead number)) false

-- A page that is free may be asked about, if there is room for it, or else is crowded out, and is asked about as seldom as any. The answer is 0 if it
-- isn't free, 4 if it is crowded out, and else 1, and 2 more if that is in passing.
pub data ToAsk (facts : WindowFacts) (has_room is_passing : Bool) (answer : ℕ) (old new : WindowPage) (part part_new : PartCounts) : Type 0 where
  is_not_free : is_free (lender_of facts (known_of old)) ≡ false → answer ≡ 0 → new ≡ old → part_new ≡ part → ToAsk facts has_room is_passing answer old new part part_new
  is_crowded : is_free (lender_of facts (known_of old)) ≡ true → has_room ≡ false → answer ≡ 4
      → Notes (asked_last (looks_of old)) (notes_of old).seen old new part part_new → ToAsk facts has_room is_passing answer old new part part_new
  is_asked : is_free (lender_of facts (known_of old)) ≡ true → has_room ≡ true → answer ≡ (if is_passing then 3 else 1) → new ≡ old → part_new ≡ part
      → ToAsk facts has_room is_passing answer old new part part_new

-- The same of the page at a place of a list. In a whole part nothing is mapped in its place.
abbrev pub AsksAt : TableFacts → List ℕ → LookConfig → ℕ → ℕ → ℕ → List Part → List ℕ → ℕ → ℕ → List WindowPage → Deed
AsksAt table pins config look most lead wholes numbers n taken now answer old new part part_new =
    ToAsk (facts_in table pins numbers n) (is_whole lead wholes (slice_index_or numbers n 0) || has_room most taken lead wholes now (slice_index_or numbers n 0))
    (is_passing config look lead wholes (slice_index_or numbers n 0) old) answer old new part part_new

-- a question takes no room up
abbrev pub takes_none : ℕ → ℕ → List WindowPage → ℕ
takes_none n answer now = 0

-- Whether somebody else had the page is noted, where that changes anything.
pub record Sees (is_seen : Bool) (old new : WindowPage) (part part_new : PartCounts) : Type 0 where
  pub known : known_of new ≡ known_of old
  pub notes : notes_of new ≡ record (notes_of old) { seen = is_seen }
  pub counts : part_new ≡ counts_then old new part

-- a page of a whole part is still the one that was asked about, and that it was seen or not is new of it
abbrev pub sees : Bool → Bool → ℕ → WindowPage → Bool
sees is_whole is_other fingerprint page =
    is_whole && is_idle (looks_of page) && nat_eq (looks_of page).fingerprint fingerprint && not (same (notes_of page).seen is_other)

-- A page was asked about in vain. Of a whole part it is noted whether somebody else has the page.
pub record InVain (is_whole is_other : Bool) (fingerprint : ℕ) (old new : WindowPage) (part part_new : PartCounts) : Type 0 where
  pub between : WindowPage
  pub part_between : PartCounts
  pub asked : Notes (asked (looks_of old)) (notes_of old).seen old between part part_between
  pub seen : sees is_whole is_other fingerprint between ≡ true → Sees is_other between new part_between part_new
  pub kept : sees is_whole is_other fingerprint between ≡ false → new ≡ between
  pub kept_part : sees is_whole is_other fingerprint between ≡ false → part_new ≡ part_between

-- A host answered: others have the page, or don't. One of a split part that others have may be lent, if there is room for it, or else is crowded out.
pub data Answered (is_whole is_other has_room : Bool) (fingerprint answer : ℕ) (old new : WindowPage) (part part_new : PartCounts) : Type 0 where
  is_in_vain : (is_other && not is_whole) ≡ false → answer ≡ 0 → InVain is_whole is_other fingerprint old new part part_new
      → Answered is_whole is_other has_room fingerprint answer old new part part_new
  is_left_out : (is_other && not is_whole) ≡ true → has_room ≡ false → answer ≡ 4
      → Notes (asked_last (looks_of old)) (notes_of old).seen old new part part_new → Answered is_whole is_other has_room fingerprint answer old new part part_new
  is_found : (is_other && not is_whole) ≡ true → has_room ≡ true → answer ≡ 1 → new ≡ old → part_new ≡ part
      → Answered is_whole is_other has_room fingerprint answer old new part part_new

-- The same of the page at a place of a list.
abbrev pub AnsweredAt : ℕ → ℕ → List Part → List ℕ → List ℕ → List ℕ → ℕ → ℕ → List WindowPage → Deed
AnsweredAt most lead wholes numbers fingerprints seen n taken now =
    Answered (is_whole lead wholes (slice_index_or numbers n 0)) (nat_lt 0 (slice_index_or seen n 0)) (has_room most taken lead wholes now (slice_index_or numbers n 0))
    (slice_index_or fingerprints n 0)

-- a page that may be lent takes up what it may take
abbrev pub takes_if_found : ℕ → List Part → List ℕ → ℕ → ℕ → List WindowPage → ℕ
takes_if_found lead wholes numbers n answer now = if nat_eq answer 1 then mappings_more lead wholes now (slice_index_or numbers n 0) 1 else 0
