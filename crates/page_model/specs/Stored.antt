-- The byte last stored to a place of a page, from the requests and their verdicts alone, without mention of sharing.
use Rattle.std.specs.Prelude.{◌≡◌, ℕ, ◌+◌, ◌-◌, ◌<◌, Bool, true, false, ◌&&◌, ◌==◌, nat_lt, nat_le, if◌then◌else◌}
use Rattle.std.specs.Prelude.{List, [], ◌∷◌, length, Option, Some, None, slice_index, unwrap_or}
use Rattle.std.specs.Option.{option_map}
use Rattle.page_model.specs.Parts.{StoreParts}
use Rattle.page_model.specs.Pages.{Guest, State, bytes_of, page_at}
use Rattle.page_model.specs.Replay.{Shape, empty_state, state_after, verdicts_of}
use Rattle.page_model.specs.declared.limits.TheConstants.{PAGE_BYTES}
use Rattle.page_model.specs.declared.request.Entry.{Entry}
use Rattle.page_model.specs.declared.request.Request.{Request}
use Rattle.page_model.specs.declared.request.Request.TheVariants.{Propose, Store, Load, Release, Count, Close}
use Rattle.page_model.specs.declared.verdict.Verdict.{Verdict}
use Rattle.page_model.specs.declared.verdict.Verdict.TheVariants.{Mapped, Stored, Copied, Taken, Released}

-- the verdict of a store that was done
abbrev pub is_done : Verdict → Bool
is_done Mapped = true
is_done Stored = true
is_done Copied = true
is_done Taken = true
is_done _ = false

-- the verdict of a release that was done
abbrev pub is_released : Verdict → Bool
is_released (Released freed) = true
is_released _ = false

-- the store covers place k of its page
abbrev pub covers : StoreParts → ℕ → Bool
covers r k = nat_le r.at k && nat_lt k (r.at + length r.bytes)

-- The byte that a request of guest asker, with its verdict, puts at place k of a page: a store that was done puts its
-- own byte if it covers the place, a release that was done puts 0, and anything else puts nothing.
abbrev pub put_by : ℕ → Request → Verdict → ℕ → ℕ → ℕ → Option ℕ
put_by asker (Propose page) verdict guest ppn k = None
put_by asker (Store r) verdict guest ppn k =
    if is_done verdict && (asker == guest && r.ppn == ppn) && covers r k then Some (slice_index r.bytes (k - r.at)) else None
put_by asker (Load r) verdict guest ppn k = None
put_by asker (Release page) verdict guest ppn k = if is_released verdict && (asker == guest && page == ppn) then Some 0 else None
put_by asker Count verdict guest ppn k = None
put_by asker Close verdict guest ppn k = None

-- the last byte that the entries, with their verdicts, put at place k of a page, and byte if they put none
abbrev pub last_from : ℕ → List Entry → List Verdict → ℕ → ℕ → ℕ → ℕ
last_from byte [] verdicts guest ppn k = byte
last_from byte (e ∷ es) [] guest ppn k = byte
last_from byte (e ∷ es) (verdict ∷ verdicts) guest ppn k =
    last_from (unwrap_or (put_by e.guest e.request verdict guest ppn k) byte) es verdicts guest ppn k

-- the byte last stored at place k of a page, 0 if none was or the page was released since
abbrev pub last_stored : List Entry → List Verdict → ℕ → ℕ → ℕ → ℕ
last_stored es verdicts guest ppn k = last_from 0 es verdicts guest ppn k

-- the bytes that a page reads as, if there is such a page
abbrev pub text_at : List Guest → ℕ → ℕ → Option (List ℕ)
text_at guests guest ppn = option_map (λ x. bytes_of x.1) (page_at guests guest ppn)

-- the byte at place k of these bytes, 0 if there are none
abbrev pub byte_in : ℕ → Option (List ℕ) → ℕ
byte_in k None = 0
byte_in k (Some bytes) = slice_index bytes k

-- the byte at place k of a page, 0 if there is no such page
abbrev pub byte_at : State → ℕ → ℕ → ℕ → ℕ
byte_at s guest ppn k = byte_in k (text_at s.guests guest ppn)

-- after this journal, for every machine and hash, each place of each page reads as the byte last stored there
abbrev pub ReadsLastStored : List Entry → Type 0
ReadsLastStored es =
    (hash : ℕ → List ℕ → ℕ) (total : ℕ) (shapes : List Shape) (guest ppn k : ℕ) → k < PAGE_BYTES →
    let s = empty_state total shapes in
    byte_at (state_after hash s es) guest ppn k ≡ last_stored es (verdicts_of hash s es) guest ppn k
