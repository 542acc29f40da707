-- What a page holds after the requests in sight, and the hashes of that.
use Rattle.std.specs.Prelude.{ℕ, ◌≡◌, Bool, ◌==◌, ◌&&◌, if◌then◌else◌, List, [], ◌∷◌, Option, Some, None, is_some}
use Rattle.std.specs.Option.{option_or}
use Rattle.std.specs.Str.{bytes_eq}
use Rattle.page_model.specs.Pages.{blank, written}
use Rattle.page_model.specs.declared.request.Entry.{Entry}
use Rattle.page_model.specs.declared.request.Request.{Request}
use Rattle.page_model.specs.declared.request.Request.TheVariants.{Propose, Store, Load, Release, Count, Close}

-- a page that is foreseen: its salt, its bytes, and their hash if it was computed
pub record Foreseen : Type 0 where
  pub salt : ℕ
  pub bytes : List ℕ
  pub hash : Option ℕ

-- what a page reads as: these bytes, or zeros if it is unmapped
abbrev pub read_as : Option (List ℕ) → List ℕ
read_as None = blank
read_as (Some bytes) = bytes

-- What a page holds after a request of its guest: bytes, or none if it is unmapped. That a store may find no frame isn't
-- foreseen.
abbrev pub left : Request → ℕ → Option (List ℕ) → Option (List ℕ)
left (Store store) ppn page = if store.ppn == ppn then Some (written (read_as page) store.at store.bytes) else page
left (Release released) ppn page = if released == ppn then None else page
left (Propose proposed) ppn page = page
left (Load load) ppn page = page
left Count ppn page = page
left Close ppn page = page

-- what a page of this guest holds after a request
abbrev pub left_at : Entry → ℕ → ℕ → Option (List ℕ) → Option (List ℕ)
left_at entry guest ppn page = if entry.guest == guest then left entry.request ppn page else page

-- what it holds after these requests
unfoldable pub left_by : List Entry → ℕ → ℕ → Option (List ℕ) → Option (List ℕ)
left_by [] guest ppn page = page
left_by (e ∷ entries) guest ppn page = left_by entries guest ppn (left_at e guest ppn page)

-- the forecast of this page, whose hash isn't computed
abbrev pub expected : ℕ → Option (List ℕ) → Foreseen
expected salt page = record { salt = salt; bytes = read_as page; hash = None }

-- the forecast is of this page with this salt, and `is_mapped` says whether it is mapped
pub record Expects (f : Foreseen) (salt : ℕ) (is_mapped : Bool) (page : Option (List ℕ)) : Type 0 where
  pub foreseen : f ≡ expected salt page
  pub mapped : is_mapped ≡ is_some page

-- the forecast with its hash computed
abbrev pub hashed : (ℕ → List ℕ → ℕ) → Foreseen → Foreseen
hashed hash f = record { salt = f.salt; bytes = f.bytes; hash = Some (hash f.salt f.bytes) }

-- the hash of a page with this salt and these bytes, if that is what was foreseen here and its hash was computed
abbrev pub hash_for : ℕ → List ℕ → Foreseen → Option ℕ
hash_for salt bytes f = if (f.salt == salt) && bytes_eq f.bytes bytes then f.hash else None

-- the same for several forecasts: the hash from the first that has it
abbrev pub known_hash : List Foreseen → ℕ → List ℕ → Option ℕ
known_hash [] salt bytes = None
known_hash (f ∷ forecasts) salt bytes = option_or (hash_for salt bytes f) (known_hash forecasts salt bytes)
