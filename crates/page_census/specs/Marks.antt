-- The marks of pages.
use Rattle.std.specs.Prelude.{ℕ, max, if◌then◌else◌, List, map}
use Rattle.std.specs.Str.{bytes_eq}
use Rattle.page_model.specs.Pages.{blank}
use Rattle.page_census.specs.Contents.{Content}

-- 0 for a page of zeros, and for any other its hash, or 1 if that is 0
abbrev pub mark : (ℕ → List ℕ → ℕ) → ℕ → List ℕ → ℕ
mark hash salt bytes = if bytes_eq bytes blank then 0 else max (hash salt bytes) 1

-- the marks of pages of one guest
abbrev pub marks_of : (ℕ → List ℕ → ℕ) → ℕ → List (List ℕ) → List ℕ
marks_of hash salt pages = map (mark hash salt) pages

-- the mark of a content
abbrev pub mark_at : (ℕ → List ℕ → ℕ) → Content → ℕ
mark_at hash content = mark hash content.0 content.1
