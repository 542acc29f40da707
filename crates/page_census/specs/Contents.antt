-- The contents of pages.
use Rattle.std.specs.Prelude.{ℕ, ◌==◌, ◌&&◌, Bool, List, [], map, All, slice_index_or}
use Rattle.std.specs.List.{flat_map}
use Rattle.std.specs.Str.{bytes_eq}
use Rattle.page_census.specs.declared.guest.Guest.{Guest}

-- a content: the salt of a page's guest, and the bytes of the page
abbrev pub Content : Type 0
Content = ℕ × List ℕ

-- two contents are the same
abbrev pub is_same : Content → Content → Bool
is_same a b = a.0 == b.0 && bytes_eq a.1 b.1

-- the content of the page with this number among all
abbrev pub content_at : List Content → ℕ → Content
content_at all n = slice_index_or all n (0, [])

-- the pages with these numbers have the same content
abbrev pub are_same : List Content → ℕ → ℕ → Bool
are_same all a b = is_same (content_at all a) (content_at all b)

module _ {S : Type 0} where
  -- the contents of a guest's pages
  abbrev pub contents_of : (S → List (List ℕ)) → Guest S → List Content
  contents_of pages guest = map (λ bytes. (guest.salt, bytes)) (pages guest.source)

  -- those of all guests' pages, guest 0 first
  abbrev pub contents : (S → List (List ℕ)) → List (Guest S) → List Content
  contents pages guests = flat_map (contents_of pages) guests

  -- each guest's source is steady
  abbrev pub AreSteady : (S → Type 0) → List (Guest S) → Type 0
  AreSteady is_steady guests = All (λ guest. is_steady guest.source) guests
