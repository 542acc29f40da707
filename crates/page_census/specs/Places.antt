-- Where pages are.
use Rattle.std.specs.Prelude.{◌≡◌, ℕ, ◌<◌, true, List, [], ◌∷◌, length, slice_index_or}
use Rattle.page_census.specs.Contents.{Content, contents, content_at}
use Rattle.page_census.specs.declared.place.Place.{Place}
use Rattle.page_census.specs.declared.guest.Guest.{Guest}
use Rattle.page_census.specs.declared.subject.Subject.{Subject}

-- the page with this number among all is this page of this guest
pub record StandsAt {S : Type 0} (pages : S → List (List ℕ)) (guests : List (Guest S)) (number : ℕ) (place : Place) : Type 0 where
  pub guest_within : place.guest < length guests
  pub page_within : (d : Guest S) → place.page < length (pages (slice_index_or guests place.guest d).source)
  pub content : (d : Guest S) → let guest = slice_index_or guests place.guest d in
      content_at (contents pages guests) number ≡ (guest.salt, slice_index_or (pages guest.source) place.page [])

-- if the page was read, a list holds it
pub record Holds (steady : Type 0) (all : List Content) (subject : Subject) (pages : List (List ℕ)) : Type 0 where
  pub right : steady → subject.is_read ≡ true → pages ≡ (content_at all subject.number).1 ∷ []
