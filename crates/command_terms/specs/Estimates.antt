-- What an estimate is made by, and what it prints of a fault.
use Rattle.std.specs.Prelude.{ℕ, ◌-◌, List, Option, None, nat_lt, if◌then◌else◌, slice_get, codes, option_map, unwrap_or}
use Rattle.std.specs.Borrow.{Bor}
use Rattle.command_terms.specs.declared.image_causes.ImageCause.{ImageCause}
use Rattle.command_terms.specs.declared.image_causes.ImageCause.TheVariants.{NoFile, Changed, TooManyPages, OutOfMemory}

-- what a fault calls a guest's image
abbrev pub image_named : List (Bor (List ℕ)) → ℕ → List ℕ
image_named images guest = unwrap_or (option_map (λ image. image.now) (slice_get images guest)) (codes "estimate")

-- the number of the process that a guest runs in: those of so many images come first
abbrev pub process_numbered : ℕ → List ℕ → ℕ → Option ℕ
process_numbered images processes guest = if nat_lt guest images then None else slice_get processes (guest - images)

abbrev pub cause_text : ImageCause → List ℕ
cause_text NoFile = codes "not a regular file"
cause_text Changed = codes "changed while it was read"
cause_text TooManyPages = codes "more than 4,294,967,295 pages in all"
cause_text OutOfMemory = codes "out of memory"
