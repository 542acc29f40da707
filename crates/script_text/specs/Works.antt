-- What the lines of scripts ask for, written out as requests.
use Rattle.std.specs.Prelude.{ℕ, zero, suc, ◌+◌, ◌==◌, if◌then◌else◌, List, [], ◌∷◌, ◌++◌}
use Rattle.page_model.specs.declared.request.Request.{Request}
use Rattle.page_model.specs.declared.request.Request.TheVariants.{Propose}
use Rattle.share_rings.specs.Numbers.{sequential_number, random_number}
use Rattle.script_text.specs.declared.work.Work.{Work}
use Rattle.script_text.specs.declared.work.Work.TheVariants.{Asks, ScansInOrder, ScansAtRandom}
use Rattle.script_text.specs.declared.work.Item.{Item}

-- proposals of the first n numbers of a scan, number 0 first
abbrev pub proposals : (ℕ → ℕ) → ℕ → List Request
proposals number zero = []
proposals number (suc n) = proposals number n ++ Propose (number n) ∷ []

-- the requests of a line of a guest with this many pages
unfoldable pub requests_of : ℕ → Work → List Request
requests_of pages (Asks request) = request ∷ []
requests_of pages (ScansInOrder n) = proposals (sequential_number pages) n
requests_of pages (ScansAtRandom seed n) = proposals (random_number seed pages) n

-- how many requests that is
abbrev pub size_of : Work → ℕ
size_of (Asks request) = 1
size_of (ScansInOrder n) = n
size_of (ScansAtRandom seed n) = n

-- all requests of a guest with this many pages, in the order of the lines
abbrev pub asked_by : ℕ → ℕ → List Item → List Request
asked_by guest pages [] = []
asked_by guest pages (item ∷ items) = (if item.guest == guest then requests_of pages item.work else []) ++ asked_by guest pages items

-- the requests of each guest from number guest on, by the guests' numbers of pages
abbrev pub scripts_from : ℕ → List ℕ → List Item → List (List Request)
scripts_from guest [] items = []
scripts_from guest (n ∷ pages) items = asked_by guest n items ∷ scripts_from (guest + 1) pages items

-- the requests of each guest, guest 0 first
abbrev pub written_out : List ℕ → List Item → List (List Request)
written_out pages items = scripts_from 0 pages items
