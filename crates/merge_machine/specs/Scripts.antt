-- What a machine's guests ask for by scripts: each script holds one guest's requests, without its close.
use Rattle.std.specs.Prelude.{ℕ, ◌+◌, List, [], ◌∷◌, ◌++◌, length, sum_by}
use Rattle.std.specs.declared.vec.Vec.{Vec}
use Rattle.page_model.specs.declared.request.Request.{Request}
use Rattle.page_model.specs.declared.request.Request.TheVariants.{Close}

-- all that a guest sends: its script, and then its close
abbrev pub with_close : List Request → List Request
with_close script = script ++ Close ∷ []

-- how many entries a journal needs for all that the guests send: one for each request, and one for each close
abbrev pub entries_needed : {A : Type 0} → List (Vec Request A) → ℕ
entries_needed scripts = sum_by (λ script. length script.items + 1) scripts
