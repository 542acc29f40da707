-- The store or load that C's arguments ask for.
use Rattle.std.specs.Prelude.{ℕ, ◌+◌, nat_le, if◌then◌else◌, List, length, Result, Ok, Err}
use Rattle.page_model.specs.declared.request.Request.{Request}
use Rattle.page_model.specs.declared.request.Request.TheVariants.{Store, Load}
use Rattle.page_model.specs.declared.request.RequestFault.{RequestFault}
use Rattle.page_model.specs.declared.request.RequestFault.TheVariants.{Length, Crosses}

-- the request, which reads or writes this many bytes at a place of a page, if there is one: it has
-- 1 to MAX_ACCESS_BYTES bytes, and stays within the page
abbrev pub access : ℕ → ℕ → Request → Result Request RequestFault
access at len request =
    if nat_le len 0
    then Err Length
    else if nat_le 65 len
    then Err Length
    else if nat_le 4097 (at + len)
    then Err Crosses
    else Ok request

abbrev pub store_of : ℕ → ℕ → List ℕ → Result Request RequestFault
store_of ppn at bytes = access at (length bytes) (Store (record { ppn = ppn; at = at; bytes = bytes }))

abbrev pub load_of : ℕ → ℕ → ℕ → Result Request RequestFault
load_of ppn at len = access at len (Load (record { ppn = ppn; at = at; len = len }))
