-- The definition's request of a store or load, in each case of the contract of `Request::store` and `Request::load`.
use Rattle.std.proofs.Common.{◌≡◌, ℕ, ◌+◌, ◌<◌, true, false, nat_le, refl, ap, sym, ◌∙◌, arith}
use Rattle.std.proofs.lemmas.Bool.{le-leb, lt-leb}
use Rattle.std.proofs.Common.{inl, inr}
use Rattle.std.specs.Prelude.{Result, Ok, Err, IfOk, MatchResult}
use Rattle.page_model.specs.Faults.{Fits, RefusedFor}
use Rattle.page_model.specs.declared.request.Request.{Request}
use Rattle.page_model.specs.declared.request.RequestFault.{RequestFault}
use Rattle.page_model.specs.declared.request.RequestFault.TheVariants.{Length, Crosses}
use Rattle.pageshare_c.specs.Access.{access}

pub access_fits : (at len : ℕ) (request : Request) → Fits at len → access at len request ≡ Ok request
access_fits at len request (lower, upper, inside) =
    let some : nat_le len 0 ≡ false = lt-leb len 0 lower in
    let few : nat_le 65 len ≡ false = lt-leb 65 len (omega (arith, upper)) in
    let within : nat_le 4097 (at + len) ≡ false = lt-leb 4097 (at + len) (omega (arith, inside)) in
    rw (some, few, within) refl

pub access_empty : (at len : ℕ) (request : Request) → len ≡ 0 → access at len request ≡ Err Length
access_empty at len request none =
    let empty : nat_le len 0 ≡ true = le-leb len 0 (omega (arith, none)) in
    rw (empty) refl

pub access_long : (at len : ℕ) (request : Request) → 64 < len → access at len request ≡ Err Length
access_long at len request long =
    let some : nat_le len 0 ≡ false = lt-leb len 0 (omega (arith, long)) in
    let many : nat_le 65 len ≡ true = le-leb 65 len long in
    rw (some, many) refl

pub access_length : (at len : ℕ) (request : Request) → RefusedFor at len Length → access at len request ≡ Err Length
access_length at len request (inl none) = access_empty at len request none
access_length at len request (inr long) = access_long at len request long

pub access_crosses : (at len : ℕ) (request : Request) → RefusedFor at len Crosses → access at len request ≡ Err Crosses
access_crosses at len request (lower, upper, past) =
    let some : nat_le len 0 ≡ false = lt-leb len 0 lower in
    let few : nat_le 65 len ≡ false = lt-leb 65 len (omega (arith, upper)) in
    let beyond : nat_le 4097 (at + len) ≡ true = le-leb 4097 (at + len) past in
    rw (some, few, beyond) refl

-- the answer of either call is the definition's
pub access_is : (at len : ℕ) (request : Request) (result : Result Request RequestFault) → IfOk result (λ r. r ≡ request) → MatchResult result (λ _. Fits at len) (λ f. RefusedFor at len f) → result ≡ access at len request
access_is at len request (Ok made) same fits = ap Ok same ∙ sym (access_fits at len request fits)
access_is at len request (Err Length) same refused = sym (access_length at len request refused)
access_is at len request (Err Crosses) same refused = sym (access_crosses at len request refused)
