-- A page's message, put together from its first and last block and the page's bytes between them.
use Rattle.std.proofs.Common.{◌≡◌, ℕ, List, ◌++◌, length, take, drop, refl, sym, ap, ◌∙◌, arith, length-append, length-drop}
use Rattle.std.proofs.lemmas.Bool.{ne_eqb}
use Rattle.std.proofs.lemmas.List.{append_assoc, drop-drop, take-append-drop, take_all}
use Rattle.std.specs.Int.{w32, to_be_bytes}
use Rattle.sha2.specs.Sha256.{padded_message, padding, sha256}
use Rattle.sha256_lanes.specs.Hashes.{leading_digest, leading_number}
use Rattle.page_digest.specs.Hashes.{salted, content_digest, sha256_hash}

-- of the page alone
pub plain_message : (salt : ℕ) (page : List ℕ) → salt ≡ 0 → length page ≡ 4096
    → take 64 page ++ take 4032 (drop 64 page) ++ padding 4096 ≡ padded_message (salted salt page)
plain_message salt page e len =
    let rest : take 4032 (drop 64 page) ≡ drop 64 page = take_all 4032 (drop 64 page) (omega (arith, length-drop 64 page)) in
    rw (rest, take-append-drop 64 page, e, len) refl

-- the page, from its first 60 bytes, its last four and those between
cut_page : (page : List ℕ) → take 60 page ++ (take 4032 (drop 60 page) ++ drop 4092 page) ≡ page
cut_page page =
    let rest : take 4032 (drop 60 page) ++ drop 4092 page ≡ drop 60 page =
    rw (sym (drop-drop 4032 60 page)) (take-append-drop 4032 (drop 60 page)) in
    rw rest (take-append-drop 60 page)

-- of a salt's bytes and the page
pub salted_message : (salt : ℕ) (page : List ℕ) → (salt ≡ 0 → ⊥) → length page ≡ 4096
    → to_be_bytes w32 salt ++ take 60 page ++ take 4032 (drop 60 page) ++ (drop 4092 page ++ padding 4100) ≡ padded_message (salted salt page)
salted_message salt page ne len =
    let bytes = to_be_bytes w32 salt in
    let size : length (bytes ++ page) ≡ 4100 = len_of in
    let whole : bytes ++ take 60 page ++ take 4032 (drop 60 page) ++ drop 4092 page ≡ bytes ++ page =
    append_assoc (bytes ++ take 60 page) (take 4032 (drop 60 page)) (drop 4092 page)
    ∙ append_assoc bytes (take 60 page) (take 4032 (drop 60 page) ++ drop 4092 page)
    ∙ ap (λ (rest : List ℕ). bytes ++ rest) (cut_page page) in
    rw (ne_eqb salt 0 ne, size)
    (sym (append_assoc (bytes ++ take 60 page ++ take 4032 (drop 60 page)) (drop 4092 page) (padding 4100)) ∙ ap (λ (message : List ℕ). message ++ padding 4100) whole)
  where
    len_of : length (to_be_bytes w32 salt ++ page) ≡ 4100
    len_of = omega (arith, length-append (to_be_bytes w32 salt) page, len)

-- the number of the padded message is the page's hash
pub number_is_hash : (salt : ℕ) (page padded : List ℕ) → padded ≡ padded_message (salted salt page) → leading_number padded ≡ sha256_hash salt page
unfolding leading_number sha256_hash sha256
number_is_hash salt page padded e = rw e refl

-- and its digest that of the content
pub digest_is_of_content : (salt : ℕ) (page padded : List ℕ) → padded ≡ padded_message (salted salt page) → leading_digest padded ≡ content_digest salt page
unfolding leading_digest content_digest sha256
digest_is_of_content salt page padded e = rw e refl
