use Rattle.std.proofs.Common.{◌≡◌, ◌≢◌, ℕ, ◌+◌, ◌-◌, ◌<◌, true, inl, inr, List, [], ◌∷◌, ◌++◌, length, take, drop, get_or, All, refl, sym, ap, ◌∙◌, arith}
use Rattle.std.proofs.lemmas.Bool.{eqb-true}
use Rattle.std.proofs.lemmas.List.{take-append-drop, take_all, take_more, get_or-drop, length-drop}
use Rattle.std.proofs.lemmas.List.Elements.{All-from_get_or}
use Rattle.memchr.specs.Find.{is_byte, Nowhere, Passes}
use Rattle.command_terms.proofs.digests.file_name.Goals as goal

-- behind a place after which no byte passes there is no '/'
free_behind : (path : List ℕ) (n : ℕ) → Nowhere (Passes (is_byte 47) path) n (length path) → All (λ b. b ≢ 47) (drop n path)
free_behind path n none = All-from_get_or (λ b. b ≢ 47) (drop n path) 0 (λ i within slash.
    let short : i < length path - n = rw (sym (length-drop n path)) within in
    none (n + i) (omega arith) (omega arith) (by (get_or path (n + i) 0) (sym (get_or-drop n path i 0) ∙ slash))) where
      by : (b : ℕ) → b ≡ 47 → is_byte 47 b ≡ true
      by b same = rw same refl

pub returns-in-Some : goal.returns-in-Some
returns-in-Some c =
    let path = c.args.path.now in
    let at = c.in-Some.at in
    let found = c.in-Some.ensures in
    let within : at < length path = found.0.high in
    let slash : get_or path at 0 ≡ 47 = eqb-true (get_or path at 0) 47 found.1 in
    let cut : take (length path - (at + 1)) (drop (at + 1) path) ≡ drop (at + 1) path = take_all _ _ (omega (arith, length-drop (at + 1) path)) in
    let front : take (at + 1) path ≡ take at path ++ 47 ∷ [] = take_more path at 0 within ∙ ap (λ (b : ℕ). take at path ++ b ∷ []) slash in
    rw cut (record {
      folder = take (at + 1) path;
      is = inr (take at path, front);
      whole = sym (take-append-drop (at + 1) path);
      free = free_behind path (at + 1) found.0.after;
    })

pub returns-in-None : goal.returns-in-None
returns-in-None c = record {
  folder = [];
  is = inl refl;
  whole = refl;
  free = free_behind c.args.path.now 0 c.in-None.ensures;
}
