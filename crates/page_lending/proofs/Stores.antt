-- The stores of a whole page, one after the other.
use Rattle.std.proofs.Common.{◌≡◌, ℕ, zero, suc, ◌+◌, ◌*◌, Bool, true, false, cond, List, [], ◌∷◌, ◌++◌, length, take, drop, replicate, Option, Some, None, refl, ap, sym, ◌∙◌, arith}
use Rattle.std.specs.Prelude.{slice_index_or, nat_eq}
use Rattle.std.specs.Option.{option_map}
use Rattle.std.proofs.lemmas.List.{length-append, length-take-le, length-drop, take-append-drop, append-nil, append_assoc}
use Rattle.page_model.specs.Pages.{Slot, Unmapped, Private, Shared, Guest, State, bytes_of, written, with_slot, page_at, used, peers}
use Rattle.page_model.specs.Steps.{Outcome, Step, stored, stays, sets, on_page, at_page, answered, step}
use Rattle.page_model.specs.Replay.{state_after, verdicts_of}
use Rattle.page_model.specs.Stored.{is_done, text_at}
use Rattle.page_model.specs.declared.request.Request.TheVariants.{Store}
use Rattle.page_model.specs.declared.verdict.Verdict.{Verdict}
use Rattle.page_model.specs.declared.verdict.Verdict.TheVariants as v
use Rattle.page_model.proofs.Places.{at_same, again, unchanged}
use Rattle.page_lending.specs.Lending.{stores_from, entries_of, page_stored}
use Rattle.page_lending.specs.Laws.{IsWhole, at_once, StoresAtOnce, verdict_after, VerdictsFollow}
use Rattle.page_lending.proofs.Written.{written_behind}

-- the outcome of a store of these bytes at this place of a page
abbrev pub store_at : ℕ → List Guest → ℕ → ℕ → ℕ → List ℕ → Outcome
store_at total gs guest ppn at bytes = at_page gs guest ppn (λ salt slot. stored total gs guest ppn at bytes salt slot)

-- How stores to a page end, whatever is stored where: all are refused alike, or all are done alike.
pub data Ends (gs : List Guest) (guest ppn : ℕ) (f : ℕ → List ℕ → Outcome) : Type 0 where
  refused : (verdict : Verdict) → is_done verdict ≡ false → ((at : ℕ) (bytes : List ℕ) → f at bytes ≡ stays gs verdict) → Ends gs guest ppn f
  done : (salt : ℕ) (slot : Slot) (hint : Option ℕ) (verdict : Verdict) → is_done verdict ≡ true → page_at gs guest ppn ≡ Some (salt, slot) → ((at : ℕ) (bytes : List ℕ) → f at bytes ≡ sets gs guest ppn (Private (written (bytes_of slot) at bytes) hint) verdict) → Ends gs guest ppn f

choose : (gs : List Guest) (guest ppn : ℕ) (t : Bool) (f h : ℕ → List ℕ → Outcome) → Ends gs guest ppn f → Ends gs guest ppn h → Ends gs guest ppn (λ at bytes. cond t (f at bytes) (h at bytes))
choose gs guest ppn true f h x y = x
choose gs guest ppn false f h x y = y

stored_ends : (total : ℕ) (gs : List Guest) (guest ppn salt : ℕ) (slot : Slot) → page_at gs guest ppn ≡ Some (salt, slot) → Ends gs guest ppn (λ at bytes. stored total gs guest ppn at bytes salt slot)
unfolding stored
stored_ends total gs guest ppn salt Unmapped here =
    choose gs guest ppn (nat_eq (used gs) total) _ _ (refused v.NoFrame refl (λ at bytes. refl)) (done salt Unmapped None v.Mapped refl here (λ at bytes. refl))
stored_ends total gs guest ppn salt (Private old hint) here = done salt (Private old hint) hint v.Stored refl here (λ at bytes. refl)
stored_ends total gs guest ppn salt (Shared old) here =
    choose gs guest ppn (nat_eq (peers salt old gs) 1) _ _ (done salt (Shared old) None v.Taken refl here (λ at bytes. refl))
    (choose gs guest ppn (nat_eq (used gs) total) _ _ (refused v.NoFrame refl (λ at bytes. refl)) (done salt (Shared old) None v.Copied refl here (λ at bytes. refl)))

on_page_ends : (total : ℕ) (gs : List Guest) (guest ppn : ℕ) (o : Option (ℕ × Slot)) → page_at gs guest ppn ≡ o → Ends gs guest ppn (λ at bytes. on_page gs (λ salt slot. stored total gs guest ppn at bytes salt slot) o)
on_page_ends total gs guest ppn None here = refused v.NoPage refl (λ at bytes. refl)
on_page_ends total gs guest ppn (Some (salt, slot)) here = stored_ends total gs guest ppn salt slot here

pub store_ends : (total : ℕ) (gs : List Guest) (guest ppn : ℕ) → Ends gs guest ppn (store_at total gs guest ppn)
store_ends total gs guest ppn = on_page_ends total gs guest ppn (page_at gs guest ppn) refl

-- the state of a machine by its parts
abbrev pub state : ℕ → List Guest → ℕ → State
state total gs entries = record { total = total; guests = gs; entries = entries }

-- a store is one step of the model
stepped : (hash : ℕ → List ℕ → ℕ) (total entries : ℕ) (gs : List Guest) (guest ppn at : ℕ) (bytes : List ℕ) (o : Outcome)
    → store_at total gs guest ppn at bytes ≡ o → step hash (state total gs entries) guest (Store (record { ppn = ppn; at = at; bytes = bytes }))
    ≡ record { state = state total o.guests (entries + 1); verdict = o.verdict }
unfolding step answered
stepped hash total entries gs guest ppn at bytes o e = ap (λ (x : Outcome). let s : Step = record { state = state total x.guests (entries + 1); verdict = x.verdict } in s) e

none_left : (l : List ℕ) → length l ≡ 0 → l ≡ []
none_left [] h = refl
none_left (x ∷ l) h = absurd (omega arith)

in_place_step : (total : ℕ) (gs : List Guest) (guest ppn salt at : ℕ) (old bytes : List ℕ) (hint : Option ℕ) → page_at gs guest ppn ≡ Some (salt, Private old hint) → store_at total gs guest ppn at bytes ≡ sets gs guest ppn (Private (written old at bytes) hint) v.Stored
unfolding stored
in_place_step total gs guest ppn salt at old bytes hint here = rw here refl

module _ (hash : ℕ → List ℕ → ℕ) (total guest ppn salt : ℕ) (hint : Option ℕ) where
  -- once a page is private, its stores are done in place
  pub in_place : (n entries at : ℕ) (gs : List Guest) (front old bytes : List ℕ) → length front ≡ at
      → page_at gs guest ppn ≡ Some (salt, Private (front ++ drop at old) hint) → length bytes ≡ n * 64
      → state_after hash (state total gs entries) (entries_of guest (stores_from n ppn at bytes))
      ≡ state total (with_slot gs guest ppn (Private (front ++ bytes ++ drop (at + length bytes) old) hint)) (entries + n)
  unfolding state_after stores_from
  in_place zero entries at gs front old bytes before here size =
      let none : bytes ≡ [] = none_left bytes (omega arith) in
      let same : front ++ bytes ++ drop (at + length bytes) old ≡ front ++ drop at old =
      ap (λ (x : List ℕ). front ++ x ++ drop (at + length x) old) none ∙ ap (λ (x : List ℕ). x ++ drop (at + 0) old) (append-nil front) ∙ ap (λ (n : ℕ). front ++ drop n old) (omega arith) in
      let stays : with_slot gs guest ppn (Private (front ++ bytes ++ drop (at + length bytes) old) hint) ≡ gs = ap (λ (x : List ℕ). with_slot gs guest ppn (Private x hint)) same ∙ unchanged gs guest ppn salt (Private (front ++ drop at old) hint) here in
      ap (λ (n : ℕ). state total gs n) (omega arith) ∙ ap (λ (x : List Guest). state total x (entries + 0)) (sym stays)
  in_place (suc n) entries at gs front old bytes before here size =
      let first : List ℕ = take 64 bytes in
      let rest : List ℕ = drop 64 bytes in
      let first_size : length first ≡ 64 = length-take-le 64 bytes (omega arith) in
      let rest_size : length rest ≡ n * 64 = omega (arith, length-drop 64 bytes) in
      let mid : List ℕ = written (front ++ drop at old) at first in
      let mid_is : mid ≡ front ++ first ++ drop (at + 64) old = written_behind front old first at before ∙ ap (λ (k : ℕ). front ++ first ++ drop (at + k) old) first_size in
      let next : List Guest = with_slot gs guest ppn (Private mid hint) in
      let one = stepped hash total entries gs guest ppn at first _ (in_place_step total gs guest ppn salt at (front ++ drop at old) first hint here) in
      let there : page_at next guest ppn ≡ Some (salt, Private (front ++ first ++ drop (at + 64) old) hint) =
      at_same gs guest ppn salt (Private (front ++ drop at old) hint) (Private mid hint) here ∙ ap (λ (x : List ℕ). let p : ℕ × Slot = (salt, Private x hint) in Some p) mid_is in
      let then = in_place n (entries + 1) (at + 64) next (front ++ first) old rest (omega (arith, length-append front first, first_size)) there rest_size in
      let whole : front ++ first ++ rest ++ drop (at + 64 + length rest) old ≡ front ++ bytes ++ drop (at + length bytes) old =
      ap (λ (x : List ℕ). x ++ drop (at + 64 + length rest) old) (append_assoc front first rest ∙ ap (λ (x : List ℕ). front ++ x) (take-append-drop 64 bytes)) ∙ ap (λ (k : ℕ). front ++ bytes ++ drop k old) (omega (arith, rest_size)) in
      ap (λ (s : Step). state_after hash s.state (entries_of guest (stores_from n ppn (at + 64) rest))) one
      ∙ then
      ∙ ap (λ (x : List Guest). state total x (entries + 1 + n)) (again gs guest ppn (Private mid hint) (Private (front ++ first ++ rest ++ drop (at + 64 + length rest) old) hint))
      ∙ ap (λ (x : List ℕ). state total (with_slot gs guest ppn (Private x hint)) (entries + 1 + n)) whole
      ∙ ap (λ (k : ℕ). state total (with_slot gs guest ppn (Private (front ++ bytes ++ drop (at + length bytes) old) hint)) k) (omega arith)

  in_place_verdicts : (n entries at : ℕ) (gs : List Guest) (old bytes : List ℕ) → page_at gs guest ppn ≡ Some (salt, Private old hint) → verdicts_of hash (state total gs entries) (entries_of guest (stores_from n ppn at bytes)) ≡ replicate n v.Stored
  unfolding verdicts_of stores_from
  in_place_verdicts zero entries at gs old bytes here = refl
  in_place_verdicts (suc n) entries at gs old bytes here =
      let first : List ℕ = take 64 bytes in
      let mid : List ℕ = written old at first in
      let one = stepped hash total entries gs guest ppn at first _ (in_place_step total gs guest ppn salt at old first hint here) in
      let then = in_place_verdicts n (entries + 1) (at + 64) (with_slot gs guest ppn (Private mid hint)) mid (drop 64 bytes) (at_same gs guest ppn salt (Private old hint) (Private mid hint) here) in
      ap (λ (s : Step). s.verdict ∷ verdicts_of hash s.state (entries_of guest (stores_from n ppn (at + 64) (drop 64 bytes)))) one
      ∙ ap (λ (x : List Verdict). v.Stored ∷ x) then

-- stores that are refused change nothing
module _ (hash : ℕ → List ℕ → ℕ) (total guest ppn : ℕ) (gs : List Guest) (verdict : Verdict) (is : (at : ℕ) (bytes : List ℕ) → store_at total gs guest ppn at bytes ≡ stays gs verdict) where
  all_refused : (n entries at : ℕ) (bytes : List ℕ) → state_after hash (state total gs entries) (entries_of guest (stores_from n ppn at bytes)) ≡ state total gs (entries + n)
  unfolding state_after stores_from
  all_refused zero entries at bytes = ap (λ (n : ℕ). state total gs n) (omega arith)
  all_refused (suc n) entries at bytes =
      let one = stepped hash total entries gs guest ppn at (take 64 bytes) _ (is at (take 64 bytes)) in
      ap (λ (s : Step). state_after hash s.state (entries_of guest (stores_from n ppn (at + 64) (drop 64 bytes)))) one
      ∙ all_refused n (entries + 1) (at + 64) (drop 64 bytes)
      ∙ ap (λ (k : ℕ). state total gs k) (omega arith)

  all_refused_verdicts : (n entries at : ℕ) (bytes : List ℕ) → verdicts_of hash (state total gs entries) (entries_of guest (stores_from n ppn at bytes)) ≡ replicate n verdict
  unfolding verdicts_of stores_from
  all_refused_verdicts zero entries at bytes = refl
  all_refused_verdicts (suc n) entries at bytes =
      let one = stepped hash total entries gs guest ppn at (take 64 bytes) _ (is at (take 64 bytes)) in
      ap (λ (s : Step). s.verdict ∷ verdicts_of hash s.state (entries_of guest (stores_from n ppn (at + 64) (drop 64 bytes)))) one
      ∙ ap (λ (x : List Verdict). verdict ∷ x) (all_refused_verdicts n (entries + 1) (at + 64) (drop 64 bytes))

-- stores of which the first is done
module _ (hash : ℕ → List ℕ → ℕ) (total guest ppn salt : ℕ) (gs : List Guest) (slot : Slot) (hint : Option ℕ) (verdict : Verdict)
    (here : page_at gs guest ppn ≡ Some (salt, slot)) (is : (at : ℕ) (bytes : List ℕ)
    → store_at total gs guest ppn at bytes ≡ sets gs guest ppn (Private (written (bytes_of slot) at bytes) hint) verdict) where
  all_done : (n entries : ℕ) (bytes : List ℕ) → length bytes ≡ suc n * 64 → state_after hash (state total gs entries) (entries_of guest (stores_from (suc n) ppn 0 bytes)) ≡ state total (with_slot gs guest ppn (Private (written (bytes_of slot) 0 bytes) hint)) (entries + suc n)
  unfolding state_after stores_from
  all_done n entries bytes size =
      let old : List ℕ = bytes_of slot in
      let first : List ℕ = take 64 bytes in
      let rest : List ℕ = drop 64 bytes in
      let first_size : length first ≡ 64 = length-take-le 64 bytes (omega arith) in
      let rest_size : length rest ≡ n * 64 = omega (arith, length-drop 64 bytes) in
      let mid : List ℕ = written old 0 first in
      let mid_is : mid ≡ first ++ drop 64 old = ap (λ (k : ℕ). first ++ drop (0 + k) old) first_size in
      let next : List Guest = with_slot gs guest ppn (Private mid hint) in
      let one = stepped hash total entries gs guest ppn 0 first _ (is 0 first) in
      let there : page_at next guest ppn ≡ Some (salt, Private (first ++ drop 64 old) hint) =
      at_same gs guest ppn salt slot (Private mid hint) here ∙ ap (λ (x : List ℕ). let p : ℕ × Slot = (salt, Private x hint) in Some p) mid_is in
      let then = in_place hash total guest ppn salt hint n (entries + 1) 64 next first old rest first_size there rest_size in
      let whole : first ++ rest ++ drop (64 + length rest) old ≡ written old 0 bytes =
      ap (λ (x : List ℕ). x ++ drop (64 + length rest) old) (take-append-drop 64 bytes) ∙ ap (λ (k : ℕ). bytes ++ drop k old) (omega (arith, rest_size)) in
      ap (λ (s : Step). state_after hash s.state (entries_of guest (stores_from n ppn 64 rest))) one
      ∙ then
      ∙ ap (λ (x : List Guest). state total x (entries + 1 + n)) (again gs guest ppn (Private mid hint) (Private (first ++ rest ++ drop (64 + length rest) old) hint))
      ∙ ap (λ (x : List ℕ). state total (with_slot gs guest ppn (Private x hint)) (entries + 1 + n)) whole
      ∙ ap (λ (k : ℕ). state total (with_slot gs guest ppn (Private (written old 0 bytes) hint)) k) (omega arith)

  all_done_verdicts : (n entries : ℕ) (bytes : List ℕ) → verdicts_of hash (state total gs entries) (entries_of guest (stores_from (suc n) ppn 0 bytes)) ≡ verdict ∷ replicate n v.Stored
  unfolding verdicts_of stores_from
  all_done_verdicts n entries bytes =
      let first : List ℕ = take 64 bytes in
      let mid : List ℕ = written (bytes_of slot) 0 first in
      let one = stepped hash total entries gs guest ppn 0 first _ (is 0 first) in
      let then = in_place_verdicts hash total guest ppn salt hint n (entries + 1) 64 (with_slot gs guest ppn (Private mid hint)) mid (drop 64 bytes) (at_same gs guest ppn salt slot (Private mid hint) here) in
      ap (λ (s : Step). s.verdict ∷ verdicts_of hash s.state (entries_of guest (stores_from n ppn 64 (drop 64 bytes)))) one
      ∙ ap (λ (x : List Verdict). verdict ∷ x) then

step_is : (a b : State) (x y : Verdict) → a ≡ b → x ≡ y → (let s : Step = record { state = a; verdict = x } in s) ≡ record { state = b; verdict = y }
step_is a b x y e f = cc

first_of : (x y : List Verdict) (verdict : Verdict) → x ≡ verdict ∷ y → slice_index_or x 0 v.NoPage ≡ verdict
first_of x y verdict e = ap (λ (l : List Verdict). slice_index_or l 0 v.NoPage) e

pub size_of : (gs : List Guest) (guest ppn salt : ℕ) (slot : Slot) (total entries : ℕ) → page_at gs guest ppn ≡ Some (salt, slot) → IsWhole (state total gs entries) guest ppn → length (bytes_of slot) ≡ 4096
size_of gs guest ppn salt slot total entries here whole =
    let text : text_at gs guest ppn ≡ Some (bytes_of slot) = ap (option_map (λ (x : ℕ × Slot). bytes_of x.1)) here in
    rw text at whole

pub stored_at_once : StoresAtOnce
unfolding page_stored
stored_at_once hash s guest ppn page size = pick (store_ends s.total s.guests guest ppn) where
  pick : Ends s.guests guest ppn (store_at s.total s.guests guest ppn) → page_stored hash s guest ppn page ≡ at_once s (store_at s.total s.guests guest ppn 0 page)
  pick (refused verdict undone is) =
      step_is _ _ _ _ (all_refused hash s.total guest ppn s.guests verdict is 64 s.entries 0 page) (first_of _ _ verdict (all_refused_verdicts hash s.total guest ppn s.guests verdict is 64 s.entries 0 page))
      ∙ ap (at_once s) (sym (is 0 page))
  pick (done salt slot hint verdict did here is) =
      step_is _ _ _ _ (all_done hash s.total guest ppn salt s.guests slot hint verdict here is 63 s.entries page (omega (arith, size))) (first_of _ _ verdict (all_done_verdicts hash s.total guest ppn salt s.guests slot hint verdict here is 63 s.entries page))
      ∙ ap (at_once s) (sym (is 0 page))

-- the verdicts of the stores of a page
abbrev all_verdicts : (ℕ → List ℕ → ℕ) → State → ℕ → ℕ → List ℕ → List Verdict
all_verdicts hash s guest ppn page = verdicts_of hash s (entries_of guest (stores_from 64 ppn 0 page))

-- the list is its first verdict and 63 of those that follow it
abbrev FollowsFirst : List Verdict → Type 0
FollowsFirst all = all ≡ slice_index_or all 0 v.NoPage ∷ replicate 63 (verdict_after (slice_index_or all 0 v.NoPage))

follows : (all : List Verdict) (verdict : Verdict) → all ≡ verdict ∷ replicate 63 (verdict_after verdict) → FollowsFirst all
follows all verdict e = e ∙ sym (ap (λ (x : Verdict). x ∷ replicate 63 (verdict_after x)) (first_of all _ verdict e))

then_is : (verdict next : Verdict) → verdict_after verdict ≡ next → verdict ∷ replicate 63 next ≡ verdict ∷ replicate 63 (verdict_after verdict)
then_is verdict next e = ap (λ (x : Verdict). verdict ∷ replicate 63 x) (sym e)

pub verdicts_follow : VerdictsFollow
unfolding page_stored
verdicts_follow hash s guest ppn page = pick (store_ends s.total s.guests guest ppn) where
  pick : Ends s.guests guest ppn (store_at s.total s.guests guest ppn) → FollowsFirst (all_verdicts hash s guest ppn page)
  pick (refused verdict undone is) =
      follows _ verdict (all_refused_verdicts hash s.total guest ppn s.guests verdict is 64 s.entries 0 page ∙ then_is verdict verdict (rw undone refl))
  pick (done salt slot hint verdict did here is) =
      follows _ verdict (all_done_verdicts hash s.total guest ppn salt s.guests slot hint verdict here is 63 s.entries page ∙ then_is verdict v.Stored (rw did refl))
