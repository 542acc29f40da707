-- A `Close`, and no other request, is answered by `Closed`.
use Rattle.std.specs.Prelude.{◌==◌, ◌&&◌}
use Rattle.std.specs.Str.{bytes_eq}
use Rattle.std.proofs.Common.{◌≡◌, ℕ, Bool, true, false, cond, List, [], ◌∷◌, Option, Some, None, length, refl, arith}
use Rattle.std.specs.List.{list_any}
use Rattle.page_model.specs.Pages.{Slot, Unmapped, Private, Shared, Guest, State, blank, written, bytes_of, has_hint, is_shared_as, is_shared_under, any_page, find_page, peers, used, page_at, with_slot}
use Rattle.page_model.specs.Steps.{Outcome, stays, sets, stored, weighed, by_hint, offered, matched, proposed, released, on_page, key_of, kept_hint, answered, step, counted}
use Rattle.page_model.specs.declared.request.Request.{Request}
use Rattle.page_model.specs.declared.request.Request.TheVariants.{Propose, Store, Load, Release, Count, Close}
use Rattle.page_model.specs.declared.verdict.Verdict.TheVariants as v
use Rattle.share_rings.specs.Closing.{is_close, is_closed, passes_beside}

-- the verdict isn't `Closed`
record Open (o : Outcome) : Type 0 where
  is : is_closed o.verdict ≡ false

ends : (o : Outcome) → is_closed o.verdict ≡ false → Open o
ends o e = record { is = e }

either : (b : Bool) (x y : Outcome) → Open x → Open y → Open (cond b x y)
either true x y h k = h
either false x y h k = k

on_page_open : (gs : List Guest) (f : ℕ → Slot → Outcome) (o : Option (ℕ × Slot)) → ((salt : ℕ) (slot : Slot) → Open (f salt slot)) → Open (on_page gs f o)
on_page_open gs f None h = ends _ refl
on_page_open gs f (Some (salt, slot)) h = h salt slot

stored_open : (total : ℕ) (gs : List Guest) (a b at : ℕ) (bytes : List ℕ) (salt : ℕ) (slot : Slot) → Open (stored total gs a b at bytes salt slot)
unfolding stored
stored_open total gs a b at bytes salt Unmapped =
    let mapped = sets gs a b (Private (written blank at bytes) None) v.Mapped in
    either (used gs == total) (stays gs v.NoFrame) mapped (ends (stays gs v.NoFrame) refl) (ends mapped refl)
stored_open total gs a b at bytes salt (Private old hint) = ends _ refl
stored_open total gs a b at bytes salt (Shared old) =
    let taken = sets gs a b (Private (written old at bytes) None) v.Taken in
    let copied = sets gs a b (Private (written old at bytes) None) v.Copied in
    either (peers salt old gs == 1) taken (cond (used gs == total) (stays gs v.NoFrame) copied) (ends taken refl)
    (either (used gs == total) (stays gs v.NoFrame) copied (ends (stays gs v.NoFrame) refl) (ends copied refl))

released_open : (gs : List Guest) (a b salt : ℕ) (slot : Slot) → Open (released gs a b salt slot)
unfolding released
released_open gs a b salt Unmapped = ends _ refl
released_open gs a b salt (Private old hint) = ends _ refl
released_open gs a b salt (Shared old) = ends _ refl

weighed_open : (hash : ℕ → List ℕ → ℕ) (gs : List Guest) (a b salt : ℕ) (bytes : List ℕ) (key c d other : ℕ) (others : List ℕ) → Open (weighed hash gs a b salt bytes key c d other others)
unfolding weighed
weighed_open hash gs a b salt bytes key c d other others =
    let paired = sets (with_slot gs c d (Shared others)) a b (Shared bytes) v.Paired in
    let replaced = sets (with_slot gs c d (Private others None)) a b (Private bytes (Some key)) v.Replaced in
    let equal = other == salt && bytes_eq others bytes in
    either (key_of (hash other others) == key) (cond equal paired (stays gs v.Ineligible)) replaced
    (either equal paired (stays gs v.Ineligible) (ends paired refl) (ends (stays gs v.Ineligible) refl)) (ends replaced refl)

held_open : (hash : ℕ → List ℕ → ℕ) (gs : List Guest) (a b salt : ℕ) (bytes : List ℕ) (key : ℕ) (holder : Option (ℕ × ℕ)) → Open (by_hint hash gs a b salt bytes key holder)
unfolding by_hint
held_open hash gs a b salt bytes key None = ends _ refl
held_open hash gs a b salt bytes key (Some (c, d)) =
    let weigh : ℕ → Slot → Outcome = λ other slot. weighed hash gs a b salt bytes key c d other (bytes_of slot) in
    either (c == a && d == b) (stays gs v.Kept) (on_page gs weigh (page_at gs c d)) (ends (stays gs v.Kept) refl)
    (on_page_open gs weigh (page_at gs c d) (λ other slot. weighed_open hash gs a b salt bytes key c d other (bytes_of slot)))

matched_open : (hash : ℕ → List ℕ → ℕ) (gs : List Guest) (a b salt : ℕ) (bytes : List ℕ) (code : ℕ) → Open (matched hash gs a b salt bytes code)
unfolding matched offered
matched_open hash gs a b salt bytes code =
    let joined = with_slot gs a b (Shared bytes) in
    let joins = stays joined (v.Joined (peers salt bytes joined)) in
    let rest = by_hint hash gs a b salt bytes (key_of code) (find_page (has_hint (key_of code)) gs) in
    either (any_page (is_shared_as salt bytes) gs) joins (cond (any_page (is_shared_under hash code) gs) (stays gs v.Ineligible) rest) (ends joins refl)
    (either (any_page (is_shared_under hash code) gs) (stays gs v.Ineligible) rest (ends (stays gs v.Ineligible) refl) (held_open hash gs a b salt bytes (key_of code) (find_page (has_hint (key_of code)) gs)))

proposed_open : (hash : ℕ → List ℕ → ℕ) (gs : List Guest) (a b salt : ℕ) (slot : Slot) → Open (proposed hash gs a b salt slot)
unfolding proposed
proposed_open hash gs a b salt Unmapped = ends _ refl
proposed_open hash gs a b salt (Shared bytes) = ends _ refl
proposed_open hash gs a b salt (Private bytes hint) = matched_open hash (with_slot gs a b (Private bytes (kept_hint (key_of (hash salt bytes)) hint))) a b salt bytes (hash salt bytes)

answered_alike : (hash : ℕ → List ℕ → ℕ) (s : State) (guest : ℕ) (r : Request) → is_closed (answered hash s guest r).verdict ≡ is_close r
unfolding answered
answered_alike hash s guest (Propose ppn) = (on_page_open s.guests _ (page_at s.guests guest ppn) (λ salt slot. proposed_open hash s.guests guest ppn salt slot)).is
answered_alike hash s guest (Store r) = (on_page_open s.guests _ (page_at s.guests guest r.ppn) (λ salt slot. stored_open s.total s.guests guest r.ppn r.at r.bytes salt slot)).is
answered_alike hash s guest (Load r) = (on_page_open s.guests _ (page_at s.guests guest r.ppn) (λ salt slot. ends _ refl)).is
answered_alike hash s guest (Release ppn) = (on_page_open s.guests _ (page_at s.guests guest ppn) (λ salt slot. released_open s.guests guest ppn salt slot)).is
answered_alike hash s guest Count = refl
answered_alike hash s guest Close = refl

-- a request's verdict is `Closed` just where the request is `Close`
pub closes_alike : (hash : ℕ → List ℕ → ℕ) (s : State) (guest : ℕ) (r : Request) → is_closed (step hash s guest r).verdict ≡ is_close r
unfolding step
closes_alike hash s guest r = answered_alike hash (counted s) guest r

-- two lists of one length that pass alike: where none of one passes, none of the other does
pub none_beside : {X Y : Type 0} (p : X → Bool) (q : Y → Bool) (xs : List X) (ys : List Y) → passes_beside p q xs ys ≡ true → length xs ≡ length ys → list_any p xs ≡ false → list_any q ys ≡ false
none_beside p q [] [] h l n = refl
none_beside p q [] (y ∷ ys) h l n = absurd (omega arith)
none_beside p q (x ∷ xs) [] h l n = absurd (omega arith)
none_beside p q (x ∷ xs) (y ∷ ys) h l n = let k : length xs ≡ length ys = omega arith in grind (arith, none_beside p q xs ys)
