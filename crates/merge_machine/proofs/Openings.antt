-- A request keeps the machine that a state is of.
use Rattle.std.proofs.Common.{◌≡◌, ℕ, zero, suc, Bool, true, false, cond, List, [], ◌∷◌, map, Option, Some, None, refl, ap, ◌∙◌}
use Rattle.std.specs.Prelude.{slice_set}
use Rattle.std.proofs.lemmas.List.{length-set, length-replicate}
use Rattle.page_model.specs.Pages.{Slot, Unmapped, Private, Shared, Guest, State, bytes_of, page_at, with_slot}
use Rattle.page_model.specs.Steps.{Outcome, stored, weighed, by_hint, offered, matched, proposed, released, on_page, key_of, kept_hint, answered, step, counted}
use Rattle.page_model.specs.Replay.{Shape, empty_guest, empty_state}
use Rattle.page_model.specs.declared.request.Request.{Request}
use Rattle.page_model.specs.declared.request.Request.TheVariants.{Propose, Store, Load, Release, Count, Close}
use Rattle.merge_machine.specs.Machines.{shape_of, opening}

-- the guests' salts and numbers of pages
abbrev shapes_of : List Guest → List Shape
shapes_of gs = map shape_of gs

-- A change of one page keeps its guest's shape.
slot_keeps : (g : Guest) (b : ℕ) (new : Slot) → let after : Guest = record { salt = g.salt; slots = slice_set g.slots b new } in shape_of after ≡ shape_of g
slot_keeps g b new = ap (λ (n : ℕ). let x : Shape = record { salt = g.salt; pages = n } in x) (length-set g.slots b new)

-- A change of one page keeps the shapes of all guests.
set_keeps : (gs : List Guest) (a b : ℕ) (new : Slot) → shapes_of (with_slot gs a b new) ≡ shapes_of gs
set_keeps [] a b new = refl
set_keeps (g ∷ gs) zero b new = ap (λ (x : Shape). x ∷ shapes_of gs) (slot_keeps g b new)
set_keeps (g ∷ gs) (suc a) b new = ap (λ (rest : List Shape). shape_of g ∷ rest) (set_keeps gs a b new)

-- Two changes keep the shapes of all guests.
sets_keep : (gs : List Guest) (a b : ℕ) (x : Slot) (c d : ℕ) (y : Slot) → shapes_of (with_slot (with_slot gs a b x) c d y) ≡ shapes_of gs
sets_keep gs a b x c d y = set_keeps (with_slot gs a b x) c d y ∙ set_keeps gs a b x

-- an outcome keeps the shapes of all guests
record Keeps (gs : List Guest) (o : Outcome) : Type 0 where
  same : shapes_of o.guests ≡ shapes_of gs

-- An outcome that leaves the guests as they are keeps their shapes.
still : (gs : List Guest) (o : Outcome) → o.guests ≡ gs → Keeps gs o
still gs o e = record { same = ap shapes_of e }

-- An outcome that changes one page keeps the shapes.
one : (gs : List Guest) (a b : ℕ) (new : Slot) (o : Outcome) → o.guests ≡ with_slot gs a b new → Keeps gs o
one gs a b new o e = record { same = ap shapes_of e ∙ set_keeps gs a b new }

-- Of two outcomes that keep the shapes, the one that is chosen keeps them.
either : (gs : List Guest) (b : Bool) (x y : Outcome) → Keeps gs x → Keeps gs y → Keeps gs (cond b x y)
either gs true x y h k = h
either gs false x y h k = k

-- What is done at a page keeps the shapes where it keeps them at every page, and so does the answer that there is none.
on_page_keeps : (gs : List Guest) (f : ℕ → Slot → Outcome) (o : Option (ℕ × Slot)) → ((salt : ℕ) (slot : Slot) → Keeps gs (f salt slot)) → Keeps gs (on_page gs f o)
on_page_keeps gs f None h = still gs _ refl
on_page_keeps gs f (Some (salt, slot)) h = h salt slot

-- A store keeps the shapes.
stored_keeps : (total : ℕ) (gs : List Guest) (a b at : ℕ) (bytes : List ℕ) (salt : ℕ) (slot : Slot) → Keeps gs (stored total gs a b at bytes salt slot)
unfolding stored
stored_keeps total gs a b at bytes salt Unmapped = either gs _ _ _ (still gs _ refl) (one gs a b _ _ refl)
stored_keeps total gs a b at bytes salt (Private old hint) = one gs a b _ _ refl
stored_keeps total gs a b at bytes salt (Shared old) = either gs _ _ _ (one gs a b _ _ refl) (either gs _ _ _ (still gs _ refl) (one gs a b _ _ refl))

-- A release keeps the shapes.
released_keeps : (gs : List Guest) (a b salt : ℕ) (slot : Slot) → Keeps gs (released gs a b salt slot)
unfolding released
released_keeps gs a b salt Unmapped = still gs _ refl
released_keeps gs a b salt (Private old hint) = one gs a b _ _ refl
released_keeps gs a b salt (Shared old) = one gs a b _ _ refl

-- Weighing a page against the page of a hint keeps the shapes.
weighed_keeps : (hash : ℕ → List ℕ → ℕ) (gs : List Guest) (a b salt : ℕ) (bytes : List ℕ) (key c d other : ℕ) (others : List ℕ) → Keeps gs (weighed hash gs a b salt bytes key c d other others)
unfolding weighed
weighed_keeps hash gs a b salt bytes key c d other others =
    either gs _ _ _
    (either gs _ _ _ (record { same = sets_keep gs c d (Shared others) a b (Shared bytes) }) (still gs _ refl))
    (record { same = sets_keep gs c d (Private others None) a b (Private bytes (Some key)) })

-- Looking at the page that holds a hint keeps the shapes.
held_keeps : (hash : ℕ → List ℕ → ℕ) (gs : List Guest) (a b salt : ℕ) (bytes : List ℕ) (key : ℕ) (holder : Option (ℕ × ℕ)) → Keeps gs (by_hint hash gs a b salt bytes key holder)
unfolding by_hint
held_keeps hash gs a b salt bytes key None = one gs a b _ _ refl
held_keeps hash gs a b salt bytes key (Some (c, d)) =
    either gs _ _ _ (still gs _ refl)
    (on_page_keeps gs _ (page_at gs c d) (λ other slot. weighed_keeps hash gs a b salt bytes key c d other (bytes_of slot)))

-- Matching a page with the shared pages, and with a hint where none is like it, keeps the shapes.
matched_keeps : (hash : ℕ → List ℕ → ℕ) (gs : List Guest) (a b salt : ℕ) (bytes : List ℕ) (code : ℕ) → Keeps gs (matched hash gs a b salt bytes code)
unfolding matched offered
matched_keeps hash gs a b salt bytes code =
    either gs _ _ _ (one gs a b _ _ refl)
    (either gs _ _ _ (still gs _ refl) (held_keeps hash gs a b salt bytes (key_of code) _))

-- A proposal keeps the shapes.
proposed_keeps : (hash : ℕ → List ℕ → ℕ) (gs : List Guest) (a b salt : ℕ) (slot : Slot) → Keeps gs (proposed hash gs a b salt slot)
unfolding proposed
proposed_keeps hash gs a b salt Unmapped = still gs _ refl
proposed_keeps hash gs a b salt (Shared bytes) = still gs _ refl
proposed_keeps hash gs a b salt (Private bytes hint) =
    let left : Slot = Private bytes (kept_hint (key_of (hash salt bytes)) hint) in
    let rest = matched_keeps hash (with_slot gs a b left) a b salt bytes (hash salt bytes) in
    record { same = rest.same ∙ set_keeps gs a b left }

-- Every request keeps the shapes.
answered_keeps : (hash : ℕ → List ℕ → ℕ) (s : State) (guest : ℕ) (r : Request) → Keeps s.guests (answered hash s guest r)
unfolding answered
answered_keeps hash s guest (Propose ppn) = on_page_keeps s.guests _ (page_at s.guests guest ppn) (λ salt slot. proposed_keeps hash s.guests guest ppn salt slot)
answered_keeps hash s guest (Store r) = on_page_keeps s.guests _ (page_at s.guests guest r.ppn) (λ salt slot. stored_keeps s.total s.guests guest r.ppn r.at r.bytes salt slot)
answered_keeps hash s guest (Load r) = on_page_keeps s.guests _ (page_at s.guests guest r.ppn) (λ salt slot. still s.guests _ refl)
answered_keeps hash s guest (Release ppn) = on_page_keeps s.guests _ (page_at s.guests guest ppn) (λ salt slot. released_keeps s.guests guest ppn salt slot)
answered_keeps hash s guest Count = still s.guests _ refl
answered_keeps hash s guest Close = still s.guests _ refl

-- A request keeps the machine: the state after it has the same opening.
pub opening_after : (hash : ℕ → List ℕ → ℕ) (s : State) (guest : ℕ) (r : Request) → opening (step hash s guest r).state ≡ opening s
unfolding opening step
opening_after hash s guest r = ap (empty_state s.total) (answered_keeps hash (counted s) guest r).same

-- A guest with no page mapped has the shape that it was made of.
shape_back : (x : Shape) → shape_of (empty_guest x) ≡ x
shape_back x = ap (λ (n : ℕ). let y : Shape = record { salt = x.salt; pages = n } in y) (length-replicate x.pages Unmapped)

-- Guests with no page mapped have the shapes that they were made of.
shapes_back : (shapes : List Shape) → shapes_of (map empty_guest shapes) ≡ shapes
shapes_back [] = refl
shapes_back (x ∷ shapes) = ap (λ (y : Shape). y ∷ shapes_of (map empty_guest shapes)) (shape_back x) ∙ ap (λ (rest : List Shape). x ∷ rest) (shapes_back shapes)

-- A machine before its first request is its own opening.
pub opening_empty : (total : ℕ) (shapes : List Shape) → opening (empty_state total shapes) ≡ empty_state total shapes
unfolding opening
opening_empty total shapes = ap (empty_state total) (shapes_back shapes)

-- The opening of an opening is that opening.
pub opening_again : (s : State) → opening (opening s) ≡ opening s
unfolding opening
opening_again s = ap (empty_state s.total) (shapes_back (map shape_of s.guests))
