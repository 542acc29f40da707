-- What a guest reads is what it reads by itself.
use Rattle.std.proofs.Common.{◌≡◌, ℕ, zero, suc, ◌≤◌, Bool, true, false, cond, List, [], ◌∷◌, map, replicate, take, drop, Option, Some, None, refl, ap, sym, ◌∙◌, subst, ◌⊎◌, inl, inr, arith}
use Rattle.std.specs.Prelude.{slice_get, count_by, nat_eq}
use Rattle.std.specs.List.{list_any}
use Rattle.std.specs.Option.{option_map}
use Rattle.std.proofs.lemmas.Bool.{cases_eq, eqb-true, eqb-false, ne_eqb, eq-eqb, or_parts}
use Rattle.std.proofs.lemmas.List.Sums.{sum_by-cons}
use Rattle.page_model.specs.Parts.{LoadParts}
use Rattle.page_model.specs.Pages.{Slot, Unmapped, Private, Shared, Guest, State, blank, bytes_of, written, with_slot, page_at}
use Rattle.page_model.specs.Steps.{Outcome, stored, released, loaded, on_page, answered, step, counted}
use Rattle.page_model.specs.Replay.{Shape, empty_guest, empty_state, state_after, verdicts_of}
use Rattle.page_model.specs.Stored.{text_at, byte_in}
use Rattle.page_model.specs.Journal.{asked, answers}
use Rattle.page_model.specs.Alone.{is_no_frame, is_load, load_verdicts, lone, by_itself, LoadsAsAlone, PagesAsAlone}
use Rattle.page_model.specs.Proposals.{KeepsBytes, KeepsLoads}
use Rattle.page_model.specs.declared.request.Entry.{Entry}
use Rattle.page_model.specs.declared.request.Request.{Request}
use Rattle.page_model.specs.declared.request.Request.TheVariants.{Propose, Store, Load, Release, Count, Close}
use Rattle.page_model.specs.declared.verdict.Verdict.{Verdict}
use Rattle.page_model.specs.declared.verdict.Verdict.TheVariants as v
use Rattle.page_model.proofs.Texts.{Keeps, changed, other, at_page_keeps, proposed_keeps, still}
use Rattle.page_model.proofs.Room.{pages_in, step_pages, store_refuses_none}

-- a page's text after a change by f of page b
abbrev put : ℕ → (List ℕ → List ℕ) → ℕ → Option (List ℕ) → Option (List ℕ)
put b f p text = cond (nat_eq b p) (option_map f text) text

-- what a request of the page's own guest does to what the page reads as, where it isn't refused a frame
abbrev own : Request → ℕ → Option (List ℕ) → Option (List ℕ)
own (Propose ppn) p text = text
own (Store r) p text = put r.ppn (λ old. written old r.at r.bytes) p text
own (Load r) p text = text
own (Release ppn) p text = put ppn (λ old. blank) p text
own Count p text = text
own Close p text = text

-- a change of a page of guest a, unless it was refused a frame
record Changes (gs : List Guest) (a b : ℕ) (f : List ℕ → List ℕ) (o : Outcome) : Type 0 where
  texts : is_no_frame o.verdict ≡ false → (p : ℕ) → text_at o.guests a p ≡ put b f p (text_at gs a p)
  others : (g p : ℕ) → (a ≡ g → ⊥) → text_at o.guests g p ≡ text_at gs g p

either : (gs : List Guest) (a b : ℕ) (f : List ℕ → List ℕ) (t : Bool) (x y : Outcome) → Changes gs a b f x → Changes gs a b f y → Changes gs a b f (cond t x y)
either gs a b f true x y h h' = h
either gs a b f false x y h h' = h'

refused : (gs : List Guest) (a b : ℕ) (f : List ℕ → List ℕ) (o : Outcome) → o.guests ≡ gs → is_no_frame o.verdict ≡ true → Changes gs a b f o
refused gs a b f o e not_free = record { texts = λ h. absurd (cc (h, not_free)); others = λ g p ne. ap (λ n. text_at n g p) e }

put_here : (b : ℕ) (f : List ℕ → List ℕ) (p : ℕ) (text : Option (List ℕ)) → b ≡ p → put b f p text ≡ option_map f text
put_here b f p text e = let t : nat_eq b p ≡ true = eq-eqb b p e in rw t refl

put_other : (b : ℕ) (f : List ℕ → List ℕ) (p : ℕ) (text : Option (List ℕ)) → (b ≡ p → ⊥) → put b f p text ≡ text
put_other b f p text ne = let t : nat_eq b p ≡ false = ne_eqb b p ne in rw t refl

wrote : (gs : List Guest) (a b : ℕ) (f : List ℕ → List ℕ) (o : Outcome) (old : List ℕ) (y : Slot) → text_at gs a b ≡ Some old → o.guests ≡ with_slot gs a b y → bytes_of y ≡ f old → Changes gs a b f o
wrote gs a b f o old y was now is = record {
  texts = λ h p. pick p (cases_eq b p);
  others = λ g p ne. ap (λ n. text_at n g p) now ∙ other gs a b y g p (λ e _. ne e);
} where
  pick : (p : ℕ) → ((b ≡ p) ⊎ (b ≡ p → ⊥)) → text_at o.guests a p ≡ put b f p (text_at gs a p)
  pick p (inl e) =
      let here : text_at o.guests a b ≡ option_map f (text_at gs a b) =
      ap (λ n. text_at n a b) now ∙ changed gs a b y old was ∙ ap (λ (x : List ℕ). Some x) is ∙ sym (ap (option_map f) was) in
      subst (λ q. text_at o.guests a q ≡ option_map f (text_at gs a q)) e here ∙ sym (put_here b f p (text_at gs a p) e)
  pick p (inr ne) = ap (λ n. text_at n a p) now ∙ other gs a b y a p (λ _ e. ne e) ∙ sym (put_other b f p (text_at gs a p) ne)

-- a change that there is nothing to do for
idle : (gs : List Guest) (a b : ℕ) (f : List ℕ → List ℕ) (o : Outcome) → option_map f (text_at gs a b) ≡ text_at gs a b → o.guests ≡ gs → Changes gs a b f o
idle gs a b f o none e = record {
  texts = λ h p. ap (λ n. text_at n a p) e ∙ pick p (cases_eq b p);
  others = λ g p ne. ap (λ n. text_at n g p) e;
} where
  pick : (p : ℕ) → ((b ≡ p) ⊎ (b ≡ p → ⊥)) → text_at gs a p ≡ put b f p (text_at gs a p)
  pick p (inl q) = sym (put_here b f p (text_at gs a p) q ∙ subst (λ n. option_map f (text_at gs a n) ≡ text_at gs a n) q none)
  pick p (inr ne) = sym (put_other b f p (text_at gs a p) ne)

stored_changes : (total : ℕ) (gs : List Guest) (a b at : ℕ) (new : List ℕ) (salt : ℕ) (slot : Slot) → text_at gs a b ≡ Some (bytes_of slot) → Changes gs a b (λ old. written old at new) (stored total gs a b at new salt slot)
unfolding stored
stored_changes total gs a b at new salt Unmapped h =
    either gs a b _ _ _ _ (refused gs a b _ _ refl refl) (wrote gs a b _ _ blank (Private (written blank at new) None) h refl refl)
stored_changes total gs a b at new salt (Private old hint) h = wrote gs a b _ _ old (Private (written old at new) hint) h refl refl
stored_changes total gs a b at new salt (Shared old) h =
    either gs a b _ _ _ _ (wrote gs a b _ _ old (Private (written old at new) None) h refl refl)
    (either gs a b _ _ _ _ (refused gs a b _ _ refl refl) (wrote gs a b _ _ old (Private (written old at new) None) h refl refl))

released_changes : (gs : List Guest) (a b salt : ℕ) (slot : Slot) → text_at gs a b ≡ Some (bytes_of slot) → Changes gs a b (λ old. blank) (released gs a b salt slot)
unfolding released
released_changes gs a b salt Unmapped h = idle gs a b _ _ (ap (option_map (λ (old : List ℕ). blank)) h ∙ sym h) refl
released_changes gs a b salt (Private old hint) h = wrote gs a b _ _ old Unmapped h refl refl
released_changes gs a b salt (Shared old) h = wrote gs a b _ _ old Unmapped h refl refl

on_page_changes : (gs : List Guest) (a b : ℕ) (f : List ℕ → List ℕ) (k : ℕ → Slot → Outcome) (o : Option (ℕ × Slot)) → page_at gs a b ≡ o → ((salt : ℕ) (slot : Slot) → text_at gs a b ≡ Some (bytes_of slot) → Changes gs a b f (k salt slot)) → Changes gs a b f (on_page gs k o)
on_page_changes gs a b f k None e h =
    let none : text_at gs a b ≡ None = ap (option_map (λ (x : ℕ × Slot). bytes_of x.1)) e in
    idle gs a b f _ (ap (option_map f) none ∙ sym none) refl
on_page_changes gs a b f k (Some (salt, slot)) e h = h salt slot (ap (option_map (λ (x : ℕ × Slot). bytes_of x.1)) e)

-- the verdict of a load, by what the page reads as
abbrev load_verdict : ℕ → ℕ → Option (List ℕ) → Verdict
load_verdict at len None = v.NoPage
load_verdict at len (Some bytes) = v.Bytes (record { items = take len (drop at bytes) })

on_page_load : (gs : List Guest) (at len : ℕ) (o : Option (ℕ × Slot)) → (on_page gs (λ _ slot. loaded gs at len slot) o).verdict ≡ load_verdict at len (option_map (λ (x : ℕ × Slot). bytes_of x.1) o)
on_page_load gs at len None = refl
on_page_load gs at len (Some (salt, slot)) = refl

-- what a request does to the texts of its own guest's pages, and of others'
record Served (before : State) (a : ℕ) (r : Request) (o : Outcome) : Type 0 where
  texts : is_no_frame o.verdict ≡ false → (p : ℕ) → text_at o.guests a p ≡ own r p (text_at before.guests a p)
  others : (g p : ℕ) → (a ≡ g → ⊥) → text_at o.guests g p ≡ text_at before.guests g p

answered_served : (hash : ℕ → List ℕ → ℕ) (s : State) (a : ℕ) (r : Request) → Served s a r (answered hash s a r)
unfolding answered
answered_served hash s a (Propose page) =
    let kept : Keeps s.guests (answered hash s a (Propose page)) = at_page_keeps s.guests a page _ (λ salt slot h. proposed_keeps hash s.guests a page salt slot h) in
    record { texts = λ h p. kept.same a p; others = λ g p ne. kept.same g p }
answered_served hash s a (Store r) =
    let done : Changes s.guests a r.ppn (λ old. written old r.at r.bytes) (answered hash s a (Store r)) = on_page_changes s.guests a r.ppn _ _ (page_at s.guests a r.ppn) refl (λ salt slot h. stored_changes s.total s.guests a r.ppn r.at r.bytes salt slot h) in
    record { texts = done.texts; others = done.others }
answered_served hash s a (Load r) =
    let kept : Keeps s.guests (answered hash s a (Load r)) = at_page_keeps s.guests a r.ppn _ (λ salt slot h. still s.guests _ refl) in
    record { texts = λ h p. kept.same a p; others = λ g p ne. kept.same g p }
answered_served hash s a (Release page) =
    let done : Changes s.guests a page (λ old. blank) (answered hash s a (Release page)) = on_page_changes s.guests a page _ _ (page_at s.guests a page) refl (λ salt slot h. released_changes s.guests a page salt slot h) in
    record { texts = done.texts; others = done.others }
answered_served hash s a Count = record { texts = λ h p. refl; others = λ g p ne. refl }
answered_served hash s a Close = record { texts = λ h p. refl; others = λ g p ne. refl }

-- the verdict of a load follows from what the page reads as
step_load : (hash : ℕ → List ℕ → ℕ) (s : State) (a : ℕ) (r : LoadParts) → (step hash s a (Load r)).verdict ≡ load_verdict r.at r.len (text_at s.guests a r.ppn)
unfolding step answered
step_load hash s a r = on_page_load s.guests r.at r.len (page_at s.guests a r.ppn)

step_texts : (hash : ℕ → List ℕ → ℕ) (s : State) (a : ℕ) (r : Request) → is_no_frame (step hash s a r).verdict ≡ false → (p : ℕ) → text_at (step hash s a r).state.guests a p ≡ own r p (text_at s.guests a p)
unfolding step
step_texts hash s a r h p = (answered_served hash (counted s) a r).texts h p

step_others : (hash : ℕ → List ℕ → ℕ) (s : State) (a : ℕ) (r : Request) (g p : ℕ) → (a ≡ g → ⊥) → text_at (step hash s a r).state.guests g p ≡ text_at s.guests g p
unfolding step
step_others hash s a r g p ne = (answered_served hash (counted s) a r).others g p ne

step_total : (hash : ℕ → List ℕ → ℕ) (s : State) (a : ℕ) (r : Request) → (step hash s a r).state.total ≡ s.total
unfolding step
step_total hash s a r = refl

slot_released : (gs : List Guest) (a b salt : ℕ) (slot : Slot) → is_no_frame (released gs a b salt slot).verdict ≡ false
unfolding released
slot_released gs a b salt Unmapped = refl
slot_released gs a b salt (Private old hint) = refl
slot_released gs a b salt (Shared old) = refl

page_released : (gs : List Guest) (a b : ℕ) (o : Option (ℕ × Slot)) → is_no_frame (on_page gs (λ salt slot. released gs a b salt slot) o).verdict ≡ false
page_released gs a b None = refl
page_released gs a b (Some (salt, slot)) = slot_released gs a b salt slot

-- in a machine with a frame for each page no request is refused one
answered_fits : (hash : ℕ → List ℕ → ℕ) (s : State) (a : ℕ) (r : Request) → pages_in s.guests ≤ s.total → (p : ℕ) → text_at (answered hash s a r).guests a p ≡ own r p (text_at s.guests a p)
unfolding answered
answered_fits hash s a (Propose page) fits p =
    let kept : Keeps s.guests (answered hash s a (Propose page)) = at_page_keeps s.guests a page _ (λ salt slot h. proposed_keeps hash s.guests a page salt slot h) in
    kept.same a p
answered_fits hash s a (Store r) fits p = (answered_served hash s a (Store r)).texts (store_refuses_none s.total s.guests a r.ppn r.at r.bytes fits) p
answered_fits hash s a (Load r) fits p =
    let kept : Keeps s.guests (answered hash s a (Load r)) = at_page_keeps s.guests a r.ppn _ (λ salt slot h. still s.guests _ refl) in
    kept.same a p
answered_fits hash s a (Release page) fits p =
    let done : Changes s.guests a page (λ old. blank) (answered hash s a (Release page)) = on_page_changes s.guests a page _ _ (page_at s.guests a page) refl (λ salt slot h. released_changes s.guests a page salt slot h) in
    done.texts (page_released s.guests a page (page_at s.guests a page)) p
answered_fits hash s a Count fits p = refl
answered_fits hash s a Close fits p = refl

step_fits : (hash : ℕ → List ℕ → ℕ) (s : State) (a : ℕ) (r : Request) → pages_in s.guests ≤ s.total → (p : ℕ) → text_at (step hash s a r).state.guests a p ≡ own r p (text_at s.guests a p)
unfolding step
step_fits hash s a r fits p = answered_fits hash (counted s) a r fits p

-- guest i of the one machine and guest 0 of the other read alike
record Alike (s : State) (i : ℕ) (t : State) : Type 0 where
  texts : (p : ℕ) → text_at s.guests i p ≡ text_at t.guests 0 p
  fits : pages_in t.guests ≤ t.total

-- a request of guest i in both
both : (hash : ℕ → List ℕ → ℕ) (s : State) (i : ℕ) (t : State) (r : Request) → Alike s i t → is_no_frame (step hash s i r).verdict ≡ false → Alike (step hash s i r).state i (step hash t 0 r).state
both hash s i t r alike h = record {
  texts = λ p. step_texts hash s i r h p ∙ ap (own r p) (alike.texts p) ∙ sym (step_fits hash t 0 r alike.fits p);
  fits = let fits = alike.fits in omega (arith, step_pages hash t 0 r, step_total hash t 0 r);
}

-- a request of another guest in the one
one : (hash : ℕ → List ℕ → ℕ) (s : State) (i : ℕ) (t : State) (a : ℕ) (r : Request) → Alike s i t → (a ≡ i → ⊥) → Alike (step hash s a r).state i t
one hash s i t a r alike ne = record { texts = λ p. step_others hash s a r i p ne ∙ alike.texts p; fits = alike.fits }

-- the loads get the same verdicts
load_alike : (hash : ℕ → List ℕ → ℕ) (s : State) (i : ℕ) (t : State) (r : Request) (vs ws : List Verdict) → Alike s i t → vs ≡ ws → cond (is_load r) ((step hash s i r).verdict ∷ vs) vs ≡ cond (is_load r) ((step hash t 0 r).verdict ∷ ws) ws
load_alike hash s i t (Propose page) vs ws alike e = e
load_alike hash s i t (Store r) vs ws alike e = e
load_alike hash s i t (Load r) vs ws alike e =
    let same : (step hash s i (Load r)).verdict ≡ (step hash t 0 (Load r)).verdict = step_load hash s i r ∙ ap (load_verdict r.at r.len) (alike.texts r.ppn) ∙ sym (step_load hash t 0 r) in
    cc
load_alike hash s i t (Release page) vs ws alike e = e
load_alike hash s i t Count vs ws alike e = e
load_alike hash s i t Close vs ws alike e = e

-- guest i's requests are rs and its verdicts vs: the loads' verdicts, and what the pages read as in the end
record Ends (hash : ℕ → List ℕ → ℕ) (last : State) (i : ℕ) (t : State) (rs : List Request) (vs : List Verdict) : Type 0 where
  loads : load_verdicts rs vs ≡ load_verdicts rs (verdicts_of hash t (by_itself rs))
  texts : (p : ℕ) → text_at last.guests i p ≡ text_at (state_after hash t (by_itself rs)).guests 0 p

-- an entry of guest i, and one of another guest
own_entry : (hash : ℕ → List ℕ → ℕ) (s : State) (i : ℕ) (t : State) (r : Request) (last : State) (rs : List Request) (vs : List Verdict) → Alike s i t → Ends hash last i (step hash t 0 r).state rs vs → Ends hash last i t (r ∷ rs) ((step hash s i r).verdict ∷ vs)
unfolding state_after verdicts_of
own_entry hash s i t r last rs vs alike rest = record {
  loads = load_alike hash s i t r (load_verdicts rs vs) (load_verdicts rs (verdicts_of hash (step hash t 0 r).state (by_itself rs))) alike rest.loads;
  texts = rest.texts;
}

own_case : (hash : ℕ → List ℕ → ℕ) (s : State) (i a : ℕ) (t : State) (r : Request) (last : State → State) (rs : List Request) (vs : State → List Verdict) → a ≡ i → Alike s i t → is_no_frame (step hash s a r).verdict ≡ false →
    (Alike (step hash s a r).state i (step hash t 0 r).state → Ends hash (last (step hash s a r).state) i (step hash t 0 r).state rs (vs (step hash s a r).state)) →
    Ends hash (last (step hash s a r).state) i t (r ∷ rs) ((step hash s a r).verdict ∷ vs (step hash s a r).state)
own_case hash s i a t r last rs vs e alike h =
    let P : ℕ → Type 0 = λ n. is_no_frame (step hash s n r).verdict ≡ false
    → (Alike (step hash s n r).state i (step hash t 0 r).state
    → Ends hash (last (step hash s n r).state) i (step hash t 0 r).state rs (vs (step hash s n r).state))
    → Ends hash (last (step hash s n r).state) i t (r ∷ rs) ((step hash s n r).verdict ∷ vs (step hash s n r).state) in
    let here : P i = λ g k. own_entry hash s i t r (last (step hash s i r).state) rs (vs (step hash s i r).state) alike (k (both hash s i t r alike g)) in
    subst P (sym e) here h

-- an entry, where all that follow are alike
entry_alike : (hash : ℕ → List ℕ → ℕ) (s : State) (i : ℕ) (t : State) (e : Entry) (es : List Entry) (b : Bool) → nat_eq e.guest i ≡ b → Alike s i t →
    let after = (step hash s e.guest e.request).state in
    ((u : State) → Alike after i u → list_any is_no_frame (answers hash after i es) ≡ false → Ends hash (state_after hash after es) i u (asked i es) (answers hash after i es)) →
    list_any is_no_frame (cond b ((step hash s e.guest e.request).verdict ∷ answers hash after i es) (answers hash after i es)) ≡ false →
    Ends hash (state_after hash after es) i t (cond b (e.request ∷ asked i es) (asked i es)) (cond b ((step hash s e.guest e.request).verdict ∷ answers hash after i es) (answers hash after i es))
entry_alike hash s i t e es true same alike rest h =
    let after = (step hash s e.guest e.request).state in
    let parts = or_parts (is_no_frame (step hash s e.guest e.request).verdict) (list_any is_no_frame (answers hash after i es)) h in
    own_case hash s i e.guest t e.request (λ x. state_after hash x es) (asked i es) (λ x. answers hash x i es) (eqb-true e.guest i same) alike parts.0
    (λ k. rest (step hash t 0 e.request).state k parts.1)
entry_alike hash s i t e es false differs alike rest h =
    let after = (step hash s e.guest e.request).state in
    rest t (one hash s i t e.guest e.request alike (eqb-false e.guest i differs)) h

run_alike : (hash : ℕ → List ℕ → ℕ) (s : State) (i : ℕ) (t : State) (es : List Entry) → Alike s i t → list_any is_no_frame (answers hash s i es) ≡ false → Ends hash (state_after hash s es) i t (asked i es) (answers hash s i es)
unfolding state_after verdicts_of
run_alike hash s i t [] alike h = record { loads = refl; texts = alike.texts }
run_alike hash s i t (e ∷ es) alike h =
    let after = (step hash s e.guest e.request).state in
    entry_alike hash s i t e es (nat_eq e.guest i) refl alike (λ u k g. run_alike hash after i u es k g) h

-- a new machine, and the guest's own
start_texts : (shapes : List Shape) (shape : Shape) (i p : ℕ) → slice_get shapes i ≡ Some shape → text_at (map empty_guest shapes) i p ≡ text_at (empty_guest shape ∷ []) 0 p
start_texts [] shape i p h = cc
start_texts (x ∷ shapes) shape zero p h = let same : x ≡ shape = cc in ap (λ (y : Shape). text_at (empty_guest y ∷ []) 0 p) same
start_texts (x ∷ shapes) shape (suc i) p h = start_texts shapes shape i p h

new_pages : (n : ℕ) → count_by (λ (x : Slot). true) (replicate n Unmapped) ≡ n
new_pages zero = refl
new_pages (suc n) = omega (arith, new_pages n, sum_by-cons (λ (x : Slot). cond true 1 0) Unmapped (replicate n Unmapped))

start : (total : ℕ) (shapes : List Shape) (shape : Shape) (i : ℕ) → slice_get shapes i ≡ Some shape → Alike (empty_state total shapes) i (lone shape)
start total shapes shape i h = record {
  texts = λ p. start_texts shapes shape i p h;
  fits = omega (arith, new_pages shape.pages, sum_by-cons (λ (x : Guest). count_by (λ (y : Slot). true) x.slots) (empty_guest shape) []);
}

pub loads_as_alone : (es : List Entry) (i : ℕ) → LoadsAsAlone es i
loads_as_alone es i hash total shapes shape here h = (run_alike hash (empty_state total shapes) i (lone shape) es (start total shapes shape i here) h).loads

pub pages_as_alone : (es : List Entry) (i : ℕ) → PagesAsAlone es i
pages_as_alone es i hash total shapes shape here h p k =
    ap (byte_in k) ((run_alike hash (empty_state total shapes) i (lone shape) es (start total shapes shape i here) h).texts p)

-- a proposal changes no text
pub proposal_kept : (hash : ℕ → List ℕ → ℕ) (s : State) (a page : ℕ) → Keeps s.guests (answered hash s a (Propose page))
unfolding answered
proposal_kept hash s a page = at_page_keeps s.guests a page _ (λ salt slot h. proposed_keeps hash s.guests a page salt slot h)

proposal_texts : (hash : ℕ → List ℕ → ℕ) (s : State) (a page g p : ℕ) → text_at (step hash s a (Propose page)).state.guests g p ≡ text_at s.guests g p
unfolding step
proposal_texts hash s a page g p = (proposal_kept hash (counted s) a page).same g p

pub keeps_bytes : (a page : ℕ) → KeepsBytes a page
keeps_bytes a page hash s g p k = ap (byte_in k) (proposal_texts hash s a page g p)

pub keeps_loads : (a page : ℕ) → KeepsLoads a page
keeps_loads a page hash s g r =
    step_load hash (step hash s a (Propose page)).state g r ∙ ap (load_verdict r.at r.len) (proposal_texts hash s a page g r.ppn) ∙ sym (step_load hash s g r)
