-- A page that was lent, and what comes later.
use Rattle.std.proofs.Common.{◌≡◌, ℕ, Bool, true, false, cond, ◌&&◌, List, [], ◌∷◌, length, Option, Some, None, refl, ap, sym, ◌∙◌, arith}
use Rattle.std.specs.Prelude.{nat_eq, All}
use Rattle.std.specs.Option.{option_map}
use Rattle.std.proofs.lemmas.Bool.{eq-eqb, false≢true}
use Rattle.std.proofs.lemmas.List.Elements.{All-head, All-tail}
use Rattle.page_model.specs.Pages.{Slot, Unmapped, Private, Shared, Guest, State, bytes_of, written, with_slot, page_at}
use Rattle.page_model.specs.Steps.{Outcome, Step, stored, released, on_page, answered, step, counted}
use Rattle.page_model.specs.Replay.{state_after}
use Rattle.page_model.specs.Stored.{is_done, text_at}
use Rattle.page_model.specs.declared.request.Entry.{Entry}
use Rattle.page_model.specs.declared.request.Request.{Request}
use Rattle.page_model.specs.declared.request.Request.TheVariants.{Propose, Store, Load, Release, Count, Close}
use Rattle.page_model.proofs.Texts.{changed, other}
use Rattle.page_model.proofs.Alone.{proposal_kept}
use Rattle.page_lending.specs.Lending.{page_stored, page_lent}
use Rattle.page_lending.specs.Laws.{IsWhole, at_once, writes_page, LeavesPage, LentIsTakenBack}
use Rattle.page_lending.proofs.Written.{all_written}
use Rattle.page_lending.proofs.Stores.{store_at, Ends, store_ends, stored_at_once, size_of}

-- the page still has its text
record Stays (gs : List Guest) (guest ppn : ℕ) (o : Outcome) : Type 0 where
  text : text_at o.guests guest ppn ≡ text_at gs guest ppn

choose : (gs : List Guest) (guest ppn : ℕ) (t : Bool) (x y : Outcome) → Stays gs guest ppn x → Stays gs guest ppn y → Stays gs guest ppn (cond t x y)
choose gs guest ppn true x y h k = h
choose gs guest ppn false x y h k = k

module _ (gs : List Guest) (guest ppn asker page : ℕ) (apart : asker ≡ guest → page ≡ ppn → ⊥) where
  elsewhere : (o : Outcome) (slot : Slot) → o.guests ≡ with_slot gs asker page slot → Stays gs guest ppn o
  elsewhere o slot e = record { text = ap (λ (x : List Guest). text_at x guest ppn) e ∙ other gs asker page slot guest ppn apart }

  stored_elsewhere : (total at : ℕ) (bytes : List ℕ) (salt : ℕ) (slot : Slot) → Stays gs guest ppn (stored total gs asker page at bytes salt slot)
  unfolding stored
  stored_elsewhere total at bytes salt Unmapped = choose gs guest ppn _ _ _ (record { text = refl }) (elsewhere _ _ refl)
  stored_elsewhere total at bytes salt (Private old hint) = elsewhere _ _ refl
  stored_elsewhere total at bytes salt (Shared old) = choose gs guest ppn _ _ _ (elsewhere _ _ refl) (choose gs guest ppn _ _ _ (record { text = refl }) (elsewhere _ _ refl))

  released_elsewhere : (salt : ℕ) (slot : Slot) → Stays gs guest ppn (released gs asker page salt slot)
  unfolding released
  released_elsewhere salt Unmapped = record { text = refl }
  released_elsewhere salt (Private old hint) = elsewhere _ _ refl
  released_elsewhere salt (Shared old) = elsewhere _ _ refl

on_page_stays : (gs : List Guest) (guest ppn : ℕ) (f : ℕ → Slot → Outcome) (o : Option (ℕ × Slot)) → ((salt : ℕ) (slot : Slot) → Stays gs guest ppn (f salt slot)) → Stays gs guest ppn (on_page gs f o)
on_page_stays gs guest ppn f None h = record { text = refl }
on_page_stays gs guest ppn f (Some (salt, slot)) h = h salt slot

-- what doesn't name the page by a store or a release names another guest or page
not_both : (a g b p : ℕ) → (nat_eq a g && nat_eq b p) ≡ false → a ≡ g → b ≡ p → ⊥
not_both a g b p h e f = false≢true (sym h ∙ rw (eq-eqb a g e, eq-eqb b p f) refl)

entry_stays : (hash : ℕ → List ℕ → ℕ) (s : State) (guest ppn asker : ℕ) (request : Request) → (nat_eq asker guest && writes_page ppn request) ≡ false → text_at (step hash s asker request).state.guests guest ppn ≡ text_at s.guests guest ppn
unfolding step answered
entry_stays hash s guest ppn asker (Propose page) apart = (proposal_kept hash (counted s) asker page).same guest ppn
entry_stays hash s guest ppn asker (Store r) apart =
    (on_page_stays s.guests guest ppn _ (page_at s.guests asker r.ppn) (λ salt slot. stored_elsewhere s.guests guest ppn asker r.ppn (not_both asker guest r.ppn ppn apart) s.total r.at r.bytes salt slot)).text
entry_stays hash s guest ppn asker (Load r) apart = (on_page_stays s.guests guest ppn _ (page_at s.guests asker r.ppn) (λ salt slot. record { text = refl })).text
entry_stays hash s guest ppn asker (Release page) apart =
    (on_page_stays s.guests guest ppn _ (page_at s.guests asker page) (λ salt slot. released_elsewhere s.guests guest ppn asker page (not_both asker guest page ppn apart) salt slot)).text
entry_stays hash s guest ppn asker Count apart = refl
entry_stays hash s guest ppn asker Close apart = refl

later_stays : (hash : ℕ → List ℕ → ℕ) (s : State) (guest ppn : ℕ) (later : List Entry) → All (LeavesPage guest ppn) later → text_at (state_after hash s later).guests guest ppn ≡ text_at s.guests guest ppn
unfolding state_after
later_stays hash s guest ppn [] h = refl
later_stays hash s guest ppn (e ∷ later) h = later_stays hash (step hash s e.guest e.request).state guest ppn later (All-tail (LeavesPage guest ppn) e later h) ∙ entry_stays hash s guest ppn e.guest e.request (All-head (LeavesPage guest ppn) e later h)

page_is_stored : (hash : ℕ → List ℕ → ℕ) (s : State) (guest ppn : ℕ) (page : List ℕ) → length page ≡ 4096 → IsWhole s guest ppn → is_done (page_stored hash s guest ppn page).verdict ≡ true → text_at (page_stored hash s guest ppn page).state.guests guest ppn ≡ Some page
page_is_stored hash s guest ppn page size whole done = ap (λ (x : Step). text_at x.state.guests guest ppn) once ∙ pick (store_ends s.total s.guests guest ppn) where
  once : page_stored hash s guest ppn page ≡ at_once s (store_at s.total s.guests guest ppn 0 page)
  once = stored_at_once hash s guest ppn page size

  pick : Ends s.guests guest ppn (store_at s.total s.guests guest ppn) → text_at (store_at s.total s.guests guest ppn 0 page).guests guest ppn ≡ Some page
  pick (Ends.refused verdict undone is) =
      absurd (false≢true (sym undone ∙ sym (ap (λ (o : Outcome). is_done o.verdict) (is 0 page)) ∙ sym (ap (λ (x : Step). is_done x.verdict) once) ∙ done))
  pick (Ends.done salt slot hint verdict did here is) =
      let old : length (bytes_of slot) ≡ 4096 = size_of s.guests guest ppn salt slot s.total s.entries here whole in
      ap (λ (o : Outcome). text_at o.guests guest ppn) (is 0 page)
      ∙ changed s.guests guest ppn (Private (written (bytes_of slot) 0 page) hint) (bytes_of slot) (ap (option_map (λ (x : ℕ × Slot). bytes_of x.1)) here)
      ∙ ap (λ (x : List ℕ). Some x) (all_written (bytes_of slot) page (omega (arith, old, size)))

page_is_lent : (hash : ℕ → List ℕ → ℕ) (s : State) (guest ppn : ℕ) (page : List ℕ) → length page ≡ 4096 → IsWhole s guest ppn → is_done (page_stored hash s guest ppn page).verdict ≡ true → text_at (page_lent hash s guest ppn page).state.guests guest ppn ≡ Some page
unfolding page_lent
page_is_lent hash s guest ppn page size whole done =
    let stored = page_stored hash s guest ppn page in
    let proposed : text_at (step hash stored.state guest (Propose ppn)).state.guests guest ppn ≡ text_at stored.state.guests guest ppn = entry_stays hash stored.state guest ppn guest (Propose ppn) (and_false (nat_eq guest guest)) in
    rw done (proposed ∙ page_is_stored hash s guest ppn page size whole done) where
      and_false : (t : Bool) → (t && false) ≡ false
      and_false true = refl
      and_false false = refl

pub lent_is_taken_back : LentIsTakenBack
lent_is_taken_back hash s guest ppn page later size whole done leaves =
    later_stays hash (page_lent hash s guest ppn page).state guest ppn later leaves ∙ page_is_lent hash s guest ppn page size whole done
