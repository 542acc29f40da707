-- Guests with one salt are answered as if those with other salts asked nothing.
use Rattle.std.proofs.Common.{◌≡◌, ℕ, zero, suc, ◌+◌, ◌≤◌, Bool, true, false, cond, List, [], ◌∷◌, map, replicate, refl, ap, sym, ◌∙◌, subst}
use Rattle.std.specs.Prelude.{slice_get, nat_eq}
use Rattle.std.specs.List.{list_any, Contains}
use Rattle.std.proofs.lemmas.Bool.{or_parts, ne_eqb, eq-eqb, false≢true}
use Rattle.std.proofs.lemmas.List.Elements.{Contains-append_left, Contains-append_right}
use Rattle.page_model.specs.Pages.{Slot, Unmapped, Guest, State, used}
use Rattle.page_model.specs.Steps.{step, counted}
use Rattle.page_model.specs.Replay.{Shape, empty_guest, empty_state, state_after, verdicts_of}
use Rattle.page_model.specs.Journal.{answers}
use Rattle.page_model.specs.Alone.{is_no_frame}
use Rattle.salt_laws.specs.Apart.{has_salt, of_salt, without_totals, key_proposed, keys_proposed, NoneRefused, AreUndisturbed, VerdictsAsApart, PagesAsApart}
use Rattle.page_model.specs.declared.request.Entry.{Entry}
use Rattle.page_model.specs.declared.request.Request.{Request}
use Rattle.page_model.specs.declared.verdict.Verdict.{Verdict}
use Rattle.page_model.proofs.InUse.{step_fits, frames_suffice}
use Rattle.salt_laws.proofs.Hiding.{emptied, shown, only, owns, only_guest}
use Rattle.salt_laws.proofs.Listed.{KeysListed, PagesListed, Separate, step_kept, new_listed}
use Rattle.salt_laws.proofs.Requests.{small, own_answered}

-- a request of a guest with this salt, with those of other salts there and without
record SameStep (hash : ℕ → List ℕ → ℕ) (salt : ℕ) (s : State) (n a : ℕ) (r : Request) : Type 0 where
  state : (step hash (small salt s n) a r).state ≡ small salt (step hash s a r).state (n + 1)
  verdict : without_totals (step hash (small salt s n) a r).verdict ≡ without_totals (step hash s a r).verdict

-- what holds before each request
record Ready (hash : ℕ → List ℕ → ℕ) (P : ℕ → ℕ → Type 0) (salt : ℕ) (shapes : List Shape) (s : State) : Type 0 where
  fits : used s.guests ≤ s.total
  pages : PagesListed hash P s.guests
  owners : (c : ℕ) → owns salt s.guests c ≡ has_salt salt shapes c

-- both replays from here on: of the entries es from s, and of the entries short from t
record BothEnd (hash : ℕ → List ℕ → ℕ) (salt : ℕ) (shapes : List Shape) (s t : State) (es short : List Entry) : Type 0 where
  verdicts : (guest : ℕ) → has_salt salt shapes guest ≡ true → map without_totals (answers hash s guest es) ≡ map without_totals (answers hash t guest short)
  guests : (state_after hash t short).guests ≡ only salt (state_after hash s es).guests
  owners : (c : ℕ) → owns salt (state_after hash s es).guests c ≡ has_salt salt shapes c

-- a verdict more, or none, in front of verdicts that are alike
verdict_listed : (b : Bool) (v w : Verdict) (vs ws : List Verdict) → without_totals w ≡ without_totals v → map without_totals vs ≡ map without_totals ws → map without_totals (cond b (v ∷ vs) vs) ≡ map without_totals (cond b (w ∷ ws) ws)
verdict_listed true v w vs ws e f = ap (λ x. x ∷ map without_totals vs) (sym e) ∙ ap (λ xs. without_totals w ∷ xs) f
verdict_listed false v w vs ws e f = f

-- an entry of a guest with this salt, which both replays have
own_entry : (hash : ℕ → List ℕ → ℕ) (salt : ℕ) (shapes : List Shape) (s : State) (n : ℕ) (e : Entry) (es short : List Entry) → SameStep hash salt s n e.guest e.request →
    let after = (step hash s e.guest e.request).state in
    BothEnd hash salt shapes after (small salt after (n + 1)) es short → BothEnd hash salt shapes s (small salt s n) (e ∷ es) (e ∷ short)
unfolding verdicts_of state_after
own_entry hash salt shapes s n e es short same rest = record {
  verdicts = λ guest h. verdict_listed (nat_eq e.guest guest) _ _ _ _ same.verdict (rest.verdicts guest h ∙ ap (λ u. map without_totals (answers hash u guest short)) (sym same.state));
  guests = ap (λ u. (state_after hash u short).guests) same.state ∙ rest.guests;
  owners = rest.owners;
}

-- a guest with this salt is none with another
other_guest : (salt : ℕ) (shapes : List Shape) (a b : ℕ) → has_salt salt shapes a ≡ false → has_salt salt shapes b ≡ true → nat_eq a b ≡ false
other_guest salt shapes a b f g = ne_eqb a b (λ e. false≢true (sym f ∙ ap (has_salt salt shapes) e ∙ g))

-- an entry of a guest with another salt, which the shorter one lacks
other_entry : (hash : ℕ → List ℕ → ℕ) (salt : ℕ) (shapes : List Shape) (s t : State) (e : Entry) (es short : List Entry) → has_salt salt shapes e.guest ≡ false →
    BothEnd hash salt shapes (step hash s e.guest e.request).state t es short → BothEnd hash salt shapes s t (e ∷ es) short
unfolding verdicts_of state_after
other_entry hash salt shapes s t e es short is rest = record {
  verdicts = λ guest h. rw (other_guest salt shapes e.guest guest is h) (rest.verdicts guest h);
  guests = rest.guests;
  owners = rest.owners;
}

-- what is known of the verdict of the first entry, and of those behind it
first_free : (b : Bool) (v : Verdict) (vs : List Verdict) → b ≡ true → list_any is_no_frame (cond b (v ∷ vs) vs) ≡ false → is_no_frame v ≡ false
first_free true v vs e h = (or_parts (is_no_frame v) (list_any is_no_frame vs) h).0
first_free false v vs e h = absurd (false≢true e)

later_free : (b : Bool) (v : Verdict) (vs : List Verdict) → list_any is_no_frame (cond b (v ∷ vs) vs) ≡ false → list_any is_no_frame vs ≡ false
later_free true v vs h = (or_parts (is_no_frame v) (list_any is_no_frame vs) h).1
later_free false v vs h = h

none_first : (hash : ℕ → List ℕ → ℕ) (salt : ℕ) (shapes : List Shape) (s : State) (e : Entry) (es : List Entry) → NoneRefused hash s salt shapes (e ∷ es) → has_salt salt shapes e.guest ≡ true → is_no_frame (step hash s e.guest e.request).verdict ≡ false
unfolding verdicts_of
none_first hash salt shapes s e es free is = first_free (nat_eq e.guest e.guest) _ _ (eq-eqb e.guest e.guest refl) (free e.guest is)

none_later : (hash : ℕ → List ℕ → ℕ) (salt : ℕ) (shapes : List Shape) (s : State) (e : Entry) (es : List Entry) → NoneRefused hash s salt shapes (e ∷ es) → NoneRefused hash (step hash s e.guest e.request).state salt shapes es
unfolding verdicts_of
none_later hash salt shapes s e es free guest h = later_free (nat_eq e.guest guest) _ _ (free guest h)

module _ (hash : ℕ → List ℕ → ℕ) (P : ℕ → ℕ → Type 0) (salt : ℕ) (apart : Separate P salt) where
  own_step : (s : State) (n a : ℕ) (r : Request) → owns salt s.guests a ≡ true → used s.guests ≤ s.total → PagesListed hash P s.guests → KeysListed P (key_proposed hash s.guests a r) →
      is_no_frame (step hash s a r).verdict ≡ false → SameStep hash salt s n a r
  unfolding step
  own_step s n a r h fits all listed free =
      let same = own_answered hash P salt apart (counted s) (n + 1) a r h fits all listed free in
      record { state = ap (λ (gs : List Guest). let t : State = record { total = s.total; guests = gs; entries = n + 1 } in t) same.guests; verdict = same.verdict }

  -- a request of a guest with another salt
  other_step : (s : State) (n a : ℕ) (r : Request) → owns salt s.guests a ≡ false → PagesListed hash P s.guests → KeysListed P (key_proposed hash s.guests a r) →
      small salt (step hash s a r).state n ≡ small salt s n
  unfolding step
  other_step s n a r h all listed =
      ap (λ (gs : List Guest). let t : State = record { total = s.total; guests = gs; entries = n } in t) ((step_kept hash P salt apart s a r all listed).hidden h)

  next_ready : (shapes : List Shape) (s : State) (a : ℕ) (r : Request) → KeysListed P (key_proposed hash s.guests a r) → Ready hash P salt shapes s → Ready hash P salt shapes (step hash s a r).state
  unfolding step
  next_ready shapes s a r listed ready =
      let kept = step_kept hash P salt apart s a r ready.pages listed in
      record { fits = step_fits hash s.total s a r refl ready.fits; pages = kept.listed; owners = λ c. kept.owners c ∙ ready.owners c }

  entry : (shapes : List Shape) (s : State) (n : ℕ) (e : Entry) (es short : List Entry) (b : Bool) → has_salt salt shapes e.guest ≡ b → Ready hash P salt shapes s → KeysListed P (key_proposed hash s.guests e.guest e.request) →
      NoneRefused hash s salt shapes (e ∷ es) →
      let after = (step hash s e.guest e.request).state in
      ((m : ℕ) → BothEnd hash salt shapes after (small salt after m) es short) → BothEnd hash salt shapes s (small salt s n) (e ∷ es) (cond b (e ∷ short) short)
  entry shapes s n e es short true is ready listed free rest =
      own_entry hash salt shapes s n e es short (own_step s n e.guest e.request (ready.owners e.guest ∙ is) ready.fits ready.pages listed (none_first hash salt shapes s e es free is)) (rest (n + 1))
  entry shapes s n e es short false is ready listed free rest =
      let after = (step hash s e.guest e.request).state in
      other_entry hash salt shapes s (small salt s n) e es short is
      (subst (λ t. BothEnd hash salt shapes after t es short) (other_step s n e.guest e.request (ready.owners e.guest ∙ is) ready.pages listed) (rest n))

  run : (shapes : List Shape) (s : State) (n : ℕ) (es : List Entry) → Ready hash P salt shapes s → KeysListed P (keys_proposed hash s es) → NoneRefused hash s salt shapes es →
      BothEnd hash salt shapes s (small salt s n) es (of_salt salt shapes es)
  unfolding state_after verdicts_of keys_proposed
  run shapes s n [] ready listed free = record { verdicts = λ guest h. refl; guests = refl; owners = ready.owners }
  run shapes s n (e ∷ es) ready listed free =
      let after = (step hash s e.guest e.request).state in
      let now = key_proposed hash s.guests e.guest e.request in
      let first : KeysListed P now = record { each = λ t k c. listed.each t k (Contains-append_left now (keys_proposed hash after es) (t, k) c) } in
      let later : KeysListed P (keys_proposed hash after es) = record { each = λ t k c. listed.each t k (Contains-append_right now (keys_proposed hash after es) (t, k) c) } in
      entry shapes s n e es (of_salt salt shapes es) (has_salt salt shapes e.guest) refl ready first free
      (λ m. run shapes after m es (next_ready shapes s e.guest e.request first ready) later (none_later hash salt shapes s e es free))

-- a new machine
emptied_new : (n : ℕ) → emptied (replicate n Unmapped) ≡ replicate n Unmapped
emptied_new zero = refl
emptied_new (suc n) = ap (λ slots. Unmapped ∷ slots) (emptied_new n)

shown_new : (t : Bool) (shape : Shape) → shown t (empty_guest shape) ≡ empty_guest shape
shown_new true shape = refl
shown_new false shape = ap (λ (slots : List Slot). let g : Guest = record { salt = shape.salt; slots = slots } in g) (emptied_new shape.pages)

only_new : (salt : ℕ) (shapes : List Shape) → only salt (map empty_guest shapes) ≡ map empty_guest shapes
only_new salt [] = refl
only_new salt (shape ∷ shapes) =
    ap (λ g. g ∷ only salt (map empty_guest shapes)) (shown_new (nat_eq shape.salt salt) shape) ∙ ap (λ gs. empty_guest shape ∷ gs) (only_new salt shapes)

owns_new : (salt : ℕ) (shapes : List Shape) (c : ℕ) → owns salt (map empty_guest shapes) c ≡ has_salt salt shapes c
owns_new salt [] c = refl
owns_new salt (shape ∷ shapes) zero = refl
owns_new salt (shape ∷ shapes) (suc c) = owns_new salt shapes c

new_ready : (hash : ℕ → List ℕ → ℕ) (P : ℕ → ℕ → Type 0) (salt total : ℕ) (shapes : List Shape) → Ready hash P salt shapes (empty_state total shapes)
unfolding state_after
new_ready hash P salt total shapes = record { fits = frames_suffice [] hash total shapes; pages = new_listed hash P shapes; owners = owns_new salt shapes }

small_new : (salt total : ℕ) (shapes : List Shape) → small salt (empty_state total shapes) 0 ≡ empty_state total shapes
small_new salt total shapes = ap (λ (gs : List Guest). let t : State = record { total = total; guests = gs; entries = 0 } in t) (only_new salt shapes)

both : (hash : ℕ → List ℕ → ℕ) (salt total : ℕ) (shapes : List Shape) (es : List Entry) →
    let s = empty_state total shapes in
    AreUndisturbed hash s salt shapes es → BothEnd hash salt shapes s s es (of_salt salt shapes es)
both hash salt total shapes es (free, apart) =
    let s = empty_state total shapes in
    let P : ℕ → ℕ → Type 0 = λ t k. Contains (keys_proposed hash s es) (t, k) in
    let separate : Separate P salt = record { each = apart } in
    let listed : KeysListed P (keys_proposed hash s es) = record { each = λ t k c. c } in
    subst (λ t. BothEnd hash salt shapes s t es (of_salt salt shapes es)) (small_new salt total shapes) (run hash P salt separate shapes s 0 es (new_ready hash P salt total shapes) listed free)

pub verdicts_as_apart : (es : List Entry) (salt : ℕ) → VerdictsAsApart es salt
verdicts_as_apart es salt hash total shapes undisturbed = (both hash salt total shapes es undisturbed).verdicts

pub pages_as_apart : (es : List Entry) (salt : ℕ) → PagesAsApart es salt
pages_as_apart es salt hash total shapes undisturbed guest h =
    let end = both hash salt total shapes es undisturbed in
    let whole = (state_after hash (empty_state total shapes) es).guests in
    sym (ap (λ gs. slice_get gs guest) end.guests ∙ only_guest salt whole guest (end.owners guest ∙ h))
