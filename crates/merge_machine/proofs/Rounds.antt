-- What a round does to the ends, one visit and one verdict after the other.
use Rattle.std.proofs.Common.{◌≡◌, ℕ, zero, suc, ◌+◌, ◌-◌, ◌<◌, ◌≤◌, true, false, List, [], ◌∷◌, ◌++◌, length, get_or, set, take, drop, All, refl, ap, sym, subst, ◌∙◌, arith, ◌⊎◌, inl, inr, ⊎_elim, append_assoc}
use Rattle.std.specs.Prelude.{nat_eq}
use Rattle.std.proofs.lemmas.Grind.{common_steps}
use Rattle.std.proofs.lemmas.Bool.{eqb-true, eqb-false, cases_Bool}
use Rattle.std.proofs.lemmas.List.{get_or-set_same, append-nil, length-append, length-set, length-map, take_more, drop_more}
use Rattle.std.proofs.Math.Seq.{get_or-append_seam, drop-append_seam, take-length}
use mathlib.Core.List.{IsPrefix}
use Rattle.page_model.specs.Pages.{State}
use Rattle.page_model.specs.Steps.{step}
use Rattle.page_model.specs.Replay.{state_after}
use Rattle.page_model.specs.Journal.{asked, answers}
use Rattle.page_model.specs.declared.request.Request.{Request}
use Rattle.page_model.specs.declared.request.Entry.{Entry}
use Rattle.page_model.specs.declared.verdict.Verdict.{Verdict}
use Rattle.page_model.proofs.Journals.{asked-append, answers-append, answers_hit, answers_miss, length-answers}
use Rattle.share_rings.specs.declared.merger_end.MergerEnd.{MergerEnd}
use Rattle.share_rings.specs.Closing.{is_close, has_close}
use Rattle.share_rings.specs.Ends.{end_taken, end_given, end_known, end_free, end_name, end_capacity, IsUnanswered}
use Rattle.merge_machine.specs.Ahead.{GaveOne}
use Rattle.merge_machine.specs.Kept.{Keeps}
use Rattle.merge_machine.specs.Machines.{opening}
use Rattle.merge_machine.specs.Rounds.{Passed, EachPassed, IsExhausted}
use Rattle.merge_machine.specs.Taking.{entries_of, Visits, TookSo, Took, AreExhausted, OnlyGave, Owes, EachOwes, ServedSo, AllAnswered}
use Rattle.merge_machine.proofs.Lists.{maps_at}
use Rattle.merge_machine.proofs.Ends.{state_after_push}
use Rattle.merge_machine.proofs.Openings.{opening_after}
use Rattle.std.specs.Prelude.{map}

-- a guest's requests among its own entries, and another's
own : (g : ℕ) (more : List Request) → asked g (entries_of g more) ≡ more
own g [] = refl
own g (r ∷ more) = let hit : nat_eq g g ≡ true = grind arith in rw hit (ap (λ rs. r ∷ rs) (own g more))

others : (g i : ℕ) (more : List Request) → nat_eq g i ≡ false → asked i (entries_of g more) ≡ []
others g i [] miss = refl
others g i (r ∷ more) miss = rw miss (others g i more miss)

members_of : (g n : ℕ) (more : List Request) → g < n → All (λ e. e.guest < n) (entries_of g more)
members_of g n [] l i d below = absurd (omega arith)
members_of g n (r ∷ more) l zero d below = l
members_of g n (r ∷ more) l (suc i) d below = members_of g n more l i d (omega arith)

all_append : {X : Type 0} (P : X → Type 0) (xs ys : List X) → All P xs → All P ys → All P (xs ++ ys)
all_append P [] ys p q i d l = q i d l
all_append P (x ∷ xs) ys p q zero d l = p zero d (omega arith)
all_append P (x ∷ xs) ys p q (suc i) d l = all_append P xs ys (λ j e m. p (suc j) e (omega arith)) q i d (omega arith)

prefix_on : {X : Type 0} (known middle last first second : List X) → IsPrefix known (first ++ middle) → IsPrefix middle (second ++ last) → IsPrefix known ((first ++ second) ++ last)
prefix_on known middle last first second h k = (
  h.0 ++ k.0,
  sym (append_assoc known h.0 k.0) ∙ (ap (λ z. z ++ k.0) h.1 ∙ (append_assoc first middle k.0 ∙ (ap (λ z. first ++ z) k.1 ∙ sym (append_assoc first second last)))),
)

module _ {A : Type 0} where
  here : (ends : List (MergerEnd A)) (g : ℕ) (e d : MergerEnd A) → e ≡ get_or ends g e → g < length ends → get_or ends g d ≡ e
  here ends g e d at l = sym (at ∙ maps_at (λ x. x) (λ x. x) ends ends g e d refl l)

  pub passed_none : (e : MergerEnd A) → Passed [] [] e e
  passed_none e = record { name = refl; capacity = refl; taken = sym (append-nil (end_taken e)); given = sym (append-nil (end_given e)); known = ([], append-nil (end_known e)); free = omega arith }

  pub passed_on : (rs rs' : List Request) (vs vs' : List Verdict) (a b c : MergerEnd A) → Passed rs vs a b → Passed rs' vs' b c → Passed (rs ++ rs') (vs ++ vs') a c
  passed_on rs rs' vs vs' a b c p q = record {
    name = q.name ∙ p.name;
    capacity = q.capacity ∙ p.capacity;
    taken = q.taken ∙ (ap (λ z. z ++ rs') p.taken ∙ append_assoc (end_taken a) rs rs');
    given = q.given ∙ (ap (λ z. z ++ vs') p.given ∙ append_assoc (end_given a) vs vs');
    known = prefix_on (end_known a) (end_known b) (end_known c) rs rs' p.known q.known;
    free = omega (arith, p.free, q.free, length-append vs vs');
  }

  -- nothing was taken yet
  pub took_none : (ends : List (MergerEnd A)) (journal : List Entry) (owed : List ℕ) → TookSo ends ends journal journal owed owed
  took_none ends journal owed = record {
    entries = [];
    grew = sym (append-nil journal);
    size = refl;
    members = λ i d l. absurd (omega (arith, l));
    each = λ i d l. passed_none (get_or ends i d);
    owed_is = λ i l. omega arith;
    slots = λ i d l low. low;
  }

  -- what one visit took
  pub visit_took : (ends : List (MergerEnd A)) (journal journal' : List Entry) (owed : List ℕ) (g n : ℕ) (e e' : MergerEnd A) → g < length ends → g < length owed → e ≡ get_or ends g e → Visits g (get_or owed g 0) n e e' journal journal'
      → TookSo ends (set ends g e') journal journal' owed (set owed g (get_or owed g 0 + n))
  visit_took ends journal journal' owed g n e e' l lo at v =
      let es = entries_of g v.more in
      let now : ℕ = get_or owed g 0 + n in
      record {
        entries = es;
        grew = v.grew;
        size = length-set ends g e';
        members = members_of g (length ends) v.more l;
        each = λ i d below. ⊎_elim
            (λ (hit : nat_eq g i ≡ true).
            let is : g ≡ i = eqb-true g i hit in
            let P : ℕ → Type 0 = λ j. Passed (asked j es) [] (get_or ends j d) (get_or (set ends g e') j d) in
            subst P is (rw (own g v.more, get_or-set_same ends g e' d l, here ends g e d at l) v.passed))
            (λ (miss : nat_eq g i ≡ false).
            let other : get_or (set ends g e') i d ≡ get_or ends i d = grind (arith, common_steps) in
            rw (others g i v.more miss, other) (passed_none (get_or ends i d)))
            (cases_Bool (nat_eq g i));
        owed_is = λ i below. ⊎_elim
            (λ (hit : nat_eq g i ≡ true).
            let is : g ≡ i = eqb-true g i hit in
            let P : ℕ → Type 0 = λ j. get_or (set owed g now) j 0 ≡ get_or owed j 0 + length (asked j es) in
            subst P is (rw (own g v.more, get_or-set_same owed g now 0 lo) (ap (λ m. get_or owed g 0 + m) v.is)))
            (λ (miss : nat_eq g i ≡ false).
            let other : get_or (set owed g now) i 0 ≡ get_or owed i 0 = grind (arith, common_steps) in
            rw (others g i v.more miss, other) (omega arith))
            (cases_Bool (nat_eq g i));
        slots = λ i d below. ⊎_elim
            (λ (hit : nat_eq g i ≡ true).
            let is : g ≡ i = eqb-true g i hit in
            let P : ℕ → Type 0 = λ j. get_or owed j 0 ≤ end_free (get_or ends j d) → get_or (set owed g now) j 0 ≤ end_free (get_or (set ends g e') j d) in
            subst P is (rw (get_or-set_same ends g e' d l, get_or-set_same owed g now 0 lo, here ends g e d at l) v.slot))
            (λ (miss : nat_eq g i ≡ false).
            let other : get_or (set ends g e') i d ≡ get_or ends i d = grind (arith, common_steps) in
            let debt : get_or (set owed g now) i 0 ≡ get_or owed i 0 = grind (arith, common_steps) in
            rw (other, debt) (λ low. low))
            (cases_Bool (nat_eq g i));
      }

  -- one taking after another
  pub took_on : (ends0 ends1 ends2 : List (MergerEnd A)) (journal0 journal1 journal2 : List Entry) (owed0 owed1 owed2 : List ℕ) → TookSo ends0 ends1 journal0 journal1 owed0 owed1 → TookSo ends1 ends2 journal1 journal2 owed1 owed2 → TookSo ends0 ends2 journal0 journal2 owed0 owed2
  took_on ends0 ends1 ends2 journal0 journal1 journal2 owed0 owed1 owed2 t u = record {
    entries = t.entries ++ u.entries;
    grew = u.grew ∙ (ap (λ z. z ++ u.entries) t.grew ∙ append_assoc journal0 t.entries u.entries);
    size = u.size ∙ t.size;
    members = all_append (λ x. x.guest < length ends0) t.entries u.entries t.members (subst (λ (n : ℕ). All (λ x. x.guest < n) u.entries) t.size u.members);
    each = λ i d l. subst (λ (rs : List Request). Passed rs [] (get_or ends0 i d) (get_or ends2 i d)) (sym (asked-append i t.entries u.entries))
        (passed_on (asked i t.entries) (asked i u.entries) [] [] (get_or ends0 i d) (get_or ends1 i d) (get_or ends2 i d) (t.each i d l) (u.each i d (omega (arith, l, t.size))));
    owed_is = λ i l. omega (arith, t.owed_is i l, u.owed_is i (omega (arith, l, t.size)), ap length (asked-append i t.entries u.entries), length-append (asked i t.entries) (asked i u.entries));
    slots = λ i d l low. u.slots i d (omega (arith, l, t.size)) (t.slots i d l low);
  }

  -- what a visit leaves to take at the guests that were visited before, and at its own
  pub exhausted_more : (ends : List (MergerEnd A)) (owed : List ℕ) (g : ℕ) (e e' : MergerEnd A) → AreExhausted g owed ends → g < length ends → g < length owed → IsExhausted (get_or owed g 0) e' → AreExhausted (g + 1) (set owed g (get_or owed g 0 + 0)) (set ends g e')
  exhausted_more ends owed g e e' before l lo left i d below = ⊎_elim
      (λ (hit : nat_eq g i ≡ true).
      let is : g ≡ i = eqb-true g i hit in
      let P : ℕ → Type 0 = λ j. IsExhausted (get_or (set owed g (get_or owed g 0 + 0)) j 0) (get_or (set ends g e') j d) in
      let none : get_or owed g 0 + 0 ≡ get_or owed g 0 = omega arith in
      subst P is (rw (get_or-set_same ends g e' d l, get_or-set_same owed g (get_or owed g 0 + 0) 0 lo, none) left))
      (λ (miss : nat_eq g i ≡ false).
      let other : get_or (set ends g e') i d ≡ get_or ends i d = grind (arith, common_steps) in
      let debt : get_or (set owed g (get_or owed g 0 + 0)) i 0 ≡ get_or owed i 0 = grind (arith, common_steps) in
      rw (other, debt) (before i d (omega (arith, below, eqb-false g i miss))))
      (cases_Bool (nat_eq g i))

  -- all are taken
  pub took_all : (most : ℕ) (ends0 ends : List (MergerEnd A)) (journal0 journal : List Entry) (owed0 owed : List ℕ) → (t : TookSo ends0 ends journal0 journal owed0 owed) → ((i : ℕ) → i < length ends0 → get_or owed0 i 0 ≡ 0) → length journal ≤ length journal0 + most
      → (length journal < length journal0 + most → AreExhausted (length ends0) owed ends) → Took most ends0 ends journal0 journal
  took_all most ends0 ends journal0 journal owed0 owed t none few left =
      let grew : length journal ≡ length journal0 + length t.entries = ap length t.grew ∙ length-append journal0 t.entries in
      record {
        entries = t.entries;
        grew = t.grew;
        count = omega (arith, few, grew);
        size = t.size;
        members = t.members;
        each = t.each;
        slots = λ i d l. omega (arith, t.slots i d l (omega (arith, none i l)), t.owed_is i l, none i l);
        exhausted = λ less i d l.
            let owes : get_or owed i 0 ≡ length (asked i t.entries) = omega (arith, t.owed_is i l, none i l) in
            subst (λ (n : ℕ). IsExhausted n (get_or ends i d)) owes (left (omega (arith, less, grew)) i d l);
      }

  -- the first of the requests that are owed is the first without a verdict
  pub unanswered : (r : Request) (rest : List Request) (e : MergerEnd A) → Owes (r ∷ rest) e → IsUnanswered e (is_close r)
  unanswered r rest e o = (
    omega (arith, ap length o.taken, length-append o.earlier (r ∷ rest), o.answered),
    λ d. rw (o.taken, o.answered) (ap is_close (sym (get_or-append_seam o.earlier r rest d))),
  )

  pub has_slot : (r : Request) (rest : List Request) (e : MergerEnd A) → Owes (r ∷ rest) e → 0 < end_free e
  has_slot r rest e o = omega (arith, o.slots)

  gave_passed : (v : Verdict) (e e' : MergerEnd A) → GaveOne v e e' → Passed [] (v ∷ []) e e'
  gave_passed v e e' w = record { name = w.name; capacity = w.capacity; taken = w.taken ∙ sym (append-nil (end_taken e)); given = w.given; known = ([], append-nil (end_known e) ∙ sym w.known); free = omega (arith, w.free) }

  gave_owes : (r : Request) (rest : List Request) (v : Verdict) (e e' : MergerEnd A) → Owes (r ∷ rest) e → GaveOne v e e' → Owes rest e'
  gave_owes r rest v e e' o w = record {
    earlier = o.earlier ++ r ∷ [];
    taken = w.taken ∙ (o.taken ∙ sym (append_assoc o.earlier (r ∷ []) rest));
    answered = omega (arith, ap length w.given, length-append (end_given e) (v ∷ []), length-append o.earlier (r ∷ []), o.answered);
    slots = omega (arith, o.slots, w.free);
  }

  -- nothing was answered yet
  pub served_none : (hash : ℕ → List ℕ → ℕ) (s : State) (entries : List Entry) (ends : List (MergerEnd A)) → ((i : ℕ) (d : MergerEnd A) → i < length ends → Owes (asked i entries) (get_or ends i d)) → ServedSo hash s entries 0 ends ends
  served_none hash s entries ends owes = record { size = refl; each = λ i d l. passed_none (get_or ends i d); only = λ i d l. (refl, omega arith); owes = owes }

  gave_only : (vs : List Verdict) (v : Verdict) (a b c : MergerEnd A) → OnlyGave vs a b → GaveOne v b c → OnlyGave (vs ++ v ∷ []) a c
  gave_only vs v a b c o w = (w.known ∙ o.0, omega (arith, o.1, w.free, length-append vs (v ∷ [])))

  -- the next one is owed by its guest's end
  pub owes_next : (hash : ℕ → List ℕ → ℕ) (s : State) (entries : List Entry) (n : ℕ) (ends0 ends : List (MergerEnd A)) (x : Entry) (e : MergerEnd A) → ServedSo hash s entries n ends0 ends → n < length entries → x ≡ get_or entries n x → x.guest < length ends → e ≡ get_or ends x.guest e
      → Owes (x.request ∷ asked x.guest (drop (n + 1) entries)) e
  owes_next hash s entries n ends0 ends x e t l xis g at =
      let rest : drop n entries ≡ x ∷ drop (n + 1) entries = drop_more entries n x l ∙ ap (λ y. y ∷ drop (n + 1) entries) (sym xis) in
      let hit : nat_eq x.guest x.guest ≡ true = grind arith in
      let mine : asked x.guest (x ∷ drop (n + 1) entries) ≡ x.request ∷ asked x.guest (drop (n + 1) entries) = rw hit refl in
      let P : MergerEnd A → Type 0 = λ y. Owes (asked x.guest (drop n entries)) y in
      let owes : Owes (asked x.guest (drop n entries)) e = subst P (here ends x.guest e e at g) (t.owes x.guest e (omega (arith, g, t.size))) in
      subst (λ (rs : List Request). Owes rs e) (ap (λ (es : List Entry). asked x.guest es) rest ∙ mine) owes

  -- one more was answered
  pub served_more : (hash : ℕ → List ℕ → ℕ) (s : State) (entries : List Entry) (n : ℕ) (ends0 ends : List (MergerEnd A)) (x : Entry) (e e' : MergerEnd A) → ServedSo hash s entries n ends0 ends → n < length entries → x ≡ get_or entries n x → x.guest < length ends
      → e ≡ get_or ends x.guest e → GaveOne (step hash (state_after hash s (take n entries)) x.guest x.request).verdict e e' → ServedSo hash s entries (n + 1) ends0 (set ends x.guest e')
  served_more hash s entries n ends0 ends x e e' t l xis g at w =
      let more : take (n + 1) entries ≡ take n entries ++ x ∷ [] = take_more entries n x l ∙ ap (λ y. take n entries ++ y ∷ []) (sym xis) in
      let rest : drop n entries ≡ x ∷ drop (n + 1) entries = drop_more entries n x l ∙ ap (λ y. y ∷ drop (n + 1) entries) (sym xis) in
      let g0 : x.guest < length ends0 = omega (arith, g, t.size) in
      let v = (step hash (state_after hash s (take n entries)) x.guest x.request).verdict in
      record {
        size = length-set ends x.guest e' ∙ t.size;
        each = λ i d below. ⊎_elim
            (λ (hit : nat_eq x.guest i ≡ true).
            let is : x.guest ≡ i = eqb-true x.guest i hit in
            let hit' : nat_eq x.guest x.guest ≡ true = grind arith in
            let P : ℕ → Type 0 = λ j. Passed [] (answers hash s j (take (n + 1) entries)) (get_or ends0 j d) (get_or (set ends x.guest e') j d) in
            let before : Passed [] (answers hash s x.guest (take n entries)) (get_or ends0 x.guest d) e = subst (λ y. Passed [] (answers hash s x.guest (take n entries)) (get_or ends0 x.guest d) y) (here ends x.guest e d at g) (t.each x.guest d g0) in
            subst P is (rw (more, answers_hit hash s x.guest (take n entries) x hit', get_or-set_same ends x.guest e' d g) (passed_on [] [] (answers hash s x.guest (take n entries)) (v ∷ []) (get_or ends0 x.guest d) e e' before (gave_passed v e e' w))))
            (λ (miss : nat_eq x.guest i ≡ false).
            let other : get_or (set ends x.guest e') i d ≡ get_or ends i d = grind (arith, common_steps) in
            rw (more, answers_miss hash s i (take n entries) x miss, other) (t.each i d below))
            (cases_Bool (nat_eq x.guest i));
        only = λ i d below. ⊎_elim
            (λ (hit : nat_eq x.guest i ≡ true).
            let is : x.guest ≡ i = eqb-true x.guest i hit in
            let hit' : nat_eq x.guest x.guest ≡ true = grind arith in
            let P : ℕ → Type 0 = λ j. OnlyGave (answers hash s j (take (n + 1) entries)) (get_or ends0 j d) (get_or (set ends x.guest e') j d) in
            let before : OnlyGave (answers hash s x.guest (take n entries)) (get_or ends0 x.guest d) e = subst (λ y. OnlyGave (answers hash s x.guest (take n entries)) (get_or ends0 x.guest d) y) (here ends x.guest e d at g) (t.only x.guest d g0) in
            subst P is (rw (more, answers_hit hash s x.guest (take n entries) x hit', get_or-set_same ends x.guest e' d g) (gave_only (answers hash s x.guest (take n entries)) v (get_or ends0 x.guest d) e e' before w)))
            (λ (miss : nat_eq x.guest i ≡ false).
            let other : get_or (set ends x.guest e') i d ≡ get_or ends i d = grind (arith, common_steps) in
            rw (more, answers_miss hash s i (take n entries) x miss, other) (t.only i d below))
            (cases_Bool (nat_eq x.guest i));
        owes = λ i d below. ⊎_elim
            (λ (hit : nat_eq x.guest i ≡ true).
            let is : x.guest ≡ i = eqb-true x.guest i hit in
            let P : ℕ → Type 0 = λ j. Owes (asked j (drop (n + 1) entries)) (get_or (set ends x.guest e') j d) in
            subst P is (rw (get_or-set_same ends x.guest e' d g) (gave_owes x.request (asked x.guest (drop (n + 1) entries)) v e e' (owes_next hash s entries n ends0 ends x e t l xis g at) w)))
            (λ (miss : nat_eq x.guest i ≡ false).
            let other : get_or (set ends x.guest e') i d ≡ get_or ends i d = grind (arith, common_steps) in
            let theirs : asked i (x ∷ drop (n + 1) entries) ≡ asked i (drop (n + 1) entries) = rw miss refl in
            rw other (subst (λ (rs : List Request). Owes rs (get_or ends i d)) (ap (λ (es : List Entry). asked i es) rest ∙ theirs) (t.owes i d below)))
            (cases_Bool (nat_eq x.guest i));
      }

-- the state after one more entry of a list
pub state_more : (hash : ℕ → List ℕ → ℕ) (s : State) (entries : List Entry) (n : ℕ) (x : Entry) → n < length entries → x ≡ get_or entries n x → (step hash (state_after hash s (take n entries)) x.guest x.request).state ≡ state_after hash s (take (n + 1) entries)
state_more hash s entries n x l xis =
    let more : take (n + 1) entries ≡ take n entries ++ x ∷ [] = take_more entries n x l ∙ ap (λ y. take n entries ++ y ∷ []) (sym xis) in
    sym (ap (λ (es : List Entry). state_after hash s es) more ∙ state_after_push hash s (take n entries) x.guest x.request)

pub state_none : (hash : ℕ → List ℕ → ℕ) (s : State) → s ≡ state_after hash s []
unfolding state_after
state_none hash s = refl

-- requests keep the machine
pub opening_stays : (hash : ℕ → List ℕ → ℕ) (s : State) (entries : List Entry) → opening (state_after hash s entries) ≡ opening s
unfolding state_after
opening_stays hash s [] = refl
opening_stays hash s (e ∷ es) = opening_stays hash (step hash s e.guest e.request).state es ∙ opening_after hash s e.guest e.request

-- what follows a journal in a longer one
pub follows : (journal0 journal entries : List Entry) → journal ≡ journal0 ++ entries → take (length journal - length journal0) (drop (length journal0) journal) ≡ entries
follows journal0 journal entries e =
    let rest : drop (length journal0) journal ≡ entries = ap (λ (js : List Entry). drop (length journal0) js) e ∙ drop-append_seam journal0 entries in
    let size : length journal - length journal0 ≡ length entries = omega (arith, ap length e, length-append journal0 entries) in
    rw (rest, size) (take-length entries)

module _ {A : Type 0} where
  -- nothing was taken, and the end may have looked at its rings
  pub visits_none : (guest owed : ℕ) (before after : MergerEnd A) (journal : List Entry) → end_name after ≡ end_name before → end_capacity after ≡ end_capacity before → end_taken after ≡ end_taken before → end_given after ≡ end_given before
      → IsPrefix (end_known before) (end_known after) → end_free before ≤ end_free after → owed < 4294967296 → IsExhausted owed after → Visits guest owed 0 before after journal journal
  visits_none guest owed before after journal name capacity taken given known free small left = record {
    more = [];
    is = refl;
    one = omega arith;
    passed = record { name = name; capacity = capacity; taken = taken ∙ sym (append-nil (end_taken before)); given = given ∙ sym (append-nil (end_given before)); known = known; free = omega (arith, free) };
    slot = λ low. omega (arith, low, free);
    small = omega (arith, small);
    grew = sym (append-nil journal);
    exhausted = λ none. left;
  }

  pub known_same : (before after : MergerEnd A) → end_known after ≡ end_known before → IsPrefix (end_known before) (end_known after)
  known_same before after e = ([], append-nil (end_known before) ∙ sym e)

  -- no request is seen: nothing is known, or `Close` was taken, and nothing changes
  pub known_none : (before after : MergerEnd A) → (has_close (end_taken before) ≡ true → after ≡ before) → (has_close (end_taken before) ≡ false → end_known before ≡ []) → IsPrefix (end_known before) (end_known after)
  known_none before after closed none = ⊎_elim
      (λ (b : has_close (end_taken before) ≡ true). known_same before after (ap (λ (x : MergerEnd A). end_known x) (closed b)))
      (λ (b : has_close (end_taken before) ≡ false). subst (λ (xs : List Request). IsPrefix xs (end_known after)) (sym (none b)) (end_known after, refl))
      (cases_Bool (has_close (end_taken before)))

  pub visits_grow : (guest owed count : ℕ) (before after : MergerEnd A) (journal journal' : List Entry) → Visits guest owed count before after journal journal' → length journal' ≡ length journal + count
  visits_grow guest owed count before after journal journal' v =
      omega (arith, ap length v.grew, length-append journal (entries_of guest v.more), length-map v.more (λ (r : Request). let e : Entry = record { guest = guest; request = r } in e), v.is)

  -- what was taken is owed, where nothing was owed before
  pub owes_taken : (entries : List Entry) (ends0 ends : List (MergerEnd A)) → AllAnswered ends0 → length ends ≡ length ends0 → ((i : ℕ) (d : MergerEnd A) → i < length ends0 → Passed (asked i entries) [] (get_or ends0 i d) (get_or ends i d))
      → ((i : ℕ) (d : MergerEnd A) → i < length ends0 → length (asked i entries) ≤ end_free (get_or ends i d)) → EachOwes entries ends
  owes_taken entries ends0 ends answered size each slots i d l =
      let l0 : i < length ends0 = omega (arith, l, size) in let p = each i d l0 in
      record {
        earlier = end_taken (get_or ends0 i d);
        taken = p.taken;
        answered = ap length (p.given ∙ append-nil (end_given (get_or ends0 i d))) ∙ answered i d l0;
        slots = slots i d l0;
      }

  -- what was taken and then answered
  pub taken_served : (hash : ℕ → List ℕ → ℕ) (s : State) (entries : List Entry) (ends0 ends1 ends2 : List (MergerEnd A)) → length ends1 ≡ length ends0 → ((i : ℕ) (d : MergerEnd A) → i < length ends0 → Passed (asked i entries) [] (get_or ends0 i d) (get_or ends1 i d))
      → ServedSo hash s entries (length entries) ends1 ends2 → EachPassed hash s entries entries ends0 ends2
  taken_served hash s entries ends0 ends1 ends2 size took served i d l =
      let l1 : i < length ends1 = omega (arith, l, size) in
      let all : Passed [] (answers hash s i entries) (get_or ends1 i d) (get_or ends2 i d) = subst (λ (es : List Entry). Passed [] (answers hash s i es) (get_or ends1 i d) (get_or ends2 i d)) (take-length entries) (served.each i d l1) in
      subst (λ (rs : List Request). Passed rs (answers hash s i entries) (get_or ends0 i d) (get_or ends2 i d)) (append-nil (asked i entries))
      (passed_on (asked i entries) [] [] (answers hash s i entries) (get_or ends0 i d) (get_or ends1 i d) (get_or ends2 i d) (took i d l) all)

  -- where no more could be taken, none can be once all is answered
  pub exhausted_served : (hash : ℕ → List ℕ → ℕ) (s : State) (entries : List Entry) (ends1 ends2 : List (MergerEnd A)) (i : ℕ) (d : MergerEnd A) → ServedSo hash s entries (length entries) ends1 ends2 → i < length ends1 → IsExhausted (length (asked i entries)) (get_or ends1 i d)
      → IsExhausted 0 (get_or ends2 i d)
  exhausted_served hash s entries ends1 ends2 i d served l left =
      let all : take (length entries) entries ≡ entries = take-length entries in
      let p = served.each i d l in let only = served.only i d l in
      let gave : length (answers hash s i (take (length entries) entries)) ≡ length (asked i entries) = ap (λ (es : List Entry). length (answers hash s i es)) all ∙ length-answers hash s i entries in
      let taken : end_taken (get_or ends2 i d) ≡ end_taken (get_or ends1 i d) = p.taken ∙ append-nil (end_taken (get_or ends1 i d)) in
      ⊎_elim
      (λ (closed : has_close (end_taken (get_or ends1 i d)) ≡ true). inl (ap has_close taken ∙ closed))
      (λ (rest : (end_free (get_or ends1 i d) ≤ length (asked i entries)) ⊎ (end_known (get_or ends1 i d) ≡ [])). inr (⊎_elim
      (λ (few : end_free (get_or ends1 i d) ≤ length (asked i entries)). inl (omega (arith, few, only.1, gave)))
      (λ (none : end_known (get_or ends1 i d) ≡ []). inr (only.0 ∙ none))
      rest))
      left

  pub all_answered : (hash : ℕ → List ℕ → ℕ) (machine : State) (ends : List (MergerEnd A)) (journal : List Entry) → Keeps hash machine ends journal → AllAnswered ends
  all_answered hash machine ends journal k i d l = let h = k i d l in ap length h.1 ∙ (length-answers hash machine i journal ∙ sym (ap length h.0))

  -- a journal is kept with the entries of a round
  pub keeps_more : (hash : ℕ → List ℕ → ℕ) (machine s : State) (ends0 ends : List (MergerEnd A)) (journal entries : List Entry) → Keeps hash machine ends0 journal → s ≡ state_after hash machine journal → length ends ≡ length ends0 → EachPassed hash s entries entries ends0 ends
      → Keeps hash machine ends (journal ++ entries)
  keeps_more hash machine s ends0 ends journal entries k replayed size each i d l =
      let l0 : i < length ends0 = omega (arith, l, size) in let p = each i d l0 in let h = k i d l0 in (
        p.taken ∙ (ap (λ (rs : List Request). rs ++ asked i entries) h.0 ∙ sym (asked-append i journal entries)),
        p.given ∙ (ap (λ (vs : List Verdict). vs ++ answers hash s i entries) h.1 ∙ (ap (λ (t : State). answers hash machine i journal ++ answers hash t i entries) replayed ∙ sym (answers-append hash machine i journal entries))),
      )

  -- lists of ends of the same rings, place by place
  pub same_names : (ends0 ends : List (MergerEnd A)) → length ends ≡ length ends0 → ((i : ℕ) (d : MergerEnd A) → i < length ends0 → end_name (get_or ends i d) ≡ end_name (get_or ends0 i d)) → map end_name ends ≡ map end_name ends0
  same_names [] [] size same = refl
  same_names [] (e ∷ es) size same = absurd (omega (arith, size))
  same_names (e ∷ es) [] size same = absurd (omega (arith, size))
  same_names (e ∷ es) (f ∷ fs) size same =
      let rest = same_names es fs (omega (arith, size)) (λ i d l. same (suc i) d (omega (arith, l))) in
      let first : end_name f ≡ end_name e = same zero e (omega arith) in ap (λ n. n ∷ map end_name fs) first ∙ ap (λ ns. end_name e ∷ ns) rest
