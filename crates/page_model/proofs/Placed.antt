-- What stands at a guest's places in a journal.
use Rattle.std.proofs.Common.{◌≡◌, ℕ, zero, suc, ◌+◌, ◌<◌, Bool, true, false, cond, List, [], ◌∷◌, ◌++◌, length, map, Some, refl, ap, sym, ◌∙◌, arith, length-append}
use Rattle.std.specs.Prelude.{nat_eq, slice_get}
use Rattle.std.proofs.lemmas.Bool.{eqb-true, eq-eqb}
use Rattle.std.proofs.Math.Seq.{append_snoc}
use Rattle.page_model.specs.Replay.{empty_state, verdicts_of}
use Rattle.page_model.specs.Journal.{places_from, asked, verdicts_for}
use Rattle.page_model.specs.Placed.{entry_of, PlacesHoldRequests, PlacesHoldAnswers, AllArePlaced, PlacesRise}
use Rattle.page_model.specs.declared.request.Entry.{Entry}
use Rattle.page_model.specs.declared.request.Request.{Request}
use Rattle.page_model.specs.declared.verdict.Verdict.{Verdict}
use Rattle.page_model.proofs.Journals.{length-verdicts_of}
use Rattle.page_model.proofs.Schedules.{Within, places_within}

both_maps : {Y Z : Type 0} (f : ℕ → Z) (g : Y → Z) (b : Bool) (n : ℕ) (ns : List ℕ) (y : Y) (ys : List Y) → (b ≡ true → f n ≡ g y) → map f ns ≡ map g ys → map f (cond b (n ∷ ns) ns) ≡ map g (cond b (y ∷ ys) ys)
both_maps f g true n ns y ys e h = ap (λ z. z ∷ map f ns) (e refl) ∙ ap (λ zs. g y ∷ zs) h
both_maps f g false n ns y ys e h = h

at_seam : {X : Type 0} (us : List X) (x : X) (vs : List X) (n : ℕ) → length us ≡ n → slice_get (us ++ x ∷ vs) n ≡ Some x
at_seam [] x vs zero h = refl
at_seam [] x vs (suc n) h = absurd (omega arith)
at_seam (u ∷ us) x vs zero h = absurd (omega arith)
at_seam (u ∷ us) x vs (suc n) h = at_seam us x vs n (omega arith)

requests_at : (i : ℕ) (us es : List Entry) (n : ℕ) → length us ≡ n → map (slice_get (us ++ es)) (places_from n i es) ≡ map (λ r. Some (entry_of i r)) (asked i es)
requests_at i us [] n m = refl
requests_at i us (e ∷ es) n m =
    let here : nat_eq e.guest i ≡ true → slice_get (us ++ e ∷ es) n ≡ Some (entry_of i e.request) = λ t. at_seam us e es n m ∙ ap (λ g. Some (entry_of g e.request)) (eqb-true e.guest i t) in
    let rest : map (slice_get (us ++ e ∷ es)) (places_from (n + 1) i es) ≡ map (λ r. Some (entry_of i r)) (asked i es) =
    ap (λ all. map (slice_get all) (places_from (n + 1) i es)) (sym (append_snoc us e es))
    ∙ requests_at i (us ++ e ∷ []) es (n + 1) (omega (arith, length-append us (e ∷ []))) in
    both_maps (slice_get (us ++ e ∷ es)) (λ r. Some (entry_of i r)) (nat_eq e.guest i) n (places_from (n + 1) i es) e.request (asked i es) here rest

pub places_hold_requests : (es : List Entry) (i : ℕ) → PlacesHoldRequests es i
places_hold_requests es i = requests_at i [] es 0 refl

answers_at : (i : ℕ) (us : List Verdict) (es : List Entry) (vs : List Verdict) (n : ℕ) → length us ≡ n → length vs ≡ length es → map (slice_get (us ++ vs)) (places_from n i es) ≡ map (λ v. Some v) (verdicts_for i es vs)
answers_at i us [] vs n m h = refl
answers_at i us (e ∷ es) [] n m h = absurd (omega arith)
answers_at i us (e ∷ es) (v ∷ vs) n m h =
    let rest : map (slice_get (us ++ v ∷ vs)) (places_from (n + 1) i es) ≡ map (λ w. Some w) (verdicts_for i es vs) =
    ap (λ all. map (slice_get all) (places_from (n + 1) i es)) (sym (append_snoc us v vs))
    ∙ answers_at i (us ++ v ∷ []) es vs (n + 1) (omega (arith, length-append us (v ∷ []))) (omega arith) in
    both_maps (slice_get (us ++ v ∷ vs)) (λ w. Some w) (nat_eq e.guest i) n (places_from (n + 1) i es) v (verdicts_for i es vs) (λ _. at_seam us v vs n m) rest

pub places_hold_answers : (es : List Entry) (i : ℕ) → PlacesHoldAnswers es i
places_hold_answers es i hash total shapes = let s = empty_state total shapes in answers_at i [] es (verdicts_of hash s es) 0 refl (length-verdicts_of hash s es)

-- where an entry of the guest stands
record PlacedAt (n i : ℕ) (es : List Entry) (p : ℕ) : Type 0 where
  index : ℕ
  at : slice_get (places_from n i es) index ≡ Some p

more_places : (n i p : ℕ) (es : List Entry) (b : Bool) (k : ℕ) → slice_get (places_from (n + 1) i es) k ≡ Some p → (j : ℕ) × (slice_get (cond b (n ∷ places_from (n + 1) i es) (places_from (n + 1) i es)) j ≡ Some p)
more_places n i p es true k h = (suc k, h)
more_places n i p es false k h = (k, h)

placed : (n i : ℕ) (es : List Entry) (p : ℕ) (r : Request) → slice_get es p ≡ Some (entry_of i r) → PlacedAt n i es (n + p)
placed n i [] p r h = cc
placed n i (e ∷ es) zero r h =
    let same : e ≡ entry_of i r = cc in
    let own : nat_eq e.guest i ≡ true = eq-eqb e.guest i (ap (λ (x : Entry). x.guest) same) in
    record {
      index = 0;
      at = ap (λ b. slice_get (cond b (n ∷ places_from (n + 1) i es) (places_from (n + 1) i es)) 0) own ∙ ap Some (omega arith);
    }
placed n i (e ∷ es) (suc p) r h =
    let rest = placed (n + 1) i es p r h in
    let more = more_places n i (n + 1 + p) es (nat_eq e.guest i) rest.index rest.at in
    record { index = more.0; at = more.1 ∙ ap Some (omega arith) }

pub all_are_placed : (es : List Entry) (i : ℕ) → AllArePlaced es i
all_are_placed es i p r h = let found = placed 0 i es p r h in (found.index, found.at ∙ ap Some (omega arith))

rising : (n i : ℕ) (es : List Entry) (j k p q : ℕ) → j < k → slice_get (places_from n i es) j ≡ Some p → slice_get (places_from n i es) k ≡ Some q → p < q
rising n i [] j k p q h f g = cc
rising n i (e ∷ es) j k p q h f g = pick (nat_eq e.guest i) j k h f g (λ a b l x y. rising (n + 1) i es a b p q l x y) (λ b y. places_within (n + 1) i es b q y) where
  pick : (t : Bool) (j k : ℕ) → j < k → slice_get (cond t (n ∷ places_from (n + 1) i es) (places_from (n + 1) i es)) j ≡ Some p → slice_get (cond t (n ∷ places_from (n + 1) i es) (places_from (n + 1) i es)) k ≡ Some q →
      ((a b : ℕ) → a < b → slice_get (places_from (n + 1) i es) a ≡ Some p → slice_get (places_from (n + 1) i es) b ≡ Some q → p < q) →
      ((b : ℕ) → slice_get (places_from (n + 1) i es) b ≡ Some q → Within (n + 1) (n + 1 + length es) q) → p < q
  pick true j zero l x y rest within = absurd (omega arith)
  pick true zero (suc k) l x y rest within = let same : n ≡ p = cc in let low = (within k y).least in omega arith
  pick true (suc j) (suc k) l x y rest within = rest j k (omega arith) x y
  pick false j k l x y rest within = rest j k l x y

pub places_rise : (es : List Entry) (i : ℕ) → PlacesRise es i
places_rise es i j k p q h f g = rising 0 i es j k p q h f g
