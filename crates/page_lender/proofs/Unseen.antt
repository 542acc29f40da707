-- What a lender does changes nothing that its page shows.
use Rattle.std.proofs.Common.{◌≡◌, ◌∙◌, ℕ, true, false, cond, List, [], ◌∷◌, ◌++◌, Some, None, Option, refl, ap, sym, subst}
use Rattle.std.specs.Prelude.{slice_get, unwrap_or, option_map}
use Rattle.std.specs.Option.{option_map_or}
use Rattle.std.proofs.lemmas.Bool.{eq-eqb}
use Rattle.window_events.specs.Windows.{Mappings, shown_in, step, run, start, shown, own_content}
use Rattle.window_events.specs.Played.{played}
use Rattle.window_events.specs.declared.event.Event.{Event}
use Rattle.window_events.specs.declared.event.Event.TheVariants.{Write, Guard, Unguard, Copy, Lend, Map, Release, Discard}
use Rattle.window_events.specs.declared.page.Page.{Page}
use Rattle.window_events.specs.Whole.{IsRight}
use Rattle.window_events.proofs.Own.{keeps_others, shows_written}
use Rattle.window_events.proofs.Whole.{right_at, whole}
use Rattle.page_lender.specs.Events.{done_events}
use Rattle.page_lender.specs.Histories.{NeverSeen, IsKnown}
use Rattle.page_lender.specs.declared.belief.Target.TheVariants.{Frame, Zeros}
use Rattle.page_lender.specs.declared.order.Order.{Order}
use Rattle.page_lender.specs.declared.order.Outcome.TheVariants.{Done, Lent, Refused, Unknown}

-- one event played is a step
one_played : (w : Mappings) (e : Event) → played w (e ∷ []) ≡ unwrap_or (step w e) w
one_played w e = pick (step w e) where
  pick : (o : Option Mappings) → option_map_or (λ after. played after []) o w ≡ unwrap_or o w
  pick None = refl
  pick (Some after) = refl

run_more : (w : Mappings) (es : List Event) (e : Event) → run step w (es ++ (e ∷ [])) ≡ unwrap_or (step (run step w es) e) (run step w es)
run_more w [] e = refl
run_more w (x ∷ es) e = run_more (unwrap_or (step w x) w) es e

one_unseen : (es : List Event) (contents frames : List ℕ) (p : ℕ) (e : Event) → own_content p e ≡ None →
    shown (played (run step (start contents frames) es) (e ∷ [])) p ≡ shown (run step (start contents frames) es) p
one_unseen es contents frames p e n =
    let w : Mappings = run step (start contents frames) es in
    ap (λ v. shown v p) (one_played w e) ∙ keeps_others es e p contents frames n

two_unseen : (es : List Event) (contents frames : List ℕ) (p : ℕ) (e f : Event) → own_content p e ≡ None → own_content p f ≡ None →
    shown (played (run step (start contents frames) es) (e ∷ f ∷ [])) p ≡ shown (run step (start contents frames) es) p
two_unseen es contents frames p e f n m = pick (step (run step (start contents frames) es) e) refl where
  pick : (o : Option Mappings) → step (run step (start contents frames) es) e ≡ o →
      shown (option_map_or (λ after. played after (f ∷ [])) o (run step (start contents frames) es)) p ≡ shown (run step (start contents frames) es) p
  pick None s = refl
  pick (Some a) s =
      let w : Mappings = run step (start contents frames) es in
      let is_run : run step (start contents frames) (es ++ (e ∷ [])) ≡ a = run_more (start contents frames) es e ∙ ap (λ o. unwrap_or o w) s in
      let second : shown (played a (f ∷ [])) p ≡ shown a p = subst (λ v. shown (played v (f ∷ [])) p ≡ shown v p) is_run (one_unseen (es ++ (e ∷ [])) contents frames p f m) in
      let first : shown a p ≡ shown w p = ap (λ o. shown (unwrap_or o w) p) (sym s) ∙ keeps_others es e p contents frames n in
      second ∙ first

write_unseen : (es : List Event) (contents frames : List ℕ) (p : ℕ) (page : Page) → slice_get (run step (start contents frames) es).pages p ≡ Some page →
    shown (played (run step (start contents frames) es) (Write p (shown_in (run step (start contents frames) es).frames page.view) ∷ [])) p ≡ shown (run step (start contents frames) es) p
write_unseen es contents frames p page there = pick (step (run step (start contents frames) es) (Write p (shown_in (run step (start contents frames) es).frames page.view))) refl where
  pick : (o : Option Mappings) → step (run step (start contents frames) es) (Write p (shown_in (run step (start contents frames) es).frames page.view)) ≡ o →
      shown (option_map_or (λ after. played after []) o (run step (start contents frames) es)) p ≡ shown (run step (start contents frames) es) p
  pick None s = refl
  pick (Some a) s =
      let own : own_content p (Write p (shown_in (run step (start contents frames) es).frames page.view)) ≡ Some (shown_in (run step (start contents frames) es).frames page.view) =
      ap (λ b. cond b (Some (shown_in (run step (start contents frames) es).frames page.view)) None) (eq-eqb p p refl) in
      shows_written es (Write p (shown_in (run step (start contents frames) es).frames page.view)) p contents frames (shown_in (run step (start contents frames) es).frames page.view) a own s
      ∙ sym (ap (λ o. option_map (λ q. shown_in (run step (start contents frames) es).frames q.view) o) there)

-- a page whose memory is given back was zeros when its guard began to stand, and so it is
zeros_unseen : (es : List Event) (contents frames : List ℕ) (p : ℕ) (page : Page) → slice_get (run step (start contents frames) es).pages p ≡ Some page →
    page.copy ≡ Some 0 → page.copy_fresh ≡ true →
    shown (played (run step (start contents frames) es) (Discard p ∷ [])) p ≡ shown (run step (start contents frames) es) p
zeros_unseen es contents frames p page there c fresh = pick (step (run step (start contents frames) es) (Discard p)) refl where
  pick : (o : Option Mappings) → step (run step (start contents frames) es) (Discard p) ≡ o →
      shown (option_map_or (λ after. played after []) o (run step (start contents frames) es)) p ≡ shown (run step (start contents frames) es) p
  pick None s = refl
  pick (Some a) s =
      let w : Mappings = run step (start contents frames) es in
      let own : own_content p (Discard p) ≡ Some 0 = ap (λ b. cond b (Some 0) None) (eq-eqb p p refl) in
      let right : IsRight w.frames page = right_at w.frames w.pages p page (whole contents frames es).each there in
      let zeros : shown w p ≡ Some 0 =
      ap (λ o. option_map (λ q. shown_in w.frames q.view) o) there ∙ ap (λ x. Some x) (right.shows ∙ sym (right.copied 0 fresh c)) in
      shows_written es (Discard p) p contents frames 0 a own s ∙ sym zeros

-- and that is what is known
known_unseen : (es : List Event) (contents frames : List ℕ) (p : ℕ) (page : Page) → slice_get (run step (start contents frames) es).pages p ≡ Some page →
    IsKnown (Order.Map Zeros) (run step (start contents frames) es) p page →
    shown (played (run step (start contents frames) es) (Discard p ∷ [])) p ≡ shown (run step (start contents frames) es) p
known_unseen es contents frames p page there k =
    let is_there : Some page ≡ Some k.0.page = sym there ∙ k.0.there in
    let same : k.0.page ≡ page = cc in
    zeros_unseen es contents frames p page there (subst (λ q. q.copy ≡ Some 0) same k.0.fits.copy) k.1

done_unseen : (es : List Event) (contents frames : List ℕ) (p : ℕ) (page : Page) (order : Order) → slice_get (run step (start contents frames) es).pages p ≡ Some page →
    IsKnown order (run step (start contents frames) es) p page → shown (played (run step (start contents frames) es) (done_events p (shown_in (run step (start contents frames) es).frames page.view) order)) p ≡ shown (run step (start contents frames) es) p
done_unseen es contents frames p page Order.Wait there k = refl
done_unseen es contents frames p page Order.Copy there k = refl
done_unseen es contents frames p page Order.Lend there k = refl
done_unseen es contents frames p page (Order.Hold target) there k = one_unseen es contents frames p (Guard p) refl
done_unseen es contents frames p page (Order.Compare (Frame slot n)) there k = two_unseen es contents frames p (Copy p) (Lend p n) refl refl
done_unseen es contents frames p page (Order.Compare Zeros) there k = one_unseen es contents frames p (Copy p) refl
done_unseen es contents frames p page (Order.Map (Frame slot n)) there k = one_unseen es contents frames p (Map p) refl
done_unseen es contents frames p page (Order.Map Zeros) there k = known_unseen es contents frames p page there k
done_unseen es contents frames p page (Order.LetGo target) there k = one_unseen es contents frames p (Unguard p) refl
done_unseen es contents frames p page (Order.TakeHome in_place) there k = write_unseen es contents frames p page there
done_unseen es contents frames p page (Order.Release slot) there k = one_unseen es contents frames p (Release p) refl

pub never_seen : NeverSeen
never_seen es contents frames p page order Done was_done there k = done_unseen es contents frames p page order there k
never_seen es contents frames p page order (Lent slot n) was_done there k = refl
never_seen es contents frames p page order Refused was_done there k = refl
never_seen es contents frames p page order Unknown true there k = done_unseen es contents frames p page order there k
never_seen es contents frames p page order Unknown false there k = refl
