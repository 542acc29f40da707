-- Each history keeps what is so of each page of its window.
use Rattle.std.proofs.Common.{◌≡◌, ◌∙◌, ℕ, zero, suc, ◌+◌, ◌<◌, inl, inr, Bool, true, false, ◌&&◌, cond, List, [], ◌∷◌, length, map, Some, refl, ap, sym, subst, arith}
use Rattle.std.specs.Prelude.{nat_eq, option_map, replicate, slice_get, slice_index, unwrap_or}
use Rattle.std.proofs.lemmas.Bool.{eqb-false, eqb-true}
use Rattle.std.proofs.lemmas.List.{length-replicate}
use Rattle.std.proofs.lemmas.Option.{slice_get_within}
use Rattle.window_events.specs.Played.{played}
use Rattle.window_events.specs.Whole.{IsRight}
use Rattle.window_events.specs.Windows.{Mappings, fresh, shown_in, start, step}
use Rattle.window_events.specs.declared.event.Event.{Event}
use Rattle.window_events.specs.declared.page.Page.{Page}
use Rattle.window_events.proofs.Whole.{right_at, start_whole}
use Rattle.page_lender.specs.Decisions.{waiting}
use Rattle.page_lender.specs.Events.{Believes, DoneByEvents, Fits, done_events}
use Rattle.page_lender.specs.declared.belief.Belief.{Belief}
use Rattle.page_lender.specs.declared.belief.Belief.TheVariants.{Private, Turning}
use Rattle.page_lender.specs.declared.belief.Stage.TheVariants.{LettingGo}
use Rattle.page_lender.specs.declared.belief.Target.TheVariants.{Zeros}
use Rattle.page_lender.specs.declared.order.Order.{Order}
use Rattle.page_lender.specs.declared.order.Outcome.TheVariants.{Done}
use Rattle.page_lender.proofs.Kept.{kept_by_guest, kept_by_others}
use Rattle.window_pages.specs.Bytes.{belief_of, known_of}
use Rattle.window_pages.specs.Changed.{left_alone}
use Rattle.window_pages.specs.Laws.{new_page}
use Rattle.window_pages.specs.Lives.{IsOthers, OneChanges, WasDetached, left_page}
use Rattle.window_pages.specs.declared.page.WindowPage.{WindowPage}
use Rattle.lending_laws.specs.Histories.{Begins, CallsAt, CarriedOut, CarriesOut, DetachesAt, Given, Happens, History, IsToldAt, LeftBeside, Moment, NextComes, Nothing, OneIs, Pending, Reads, begins, calls, carries_out, detaches, happens, is_told, left_beside, next_comes}
use Rattle.lending_laws.specs.Reading.{EachBeliefIsRight, EachOrderIsDue, EachOrderIsPossible, EachPageIsRead, StartBegins}
use Rattle.lending_laws.proofs.Pages.{event_reads, reads_right}
use Rattle.lending_laws.proofs.Beliefs.{IsFine, at, call_fine, carried_fine, fine_moved, told_fine}
use Rattle.lending_laws.proofs.Outcomes.{apart_keeps, apart_quiet, done_apart, done_reads, quiet_reads}

-- what is so of each page at each moment
pub record IsKept (first count : ℕ) (m : Moment) : Type 0 where
  pub many : length m.pages ≡ count
  pub fine : (i : ℕ) (x : WindowPage) → slice_get m.pages i ≡ Some x → IsFine (first + i) (belief_of x) (known_of x).ordered m.world (m.orders i)
  pub reads : (i : ℕ) → i < count → Reads m.world (first + i) (m.stored (first + i))

-- ---- at first

new_is : (n i : ℕ) (x : WindowPage) → slice_get (replicate n new_page) i ≡ Some x → new_page ≡ x
new_is zero i x e = cc
new_is (suc n) zero x e = cc
new_is (suc n) (suc i) x e = new_is n i x e

begins_kept : (first count : ℕ) (m : Moment) → Begins first count m → IsKept first count m
begins_kept first count m b = record {
  many = ap length b.pages ∙ length-replicate count new_page;
  fine = λ i x e.
      let its : slice_get (replicate count new_page) i ≡ Some x = subst (λ v. slice_get v i ≡ Some x) b.pages e in
      let l : i < count = omega (arith, slice_get_within (replicate count new_page) i x its, length-replicate count new_page) in
      let is : new_page ≡ x = new_is count i x its in
      subst (λ v. IsFine (first + i) (belief_of x) (known_of x).ordered m.world v) (sym (b.orders i)) (subst (λ v. IsFine (first + i) (belief_of v) (known_of v).ordered m.world Nothing) is (refl, b.believes i l));
  reads = b.reads;
}

-- ---- a call, or an outcome: one page changes, and the mappings stay

one_fine : (first k : ℕ) (y z : WindowPage) (pending : Pending) (olds news : List WindowPage) (before after : ℕ → Pending) (w : Mappings) → OneChanges k y z olds news → OneIs k pending before after →
    ((j : ℕ) (v : WindowPage) → slice_get olds j ≡ Some v → IsFine (first + j) (belief_of v) (known_of v).ordered w (before j)) → IsFine (first + k) (belief_of z) (known_of z).ordered w pending →
    (i : ℕ) (x : WindowPage) → slice_get news i ≡ Some x → IsFine (first + i) (belief_of x) (known_of x).ordered w (after i)
one_fine first k y z pending olds news before after w c o all own i x e = pick (nat_eq i k) refl where
  pick : (t : Bool) → nat_eq i k ≡ t → IsFine (first + i) (belief_of x) (known_of x).ordered w (after i)
  pick true t =
      let is : i ≡ k = eqb-true i k t in
      let its : slice_get news k ≡ Some x = ap (λ j. slice_get news j) (sym is) ∙ e in
      let placed : slice_get news k ≡ Some z = c.after in
      let same : z ≡ x = cc in
      let right : IsFine (first + k) (belief_of x) (known_of x).ordered w (after k) =
      subst (λ v. IsFine (first + k) (belief_of v) (known_of v).ordered w (after k)) same (subst (λ v. IsFine (first + k) (belief_of z) (known_of z).ordered w v) (sym o.own) own) in
      subst (λ j. IsFine (first + j) (belief_of x) (known_of x).ordered w (after j)) (sym is) right
  pick false t =
      let ne : i ≡ k → ⊥ = eqb-false i k t in
      subst (λ v. IsFine (first + i) (belief_of x) (known_of x).ordered w v) (sym (o.others i ne)) (all i x (sym (c.others i ne) ∙ e))

pub calls_kept : (first count : ℕ) (old new : Moment) (i : ℕ) → IsKept first count old → CallsAt first i old new → IsKept first count new
calls_kept first count old new k h c = record {
  many = c.pages.count ∙ h.many;
  fine = λ i x e. subst (λ w. IsFine (first + i) (belief_of x) (known_of x).ordered w (new.orders i)) (sym c.world)
      (one_fine first k c.before c.after c.pending old.pages new.pages old.orders new.orders old.world c.pages c.orders h.fine
      (call_fine (first + k) old.world c.before c.after (old.orders k) c.pending c.call (h.fine k c.before c.pages.before)) i x e);
  reads = λ i l. subst (λ w. Reads w (first + i) (new.stored (first + i))) (sym c.world) (subst (λ s. Reads old.world (first + i) (s (first + i))) (sym c.stored) (h.reads i l));
}

pub told_kept : (first count : ℕ) (may_give : (ℕ → Bool) → ℕ → Bool) (old new : Moment) (i : ℕ) → IsKept first count old → IsToldAt may_give i old new → IsKept first count new
told_kept first count may_give old new k h c = record {
  many = c.pages.count ∙ h.many;
  fine = λ i x e. subst (λ w. IsFine (first + i) (belief_of x) (known_of x).ordered w (new.orders i)) (sym c.world)
      (one_fine first k c.before c.after Nothing old.pages new.pages old.orders new.orders old.world c.pages c.orders h.fine
      (c.done.lender.ordered, told_fine (first + k) c.before c.after old.world (old.orders k) c.order c.outcome c.told c.done.lender (h.fine k c.before c.pages.before)) i x e);
  reads = λ i l. subst (λ w. Reads w (first + i) (new.stored (first + i))) (sym c.world) (subst (λ s. Reads old.world (first + i) (s (first + i))) (sym c.stored) (h.reads i l));
}

-- ---- an order is carried out

pub differs : (p q : ℕ) → (p ≡ q → ⊥) → nat_eq p q ≡ false
differs p q ne = pick (nat_eq p q) refl where
  pick : (b : Bool) → nat_eq p q ≡ b → b ≡ false
  pick true t = absurd (ne (eqb-true p q t))
  pick false t = refl

given_fine : (p : ℕ) (b : Belief) (ordered : Bool) (w : Mappings) (pending : Pending) (order : Order) → pending ≡ Given order → IsFine p b ordered w pending → IsFine p b ordered w (Given order)
given_fine p b ordered w pending order e f = subst (λ v. IsFine p b ordered w v) e f

pub some_page : (pages : List WindowPage) (i : ℕ) → i < length pages → (x : WindowPage) × (slice_get pages i ≡ Some x)
some_page [] i l = absurd (omega (arith, l))
some_page (x ∷ pages) zero l = (x, refl)
some_page (x ∷ pages) (suc i) l = some_page pages i (omega (arith, l))

carried_kept : (first count : ℕ) (old new : Moment) (i : ℕ) → IsKept first count old → CarriesOut first count i old new → IsKept first count new
carried_kept first count old new k h c = record {
  many = ap length c.pages ∙ h.many;
  fine = λ i x e. fine i x (subst (λ v. slice_get v i ≡ Some x) c.pages e);
  reads = λ i l. subst (λ w. Reads w (first + i) (new.stored (first + i))) (sym c.world) (subst (λ s. Reads (played old.world (done_events (first + k) (shown_in old.world.frames c.page.view) c.order)) (first + i) (s (first + i))) (sym c.stored) (reads i l));
} where
  apart_from : (i : ℕ) → nat_eq i k ≡ false → nat_eq (first + k) (first + i) ≡ false
  apart_from i t = differs (first + k) (first + i) (λ s. eqb-false i k t (omega (arith, s)))

  fine : (i : ℕ) (x : WindowPage) → slice_get old.pages i ≡ Some x → IsFine (first + i) (belief_of x) (known_of x).ordered new.world (new.orders i)
  fine i x e = subst (λ w. IsFine (first + i) (belief_of x) (known_of x).ordered w (new.orders i)) (sym c.world) (pick (nat_eq i k) refl) where
    pick : (t : Bool) → nat_eq i k ≡ t → IsFine (first + i) (belief_of x) (known_of x).ordered (played old.world (done_events (first + k) (shown_in old.world.frames c.page.view) c.order)) (new.orders i)
    pick true t =
        let is : i ≡ k = eqb-true i k t in
        let its : slice_get old.pages k ≡ Some x = ap (λ j. slice_get old.pages j) (sym is) ∙ e in
        let g : IsFine (first + k) (belief_of x) (known_of x).ordered old.world (Given c.order) = given_fine (first + k) (belief_of x) (known_of x).ordered old.world (old.orders k) c.order c.given (h.fine k x its) in
        let at_k : IsFine (first + k) (belief_of x) (known_of x).ordered (played old.world (done_events (first + k) (shown_in old.world.frames c.page.view) c.order)) (new.orders k) =
        subst (λ v. IsFine (first + k) (belief_of x) (known_of x).ordered (played old.world (done_events (first + k) (shown_in old.world.frames c.page.view) c.order)) v) (sym c.orders.own)
        (carried_fine (first + k) (belief_of x) (known_of x).ordered old.world c.order c.page c.there c.truly g) in
        subst (λ j. IsFine (first + j) (belief_of x) (known_of x).ordered (played old.world (done_events (first + k) (shown_in old.world.frames c.page.view) c.order)) (new.orders j)) (sym is) at_k
    pick false t =
        subst (λ v. IsFine (first + i) (belief_of x) (known_of x).ordered (played old.world (done_events (first + k) (shown_in old.world.frames c.page.view) c.order)) v) (sym (c.orders.others i (eqb-false i k t)))
        (fine_moved (first + i) (belief_of x) (known_of x).ordered old.world (played old.world (done_events (first + k) (shown_in old.world.frames c.page.view) c.order)) (old.orders i)
        (λ b r. apart_keeps (first + i) b (done_events (first + k) (shown_in old.world.frames c.page.view) c.order) old.world (done_apart (first + k) (first + i) (shown_in old.world.frames c.page.view) c.order (apart_from i t)) r)
        (h.fine i x e))

  reads : (i : ℕ) → i < count → Reads (played old.world (done_events (first + k) (shown_in old.world.frames c.page.view) c.order)) (first + i) (old.stored (first + i))
  reads i l = pick (nat_eq i k) refl where
    pick : (t : Bool) → nat_eq i k ≡ t → Reads (played old.world (done_events (first + k) (shown_in old.world.frames c.page.view) c.order)) (first + i) (old.stored (first + i))
    pick true t =
        let is : i ≡ k = eqb-true i k t in
        let found = some_page old.pages k (omega (arith, c.within, h.many)) in
        let g : IsFine (first + k) (belief_of found.0) (known_of found.0).ordered old.world (Given c.order) = given_fine (first + k) (belief_of found.0) (known_of found.0).ordered old.world (old.orders k) c.order c.given (h.fine k found.0 found.1) in
        let at_k : Reads (played old.world (done_events (first + k) (shown_in old.world.frames c.page.view) c.order)) (first + k) (old.stored (first + k)) =
        done_reads old.world (first + k) (old.stored (first + k)) (belief_of found.0) c.page c.order (h.reads k c.within) c.there g.1 g.0.is_due c.truly in
        subst (λ j. Reads (played old.world (done_events (first + k) (shown_in old.world.frames c.page.view) c.order)) (first + j) (old.stored (first + j))) (sym is) at_k
    pick false t =
        quiet_reads (first + i) (old.stored (first + i)) (done_events (first + k) (shown_in old.world.frames c.page.view) c.order) old.world
        (apart_quiet (first + i) (done_events (first + k) (shown_in old.world.frames c.page.view) c.order) (done_apart (first + k) (first + i) (shown_in old.world.frames c.page.view) c.order (apart_from i t)))
        (h.reads i l)

-- ---- guests and others

others_spare : (p : ℕ) (belief : Belief) (now : Mappings) (e : Event) → IsOthers p e → Believes belief now p → Believes belief (unwrap_or (step now e) now) p
others_spare p belief now e (inl g) b = kept_by_guest belief now p e g b
others_spare p belief now e (inr o) b = kept_by_others belief now p e o b

happens_kept : (first count : ℕ) (old new : Moment) → IsKept first count old → Happens first count old new → IsKept first count new
happens_kept first count old new h c = record {
  many = ap length c.pages ∙ h.many;
  fine = λ i x e.
      let its : slice_get old.pages i ≡ Some x = subst (λ v. slice_get v i ≡ Some x) c.pages e in
      let n : i < count = omega (arith, slice_get_within old.pages i x its, h.many) in
      let moved : IsFine (first + i) (belief_of x) (known_of x).ordered (unwrap_or (step old.world c.event) old.world) (old.orders i) =
      fine_moved (first + i) (belief_of x) (known_of x).ordered old.world (unwrap_or (step old.world c.event) old.world) (old.orders i) (λ b r. others_spare (first + i) b old.world c.event (c.others i n) r) (h.fine i x its) in
      subst (λ w. IsFine (first + i) (belief_of x) (known_of x).ordered w (new.orders i)) (sym c.world)
      (subst (λ o. IsFine (first + i) (belief_of x) (known_of x).ordered (unwrap_or (step old.world c.event) old.world) (o i)) (sym c.orders) moved);
  reads = λ i l. subst (λ w. Reads w (first + i) (new.stored (first + i))) (sym c.world)
      (subst (λ s. Reads (unwrap_or (step old.world c.event) old.world) (first + i) s) (sym (c.stored (first + i))) (event_reads old.world (first + i) (old.stored (first + i)) c.event (h.reads i l)));
}

-- ---- another lender comes

left_fits : (belief : Belief) (frames : List ℕ) (stands : Bool) (page : Page) → Fits belief page → Fits (left_alone belief) (left_page frames stands page)
left_fits belief frames stands page f = pick (waiting belief) refl where
  pick : (b : Bool) → waiting belief ≡ b → Fits (left_alone belief) (left_page frames stands page)
  pick true e = subst (λ b. Fits (cond b (Turning LettingGo Zeros) Private) (left_page frames stands page)) (sym e) (record { holds = refl; view = refl; waits = λ h. cc; copy = refl })
  pick false e = subst (λ b. Fits (cond b (Turning LettingGo Zeros) Private) (left_page frames stands page)) (sym e) (record { holds = refl; view = refl; waits = λ h. ap (λ g. g && stands) (f.waits e); copy = refl })

-- it is right over the next one's frames
left_is_right : (frames next : List ℕ) (stands : Bool) (page : Page) → IsRight frames page → IsRight next (left_page frames stands page)
left_is_right frames next stands page r = record {
  shows = r.shows;
  holds = λ n e. cc;
  copy_waits = λ e. cc;
  frame_waits = λ e. cc;
  copied = λ x e. cc;
  lends = λ n e. cc;
}

left_right : (p i : ℕ) (old : List WindowPage) (y : WindowPage) (now next : Mappings) (stands : Bool) (d : WasDetached i old y) →
    slice_get next.pages p ≡ option_map (left_page now.frames stands) (slice_get now.pages p) → Believes (belief_of d.page) now p → Believes (belief_of y) next p
left_right p i old y now next stands d n b = subst (λ z. Believes z next p) (sym (ap (λ k. k.belief) d.becomes.known)) (record {
  page = left_page now.frames stands b.page;
  there = n ∙ ap (option_map (left_page now.frames stands)) b.there;
  fits = left_fits (belief_of d.page) now.frames stands b.page b.fits;
})

-- where nothing is carried out untold, what is believed is right
pub fine_right : (p : ℕ) (b : Belief) (ordered : Bool) (w : Mappings) (pending : Pending) → ((order : Order) → pending ≡ CarriedOut order → ⊥) → IsFine p b ordered w pending → Believes b w p
fine_right p b ordered w Nothing n f = f.1
fine_right p b ordered w (Given order) n f = f.1
fine_right p b ordered w (CarriedOut order) n f = absurd (n order refl)

next_kept : (first count : ℕ) (old new : Moment) → IsKept first count old → NextComes first count old new → IsKept first count new
next_kept first count old new h c = record {
  many = c.pages.count ∙ h.many;
  fine = λ i x e.
      let d : WasDetached i old.pages x = c.pages.each i x e in
      let n : i < count = omega (arith, slice_get_within old.pages i d.page d.before, h.many) in
      let b : Believes (belief_of d.page) old.world (first + i) = fine_right (first + i) (belief_of d.page) (known_of d.page).ordered old.world (old.orders i) (λ order s. c.told i order s) (h.fine i d.page d.before) in
      subst (λ v. IsFine (first + i) (belief_of x) (known_of x).ordered new.world v) (sym (c.orders i))
      (ap (λ k. k.ordered) d.becomes.known, left_right (first + i) i old.pages x old.world new.world (c.world.stands i) d (c.world.pages i n) b);
  reads = λ i l.
      let r : Reads old.world (first + i) (old.stored (first + i)) = h.reads i l in
      let there : slice_get new.world.pages (first + i) ≡ Some (left_page old.world.frames (c.world.stands i) r.page) =
      c.world.pages i l ∙ ap (option_map (left_page old.world.frames (c.world.stands i))) r.there in
      subst (λ s. Reads new.world (first + i) (s (first + i))) (sym c.stored)
      (reads_right new.world (first + i) (old.stored (first + i)) (left_page old.world.frames (c.world.stands i) r.page) there
      (left_is_right old.world.frames new.world.frames (c.world.stands i) r.page r.right) r.last);
}

-- ---- the lender of one page goes

reads_same : (p x : ℕ) (now next : Mappings) → slice_get next.pages p ≡ slice_get now.pages p → next.frames ≡ now.frames → Reads now p x → Reads next p x
reads_same p x now next e f r = reads_right next p x r.page (e ∙ r.there) (subst (λ v. IsRight v r.page) (sym f) r.right) r.last

believes_same : (p : ℕ) (b : Belief) (now next : Mappings) → slice_get next.pages p ≡ slice_get now.pages p → Believes b now p → Believes b next p
believes_same p b now next e r = record { page = r.page; there = e ∙ r.there; fits = r.fits }

pub detached_kept : (first count k : ℕ) (old new : Moment) → IsKept first count old → DetachesAt first count k old new → IsKept first count new
detached_kept first count k old new h c = record { many = c.pages.count ∙ h.many; fine = fine; reads = λ i l. subst (λ s. Reads new.world (first + i) (s (first + i))) (sym c.stored) (reads i l) } where
  there : (i : ℕ) → (i ≡ k → ⊥) → slice_get new.world.pages (first + i) ≡ slice_get old.world.pages (first + i)
  there i ne = c.world.others (first + i) (λ s. ne (omega (arith, s)))

  right : Believes (belief_of c.before) old.world (first + k)
  right = fine_right (first + k) (belief_of c.before) (known_of c.before).ordered old.world (old.orders k) (λ order s. c.told order s) (h.fine k c.before c.pages.before)

  own : IsFine (first + k) (belief_of c.after) (known_of c.after).ordered new.world Nothing
  own =
      let d : WasDetached k old.pages c.after = record { page = c.before; before = c.pages.before; part = c.part; after = c.part_after; becomes = c.becomes } in
      (ap (λ v. v.ordered) c.becomes.known, left_right (first + k) k old.pages c.after old.world new.world c.world.stands d c.world.page right)

  fine : (i : ℕ) (x : WindowPage) → slice_get new.pages i ≡ Some x → IsFine (first + i) (belief_of x) (known_of x).ordered new.world (new.orders i)
  fine i x e = pick (nat_eq i k) refl where
    pick : (t : Bool) → nat_eq i k ≡ t → IsFine (first + i) (belief_of x) (known_of x).ordered new.world (new.orders i)
    pick true t =
        let is : i ≡ k = eqb-true i k t in
        let its : slice_get new.pages k ≡ Some x = ap (λ j. slice_get new.pages j) (sym is) ∙ e in
        let placed : slice_get new.pages k ≡ Some c.after = c.pages.after in
        let same : c.after ≡ x = cc in
        let at_k : IsFine (first + k) (belief_of x) (known_of x).ordered new.world (new.orders k) =
        subst (λ v. IsFine (first + k) (belief_of v) (known_of v).ordered new.world (new.orders k)) same (subst (λ v. IsFine (first + k) (belief_of c.after) (known_of c.after).ordered new.world v) (sym c.orders.own) own) in
        subst (λ j. IsFine (first + j) (belief_of x) (known_of x).ordered new.world (new.orders j)) (sym is) at_k
    pick false t =
        let ne : i ≡ k → ⊥ = eqb-false i k t in
        subst (λ v. IsFine (first + i) (belief_of x) (known_of x).ordered new.world v) (sym (c.orders.others i ne))
        (fine_moved (first + i) (belief_of x) (known_of x).ordered old.world new.world (old.orders i) (λ b r. believes_same (first + i) b old.world new.world (there i ne) r) (h.fine i x (sym (c.pages.others i ne) ∙ e)))

  reads : (i : ℕ) → i < count → Reads new.world (first + i) (old.stored (first + i))
  reads i l = pick (nat_eq i k) refl where
    pick : (t : Bool) → nat_eq i k ≡ t → Reads new.world (first + i) (old.stored (first + i))
    pick true t =
        let r : Reads old.world (first + k) (old.stored (first + k)) = h.reads k c.within in
        let placed : slice_get new.world.pages (first + k) ≡ Some (left_page old.world.frames c.world.stands r.page) = c.world.page ∙ ap (option_map (left_page old.world.frames c.world.stands)) r.there in
        let at_k : Reads new.world (first + k) (old.stored (first + k)) =
        reads_right new.world (first + k) (old.stored (first + k)) (left_page old.world.frames c.world.stands r.page) placed (left_is_right old.world.frames new.world.frames c.world.stands r.page r.right) r.last in
        subst (λ j. Reads new.world (first + j) (old.stored (first + j))) (sym (eqb-true i k t)) at_k
    pick false t = reads_same (first + i) (old.stored (first + i)) old.world new.world (there i (eqb-false i k t)) c.world.frames (h.reads i l)

beside_kept : (first count : ℕ) (old new : Moment) → IsKept first count old → LeftBeside first count old new → IsKept first count new
beside_kept first count old new h c = record {
  many = ap length c.pages ∙ h.many;
  fine = λ i x e.
      let its : slice_get old.pages i ≡ Some x = subst (λ v. slice_get v i ≡ Some x) c.pages e in
      let n : i < count = omega (arith, slice_get_within old.pages i x its, h.many) in
      subst (λ o. IsFine (first + i) (belief_of x) (known_of x).ordered new.world (o i)) (sym c.orders)
      (fine_moved (first + i) (belief_of x) (known_of x).ordered old.world new.world (old.orders i) (λ b r. believes_same (first + i) b old.world new.world (there i n) r) (h.fine i x its));
  reads = λ i l. subst (λ s. Reads new.world (first + i) (s (first + i))) (sym c.stored) (reads_same (first + i) (old.stored (first + i)) old.world new.world (there i l) c.world.frames (h.reads i l));
} where
  there : (i : ℕ) → i < count → slice_get new.world.pages (first + i) ≡ slice_get old.world.pages (first + i)
  there i n = c.world.others (first + i) (λ s. c.others i n s)

pub history_kept : (may_give : (ℕ → Bool) → ℕ → Bool) (first count : ℕ) (m : Moment) → History may_give first count m → IsKept first count m
history_kept may_give first count m (begins its b) = begins_kept first count its b
history_kept may_give first count m (calls old new i h c) = calls_kept first count old new i (history_kept may_give first count old h) c
history_kept may_give first count m (carries_out old new i h c) = carried_kept first count old new i (history_kept may_give first count old h) c
history_kept may_give first count m (is_told old new i h c) = told_kept first count may_give old new i (history_kept may_give first count old h) c
history_kept may_give first count m (happens old new h c) = happens_kept first count old new (history_kept may_give first count old h) c
history_kept may_give first count m (detaches old new i h c) = detached_kept first count i old new (history_kept may_give first count old h) c
history_kept may_give first count m (left_beside old new h c) = beside_kept first count old new (history_kept may_give first count old h) c
history_kept may_give first count m (next_comes old new h c) = next_kept first count old new (history_kept may_give first count old h) c

-- ---- the law

pub each_page_is_read : EachPageIsRead
each_page_is_read may_give first count m h i l = (history_kept may_give first count m h).reads i l

pub each_belief_is_right : EachBeliefIsRight
each_belief_is_right may_give first count m h i x e n =
    fine_right (first + i) (belief_of x) (known_of x).ordered m.world (m.orders i) n ((history_kept may_give first count m h).fine i x e)

pub each_order_is_due : EachOrderIsDue
each_order_is_due may_give first count m h i x order e =
    let f : IsFine (first + i) (belief_of x) (known_of x).ordered m.world (m.orders i) = (history_kept may_give first count m h).fine i x e in (
      λ s. let g : IsFine (first + i) (belief_of x) (known_of x).ordered m.world (Given order) = subst (λ v. IsFine (first + i) (belief_of x) (known_of x).ordered m.world v) s f in
          record { ordered = g.0.is_open; is_due = g.0.is_due },
      λ s. let g : IsFine (first + i) (belief_of x) (known_of x).ordered m.world (CarriedOut order) = subst (λ v. IsFine (first + i) (belief_of x) (known_of x).ordered m.world v) s f in
          record { ordered = g.0.is_open; is_due = g.0.is_due },
    )

pub each_order_is_possible : EachOrderIsPossible
each_order_is_possible may_give first count m h i x y part after order page e s l t d =
    let g : IsFine (first + i) (belief_of x) (known_of x).ordered m.world (Given order) =
    given_fine (first + i) (belief_of x) (known_of x).ordered m.world (m.orders i) order s ((history_kept may_give first count m h).fine i x e) in
    let its : DoneByEvents (belief_of x) order Done (belief_of y) = subst (λ v. DoneByEvents (belief_of x) v Done (belief_of y)) (sym g.0.is_due) d.lender.events in
    (its m.world (first + i) true (at (first + i) (belief_of x) m.world page g.1 l) t).possible

-- ---- the start of the protocol

fresh_at : (xs : List ℕ) (p : ℕ) → p < length xs → slice_get (map fresh xs) p ≡ Some (fresh (slice_index xs p))
fresh_at [] p l = absurd (omega (arith, l))
fresh_at (x ∷ xs) zero l = refl
fresh_at (x ∷ xs) (suc p) l = fresh_at xs p (omega (arith, l))

pub start_begins : StartBegins
start_begins first count contents frames l = record {
  pages = refl;
  orders = λ i. refl;
  slots = λ s. refl;
  reads = λ i n.
      let there : slice_get (start contents frames).pages (first + i) ≡ Some (fresh (slice_index contents (first + i))) = fresh_at contents (first + i) (omega (arith, l, n)) in
      reads_right (start contents frames) (first + i) (slice_index contents (first + i)) (fresh (slice_index contents (first + i))) there
      (right_at frames (map fresh contents) (first + i) (fresh (slice_index contents (first + i))) (start_whole contents frames).each there) refl;
  believes = λ i n. record {
    page = fresh (slice_index contents (first + i));
    there = fresh_at contents (first + i) (omega (arith, l, n));
    fits = record { holds = refl; view = refl; waits = λ h. refl; copy = refl };
  };
}
