-- Where a window of a value that owns all windows of a process becomes another one, and the others are as they were.
use Rattle.std.proofs.Common.{◌≡◌, ◌∙◌, ◌⊎◌, inl, inr, ℕ, Bool, true, List, Option, Some, None, refl, ap, sym, subst}
use Rattle.std.proofs.lemmas.Bool.{cases_eq}
use Rattle.std.proofs.lemmas.List.{get_or-set_other, set-get_or}
use Rattle.std.specs.Prelude.{slice_set}
use Rattle.process_lender.specs.Windows.{AtPlace, HasPages, Lender, Window, window_at}
use Rattle.window_pages.specs.declared.counts.PartCounts.{PartCounts}
use Rattle.window_pages.specs.declared.page.WindowPage.{WindowPage}
use Rattle.window_tables.specs.Tables.{Counted}
use Rattle.lending_laws.proofs.Kept.{IsKept}
use Rattle.lending_laws.proofs.Lender.{Reaches, call_reaches}
use Rattle.lending_laws.proofs.ProcessCalls.{ProcessAt, kept_in, window_goes}
use Rattle.lending_laws.proofs.Processes.{each_page_of_all_is_read}
use Rattle.lending_laws.specs.Histories.{Moment}
use Rattle.lending_laws.specs.Lender.{Called}
use Rattle.lending_laws.specs.Owned.{AreCounted, Knows, OwnedGoesOn}
use Rattle.lending_laws.specs.ProcessCalls.{GivesFor}
use Rattle.lending_laws.specs.Processes.{OthersStay, Process, ProcessHistory, Span, moment_of}

-- ---- the list of windows

pub other : (j place : ℕ) (ws : List (Option Window)) (v : Option Window) → (j ≡ place → ⊥) → window_at j (slice_set ws place v) ≡ window_at j ws
other j place ws v n = get_or-set_other ws place j v None n

-- a window is at the place
pub record HadAt (place : ℕ) (ws : List (Option Window)) : Type 0 where
  pub window : Window
  pub there : window_at place ws ≡ Some window

-- ---- what the process knows

-- The window at a place becomes another one, and the others are as they were.
pub record OneBecomes (place : ℕ) (old new : Lender) (w v : Window) : Type 0 where
  pub there : window_at place old.windows ≡ Some w
  pub after : window_at place new.windows ≡ Some v
  pub beside : (j : ℕ) → (j ≡ place → ⊥) → window_at j new.windows ≡ window_at j old.windows

pub had : (i place : ℕ) (old new : Lender) (w v u : Window) → OneBecomes place old new w v → window_at i new.windows ≡ Some u → HadAt i old.windows
had i place old new w v u b e = pick (cases_eq i place) where
  pick : (i ≡ place) ⊎ (i ≡ place → ⊥) → HadAt i old.windows
  pick (inl q) = record { window = w; there = subst (λ k. window_at k old.windows ≡ Some w) (sym q) b.there }
  pick (inr n) = record { window = u; there = sym (b.beside i n) ∙ e }

pub some_is : (v w : Window) → Some v ≡ Some w → v ≡ w
some_is v w e = cc

pub pages_known : (number : ℕ → ℕ) (i place : ℕ) (x y : Process) (old new : Lender) (w v u : Window) → Knows number old x → OneBecomes place old new w v → y.pages (number place) ≡ v.pages →
    OthersStay (number place) x y → window_at i new.windows ≡ Some u → y.pages (number i) ≡ u.pages
pages_known number i place x y old new w v u k b p s e = pick (cases_eq i place) where
  pick : (i ≡ place) ⊎ (i ≡ place → ⊥) → y.pages (number i) ≡ u.pages
  pick (inl q) =
      let its : window_at place new.windows ≡ Some u = subst (λ j. window_at j new.windows ≡ Some u) q e in
      subst (λ j. y.pages (number j) ≡ u.pages) (sym q) (p ∙ ap (λ z. z.pages) (some_is v u (sym b.after ∙ its)))
  pick (inr n) =
      let was : window_at i old.windows ≡ Some u = sym (b.beside i n) ∙ e in
      (s (number i) (λ q. n (k.apart i place u w was b.there q))).pages ∙ k.pages i u was

pub open_known : (number : ℕ → ℕ) (i place : ℕ) (x y : Process) (old new : Lender) (w v u : Window) → Knows number old x → OneBecomes place old new w v → y.is_open (number place) ≡ true →
    OthersStay (number place) x y → window_at i new.windows ≡ Some u → y.is_open (number i) ≡ true
open_known number i place x y old new w v u k b o s e = pick (cases_eq i place) where
  pick : (i ≡ place) ⊎ (i ≡ place → ⊥) → y.is_open (number i) ≡ true
  pick (inl q) = subst (λ j. y.is_open (number j) ≡ true) (sym q) o
  pick (inr n) =
      let was : window_at i old.windows ≡ Some u = sym (b.beside i n) ∙ e in
      (s (number i) (λ q. n (k.apart i place u w was b.there q))).is_open ∙ k.is_open i u was

pub knows_then : (number : ℕ → ℕ) (place : ℕ) (x y : Process) (old new : Lender) (w v : Window) → Knows number old x → OneBecomes place old new w v → y.pages (number place) ≡ v.pages →
    y.is_open (number place) ≡ true → OthersStay (number place) x y → Knows number new y
knows_then number place x y old new w v k b p o s = record {
  pages = λ i u e. pages_known number i place x y old new w v u k b p s e;
  is_open = λ i u e. open_known number i place x y old new w v u k b o s e;
  apart = λ i j t u e f q.
      let one : HadAt i old.windows = had i place old new w v t b e in
      let two : HadAt j old.windows = had j place old new w v u b f in
      k.apart i j one.window two.window one.there two.there q;
}

-- ---- where a window's pages become others by a call, or stay

-- The window's pages become these by a call, or by many, or they stay.
pub data Became (gives : (ℕ → Bool) → ℕ → Bool) (first : ℕ) (m : Moment) (w : Window) (pages : List WindowPage) : Type 0 where
  is_called : Called gives first m pages → Became gives first m w pages
  is_reached : Reaches gives first m pages → Became gives first m w pages
  is_same : pages ≡ w.pages → Became gives first m w pages

pub stays_so : (k : ℕ) (x : Process) → OthersStay k x x
stays_so k x j n = record { is_open = refl; pages = refl; orders = refl; slots = refl }

pub reached : (f : Bool) (spans : ℕ → Span) (number : ℕ → ℕ) (place : ℕ) (x : Process) (gives : (ℕ → Bool) → ℕ → Bool) (old new : Lender) (w v : Window) → ProcessHistory f spans x → Knows number old x →
    GivesFor f (number place) x gives → OneBecomes place old new w v → Reaches gives (spans (number place)).first (moment_of (number place) x) v.pages → OwnedGoesOn f spans number place x old new
reached f spans number place x gives old new w v h k g b r =
    let p : ProcessAt f spans (number place) x r.new = window_goes f spans (number place) x gives r.new h (k.is_open place w b.there) g r.goes in
    record {
      now = p.new;
      history = p.history;
      knows = knows_then number place x p.new old new w v k b (ap (λ z. z.pages) p.at ∙ r.has) p.is_open p.others;
      beside = b.beside;
      others = p.others;
      stored = ap (λ z. z.stored) p.at ∙ r.stored;
      world = ap (λ z. z.world) p.at ∙ r.world;
      reads = λ j i t l. each_page_of_all_is_read f spans j i p.new p.history t l;
    }

pub goes : (f : Bool) (spans : ℕ → Span) (number : ℕ → ℕ) (place : ℕ) (x : Process) (gives : (ℕ → Bool) → ℕ → Bool) (old new : Lender) (w v : Window) → ProcessHistory f spans x → Knows number old x →
    GivesFor f (number place) x gives → OneBecomes place old new w v → Became gives (spans (number place)).first (moment_of (number place) x) w v.pages → OwnedGoesOn f spans number place x old new
goes f spans number place x gives old new w v h k g b (is_called c) =
    let first : ℕ = (spans (number place)).first in
    let m : Moment = moment_of (number place) x in
    let kept : IsKept first (spans (number place)).count m = kept_in f spans (number place) x h (k.is_open place w b.there) in
    reached f spans number place x gives old new w v h k g b (call_reaches gives first (spans (number place)).count m v.pages kept c)
goes f spans number place x gives old new w v h k g b (is_reached r) = reached f spans number place x gives old new w v h k g b r
goes f spans number place x gives old new w v h k g b (is_same e) =
    record {
      now = x;
      history = h;
      knows = knows_then number place x x old new w v k b (k.pages place w b.there ∙ sym e) (k.is_open place w b.there) (stays_so (number place) x);
      beside = b.beside;
      others = stays_so (number place) x;
      stored = refl;
      world = refl;
      reads = λ j i o l. each_page_of_all_is_read f spans j i x h o l;
    }

pub same_known : (number : ℕ → ℕ) (x : Process) (old new : Lender) → new.windows ≡ old.windows → Knows number old x → Knows number new x
same_known number x old new e k = record {
  pages = λ i u f. k.pages i u (subst (λ l. window_at i l ≡ Some u) e f);
  is_open = λ i u f. k.is_open i u (subst (λ l. window_at i l ≡ Some u) e f);
  apart = λ i j t u f q n. k.apart i j t u (subst (λ l. window_at i l ≡ Some t) e f) (subst (λ l. window_at j l ≡ Some u) e q) n;
}

pub nothing_goes : (f : Bool) (spans : ℕ → Span) (number : ℕ → ℕ) (place : ℕ) (x : Process) (old new : Lender) → ProcessHistory f spans x → Knows number old x → new.windows ≡ old.windows → OwnedGoesOn f spans number place x old new
nothing_goes f spans number place x old new h k e = record {
  now = x;
  history = h;
  knows = same_known number x old new e k;
  beside = λ j n. ap (λ l. window_at j l) e;
  others = stays_so (number place) x;
  stored = refl;
  world = refl;
  reads = λ j i o l. each_page_of_all_is_read f spans j i x h o l;
}

-- where there is no window, the list of windows stays
pub none_stays : (place : ℕ) (old new : Lender) → new.windows ≡ slice_set old.windows place (window_at place new.windows) → window_at place old.windows ≡ None → window_at place new.windows ≡ None → new.windows ≡ old.windows
none_stays place old new e was is = e ∙ ap (λ o. slice_set old.windows place o) (is ∙ sym was) ∙ set-get_or old.windows place None

pub one_becomes : (place : ℕ) (old new : Lender) (w v : Window) → new.windows ≡ slice_set old.windows place (window_at place new.windows) → window_at place old.windows ≡ Some w → window_at place new.windows ≡ Some v → OneBecomes place old new w v
one_becomes place old new w v e was is = record {
  there = was;
  after = is;
  beside = λ j n. ap (λ l. window_at j l) e ∙ other j place old.windows (window_at place new.windows) n;
}

pub by_place : (f : Bool) (spans : ℕ → Span) (number : ℕ → ℕ) (place : ℕ) (x : Process) (gives : (ℕ → Bool) → ℕ → Bool) (old new : Lender) (Says : Window → List WindowPage → List PartCounts → Type 0) (Nothing : Type 0) → ProcessHistory f spans x →
    Knows number old x → GivesFor f (number place) x gives → new.windows ≡ slice_set old.windows place (window_at place new.windows) → AtPlace (HasPages Says) Nothing (window_at place old.windows) (window_at place new.windows) →
    ((w : Window) (pages : List WindowPage) (counts : List PartCounts) → x.pages (number place) ≡ w.pages → Says w pages counts → Became gives (spans (number place)).first (moment_of (number place) x) w pages) →
    OwnedGoesOn f spans number place x old new
by_place f spans number place x gives old new Says Nothing h k g e at became = pick (window_at place old.windows) (window_at place new.windows) refl refl at where
  pick : (a b : Option Window) → window_at place old.windows ≡ a → window_at place new.windows ≡ b → AtPlace (HasPages Says) Nothing a b → OwnedGoesOn f spans number place x old new
  pick None None was is there = nothing_goes f spans number place x old new h k (none_stays place old new e was is)
  pick None (Some v) was is there = absurd there
  pick (Some w) None was is there = absurd there
  pick (Some w) (Some v) was is there =
      goes f spans number place x gives old new w v h k g (one_becomes place old new w v e was is) (became w v.pages v.counts (k.pages place w was) there.says)

-- ---- counts of parts

pub counted_one : (place : ℕ) (old new : Lender) (w v : Window) → OneBecomes place old new w v → AreCounted old → (Counted w.lead w.pages w.counts → Counted v.lead v.pages v.counts) → AreCounted new
counted_one place old new w v b all step i u e = pick (cases_eq i place) where
  pick : (i ≡ place) ⊎ (i ≡ place → ⊥) → Counted u.lead u.pages u.counts
  pick (inl q) =
      let its : window_at place new.windows ≡ Some u = subst (λ j. window_at j new.windows ≡ Some u) q e in
      subst (λ z. Counted z.lead z.pages z.counts) (some_is v u (sym b.after ∙ its)) (step (all place w b.there))
  pick (inr n) = all i u (sym (b.beside i n) ∙ e)

pub place_counted : (place : ℕ) (old new : Lender) (Says : Window → List WindowPage → List PartCounts → Type 0) (Nothing : Type 0) → new.windows ≡ slice_set old.windows place (window_at place new.windows) →
    AtPlace (HasPages Says) Nothing (window_at place old.windows) (window_at place new.windows) → AreCounted old →
    ((w : Window) (pages : List WindowPage) (counts : List PartCounts) → Says w pages counts → Counted w.lead w.pages w.counts → Counted w.lead pages counts) → AreCounted new
place_counted place old new Says Nothing e at all step = pick (window_at place old.windows) (window_at place new.windows) refl refl at where
  pick : (a b : Option Window) → window_at place old.windows ≡ a → window_at place new.windows ≡ b → AtPlace (HasPages Says) Nothing a b → AreCounted new
  pick None None was is there = λ i u q. all i u (subst (λ l. window_at i l ≡ Some u) (none_stays place old new e was is) q)
  pick None (Some v) was is there = absurd there
  pick (Some w) None was is there = absurd there
  pick (Some w) (Some v) was is there = counted_one place old new w v (one_becomes place old new w v e was is) all
      (λ k. subst (λ lead. Counted lead v.pages v.counts) (sym (ap (λ z. z.lead) there.rest)) (step w v.pages v.counts there.says k))
