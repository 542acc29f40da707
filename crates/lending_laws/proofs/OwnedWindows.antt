-- Windows of a value that owns all windows of a process come and go in the process's history, and their lender may end.
use Rattle.std.proofs.Common.{◌≡◌, ◌∙◌, ◌⊎◌, inl, inr, ℕ, ◌+◌, ◌-◌, ◌*◌, ◌%◌, ◌<◌, ◌≤◌, Bool, true, false, cond, List, [], ◌∷◌, ◌++◌, length, Option, Some, None, refl, ap, sym, subst, arith}
use Rattle.std.proofs.lemmas.Bool.{cases_eq, cases_lt, lt-ltb, ltb-true}
use Rattle.std.proofs.lemmas.Grind.{div_ceil_times}
use Rattle.std.proofs.lemmas.List.{get_or-append_right, get_or-set_same, get_or_append_left, get_or_past, get_or_push}
use Rattle.std.proofs.lemmas.List.Quantifiers.{position-Some}
use Rattle.std.specs.Option.{option_map_or}
use Rattle.std.specs.Prelude.{is_none, nat_eq, nat_lt, position, replicate, slice_index_or, slice_set, unwrap_or}
use Rattle.page_lender.specs.declared.order.Order.{Order}
use Rattle.process_lender.specs.Notices.{TakesNote}
use Rattle.process_lender.specs.Offers.{can_leave, can_take_out, first_free, new_window, parts_in, with_first}
use Rattle.process_lender.specs.Windows.{AtPlace, Lender, Stay, Window, window_at}
use Rattle.process_lender.specs.declared.facts.WindowState.{WindowState}
use Rattle.process_lender.specs.declared.notice.Notice.TheVariants.{Detached}
use Rattle.window_pages.specs.Laws.{new_page, no_counts}
use Rattle.window_tables.proofs.Counts.{each_is_counted_still}
use Rattle.window_tables.specs.Laws as table
use Rattle.window_tables.specs.Tables.{Counted, Notes}
use Rattle.window_tables.specs.declared.changes.Change.TheVariants as Change
use Rattle.lending_laws.proofs.Ends.{each_end_is_well_in_all}
use Rattle.lending_laws.proofs.OwnedPlaces.{OneBecomes, counted_one, knows_then, none_stays, one_becomes, other, same_known, some_is, stays_so}
use Rattle.lending_laws.proofs.OwnedStays.{in_list}
use Rattle.lending_laws.proofs.ProcessCalls.{its_own, of_others}
use Rattle.lending_laws.proofs.Processes.{each_page_of_all_is_read}
use Rattle.lending_laws.specs.Ends.{Ends, ProcessEndsWell}
use Rattle.lending_laws.specs.Histories.{Begins, CarriedOut, Nothing, Pending}
use Rattle.lending_laws.specs.Owned.{AreCounted, Knows}
use Rattle.lending_laws.specs.OwnedWindows.{EachOfferGoesOn, EachOwnedBegins, EachOwnedEndIsWell, EachTakeOutGoesOn, OfferIsSo, OwnedEndsWell, with_number}
use Rattle.lending_laws.specs.Processes as all
use Rattle.lending_laws.specs.Processes.{Closes, Opens, OthersStay, Process, ProcessHistory, Span, moment_of}

-- ---- a new process

none_at : (place : ℕ) → window_at place [] ≡ None
none_at place = get_or_past [] place None (omega arith)

none_is : (place : ℕ) (w : Window) → window_at place [] ≡ Some w → ⊥
none_is place w e = let no : Some w ≡ None = sym e ∙ none_at place in cc

pub each_owned_begins : EachOwnedBegins
each_owned_begins number x facts = record {
  knows = record { pages = λ place w e. absurd (none_is place w e); is_open = λ place w e. absurd (none_is place w e); apart = λ i j v w e f q. absurd (none_is i v e) };
  counted = λ place w e. absurd (none_is place w e);
}

-- ---- the place of a window that comes

-- A window is at a place where none was, and the others are as they were.
record IsPut (place : ℕ) (w : Window) (old new : List (Option Window)) : Type 0 where
  was_free : window_at place old ≡ None
  at : window_at place new ≡ Some w
  beside : (j : ℕ) → (j ≡ place → ⊥) → window_at j new ≡ window_at j old

nothing_if : (o : Option Window) → is_none o ≡ true → o ≡ None
nothing_if None e = refl
nothing_if (Some w) e = cc

put_among : (i : ℕ) (w : Window) (ws : List (Option Window)) → position is_none ws ≡ Some i → IsPut i w ws (slice_set ws i (Some w))
put_among i w ws e =
    let its : (i < length ws) × (is_none (slice_index_or ws i None) ≡ true) × ((k : ℕ) → k < i → is_none (slice_index_or ws k None) ≡ false) = position-Some is_none ws i None e in
    record {
      was_free = nothing_if (window_at i ws) its.1;
      at = get_or-set_same ws i (Some w) None its.0;
      beside = λ j n. other j i ws (Some w) n;
    }

put_behind : (w : Window) (ws : List (Option Window)) → IsPut (length ws) w ws (ws ++ Some w ∷ [])
put_behind w ws = record {
  was_free = get_or_past ws (length ws) None (omega arith);
  at = get_or_push ws (Some w) None (length ws) refl;
  beside = λ j n. elim (cases_lt j (length ws)) [ inl l ↦ get_or_append_left ws (Some w ∷ []) None j l | inr l ↦ beyond j n l ];
} where
  past : (j : ℕ) → (j ≡ length ws → ⊥) → length ws ≤ j → length ws < j
  past j n l = elim (cases_lt (length ws) j) [ inl more ↦ more | inr less ↦ absurd (n (omega (arith, l, less))) ]

  beyond : (j : ℕ) → (j ≡ length ws → ⊥) → length ws ≤ j → window_at j (ws ++ Some w ∷ []) ≡ window_at j ws
  beyond j n l = get_or-append_right ws (Some w ∷ []) (length ws) j None refl l ∙ get_or_past (Some w ∷ []) (j - length ws) None (omega (arith, past j n l)) ∙ sym (get_or_past ws j None l)

abbrev IsPutBy : Window → List (Option Window) → ℕ → Type 0
IsPutBy w ws place = IsPut place w ws (cond (nat_lt place (length ws)) (slice_set ws place (Some w)) (ws ++ Some w ∷ []))

is_put : (w : Window) (ws : List (Option Window)) → IsPut (first_free ws) w ws (with_first w ws)
is_put w ws = pick (position is_none ws) refl where
  within : (i : ℕ) (b : Bool) → nat_lt i (length ws) ≡ b → i < length ws → IsPut i w ws (slice_set ws i (Some w)) → IsPut i w ws (cond b (slice_set ws i (Some w)) (ws ++ Some w ∷ []))
  within i true e l p = p
  within i false e l p = let no : true ≡ false = sym (lt-ltb i (length ws) l) ∙ e in cc

  behind : (b : Bool) → nat_lt (length ws) (length ws) ≡ b → IsPut (length ws) w ws (cond b (slice_set ws (length ws) (Some w)) (ws ++ Some w ∷ []))
  behind true e = let no : length ws < length ws = ltb-true (length ws) (length ws) e in absurd (omega (arith, no))
  behind false e = put_behind w ws

  pick : (o : Option ℕ) → position is_none ws ≡ o → IsPutBy w ws (unwrap_or o (length ws))
  pick None e = behind (nat_lt (length ws) (length ws)) refl
  pick (Some i) e = within i (nat_lt i (length ws)) refl (position-Some is_none ws i None e).0 (put_among i w ws e)

-- ---- a window comes

abbrev no_orders : ℕ → Pending
no_orders i = Nothing

abbrev no_slots : ℕ → Bool
no_slots s = false

-- the process where a window of so many pages has opened
abbrev opened : ℕ → ℕ → Process → Process
opened k count x = record {
  is_open = λ j. cond (nat_eq j k) true (x.is_open j);
  pages = λ j. cond (nat_eq j k) (replicate count new_page) (x.pages j);
  orders = λ j. cond (nat_eq j k) no_orders (x.orders j);
  slots = λ j. cond (nat_eq j k) no_slots (x.slots j);
  stored = x.stored;
  world = x.world;
}

its_begin : (spans : ℕ → Span) (k first count : ℕ) (x : Process) → OfferIsSo spans k first count x → Begins (spans k).first (spans k).count (moment_of k (opened k count x))
its_begin spans k first count x o =
    subst (λ n. Begins n (spans k).count (moment_of k (opened k count x))) (sym o.starts)
    (subst (λ n. Begins first n (moment_of k (opened k count x))) (sym o.many)
    (record {
      pages = its_own k (replicate count new_page) (x.pages k);
      orders = λ i. ap (λ v. v i) (its_own k no_orders (x.orders k));
      slots = λ s. ap (λ v. v s) (its_own k no_slots (x.slots k));
      reads = o.reads;
      believes = o.believes;
    }))

others_as : (k count : ℕ) (x : Process) → OthersStay k x (opened k count x)
others_as k count x j n = record {
  is_open = of_others j k true (x.is_open j) n;
  pages = of_others j k (replicate count new_page) (x.pages j) n;
  orders = of_others j k no_orders (x.orders j) n;
  slots = of_others j k no_slots (x.slots j) n;
}

it_opens : (spans : ℕ → Span) (k first count : ℕ) (x : Process) → OfferIsSo spans k first count x → Opens spans k x (opened k count x)
it_opens spans k first count x o = record {
  before = o.closed;
  after = its_own k true (x.is_open k);
  apart = o.apart;
  begins = its_begin spans k first count x o;
  others = others_as k count x;
  stored = refl;
  world = refl;
}

-- a window that the lender has isn't the one that opens
not_new : (number : ℕ → ℕ) (k i : ℕ) (x : Process) (old : Lender) (u : Window) → Knows number old x → x.is_open k ≡ false → window_at i old.windows ≡ Some u → number i ≡ k → ⊥
not_new number k i x old u known closed e q = let was : x.is_open k ≡ true = subst (λ v. x.is_open v ≡ true) q (known.is_open i u e) in let no : true ≡ false = sym was ∙ closed in cc

number_there : (place k : ℕ) (number : ℕ → ℕ) → with_number place k number place ≡ k
number_there place k number = its_own place k (number place)

number_beside : (place k j : ℕ) (number : ℕ → ℕ) → (j ≡ place → ⊥) → with_number place k number j ≡ number j
number_beside place k j number n = of_others j place k (number j) n

pages_then : (number : ℕ → ℕ) (place k first count seams i : ℕ) (state : WindowState) (x : Process) (old new : Lender) (u : Window) → Knows number old x → x.is_open k ≡ false → IsPut place (new_window first count seams state) old.windows new.windows →
    window_at i new.windows ≡ Some u → (opened k count x).pages (with_number place k number i) ≡ u.pages
pages_then number place k first count seams i state x old new u known closed p e = pick (cases_eq i place) where
  pick : (i ≡ place) ⊎ (i ≡ place → ⊥) → (opened k count x).pages (with_number place k number i) ≡ u.pages
  pick (inl q) =
      let its : window_at place new.windows ≡ Some u = subst (λ j. window_at j new.windows ≡ Some u) q e in
      let same : new_window first count seams state ≡ u = some_is (new_window first count seams state) u (sym p.at ∙ its) in
      let there : with_number place k number i ≡ k = subst (λ j. with_number place k number j ≡ k) (sym q) (number_there place k number) in
      ap (λ v. (opened k count x).pages v) there ∙ its_own k (replicate count new_page) (x.pages k) ∙ ap (λ z. z.pages) same
  pick (inr n) =
      let was : window_at i old.windows ≡ Some u = sym (p.beside i n) ∙ e in
      ap (λ v. (opened k count x).pages v) (number_beside place k i number n) ∙ (others_as k count x (number i) (not_new number k i x old u known closed was)).pages ∙ known.pages i u was

open_then : (number : ℕ → ℕ) (place k count i : ℕ) (x : Process) (w : Window) (old new : Lender) (u : Window) → Knows number old x → x.is_open k ≡ false → IsPut place w old.windows new.windows →
    window_at i new.windows ≡ Some u → (opened k count x).is_open (with_number place k number i) ≡ true
open_then number place k count i x w old new u known closed p e = pick (cases_eq i place) where
  pick : (i ≡ place) ⊎ (i ≡ place → ⊥) → (opened k count x).is_open (with_number place k number i) ≡ true
  pick (inl q) =
      let there : with_number place k number i ≡ k = subst (λ j. with_number place k number j ≡ k) (sym q) (number_there place k number) in
      ap (λ v. (opened k count x).is_open v) there ∙ its_own k true (x.is_open k)
  pick (inr n) =
      let was : window_at i old.windows ≡ Some u = sym (p.beside i n) ∙ e in
      ap (λ v. (opened k count x).is_open v) (number_beside place k i number n) ∙ (others_as k count x (number i) (not_new number k i x old u known closed was)).is_open ∙ known.is_open i u was

apart_then : (number : ℕ → ℕ) (place k i j : ℕ) (x : Process) (w : Window) (old new : Lender) (t u : Window) → Knows number old x → x.is_open k ≡ false → IsPut place w old.windows new.windows →
    window_at i new.windows ≡ Some t → window_at j new.windows ≡ Some u → with_number place k number i ≡ with_number place k number j → i ≡ j
apart_then number place k i j x w old new t u known closed p e f same = pick (cases_eq i place) (cases_eq j place) where
  its : (n : ℕ) → n ≡ place → with_number place k number n ≡ k
  its n q = subst (λ v. with_number place k number v ≡ k) (sym q) (number_there place k number)

  pick : (i ≡ place) ⊎ (i ≡ place → ⊥) → (j ≡ place) ⊎ (j ≡ place → ⊥) → i ≡ j
  pick (inl a) (inl b) = a ∙ sym b
  pick (inl a) (inr b) = absurd (not_new number k j x old u known closed (sym (p.beside j b) ∙ f) (sym (number_beside place k j number b) ∙ sym same ∙ its i a))
  pick (inr a) (inl b) = absurd (not_new number k i x old t known closed (sym (p.beside i a) ∙ e) (sym (number_beside place k i number a) ∙ same ∙ its j b))
  pick (inr a) (inr b) =
      known.apart i j t u (sym (p.beside i a) ∙ e) (sym (p.beside j b) ∙ f) (sym (number_beside place k i number a) ∙ same ∙ number_beside place k j number b)

new_counted : (first count seams : ℕ) (state : WindowState) → Counted (first % 512) (replicate count new_page) (replicate (parts_in (first % 512) count) no_counts)
new_counted first count seams state =
    let many : ℕ = parts_in (first % 512) count in
    let enough : (count + first % 512 ≤ many * 512) × (many * 512 < count + first % 512 + 512) = div_ceil_times (count + first % 512) 512 (omega arith) in
    each_is_counted_still (first % 512) count many (omega arith) (omega (arith, enough.0)) (replicate count new_page) (replicate many no_counts) table.begins

put_counted : (place : ℕ) (w : Window) (old new : Lender) → IsPut place w old.windows new.windows → Counted w.lead w.pages w.counts → AreCounted old → AreCounted new
put_counted place w old new p c all i u e = pick (cases_eq i place) where
  pick : (i ≡ place) ⊎ (i ≡ place → ⊥) → Counted u.lead u.pages u.counts
  pick (inl q) =
      let its : window_at place new.windows ≡ Some u = subst (λ j. window_at j new.windows ≡ Some u) q e in
      subst (λ z. Counted z.lead z.pages z.counts) (some_is w u (sym p.at ∙ its)) c
  pick (inr n) = all i u (sym (p.beside i n) ∙ e)

pub each_offer_goes_on : EachOfferGoesOn
each_offer_goes_on f spans number k first count seams state x old new h known o e =
    let place : ℕ = first_free old.windows in
    let w : Window = new_window first count seams state in
    let p : IsPut place w old.windows new.windows = subst (λ v. IsPut place w old.windows v) (sym (ap (λ l. l.windows) e)) (is_put w old.windows) in
    let now : Process = opened k count x in
    let history : ProcessHistory f spans now = all.opens x now k h (it_opens spans k first count x o) in
    record {
      now = now;
      history = history;
      opened = its_own k true (x.is_open k);
      knows = record {
        pages = λ i u a. pages_then number place k first count seams i state x old new u known o.closed p a;
        is_open = λ i u a. open_then number place k count i x w old new u known o.closed p a;
        apart = λ i j t u a b s. apart_then number place k i j x w old new t u known o.closed p a b s;
      };
      was_free = p.was_free;
      beside = p.beside;
      others = others_as k count x;
      stored = refl;
      world = refl;
      reads = λ j i t l. each_page_of_all_is_read f spans j i now history t l;
      counted = put_counted place w old new p (new_counted first count seams state);
    }

-- ---- a window goes

-- the process where a window has closed
abbrev closed : ℕ → Process → Process
closed k x = record x { is_open = λ j. cond (nat_eq j k) false (x.is_open j) }

others_open : (k : ℕ) (x : Process) → OthersStay k x (closed k x)
others_open k x j n = record { is_open = of_others j k false (x.is_open j) n; pages = refl; orders = refl; slots = refl }

can_leave_there : (place : ℕ) (ws : List (Option Window)) → can_take_out place ws ≡ true → (w : Window) × (window_at place ws ≡ Some w)
can_leave_there place ws e = pick (window_at place ws) refl e where
  pick : (o : Option Window) → window_at place ws ≡ o → option_map_or can_leave o false ≡ true → (w : Window) × (window_at place ws ≡ Some w)
  pick None was e = let no : false ≡ true = e in cc
  pick (Some w) was e = (w, was)

-- the windows, of which the one at a place is taken out
record IsGone (place : ℕ) (old new : List (Option Window)) : Type 0 where
  is_free : window_at place new ≡ None
  beside : (j : ℕ) → (j ≡ place → ⊥) → window_at j new ≡ window_at j old

is_gone : (place : ℕ) (ws : List (Option Window)) (w : Window) → window_at place ws ≡ Some w → IsGone place ws (slice_set ws place None)
is_gone place ws w e = record { is_free = get_or-set_same ws place None None (in_list place ws w e); beside = λ j n. other j place ws None n }

not_gone : (place i : ℕ) (old new : List (Option Window)) (u : Window) → IsGone place old new → window_at i new ≡ Some u → i ≡ place → ⊥
not_gone place i old new u g e q = let its : window_at place new ≡ Some u = subst (λ j. window_at j new ≡ Some u) q e in let no : Some u ≡ None = sym its ∙ g.is_free in cc

pub each_take_out_goes_on : EachTakeOutGoesOn
each_take_out_goes_on f spans number place x old new h known can free e =
    let k : ℕ = number place in
    let its : (w : Window) × (window_at place old.windows ≡ Some w) = can_leave_there place old.windows can in
    let g : IsGone place old.windows new.windows = subst (λ v. IsGone place old.windows v) (sym (ap (λ l. l.windows) e)) (is_gone place old.windows its.0 its.1) in
    let now : Process = closed k x in
    let closes : Closes k x now = record {
      before = known.is_open place its.0 its.1;
      after = its_own k false (x.is_open k);
      free = free;
      others = others_open k x;
      stored = refl;
      world = refl;
    } in
    let history : ProcessHistory f spans now = all.closes x now k h closes in
    let was : (i : ℕ) (u : Window) → window_at i new.windows ≡ Some u → window_at i old.windows ≡ Some u = λ i u a. sym (g.beside i (not_gone place i old.windows new.windows u g a)) ∙ a in
    record {
      now = now;
      history = history;
      closed = its_own k false (x.is_open k);
      knows = record {
        pages = λ i u a. known.pages i u (was i u a);
        is_open = λ i u a. of_others (number i) k false (x.is_open (number i)) (λ q. not_gone place i old.windows new.windows u g a (known.apart i place u its.0 (was i u a) its.1 q)) ∙ known.is_open i u (was i u a);
        apart = λ i j t u a b s. known.apart i j t u (was i t a) (was j u b) s;
      };
      is_free = g.is_free;
      beside = g.beside;
      others = others_open k x;
      stored = refl;
      world = refl;
      reads = λ j i t l. each_page_of_all_is_read f spans j i now history t l;
      counted = λ c i u a. c i u (was i u a);
    }

-- ---- a lender's end

nothing_ends : (f : Bool) (spans : ℕ → Span) (number : ℕ → ℕ) (place : ℕ) (x : Process) (old new : Lender) → ProcessHistory f spans x → Knows number old x → new.windows ≡ old.windows → OwnedEndsWell f spans number place x old new
nothing_ends f spans number place x old new h known e = record {
  now = x;
  history = h;
  knows = same_known number x old new e known;
  beside = λ j n. ap (λ l. window_at j l) e;
  others = stays_so (number place) x;
  stored = refl;
  reads = λ j i o l. each_page_of_all_is_read f spans j i x h o l;
  counted = λ c i u q. c i u (subst (λ l. window_at i l ≡ Some u) e q);
}

window_ends : (f : Bool) (spans : ℕ → Span) (number : ℕ → ℕ) (place from n : ℕ) (is : Bool) (x : Process) (old new : Lender) (w v : Window) → ProcessHistory f spans x → Knows number old x → OneBecomes place old new w v → v.lead ≡ w.lead →
    Notes Change.Detached w.lead from n is w.pages v.pages w.counts v.counts → (is ≡ true → (j : ℕ) (order : Order) → j < n → x.orders (number place) (from + j) ≡ CarriedOut order → ⊥) → OwnedEndsWell f spans number place x old new
window_ends f spans number place from n true x old new w v h known b lead notes told =
    let there : Notes Change.Detached w.lead from n true (x.pages (number place)) v.pages w.counts v.counts =
    subst (λ pages. Notes Change.Detached w.lead from n true pages v.pages w.counts v.counts) (sym (known.pages place w b.there)) notes in
    let its : Ends from n (moment_of (number place) x) v.pages = record { lead = w.lead; parts = w.counts; parts_new = v.counts; notes = there; told = told refl } in
    let p : ProcessEndsWell f spans (number place) x v.pages = each_end_is_well_in_all f spans (number place) from n x v.pages h (known.is_open place w b.there) its in
    record {
      now = p.new;
      history = p.history;
      knows = knows_then number place x p.new old new w v known b p.has p.is_open p.others;
      beside = b.beside;
      others = p.others;
      stored = p.stored;
      reads = p.reads;
      counted = λ c. counted_one place old new w v b c (λ k. subst (λ l. Counted l v.pages v.counts) (sym lead) (notes.counted k));
    }
window_ends f spans number place from n false x old new w v h known b lead notes told = record {
  now = x;
  history = h;
  knows = knows_then number place x x old new w v known b (known.pages place w b.there ∙ sym (notes.same refl)) (known.is_open place w b.there) (stays_so (number place) x);
  beside = b.beside;
  others = stays_so (number place) x;
  stored = refl;
  reads = λ j i o l. each_page_of_all_is_read f spans j i x h o l;
  counted = λ c. counted_one place old new w v b c (λ k. subst (λ l. Counted l v.pages v.counts) (sym lead) (notes.counted k));
}

pub each_owned_end_is_well : EachOwnedEndIsWell
each_owned_end_is_well f spans number place from n is x old new h known c told = pick (window_at place old.windows) (window_at place new.windows) refl refl c.there where
  windows : new.windows ≡ slice_set old.windows place (window_at place new.windows)
  windows = ap (λ l. l.windows) c.others

  pick : (a b : Option Window) → window_at place old.windows ≡ a → window_at place new.windows ≡ b →
      AtPlace (TakesNote Detached old.facts from n is old.mappings new.mappings) (Stay (is ≡ false) old.mappings new.mappings) a b → OwnedEndsWell f spans number place x old new
  pick None None was after there = nothing_ends f spans number place x old new h known (none_stays place old new windows was after)
  pick None (Some v) was after there = absurd there
  pick (Some w) None was after there = absurd there
  pick (Some w) (Some v) was after there =
      window_ends f spans number place from n is x old new w v h known (one_becomes place old new w v windows was after) (ap (λ z. z.lead) there.rest) there.says.becomes told
