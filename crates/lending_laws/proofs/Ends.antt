-- The end of a lender is a step of a history for each page of which it is noted.
use Rattle.std.proofs.Common.{◌≡◌, ◌∙◌, inl, inr, ℕ, zero, suc, ◌+◌, ◌<◌, ◌≤◌, Bool, true, List, [], ◌∷◌, length, Option, Some, None, refl, ap, sym, subst, arith}
use Rattle.std.specs.Prelude.{option_map, slice_get, slice_set}
use Rattle.std.proofs.lemmas.Bool.{cases_lt}
use Rattle.std.proofs.lemmas.Option.{slice_get_within}
use Rattle.page_lender.specs.Decisions.{account}
use Rattle.page_lender.specs.declared.order.Order.{Order}
use Rattle.window_events.specs.declared.page.Page.{Page}
use Rattle.window_pages.specs.Bytes.{belief_of}
use Rattle.window_pages.specs.Lives.{WasDetached, left_page}
use Rattle.window_pages.specs.declared.page.WindowPage.{WindowPage}
use Rattle.window_tables.proofs.Places.{set_length, set_other, set_own}
use Rattle.window_tables.specs.Changes.{RangeChanged}
use Rattle.window_tables.specs.declared.changes.Change.TheVariants.{Detached}
use Rattle.lending_laws.specs.Ends.{EachEndIsWell, EachEndIsWellInAll}
use Rattle.lending_laws.specs.Histories.{CarriedOut, DetachesAt, History, Moment, Nothing, Reads, detaches, without_account}
use Rattle.lending_laws.specs.Processes.{OthersStay, Process, ProcessHistory, Span, moment_of}
use Rattle.lending_laws.specs.Processes as all
use Rattle.lending_laws.proofs.Kept.{IsKept, history_kept, some_page}
use Rattle.lending_laws.proofs.Lender.{one_changes, one_is, other_pending, with_pending}
use Rattle.lending_laws.proofs.Notes.{each_is_detached}
use Rattle.lending_laws.proofs.ProcessCalls.{ProcessAt, both_stay, is_there, kept_in, others_stay, with_window}
use Rattle.lending_laws.proofs.Processes.{each_page_of_all_is_read}

-- ---- one page

-- the moment after its lender has gone: its guard stands still
abbrev left_moment : ℕ → ℕ → Moment → WindowPage → WindowPage → Page → Moment
left_moment first i m x y page = record {
  pages = slice_set m.pages i y;
  orders = with_pending i Nothing m.orders;
  slots = without_account (account (belief_of x)) m.slots;
  stored = m.stored;
  world = record m.world { pages = slice_set m.world.pages (first + i) (left_page m.world.frames true page) };
}

left_step : (first count i : ℕ) (m : Moment) (x y : WindowPage) (page : Page) → i < count → ((order : Order) → m.orders i ≡ CarriedOut order → ⊥) → slice_get m.pages i ≡ Some x →
    slice_get m.world.pages (first + i) ≡ Some page → WasDetached i m.pages y → DetachesAt first count i m (left_moment first i m x y page)
left_step first count i m x y page l told e there d =
    let same : d.page ≡ x = some_is d.page x (sym d.before ∙ e) in
    record {
      within = l;
      told = told;
      before = d.page;
      after = y;
      part = d.part;
      part_after = d.after;
      pages = one_changes m.pages i d.page y d.before;
      becomes = d.becomes;
      orders = one_is i Nothing m.orders;
      slots = ap (λ v. without_account (account (belief_of v)) m.slots) (sym same);
      stored = refl;
      world = record {
        stands = true;
        page = set_own m.world.pages (first + i) page (left_page m.world.frames true page) there ∙ sym (ap (option_map (left_page m.world.frames true)) there);
        others = λ q n. set_other m.world.pages (first + i) q (left_page m.world.frames true page) (λ s. n (sym s));
        frames = refl;
      };
    } where
      some_is : (a b : WindowPage) → Some a ≡ Some b → a ≡ b
      some_is a b e = cc

-- ---- pages, one after another

-- The lender has gone of the pages before a place: the window has their new bytes, and those of the rest are as before.
record GoneUpTo (P : Moment → Type 0) (m : Moment) (new : List WindowPage) (place : ℕ) : Type 0 where
  now : Moment
  holds : P now
  length : length now.pages ≡ length m.pages
  done : (i : ℕ) → i < place → slice_get now.pages i ≡ slice_get new i
  rest : (i : ℕ) → place ≤ i → slice_get now.pages i ≡ slice_get m.pages i
  orders : (i : ℕ) → place ≤ i → now.orders i ≡ m.orders i
  stored : now.stored ≡ m.stored

none_beyond : (xs ys : List WindowPage) (i : ℕ) → length xs ≡ length ys → slice_get xs i ≡ None → slice_get ys i ≡ None
none_beyond [] [] i l e = refl
none_beyond [] (y ∷ ys) i l e = cc
none_beyond (x ∷ xs) [] i l e = cc
none_beyond (x ∷ xs) (y ∷ ys) zero l e = cc
none_beyond (x ∷ xs) (y ∷ ys) (suc i) l e = none_beyond xs ys i (omega (arith, l)) e

all_same : (xs ys : List WindowPage) → length xs ≡ length ys → ((i : ℕ) → slice_get xs i ≡ slice_get ys i) → xs ≡ ys
all_same [] [] l e = refl
all_same [] (y ∷ ys) l e = cc
all_same (x ∷ xs) [] l e = cc
all_same (x ∷ xs) (y ∷ ys) l e =
    let head : Some x ≡ Some y = e 0 in
    let first : x ≡ y = cc in
    let rest : xs ≡ ys = all_same xs ys (omega (arith, l)) (λ i. e (suc i)) in
    subst (λ v. x ∷ xs ≡ v ∷ ys) first (ap (λ v. x ∷ v) rest)

one_more : (P : Moment → Type 0) (first count from n : ℕ) (m : Moment) (new : List WindowPage) → ((old next : Moment) (i : ℕ) → P old → DetachesAt first count i old next → P next) →
    ((now : Moment) → P now → IsKept first count now) → RangeChanged Detached from n m.pages new → ((j : ℕ) (order : Order) → j < n → m.orders (from + j) ≡ CarriedOut order → ⊥) →
    (j : ℕ) → j < n → GoneUpTo P m new (from + j) → GoneUpTo P m new (from + suc j)
one_more P first count from n m new step kept r told j l was = pick (slice_get m.pages (from + j)) refl where
  at : slice_get was.now.pages (from + j) ≡ slice_get m.pages (from + j)
  at = was.rest (from + j) (omega arith)

  pick : (o : Option WindowPage) → slice_get m.pages (from + j) ≡ o → GoneUpTo P m new (from + suc j)
  pick None e = record {
    now = was.now;
    holds = was.holds;
    length = was.length;
    done = λ i b. elim (cases_lt i (from + j)) [ inl before ↦ was.done i before | inr past ↦ subst (λ v. slice_get was.now.pages v ≡ slice_get new v) (omega (arith, b, past)) (at ∙ e ∙ sym (none_beyond m.pages new (from + j) (sym r.length) e)) ];
    rest = λ i b. was.rest i (omega (arith, b));
    orders = λ i b. was.orders i (omega (arith, b));
    stored = was.stored;
  }
  pick (Some x) e =
      let k : IsKept first count was.now = kept was.now was.holds in
      let here : from + j < count = omega (arith, slice_get_within m.pages (from + j) x e, k.many, was.length) in
      let found : (y : WindowPage) × (slice_get new (from + j) ≡ Some y) = some_page new (from + j) (omega (arith, slice_get_within m.pages (from + j) x e, r.length)) in
      let reads : Reads was.now.world (first + (from + j)) (was.now.stored (first + (from + j))) = k.reads (from + j) here in
      let d : WasDetached (from + j) was.now.pages found.0 = each_is_detached j (from + j) was.now.pages x found.0 (r.inside j x found.0 l e found.1) (at ∙ e) in
      let then : Moment = left_moment first (from + j) was.now x found.0 reads.page in
      let did : DetachesAt first count (from + j) was.now then =
      left_step first count (from + j) was.now x found.0 reads.page here (λ order s. told j order l (sym (was.orders (from + j) (omega arith)) ∙ s)) (at ∙ e) reads.there d in
      record {
        now = then;
        holds = step was.now then (from + j) was.holds did;
        length = set_length was.now.pages (from + j) found.0 ∙ was.length;
        done = λ i b. elim (cases_lt i (from + j)) [ inl before ↦ set_other was.now.pages (from + j) i found.0 (λ s. omega (arith, before, s)) ∙ was.done i before | inr past ↦ subst (λ v. slice_get then.pages v ≡ slice_get new v) (omega (arith, b, past)) (set_own was.now.pages (from + j) x found.0 (at ∙ e) ∙ sym found.1) ];
        rest = λ i b. set_other was.now.pages (from + j) i found.0 (λ s. omega (arith, b, s)) ∙ was.rest i (omega (arith, b));
        orders = λ i b. other_pending (from + j) i Nothing (was.now.orders i) (λ s. omega (arith, b, s)) ∙ was.orders i (omega (arith, b));
        stored = was.stored;
      }

gone_up_to : (P : Moment → Type 0) (first count from n : ℕ) (m : Moment) (new : List WindowPage) → ((old next : Moment) (i : ℕ) → P old → DetachesAt first count i old next → P next) →
    ((now : Moment) → P now → IsKept first count now) → P m → RangeChanged Detached from n m.pages new → ((j : ℕ) (order : Order) → j < n → m.orders (from + j) ≡ CarriedOut order → ⊥) →
    (j : ℕ) → j ≤ n → GoneUpTo P m new (from + j)
gone_up_to P first count from n m new step kept p r told zero l = record {
  now = m;
  holds = p;
  length = refl;
  done = λ i b. sym (r.outside i (inl (omega (arith, b))));
  rest = λ i b. refl;
  orders = λ i b. refl;
  stored = refl;
}
gone_up_to P first count from n m new step kept p r told (suc j) l =
    one_more P first count from n m new step kept r told j (omega (arith, l)) (gone_up_to P first count from n m new step kept p r told j (omega (arith, l)))

-- no other page changes
past_same : (from n : ℕ) (old new : List WindowPage) → RangeChanged Detached from n old new → (i : ℕ) → from + n ≤ i → slice_get old i ≡ slice_get new i
past_same from n old new r i l = elim (cases_lt (from + n) i) [ inl beyond ↦ sym (r.outside i (inr beyond)) | inr edge ↦ subst (λ v. slice_get old v ≡ slice_get new v) (omega (arith, l, edge)) (pick (slice_get old (from + n)) refl) ] where
  pick : (o : Option WindowPage) → slice_get old (from + n) ≡ o → slice_get old (from + n) ≡ slice_get new (from + n)
  pick None e = e ∙ sym (none_beyond old new (from + n) (sym r.length) e)
  pick (Some x) e =
      let found : (y : WindowPage) × (slice_get new (from + n) ≡ Some y) = some_page new (from + n) (omega (arith, slice_get_within old (from + n) x e, r.length)) in
      e ∙ sym (found.1 ∙ ap (λ v. Some v) ((r.behind x found.0 e found.1).same refl))

all_gone : (P : Moment → Type 0) (from n : ℕ) (m : Moment) (new : List WindowPage) → RangeChanged Detached from n m.pages new → (g : GoneUpTo P m new (from + n)) → g.now.pages ≡ new
all_gone P from n m new r g = all_same g.now.pages new (g.length ∙ sym r.length) (λ i. elim (cases_lt i (from + n)) [ inl before ↦ g.done i before | inr past ↦ g.rest i past ∙ past_same from n m.pages new r i past ])

pub each_end_is_well : EachEndIsWell
each_end_is_well may_give first count from n m new h e =
    let r : RangeChanged Detached from n m.pages new = e.notes.pages refl in
    let g : GoneUpTo (History may_give first count) m new (from + n) =
    gone_up_to (History may_give first count) first count from n m new (λ old next i p d. detaches old next i p d) (λ now p. history_kept may_give first count now p) h r e.told n (omega arith) in
    record { new = g.now; history = g.holds; has = all_gone (History may_give first count) from n m new r g; stored = g.stored; reads = (history_kept may_give first count g.now g.holds).reads }

-- ---- in a process

detached_in : (f : Bool) (spans : ℕ → Span) (k : ℕ) (x : Process) (old next : Moment) (i : ℕ) → ProcessAt f spans k x old → DetachesAt (spans k).first (spans k).count i old next → ProcessAt f spans k x next
detached_in f spans k x old next i was d =
    let new : Process = with_window k next was.new in
    let from_there : DetachesAt (spans k).first (spans k).count i (moment_of k was.new) next = subst (λ v. DetachesAt (spans k).first (spans k).count i v next) (sym was.at) d in
    let did : DetachesAt (spans k).first (spans k).count i (moment_of k was.new) (moment_of k new) = subst (λ v. DetachesAt (spans k).first (spans k).count i (moment_of k was.new) v) (sym (is_there k next was.new)) from_there in
    record {
      new = new;
      history = all.detaches was.new new k i was.history (record { before = was.is_open; after = was.is_open }) (others_stay k next was.new) did;
      at = is_there k next was.new;
      is_open = was.is_open;
      others = both_stay k x was.new new was.others (others_stay k next was.new);
    }

pub each_end_is_well_in_all : EachEndIsWellInAll
each_end_is_well_in_all f spans k from n x pages h o e =
    let r : RangeChanged Detached from n (x.pages k) pages = e.notes.pages refl in
    let begun : ProcessAt f spans k x (moment_of k x) = record { new = x; history = h; at = refl; is_open = o; others = λ j ne. record { is_open = refl; pages = refl; orders = refl; slots = refl } } in
    let g : GoneUpTo (ProcessAt f spans k x) (moment_of k x) pages (from + n) =
    gone_up_to (ProcessAt f spans k x) (spans k).first (spans k).count from n (moment_of k x) pages (λ old next i p d. detached_in f spans k x old next i p d)
    (λ now p. subst (λ v. IsKept (spans k).first (spans k).count v) p.at (kept_in f spans k p.new p.history p.is_open)) begun r e.told n (omega arith) in
    let p : ProcessAt f spans k x g.now = g.holds in
    record {
      new = p.new;
      history = p.history;
      has = ap (λ v. v.pages) p.at ∙ all_gone (ProcessAt f spans k x) from n (moment_of k x) pages r g;
      is_open = p.is_open;
      others = p.others;
      stored = ap (λ v. v.stored) p.at ∙ g.stored;
      reads = λ j i t l. each_page_of_all_is_read f spans j i p.new p.history t l;
    }
