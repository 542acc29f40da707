-- What is believed of one page, beside what is pending of it.
use Rattle.std.proofs.Common.{◌≡◌, ◌∙◌, ℕ, Bool, true, false, cond, not, ◌&&◌, ◌||◌, inl, inr, Some, refl, ap, sym, subst}
use Rattle.std.specs.Prelude.{slice_get}
use Rattle.page_lender.specs.Decisions.{due, is_barred, is_given, is_private, order_at, order_home, prepared, touches}
use Rattle.page_lender.specs.Events.{Believes, DoneByEvents, Done_is_true, Fits, done_events}
use Rattle.page_lender.specs.Lender.{discarded_of, heard_of}
use Rattle.page_lender.specs.declared.belief.Belief.{Belief}
use Rattle.page_lender.specs.declared.belief.Belief.TheVariants.{Private, Chosen, Copied, Turning, Shown, Leaving}
use Rattle.page_lender.specs.declared.belief.Homing.{Homing}
use Rattle.page_lender.specs.declared.belief.Homing.TheVariants.{Off, InPlace, Elsewhere}
use Rattle.page_lender.specs.declared.belief.Stage.{Stage}
use Rattle.page_lender.specs.declared.belief.Stage.TheVariants.{Ready, Held, Equal, LettingGo}
use Rattle.page_lender.specs.declared.belief.Target.{Target}
use Rattle.page_lender.specs.declared.order.Notice.{Notice}
use Rattle.page_lender.specs.declared.order.Notice.TheVariants.{Written, Discarded}
use Rattle.page_lender.specs.declared.order.Order.{Order}
use Rattle.page_lender.specs.declared.order.Order.TheVariants.{Wait}
use Rattle.page_lender.specs.declared.order.Outcome.{Outcome}
use Rattle.page_lender.specs.declared.order.Outcome.TheVariants.{Done, Lent, Refused, Unknown}
use Rattle.window_events.specs.Played.{played}
use Rattle.window_events.specs.Windows.{Mappings, shown_in}
use Rattle.window_events.specs.declared.page.Page.{Page}
use Rattle.page_lender.specs.Calls.{IsDone}
use Rattle.window_pages.specs.Bytes.{belief_of, known_of}
use Rattle.window_pages.specs.Changed.{lender_with}
use Rattle.window_pages.specs.Known.{chosen_as, no_bars}
use Rattle.window_pages.specs.declared.page.WindowPage.{WindowPage}
use Rattle.lending_laws.specs.Histories.{Calls, CarriedOut, Given, IsTold, Nothing, Pending, chooses, gives_up, hears, notes, orders, pending_after}

-- what an order that was carried out leaves right to believe, once its outcome is told
pub record Awaits (p : ℕ) (b : Belief) (w : Mappings) (order : Order) : Type 0 where
  pub done : (new : Belief) → DoneByEvents b order Done new → Believes new w p
  pub unknown : (new : Belief) → DoneByEvents b order Unknown new → Believes new w p

-- the order that is open is the one that is due
pub record Opens (b : Belief) (ordered : Bool) (order : Order) : Type 0 where
  pub is_open : ordered ≡ true
  pub is_due : order ≡ due b
  pub given : is_given order ≡ true

abbrev pub IsFine : ℕ → Belief → Bool → Mappings → Pending → Type 0
IsFine p b ordered w Nothing = (ordered ≡ false) × Believes b w p
IsFine p b ordered w (Given order) = Opens b ordered order × Believes b w p
IsFine p b ordered w (CarriedOut order) = Opens b ordered order × Awaits p b w order

-- mappings change, and whatever was right to believe stays so
pub fine_moved : (p : ℕ) (b : Belief) (ordered : Bool) (w next : Mappings) (pending : Pending) → ((c : Belief) → Believes c w p → Believes c next p) → IsFine p b ordered w pending → IsFine p b ordered next pending
fine_moved p b ordered w next Nothing k f = (f.0, k b f.1)
fine_moved p b ordered w next (Given order) k f = (f.0, k b f.1)
fine_moved p b ordered w next (CarriedOut order) k f = (f.0, record { done = λ new h. k new (f.1.done new h); unknown = λ new h. k new (f.1.unknown new h) })

pub fine_same : (p : ℕ) (b c : Belief) (ordered next : Bool) (w : Mappings) (pending : Pending) → c ≡ b → next ≡ ordered → IsFine p b ordered w pending → IsFine p c next w pending
fine_same p b c ordered next w pending e o f = subst (λ v. IsFine p v next w pending) (sym e) (subst (λ v. IsFine p b v w pending) (sym o) f)

-- a page that is private has no order
given_not_private : (b : Belief) (order : Order) → order ≡ due b → is_given order ≡ true → is_private b ≡ false
given_not_private Private order e g = let its : is_given (due Private) ≡ true = subst (λ o. is_given o ≡ true) e g in cc
given_not_private Chosen order e g = refl
given_not_private Copied order e g = refl
given_not_private (Turning stage target) order e g = refl
given_not_private (Shown slot n homing) order e g = refl
given_not_private (Leaving slot) order e g = refl

-- an order of a page on its way touches the page, and so does one to give a page a copy of its own
pub turning_touches : (stage : Stage) (target : Target) → touches (order_at stage target) ≡ true
turning_touches Ready target = refl
turning_touches Held target = refl
turning_touches Equal target = refl
turning_touches LettingGo target = refl

home_touches : (homing : Homing) → is_given (order_home homing) ≡ true → touches (order_home homing) ≡ true
home_touches Off g = cc
home_touches InPlace g = refl
home_touches Elsewhere g = refl

-- an order that is given and doesn't touch its page: what is heard of the page changes nothing that is believed
heard_same : (b : Belief) (notice : Notice) → is_given (due b) ≡ true → touches (due b) ≡ false → heard_of b notice ≡ b
heard_same Private notice g t = cc
heard_same Chosen notice g t = cc
heard_same Copied Written g t = refl
heard_same Copied Discarded g t = refl
heard_same (Turning stage target) notice g t = let no_touch : true ≡ false = sym (turning_touches stage target) ∙ t in cc
heard_same (Shown slot n homing) notice g t = let no_touch : true ≡ false = sym (home_touches homing g) ∙ t in cc
heard_same (Leaving slot) Written g t = refl
heard_same (Leaving slot) Discarded g t = refl

-- an open order that isn't busy doesn't touch
idle_order : (b : Belief) (ordered : Bool) → ordered ≡ true → (ordered && touches (due b)) ≡ false → touches (due b) ≡ false
idle_order b true o h = h
idle_order b false o h = cc

-- what is believed of a page with an open order, once its content was given up, is the same
discarded_same : (b : Belief) (ordered : Bool) → ordered ≡ true → is_given (due b) ≡ true → cond (ordered && touches (due b)) b (discarded_of b) ≡ b
discarded_same b false o g = cc
discarded_same b true o g = pick (touches (due b)) refl where
  pick : (t : Bool) → touches (due b) ≡ t → cond t b (discarded_of b) ≡ b
  pick true t = refl
  pick false t = heard_same b Discarded g t

opens_given : (b : Belief) (ordered : Bool) (order : Order) → Opens b ordered order → is_given (due b) ≡ true
opens_given b ordered order o = subst (λ v. is_given v ≡ true) o.is_due o.given

-- a call for a page that has an open order changes neither what is believed nor what is open
pub record Unmoved (x y : WindowPage) (before next : Pending) : Type 0 where
  pub belief : belief_of y ≡ belief_of x
  pub ordered : (known_of y).ordered ≡ (known_of x).ordered
  pub pending : next ≡ before

unchosen : (b chosen : Belief) (free : Bool) → is_private b ≡ false → cond (is_private b && free) chosen b ≡ b
unchosen b chosen free e = ap (λ t. cond (t && free) chosen b) e

pub call_unmoved : (p : ℕ) (w : Mappings) (x y : WindowPage) (before next : Pending) (order : Order) → Calls p w x before y next → Opens (belief_of x) (known_of x).ordered order → Unmoved x y before next
call_unmoved p w x y before next order (chooses old new part after is_zeros bars pending h) o = record {
  belief = h.lender.belief ∙ unchosen (belief_of old) (chosen_as is_zeros) (not (is_barred bars)) (given_not_private (belief_of old) order o.is_due o.given);
  ordered = h.lender.ordered;
  pending = refl;
}
call_unmoved p w x y before next order (orders old new part after its bars pending h) o = record {
  belief = h.lender.belief ∙ ap (λ t. cond t (belief_of old) (prepared bars (belief_of old))) o.is_open;
  ordered = h.lender.ordered ∙ ap (λ t. t || is_given its) o.is_open ∙ sym o.is_open;
  pending = ap (λ v. cond (is_given v) (Given its) pending) (h.lender.is_due ∙ ap (λ t. cond t Wait (due (prepared bars (belief_of old)))) o.is_open);
}
call_unmoved p w x y before next order (hears old new part after notice pending page e v busy h) o = record {
  belief = h.lender.belief ∙ heard_same (belief_of old) notice (opens_given (belief_of old) (known_of old).ordered order o) (idle_order (belief_of old) (known_of old).ordered o.is_open busy);
  ordered = h.lender.ordered;
  pending = refl;
}
call_unmoved p w x y before next order (gives_up old new pending page e v g) o = record {
  belief = g.belief ∙ discarded_same (belief_of old) (known_of old).ordered o.is_open (opens_given (belief_of old) (known_of old).ordered order o);
  ordered = g.ordered;
  pending = refl;
}
call_unmoved p w x y before next order (notes old new pending k) o = record { belief = k.belief; ordered = k.ordered; pending = refl }

-- what is believed is right of the page that is there
pub fits_at : (p : ℕ) (belief : Belief) (w : Mappings) (page : Page) → Believes belief w p → slice_get w.pages p ≡ Some page → Fits belief page
fits_at p belief w page b e =
    let is_there : slice_get w.pages p ≡ Some b.page = b.there in
    let same : b.page ≡ page = cc in
    subst (λ x. Fits belief x) same b.fits

abbrev pub at : (p : ℕ) (belief : Belief) (w : Mappings) (page : Page) → Believes belief w p → slice_get w.pages p ≡ Some page → Believes belief w p
at p belief w page b e = record { page = page; there = e; fits = fits_at p belief w page b e }

-- a call for a page of which nothing is pending
ordered_then : (p : ℕ) (w : Mappings) (b : Belief) (x ordered : Bool) (order : Order) → x ≡ false → ordered ≡ (x || is_given order) → (is_given order ≡ true → order ≡ due b) → Believes b w p →
    IsFine p b ordered w (pending_after order Nothing)
ordered_then p w b x ordered order n o g r = pick (is_given order) refl where
  is : ordered ≡ is_given order
  is = o ∙ ap (λ t. t || is_given order) n

  pick : (t : Bool) → is_given order ≡ t → IsFine p b ordered w (cond t (Given order) Nothing)
  pick true t = (record { is_open = is ∙ t; is_due = g t; given = t }, r)
  pick false t = (is ∙ t, r)

call_free : (p : ℕ) (w : Mappings) (x y : WindowPage) (before next : Pending) → Calls p w x before y next → before ≡ Nothing → (known_of x).ordered ≡ false → Believes (belief_of x) w p →
    IsFine p (belief_of y) (known_of y).ordered w next
call_free p w x y before next (chooses old new part after is_zeros bars pending h) n o b =
    subst (λ v. IsFine p (belief_of new) (known_of new).ordered w v) (sym n) (h.lender.ordered ∙ o, h.lender.right w p b)
call_free p w x y before next (orders old new part after order bars pending h) n o b =
    subst (λ v. IsFine p (belief_of new) (known_of new).ordered w (pending_after order v)) (sym n)
    (ordered_then p w (belief_of new) (known_of old).ordered (known_of new).ordered order o h.lender.ordered h.lender.given (h.lender.right w p b))
call_free p w x y before next (hears old new part after notice pending page e v busy h) n o b =
    subst (λ z. IsFine p (belief_of new) (known_of new).ordered w z) (sym n) (h.lender.ordered ∙ o, h.lender.right w p (at p (belief_of old) w page b e) v)
call_free p w x y before next (gives_up old new pending page e v g) n o b =
    subst (λ z. IsFine p (belief_of new) (known_of new).ordered w z) (sym n) (g.ordered ∙ o, subst (λ z. Believes z w p) (sym g.belief) (g.right w p (at p (belief_of old) w page b e) v))
call_free p w x y before next (notes old new pending k) n o b =
    subst (λ z. IsFine p (belief_of new) (known_of new).ordered w z) (sym n) (k.ordered ∙ o, subst (λ z. Believes z w p) (sym k.belief) b)

-- a call for the page
pub call_fine : (p : ℕ) (w : Mappings) (x y : WindowPage) (before next : Pending) → Calls p w x before y next → IsFine p (belief_of x) (known_of x).ordered w before →
    IsFine p (belief_of y) (known_of y).ordered w next
call_fine p w x y before next c f = pick before refl f where
  kept : (order : Order) → Opens (belief_of x) (known_of x).ordered order → IsFine p (belief_of y) (known_of y).ordered w next
  kept order o =
      let u : Unmoved x y before next = call_unmoved p w x y before next order c o in
      subst (λ v. IsFine p (belief_of y) (known_of y).ordered w v) (sym u.pending) (fine_same p (belief_of x) (belief_of y) (known_of x).ordered (known_of y).ordered w before u.belief u.ordered f)

  pick : (v : Pending) → before ≡ v → IsFine p (belief_of x) (known_of x).ordered w v → IsFine p (belief_of y) (known_of y).ordered w next
  pick Nothing e g = call_free p w x y before next c e g.0 g.1
  pick (Given order) e g = kept order g.0
  pick (CarriedOut order) e g = kept order g.0

-- the order is carried out
pub carried_fine : (p : ℕ) (b : Belief) (ordered : Bool) (w : Mappings) (order : Order) (page : Page) → slice_get w.pages p ≡ Some page → Done_is_true order w page → IsFine p b ordered w (Given order) →
    IsFine p b ordered (played w (done_events p (shown_in w.frames page.view) order)) (CarriedOut order)
carried_fine p b ordered w order page e t f = (
  f.0,
  record {
    done = λ new h. (h w p true (at p b w page f.1 e) t).right;
    unknown = λ new h. (h w p true (at p b w page f.1 e) tt).right;
  },
)

-- its outcome is told
pub told_fine : (p : ℕ) (x y : WindowPage) (w : Mappings) (before : Pending) (order : Order) (outcome : Outcome) → IsTold outcome order before →
    IsDone outcome (lender_with no_bars (known_of x)) (lender_with no_bars (known_of y)) → IsFine p (belief_of x) (known_of x).ordered w before → Believes (belief_of y) w p
told_fine p x y w before order Done t d f =
    let g : IsFine p (belief_of x) (known_of x).ordered w (CarriedOut order) = subst (λ v. IsFine p (belief_of x) (known_of x).ordered w v) t f in
    g.1.done (belief_of y) (subst (λ o. DoneByEvents (belief_of x) o Done (belief_of y)) (sym g.0.is_due) d.events)
told_fine p x y w before order (Lent slot n) t d f =
    let g : IsFine p (belief_of x) (known_of x).ordered w (Given order) = subst (λ v. IsFine p (belief_of x) (known_of x).ordered w v) t f in
    (d.events w p false g.1 tt).right
told_fine p x y w before order Refused t d f =
    let g : IsFine p (belief_of x) (known_of x).ordered w (Given order) = subst (λ v. IsFine p (belief_of x) (known_of x).ordered w v) t f in
    (d.events w p false g.1 tt).right
told_fine p x y w before order Unknown (inl t) d f =
    let g : IsFine p (belief_of x) (known_of x).ordered w (Given order) = subst (λ v. IsFine p (belief_of x) (known_of x).ordered w v) t f in
    (d.events w p false g.1 tt).right
told_fine p x y w before order Unknown (inr t) d f =
    let g : IsFine p (belief_of x) (known_of x).ordered w (CarriedOut order) = subst (λ v. IsFine p (belief_of x) (known_of x).ordered w v) t f in
    g.1.unknown (belief_of y) (subst (λ o. DoneByEvents (belief_of x) o Unknown (belief_of y)) (sym g.0.is_due) d.events)
