-- Copies over frames are spared.
use Rattle.std.proofs.Common.{◌≡◌, ◌∙◌, Bool, true, false, ◌&&◌, ◌||◌, refl, ap}
use Rattle.page_lender.specs.Decisions.{is_barred}
use Rattle.page_lender.specs.declared.bars.Bars.{Bars}
use Rattle.window_pages.specs.Known.{bars_of, homes_in_place, may_be_copy}
use Rattle.window_pages.specs.Laws.{CopiesArePinned, CopiesStay, GoneIsBarred}
use Rattle.window_pages.specs.declared.facts.WindowFacts.{WindowFacts}
use Rattle.window_pages.specs.declared.page.KnownPage.{KnownPage}

or_true : (b : Bool) → (b || true) ≡ true
or_true true = refl
or_true false = refl

pinned : (facts : WindowFacts) (page : KnownPage) → facts.may_pin ≡ true → may_be_copy page ≡ true → (bars_of facts page).pinned ≡ true
pinned facts page m c = ap (λ b. facts.pinned || (b && may_be_copy page)) m ∙ ap (λ b. facts.pinned || b) c ∙ or_true facts.pinned

barred : (bars : Bars) → bars.pinned ≡ true → is_barred bars ≡ true
barred bars e = pick bars.called bars.pinned e where
  pick : (a b : Bool) → b ≡ true → (a || b || bars.inherited || bars.locked || bars.left || bars.ended) ≡ true
  pick true b e = refl
  pick false true e = refl
  pick false false e = cc

left_bars : (bars : Bars) → bars.left ≡ true → is_barred bars ≡ true
left_bars bars e = pick bars.called bars.pinned bars.inherited bars.locked bars.left e where
  pick : (a b c d l : Bool) → l ≡ true → (a || b || c || d || l || bars.ended) ≡ true
  pick true b c d l e = refl
  pick false true c d l e = refl
  pick false false true d l e = refl
  pick false false false true l e = refl
  pick false false false false true e = refl
  pick false false false false false e = cc

pub copies_are_pinned : CopiesArePinned
copies_are_pinned facts page order after m c o =
    let p : (bars_of facts page).pinned ≡ true = pinned facts page m c in
    record { shows_none = o.barred (barred (bars_of facts page) p); stays = o.pinned p }

pub copies_stay : CopiesStay
copies_stay facts page e = pick (homes_in_place page.belief) facts.may_pin facts.pinned e where
  pick : (h a b : Bool) → (a || b) ≡ true → (h || (true && (b || a))) ≡ true
  pick true a b e = refl
  pick false true true e = refl
  pick false true false e = refl
  pick false false true e = refl
  pick false false false e = cc

pub gone_is_barred : GoneIsBarred
gone_is_barred facts page order after e o = o.barred (left_bars (bars_of facts page) (ap (λ b. b || facts.leaves) e))
