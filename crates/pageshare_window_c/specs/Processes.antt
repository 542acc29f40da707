-- What a call does with what a process's handle holds.
use Rattle.std.specs.Prelude.{◌≡◌, ◌≢◌, ℕ, Bool, true, false, Option, Some, None, is_some, if◌then◌else◌, option_map}
use Rattle.std.specs.Option.{option_map_or}
use Rattle.process_lender.specs.Offers.{can_take_out, end_of, first_free, is_open, new_window, no_windows, offered, state_set}
use Rattle.process_lender.specs.Windows.{Lender, window_at, with_window}
use Rattle.process_lender.specs.declared.facts.ProcessFacts.{ProcessFacts}
use Rattle.process_lender.specs.declared.facts.WindowState.{WindowState}
use Rattle.pageshare_window_c.specs.declared.process.life.WindowOffer.{WindowOffer}

-- The windows that a handle holds become others. Where it holds none, it holds none then, and this is so.
abbrev pub OnHeld : (Lender → Lender → Type 0) → Type 0 → Option Lender → Option Lender → Type 0
OnHeld Becomes Nothing None None = Nothing
OnHeld Becomes Nothing None (Some new) = ⊥
OnHeld Becomes Nothing (Some old) None = ⊥
OnHeld Becomes Nothing (Some old) (Some new) = Becomes old new

-- This is said of the windows that a handle holds. Where it holds none, it is this.
abbrev pub OfHeld : (Lender → Type 0) → Type 0 → Option Lender → Type 0
OfHeld Says Nothing None = Nothing
OfHeld Says Nothing (Some lender) = Says lender

-- A handle that held nothing holds a process without windows. If it holds something, or where there is no memory, it stays.
pub record MakesProcess (facts : ProcessFacts) (is_made : Bool) (old new : Option Lender) : Type 0 where
  pub refused : is_some old ≡ true → is_made ≡ false
  pub made : is_made ≡ true → new ≡ Some (no_windows facts)
  pub same : is_made ≡ false → new ≡ old

-- what is returned where no place was found
abbrev pub no_place : ℕ
no_place = 18446744073709551615

-- the window that an offer is of
abbrev pub window_of : WindowOffer → Lender → Lender
window_of offer lender = offered (new_window offer.number offer.count offer.seams offer.state) lender

-- A window comes to the first free place, or, where there is no memory, to none.
pub record Offers (offer : WindowOffer) (place : ℕ) (old new : Lender) : Type 0 where
  pub is_offered : Bool
  pub found : place ≡ (if is_offered then first_free old.windows else no_place)
  pub now : new ≡ (if is_offered then window_of offer old else old)

-- the window at a place, if it can be taken out, is out
abbrev pub without : ℕ → Lender → Lender
without place lender = if can_take_out place lender.windows then with_window place None lender else lender

-- of this is so from now on
abbrev pub with_facts : ProcessFacts → Lender → Lender
with_facts facts lender = record lender { facts = facts }
