-- Rows of held pages, scans and parts of a window, by numbers.
use Rattle.std.specs.Prelude.{◌≡◌, ℕ, Bool, false, if◌then◌else◌, nat_eq, List, Option, Some, None, is_some}
use Rattle.std.specs.Option.{option_map_or}
use Rattle.page_holds.specs.declared.rows.run.RowOrder.{RowOrder}
use Rattle.page_looks.specs.declared.finds.step.FindOutcome.{FindOutcome}
use Rattle.page_looks.specs.declared.parts.part.PartOrder.{PartOrder}
use Rattle.part_scans.specs.Scans.{AreNumbers}
use Rattle.process_lender.specs.Lists.{NoAnswer}
use Rattle.process_lender.specs.Parts.{SetsWhole, can_change_pins, order_at, part_noted, part_of, pins_of, with_pins}
use Rattle.process_lender.specs.Rows.{BeginsRow, CameOfOrder, FindsNext, nothing_next}
use Rattle.process_lender.specs.Scans.{BeginsScan, CameOfSteps, FollowsChanges}
use Rattle.process_lender.specs.Windows.{InPages, InWindow, Lender, SeenIn, window_at, window_changed}
use Rattle.process_lender.specs.declared.look.WindowScan.{WindowScan}
use Rattle.process_lender.specs.declared.part_notice.PartNotice.{PartNotice}
use Rattle.process_lender.specs.declared.part_notice.PartNotice.TheVariants.{Settled, Rests, Woken, Huge, Forgotten}
use Rattle.pageshare_window_c.specs.Looks.{config_of}
use Rattle.pageshare_window_c.specs.Parts.{part_number}
use Rattle.pageshare_window_c.specs.declared.looks.WindowLook.{WindowLook}
use Rattle.pageshare_window_c.specs.declared.process.parts.PartChange.{PartChange}
use Rattle.pageshare_window_c.specs.declared.process.parts.PartChange.TheVariants.{Noted, Whole}
use Rattle.pageshare_window_c.specs.declared.process.parts.ProcessPartNotice.{ProcessPartNotice}
use Rattle.pageshare_window_c.specs.declared.process.scans.ProcessScan.{ProcessScan}
use Rattle.pageshare_window_c.specs.declared.process.scans.ScanStep.{ScanStep}
use Rattle.pageshare_window_c.specs.declared.process.scans.ScanStep.TheVariants.{Begin, Done, Follow}

-- A row of held pages begins.
abbrev pub BeginsRowIn : ℕ → ℕ → List ℕ → Bool → List ℕ → List ℕ → Lender → Lender → Type 0
BeginsRowIn window first takings is row row_new old new = InPages (BeginsRow first takings is row row_new) (NoAnswer is row row_new) window old new

-- The next order of a row is found.
abbrev pub FindsNextIn : ℕ → ℕ → List ℕ → RowOrder → Lender → Lender → Type 0
FindsNextIn window first row order old new = InPages (FindsNext old.facts first row order) (order ≡ nothing_next) window old new

-- It is taken what came of an order of a row.
abbrev pub CameOfOrderIn : ℕ → ℕ → ℕ → ℕ → ℕ → Bool → List ℕ → List ℕ → Lender → Lender → Type 0
CameOfOrderIn window first begin done refused is row row_new old new = InPages (CameOfOrder first begin done refused is row row_new) (NoAnswer is row row_new) window old new

-- the scan of a look
abbrev pub scan_by : WindowLook → WindowScan
scan_by look = record {
  config = config_of look;
  look = look.look;
  zeros = look.zeros;
  is_return = look.is_return;
  ready = look.ready;
}

-- what is done in a scan, by its number
abbrev pub scan_step_by : ℕ → Option ScanStep
scan_step_by kind = if nat_eq kind 1 then Some Begin else (if nat_eq kind 2 then Some Done else (if nat_eq kind 3 then Some Follow else None))

-- What a scan says of its pages.
pub record Scanned : Type 0 where
  pub scan : WindowScan
  pub first : ℕ
  pub memory : List ℕ
  pub outcomes : List FindOutcome

abbrev pub scanned : WindowScan → ℕ → List ℕ → List FindOutcome → Scanned
scanned scan first memory outcomes = record { scan = scan; first = first; memory = memory; outcomes = outcomes }

abbrev pub scanned_of : ProcessScan → Scanned
scanned_of s = scanned (scan_by s.look) s.first s.memory.now s.outcomes.now

-- This is done in a scan of a window's pages, or nothing.
abbrev pub ScansAs : Option ScanStep → Scanned → ℕ → Bool → List ℕ → List ℕ → Lender → Lender → Type 0
ScansAs None s window is row row_new old new = NoAnswer is row row_new × (new ≡ old)
ScansAs (Some Begin) s window is row row_new old new =
    InPages (BeginsScan old.facts s.scan s.first s.memory is row row_new) (NoAnswer is row row_new) window old new
ScansAs (Some Done) s window is row row_new old new = InPages (CameOfSteps s.scan s.first s.outcomes is row row_new) (NoAnswer is row row_new) window old new
ScansAs (Some Follow) s window is row row_new old new =
    InPages (FollowsChanges old.facts s.scan s.first s.memory is row row_new) (NoAnswer is row row_new) window old new

-- the same scan with this row
abbrev pub with_row : List ℕ → ProcessScan → ProcessScan
with_row row s = record s { row = record s.row { now = row } }

-- It is found where glances look at pages of a window.
abbrev pub NumbersIn : ℕ → ℕ → List ℕ → List ℕ → List ℕ → Lender → Type 0
NumbersIn window first places numbers numbers_new lender = SeenIn (λ w. AreNumbers first w.pages places numbers numbers_new) (numbers_new ≡ numbers) window lender

-- what becomes of a part, by its number
abbrev pub change_by : ProcessPartNotice → Option PartChange
change_by n =
    if nat_eq n.kind 1 then Some (Noted (Settled n.config n.found))
    else (if nat_eq n.kind 2 then Some (Noted (Rests (config_of n.look) n.changes n.own))
    else (if nat_eq n.kind 3 then Some (Noted Woken)
    else (if nat_eq n.kind 4 then Some (Noted (Huge n.flag))
    else (if nat_eq n.kind 5 then Some (Noted Forgotten) else (if nat_eq n.kind 6 then Some (Whole n.flag) else None)))))

-- the number of what is to be done with a part, if it is there
abbrev pub order_or : Option PartOrder → ℕ → ℕ
order_or None order = order
order_or (Some next) order = part_number next

-- the number of what is to be done with the part of a page of a window, of which a look found something; else that of before
abbrev pub order_after : PartNotice → ℕ → ℕ → Lender → ℕ → ℕ
order_after (Settled config found) window first lender order = order_or (option_map_or (order_at config found first) (window_at window lender.windows) None) order
order_after (Rests config changes own) window first lender order = order
order_after Woken window first lender order = order
order_after (Huge is_huge) window first lender order = order
order_after Forgotten window first lender order = order

-- Something is noted of the part of a page of a window, exactly if it has that part.
pub record NotesPart (notice : PartNotice) (window first : ℕ) (is : Bool) (order order_new : ℕ) (old new : Lender) : Type 0 where
  pub done : is ≡ option_map_or (λ w. is_some (part_of first w)) (window_at window old.windows) false
  pub noted : new ≡ window_changed (part_noted first notice) window (window_at window old.windows) old
  pub next : order_new ≡ order_after notice window first old order

-- The same, or it is whole from now on, or split, or nothing is so.
abbrev pub NotesPartAs : Option PartChange → ℕ → ℕ → Bool → ℕ → ℕ → Lender → Lender → Type 0
NotesPartAs None window first is order order_new old new = (is ≡ false) × (order_new ≡ order) × (new ≡ old)
NotesPartAs (Some (Noted notice)) window first is order order_new old new = NotesPart notice window first is order order_new old new
NotesPartAs (Some (Whole is_whole)) window first is order order_new old new = InWindow (SetsWhole first is_whole is) (is ≡ false) window old new × (order_new ≡ order)

-- the pages of a window can be pinned once more, or once less
abbrev pub can_pin_in : Bool → ℕ → ℕ → ℕ → Lender → Bool
can_pin_in is_pinned window first count lender = option_map_or (λ w. can_change_pins is_pinned first count (pins_of w)) (window_at window lender.windows) false

-- and then they are
abbrev pub pinned_in : Bool → ℕ → ℕ → ℕ → Lender → Lender
pinned_in is_pinned window first count lender = window_changed (with_pins is_pinned first count) window (window_at window lender.windows) lender

-- Pages of a window are pinned once more, or once less, if they can be; and nothing changes where there is no memory for their counts.
pub record PinsIn (is_pinned : Bool) (window first count : ℕ) (is_done : Bool) (old new : Lender) : Type 0 where
  pub has_memory : Bool
  pub done : is_done ≡ (if has_memory then can_pin_in is_pinned window first count old else false)
  pub now : new ≡ (if has_memory then pinned_in is_pinned window first count old else old)
