-- The numbers of what a row of held pages is about.
use Rattle.std.specs.Prelude.{ℕ, ◌==◌, if◌then◌else◌}
use Rattle.page_holds.specs.declared.rows.run.RowOrder.{RowOrder}
use Rattle.page_holds.specs.declared.place.HoldStep.{HoldStep}
use Rattle.page_holds.specs.declared.place.HoldStep.TheVariants.{Over, Compare, CompareZeros, Map, GiveBack, PutBack, EndWatch}
use Rattle.pageshare_window_c.specs.declared.holds.WindowRowOrder.{WindowRowOrder}

abbrev pub step_number : HoldStep → ℕ
step_number Over = 0
step_number Compare = 1
step_number CompareZeros = 2
step_number Map = 3
step_number GiveBack = 4
step_number PutBack = 5
step_number EndWatch = 6

-- what is done next, by its number; nothing by any other
abbrev pub step_by : ℕ → HoldStep
step_by number =
    if number == 1 then Compare else (if number == 2 then CompareZeros else (if number == 3 then Map else (if number == 4 then GiveBack else (if number == 5 then PutBack else (if number == 6 then EndWatch else Over)))))

-- an order, by its numbers
abbrev pub order_by : WindowRowOrder → RowOrder
order_by order = record { step = step_by order.step; first = order.first; count = order.count }
