-- Parts of a window: when one is split, and when it is made whole.
use Rattle.std.specs.Prelude.{◌≡◌, ℕ, ◌+◌, ◌-◌, ◌*◌, ◌≤◌, min, Bool, true, false, not, ◌&&◌, nat_lt, nat_le, if◌then◌else◌, List, [], ◌∷◌, length}
use Rattle.page_looks.specs.declared.parts.part.Part.{Part}
use Rattle.page_looks.specs.declared.parts.part.PartConfig.{PartConfig}
use Rattle.page_looks.specs.declared.parts.part.PartLook.{PartLook}
use Rattle.page_looks.specs.declared.parts.part.PartOrder.{PartOrder}
use Rattle.page_looks.specs.declared.parts.part.PartOrder.TheVariants.{Stay, Split, MakeWhole}
use Rattle.page_looks.specs.declared.parts.part.TheConstants.{PART_PAGES}

-- so much of a whole part could be shared that it is worth a huge page, if it is one
abbrev pub is_worth : PartConfig → PartLook → Bool
is_worth config look = look.may_lend && look.has_mappings && nat_lt 0 look.shareable && nat_le (if look.is_huge then config.huge_from else 1) look.shareable

-- next to nothing of a split part is shared
abbrev pub is_alone : PartConfig → PartLook → Bool
is_alone config look = nat_lt config.alone_part config.huge_from && nat_lt ((PART_PAGES - look.own) * config.alone_part) (min config.huge_from PART_PAGES)

-- how many looks in a row have found that, up to 255
abbrev pub alone_then : PartConfig → Part → PartLook → ℕ
alone_then config part look = if is_alone config look then min (part.alone + 1) 255 else 0

-- What is to be done with a part: nothing while it pauses. It is split only if it is loose, and made whole only if it is movable and no
-- device may have pinned a page of it.
abbrev pub order_of : PartConfig → Part → PartLook → PartOrder
order_of config part look =
    if nat_lt 0 part.pause then Stay
    else (if part.whole then (if look.is_loose && is_worth config look then Split else Stay)
    else (if (look.may_be_huge && look.may_lend && not look.may_pin && look.is_movable) && nat_le config.alone (alone_then config part look) then MakeWhole else Stay))

-- the part, if nothing is to be done with it: a pause goes on, and looks that found next to nothing shared are counted
abbrev pub left_then : PartConfig → Part → PartLook → Part
left_then config part look =
    if nat_lt 0 part.pause then record part { pause = part.pause - 1 }
    else (if part.whole then part else record part { alone = alone_then config part look })

-- the part, once this is to be done with it
abbrev pub part_then : PartConfig → Part → PartLook → PartOrder → Part
part_then config part look Stay = left_then config part look
part_then config part look Split = record part { pause = config.pause; alone = 0 }
part_then config part look MakeWhole = record part { pause = config.pause; alone = 0 }

-- once it was done
abbrev pub done_then : PartOrder → Part → Part
done_then Stay part = part
done_then Split part = record part { whole = false }
done_then MakeWhole part = record part { whole = true }

-- the part is to change
abbrev pub changes : PartOrder → Bool
changes Stay = false
changes Split = true
changes MakeWhole = true

-- the part after a look
abbrev pub part_at : PartConfig → Part → PartLook → Part
part_at config part m = part_then config part m (order_of config part m)

-- at each of these looks nothing is to be done with the part
abbrev pub StaysAt : PartConfig → Part → List PartLook → Type 0
StaysAt config part [] = Unit {0}
StaysAt config part (m ∷ ms) = (order_of config part m ≡ Stay) × StaysAt config (part_at config part m) ms

-- Where a part is to change it doesn't change again for as many looks as the pause has, whether it was done or not, and whatever is found.
abbrev pub NoToAndFro : Type 0
NoToAndFro =
    (config : PartConfig) (part : Part) (m : PartLook) (ms : List PartLook) (was_done : Bool) → changes (order_of config part m) ≡ true → length ms ≤ config.pause →
    StaysAt config (if was_done then done_then (order_of config part m) (part_at config part m) else part_at config part m) ms
