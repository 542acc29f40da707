-- How a machine keeps its slots: each has a tag, its client's number where it is held, and a link to the next free slot where it is free.
use Rattle.std.specs.Prelude.{ℕ, zero, suc, ◌+◌, List, [], ◌∷◌, Option, Some, None, slice_set, slice_index_or}
use Rattle.merge_core.specs.Pmap.{Pmap}
use Rattle.merge_core.specs.Stays.{frame_at}
use Rattle.lent_slots.specs.declared.holding.Holding.{Holding}

-- what a slot holds by its tag and its page's frame: a slot whose page has no frame is free
abbrev pub held_as : ℕ → Option ℕ → Option Holding
held_as tag None = None
held_as tag (Some mpn) = Some (record { client = tag; frame = mpn })

-- the slots with these tags, of which the first is the page of this number
abbrev pub slots_from : Pmap → ℕ → List ℕ → List (Option Holding)
slots_from pmap ppn [] = []
slots_from pmap ppn (tag ∷ tags) = held_as tag (frame_at pmap 0 ppn) ∷ slots_from pmap (ppn + 1) tags

-- all slots: those of the core's only guest
abbrev pub slots_of : Pmap → List ℕ → List (Option Holding)
slots_of pmap tags = slots_from pmap 0 tags

-- the free slot after one with this tag: 0 stands for the slot beside it, so that tags of 0 link all slots
abbrev pub next_free : ℕ → ℕ → ℕ
next_free ppn zero = ppn + 1
next_free ppn (suc next) = next

-- so many free slots, from this one on: the tag of each links the next one
abbrev pub chain : List ℕ → ℕ → ℕ → List ℕ
chain tags first zero = []
chain tags first (suc n) = first ∷ chain tags (next_free first (slice_index_or tags first 0)) n

-- the tags after a page was lent as the page of this slot, or was refused
abbrev pub tags_after : ℕ → ℕ → Option ℕ → List ℕ → List ℕ
tags_after client ppn None tags = tags
tags_after client ppn (Some mpn) tags = slice_set tags ppn client
