-- Which mappings of a process are read.
use Rattle.std.specs.Prelude.{Bool, ◌&&◌, ◌||◌, not, if◌then◌else◌, List, map, filter}
use Rattle.std.specs.List.{list_any}
use Rattle.memory_images.specs.declared.segment.Segment.{Segment}
use Rattle.live_memory.specs.declared.choice.MemoryChoice.{MemoryChoice}
use Rattle.live_memory.specs.declared.choice.MemoryChoice.TheVariants.{All, Lent, Offered}
use Rattle.live_memory.specs.declared.mapping.WritableMapping.{WritableMapping}

-- a frame of pageshare-host is shown or read by it
abbrev pub has_frames : WritableMapping → Bool
has_frames mapping = mapping.shows_frames || mapping.reads_frames

-- The process offered mappings, and pageshare-host doesn't share its memory: that takes the offer off what it shares.
abbrev pub offers : List WritableMapping → Bool
offers mappings = list_any (λ mapping. mapping.is_offered) mappings && not (list_any has_frames mappings)

-- those that are offered; where there are none, the process's own
abbrev pub is_wanted : MemoryChoice → Bool → WritableMapping → Bool
is_wanted All offers mapping = Bool.true
is_wanted Offered offers mapping = if offers then mapping.is_offered else mapping.is_anonymous || mapping.shows_frames
is_wanted Lent offers mapping = mapping.shows_frames

-- where the library reads frames is none of the guest's memory
abbrev pub is_chosen : MemoryChoice → Bool → WritableMapping → Bool
is_chosen choice offers mapping = not mapping.reads_frames && is_wanted choice offers mapping

abbrev pub chosen : MemoryChoice → List WritableMapping → List Segment
chosen choice mappings = map (λ mapping. mapping.segment) (filter (is_chosen choice (offers mappings)) mappings)
