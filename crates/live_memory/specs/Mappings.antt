-- A line of /proc/PID/maps, and whether the mapping's pages are to be read.
use Rattle.std.specs.Prelude.{ℕ, ◌+◌, ◌-◌, ◌^◌, ◌==◌, ◌&&◌, ◌||◌, not, nat_le, nat_lt, Bool, if◌then◌else◌, List, codes, length, slice_index, take, Option, Some}
use Rattle.std.specs.Result.{result_ok}
use Rattle.std.specs.Str.{bytes_eq}
use Rattle.text_words.specs.Words.{number_to}
use Rattle.memory_images.specs.declared.segment.Segment.{Segment}
use Rattle.live_memory.specs.Fields.{◌>>=◌, behind_spaces, range_in, word_in}
use Rattle.live_memory.specs.declared.mapping.Mapping.{Mapping}
use Rattle.live_memory.specs.declared.mapping.WritableMapping.{WritableMapping}

-- permissions such as rw-p: the second is w
abbrev pub is_writable : List ℕ → Bool
is_writable permissions = nat_lt 1 (length permissions) && slice_index permissions 1 == 119

-- permissions such as rw-p: the fourth is p
abbrev pub is_private : List ℕ → Bool
is_private permissions = nat_lt 3 (length permissions) && slice_index permissions 3 == 112

-- A line: FROM-TO PERMISSIONS OFFSET DEVICE INODE, with a space behind each, and then the name, which may be missing, behind more
-- spaces. None: it isn't of the form.
unfoldable pub mapping_in : List ℕ → Option (Mapping × List ℕ)
mapping_in bytes = do
  addresses ← word_in bytes
  range ← range_in addresses.0
  permissions ← word_in addresses.1
  offset ← word_in permissions.1
  device ← word_in offset.1
  inode ← word_in device.1
  number ← result_ok (number_to (2 ^ 64 - 1) inode.0)
  Some (record { from = range.0; to = range.1; is_writable = is_writable permissions.0; is_private = is_private permissions.0; inode = number }, behind_spaces inode.1)

abbrev pub begins_with : List ℕ → List ℕ → Bool
begins_with front bytes = bytes_eq (take (length front) bytes) front

-- the system's own pages
abbrev pub is_of_system : List ℕ → Bool
is_of_system name = bytes_eq name (codes "[vvar]") || bytes_eq name (codes "[vdso]") || bytes_eq name (codes "[vsyscall]")

-- Memory that is no file's: it has no inode, and isn't the system's own, or its name says that it is a memfd, or anonymous memory
-- that is shared or of large pages.
abbrev pub is_fileless : ℕ → List ℕ → Bool
is_fileless inode name = if inode == 0 then not (is_of_system name)
    else begins_with (codes "/memfd:") name || bytes_eq name (codes "/dev/zero (deleted)") || bytes_eq name (codes "/anon_hugepage (deleted)")

abbrev pub is_kept : Mapping → List ℕ → Bool
is_kept mapping name = mapping.is_writable && is_fileless mapping.inode name

-- where the pages lie
abbrev pub segment_of : Mapping → Segment
segment_of mapping = record { offset = mapping.from; len = mapping.to - mapping.from }

-- its own mapping of the file of frames that pageshare-host lends from
abbrev pub is_of_frames : Mapping → List ℕ → Bool
is_of_frames mapping name = mapping.is_private && bytes_eq name (codes "/memfd:pageshare-frames (deleted)")

-- where the library of pageshare-host maps memory for itself: from 2^45 on, 16 TiB
abbrev pub is_apart : Mapping → Bool
is_apart mapping = nat_le (2 ^ 45) mapping.from && nat_lt mapping.from (2 ^ 45 + 2 ^ 44)

abbrev pub writable_of : Mapping → List ℕ → Bool → WritableMapping
writable_of mapping name is_offered = record {
  segment = segment_of mapping;
  is_offered = is_offered;
  is_anonymous = mapping.is_private && mapping.inode == 0;
  shows_frames = is_of_frames mapping name && not (is_apart mapping);
  reads_frames = is_of_frames mapping name && is_apart mapping;
}
