-- The segments of the images that are read.
use Rattle.std.specs.Prelude.{ℕ, ◌+◌, ◌*◌, ◌==◌, ◌&&◌, nat_le, nat_lt, not, Bool, if◌then◌else◌, List}
use Rattle.std.specs.Prelude.{[], ◌∷◌, length, map, filter, Option, Some, None, Result, Ok, Err}
use Rattle.std.specs.List.{range_with_len, list_all}
use Rattle.std.specs.Str.{bytes_eq}
use Rattle.memory_images.specs.Words.{part, u32_at}
use Rattle.memory_images.specs.Pages.{count_of}
use Rattle.memory_images.specs.Headers.{header_of, program_header_of}
use Rattle.memory_images.specs.declared.fault.FormFault.{FormFault}
use Rattle.memory_images.specs.declared.fault.FormFault.TheVariants as faults
use Rattle.memory_images.specs.declared.parts.Header.{Header}
use Rattle.memory_images.specs.declared.parts.ProgramHeader.{ProgramHeader}
use Rattle.memory_images.specs.declared.segment.Segment.{Segment}

-- passes an answer on to the next question: the first fault is the answer of the whole
infixl 10 ◌>>=◌
abbrev pub ◌>>=◌ : {A B F : Type 0} → Result A F → (A → Result B F) → Result B F
(Ok x) >>= f = f x
(Err e) >>= f = Err e

-- a number of pages, if it is at most 4,294,967,295
abbrev pub counted : ℕ → Option ℕ
counted count = if nat_lt 4294967295 count then None else Some count

-- segments with at most 4,294,967,295 pages
abbrev pub few : List Segment → Result (List Segment) FormFault
few segments = if nat_lt 4294967295 (count_of segments) then Err faults.TooManyPages else Ok segments

-- all bytes as one segment
abbrev pub whole_file : ℕ → List Segment
whole_file len = record { offset = 0; len = len } ∷ []

-- the segments of a raw file
abbrev pub raw_of : List ℕ → Result (List Segment) FormFault
raw_of bytes = few (whole_file (length bytes))

-- the first four bytes are those of an ELF file
unfoldable pub is_elf : List ℕ → Bool
is_elf bytes = bytes_eq (part bytes 0 4) (127 ∷ 69 ∷ 76 ∷ 70 ∷ [])

-- section header 0, of 64 bytes, is within this many bytes
abbrev pub has_section : ℕ → Header → Bool
has_section size header = not (header.sections == 0) && header.section_bytes == 64 && nat_le (header.sections + 64) size

-- the number of program headers. If the field has 65535, it is sh_info of section header 0, if there is one
unfoldable pub table_count : List ℕ → Header → Result ℕ FormFault
table_count bytes header =
    if header.count == 65535
    then (if has_section (length bytes) header
    then Ok (u32_at (part bytes header.sections 64) 44)
    else Err faults.CutSection)
    else Ok header.count

-- program header n of the table at a place
abbrev pub program_header : List ℕ → ℕ → ℕ → ProgramHeader
program_header bytes table n = program_header_of (part bytes (table + 56 * n) 56)

-- the type is PT_LOAD, and there are bytes of the segment within the file
abbrev pub is_load : ProgramHeader → Bool
is_load header = header.kind == 1 && not (header.file_bytes == 0)

abbrev pub segment_of : ProgramHeader → Segment
segment_of header = record { offset = header.offset; len = header.file_bytes }

-- the segment of a program header, if there is one to load
abbrev pub loaded : ProgramHeader → List Segment
loaded header = if is_load header then segment_of header ∷ [] else []

-- the segments to load, in the order of their program headers
unfoldable pub loads : List ℕ → ℕ → ℕ → List Segment
loads bytes table count = map segment_of (filter is_load (map (program_header bytes table) (range_with_len 0 count)))

-- each segment lies whole within this many bytes
abbrev pub are_whole : ℕ → List Segment → Bool
are_whole size segments = list_all (λ segment. nat_le (segment.offset + segment.len) size) segments

-- the segments of a table of this many program headers
unfoldable pub table_segments : List ℕ → ℕ → ℕ → Result (List Segment) FormFault
table_segments bytes table count =
    if not (nat_le (table + 56 * count) (length bytes)) then Err faults.CutTable
    else if not (are_whole (length bytes) (loads bytes table count)) then Err faults.CutSegment
    else Ok (loads bytes table count)

-- the ELF header of a file
unfoldable pub core_header : List ℕ → Result Header FormFault
core_header bytes = if nat_lt (length bytes) 64 then Err faults.CutHeader else header_of (part bytes 0 64)

-- the segments of an ELF core
abbrev pub core_segments : List ℕ → Result (List Segment) FormFault
core_segments bytes =
    core_header bytes >>= λ header. table_count bytes header >>= λ count. table_segments bytes header.table count

-- the segments of a file: an ELF core's if it begins as an ELF file, and else all of its bytes
abbrev pub file_segments : List ℕ → Result (List Segment) FormFault
file_segments bytes = if is_elf bytes then core_segments bytes else Ok (whole_file (length bytes))

-- the segments of an image
abbrev pub image_of : List ℕ → Result (List Segment) FormFault
image_of bytes = file_segments bytes >>= few
