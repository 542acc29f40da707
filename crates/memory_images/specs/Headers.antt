-- The headers of an ELF file of 64 bits.
use Rattle.std.specs.Prelude.{ℕ, ◌==◌, not, if◌then◌else◌, List, slice_index, Result, Ok, Err}
use Rattle.memory_images.specs.Words.{u16_at, u32_at, u64_at}
use Rattle.memory_images.specs.declared.fault.FormFault.{FormFault}
use Rattle.memory_images.specs.declared.fault.FormFault.TheVariants as faults
use Rattle.memory_images.specs.declared.parts.Header.{Header}
use Rattle.memory_images.specs.declared.parts.ProgramHeader.{ProgramHeader}

-- the header of a core of class 2 (64 bits), byte order 1 (little-endian), type 4 (ET_CORE), whose program headers have 56 bytes
unfoldable pub header_of : List ℕ → Result Header FormFault
header_of bytes =
    if not (slice_index bytes 4 == 2) then Err faults.Class
    else if not (slice_index bytes 5 == 1) then Err faults.ByteOrder
    else if not (u16_at bytes 16 == 4) then Err faults.FileType
    else if not (u16_at bytes 54 == 56) then Err faults.EntrySize
    else Ok (record { table = u64_at bytes 32; count = u16_at bytes 56; sections = u64_at bytes 40; section_bytes = u16_at bytes 58 })

-- p_type, p_offset and p_filesz
unfoldable pub program_header_of : List ℕ → ProgramHeader
program_header_of bytes = record { kind = u32_at bytes 0; offset = u64_at bytes 8; file_bytes = u64_at bytes 32 }
