-- What files in memory hold.
use Rattle.std.specs.Prelude.{ℕ, List}
use Rattle.base_core.specs.declared.mem_files.FileItem.{FileItem}
use Rattle.base_core.specs.declared.mem_files.MemFiles.{MemFiles}

-- the files in order, of which the first of a name counts
abbrev pub mem_files_content : MemFiles → List FileItem
mem_files_content s = s.files

-- how many reads have failed
abbrev pub mem_files_faults : MemFiles → ℕ
mem_files_faults s = s.faults
