use Rattle.std.proofs.Common.{◌≡◌, drop}
use Rattle.base_core.specs.Files.{file_at}
use Rattle.base_core.proofs.mem_files.find.Given as goal

abbrev pub invariant-loop-file : goal.invariant-loop-file
invariant-loop-file l = file_at (drop l.file-index l.files) l.name ≡ file_at l.files l.name
