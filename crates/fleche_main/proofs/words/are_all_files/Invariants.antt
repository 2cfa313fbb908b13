use Rattle.std.proofs.Common.{◌≡◌, length, map, string_bytes}
use Rattle.fleche_main.specs.Words.{are_all_files}
use Rattle.fleche_main.proofs.words.are_all_files.Given as goal

abbrev pub invariant-loop-rest : goal.invariant-loop-rest
invariant-loop-rest l = are_all_files (map string_bytes l.rest) ≡ are_all_files (map string_bytes l.words)

abbrev pub decreases-loop-rest : goal.decreases-loop-rest
decreases-loop-rest l = length l.rest
