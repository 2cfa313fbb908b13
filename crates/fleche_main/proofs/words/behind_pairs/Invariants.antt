use Rattle.std.proofs.Common.{◌≡◌, length, map, string_bytes}
use Rattle.fleche_main.specs.Words.{behind_pairs}
use Rattle.fleche_main.proofs.words.behind_pairs.Given as goal

abbrev pub invariant-loop-rest : goal.invariant-loop-rest
invariant-loop-rest l = behind_pairs (map string_bytes l.rest) ≡ behind_pairs (map string_bytes l.words)

abbrev pub decreases-loop-rest : goal.decreases-loop-rest
decreases-loop-rest l = length l.rest
