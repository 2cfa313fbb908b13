use Rattle.std.proofs.Common.{◌≡◌, length, map, string_bytes}
use Rattle.fleche_main.specs.Words.{are_listed, names_of}
use Rattle.fleche_main.proofs.documents.are_known.Given as goal

abbrev pub invariant-loop-rest : goal.invariant-loop-rest
invariant-loop-rest g l =
    are_listed (map g.O.Observer.title l.watch) (names_of (map string_bytes l.rest)) ≡ are_listed (map g.O.Observer.title l.watch) (names_of (map string_bytes l.words))

abbrev pub decreases-loop-rest : goal.decreases-loop-rest
decreases-loop-rest g l = length l.rest
