use Rattle.std.proofs.Common.{◌≡◌, ◌++◌, drop}
use Rattle.doc_check.proofs.answers.same_places.Given as goal

abbrev pub invariant-loop-span : goal.invariant-loop-span
invariant-loop-span l = l.places ++ drop l.span-index l.spans ≡ l.spans
