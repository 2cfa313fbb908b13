use Rattle.std.proofs.Common.{◌≡◌, ◌++◌, map, drop}
use Rattle.doc_check.proofs.document.add_all.Given as goal

abbrev pub invariant-loop-one : goal.invariant-loop-one
invariant-loop-one g l =
    l.numbers.items ++ map (λ f. f.number) (drop l.one-index l.finished) ≡ l.initial.numbers.items ++ map (λ f. f.number) l.finished
