use Rattle.std.proofs.Common.{◌≡◌, [], ◌∷◌, map, length}
use Rattle.batch_check.specs.Observers.{first_shown}
use Rattle.batch_check.proofs.showing.show_all.Given as goal

abbrev pub invariant-loop-i : goal.invariant-loop-i
invariant-loop-i g l =
    (length l.watch.items ≡ length l.initial.watch.items)
    × (map g.O.Observer.shown l.watch.items
    ≡ first_shown l.i (l.digest ∷ []) (map g.O.Observer.shown l.initial.watch.items))
    × (map g.O.Observer.title l.watch.items
    ≡ map g.O.Observer.title l.initial.watch.items)
