use Rattle.std.specs.Prelude.{◌≡◌, Result, Ok, Err, if◌then◌else◌}
use Rattle.core_term.specs.Tree.{Tree, is_small}
use Rattle.core_term.specs.declared.stops.TermStop.{TermStop}
use Rattle.core_term.specs.declared.stops.TermStop.TheVariants.{TooLarge, NoMem}

-- the term, where it passes no limit
abbrev pub within_limits : Tree → Result Tree TermStop
within_limits t = if is_small t then Ok t else Err TooLarge

-- a call gives this answer, unless memory runs out
abbrev pub Gives : {A : Type 0} → Result A TermStop → Result A TermStop → Type 0
Gives (Ok x) answer = Ok x ≡ answer
Gives (Err TooLarge) answer = Err TooLarge ≡ answer
Gives (Err NoMem) answer = Unit {0}
