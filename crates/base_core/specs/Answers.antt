-- Calls on a sentence, where memory serves.
use Rattle.std.specs.Prelude.{◌≡◌, Result, Ok, Err}
use Rattle.base_core.specs.declared.refusals.Stop.{Stop}
use Rattle.base_core.specs.declared.refusals.Stop.TheVariants.{Refused, Out, NoMem}

-- a call gives this answer, unless memory runs out
abbrev pub Gives : {A : Type 0} → Result A Stop → Result A Stop → Type 0
Gives (Ok x) answer = Ok x ≡ answer
Gives (Err (Refused r)) answer = Err (Refused r) ≡ answer
Gives (Err (Out l)) answer = Err (Out l) ≡ answer
Gives (Err NoMem) answer = Unit {0}
