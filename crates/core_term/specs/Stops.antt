use Rattle.base_core.specs.declared.refusals.Stop.{Stop}
use Rattle.base_core.specs.declared.refusals.Stop.TheVariants.{Out, NoMem as WantOfMemory}
use Rattle.base_core.specs.declared.refusals.Limit.TheVariants.{SizeLimit}
use Rattle.core_term.specs.declared.stops.TermStop.{TermStop}
use Rattle.core_term.specs.declared.stops.TermStop.TheVariants.{TooLarge, NoMem}

-- what ends a judgement where a term was not made
abbrev pub stop_of : TermStop → Stop
stop_of TooLarge = Out SizeLimit
stop_of NoMem = WantOfMemory
