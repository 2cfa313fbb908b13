use Rattle.coq_syntax.proofs.Examples.{arrows, not_equal, or_and, numerals, levels, nesting, bars, alone, patterns, backward, move_faults}
use Rattle.coq_syntax.proofs.laws.law_of_examples.Goals as goal

pub returns : goal.returns
returns c = record { arrows = arrows; not_equal = not_equal; or_and = or_and; numerals = numerals; levels = levels; nesting = nesting; bars = bars; alone = alone; patterns = patterns; backward = backward; move_faults = move_faults }
