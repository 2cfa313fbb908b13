use Rattle.vernac_parser.proofs.grammar.+nested.Given as goal

abbrev pub decreases-nested : goal.decreases-nested
decreases-nested l = l.limit
