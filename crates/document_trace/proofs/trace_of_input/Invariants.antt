use Rattle.document_trace.proofs.trace_of_input.Given as goal

abbrev pub ghosts-traced : goal.ghosts-traced
ghosts-traced a = record { name = a.blank.name; parts = a.blank.parts }
