use Rattle.session_rows.proofs.serving.serve_alone.Given as goal

abbrev pub ghosts-serve_items : goal.ghosts-serve_items
ghosts-serve_items g a = record { name = a.blank.name; parts = a.blank.parts }
