-- The letters of automatic names.
use Rattle.std.specs.Prelude.{ℕ, List, [], ◌∷◌, Option, Some, None, if◌then◌else◌}
use Rattle.core_term.specs.Tree.{Tree, Constant}
use Rattle.cic_rules.specs.declared.decls.InductiveDecl.{InductiveDecl}
use Rattle.cic_rules.specs.Eliminators.{is_in_prop, initial}

-- the global that a head is
abbrev pub constant_of : Tree → Option ℕ
constant_of (Constant c) = Some c
constant_of _ = None

-- the letter for an inductive type not in Prop, else H
abbrev pub name_of_decl : Option InductiveDecl → List ℕ
name_of_decl None = 72 ∷ []
name_of_decl (Some d) = if is_in_prop d then 72 ∷ [] else initial d.name 72
