-- Which case a constructor chooses, and what it becomes.
use Rattle.std.specs.Prelude.{ℕ, ◌+◌, ◌==◌, List, [], length, take, drop, Bool, Option, Some, None, if◌then◌else◌, slice_get}
use Rattle.core_term.specs.Tree.{Tree}
use Rattle.term_spine.specs.Spine.{head_of, arguments_of, apply_all}
use Rattle.cic_rules.specs.declared.decls.Ctor.{Ctor}
use Rattle.cic_rules.specs.declared.decls.InductiveDecl.{InductiveDecl}
use Rattle.cic_rules.specs.declared.env.Slot.{Slot}
use Rattle.cic_rules.specs.declared.shapes.FamilyShape.{FamilyShape}
use Rattle.cic_rules.specs.Environments.{decl_at}
use Rattle.cic_rules.specs.Families.{constructor_of, newest_first}
use Rattle.cic_rules.specs.Shapes.{shape_at}
use Rattle.move_compute.specs.Cases.{case_on}
use Rattle.move_compute.specs.declared.cases.Call.{Call}
use Rattle.move_compute.specs.declared.firing.Chosen.{Chosen}

module _ (shape : FamilyShape) (given : List Tree) where
  -- the constructor has as many arguments as parameters and products
  abbrev pub chosen_full : Ctor → List Bool → Tree → Option Chosen
  chosen_full c marks case =
      if length given == shape.params + length marks
      then Some (record { params = shape.params; marks = marks; ty = c.ty; case = case; given = drop shape.params given })
      else None

  abbrev pub chosen_case : Ctor → List Bool → Option Tree → Option Chosen
  chosen_case c marks None = None
  chosen_case c marks (Some case) = chosen_full c marks case

  abbrev pub chosen_marks : List Tree → ℕ → Ctor → Option (List Bool) → Option Chosen
  chosen_marks args index c None = None
  chosen_marks args index c (Some marks) = chosen_case c marks (slice_get args (shape.params + 1 + index))

  abbrev pub chosen_ctor : List Tree → ℕ → Option Ctor → Option Chosen
  chosen_ctor args index None = None
  chosen_ctor args index (Some c) = chosen_marks args index c (slice_get shape.recursive index)

  abbrev pub chosen_index : List Tree → InductiveDecl → Option ℕ → Option Chosen
  chosen_index args d None = None
  chosen_index args d (Some index) = chosen_ctor args index (slice_get d.ctors index)

abbrev pub chosen_in : Option InductiveDecl → Option FamilyShape → List Tree → List Tree → Option ℕ → Option Chosen
chosen_in (Some d) (Some shape) args given index = chosen_index shape given args d index
chosen_in _ _ args given index = None

-- the case among an eliminator's arguments that a head with these arguments chooses, where that is a constructor of the inductive type at
-- a place with all its arguments
abbrev pub chosen_by : List Slot → ℕ → List Tree → Tree → List Tree → Option Chosen
chosen_by env family args head given = chosen_in (decl_at env family) (shape_at env family) args given (constructor_of env family head)

abbrev pub chosen : List Slot → ℕ → List Tree → Tree → Option Chosen
chosen env family args w = chosen_by env family args (head_of w) (arguments_of w)

-- what a case becomes where calls stand for the recursive results, by the parameters among the eliminator's arguments, with what is applied
abbrev pub fired : Call → Chosen → Tree → List Tree → List Tree → Tree
fired call c case args rest = apply_all (case_on c.params c.marks call case (newest_first (take c.params args) []) c.ty c.given) rest
