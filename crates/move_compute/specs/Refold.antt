-- Definitions that go on by one of their arguments: a function whose body is an eliminator on a variable of its own. Where that
-- argument is a constructor, the function gives the constructor's case, and stands itself for the recursive results.
use Rattle.std.specs.Prelude.{ℕ, suc, ◌+◌, ◌-◌, ◌==◌, nat_le, List, [], ◌∷◌, length, take, drop, Bool, false, ◌&&◌, Option, Some, None, if◌then◌else◌, slice_get}
use Rattle.core_term.specs.Tree.{Tree, Var, Constant, Lam}
use Rattle.core_term.specs.Places.{occurrences}
use Rattle.term_spine.specs.Instantiate.{instantiate}
use Rattle.term_spine.specs.Spine.{head_of, arguments_of, apply_all}
use Rattle.cic_rules.specs.declared.env.Slot.{Slot}
use Rattle.cic_rules.specs.declared.shapes.FamilyShape.{FamilyShape}
use Rattle.cic_rules.specs.Environments.{body_of_global}
use Rattle.cic_rules.specs.Families.{Family, count_fixed, major_index, eliminator_of, newest_first}
use Rattle.move_compute.specs.Firing.{fired}
use Rattle.move_compute.specs.declared.cases.Call.{Call}
use Rattle.move_compute.specs.declared.firing.Chosen.{Chosen}
use Rattle.move_compute.specs.declared.refolds.Refold.{Refold}
use Rattle.move_compute.specs.declared.refolds.Stripped.{Stripped}

-- what stands under each abstraction in front of a term, the innermost first, and what stands behind all of them
abbrev pub stripped : List Tree → Tree → Stripped
stripped under (Lam n a b) = stripped (b ∷ under) b
stripped under t = record { under = under; body = t }

-- the variable stands once in what is under its abstraction
abbrev pub stands_once : Option Tree → Bool
stands_once None = false
stands_once (Some b) = occurrences b 0 == 1

-- by a variable: so many abstractions, which of them it is of, the first being 0, and the eliminator with its parameters, motive and cases
abbrev pub refold_on : List Tree → ℕ → Tree → Option Tree → Option Refold
refold_on under family eliminator (Some (Var i)) =
    if stands_once (slice_get under i)
    then Some (record { count = length under; at = length under - suc i; family = family; eliminator = eliminator })
    else None
refold_on under family eliminator _ = None

-- an eliminator of a type without indices, on exactly its arguments
abbrev pub refold_in : List Tree → Option Family → Tree → List Tree → Option Refold
refold_in under None head args = None
refold_in under (Some f) head args =
    if major_index f.decl == count_fixed f.decl && length args == count_fixed f.decl + 1
    then refold_on under f.place (apply_all head (take (count_fixed f.decl) args)) (slice_get args (count_fixed f.decl))
    else None

abbrev pub refold_with : List Slot → List Tree → Tree → List Tree → Option Refold
refold_with env under head args = refold_in under (eliminator_of env head) head args

abbrev pub refold_of_stripped : List Slot → Stripped → Option Refold
refold_of_stripped env s = refold_with env s.under (head_of s.body) (arguments_of s.body)

abbrev pub refold_of_body : List Slot → Option Tree → Option Refold
refold_of_body env None = None
refold_of_body env (Some body) = refold_of_stripped env (stripped [] body)

-- how the global that a head is goes on, if it is such a transparent definition
abbrev pub refold_of : List Slot → Tree → Option Refold
refold_of env (Constant c) = refold_of_body env (body_of_global env c)
refold_of env _ = None

-- the argument by which it goes on, where it has all of them
abbrev pub awaited : Refold → List Tree → Option Tree
awaited r args = if nat_le r.count (length args) then slice_get args r.at else None

module _ (r : Refold) (head : Tree) (args : List Tree) where
  -- the eliminator of its body with its arguments put in
  abbrev pub own_eliminator : Tree
  own_eliminator = instantiate (newest_first (take r.count args) []) r.eliminator

  -- the function on another argument
  abbrev pub own_call : Call
  own_call = record { front = apply_all head (take r.at args); behind = take (r.count - r.at - 1) (drop (r.at + 1) args) }

  -- what it becomes by a case
  abbrev pub refolded : Chosen → Tree
  refolded c = fired own_call c (instantiate (newest_first (take r.count args) []) c.case) (arguments_of own_eliminator) (drop r.count args)

-- a definition's row by what was told of the eliminator's type once
abbrev pub refold_shaped : List Tree → ℕ → FamilyShape → Tree → List Tree → Option Refold
refold_shaped under family shape head args =
    if shape.major == shape.fixed && length args == shape.fixed + 1
    then refold_on under family (apply_all head (take shape.fixed args)) (slice_get args shape.fixed)
    else None
