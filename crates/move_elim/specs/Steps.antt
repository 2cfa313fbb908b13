-- Tests that take no units.
use Rattle.std.specs.Prelude.{ℕ, ◌^◌, nat_lt, List, ◌∷◌, length, Bool, Option, Some, None, Ok, Err, if◌then◌else◌}
use Rattle.base_core.specs.declared.refusals.Place.TheVariants.{Whole}
use Rattle.core_term.specs.Tree.{Tree, is_small}
use Rattle.cic_rules.specs.declared.context.Hyp.{Hyp}
use Rattle.cic_rules.specs.Steps.{Step, TooLarge, refuse_step}

-- this must hold, or must not
abbrev pub require_step : Bool → ℕ → Step (Unit {0})
require_step test code = if test then Ok tt else refuse_step code Whole

abbrev pub forbid_step : Bool → ℕ → Step (Unit {0})
forbid_step test code = if test then refuse_step code Whole else Ok tt

-- a value that must be there
abbrev pub some_step : {A : Type 0} → ℕ → Option A → Step A
some_step code None = refuse_step code Whole
some_step code (Some x) = Ok x

-- a term that was made, where it is not too large
abbrev pub sized : Tree → Step Tree
sized t = if is_small t then Ok t else Err TooLarge

-- the context with one more hypothesis, where it has room
abbrev pub entered : List Hyp → Hyp → Step (List Hyp)
entered ctx h = if nat_lt (length ctx) (2 ^ 31) then Ok (h ∷ ctx) else Err TooLarge
