-- A constructor for a goal whose type is inductive.
use Rattle.std.specs.Prelude.{ℕ, ◌==◌, List, length, take, true, Option, Some, None, Ok, Err, if◌then◌else◌, slice_get}
use Rattle.base_core.specs.declared.refusals.Place.TheVariants.{Whole}
use Rattle.core_term.specs.Tree.{Tree, Constant, is_small}
use Rattle.term_spine.specs.Spine.{head_of, arguments_of, apply_all}
use Rattle.cic_rules.specs.declared.context.Hyp.{Hyp}
use Rattle.cic_rules.specs.declared.decls.Ctor.{Ctor}
use Rattle.cic_rules.specs.declared.decls.InductiveDecl.{InductiveDecl}
use Rattle.cic_rules.specs.declared.env.Slot.{Slot}
use Rattle.cic_rules.specs.Environments.{decl_at, place_in}
use Rattle.cic_rules.specs.Reduce.{whnf_at}
use Rattle.cic_rules.specs.Runs.{Run, ◌>>=◌}
use Rattle.cic_rules.specs.Steps.{Step, TooLarge, refuse_step, take_step}
use Rattle.proof_state.specs.declared.goals.Goal.{Goal}
use Rattle.proof_state.specs.Partial.{Partial}
use Rattle.move_basic.specs.Apply.{apply_to_all}
use Rattle.fresh_names.specs.Letters.{constant_of}

-- the global of a constructor
abbrev pub place_of : List Slot → Option Ctor → Option ℕ
place_of env None = None
place_of env (Some c) = place_in env c.name

-- a term that was made, where it is not too large
abbrev pub sized : Tree → Step Tree
sized t = if is_small t then Ok t else Err TooLarge

-- a global applied to the first of the term's arguments, so many
abbrev pub at_params : ℕ → ℕ → Tree → Tree
at_params params place t = apply_all (Constant place) (take params (arguments_of t))

abbrev pub at_place : ℕ → ℕ → Tree → Option ℕ → Step Tree
at_place code params t None = refuse_step code Whole
at_place code params t (Some place) = sized (at_params params place t)

-- of an inductive type with so many constructors, the one with an index, at the parameters; else the refusal
abbrev pub constructor_by : List Slot → ℕ → ℕ → ℕ → Tree → Option InductiveDecl → Step Tree
constructor_by env count index code t None = refuse_step code Whole
constructor_by env count index code t (Some d) =
    if length d.ctors == count then at_place code (length d.params) t (place_of env (slice_get d.ctors index)) else refuse_step code Whole

abbrev pub decl_of_place : List Slot → Option ℕ → Option InductiveDecl
decl_of_place env None = None
decl_of_place env (Some c) = decl_at env c

-- of the inductive type that a term is
abbrev pub constructor_term : List Slot → ℕ → ℕ → ℕ → Tree → Step Tree
constructor_term env count index code t = constructor_by env count index code t (decl_of_place env (constant_of (head_of t)))

-- the constructor with an index, where there are so many, applied with all of its arguments
abbrev pub construct : List Slot → ℕ → ℕ → ℕ → ℕ → List Hyp → Tree → Run (Partial Goal)
construct env calls count index code ctx ty = do
  reduced ← whnf_at env true calls ctx ty
  t ← take_step (constructor_term env count index code reduced)
  apply_to_all env calls ctx ty t
