-- `destruct` and `induction`: a goal by the constructors of a hypothesis' inductive type.
use Rattle.std.specs.Prelude.{ℕ, ◌==◌, List, [], ◌∷◌, ◌++◌, length, Bool, ◌&&◌, Option, Ok, if◌then◌else◌, slice_get}
use Rattle.base_core.specs.declared.refusal_codes.TheConstants.{NOT_INDUCTIVE, NOT_PERMITTED, GOAL_DEPENDS, PATTERN_MISFIT, NAME_USED}
use Rattle.coq_syntax.specs.MoveTrees.{Pattern}
use Rattle.core_term.specs.declared.sorts.Sort.{Sort}
use Rattle.core_term.specs.Tree.{Tree, Var, App}
use Rattle.cic_rules.specs.declared.context.Hyp.{Hyp}
use Rattle.cic_rules.specs.declared.decls.InductiveDecl.{InductiveDecl}
use Rattle.cic_rules.specs.declared.env.Slot.{Slot}
use Rattle.cic_rules.specs.Contexts.{renamed}
use Rattle.cic_rules.specs.Eliminators.{is_in_prop, WILDCARD}
use Rattle.cic_rules.specs.Environments.{decl_at}
use Rattle.cic_rules.specs.Shapes.{recursive_in}
use Rattle.cic_rules.specs.Steps.{Step, ◌>>=◌, ◌>>◌}
use Rattle.fresh_names.specs.Shown.{shown_names}
use Rattle.proof_state.specs.declared.goals.Goal.{Goal}
use Rattle.proof_state.specs.Partial.{Partial, Ready, Applies}
use Rattle.move_elim.specs.declared.claims.Claim.{Claim}
use Rattle.move_elim.specs.declared.subjects.Subject.{Subject}
use Rattle.move_elim.specs.Branches.{Given, branches_of, have_too_many, any_clash}
use Rattle.move_elim.specs.Cases.{with_cases}
use Rattle.move_elim.specs.Claims.{claim_of, at_params, motive_of, eliminator_into}
use Rattle.move_elim.specs.Generalised.{marked_from, depends}
use Rattle.move_elim.specs.Steps.{require_step, forbid_step, some_step, sized}
use Rattle.move_elim.specs.Subjects.{is_plain}

-- hypotheses are taken away: they keep their places under the name `_`
abbrev pub hidden : List Hyp → List ℕ → List Hyp
hidden ctx [] = ctx
hidden ctx (i ∷ is) = hidden (renamed ctx i WILDCARD) is

-- the names of the hypotheses that stay or come back: all but that of one
abbrev pub names_without : List Hyp → ℕ → List (List ℕ)
names_without ctx i = shown_names (renamed ctx i WILDCARD)

-- those that have no definition
abbrev pub plain_places : List Hyp → List ℕ → List ℕ
plain_places ctx [] = []
plain_places ctx (i ∷ is) = if is_plain (slice_get ctx i) then i ∷ plain_places ctx is else plain_places ctx is

-- a function applied to variables
abbrev pub with_variables : Partial Goal → List ℕ → Partial Goal
with_variables function [] = function
with_variables function (i ∷ is) = with_variables (Applies function (Ready (Var i))) is

-- the hypotheses that are generalised with a subject
abbrev pub moved_with : List Hyp → Subject → List ℕ
moved_with ctx x = (marked_from (x.variable ∷ x.indices) 0 ctx).places

-- the eliminator at the parameters, the motive, the cases, the indices, the value, and then the generalised hypotheses that have no definition
abbrev pub term_by : Bool → List Slot → List Hyp → InductiveDecl → Subject → ℕ → List (List Given) → List ℕ → Claim → Step (Partial Goal)
term_by induction env ctx d x eliminator branches moved c = do
  motive ← motive_of d x c.body
  function ← at_params eliminator x
  head ← sized (App function motive)
  s ← with_cases induction env c x (hidden ctx (x.variable ∷ moved)) (names_without ctx x.variable) 0 d.ctors (recursive_in x.place d.ctors) branches (Ready head)
  Ok (with_variables s (x.indices ++ (x.variable ∷ plain_places ctx moved)))

-- .. for the hypotheses at some places
abbrev pub term_with : Bool → List Slot → List Hyp → Tree → InductiveDecl → Subject → ℕ → List (List Given) → List ℕ → Step (Partial Goal)
term_with induction env ctx goal d x eliminator branches moved = do
  c ← claim_of ctx goal d x moved
  term_by induction env ctx d x eliminator branches moved c

-- what is asked of the goal, and of the names in the branches
abbrev pub tested : Bool → List Slot → List Hyp → Tree → InductiveDecl → Subject → Sort → List (List Given) → Step ℕ
tested induction env ctx goal d x sort branches = do
  eliminator ← some_step NOT_PERMITTED (eliminator_into env x.place (length d.ctors) sort)
  forbid_step (is_in_prop d && depends ctx goal x.variable) GOAL_DEPENDS
  require_step (length branches == length d.ctors) PATTERN_MISFIT
  forbid_step (have_too_many induction (recursive_in x.place d.ctors) branches) PATTERN_MISFIT
  forbid_step (any_clash (names_without ctx x.variable) branches) NAME_USED
  Ok eliminator

-- a goal of this sort by the constructors
abbrev pub elimination : Bool → List Slot → List Hyp → Tree → Subject → Option Pattern → Sort → Step (Partial Goal)
elimination induction env ctx goal x pattern sort = do
  d ← some_step NOT_INDUCTIVE (decl_at env x.place)
  eliminator ← tested induction env ctx goal d x sort (branches_of d.ctors pattern)
  term_with induction env ctx goal d x eliminator (branches_of d.ctors pattern) (moved_with ctx x)
