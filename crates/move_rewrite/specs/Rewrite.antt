-- `rewrite`: all subterms that are one side of an equation become the other.
use Rattle.std.specs.Prelude.{ℕ, ◌==◌, List, Option, None, if◌then◌else◌, codes}
use Rattle.base_core.specs.declared.refusal_codes.TheConstants.{NOT_DETERMINED, NOT_PERMITTED, NO_SUBTERM, VARIABLE_HEAD, NOT_AN_EQUATION}
use Rattle.coq_syntax.specs.declared.moves.Direction.{Direction}
use Rattle.core_term.specs.declared.sorts.Sort.{Sort}
use Rattle.core_term.specs.declared.sorts.Sort.TheVariants.{PropSort, SetSort, TypeSort}
use Rattle.core_term.specs.Tree.{Tree}
use Rattle.term_spine.specs.Spine.{count_products, end_of_products}
use Rattle.cic_rules.specs.declared.context.Hyp.{Hyp}
use Rattle.cic_rules.specs.declared.env.Slot.{Slot}
use Rattle.cic_rules.specs.Environments.{place_in}
use Rattle.cic_rules.specs.Infer.{infer_at, sort_of_at}
use Rattle.cic_rules.specs.Runs.{Run, ◌>>=◌, ◌>>◌, forbid, some_or}
use Rattle.cic_rules.specs.Steps.{take_step}
use Rattle.proof_state.specs.declared.goals.Goal.{Goal}
use Rattle.proof_state.specs.Partial.{Partial, Ready}
use Rattle.move_rewrite.specs.declared.equations.Equation.{Equation}
use Rattle.move_rewrite.specs.declared.searching.Found.{Found}
use Rattle.move_rewrite.specs.Arguments.{with_arguments}
use Rattle.move_rewrite.specs.Equations.{equation_of, pattern_of, has_variable_head, is_unsettled}
use Rattle.move_rewrite.specs.Search.{first_found}
use Rattle.move_rewrite.specs.Terms.{rewritten}

-- the eliminator of `eq` into a sort
abbrev pub eliminator_into : List Slot → Sort → Option ℕ
eliminator_into env PropSort = place_in env (codes "eq_ind")
eliminator_into env SetSort = place_in env (codes "eq_rec")
eliminator_into env (TypeSort level) = if level == 1 then place_in env (codes "eq_rect") else None

module _ (env : List Slot) (calls : ℕ) where
  -- by a subterm that was found, and a term for the equation. No variable without a value stands in the equation, since one that does is
  -- refused before
  abbrev pub by_proof : Direction → List Hyp → Tree → Equation → Found → Partial Goal → Run (Partial Goal)
  by_proof d ctx goal e x proof = do
    forbid (is_unsettled x.values e) NOT_DETERMINED
    s ← sort_of_at env calls ctx goal
    eliminator ← some_or NOT_PERMITTED (eliminator_into env s.sort)
    take_step (rewritten d ctx goal eliminator e x proof)

  -- by a term of this type, which has so many products and ends in this equation
  abbrev pub by_equation : Direction → List Hyp → Tree → Tree → Tree → ℕ → Equation → Run (Partial Goal)
  by_equation d ctx goal t ty count e = do
    forbid (has_variable_head count (pattern_of d e)) VARIABLE_HEAD
    found ← first_found env calls ctx count (pattern_of d e) 0 goal
    x ← some_or NO_SUBTERM found
    proof ← with_arguments env calls ctx x.values count ty (Ready t)
    by_proof d ctx goal e x proof

  -- `rewrite`
  abbrev pub rewrite : Direction → List Hyp → Tree → Tree → Run (Partial Goal)
  rewrite d ctx goal t = do
    i ← infer_at env calls ctx t
    e ← some_or NOT_AN_EQUATION (equation_of env (end_of_products i.ty))
    by_equation d ctx goal t i.ty (count_products i.ty) e
