-- The refusals of `destruct` and `induction` stand at the whole sentence.
use Rattle.std.proofs.Common.{ℕ, ◌+◌, ◌-◌, ◌^◌, ◌==◌, nat_lt, List, [], ◌∷◌, length, Bool, true, false, ◌&&◌, Option, Some, None, Ok, Err}
use Rattle.std.specs.Prelude.{if◌then◌else◌}
use Rattle.base_core.specs.declared.refusal_codes.TheConstants.{NO_HYPOTHESIS, NOT_INDUCTIVE, INDICES_NOT_VARIABLES, NOT_PERMITTED, GOAL_DEPENDS, PATTERN_MISFIT, NAME_USED}
use Rattle.coq_syntax.specs.MoveTrees.{Pattern}
use Rattle.core_term.specs.declared.sorts.Sort.{Sort}
use Rattle.core_term.specs.Tree.{Tree, Var, Sorted, Constant, Prod, Lam, LetIn, App, is_small}
use Rattle.term_spine.specs.Instantiate.{instantiate}
use Rattle.term_spine.specs.Spine.{head_of, eta_body}
use Rattle.fresh_names.specs.Letters.{constant_of}
use Rattle.cic_rules.specs.declared.context.Hyp.{Hyp}
use Rattle.cic_rules.specs.declared.decls.Ctor.{Ctor}
use Rattle.cic_rules.specs.declared.decls.InductiveDecl.{InductiveDecl}
use Rattle.cic_rules.specs.declared.env.Slot.{Slot}
use Rattle.cic_rules.specs.Contexts.{plain_hyp, defined_hyp, type_of_variable}
use Rattle.cic_rules.specs.Eliminators.{is_in_prop, value_name}
use Rattle.cic_rules.specs.Environments.{decl_at}
use Rattle.cic_rules.specs.Families.{count_params, indices}
use Rattle.cic_rules.specs.Shapes.{recursive_in}
use Rattle.cic_rules.specs.Steps.{Step, TooLarge}
use Rattle.proof_state.specs.declared.goals.Goal.{Goal}
use Rattle.proof_state.specs.declared.state.Filling.TheVariants.{Give}
use Rattle.proof_state.specs.Partial.{Partial, Ready, Applies}
use Rattle.move_elim.specs.declared.cases.Walk.{Walk}
use Rattle.move_elim.specs.declared.claims.Claim.{Claim}
use Rattle.move_elim.specs.declared.sites.Site.{Site}
use Rattle.move_elim.specs.declared.subjects.Subject.{Subject}
use Rattle.move_elim.specs.Branches.{Given, branches_of, behind_argument as names_behind, behind_next, have_too_many, any_clash}
use Rattle.move_elim.specs.Cases.{hypothesis, behind_hyp, introduced, past_argument, past_hypothesis, under_argument, under_hypothesis, name_of_hypothesis, last_goal, name_of_argument, behind_hypothesis, behind_argument, case_from, case_of, with_cases}
use Rattle.move_elim.specs.Claims.{claim_site, claim_with, claim_at, claim_of, applied_to, at_params, family_of, at_index, over_value, over_index, motive_over, motive_of, eliminator_into}
use Rattle.move_elim.specs.Elimination.{hidden, names_without, moved_with, term_by, term_with, tested, elimination}
use Rattle.move_elim.specs.Generalised.{depends, generalised}
use Rattle.move_elim.specs.Moves.{eliminate, solved}
use Rattle.move_elim.specs.Sites.{placed, placed_all, with_variable, with_binder}
use Rattle.move_elim.specs.Steps.{require_step, forbid_step, some_step, sized, entered}
use Rattle.move_elim.specs.Subjects.{index_variables, is_whole, first_arguments, named_from, subject_by, subject_of}
use Rattle.vernac_exec.proofs.StandsLaws.{Stands, StepAt, step_at_then, stands_pure, stands_step_of, stands_bind, stands_some}
use Rattle.vernac_exec.proofs.StandsOfKernel.{at_whnf, at_sort}

module _ (P : ℕ → ℕ → Type 0) where
  -- tests
  at_require : (test : Bool) (code : ℕ) → StepAt P (require_step test code)
  at_require true code = tt
  at_require false code = tt

  at_forbid : (test : Bool) (code : ℕ) → StepAt P (forbid_step test code)
  at_forbid true code = tt
  at_forbid false code = tt

  at_some : {A : Type 0} (code : ℕ) (found : Option A) → StepAt P (some_step code found)
  at_some code None = tt
  at_some code (Some x) = tt

  or_large : {A : Type 0} (b : Bool) (x : A) → StepAt P (if b then Ok x else Err TooLarge)
  or_large true x = tt
  or_large false x = tt

  at_sized : (t : Tree) → StepAt P (sized t)
  at_sized t = or_large (is_small t) t

  at_entered : (ctx : List Hyp) (h : Hyp) → StepAt P (entered ctx h)
  at_entered ctx h = or_large (nat_lt (length ctx) (2 ^ 31)) (h ∷ ctx)

  -- the subject
  at_subject_by : (env : List Slot) (ctx : List Hyp) (x : ℕ) (t : Tree) (place : ℕ) → StepAt P (subject_by env ctx x t place)
  at_subject_by env ctx x t place =
      step_at_then P (some_step NOT_INDUCTIVE (decl_at env place)) _ (at_some NOT_INDUCTIVE (decl_at env place)) (λ d.
      step_at_then P (require_step (is_whole d t) NOT_INDUCTIVE) _ (at_require (is_whole d t) NOT_INDUCTIVE) (λ _.
      step_at_then P (some_step INDICES_NOT_VARIABLES (index_variables ctx (first_arguments (count_params d) t) [] (indices (count_params d) t))) _
      (at_some INDICES_NOT_VARIABLES (index_variables ctx (first_arguments (count_params d) t) [] (indices (count_params d) t))) (λ is. tt)))

  at_subject : (env : List Slot) (ctx : List Hyp) (x : ℕ) (t : Tree) → StepAt P (subject_of env ctx x t)
  at_subject env ctx x t =
      step_at_then P (some_step NOT_INDUCTIVE (constant_of (head_of t))) _ (at_some NOT_INDUCTIVE (constant_of (head_of t)))
      (λ place. at_subject_by env ctx x t place)

  -- the motive
  at_applied : (f : Tree) (ts : List Tree) → StepAt P (applied_to f ts)
  at_applied f [] = tt
  at_applied f (t ∷ older) = step_at_then P (applied_to f older) _ (at_applied f older) (λ g. at_sized (App g t))

  at_at_params : (place : ℕ) (x : Subject) → StepAt P (at_params place x)
  at_at_params place x = at_applied (Constant place) x.params

  at_family_by : (b : Bool) (step : Step (Option Tree)) → StepAt P step → StepAt P (if b then Ok None else step)
  at_family_by true step at = tt
  at_family_by false step at = at

  at_family : (d : InductiveDecl) (x : Subject) → StepAt P (family_of d x)
  at_family d x = at_family_by (is_in_prop d) _ (step_at_then P (at_params x.place x) (λ t. Ok (Some t)) (at_at_params x.place x) (λ t. tt))

  at_at_index : (family : Option Tree) → StepAt P (at_index family)
  at_at_index None = tt
  at_at_index (Some t) = step_at_then P (sized (eta_body t)) (λ u. Ok (Some u)) (at_sized (eta_body t)) (λ u. tt)

  at_over_value : (d : InductiveDecl) (family : Option Tree) (body : Tree) → StepAt P (over_value d family body)
  at_over_value d None body = tt
  at_over_value d (Some family) body = at_sized (Lam (value_name d) family body)

  at_over_index : (family : Option Tree) (n : List ℕ) (a : Tree) (rest : Option Tree → Step Tree) → ((deeper : Option Tree) → StepAt P (rest deeper)) →
      StepAt P (over_index family n a rest)
  at_over_index family n a rest rests =
      step_at_then P (at_index family) _ (at_at_index family) (λ deeper. step_at_then P (rest deeper) _ (rests deeper) (λ body. at_sized (Lam n a body)))

  step_if : {A : Type 0} (b : Bool) (one other : Step A) → StepAt P one → StepAt P other → StepAt P (if b then one else other)
  step_if true one other first second = first
  step_if false one other first second = second

  at_motive_over : (d : InductiveDecl) (family : Option Tree) (count : ℕ) (t body : Tree) → StepAt P (motive_over d family count t body)
  at_motive_over d family count (Prod n a b) body =
      step_if (count == 0) _ _ (at_over_value d family body) (at_over_index family n a _ (λ deeper. at_motive_over d deeper (count - 1) b body))
  at_motive_over d family count (Var i) body = at_over_value d family body
  at_motive_over d family count (Sorted s) body = at_over_value d family body
  at_motive_over d family count (Constant c) body = at_over_value d family body
  at_motive_over d family count (Lam n a b) body = at_over_value d family body
  at_motive_over d family count (LetIn n a t b) body = at_over_value d family body
  at_motive_over d family count (App f a) body = at_over_value d family body

  at_motive : (d : InductiveDecl) (x : Subject) (body : Tree) → StepAt P (motive_of d x body)
  at_motive d x body =
      step_at_then P (sized (instantiate x.params d.arity)) _ (at_sized (instantiate x.params d.arity)) (λ arity.
      step_at_then P (family_of d x) _ (at_family d x) (λ family. at_motive_over d family (length x.indices) arity body))

  -- goals
  at_behind : (ctx : List Hyp) (h : Hyp) (rest : List Hyp → Step (Partial Goal)) → ((inner : List Hyp) → StepAt P (rest inner)) → StepAt P (behind_hyp ctx h rest)
  at_behind ctx h rest rests =
      step_at_then P (entered ctx h) _ (at_entered ctx h) (λ inner. step_at_then P (rest inner) _ (rests inner) (λ s. tt))

  at_introduced : (count : ℕ) (ctx : List Hyp) (t : Tree) → StepAt P (introduced count ctx t)
  at_introduced count ctx (Prod n a b) =
      step_if (count == 0) _ _ tt (at_behind ctx (plain_hyp n a) _ (λ inner. at_introduced (count - 1) inner b))
  at_introduced count ctx (LetIn n a t b) =
      step_if (count == 0) _ _ tt (at_behind ctx (defined_hyp n a t) _ (λ inner. at_introduced (count - 1) inner b))
  at_introduced count ctx (Var i) = tt
  at_introduced count ctx (Sorted s) = tt
  at_introduced count ctx (Constant c) = tt
  at_introduced count ctx (Lam n a b) = tt
  at_introduced count ctx (App f a) = tt

  -- cases
  at_said : (c : Claim) (s : Site) (x t : Tree) → StepAt P (sized (claim_at c s.depth (placed_all s (indices c.params t)) x))
  at_said c s x t = at_sized (claim_at c s.depth (placed_all s (indices c.params t)) x)

  at_hypothesis : (c : Claim) (s : Site) (x t : Tree) → StepAt P (hypothesis c s x t)
  at_hypothesis c s x (Prod n a b) =
      step_at_then P (sized (eta_body x)) _ (at_sized (eta_body x)) (λ deeper.
      step_at_then P (hypothesis c (with_variable s) deeper b) _ (at_hypothesis c (with_variable s) deeper b) (λ body. at_sized (Prod n (placed s a) body)))
  at_hypothesis c s x (Var i) = at_said c s x (Var i)
  at_hypothesis c s x (Sorted o) = at_said c s x (Sorted o)
  at_hypothesis c s x (Constant i) = at_said c s x (Constant i)
  at_hypothesis c s x (Lam n a b) = at_said c s x (Lam n a b)
  at_hypothesis c s x (LetIn n a t b) = at_said c s x (LetIn n a t b)
  at_hypothesis c s x (App f a) = at_said c s x (App f a)

  at_past_argument : (w : Walk) (n : List ℕ) (ty : Tree) → StepAt P (past_argument w n ty)
  at_past_argument w n ty =
      step_at_then P (entered w.ctx (plain_hyp n ty)) _ (at_entered w.ctx (plain_hyp n ty)) (λ inner.
      step_at_then P (sized (eta_body w.built)) _ (at_sized (eta_body w.built)) (λ built. tt))

  at_past_hypothesis : (w : Walk) (n : List ℕ) (ty : Tree) → StepAt P (past_hypothesis w n ty)
  at_past_hypothesis w n ty = step_at_then P (entered w.ctx (plain_hyp n ty)) _ (at_entered w.ctx (plain_hyp n ty)) (λ inner. tt)

  at_under_argument : (w : Walk) (n : List ℕ) (a : Tree) (rest : Walk → Step (Partial Goal)) → ((inner : Walk) → StepAt P (rest inner)) →
      StepAt P (under_argument w n a rest)
  at_under_argument w n a rest rests =
      step_at_then P (past_argument w n (placed w.site a)) _ (at_past_argument w n (placed w.site a)) (λ inner.
      step_at_then P (rest inner) _ (rests inner) (λ s. tt))

  at_under_hypothesis : (w : Walk) (n : List ℕ) (says : Step Tree) (rest : Walk → Step (Partial Goal)) → StepAt P says →
      ((inner : Walk) → StepAt P (rest inner)) → StepAt P (under_hypothesis w n says rest)
  at_under_hypothesis w n says rest at rests =
      step_at_then P says _ at (λ ty. step_at_then P (past_hypothesis w n ty) _ (at_past_hypothesis w n ty) (λ inner.
      step_at_then P (rest inner) _ (rests inner) (λ s. tt)))

  module _ (induction : Bool) (env : List Slot) (c : Claim) where
    at_last : (w : Walk) (t : Tree) → StepAt P (last_goal induction env c w t)
    at_last w t =
        step_at_then P (sized (claim_at c w.site.depth (placed_all w.site (indices c.params t)) w.built)) _ (at_said c w.site w.built t)
        (λ goal. at_introduced c.moved w.ctx goal)

    at_behind_hypothesis : (recursive : Bool) (w inner : Walk) (given : List Given) (n : List ℕ) (a : Tree) (rest : Walk → Step (Partial Goal)) →
        ((deeper : Walk) → StepAt P (rest deeper)) → StepAt P (behind_hypothesis induction env c recursive w inner given n a rest)
    at_behind_hypothesis false w inner given n a rest rests = rests inner
    at_behind_hypothesis true w inner given n a rest rests =
        at_under_hypothesis inner (name_of_hypothesis induction inner.names (behind_next given) n) (hypothesis c (with_binder w.site) (Var 0) a) rest
        (at_hypothesis c (with_binder w.site) (Var 0) a) rests

    at_argument_behind : (recursive : Bool) (w : Walk) (given : List Given) (n : List ℕ) (a : Tree) (rest : Walk → Step (Partial Goal)) →
        ((deeper : Walk) → StepAt P (rest deeper)) → StepAt P (behind_argument induction env c recursive w given n a rest)
    at_argument_behind recursive w given n a rest rests =
        at_under_argument w n a _ (λ inner. at_behind_hypothesis recursive w inner given n a rest rests)

    at_case_from : (w : Walk) (given : List Given) (flags : List Bool) (t : Tree) → StepAt P (case_from induction env c w given flags t)
    at_case_from w given (recursive ∷ later) (Prod n a b) =
        at_argument_behind recursive w given (name_of_argument induction env c w given n a) a _
        (λ inner. at_case_from inner (names_behind induction recursive given) later b)
    at_case_from w given [] t = at_last w t
    at_case_from w given (recursive ∷ later) (Var i) = at_last w (Var i)
    at_case_from w given (recursive ∷ later) (Sorted s) = at_last w (Sorted s)
    at_case_from w given (recursive ∷ later) (Constant i) = at_last w (Constant i)
    at_case_from w given (recursive ∷ later) (Lam n a b) = at_last w (Lam n a b)
    at_case_from w given (recursive ∷ later) (LetIn n a t b) = at_last w (LetIn n a t b)
    at_case_from w given (recursive ∷ later) (App f a) = at_last w (App f a)

    at_case : (x : Subject) (hs : List Hyp) (names : List (List ℕ)) (index : ℕ) (ctor : Ctor) (flags : List Bool) (given : List Given) →
        StepAt P (case_of induction env c x hs names index ctor flags given)
    at_case x hs names index ctor flags given =
        step_at_then P (sized (instantiate x.params ctor.ty)) _ (at_sized (instantiate x.params ctor.ty)) (λ ty.
        step_at_then P (at_params (x.place + 1 + index) x) _ (at_at_params (x.place + 1 + index) x) (λ built. at_case_from _ given flags ty))

    at_cases : (x : Subject) (hs : List Hyp) (names : List (List ℕ)) (index : ℕ) (ctors : List Ctor) (flags : List (List Bool)) (branches : List (List Given))
        (function : Partial Goal) → StepAt P (with_cases induction env c x hs names index ctors flags branches function)
    at_cases x hs names index (ctor ∷ later) (flags ∷ others) (given ∷ more) function =
        step_at_then P (case_of induction env c x hs names index ctor flags given) _ (at_case x hs names index ctor flags given)
        (λ case. at_cases x hs names (index + 1) later others more (Applies function case))
    at_cases x hs names index [] flags branches function = tt
    at_cases x hs names index (ctor ∷ later) [] branches function = tt
    at_cases x hs names index (ctor ∷ later) (flags ∷ others) [] function = tt

  -- the whole term
  module _ (induction : Bool) (env : List Slot) (ctx : List Hyp) where
    at_term_by : (d : InductiveDecl) (x : Subject) (eliminator : ℕ) (branches : List (List Given)) (moved : List ℕ) (c : Claim) →
        StepAt P (term_by induction env ctx d x eliminator branches moved c)
    at_term_by d x eliminator branches moved c =
        step_at_then P (motive_of d x c.body) _ (at_motive d x c.body) (λ motive.
        step_at_then P (at_params eliminator x) _ (at_at_params eliminator x) (λ function.
        step_at_then P (sized (App function motive)) _ (at_sized (App function motive)) (λ head.
        step_at_then P (with_cases induction env c x (hidden ctx (x.variable ∷ moved)) (names_without ctx x.variable) 0 d.ctors (recursive_in x.place d.ctors) branches (Ready head)) _
        (at_cases induction env c x (hidden ctx (x.variable ∷ moved)) (names_without ctx x.variable) 0 d.ctors (recursive_in x.place d.ctors) branches (Ready head)) (λ s. tt))))

    at_claim : (goal : Tree) (d : InductiveDecl) (x : Subject) (moved : List ℕ) → StepAt P (claim_of ctx goal d x moved)
    at_claim goal d x moved =
        step_at_then P (sized (generalised ctx (claim_site (length ctx) (is_in_prop d) x) moved goal)) (λ body. Ok (claim_with (length ctx) d x (length moved) body))
        (at_sized (generalised ctx (claim_site (length ctx) (is_in_prop d) x) moved goal)) (λ body. tt)

    at_term : (goal : Tree) (d : InductiveDecl) (x : Subject) (eliminator : ℕ) (branches : List (List Given)) (moved : List ℕ) →
        StepAt P (term_with induction env ctx goal d x eliminator branches moved)
    at_term goal d x eliminator branches moved =
        step_at_then P (claim_of ctx goal d x moved) _ (at_claim goal d x moved) (λ c.
        at_term_by d x eliminator branches moved c)

    at_tested : (goal : Tree) (d : InductiveDecl) (x : Subject) (sort : Sort) (branches : List (List Given)) →
        StepAt P (tested induction env ctx goal d x sort branches)
    at_tested goal d x sort branches =
        step_at_then P (some_step NOT_PERMITTED (eliminator_into env x.place (length d.ctors) sort)) _
        (at_some NOT_PERMITTED (eliminator_into env x.place (length d.ctors) sort)) (λ eliminator.
        step_at_then P (forbid_step (is_in_prop d && depends ctx goal x.variable) GOAL_DEPENDS) _
        (at_forbid (is_in_prop d && depends ctx goal x.variable) GOAL_DEPENDS) (λ _.
        step_at_then P (require_step (length branches == length d.ctors) PATTERN_MISFIT) _
        (at_require (length branches == length d.ctors) PATTERN_MISFIT) (λ _.
        step_at_then P (forbid_step (have_too_many induction (recursive_in x.place d.ctors) branches) PATTERN_MISFIT) _
        (at_forbid (have_too_many induction (recursive_in x.place d.ctors) branches) PATTERN_MISFIT) (λ _.
        step_at_then P (forbid_step (any_clash (names_without ctx x.variable) branches) NAME_USED) _
        (at_forbid (any_clash (names_without ctx x.variable) branches) NAME_USED) (λ _. tt)))))

    at_elimination : (goal : Tree) (x : Subject) (pattern : Option Pattern) (sort : Sort) → StepAt P (elimination induction env ctx goal x pattern sort)
    at_elimination goal x pattern sort =
        step_at_then P (some_step NOT_INDUCTIVE (decl_at env x.place)) _ (at_some NOT_INDUCTIVE (decl_at env x.place)) (λ d.
        step_at_then P (tested induction env ctx goal d x sort (branches_of d.ctors pattern)) _ (at_tested goal d x sort (branches_of d.ctors pattern)) (λ eliminator.
        at_term goal d x eliminator (branches_of d.ctors pattern) (moved_with ctx x)))

    -- the move
    at_eliminate : (calls : ℕ) (goal : Tree) (name : List ℕ) (pattern : Option Pattern) → Stands P (eliminate env calls induction ctx goal name pattern)
    at_eliminate calls goal name pattern =
        stands_bind (stands_some NO_HYPOTHESIS (named_from 0 ctx name)) (λ i.
        stands_bind (stands_some NO_HYPOTHESIS (type_of_variable ctx i)) (λ ty.
        stands_bind (at_whnf P env true calls ctx ty) (λ reduced.
        stands_bind (stands_step_of P (subject_of env ctx i reduced) (at_subject env ctx i reduced)) (λ x.
        stands_bind (at_sort P env calls ctx goal) (λ s.
        stands_step_of P (elimination induction env ctx goal x pattern s.sort) (at_elimination goal x pattern s.sort))))))

  pub at_solved_by_cases : (induction : Bool) (env : List Slot) (calls : ℕ) (g : Goal) (name : List ℕ) (pattern : Option Pattern) →
      Stands P (solved env calls (eliminate env calls induction g.ctx g.ty name pattern))
  at_solved_by_cases induction env calls g name pattern =
      stands_bind (at_eliminate induction env g.ctx calls g.ty name pattern) (λ s. stands_pure (Give s))
