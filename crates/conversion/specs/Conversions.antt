-- What the calls of conversion answer, and what they are asked for.
use Rattle.std.specs.Prelude.{◌≡◌, suc, List, length, Bool, true, false, Result, Ok, Err}
use Rattle.base_core.specs.declared.refusals.Stop.{Stop}
use Rattle.base_core.specs.declared.refusals.Stop.TheVariants.{NoMem}
use Rattle.core_term.specs.Tree.{Tree}
use Rattle.term_spine.specs.declared.spines.Spine.{Spine}
use Rattle.term_spine.specs.Spines.{tree_of_spine, IsSpineOf}
use Rattle.cic_rules.specs.declared.context.Hyp.{Hyp}
use Rattle.cic_rules.specs.declared.env.Slot.{Slot}
use Rattle.cic_rules.specs.declared.judge.Answer.{Answer}
use Rattle.cic_rules.specs.declared.judge.Answer.TheVariants.{Yes, No}
use Rattle.cic_rules.specs.declared.judge.Mode.{Mode}
use Rattle.cic_rules.specs.Contexts.{plain_hyp}
use Rattle.cic_rules.specs.Convert as rules
use Rattle.cic_rules.specs.Convert.{compare_cost, with_hyp, conv_all, conv_reduced, conv_step, compare, conv_at}
use Rattle.cic_rules.specs.Fuel.{FuelState, left, calls_left}
use Rattle.cic_rules.specs.Judges.{IsTermIn}
use Rattle.cic_rules.specs.Reduce.{whnf_at}
use Rattle.cic_rules.specs.Runs.{Run, ◌>>=◌, ◌>>◌, pure, spend, Turn, Final, runs}
use Rattle.cic_rules.specs.Scopes.{IsScoped, AreScoped}
use Rattle.conversion.specs.declared.sides.Binder.{Binder}
use Rattle.conversion.specs.declared.sides.Sides.{Sides}
use Rattle.conversion.specs.Blockers.{replaced_step}
use Rattle.conversion.specs.Sides.{binders_step, eta_left_step, eta_right_step, heads_step}
use Rattle.conversion.specs.Turns.{IsSpine, EndsAs}

abbrev pub answer_of : Bool → Answer
answer_of true = Yes
answer_of false = No

-- a call gives the very value of a run
abbrev pub Is : {A : Type 0} → A → A → Type 0
Is x y = x ≡ y

abbrev pub Answers : Result Bool Stop → FuelState → FuelState → Run Bool → Type 0
Answers result old new run = EndsAs Is result (left new) (run (left old))

-- a call builds this term for a unit
abbrev pub Builds : Result Tree Stop → FuelState → FuelState → Tree → Type 0
Builds result old new t = EndsAs Is result (left new) (replaced_step t (left old))

-- a side: a spine of a term in scope
pub record IsSide (env : List Slot) (ctx : List Hyp) (s : Spine) : Type 0 where
  pub spine : IsSpine s
  pub term : IsTermIn env ctx (tree_of_spine s)

pub record AreSides (env : List Slot) (ctx : List Hyp) (sides : Sides) : Type 0 where
  pub left : IsSide env ctx sides.left
  pub right : IsSide env ctx sides.right

-- a call that only want of memory ends gives the spines of two terms
abbrev pub AreSidesIfMade : Result Sides Stop → Tree → Tree → Type 0
AreSidesIfMade (Ok sides) t u = IsSpineOf sides.left t × IsSpineOf sides.right u
AreSidesIfMade (Err NoMem) t u = Unit {0}
AreSidesIfMade (Err _) t u = ⊥

-- what is compared is in scope: two terms, what binders bind and what stands under them, and arguments
pub record AreTermsIn (env : List Slot) (ctx : List Hyp) (t u : Tree) : Type 0 where
  pub first : IsTermIn env ctx t
  pub second : IsTermIn env ctx u

pub record AreTermsUnder (env : List Slot) (ctx : List Hyp) (t u : Tree) : Type 0 where
  pub first : IsScoped (suc (length ctx)) (length env) t
  pub second : IsScoped (suc (length ctx)) (length env) u

pub record IsBinderIn (env : List Slot) (ctx : List Hyp) (b : Binder) : Type 0 where
  pub domain : IsTermIn env ctx b.domain
  pub body : IsScoped (suc (length ctx)) (length env) b.body

pub record AreAllIn (env : List Slot) (ctx : List Hyp) (ts us : List Tree) : Type 0 where
  pub first : AreScoped (length ctx) (length env) ts
  pub second : AreScoped (length ctx) (length env) us

-- conversion and its parts, on some fuel
module _ (env : List Slot) (ctx : List Hyp) (f : FuelState) where
  abbrev pub conv_of : Mode → Tree → Tree → Run Bool
  conv_of mode t u = conv_at env (calls_left f) ctx mode t u

  -- the judgement that was begun: the charge, trees that are one, and turns
  abbrev pub charged_of : Mode → Tree → Tree → Run Bool
  charged_of mode t u = spend (compare_cost t u) >> compare env (calls_left f) (whnf_at env false (calls_left f)) (conv_at env (calls_left f)) ctx mode t u

  abbrev pub turn_of : Mode → rules.Sides → Run (Turn rules.Sides Bool)
  turn_of mode sides = conv_step env (calls_left f) (whnf_at env false (calls_left f)) (conv_at env (calls_left f)) ctx mode sides

  abbrev pub rounds_of : Mode → rules.Sides → Run Bool
  rounds_of mode sides = runs (turn_of mode) sides

  abbrev pub reduced_of : Mode → Spine → Spine → Run (Turn rules.Sides Bool)
  reduced_of mode s r =
      conv_reduced env (calls_left f) (whnf_at env false (calls_left f)) (conv_at env (calls_left f)) ctx mode (tree_of_spine s) (tree_of_spine r)

  abbrev pub binders_of : Mode → Binder → Binder → Run (Turn rules.Sides Bool)
  binders_of mode b c = binders_step env (calls_left f) (whnf_at env false (calls_left f)) (conv_at env (calls_left f)) ctx mode b c

  abbrev pub eta_left_of : Binder → Spine → Run (Turn rules.Sides Bool)
  eta_left_of b s = eta_left_step env (calls_left f) (whnf_at env false (calls_left f)) (conv_at env (calls_left f)) ctx b (tree_of_spine s)

  abbrev pub eta_right_of : Spine → Binder → Run (Turn rules.Sides Bool)
  eta_right_of s b = eta_right_step env (calls_left f) (whnf_at env false (calls_left f)) (conv_at env (calls_left f)) ctx (tree_of_spine s) b

  -- conversion under a binder
  abbrev pub under_of : Binder → Mode → Tree → Tree → Run (Turn rules.Sides Bool)
  under_of b mode t u =
      with_hyp ctx (plain_hyp b.name b.domain) >>= λ inner. conv_at env (calls_left f) inner mode t u >>= λ answer. pure (Final answer)

  abbrev pub heads_of : Spine → Spine → Run (Turn rules.Sides Bool)
  heads_of s r = heads_step env (calls_left f) (whnf_at env false (calls_left f)) (conv_at env (calls_left f)) ctx (tree_of_spine s) (tree_of_spine r)

  abbrev pub all_of : List Tree → List Tree → Run Bool
  all_of ts us = conv_all env (calls_left f) (whnf_at env false (calls_left f)) (conv_at env (calls_left f)) ctx ts us
