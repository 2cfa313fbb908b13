-- What stands in scope behind a binder.
use Rattle.std.specs.Prelude.{◌≡◌, ℕ, List, ◌∷◌, length, Option, Some, None}
use Rattle.std.proofs.Common.{subst}
use Rattle.core_term.specs.Tree.{Tree, Var, Sorted, Constant, Prod, Lam, LetIn, App}
use Rattle.cic_rules.specs.declared.context.Hyp.{Hyp}
use Rattle.cic_rules.specs.declared.env.Slot.{Slot}
use Rattle.cic_rules.specs.Contexts.{IsInIfAny, IsHypAt}
use Rattle.cic_rules.specs.Judges.{MayJudge, IsTermIn}
use Rattle.cic_rules.specs.Scopes.{IsScopedIfAny, IsScopedHyp}
use Rattle.cic_rules.proofs.ScopeLaws.{scoped_free}
use Rattle.proof_state.specs.declared.goals.Goal.{Goal}
use Rattle.proof_state.specs.Partial.{Partial}
use Rattle.move_basic.specs.declared.opening.Opening.{Opening}
use Rattle.move_basic.specs.Intro.{opening_of, under_binder, under_hyp, named}
use Rattle.proof_state.specs.Scopes.{IsSketchIn}
use Rattle.move_basic.specs.Scopes.{IsOpeningIn}

pub opening_scoped : (env : List Slot) (ctx : List Hyp) (t : Tree) (o : Opening) → opening_of t ≡ Some o → IsTermIn env ctx t → IsOpeningIn env ctx o
opening_scoped env ctx (Prod n a b) o e scoped =
    let same : record { hyp = record { name = n; ty = a; value = None }; under = b } ≡ o = cc in
    subst (IsOpeningIn env ctx) same (record { hyp = record { ty = scoped.0; value = tt }; under = scoped.1 })
opening_scoped env ctx (LetIn n a t b) o e scoped =
    let same : record { hyp = record { name = n; ty = a; value = Some t }; under = b } ≡ o = cc in
    subst (IsOpeningIn env ctx) same (record { hyp = record { ty = scoped.0; value = scoped.1 }; under = scoped.2 })
opening_scoped env ctx (Var i) o e scoped = cc
opening_scoped env ctx (Sorted s) o e scoped = cc
opening_scoped env ctx (Constant c) o e scoped = cc
opening_scoped env ctx (Lam n a b) o e scoped = cc
opening_scoped env ctx (App f a) o e scoped = cc

value_in : (n m : ℕ) (v : Option Tree) → IsScopedIfAny n m v → IsInIfAny n v
value_in n m None scoped = tt
value_in n m (Some t) scoped = scoped_free n m t scoped

-- a hypothesis may stand behind others, and judgements may be asked for behind it
pub hyp_in : (n m : ℕ) (h : Hyp) → IsScopedHyp n m h → IsHypAt n h
hyp_in n m h scoped = record { ty = scoped_free n m h.ty scoped.ty; value = value_in n m h.value scoped.value }

pub judged_behind : (env : List Slot) (ctx : List Hyp) (h : Hyp) → MayJudge env ctx → IsScopedHyp (length ctx) (length env) h → MayJudge env (h ∷ ctx)
judged_behind env ctx h judged scoped = record { scoped = (scoped, judged.scoped) }

pub renamed_hyp : (n m : ℕ) (h : Hyp) (name : List ℕ) → IsScopedHyp n m h → IsScopedHyp n m (named h name)
renamed_hyp n m h name scoped = record { ty = scoped.ty; value = scoped.value }

under_by : (env : List Slot) (ctx : List Hyp) (n : List ℕ) (a : Tree) (v : Option Tree) (s : Partial Goal) →
    IsTermIn env ctx a → IsScopedIfAny (length ctx) (length env) v → IsSketchIn env (record { name = n; ty = a; value = v } ∷ ctx) s →
    IsSketchIn env ctx (under_binder n a v s)
under_by env ctx n a None s domain value sketch = (domain, sketch)
under_by env ctx n a (Some t) s domain value sketch = (domain, value, sketch)

pub sketch_under : (env : List Slot) (ctx : List Hyp) (h : Hyp) (s : Partial Goal) → IsScopedHyp (length ctx) (length env) h →
    IsSketchIn env (h ∷ ctx) s → IsSketchIn env ctx (under_hyp h s)
sketch_under env ctx h s scoped sketch = under_by env ctx h.name h.ty h.value s scoped.ty scoped.value sketch
