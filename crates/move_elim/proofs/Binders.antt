-- What stands in scope behind a binder.
use Rattle.std.specs.Prelude.{ℕ, List, ◌∷◌, length, Option, Some, None}
use Rattle.core_term.specs.Tree.{Tree}
use Rattle.cic_rules.specs.declared.context.Hyp.{Hyp}
use Rattle.cic_rules.specs.declared.env.Slot.{Slot}
use Rattle.cic_rules.specs.Contexts.{IsInIfAny, IsHypAt}
use Rattle.cic_rules.specs.Judges.{MayJudge, IsTermIn}
use Rattle.cic_rules.specs.Scopes.{IsScopedIfAny, IsScopedHyp}
use Rattle.cic_rules.proofs.ScopeLaws.{scoped_free}
use Rattle.proof_state.specs.declared.goals.Goal.{Goal}
use Rattle.proof_state.specs.Partial.{Partial}
use Rattle.proof_state.specs.Scopes.{IsSketchIn}
use Rattle.move_elim.specs.Cases.{over_binder}

value_in : (n m : ℕ) (v : Option Tree) → IsScopedIfAny n m v → IsInIfAny n v
value_in n m None scoped = tt
value_in n m (Some t) scoped = scoped_free n m t scoped

-- a hypothesis may stand behind others, and judgements may be asked for behind it
pub hyp_in : (n m : ℕ) (h : Hyp) → IsScopedHyp n m h → IsHypAt n h
hyp_in n m h scoped = record { ty = scoped_free n m h.ty scoped.ty; value = value_in n m h.value scoped.value }

pub judged_behind : (env : List Slot) (ctx : List Hyp) (h : Hyp) → MayJudge env ctx → IsScopedHyp (length ctx) (length env) h → MayJudge env (h ∷ ctx)
judged_behind env ctx h judged scoped = record { scoped = (scoped, judged.scoped) }

under_by : (env : List Slot) (ctx : List Hyp) (n : List ℕ) (a : Tree) (v : Option Tree) (s : Partial Goal) →
    IsTermIn env ctx a → IsScopedIfAny (length ctx) (length env) v → IsSketchIn env (record { name = n; ty = a; value = v } ∷ ctx) s →
    IsSketchIn env ctx (over_binder n a v s)
under_by env ctx n a None s domain value sketch = (domain, sketch)
under_by env ctx n a (Some t) s domain value sketch = (domain, value, sketch)

pub sketch_over : (env : List Slot) (ctx : List Hyp) (h : Hyp) (s : Partial Goal) → IsScopedHyp (length ctx) (length env) h →
    IsSketchIn env (h ∷ ctx) s → IsSketchIn env ctx (over_binder h.name h.ty h.value s)
sketch_over env ctx h s scoped sketch = under_by env ctx h.name h.ty h.value s scoped.ty scoped.value sketch
