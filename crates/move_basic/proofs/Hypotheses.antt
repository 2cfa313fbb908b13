-- Hypotheses as they stand in their context.
use Rattle.std.specs.Prelude.{◌≡◌, ℕ, List, length, Some}
use Rattle.core_term.specs.Tree.{Tree}
use Rattle.cic_rules.specs.declared.context.Hyp.{Hyp}
use Rattle.cic_rules.specs.declared.env.Slot.{Slot}
use Rattle.cic_rules.specs.Contexts.{type_of_variable}
use Rattle.cic_rules.specs.Judges.{MayJudge, IsTermIn}
use Rattle.cic_rules.proofs.EnvironmentScopes.{variable_scoped}

pub type_scoped : (env : List Slot) (ctx : List Hyp) (i : ℕ) (t : Tree) → MayJudge env ctx → type_of_variable ctx i ≡ Some t → IsTermIn env ctx t
type_scoped env ctx i t judged is = variable_scoped (length env) ctx i t judged.scoped is
