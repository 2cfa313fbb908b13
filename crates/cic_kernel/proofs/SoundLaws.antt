-- What a call answers is told by the typing relation, since its run's values are.
use Rattle.std.proofs.Common.{◌≡◌, ℕ, List, Result, Ok, Err, sym}
use Rattle.std.specs.Prelude.{IfOk}
use Rattle.base_core.specs.declared.refusals.Stop.{Stop}
use Rattle.core_term.specs.Tree.{Tree}
use Rattle.cic_rules.specs.declared.context.Hyp.{Hyp}
use Rattle.cic_rules.specs.declared.decls.Decl.{Decl}
use Rattle.cic_rules.specs.declared.env.Slot.{Slot}
use Rattle.cic_rules.specs.declared.judge.Inferred.{Inferred}
use Rattle.cic_rules.specs.Declare.{declare_at}
use Rattle.cic_rules.specs.Infer.{infer_at, check_at}
use Rattle.cic_rules.specs.Judges.{Meets}
use Rattle.cic_rules.specs.WellFormed.{WfEnv}
use Rattle.cic_soundness.specs.Laws.{IsKnown}
use Rattle.cic_soundness.proofs.InferSound.{types_are_sound, checks_are_sound}
use Rattle.cic_soundness.proofs.DeclareSound.{declare_keeps_form}

pub type_known : (env : List Slot) (calls : ℕ) (ctx : List Hyp) (t : Tree) (k l : ℕ) (result : Result Inferred Stop) →
    Meets result k (infer_at env calls ctx t l) → IfOk result (λ i. IsKnown env ctx t i.ty i.used)
type_known env calls ctx t k l (Ok i) meets = (types_are_sound env calls ctx t).tells l i (sym meets.0)
type_known env calls ctx t k l (Err stop) meets = tt

pub check_known : (env : List Slot) (calls : ℕ) (ctx : List Hyp) (t wanted : Tree) (k l : ℕ) (result : Result (List ℕ) Stop) →
    Meets result k (check_at env calls ctx t wanted l) → IfOk result (λ used. IsKnown env ctx t wanted used)
check_known env calls ctx t wanted k l (Ok used) meets = (checks_are_sound env calls ctx t wanted).tells l used (sym meets.0)
check_known env calls ctx t wanted k l (Err stop) meets = tt

pub declared_known : (env : List Slot) (calls : ℕ) (d : Decl) (k l : ℕ) (result : Result (List Slot) Stop) →
    Meets result k (declare_at env calls d l) → IfOk result (λ made. WfEnv env → WfEnv made)
declared_known env calls d k l (Ok made) meets = λ wf. (declare_keeps_form env wf calls d).tells l made (sym meets.0)
declared_known env calls d k l (Err stop) meets = tt
