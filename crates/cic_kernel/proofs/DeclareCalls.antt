-- How the calls of declarations meet the definitions, and what they may enter.
use Rattle.std.proofs.Common.{◌≡◌, ℕ, List, length, Bool, Option, Result, refl, sym, ap, subst, ◌∙◌}
use Rattle.base_core.specs.declared.refusals.Stop.{Stop}
use Rattle.core_term.specs.Tree.{Tree}
use Rattle.cic_rules.specs.declared.decls.Decl.{Decl}
use Rattle.cic_rules.specs.declared.decls.Decl.TheVariants.{Assume, Define, Admit, Induct}
use Rattle.cic_rules.specs.declared.decls.InductiveDecl.{InductiveDecl}
use Rattle.cic_rules.specs.declared.entries.EntryKind.{EntryKind}
use Rattle.cic_rules.specs.declared.entries.EntryKind.TheVariants.{Assumed, Admitted, Defined}
use Rattle.cic_rules.specs.declared.env.Slot.{Slot}
use Rattle.cic_rules.specs.Declare.{declare_at}
use Rattle.cic_rules.specs.Environments.{IsNew, MayEnter}
use Rattle.cic_rules.specs.Fuel.{FuelState, left, calls_left}
use Rattle.cic_rules.specs.Infer.{union}
use Rattle.cic_rules.specs.Judges.{Meets, declare_with}
use Rattle.cic_rules.specs.Runs.{Ran}
use Rattle.cic_rules.specs.Scopes.{IsJudged}
use Rattle.cic_rules.proofs.DeclareLaws.{judged_may_enter}
use Rattle.cic_kernel.specs.Declarations.{entry_of, assume_at, assume_with, define_at, define_with, induct_at, induct_with}

-- each kind of declaration by its own run
module _ (env : List Slot) (calls : ℕ) (units : ℕ) where
  assume_is : (name : List ℕ) (ty : Tree) → declare_at env calls (Assume name ty) units ≡ assume_at env calls name ty Assumed units
  unfolding declare_at
  assume_is name ty = refl

  admit_is : (name : List ℕ) (ty : Tree) → declare_at env calls (Admit name ty) units ≡ assume_at env calls name ty Admitted units
  unfolding declare_at
  admit_is name ty = refl

  define_is : (name : List ℕ) (ty : Option Tree) (body : Tree) (opaque : Bool) →
      declare_at env calls (Define name ty body opaque) units ≡ define_at env calls name ty body opaque units
  unfolding declare_at
  define_is name ty body opaque = refl

  induct_is : (d : InductiveDecl) → declare_at env calls (Induct d) units ≡ induct_at env calls d units
  unfolding declare_at
  induct_is d = refl

-- so a call that does the run does what is asked
module _ (env : List Slot) (asked : Decl) (f : FuelState) (result : Result (List Slot) Stop) (units : ℕ) where
  meets_by : (d : Decl) (ran : Ran (List Slot)) → asked ≡ d → declare_at env (calls_left f) d (left f) ≡ ran → Meets result units ran →
      Meets result units (declare_with env asked f)
  meets_by d ran is by meets =
      let P : Ran (List Slot) → Type 0 = λ r. Meets result units r in
      subst P (sym (ap (λ e. declare_at env (calls_left f) e (left f)) is ∙ by)) meets

  pub assumption_meets : (name : List ℕ) (ty : Tree) → asked ≡ Assume name ty → Meets result units (assume_with env name ty Assumed f) →
      Meets result units (declare_with env asked f)
  assumption_meets name ty is meets =
      meets_by (Assume name ty) (assume_with env name ty Assumed f) is (assume_is env (calls_left f) (left f) name ty) meets

  pub admission_meets : (name : List ℕ) (ty : Tree) → asked ≡ Admit name ty → Meets result units (assume_with env name ty Admitted f) →
      Meets result units (declare_with env asked f)
  admission_meets name ty is meets =
      meets_by (Admit name ty) (assume_with env name ty Admitted f) is (admit_is env (calls_left f) (left f) name ty) meets

  pub definition_meets : (name : List ℕ) (ty : Option Tree) (body : Tree) (opaque : Bool) → asked ≡ Define name ty body opaque →
      Meets result units (define_with env name ty body opaque f) → Meets result units (declare_with env asked f)
  definition_meets name ty body opaque is meets =
      meets_by (Define name ty body opaque) (define_with env name ty body opaque f) is (define_is env (calls_left f) (left f) name ty body opaque) meets

  pub family_meets : (d : InductiveDecl) → asked ≡ Induct d → Meets result units (induct_with env d f) → Meets result units (declare_with env asked f)
  family_meets d is meets = meets_by (Induct d) (induct_with env d f) is (induct_is env (calls_left f) (left f) d) meets

-- a definition whose body was checked, and one whose type was inferred
module _ (env : List Slot) (name : List ℕ) (ty body : Tree) (opaque : Bool) (kind : EntryKind) (us vs used : List ℕ) (new : IsNew env name)
    (defined : kind ≡ Defined body opaque) (both : used ≡ union us vs) where
  pub checked_enters : IsJudged 0 (length env) ty us → IsJudged 0 (length env) body vs → MayEnter env (entry_of name ty kind used)
  checked_enters first second =
      rw (defined, both) (judged_may_enter.defined env name ty body opaque (union us vs) new
      (judged_may_enter.first 0 (length env) ty us vs first second.names) (judged_may_enter.second 0 (length env) body us vs first.names second))

  pub inferred_enters : IsJudged 0 (length env) body us → IsJudged 0 (length env) ty vs → MayEnter env (entry_of name ty kind used)
  inferred_enters first second =
      rw (defined, both) (judged_may_enter.defined env name ty body opaque (union us vs) new
      (judged_may_enter.second 0 (length env) ty us vs first.names second) (judged_may_enter.first 0 (length env) body us vs first second.names))
