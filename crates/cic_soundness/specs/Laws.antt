-- What is true of each value that a judgement gives: it is told by the typing relation.
use Rattle.std.specs.Prelude.{◌≡◌, ℕ, ◌<◌, List, ◌∷◌, ◌++◌, length, Bool, true, false, IsTrue}
use Rattle.core_term.specs.Tree.{Tree, Sorted}
use Rattle.cic_rules.specs.declared.context.Hyp.{Hyp}
use Rattle.cic_rules.specs.declared.decls.Decl.{Decl}
use Rattle.cic_rules.specs.declared.env.Slot.{Slot}
use Rattle.cic_rules.specs.declared.judge.Mode.{Mode}
use Rattle.cic_rules.specs.declared.judge.Mode.TheVariants.{Same, Below}
use Rattle.cic_rules.specs.Scopes.{AreNames}
use Rattle.cic_rules.specs.Derive.{Conv, Cumul, WfContext, HasType}
use Rattle.cic_rules.specs.WellFormed.{WfEnv}
use Rattle.cic_rules.specs.Reduce.{whnf_at}
use Rattle.cic_rules.specs.Convert.{conv_at}
use Rattle.cic_rules.specs.Infer.{infer_at, sort_of_at, check_at}
use Rattle.cic_rules.specs.Declare.{declare_at}
use Rattle.cic_rules.specs.Grounded.{is_assumption, axioms, IsGrounded}
use Rattle.cic_rules.specs.Laws.{HasAll, UsesBefore, Tells}

-- two terms are convertible, or the first is below the second
unfoldable pub Fits : List Slot → List Hyp → Mode → Tree → Tree → Type 0
Fits env ctx Same t u = Conv env ctx t u
Fits env ctx Below t u = Cumul env ctx t u

-- weak head reduction gives a term that is convertible
abbrev pub ReductionIsSound : Type 0
ReductionIsSound = (env : List Slot) (delta : Bool) (calls : ℕ) (ctx : List Hyp) (t : Tree) → Tells (whnf_at env delta calls ctx t) (λ u. Conv env ctx t u)

-- where conversion answers Yes, the terms fit
abbrev pub ConversionIsSound : Type 0
ConversionIsSound = (env : List Slot) (calls : ℕ) (ctx : List Hyp) (mode : Mode) (t u : Tree) →
    Tells (conv_at env calls ctx mode t u) (λ answer. answer ≡ true → Fits env ctx mode t u)

-- a term has a type over some names of the environment: over each list that has them, in a context that is well formed over it
pub record IsKnown (env : List Slot) (ctx : List Hyp) (t ty : Tree) (used : List ℕ) : Type 0 where
  pub names : AreNames (length env) used
  pub derived : (all : List ℕ) → HasAll used all → WfContext env all ctx → HasType env all ctx t ty

-- a type that is inferred is a type of the term
abbrev pub TypesAreSound : Type 0
TypesAreSound = (env : List Slot) (calls : ℕ) (ctx : List Hyp) (t : Tree) → Tells (infer_at env calls ctx t) (λ i. IsKnown env ctx t i.ty i.used)

-- the sort of a type is its type
abbrev pub SortsAreSound : Type 0
SortsAreSound = (env : List Slot) (calls : ℕ) (ctx : List Hyp) (a : Tree) →
    Tells (sort_of_at env calls ctx a) (λ s. IsKnown env ctx a (Sorted s.sort) s.used)

-- a term that passes against a type has it
abbrev pub ChecksAreSound : Type 0
ChecksAreSound = (env : List Slot) (calls : ℕ) (ctx : List Hyp) (t wanted : Tree) →
    Tells (check_at env calls ctx t wanted) (λ used. IsKnown env ctx t wanted used)

-- what is derived stands over every list that has the names, and in every longer environment
pub record DerivationsStay : Type 0 where
  pub converts : (env more : List Slot) (ctx : List Hyp) (t u : Tree) → Conv env ctx t u → Conv (env ++ more) ctx t u
  pub below : (env more : List Slot) (ctx : List Hyp) (t u : Tree) → Cumul env ctx t u → Cumul (env ++ more) ctx t u
  pub formed : (env more : List Slot) (used all : List ℕ) (ctx : List Hyp) → HasAll used all → WfContext env used ctx → WfContext (env ++ more) all ctx
  pub derives : (env more : List Slot) (used all : List ℕ) (ctx : List Hyp) (t a : Tree) → HasAll used all → HasType env used ctx t a →
      HasType (env ++ more) all ctx t a

-- a declaration that is accepted keeps an environment well formed
abbrev pub DeclareKeepsForm : Type 0
DeclareKeepsForm = (env : List Slot) → WfEnv env → (calls : ℕ) (d : Decl) → Tells (declare_at env calls d) WfEnv

-- in a well formed environment each entry uses only what stands before it, and is grounded in its axioms, an assumption or an
-- admitted theorem in them together with itself
pub record EntriesAreGrounded : Type 0 where
  pub before : (env : List Slot) → WfEnv env → UsesBefore env
  pub assumptions : (env : List Slot) → WfEnv env → (place : ℕ) → IsTrue (is_assumption env place) → IsGrounded env (place ∷ axioms env place) place
  pub others : (env : List Slot) → WfEnv env → (place : ℕ) → place < length env → is_assumption env place ≡ false → IsGrounded env (axioms env place) place
