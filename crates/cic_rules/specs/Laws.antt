-- Laws of the definitions.
use Rattle.std.specs.Prelude.{◌≡◌, ℕ, suc, ◌+◌, ◌≤◌, ◌<◌, ◌↔◌, Bool, List, ◌∷◌, length, Some, Ok, Err, IsTrue}
use Rattle.base_core.specs.declared.refusals.Stop.TheVariants.{Out}
use Rattle.base_core.specs.declared.refusals.Limit.TheVariants.{StepLimit}
use Rattle.core_term.specs.Tree.{Tree, free_bound}
use Rattle.core_term.specs.Places.{lift_of, subst_of}
use Rattle.term_spine.specs.Globals.{has, IsAscending}
use Rattle.term_spine.specs.Instantiate.{instantiate}
use Rattle.term_spine.specs.Spine.{apply_all}
use Rattle.cic_rules.specs.declared.context.Hyp.{Hyp}
use Rattle.cic_rules.specs.declared.decls.Decl.{Decl}
use Rattle.cic_rules.specs.declared.entries.Entry.{Entry}
use Rattle.cic_rules.specs.declared.entries.EntryKind.TheVariants.{Assumed, Admitted, Defined}
use Rattle.cic_rules.specs.declared.env.Slot.{Slot}
use Rattle.cic_rules.specs.EnterFamily.{MayEnterFamily}
use Rattle.cic_rules.specs.declared.families.CheckedInductive.{CheckedInductive}
use Rattle.cic_rules.specs.declared.families.RowSorts.{RowSorts}
use Rattle.cic_rules.specs.declared.judge.InferredSort.{InferredSort}
use Rattle.cic_rules.specs.declared.judge.Mode.{Mode}
use Rattle.cic_rules.specs.Scopes.{AreBefore, IsScoped, AreScoped, IsScopedContext, AreNames, UseOnly, IsJudged}
use Rattle.cic_rules.specs.Judges.{IsInferredIn}
use Rattle.cic_rules.specs.declared.decls.InductiveDecl.{InductiveDecl}
use Rattle.cic_rules.specs.Contexts.{type_of_variable, value_of_variable, products_over}
use Rattle.cic_rules.specs.Environments.{place_in, type_of_global, body_of_global, decl_at, decl_terms, AreScopedCtors, IsScopedDecl, IsNew, IsEnvironment, MayEnter}
use Rattle.cic_rules.specs.Derive.{WfContext, HasType}
use Rattle.cic_rules.specs.Reduce.{whnf_at}
use Rattle.cic_rules.specs.Convert.{conv_at}
use Rattle.cic_rules.specs.Infer.{union, inferred_sort, infer_at, sort_of_at, check_at}
use Rattle.cic_rules.specs.Inductive.{row_at}
use Rattle.cic_rules.specs.Declare.{IsChecked, eliminators, declare_at}
use Rattle.cic_rules.specs.Runs.{Ran, Run, ◌>>=◌, pure, Turn, Final, GoOn}
use Rattle.cic_rules.specs.Grounded.{used_at, is_assumption, axioms, Reaches}

-- the second list has each name of the first
abbrev pub HasAll : List ℕ → List ℕ → Type 0
HasAll used all = (c : ℕ) → IsTrue (has used c) → IsTrue (has all c)

-- what is derived over some names is derived over every list that has them
pub record NamesMayGrow : Type 0 where
  pub formed : (env : List Slot) (used all : List ℕ) (ctx : List Hyp) → HasAll used all → WfContext env used ctx → WfContext env all ctx
  pub derives : (env : List Slot) (used all : List ℕ) (ctx : List Hyp) (t a : Tree) → HasAll used all → HasType env used ctx t a →
      HasType env all ctx t a

-- the axioms of an entry ascend, each once
abbrev pub AxiomsAscend : Type 0
AxiomsAscend = (env : List Slot) (place : ℕ) → IsAscending (axioms env place)

-- each entry uses only what stands before it
abbrev pub UsesBefore : List Slot → Type 0
UsesBefore env = (place : ℕ) → AreBefore place (used_at env place)

-- which is so in each environment that the program holds
abbrev pub EntriesUseBefore : Type 0
EntriesUseBefore = (env : List Slot) → IsEnvironment env → UsesBefore env

-- where that is so, the axioms of an entry are exactly the assumptions and admitted theorems that it reaches through the names used
abbrev pub AxiomsAreReached : Type 0
AxiomsAreReached = (env : List Slot) → UsesBefore env → (place q : ℕ) →
    IsTrue (has (axioms env place) q) ↔ ((IsTrue (is_assumption env q)) × Reaches env place q)

-- the sort of a row of products, without the sorts of its domains
abbrev pub without_domains : RowSorts → Run InferredSort
without_domains r = pure (inferred_sort r.sort r.used)

-- a row of products is sorted as each type is: by the same answer, with the same names and for the same units
abbrev pub RowsAreSorted : Type 0
RowsAreSorted = (env : List Slot) (calls : ℕ) (ctx : List Hyp) (t : Tree) (left : ℕ) →
    (row_at env calls ctx t >>= without_domains) left ≡ sort_of_at env calls ctx t left

-- a run with m units beside the same run with n of them, which are not fewer: both give one answer for as many units, or m are too
-- few, and the run with n spends more than m
pub data IsUnderLimit {A : Type 0} (m n : ℕ) (low high : Ran A) : Type 0 where
  SameAnswer : low.answer ≡ high.answer → low.left + n ≡ high.left + m → IsUnderLimit m n low high
  TooFew : low.answer ≡ Err (Out StepLimit) → high.left + m < n → IsUnderLimit m n low high

-- the law of fuel: no run leaves more units than it had, and what it does with fewer; one that ends for want of units has none left
pub record KeepsLawOfFuel {A : Type 0} (run : Run A) : Type 0 where
  pub falls : (n : ℕ) → (run n).left ≤ n
  pub lower : (m n : ℕ) → m ≤ n → IsUnderLimit m n (run m) (run n)
  pub empty : (n : ℕ) → (run n).answer ≡ Err (Out StepLimit) → (run n).left ≡ 0

abbrev pub FuelOfReduction : Type 0
FuelOfReduction = (env : List Slot) (delta : Bool) (calls : ℕ) (ctx : List Hyp) (t : Tree) → KeepsLawOfFuel (whnf_at env delta calls ctx t)

abbrev pub FuelOfConversion : Type 0
FuelOfConversion = (env : List Slot) (calls : ℕ) (ctx : List Hyp) (mode : Mode) (t u : Tree) → KeepsLawOfFuel (conv_at env calls ctx mode t u)

abbrev pub FuelOfInference : Type 0
FuelOfInference = (env : List Slot) (calls : ℕ) (ctx : List Hyp) (t : Tree) → KeepsLawOfFuel (infer_at env calls ctx t)

abbrev pub FuelOfSorts : Type 0
FuelOfSorts = (env : List Slot) (calls : ℕ) (ctx : List Hyp) (a : Tree) → KeepsLawOfFuel (sort_of_at env calls ctx a)

abbrev pub FuelOfChecks : Type 0
FuelOfChecks = (env : List Slot) (calls : ℕ) (ctx : List Hyp) (t wanted : Tree) → KeepsLawOfFuel (check_at env calls ctx t wanted)

abbrev pub FuelOfDeclarations : Type 0
FuelOfDeclarations = (env : List Slot) (calls : ℕ) (d : Decl) → KeepsLawOfFuel (declare_at env calls d)

-- each value of a run is such
pub record Tells {A : Type 0} (run : Run A) (P : A → Type 0) : Type 0 where
  pub tells : (left : ℕ) (x : A) → (run left).answer ≡ Ok x → P x

-- a turn of a loop: what it ends with, and what it goes on with
abbrev pub Turned : {S A : Type 0} → (S → Type 0) → (A → Type 0) → Turn S A → Type 0
Turned P Q (Final x) = Q x
Turned P Q (GoOn s) = P s

-- weak head reduction keeps a term in scope
abbrev pub ScopeOfReduction : Type 0
ScopeOfReduction = (env : List Slot) → IsEnvironment env → (delta : Bool) (calls : ℕ) (ctx : List Hyp) → IsScopedContext (length env) ctx →
    (t : Tree) → IsScoped (length ctx) (length env) t → Tells (whnf_at env delta calls ctx t) (λ u. IsScoped (length ctx) (length env) u)

-- a term for which a type is found is in scope, and so is its type; the names used are of the environment, and each global of the term is one
abbrev pub ScopeOfInference : Type 0
ScopeOfInference = (env : List Slot) → IsEnvironment env → (calls : ℕ) (ctx : List Hyp) → IsScopedContext (length env) ctx →
    (t : Tree) → Tells (infer_at env calls ctx t) (IsInferredIn env ctx t)

-- a term that has a sort, or that passes against a type, is in scope too
abbrev pub ScopeOfSorts : Type 0
ScopeOfSorts = (env : List Slot) → IsEnvironment env → (calls : ℕ) (ctx : List Hyp) → IsScopedContext (length env) ctx →
    (a : Tree) → Tells (sort_of_at env calls ctx a) (λ s. IsJudged (length ctx) (length env) a s.used)

abbrev pub ScopeOfChecks : Type 0
ScopeOfChecks = (env : List Slot) → IsEnvironment env → (calls : ℕ) (ctx : List Hyp) → IsScopedContext (length env) ctx →
    (t wanted : Tree) → Tells (check_at env calls ctx t wanted) (IsJudged (length ctx) (length env) t)

abbrev pub ScopeOfRows : Type 0
ScopeOfRows = (env : List Slot) → IsEnvironment env → (calls : ℕ) (ctx : List Hyp) → IsScopedContext (length env) ctx →
    (t : Tree) → Tells (row_at env calls ctx t) (λ r. IsJudged (length ctx) (length env) t r.used)

-- an inductive type that passed its test, to stand at the next place: its terms are in scope there, and the names used are of the
-- environment, and have each global of its terms but the type itself
pub record IsCheckedIn (env : List Slot) (c : CheckedInductive) : Type 0 where
  pub place : c.place ≡ length env
  pub arity : IsScoped 0 (length env) (products_over c.decl.params c.decl.arity)
  pub ctors : AreScopedCtors (length c.decl.params) (suc (length env)) c.decl.ctors
  pub names : AreNames (length env) c.used
  pub uses : UseOnly (length env ∷ c.used) (decl_terms c.decl)

abbrev pub ScopeOfInductives : Type 0
ScopeOfInductives = (env : List Slot) → IsEnvironment env → (c : CheckedInductive) → IsChecked env c → IsCheckedIn env c

-- and its entries may be entered, where none is too large
abbrev pub CheckedMayEnter : Type 0
CheckedMayEnter = (env : List Slot) → IsEnvironment env → (c : CheckedInductive) → IsChecked env c → (entries : List Entry) →
    eliminators env c ≡ Ok entries → MayEnterFamily env c.decl entries

-- what was judged without hypotheses may be entered under a new name
pub record JudgedMayEnter : Type 0 where
  pub assumed : (env : List Slot) (name : List ℕ) (ty : Tree) (used : List ℕ) → IsNew env name → IsJudged 0 (length env) ty used →
      MayEnter env (record { name = name; ty = ty; kind = Assumed; used = used })
  pub admitted : (env : List Slot) (name : List ℕ) (ty : Tree) (used : List ℕ) → IsNew env name → IsJudged 0 (length env) ty used →
      MayEnter env (record { name = name; ty = ty; kind = Admitted; used = used })
  pub defined : (env : List Slot) (name : List ℕ) (ty body : Tree) (opaque : Bool) (used : List ℕ) → IsNew env name →
      IsJudged 0 (length env) ty used → IsJudged 0 (length env) body used →
      MayEnter env (record { name = name; ty = ty; kind = Defined body opaque; used = used })
  -- with the names of a further run
  pub first : (vars globals : ℕ) (t : Tree) (us vs : List ℕ) → IsJudged vars globals t us → AreNames globals vs →
      IsJudged vars globals t (union us vs)
  pub second : (vars globals : ℕ) (t : Tree) (us vs : List ℕ) → AreNames globals us → IsJudged vars globals t vs →
      IsJudged vars globals t (union us vs)

-- so declarations keep what is true of an environment
abbrev pub DeclareKeepsEnvironments : Type 0
DeclareKeepsEnvironments = (env : List Slot) → IsEnvironment env → (calls : ℕ) (d : Decl) → Tells (declare_at env calls d) IsEnvironment

-- what an environment tells is in scope everywhere: types, bodies and declarations
pub record ScopeOfGlobals : Type 0 where
  pub types : (env : List Slot) → IsEnvironment env → (vars c : ℕ) (t : Tree) → type_of_global env c ≡ Some t → IsScoped vars (length env) t
  pub there : (env : List Slot) → IsEnvironment env → (c : ℕ) (t : Tree) → type_of_global env c ≡ Some t → c < length env
  pub bodies : (env : List Slot) → IsEnvironment env → (vars c : ℕ) (t : Tree) → body_of_global env c ≡ Some t → IsScoped vars (length env) t
  pub decls : (env : List Slot) → IsEnvironment env → (place : ℕ) (d : InductiveDecl) → decl_at env place ≡ Some d → IsScopedDecl (length env) d

-- and what a context tells
pub record ScopeOfContexts : Type 0 where
  pub types : (globals : ℕ) (ctx : List Hyp) (i : ℕ) (t : Tree) → IsScopedContext globals ctx → type_of_variable ctx i ≡ Some t →
      IsScoped (length ctx) globals t
  pub there : (ctx : List Hyp) (i : ℕ) (t : Tree) → type_of_variable ctx i ≡ Some t → i < length ctx
  pub values : (globals : ℕ) (ctx : List Hyp) (i : ℕ) (t : Tree) → IsScopedContext globals ctx → value_of_variable ctx i ≡ Some t →
      IsScoped (length ctx) globals t

-- what keeps terms in scope
pub record ScopeOfTerms : Type 0 where
  pub more : (vars wider globals larger : ℕ) (t : Tree) → vars ≤ wider → globals ≤ larger → IsScoped vars globals t → IsScoped wider larger t
  pub free : (vars globals : ℕ) (t : Tree) → IsScoped vars globals t → free_bound t ≤ vars
  pub lift : (vars wider globals by from : ℕ) (t : Tree) → wider ≡ vars + by → IsScoped vars globals t → IsScoped wider globals (lift_of t by from)
  pub subst : (vars wider globals at : ℕ) (t v : Tree) → wider ≡ suc vars → at ≤ vars → IsScoped wider globals t → IsScoped vars globals v →
      IsScoped vars globals (subst_of t v at)
  pub instantiate : (vars globals count : ℕ) (values : List Tree) (t : Tree) → count ≡ length values → IsScoped count globals t →
      AreScoped vars globals values → IsScoped vars globals (instantiate values t)
  pub apply_all : (vars globals : ℕ) (f : Tree) (args : List Tree) → IsScoped vars globals f → AreScoped vars globals args →
      IsScoped vars globals (apply_all f args)

-- a name that is found is that of a global
abbrev pub FoundPlacesAreThere : Type 0
FoundPlacesAreThere = (env : List Slot) (name : List ℕ) (place : ℕ) → place_in env name ≡ Some place → place < length env
