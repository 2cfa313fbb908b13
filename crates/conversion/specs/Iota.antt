-- Iota, by what was told of an inductive type once; and when values may be put into a type.
use Rattle.std.specs.Prelude.{Result, Ok, Err, ℕ, ◌+◌, ◌^◌, ◌≤◌, List, [], ◌∷◌, length, take, drop, Bool}
use Rattle.base_core.specs.declared.refusals.Stop.{Stop}
use Rattle.base_core.specs.declared.refusals.Stop.TheVariants.{NoMem}
use Rattle.core_term.specs.Tree.{Tree, Prod, depth_of, free_bound}
use Rattle.core_term.specs.Answers.{within_limits, Gives}
use Rattle.core_term.specs.declared.stops.TermStop.{TermStop}
use Rattle.term_spine.specs.declared.spines.Spine.{Spine}
use Rattle.term_spine.specs.Spines.{IsSpineOf}
use Rattle.term_spine.specs.SpineLaws.{AreOver, AreShallow}
use Rattle.cic_rules.specs.declared.shapes.FamilyShape.{FamilyShape}
use Rattle.term_spine.specs.Spine.{apply_all}
use Rattle.cic_rules.specs.Families.{newest_first, case_applied_to}
use Rattle.conversion.specs.Turns.{IsSpine}

-- a case applied to all arguments of its constructor, with marks at the recursive ones
abbrev pub case_by : ℕ → List Bool → Tree → Tree → List Tree → Tree → List Tree → Tree
case_by params (mark ∷ marks) eliminator case values (Prod n a b) (v ∷ vs) =
    case_by params marks eliminator (case_applied_to params mark eliminator case v values a) (v ∷ values) b vs
case_by params marks eliminator case values t vs = case

-- what an eliminator gives for the arguments of a constructor of this type, parameters and all
abbrev pub iota_by : ℕ → ℕ → ℕ → List Bool → Tree → List Tree → Tree → Tree → List Tree → Tree
iota_by params fixed major marks head args case ty value_args =
    apply_all
    (case_by params marks (apply_all head (take fixed args)) case (newest_first (take params args) []) ty (drop params value_args))
    (drop (major + 1) args)

-- the values for all variables of a term stand among so many variables, and are terms
pub record MayPutIn (vars : ℕ) (values : List Tree) (ty : Tree) : Type 0 where
  pub over : AreOver vars values
  pub shallow : AreShallow 1000 values
  pub few : free_bound ty ≤ length values
  pub room : vars + depth_of ty ≤ 2 ^ 31 + 4000

-- the same of several terms
abbrev pub MayPutInAll : ℕ → List Tree → List Tree → Type 0
MayPutInAll vars values [] = Unit {0}
MayPutInAll vars values (t ∷ ts) = MayPutIn vars values t × MayPutInAll vars values ts

-- a call that only want of memory ends gives the spine of a term
abbrev pub IsSpineIfMade : Result Spine Stop → Tree → Type 0
IsSpineIfMade (Ok s) t = IsSpineOf s t
IsSpineIfMade (Err NoMem) t = Unit {0}
IsSpineIfMade (Err _) t = ⊥

-- an eliminator's spine with a constructor's type and arguments, among so many variables: what iota builds of them is a term
pub record MayBuild (vars params : ℕ) (s : Spine) (ty : Tree) (value_args : List Tree) : Type 0 where
  pub spine : IsSpine s
  pub count : params ≤ length s.args
  pub room : vars ≤ 2 ^ 31
  pub head : free_bound s.head ≤ vars
  pub args : AreOver vars s.args
  pub few : free_bound ty ≤ params
  pub made : AreOver vars value_args

-- what is built of a spine by the shape of its type
abbrev pub iota_of : FamilyShape → List Bool → Spine → Tree → Tree → List Tree → Tree
iota_of shape marks s case ty value_args = iota_by shape.params shape.fixed shape.major marks s.head s.args case ty value_args

-- a call makes the term, where no limit forbids it
abbrev pub Makes : Result Tree TermStop → Tree → Type 0
Makes result t = Gives result (within_limits t)
