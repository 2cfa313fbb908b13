-- What stands in scope: free variables among so many hypotheses, and globals among so many entries.
use Rattle.std.specs.Prelude.{ℕ, suc, ◌<◌, List, [], ◌∷◌, length, IsTrue, Option, Some, None}
use Rattle.core_term.specs.Tree.{Tree, Var, Sorted, Constant, Prod, Lam, LetIn, App}
use Rattle.term_spine.specs.Globals.{has, IsAscending}
use Rattle.cic_rules.specs.declared.context.Hyp.{Hyp}

-- a term with so many variables and globals to speak of
abbrev pub IsScoped : ℕ → ℕ → Tree → Type 0
IsScoped vars globals (Var i) = i < vars
IsScoped vars globals (Sorted s) = Unit {0}
IsScoped vars globals (Constant c) = c < globals
IsScoped vars globals (Prod n a b) = IsScoped vars globals a × IsScoped (suc vars) globals b
IsScoped vars globals (Lam n a b) = IsScoped vars globals a × IsScoped (suc vars) globals b
IsScoped vars globals (LetIn n a t b) = IsScoped vars globals a × IsScoped vars globals t × IsScoped (suc vars) globals b
IsScoped vars globals (App f a) = IsScoped vars globals f × IsScoped vars globals a

abbrev pub AreScoped : ℕ → ℕ → List Tree → Type 0
AreScoped vars globals [] = Unit {0}
AreScoped vars globals (t ∷ ts) = IsScoped vars globals t × AreScoped vars globals ts

abbrev pub IsScopedIfAny : ℕ → ℕ → Option Tree → Type 0
IsScopedIfAny vars globals None = Unit {0}
IsScopedIfAny vars globals (Some t) = IsScoped vars globals t

-- a hypothesis behind so many others
pub record IsScopedHyp (vars globals : ℕ) (h : Hyp) : Type 0 where
  pub ty : IsScoped vars globals h.ty
  pub value : IsScopedIfAny vars globals h.value

-- each hypothesis behind the older ones
abbrev pub IsScopedContext : ℕ → List Hyp → Type 0
IsScopedContext globals [] = Unit {0}
IsScopedContext globals (h ∷ hs) = IsScopedHyp (length hs) globals h × IsScopedContext globals hs

-- each of the places is before this one
abbrev pub AreBefore : ℕ → List ℕ → Type 0
AreBefore place [] = Unit {0}
AreBefore place (p ∷ ps) = (p < place) × AreBefore place ps

-- each global of the term is among these
abbrev pub UsesOnly : List ℕ → Tree → Type 0
UsesOnly used (Var i) = Unit {0}
UsesOnly used (Sorted s) = Unit {0}
UsesOnly used (Constant c) = IsTrue (has used c)
UsesOnly used (Prod n a b) = UsesOnly used a × UsesOnly used b
UsesOnly used (Lam n a b) = UsesOnly used a × UsesOnly used b
UsesOnly used (LetIn n a t b) = UsesOnly used a × UsesOnly used t × UsesOnly used b
UsesOnly used (App f a) = UsesOnly used f × UsesOnly used a

abbrev pub UseOnly : List ℕ → List Tree → Type 0
UseOnly used [] = Unit {0}
UseOnly used (t ∷ ts) = UsesOnly used t × UseOnly used ts

-- names used: places of an environment, ascending, each once
pub record AreNames (globals : ℕ) (used : List ℕ) : Type 0 where
  pub ascending : IsAscending used
  pub before : AreBefore globals used

-- what inference tells of a term, whatever its type: it is in scope, and the names used have each of its globals
pub record IsJudged (vars globals : ℕ) (t : Tree) (used : List ℕ) : Type 0 where
  pub term : IsScoped vars globals t
  pub names : AreNames globals used
  pub uses : UsesOnly used t
