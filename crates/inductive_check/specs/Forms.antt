-- The form of a constructor's type, by the number of binders that it stands under.
use Rattle.std.specs.Prelude.{ℕ, zero, suc, ◌+◌, ◌==◌, List, [], ◌∷◌, length, take, drop, Bool, true, ◌&&◌, if◌then◌else◌}
use Rattle.core_term.specs.Tree.{Tree, Var}
use Rattle.term_spine.specs.Globals.{mentions}
use Rattle.term_spine.specs.Spine.{same_trees}
use Rattle.cic_rules.specs.declared.decls.Ctor.{Ctor}
use Rattle.cic_rules.specs.Inductive.{is_family, is_absent, is_constructors, is_recursive, is_positive, are_positive}
use Rattle.inductive_check.specs.declared.forms.Form.{Form}

-- the parameters, so many, as a term below some binders sees them
abbrev pub params_under : ℕ → ℕ → List Tree
params_under binders zero = []
params_under binders (suc n) = Var (n + binders) ∷ params_under binders n

-- the type applied to exactly the parameters, and then to arguments in which it does not stand
abbrev pub applied_spine : Form → ℕ → Tree → List Tree → Bool
applied_spine f binders head args =
    is_family f.place head && same_trees (take f.params args) (params_under binders f.params) && is_absent f.place (drop f.params args)

-- .. and to as many as there are indices
abbrev pub family_spine : Form → ℕ → Tree → List Tree → Bool
family_spine f binders head args = applied_spine f binders head args && (length args == f.params + f.indices)

abbrev pub is_constructor_at : Form → ℕ → Tree → Bool
is_constructor_at f binders t = is_constructors f.place (params_under binders f.params) f.indices t

abbrev pub is_recursive_at : Form → ℕ → Tree → Bool
is_recursive_at f binders t = is_recursive f.place (params_under binders f.params) t

abbrev pub is_positive_argument : Form → ℕ → Tree → Bool
is_positive_argument f binders a = if mentions f.place a then is_recursive_at f binders a else true

abbrev pub is_positive_at : Form → ℕ → Tree → Bool
is_positive_at f binders t = is_positive f.place (params_under binders f.params) t

abbrev pub are_positive_at : Form → List Ctor → Bool
are_positive_at f cs = are_positive f.place (params_under 0 f.params) cs
