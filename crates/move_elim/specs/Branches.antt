-- The branches of a pattern, and the names that they give.
use Rattle.std.specs.Prelude.{ℕ, ◌==◌, List, [], ◌∷◌, length, Bool, true, false, ◌&&◌, ◌||◌, Option, Some, None, if◌then◌else◌}
use Rattle.coq_syntax.specs.declared.words.BoundName.{BoundName}
use Rattle.coq_syntax.specs.declared.words.BoundName.TheVariants.{Named, Unnamed}
use Rattle.coq_syntax.specs.MoveTrees.{Pattern, PatternCase}
use Rattle.cic_rules.specs.declared.decls.Ctor.{Ctor}
use Rattle.cic_rules.specs.Eliminators.{has_name}

-- a name, or `_` in its place
abbrev pub Given : Type 0
Given = Option (List ℕ)

abbrev pub given_by : BoundName → Given
given_by (Named w) = Some w.text
given_by (Unnamed p) = None

abbrev pub names_given : List BoundName → List Given
names_given [] = []
names_given (b ∷ bs) = given_by b ∷ names_given bs

abbrev pub case_names : List PatternCase → List (List Given)
case_names [] = []
case_names (c ∷ cs) = names_given c.names ∷ case_names cs

abbrev pub without_names : List Ctor → List (List Given)
without_names [] = []
without_names (c ∷ cs) = [] ∷ without_names cs

-- there is no constructor, and `[]` is written
abbrev pub is_empty : List Ctor → List BoundName → List PatternCase → Bool
is_empty ctors first others = length ctors == 0 && (length first == 0 && length others == 0)

-- what is written has one branch more than it has bars; but where there is no constructor, `[]` has none
abbrev pub written_branches : List Ctor → List BoundName → List PatternCase → List (List Given)
written_branches ctors first others = if is_empty ctors first others then [] else names_given first ∷ case_names others

-- the names that are given in each branch
abbrev pub branches_of : List Ctor → Option Pattern → List (List Given)
branches_of ctors None = without_names ctors
branches_of ctors (Some p) = written_branches ctors p.first p.others

-- the next name of a branch, or another where none is given
abbrev pub given_or : Given → List ℕ → List ℕ
given_or None other = other
given_or (Some n) other = n

abbrev pub next_name : List Given → List ℕ → List ℕ
next_name [] other = other
next_name (g ∷ more) other = given_or g other

abbrev pub behind_next : List Given → List Given
behind_next [] = []
behind_next (g ∷ more) = more

-- the names behind that of an argument, and in an induction behind that of its hypothesis, where it is recursive
abbrev pub behind_argument : Bool → Bool → List Given → List Given
behind_argument induction recursive given = if induction && recursive then behind_next (behind_next given) else behind_next given

-- .. behind those of all arguments, of which these are recursive
abbrev pub names_left : Bool → List Bool → List Given → List Given
names_left induction [] given = given
names_left induction (recursive ∷ later) given = names_left induction later (behind_argument induction recursive given)

abbrev pub is_there : List Given → Bool
is_there [] = false
is_there (g ∷ more) = true

-- a branch has too many names
abbrev pub have_too_many : Bool → List (List Bool) → List (List Given) → Bool
have_too_many induction (flags ∷ later) (b ∷ bs) = is_there (names_left induction flags b) || have_too_many induction later bs
have_too_many induction _ _ = false

abbrev pub with_if_given : Given → List (List ℕ) → List (List ℕ)
with_if_given None names = names
with_if_given (Some n) names = n ∷ names

abbrev pub has_if_given : Given → List (List ℕ) → Bool
has_if_given None names = false
has_if_given (Some n) names = has_name names n

-- a name of a branch is one of these, or is given twice
abbrev pub clash : List (List ℕ) → List Given → Bool
clash names [] = false
clash names (g ∷ more) = if has_if_given g names then true else clash (with_if_given g names) more

abbrev pub any_clash : List (List ℕ) → List (List Given) → Bool
any_clash names [] = false
any_clash names (b ∷ bs) = clash names b || any_clash names bs

-- these names with those of a branch
abbrev pub with_given : List (List ℕ) → List Given → List (List ℕ)
with_given names [] = names
with_given names (g ∷ more) = with_given (with_if_given g names) more
