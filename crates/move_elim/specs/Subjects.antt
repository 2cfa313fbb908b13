-- What is eliminated: a hypothesis whose type is inductive, at parameters and at indices that are hypotheses too.
use Rattle.std.specs.Prelude.{ℕ, ◌+◌, ◌==◌, nat_lt, List, [], ◌∷◌, ◌++◌, length, take, Bool, true, false, ◌&&◌, ◌||◌, not, Option, Some, None, Ok, if◌then◌else◌, slice_get}
use Rattle.base_core.specs.declared.refusal_codes.TheConstants.{NOT_INDUCTIVE, INDICES_NOT_VARIABLES}
use Rattle.core_term.specs.Tree.{Tree, Var}
use Rattle.core_term.specs.Places.{occurrences}
use Rattle.term_spine.specs.Spine.{head_of, arguments_of}
use Rattle.cic_rules.specs.declared.context.Hyp.{Hyp}
use Rattle.cic_rules.specs.declared.decls.InductiveDecl.{InductiveDecl}
use Rattle.cic_rules.specs.declared.env.Slot.{Slot}
use Rattle.cic_rules.specs.Eliminators.{same_name}
use Rattle.cic_rules.specs.Environments.{decl_at}
use Rattle.cic_rules.specs.Families.{count_params, count_indices, newest_first, indices}
use Rattle.cic_rules.specs.Steps.{Step, ◌>>=◌, ◌>>◌}
use Rattle.fresh_names.specs.Letters.{constant_of}
use Rattle.move_elim.specs.declared.subjects.Subject.{Subject}
use Rattle.move_elim.specs.Steps.{require_step, some_step}

-- a place, where the hypothesis there has no definition
abbrev pub if_plain : ℕ → Option Tree → Option ℕ
if_plain i None = Some i
if_plain i (Some t) = None

-- the newest hypothesis of this name, where it has no definition; the first of all stands at a place
abbrev pub named_from : ℕ → List Hyp → List ℕ → Option ℕ
named_from i [] name = None
named_from i (h ∷ hs) name = if same_name h.name name then if_plain i h.value else named_from (i + 1) hs name

abbrev pub has_no_value : Option Tree → Bool
has_no_value None = true
has_no_value (Some t) = false

-- there is a hypothesis, and it has no definition
abbrev pub is_plain : Option Hyp → Bool
is_plain None = false
is_plain (Some h) = has_no_value h.value

-- the variable stands in one of the terms
abbrev pub stands_in : List Tree → ℕ → Bool
stands_in [] i = false
stands_in (t ∷ ts) i = nat_lt 0 (occurrences t i) || stands_in ts i

-- the hypothesis without a definition that a term is, where it stands in none of the terms before
abbrev pub index_of : List Hyp → List Tree → Tree → Option ℕ
index_of ctx before (Var i) = if is_plain (slice_get ctx i) && not (stands_in before i) then Some i else None
index_of ctx before _ = None

abbrev pub if_found : Option ℕ → (ℕ → Option (List ℕ)) → Option (List ℕ)
if_found None rest = None
if_found (Some i) rest = rest i

-- those that were found so far, and those that these indices are: distinct, and not in the terms before
abbrev pub index_variables : List Hyp → List Tree → List ℕ → List Tree → Option (List ℕ)
index_variables ctx before found [] = Some found
index_variables ctx before found (t ∷ ts) = if_found (index_of ctx before t) (λ i. index_variables ctx (t ∷ before) (found ++ (i ∷ [])) ts)

-- as many arguments as parameters and indices
abbrev pub is_whole : InductiveDecl → Tree → Bool
is_whole d t = length (arguments_of t) == count_params d + count_indices d

-- the first arguments of a type, so many, the newest first
abbrev pub first_arguments : ℕ → Tree → List Tree
first_arguments count t = newest_first (take count (arguments_of t)) []

-- a hypothesis by its reduced type, whose head is a global: the inductive type, the parameters, the newest first, and the hypotheses that
-- are the indices
abbrev pub subject_by : List Slot → List Hyp → ℕ → Tree → ℕ → Step Subject
subject_by env ctx x t place = do
  d ← some_step NOT_INDUCTIVE (decl_at env place)
  require_step (is_whole d t) NOT_INDUCTIVE
  is ← some_step INDICES_NOT_VARIABLES (index_variables ctx (first_arguments (count_params d) t) [] (indices (count_params d) t))
  Ok (record { variable = x; place = place; params = first_arguments (count_params d) t; indices = is })

abbrev pub subject_of : List Slot → List Hyp → ℕ → Tree → Step Subject
subject_of env ctx x t = do
  place ← some_step NOT_INDUCTIVE (constant_of (head_of t))
  subject_by env ctx x t place
