-- The types of eliminators, and the entries of an inductive type with its family.
use Rattle.std.specs.Prelude.{ℕ, zero, suc, ◌+◌, ◌/◌, ◌%◌, nat_le, nat_lt, nat_eq, List, [], ◌∷◌, ◌++◌, length, Bool, true, false, ◌&&◌, Option, Some, None, if◌then◌else◌}
use Rattle.std.specs.Cmp.Lexicographic.{pointwise}
use Rattle.core_term.specs.declared.sorts.Sort.{Sort}
use Rattle.core_term.specs.declared.sorts.Sort.TheVariants.{PropSort, SetSort, TypeSort}
use Rattle.core_term.specs.Tree.{Tree, Var, Sorted, Constant, Prod, App}
use Rattle.term_spine.specs.Globals.{mentions}
use Rattle.term_spine.specs.Instantiate.{instantiate, instantiate_all, values_under}
use Rattle.term_spine.specs.Spine.{head_of, apply_all, end_of_products, shift, shift_all, eta_body, variables_of}
use Rattle.cic_rules.specs.declared.context.Hyp.{Hyp}
use Rattle.cic_rules.specs.declared.decls.InductiveDecl.{InductiveDecl}
use Rattle.cic_rules.specs.declared.decls.Ctor.{Ctor}
use Rattle.cic_rules.specs.declared.entries.Entry.{Entry}
use Rattle.cic_rules.specs.declared.entries.EntryKind.TheVariants.{Inductive, Constructor, Eliminator}
use Rattle.cic_rules.specs.declared.env.Slot.{Slot}
use Rattle.cic_rules.specs.Contexts.{products_over}
use Rattle.cic_rules.specs.Environments.{decl_at}
use Rattle.cic_rules.specs.Families.{count_params, count_ctors, indices, newest_first}

-- one name
abbrev pub same_name : List ℕ → List ℕ → Bool
same_name n m = pointwise nat_eq n m

-- the name is in the list
abbrev pub has_name : List (List ℕ) → List ℕ → Bool
has_name [] n = false
has_name (m ∷ ms) n = if same_name m n then true else has_name ms n

-- a number in decimal digits, before others; a number below 10 ^ turns has so few of them
abbrev pub digits_before : ℕ → ℕ → List ℕ → List ℕ
digits_before zero n later = later
digits_before (suc turns) n later =
    if nat_lt n 10 then (48 + n) ∷ later else digits_before turns (n / 10) ((48 + n % 10) ∷ later)

abbrev pub digits : ℕ → List ℕ
digits n = digits_before (suc n) n []

-- the first of h0, h1 and so on, from a number on, that no hypothesis has; so many hypotheses can be in the way
abbrev pub first_free : ℕ → List (List ℕ) → List ℕ → ℕ → List ℕ
first_free zero names h i = h ++ digits i
first_free (suc turns) names h i = if has_name names (h ++ digits i) then first_free turns names h (i + 1) else h ++ digits i

-- the first of h, h0, h1 and so on that no hypothesis has
abbrev pub free_name : List (List ℕ) → List ℕ → List ℕ
free_name names h = if has_name names h then first_free (length names) names h 0 else h

-- the name `_`
abbrev pub WILDCARD : List ℕ
WILDCARD = 95 ∷ []

-- a letter in lower case, where it is an ASCII letter
abbrev pub lower_letter : ℕ → Option ℕ
lower_letter b =
    if nat_le 65 b && nat_le b 90 then Some (b + 32)
    else (if nat_le 97 b && nat_le b 122 then Some b else None)

abbrev pub one_letter : Option ℕ → ℕ → List ℕ
one_letter (Some l) other = l ∷ []
one_letter None other = other ∷ []

-- the first letter of a name in lower case, where it is an ASCII letter, else another
abbrev pub initial : List ℕ → ℕ → List ℕ
initial [] other = other ∷ []
initial (b ∷ _) other = one_letter (lower_letter b) other

abbrev pub is_prop : Tree → Bool
is_prop (Sorted PropSort) = true
is_prop _ = false

-- whether an inductive type is a proposition
abbrev pub is_in_prop : InductiveDecl → Bool
is_in_prop d = is_prop (end_of_products d.arity)

-- the letter H
abbrev initial_of : Option InductiveDecl → List ℕ
initial_of None = 72 ∷ []
initial_of (Some d) = if is_in_prop d then 72 ∷ [] else initial d.name 72

abbrev initial_of_head : List Slot → Tree → List ℕ
initial_of_head env (Constant c) = initial_of (decl_at env c)
initial_of_head env _ = 72 ∷ []

-- what a binder `_` of this type is called: the first letter of the inductive type not in Prop that heads the type, else H
abbrev pub initial_of_type : List Slot → Tree → List ℕ
initial_of_type env a = initial_of_head env (head_of a)

-- the automatic name of a binder that has a name of its own, or none
abbrev pub automatic : List Slot → List (List ℕ) → List ℕ → Tree → List ℕ
automatic env names n a = free_name names (if same_name n WILDCARD then initial_of_type env a else n)

-- the name of a constructor's argument in an eliminator's type: its own, or the automatic one
abbrev pub argument_name : List Slot → List (List ℕ) → List ℕ → Tree → List ℕ
argument_name env names n a = if same_name n WILDCARD then automatic env names n a else n

-- the name of its hypothesis: `IH` and the argument's name
abbrev pub hypothesis_name : List ℕ → List ℕ
hypothesis_name n = 73 ∷ 72 ∷ n

-- the name of a constructor's case: `f_` and the constructor's name
abbrev pub case_name : Ctor → List ℕ
case_name c = 102 ∷ 95 ∷ c.name

-- the name of the motive, P
abbrev pub MOTIVE : List ℕ
MOTIVE = 80 ∷ []

-- the name of the value: the first letter of the type's name, else x
abbrev pub value_name : InductiveDecl → List ℕ
value_name d = initial d.name 120

-- the type of an inductive type, and of one of its constructors
abbrev pub type_of_decl : InductiveDecl → Tree
type_of_decl d = products_over d.params d.arity

abbrev pub type_of_ctor : InductiveDecl → Ctor → Tree
type_of_ctor d c = products_over d.params c.ty

abbrev pub hyp_names : List Hyp → List (List ℕ)
hyp_names [] = []
hyp_names (h ∷ hs) = h.name ∷ hyp_names hs

-- where a case stands: the motive, the constructor applied to what was met so far, the values of the parameters and arguments,
-- the newest first, and the names of the binders
pub record Scope : Type 0 where
  pub motive : Tree
  pub built : Tree
  pub values : List Tree
  pub names : List (List ℕ)

-- a binder that is an argument of the constructor, and one that is not
abbrev pub with_argument : List ℕ → Scope → Scope
with_argument n s =
    record { motive = shift s.motive; built = eta_body s.built; values = values_under s.values; names = n ∷ s.names }

abbrev pub with_binder : List ℕ → Scope → Scope
with_binder n s =
    record { motive = shift s.motive; built = shift s.built; values = shift_all s.values; names = n ∷ s.names }

module _ (env : List Slot) (place : ℕ) (d : InductiveDecl) where
  -- the motive speaks of the value too, where the type is no proposition
  abbrev pub of_value : Tree → Tree → Tree
  of_value motive value = if is_in_prop d then motive else App motive value

  -- what a recursive argument's hypothesis says, under the argument's own products
  abbrev pub hypothesis : Tree → Tree → List Tree → Tree → Tree
  hypothesis motive x values (Prod n a b) =
      Prod n (instantiate values a) (hypothesis (shift motive) (eta_body x) (values_under values) b)
  hypothesis motive x values t = of_value (apply_all motive (instantiate_all values (indices (count_params d) t))) x

  abbrev pub case_argument : Bool → List ℕ → Tree → Scope → (Scope → Tree) → Tree
  case_argument false n a s rest = Prod n (instantiate s.values a) (rest (with_argument n s))
  case_argument true n a s rest =
      Prod n (instantiate s.values a)
      (Prod (hypothesis_name n) (hypothesis (shift s.motive) (Var 0) (shift_all s.values) a)
      (rest (with_binder (hypothesis_name n) (with_argument n s))))

  -- a case: the constructor's arguments, each recursive one followed by its hypothesis, and then the motive at the constructor
  abbrev pub case_type : Scope → Tree → Tree
  case_type s (Prod n a b) = case_argument (mentions place a) (argument_name env s.names n a) a s (λ inner. case_type inner b)
  case_type s t = of_value (apply_all s.motive (instantiate_all s.values (indices (count_params d) t))) s.built

  -- the indices and the value, and then the motive at them; the family is the type applied to what was met so far
  abbrev pub conclusion : Tree → Tree → List Tree → Tree → Tree
  conclusion motive family values (Prod n a b) =
      Prod n (instantiate values a) (conclusion (eta_body motive) (eta_body family) (values_under values) b)
  conclusion motive family values t = Prod (value_name d) family (of_value (shift motive) (Var 0))

  -- the motive's type: from the indices, and where the type is no proposition from the value, to the sort
  abbrev pub motive_type : Tree → Sort → Tree → Tree
  motive_type family sort (Prod n a b) = Prod n a (motive_type (eta_body family) sort b)
  motive_type family sort t = if is_in_prop d then Sorted sort else Prod (value_name d) family (Sorted sort)

  -- a term applied to the parameters, whose values are the newest first
  abbrev pub at_params : Tree → List Tree → Tree
  at_params t values = apply_all t (newest_first values [])

  -- the cases from a constructor on, and then the conclusion
  abbrev pub cases : ℕ → List Ctor → Tree → List Tree → List (List ℕ) → Tree
  cases index [] motive values names = conclusion motive (at_params (Constant place) values) values d.arity
  cases index (c ∷ cs) motive values names =
      Prod (case_name c)
      (case_type (record { motive = motive; built = at_params (Constant (place + 1 + index)) values; values = values; names = names }) c.ty)
      (cases (suc index) cs (shift motive) (shift_all values) (case_name c ∷ names))

  -- the type of the eliminator into a sort: parameters, motive, cases, indices and value
  abbrev pub eliminator_type : Sort → Tree
  eliminator_type sort =
      products_over d.params
      (Prod MOTIVE (motive_type (apply_all (Constant place) (variables_of (count_params d))) sort d.arity)
      (cases 0 d.ctors (Var 0) (shift_all (newest_first (variables_of (count_params d)) [])) (MOTIVE ∷ hyp_names d.params)))

-- the name of the eliminator into a sort: `_ind` into Prop, `_rec` into Set, `_rect` into Type
abbrev pub eliminator_name : InductiveDecl → Sort → List ℕ
eliminator_name d PropSort = d.name ++ (95 ∷ 105 ∷ 110 ∷ 100 ∷ [])
eliminator_name d SetSort = d.name ++ (95 ∷ 114 ∷ 101 ∷ 99 ∷ [])
eliminator_name d (TypeSort _) = d.name ++ (95 ∷ 114 ∷ 101 ∷ 99 ∷ 116 ∷ [])

-- the entry of an inductive type at a place
abbrev pub type_entry : InductiveDecl → List ℕ → Entry
type_entry d used = record { name = d.name; ty = type_of_decl d; kind = Inductive (count_ctors d); used = used }

-- with its declaration
abbrev pub type_slot : InductiveDecl → List ℕ → Slot
type_slot d used = record { entry = type_entry d used; decl = Some d }

-- the entries of its constructors, from an index on
abbrev pub ctor_entries : ℕ → InductiveDecl → ℕ → List Ctor → List Entry
ctor_entries place d index [] = []
ctor_entries place d index (c ∷ cs) =
    record { name = c.name; ty = type_of_ctor d c; kind = Constructor place index; used = place ∷ [] }
    ∷ ctor_entries place d (suc index) cs

-- the entries of its eliminators into some sorts
abbrev pub eliminator_entries : List Slot → ℕ → InductiveDecl → List Sort → List Entry
eliminator_entries env place d [] = []
eliminator_entries env place d (s ∷ ss) =
    record { name = eliminator_name d s; ty = eliminator_type env place d s; kind = Eliminator place s; used = place ∷ [] }
    ∷ eliminator_entries env place d ss

-- the type, its constructors and its eliminators, to be entered at the next place; automatic names see the type itself
abbrev pub family_entries : List Slot → InductiveDecl → List ℕ → List Sort → List Entry
family_entries env d used sorts =
    type_entry d used
    ∷ (ctor_entries (length env) d 0 d.ctors ++ eliminator_entries (env ++ (type_slot d used ∷ [])) (length env) d sorts)
