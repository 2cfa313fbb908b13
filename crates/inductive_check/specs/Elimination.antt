-- The parts of an eliminator's type where they stand, by the levels of binders.
use Rattle.std.specs.Prelude.{◌≡◌, ℕ, ◌+◌, List, [], ◌∷◌, if◌then◌else◌}
use Rattle.core_term.specs.declared.sorts.Sort.{Sort}
use Rattle.core_term.specs.Tree.{Tree, Var, Sorted, Constant, Prod, App}
use Rattle.term_spine.specs.Instantiate.{instantiate, instantiate_all}
use Rattle.term_spine.specs.Spine.{apply_all}
use Rattle.cic_rules.specs.declared.decls.Ctor.{Ctor}
use Rattle.cic_rules.specs.declared.decls.InductiveDecl.{InductiveDecl}
use Rattle.cic_rules.specs.declared.env.Slot.{Slot}
use Rattle.cic_rules.specs.declared.families.CheckedInductive.{CheckedInductive}
use Rattle.cic_rules.specs.Families.{count_params, indices, newest_first}
use Rattle.cic_rules.specs.Eliminators.{is_in_prop, Scope, hypothesis_name, hypothesis, case_type, conclusion, motive_type, at_params, cases, value_name}
use Rattle.inductive_check.specs.declared.elimination.Motive.{Motive}
use Rattle.inductive_check.specs.declared.levels.Site.{Site}
use Rattle.inductive_check.specs.Forms.{params_under}
use Rattle.inductive_check.specs.Levels.{variable_at, values_at}

-- the motive of a declaration's eliminators
pub record IsMotive (m : Motive) (d : InductiveDecl) : Type 0 where
  pub level : m.level ≡ count_params d
  pub is_prop : m.is_prop ≡ is_in_prop d

-- a variable applied to so many newer ones, or the motive to so many indices
abbrev pub own_row : ℕ → Tree
own_row own = apply_all (Var own) (params_under 0 own)

abbrev pub values_of : Site → List Tree
values_of s = values_at s.depth s.levels

abbrev pub with_variable : Site → Site
with_variable s = record { levels = s.depth ∷ s.levels; depth = s.depth + 1 }

abbrev pub with_binder : Site → Site
with_binder s = record { levels = s.levels; depth = s.depth + 1 }

abbrev pub motive_at : Motive → Site → Tree
motive_at m s = variable_at s.depth m.level

abbrev pub value_if : Motive → Tree → Tree → Tree
value_if m function value = if m.is_prop then function else App function value

-- the motive at the indices of a type
abbrev pub motive_applied : CheckedInductive → Motive → Site → Tree → Tree
motive_applied i m s t = apply_all (motive_at m s) (instantiate_all (values_of s) (indices m.level t))

-- the end of a hypothesis, of a case and of the conclusion, and that of the motive's type
abbrev pub hypothesis_end_at : CheckedInductive → Motive → Site → ℕ → Tree → Tree
hypothesis_end_at i m s own t = value_if m (motive_applied i m s t) (own_row own)

abbrev pub case_end_at : CheckedInductive → Motive → ℕ → Site → Tree → Tree
case_end_at i m ctor s t = value_if m (motive_applied i m s t) (apply_all (Constant ctor) (newest_first (values_of s) []))

-- the motive at so many indices that stand above the value, and at that where it speaks of it
abbrev pub at_indices : Motive → Tree → ℕ → Tree
at_indices m function count = if m.is_prop then apply_all function (params_under 1 count) else apply_all function (params_under 0 (count + 1))

abbrev pub conclusion_end_at : CheckedInductive → Motive → Site → ℕ → Tree
conclusion_end_at i m s own =
    Prod (value_name i.decl) (apply_all (Constant i.place) (newest_first (values_of s) [])) (at_indices m (motive_at m (with_binder s)) own)

abbrev pub motive_end_at : CheckedInductive → Motive → ℕ → Sort → Tree
motive_end_at i m count sort =
    if m.is_prop then Sorted sort else Prod (value_name i.decl) (apply_all (Constant i.place) (params_under 0 count)) (Sorted sort)

abbrev pub motive_type_at : List Slot → CheckedInductive → ℕ → Sort → Tree → Tree
motive_type_at env i count sort t = motive_type env i.place i.decl (apply_all (Constant i.place) (params_under 0 count)) sort t

module _ (env : List Slot) (i : CheckedInductive) (m : Motive) where
  abbrev pub hypothesis_at : Site → ℕ → Tree → Tree
  hypothesis_at s own t = hypothesis env i.place i.decl (motive_at m s) (own_row own) (values_of s) t

  abbrev pub conclusion_at : Site → ℕ → Tree → Tree
  conclusion_at s own t =
      conclusion env i.place i.decl (apply_all (motive_at m s) (params_under 0 own)) (at_params env i.place i.decl (Constant i.place) (values_of s)) (values_of s) t

  -- the same over one product
  abbrev pub hypothesis_over_at : Site → ℕ → List ℕ → Tree → Tree → Tree
  hypothesis_over_at s own n a b = Prod n (instantiate (values_of s) a) (hypothesis_at (with_variable s) (own + 1) b)

  abbrev pub conclusion_over_at : Site → ℕ → List ℕ → Tree → Tree → Tree
  conclusion_over_at s own n a b = Prod n (instantiate (values_of s) a) (conclusion_at (with_variable s) (own + 1) b)

  -- where the case of the constructor at a place stands
  abbrev pub scope_at : ℕ → Site → List (List ℕ) → Scope
  scope_at ctor s names =
      record { motive = motive_at m s; built = at_params env i.place i.decl (Constant ctor) (values_of s); values = values_of s; names = names }

  abbrev pub case_at : ℕ → Site → List (List ℕ) → Tree → Tree
  case_at ctor s names t = case_type env i.place i.decl (scope_at ctor s names) t

  -- a case from an argument on: one that is not recursive, and one with its hypothesis
  abbrev pub plain_case_at : ℕ → Site → List (List ℕ) → List ℕ → Tree → Tree → Tree
  plain_case_at ctor s names n a b = Prod n (instantiate (values_of s) a) (case_at ctor (with_variable s) (n ∷ names) b)

  abbrev pub recursive_case_at : ℕ → Site → List (List ℕ) → List ℕ → Tree → Tree → Tree
  recursive_case_at ctor s names n a b =
      Prod n (instantiate (values_of s) a)
      (Prod (hypothesis_name n) (hypothesis_at (with_binder s) 0 a) (case_at ctor (with_binder (with_variable s)) (hypothesis_name n ∷ n ∷ names) b))

  abbrev pub cases_at : ℕ → Site → List (List ℕ) → List Ctor → Tree
  cases_at index s names cs = cases env i.place i.decl index cs (motive_at m s) (values_of s) names
