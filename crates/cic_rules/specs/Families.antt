-- Inductive types as reduction sees them: their constructors, their eliminators, and the iota rule.
use Rattle.std.specs.Prelude.{ℕ, zero, suc, ◌+◌, ◌==◌, List, [], ◌∷◌, length, take, drop, Bool, true, false, Option, Some, None, if◌then◌else◌, slice_get}
use Rattle.core_term.specs.Tree.{Tree, Constant, Prod, Lam, App}
use Rattle.term_spine.specs.Globals.{mentions}
use Rattle.term_spine.specs.Instantiate.{instantiate, instantiate_all, values_under}
use Rattle.term_spine.specs.Spine.{head_of, arguments_of, apply_all, count_products, shift, eta_body}
use Rattle.cic_rules.specs.declared.decls.InductiveDecl.{InductiveDecl}
use Rattle.cic_rules.specs.declared.decls.Ctor.{Ctor}
use Rattle.cic_rules.specs.declared.entries.Entry.{Entry}
use Rattle.cic_rules.specs.declared.entries.EntryKind.{EntryKind}
use Rattle.cic_rules.specs.declared.entries.EntryKind.TheVariants.{Constructor, Eliminator}
use Rattle.cic_rules.specs.declared.env.Slot.{Slot}
use Rattle.cic_rules.specs.Environments.{entry_at, decl_at}

-- an inductive type: its place and its declaration
pub record Family : Type 0 where
  pub place : ℕ
  pub decl : InductiveDecl

abbrev pub count_params : InductiveDecl → ℕ
count_params d = length d.params

abbrev pub count_ctors : InductiveDecl → ℕ
count_ctors d = length d.ctors

-- as many indices as the arity has products
abbrev pub count_indices : InductiveDecl → ℕ
count_indices d = count_products d.arity

-- how many of an eliminator's arguments stand before its indices: the parameters, the motive and the cases
abbrev pub count_fixed : InductiveDecl → ℕ
count_fixed d = count_params d + 1 + count_ctors d

-- how many stand before its value
abbrev pub major_index : InductiveDecl → ℕ
major_index d = count_fixed d + count_indices d

abbrev pub family_at : ℕ → Option InductiveDecl → Option Family
family_at place None = None
family_at place (Some d) = Some (record { place = place; decl = d })

abbrev pub eliminated : List Slot → EntryKind → Option Family
eliminated env (Eliminator of _) = family_at of (decl_at env of)
eliminated env _ = None

abbrev pub eliminated_by : List Slot → Option Entry → Option Family
eliminated_by env None = None
eliminated_by env (Some e) = eliminated env e.kind

-- the inductive type whose eliminator a head is
abbrev pub eliminator_of : List Slot → Tree → Option Family
eliminator_of env (Constant c) = eliminated_by env (entry_at env c)
eliminator_of env _ = None

abbrev pub constructed : ℕ → EntryKind → Option ℕ
constructed place (Constructor of index) = if of == place then Some index else None
constructed place _ = None

abbrev pub constructed_by : ℕ → Option Entry → Option ℕ
constructed_by place None = None
constructed_by place (Some e) = constructed place e.kind

-- which constructor of the inductive type at a place a head is
abbrev pub constructor_of : List Slot → ℕ → Tree → Option ℕ
constructor_of env place (Constant c) = constructed_by place (entry_at env c)
constructor_of env place _ = None

abbrev pub value_among : List Tree → Option Family → Option Tree
value_among args None = None
value_among args (Some f) = slice_get args (major_index f.decl)

-- the value that an eliminator with all its arguments is applied to
abbrev pub major_premise : List Slot → Tree → List Tree → Option Tree
major_premise env head args = value_among args (eliminator_of env head)

-- the arguments with another value
abbrev pub replace_major : List Tree → ℕ → Tree → List Tree
replace_major [] at v = []
replace_major (a ∷ more) zero v = v ∷ more
replace_major (a ∷ more) (suc at) v = a ∷ replace_major more at v

-- terms, the last first
abbrev pub newest_first : List Tree → List Tree → List Tree
newest_first [] later = later
newest_first (t ∷ ts) later = newest_first ts (t ∷ later)

module _ (params : ℕ) where
  -- the indices at the end of a row that ends in an inductive type with so many parameters
  abbrev pub indices : Tree → List Tree
  indices t = drop params (arguments_of t)

  -- an eliminator with its parameters, motive and cases, on a recursive argument whose declared type is given, under the argument's own products
  abbrev pub recursive_call : Tree → Tree → List Tree → Tree → Tree
  recursive_call eliminator x values (Prod n a b) =
      Lam n (instantiate values a) (recursive_call (shift eliminator) (eta_body x) (values_under values) b)
  recursive_call eliminator x values t = App (apply_all eliminator (instantiate_all values (indices t))) x

  -- a case applied to an argument of this declared type, and where that is recursive to what the eliminator gives for it
  abbrev pub case_applied_to : Bool → Tree → Tree → Tree → List Tree → Tree → Tree
  case_applied_to false eliminator case v values a = App case v
  case_applied_to true eliminator case v values a = App (App case v) (recursive_call eliminator v values a)

  -- a case applied to all arguments of its constructor, whose declared type is given; values stand for the parameters and the arguments so far
  abbrev pub case_applied : ℕ → Tree → Tree → List Tree → Tree → List Tree → Tree
  case_applied place eliminator case values (Prod n a b) (v ∷ vs) =
      case_applied place eliminator (case_applied_to (mentions place a) eliminator case v values a) (v ∷ values) b vs
  case_applied place eliminator case values t vs = case

-- what an eliminator gives for a constructor's arguments
abbrev pub iota_result : Family → Tree → List Tree → Ctor → Tree → List Tree → Tree
iota_result f head args c case ctor_args =
    apply_all
    (case_applied (count_params f.decl) f.place (apply_all head (take (count_fixed f.decl) args)) case (newest_first (take (count_params f.decl) args) []) c.ty ctor_args)
    (drop (major_index f.decl + 1) args)

abbrev pub iota_case : Family → Tree → List Tree → Ctor → Option Tree → List Tree → Option Tree
iota_case f head args c None value_args = None
iota_case f head args c (Some case) value_args =
    if length value_args == count_params f.decl + count_products c.ty
    then Some (iota_result f head args c case (drop (count_params f.decl) value_args))
    else None

abbrev pub iota_ctor : Family → Tree → List Tree → ℕ → Option Ctor → List Tree → Option Tree
iota_ctor f head args index None value_args = None
iota_ctor f head args index (Some c) value_args = iota_case f head args c (slice_get args (count_params f.decl + 1 + index)) value_args

abbrev pub iota_index : Family → Tree → List Tree → Option ℕ → List Tree → Option Tree
iota_index f head args None value_args = None
iota_index f head args (Some index) value_args = iota_ctor f head args index (slice_get f.decl.ctors index) value_args

abbrev pub iota_family : List Slot → Option Family → Tree → List Tree → Tree → Option Tree
iota_family env None head args w = None
iota_family env (Some f) head args w = iota_index f head args (constructor_of env f.place (head_of w)) (arguments_of w)

-- iota: an eliminator with all its arguments whose value is a constructor of its type with exactly as many arguments as it has.
-- It gives the constructor's case applied to the arguments, and to what comes after the value
abbrev pub iota : List Slot → Tree → List Tree → Tree → Option Tree
iota env head args w = iota_family env (eliminator_of env head) head args w
