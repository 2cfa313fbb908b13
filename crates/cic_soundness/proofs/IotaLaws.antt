-- Iota looks at the value alone, not at what stood in its place.
use Rattle.std.specs.Prelude.{◌≡◌, ℕ, zero, suc, ◌+◌, ◌<◌, ◌≤◌, ◌==◌, List, [], ◌∷◌, length, take, drop, Option, Some, None, slice_get, if◌then◌else◌, refl}
use Rattle.std.proofs.Common.{arith, ap, sym, ◌∙◌}
use Rattle.core_term.specs.Tree.{Tree}
use Rattle.term_spine.specs.Spine.{head_of, arguments_of, apply_all, count_products}
use Rattle.cic_rules.specs.declared.decls.Ctor.{Ctor}
use Rattle.cic_rules.specs.declared.env.Slot.{Slot}
use Rattle.cic_rules.specs.Families.{Family, count_params, count_fixed, major_index, eliminator_of, constructor_of, value_among, major_premise, replace_major, newest_first, case_applied, iota_result, iota_case, iota_ctor, iota_index, iota_family, iota}

take_replaced : (k at : ℕ) (args : List Tree) (w : Tree) → k ≤ at → take k (replace_major args at w) ≡ take k args
take_replaced zero at args w le = refl
take_replaced (suc k) at [] w le = refl
take_replaced (suc k) zero (a ∷ more) w le = let none : ⊥ = omega (arith, le) in absurd none
take_replaced (suc k) (suc at) (a ∷ more) w le = ap (λ r. a ∷ r) (take_replaced k at more w (omega (arith, le)))

drop_replaced : (k at : ℕ) (args : List Tree) (w : Tree) → at < k → drop k (replace_major args at w) ≡ drop k args
drop_replaced k at [] w lt = refl
drop_replaced zero at (a ∷ more) w lt = let none : ⊥ = omega (arith, lt) in absurd none
drop_replaced (suc k) zero (a ∷ more) w lt = refl
drop_replaced (suc k) (suc at) (a ∷ more) w lt = drop_replaced k at more w (omega (arith, lt))

get_replaced : (k at : ℕ) (args : List Tree) (w : Tree) → k < at → slice_get (replace_major args at w) k ≡ slice_get args k
get_replaced k at [] w lt = refl
get_replaced k zero (a ∷ more) w lt = let none : ⊥ = omega (arith, lt) in absurd none
get_replaced zero (suc at) (a ∷ more) w lt = refl
get_replaced (suc k) (suc at) (a ∷ more) w lt = get_replaced k at more w (omega (arith, lt))

put_at : (at : ℕ) (args : List Tree) (v w : Tree) → slice_get args at ≡ Some v → slice_get (replace_major args at w) at ≡ Some w
put_at at [] v w e = cc
put_at zero (a ∷ more) v w e = refl
put_at (suc at) (a ∷ more) v w e = put_at at more v w e

ctor_within : (index : ℕ) (cs : List Ctor) (c : Ctor) → slice_get cs index ≡ Some c → index < length cs
ctor_within index [] c e = cc
ctor_within zero (d ∷ ds) c e = omega arith
ctor_within (suc index) (d ∷ ds) c e = let rest = ctor_within index ds c e in omega (arith, rest)

module _ (f : Family) (head : Tree) (args : List Tree) (w : Tree) where
  result_replaced : (c : Ctor) (case : Tree) (ctor_args : List Tree) →
      iota_result f head (replace_major args (major_index f.decl) w) c case ctor_args ≡ iota_result f head args c case ctor_args
  result_replaced c case ctor_args =
      let few : take (count_params f.decl) (replace_major args (major_index f.decl) w) ≡ take (count_params f.decl) args =
      take_replaced (count_params f.decl) (major_index f.decl) args w (omega arith) in
      let fixed : take (count_fixed f.decl) (replace_major args (major_index f.decl) w) ≡ take (count_fixed f.decl) args =
      take_replaced (count_fixed f.decl) (major_index f.decl) args w (omega arith) in
      let later : drop (major_index f.decl + 1) (replace_major args (major_index f.decl) w) ≡ drop (major_index f.decl + 1) args =
      drop_replaced (major_index f.decl + 1) (major_index f.decl) args w (omega arith) in
      ap (λ x. apply_all (case_applied (count_params f.decl) f.place (apply_all head (take (count_fixed f.decl) (replace_major args (major_index f.decl) w))) case (newest_first (take (count_params f.decl) (replace_major args (major_index f.decl) w)) []) c.ty ctor_args) x) later
      ∙ ap (λ x. apply_all (case_applied (count_params f.decl) f.place (apply_all head x) case (newest_first (take (count_params f.decl) (replace_major args (major_index f.decl) w)) []) c.ty ctor_args) (drop (major_index f.decl + 1) args)) fixed
      ∙ ap (λ x. apply_all (case_applied (count_params f.decl) f.place (apply_all head (take (count_fixed f.decl) args)) case (newest_first x []) c.ty ctor_args) (drop (major_index f.decl + 1) args)) few

  case_replaced : (c : Ctor) (found : Option Tree) (value_args : List Tree) →
      iota_case f head (replace_major args (major_index f.decl) w) c found value_args ≡ iota_case f head args c found value_args
  case_replaced c None value_args = refl
  case_replaced c (Some case) value_args =
      ap (λ x. if length value_args == count_params f.decl + count_products c.ty then Some x else None)
      (result_replaced c case (drop (count_params f.decl) value_args))

  ctor_replaced : (index : ℕ) (found : Option Ctor) (value_args : List Tree) → slice_get f.decl.ctors index ≡ found →
      iota_ctor f head (replace_major args (major_index f.decl) w) index found value_args ≡ iota_ctor f head args index found value_args
  ctor_replaced index None value_args is = refl
  ctor_replaced index (Some c) value_args is =
      let within = ctor_within index f.decl.ctors c is in
      ap (λ found. iota_case f head (replace_major args (major_index f.decl) w) c found value_args)
      (get_replaced (count_params f.decl + 1 + index) (major_index f.decl) args w (omega (arith, within)))
      ∙ case_replaced c (slice_get args (count_params f.decl + 1 + index)) value_args

  index_replaced : (found : Option ℕ) (value_args : List Tree) →
      iota_index f head (replace_major args (major_index f.decl) w) found value_args ≡ iota_index f head args found value_args
  index_replaced None value_args = refl
  index_replaced (Some index) value_args = ctor_replaced index (slice_get f.decl.ctors index) value_args refl

-- an eliminator whose value is replaced: that is its value, and iota gives what it gave
pub record IsReplacing (env : List Slot) (head : Tree) (args : List Tree) (v w : Tree) : Type 0 where
  pub at : ℕ
  pub there : slice_get args at ≡ Some v
  pub premise : major_premise env head (replace_major args at w) ≡ Some w
  pub gives : (u : Tree) → iota env head args w ≡ Some u → iota env head (replace_major args at w) w ≡ Some u

replaced_by : (env : List Slot) (head : Tree) (found : Option Family) (args : List Tree) (v w : Tree) → eliminator_of env head ≡ found →
    value_among args found ≡ Some v → IsReplacing env head args v w
replaced_by env head None args v w is e = cc
replaced_by env head (Some f) args v w is e =
    record {
      at = major_index f.decl;
      there = e;
      premise = ap (λ x. value_among (replace_major args (major_index f.decl) w) x) is ∙ put_at (major_index f.decl) args v w e;
      gives = λ u k. ap (λ x. iota_family env x head (replace_major args (major_index f.decl) w) w) is
          ∙ index_replaced f head args w (constructor_of env f.place (head_of w)) (arguments_of w)
          ∙ ap (λ x. iota_family env x head args w) (sym is) ∙ k;
    }

pub iota_replaced : (env : List Slot) (head : Tree) (args : List Tree) (v w : Tree) → major_premise env head args ≡ Some v → IsReplacing env head args v w
iota_replaced env head args v w e = replaced_by env head (eliminator_of env head) args v w refl e
