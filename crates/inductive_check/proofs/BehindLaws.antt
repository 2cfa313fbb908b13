-- The test behind the parameters, from what its parts answer.
use Rattle.std.specs.Prelude.{◌≡◌, ℕ, ◌+◌, ◌-◌, ◌^◌, ◌≤◌, nat_le, List, [], ◌∷◌, ◌++◌, length, Bool, true, false, Option, Some, None, Result, Ok, Err, IfOk, if◌then◌else◌, refl}
use Rattle.std.proofs.Common.{arith, ap, sym, ◌∙◌, subst, length-append}
use Rattle.base_core.specs.Answers.{Gives}
use Rattle.base_core.specs.declared.refusals.Stop.{Stop}
use Rattle.base_core.specs.declared.refusals.Stop.TheVariants.{Refused, Out, NoMem}
use Rattle.base_core.specs.declared.refusals.Limit.TheVariants.{SizeLimit}
use Rattle.core_term.specs.declared.sorts.Sort.{Sort}
use Rattle.core_term.specs.Tree.{Tree, is_small}
use Rattle.cic_rules.specs.declared.context.Hyp.{Hyp}
use Rattle.cic_rules.specs.declared.decls.InductiveDecl.{InductiveDecl}
use Rattle.cic_rules.specs.declared.entries.Entry.{Entry}
use Rattle.cic_rules.specs.declared.env.Slot.{Slot}
use Rattle.cic_rules.specs.declared.families.CheckedInductive.{CheckedInductive}
use Rattle.cic_rules.specs.declared.families.RowSorts.{RowSorts}
use Rattle.cic_rules.specs.declared.judge.InferredSort.{InferredSort}
use Rattle.cic_rules.specs.Environments.{entered, own_slot, is_taken, place_in, IsNew, MayEnter}
use Rattle.cic_rules.specs.Scopes.{IsScopedContext, IsScopedIfAny}
use Rattle.cic_rules.specs.Eliminators.{type_of_decl}
use Rattle.cic_rules.specs.Fuel.{FuelState, IsSpentOf, left, calls_left}
use Rattle.cic_rules.specs.Runs.{Ran, Run, and_then, ◌>>=◌, ◌>>◌, give, pure, out_of, check_size, require}
use Rattle.cic_rules.specs.Infer.{union, sort_of_at}
use Rattle.cic_rules.specs.Inductive.{Opened as Params, CtorSorts, open_params, are_positive, rows_fit, params_of, checked, rows_of, names_of, any_taken}
use Rattle.cic_rules.specs.Judges.{Meets, MayJudge, IsTermIn, sort_of_with, check_inductive_with}
use Rattle.cic_rules.specs.Declare.{IsChecked}
use Rattle.cic_rules.proofs.PlaceLaws.{not_there}
use Rattle.cic_rules.proofs.ScopeLaws.{scoped_more}
use Rattle.cic_rules.proofs.FamilyLaws.{checked_decl}
use Rattle.inductive_check.specs.Rows.{told_rows}
use Rattle.inductive_check.specs.Steps.{MeetsRows, IsTypeOver, sized, refused, settled, assumption_of, rows_with, open_with, behind_params, behind_params_with, check_family_with}
use Rattle.inductive_check.proofs.OpenLaws.{assumed_may}

gives_meets : {A : Type 0} (a r : Result A Stop) (units : ℕ) → Gives r a → Meets r units (give a units)
gives_meets a (Ok x) units h = (h, refl)
gives_meets a (Err (Refused x)) units h = (h, refl)
gives_meets a (Err (Out x)) units h = (h, refl)
gives_meets a (Err NoMem) units h = tt

settled_by : (b c : Bool) (x : CheckedInductive) (r : Result CheckedInductive Stop) (units : ℕ) →
    Gives r (if b then (if c then Ok x else refused 33) else refused 32) → Meets r units ((require b 32 >> (require c 33 >> pure x)) units)
settled_by true true x r units h = gives_meets (Ok x) r units h
settled_by true false x r units h = gives_meets (refused 33) r units h
settled_by false c x r units h = gives_meets (refused 32) r units h

after_value : {A B : Type 0} (f : Run A) (g : A → Run B) (units : ℕ) (x : A) → Ok x ≡ (f units).answer → (f >>= g) units ≡ g x (f units).left
after_value f g units x is = ap (λ answer. and_then answer g (f units).left) (sym is)

after_size : {A : Type 0} (t : Tree) (g : Run A) (units : ℕ) → is_small t ≡ true → (check_size t >> g) units ≡ g units
after_size t g units e =
    ap (λ b. and_then ((if b then pure tt else out_of SizeLimit) units).answer (λ _. g) ((if b then pure tt else out_of SizeLimit) units).left) e

small_by : (b : Bool) (x t : Tree) → Ok x ≡ (if b then Ok t else Err (Out SizeLimit)) → b ≡ true
small_by true x t e = refl
small_by false x t e = cc

sized_by : (b : Bool) (x t : Tree) → ◌≡◌ {A = Result Tree Stop} (Ok x) (if b then Ok t else Err (Out SizeLimit)) → x ≡ t
sized_by true x t e = cc
sized_by false x t e = cc

pub sized_is : (x t : Tree) → Ok x ≡ sized t → x ≡ t
sized_is x t e = sized_by (is_small t) x t e

module _ (d : InductiveDecl) (env : List Slot) (s : Sort) (params : Params) (calls : ℕ) (arity : InferredSort) where
  abbrev last : CtorSorts → Run CheckedInductive
  last found =
      require (are_positive (length env) (params_of d) d.ctors) 32
      >> (require (rows_fit s found.rows) 33 >> pure (checked d env s found.rows (union (union params.used arity.used) found.used)))

  abbrev behind_inner : List Slot → Run CheckedInductive
  behind_inner inner = rows_of d inner (length env) calls params.ctx d.ctors >>= last

  abbrev behind_arity : Run CheckedInductive
  behind_arity = check_size (type_of_decl d) >> (give (entered env (assumption_of d.name (type_of_decl d))) >>= behind_inner)

-- all that is asked, in a row
pub behind_met : (d : InductiveDecl) (env inner : List Slot) (s : Sort) (params : Params) (f0 f1 f2 : FuelState) (arity : InferredSort) (ty : Tree)
    (rows : List RowSorts) (used : List ℕ) (place : ℕ) (r : Result CheckedInductive Stop) →
    (Ok arity ≡ (sort_of_with env params.ctx d.arity f0).answer) × (left f1 ≡ (sort_of_with env params.ctx d.arity f0).left) → IsSpentOf f0 f1 →
    Ok ty ≡ sized (type_of_decl d) → Ok inner ≡ entered env (assumption_of d.name ty) → place ≡ length env →
    (Ok (told_rows rows) ≡ (rows_with inner params.ctx d place d.ctors f1).answer) × (left f2 ≡ (rows_with inner params.ctx d place d.ctors f1).left) →
    used ≡ union params.used arity.used → Gives r (settled d env s rows used) → Meets r (left f2) (behind_params_with d env s params f0)
behind_met d env inner s params f0 f1 f2 arity ty rows used place r sorted kept small made at found named given =
    let room : Ok inner ≡ entered env (assumption_of d.name (type_of_decl d)) = made ∙ ap (λ t. entered env (assumption_of d.name t)) (sized_is ty (type_of_decl d) small) in
    let calls : calls_left f1 ≡ calls_left f0 = ap (λ k. 2000 - k) kept.nesting in
    let run : rows_with inner params.ctx d place d.ctors f1 ≡ rows_of d inner (length env) (calls_left f0) params.ctx d.ctors (left f1) =
    ap (λ k. rows_of d inner place k params.ctx d.ctors (left f1)) calls ∙ ap (λ p. rows_of d inner p (calls_left f0) params.ctx d.ctors (left f1)) at in
    let whole : behind_params_with d env s params f0 ≡ last d env s params (calls_left f0) arity (told_rows rows) (left f2) =
    after_value (sort_of_at env (calls_left f0) params.ctx d.arity) (λ a. behind_arity d env s params (calls_left f0) a) (left f0) arity sorted.0
    ∙ ap (λ k. behind_arity d env s params (calls_left f0) arity k) (sym sorted.1)
    ∙ after_size (type_of_decl d) (give (entered env (assumption_of d.name (type_of_decl d))) >>= behind_inner d env s params (calls_left f0) arity) (left f1)
    (small_by (is_small (type_of_decl d)) ty (type_of_decl d) small)
    ∙ after_value (give (entered env (assumption_of d.name (type_of_decl d)))) (behind_inner d env s params (calls_left f0) arity) (left f1) inner room
    ∙ after_value (rows_of d inner (length env) (calls_left f0) params.ctx d.ctors) (last d env s params (calls_left f0) arity) (left f1) (told_rows rows)
    (found.0 ∙ ap (λ x. x.answer) run)
    ∙ ap (last d env s params (calls_left f0) arity (told_rows rows)) (sym (found.1 ∙ ap (λ x. x.left) run)) in
    let P : Ran CheckedInductive → Type 0 = λ ran. Meets r (left f2) ran in
    subst P (sym whole)
    (settled_by (are_positive (length env) (params_of d) d.ctors) (rows_fit s (told_rows rows).rows)
    (checked d env s (told_rows rows).rows (union (union params.used arity.used) (told_rows rows).used)) r (left f2)
    (subst (λ u. Gives r (settled d env s rows u)) named given))

-- the type itself may be assumed
pub assumed_ready : (env : List Slot) (d : InductiveDecl) (ctx : List Hyp) (ty : Tree) → Ok ty ≡ sized (type_of_decl d) → IsNew env d.name →
    IsTypeOver env d ctx → IsTermIn env ctx d.arity → MayEnter env (assumption_of d.name ty)
assumed_ready env d ctx ty made new over arity =
    subst (λ t. MayEnter env (assumption_of d.name t)) (sym (sized_is ty (type_of_decl d) made)) (assumed_may env d.name (type_of_decl d) new (over arity))

-- and the context stays in scope
any_more : (n m l : ℕ) (value : Option Tree) → m ≤ l → IsScopedIfAny n m value → IsScopedIfAny n l value
any_more n m l None le h = tt
any_more n m l (Some v) le h = scoped_more n n m l v (omega arith) le h

hyps_more : (m l : ℕ) (ctx : List Hyp) → m ≤ l → IsScopedContext m ctx → IsScopedContext l ctx
hyps_more m l [] le h = tt
hyps_more m l (x ∷ xs) le h =
    (record { ty = scoped_more (length xs) (length xs) m l x.ty (omega arith) le h.0.ty; value = any_more (length xs) m l x.value le h.0.value }, hyps_more m l xs le h.1)

entered_by : (b : Bool) (env inner more : List Slot) → ◌≡◌ {A = Result (List Slot) Stop} (Ok inner) (if b then Ok (env ++ more) else Err (Out SizeLimit)) → inner ≡ env ++ more
entered_by true env inner more e = cc
entered_by false env inner more e = cc

pub judged_inner : (env inner : List Slot) (e : Entry) (ctx : List Hyp) → MayJudge env ctx → Ok inner ≡ entered env e → MayJudge inner ctx
judged_inner env inner e ctx judged made =
    let same : inner ≡ env ++ (own_slot e ∷ []) = entered_by (nat_le (length env + 1) (2 ^ 31)) env inner (own_slot e ∷ []) made in
    let longer : length inner ≡ length env + 1 = ap length same ∙ length-append env (own_slot e ∷ []) in
    record { scoped = hyps_more (length env) (length inner) ctx (omega (arith, longer)) judged.scoped }

-- a part that ends the test
err_meets : {A B : Type 0} (a : Result A Stop) (g : A → Run B) (stop : Stop) (units : ℕ) → Gives {A = A} (Err stop) a →
    Meets {A = B} (Err stop) units ((give a >>= g) units)
err_meets a g (Refused x) units h = (ap (λ y. (and_then y g units).answer) h, ap (λ y. (and_then y g units).left) h)
err_meets a g (Out x) units h = (ap (λ y. (and_then y g units).answer) h, ap (λ y. (and_then y g units).left) h)
err_meets a g NoMem units h = tt

module _ (d : InductiveDecl) (env : List Slot) (s : Sort) (params : Params) (f0 f1 : FuelState) (arity : InferredSort) (ty : Tree)
    (sorted : (Ok arity ≡ (sort_of_with env params.ctx d.arity f0).answer) × (left f1 ≡ (sort_of_with env params.ctx d.arity f0).left))
    (small : Ok ty ≡ sized (type_of_decl d)) where
  begun : behind_params_with d env s params f0
      ≡ (give (entered env (assumption_of d.name (type_of_decl d))) >>= behind_inner d env s params (calls_left f0) arity) (left f1)
  begun =
      after_value (sort_of_at env (calls_left f0) params.ctx d.arity) (λ a. behind_arity d env s params (calls_left f0) a) (left f0) arity sorted.0
      ∙ ap (λ k. behind_arity d env s params (calls_left f0) arity k) (sym sorted.1)
      ∙ after_size (type_of_decl d) (give (entered env (assumption_of d.name (type_of_decl d))) >>= behind_inner d env s params (calls_left f0) arity) (left f1)
      (small_by (is_small (type_of_decl d)) ty (type_of_decl d) small)

  pub behind_full : (stop : Stop) → Gives {A = List Slot} (Err stop) (entered env (assumption_of d.name ty)) →
      Meets {A = CheckedInductive} (Err stop) (left f1) (behind_params_with d env s params f0)
  behind_full stop full =
      let here : Gives {A = List Slot} (Err stop) (entered env (assumption_of d.name (type_of_decl d))) =
      subst (λ t. Gives {A = List Slot} (Err stop) (entered env (assumption_of d.name t))) (sized_is ty (type_of_decl d) small) full in
      let P : Ran CheckedInductive → Type 0 = λ ran. Meets {A = CheckedInductive} (Err stop) (left f1) ran in
      subst P (sym begun) (err_meets (entered env (assumption_of d.name (type_of_decl d))) (behind_inner d env s params (calls_left f0) arity) stop (left f1) here)

  rows_ended : (inner : List Slot) (place later : ℕ) (stop : Stop) → IsSpentOf f0 f1 → place ≡ length env →
      MeetsRows (Err stop) later (rows_with inner params.ctx d place d.ctors f1) →
      Meets {A = CheckedInductive} (Err stop) later (behind_inner d env s params (calls_left f0) arity inner (left f1))
  rows_ended inner place later stop kept at ends = by stop (subst (MeetsRows (Err stop) later) run ends) where
    run : rows_with inner params.ctx d place d.ctors f1 ≡ rows_of d inner (length env) (calls_left f0) params.ctx d.ctors (left f1)
    run =
        ap (λ k. rows_of d inner place k params.ctx d.ctors (left f1)) (ap (λ k. 2000 - k) kept.nesting)
        ∙ ap (λ p. rows_of d inner p (calls_left f0) params.ctx d.ctors (left f1)) at

    by : (stop : Stop) → MeetsRows (Err stop) later (rows_of d inner (length env) (calls_left f0) params.ctx d.ctors (left f1)) →
        Meets {A = CheckedInductive} (Err stop) later (behind_inner d env s params (calls_left f0) arity inner (left f1))
    by (Refused x) h = (
      ap (λ y. (and_then y (last d env s params (calls_left f0) arity) (rows_of d inner (length env) (calls_left f0) params.ctx d.ctors (left f1)).left).answer) h.0,
      h.1 ∙ ap (λ y. (and_then y (last d env s params (calls_left f0) arity) (rows_of d inner (length env) (calls_left f0) params.ctx d.ctors (left f1)).left).left) h.0,
    )
    by (Out x) h = (
      ap (λ y. (and_then y (last d env s params (calls_left f0) arity) (rows_of d inner (length env) (calls_left f0) params.ctx d.ctors (left f1)).left).answer) h.0,
      h.1 ∙ ap (λ y. (and_then y (last d env s params (calls_left f0) arity) (rows_of d inner (length env) (calls_left f0) params.ctx d.ctors (left f1)).left).left) h.0,
    )
    by NoMem h = tt

  pub behind_cut : (inner : List Slot) (place later : ℕ) (stop : Stop) → IsSpentOf f0 f1 → Ok inner ≡ entered env (assumption_of d.name ty) → place ≡ length env →
      MeetsRows (Err stop) later (rows_with inner params.ctx d place d.ctors f1) →
      Meets {A = CheckedInductive} (Err stop) later (behind_params_with d env s params f0)
  behind_cut inner place later stop kept room at ends =
      let here : Ok inner ≡ entered env (assumption_of d.name (type_of_decl d)) =
      room ∙ ap (λ t. entered env (assumption_of d.name t)) (sized_is ty (type_of_decl d) small) in
      let P : Ran CheckedInductive → Type 0 = λ ran. Meets {A = CheckedInductive} (Err stop) later ran in
      subst P (sym (begun ∙ after_value (give (entered env (assumption_of d.name (type_of_decl d)))) (behind_inner d env s params (calls_left f0) arity) (left f1) inner here))
      (rows_ended inner place later stop kept at ends)

-- the parameters first
pub family_met : (d : InductiveDecl) (env : List Slot) (s : Sort) (params : Params) (f0 f1 : FuelState) (r : Result CheckedInductive Stop) (units : ℕ) →
    (Ok params ≡ (open_with env d.params f0).answer) × (left f1 ≡ (open_with env d.params f0).left) → IsSpentOf f0 f1 →
    Meets r units (behind_params_with d env s params f1) → Meets r units (check_family_with d env s f0)
family_met d env s params f0 f1 r units opened kept meets =
    let calls : calls_left f1 ≡ calls_left f0 = ap (λ k. 2000 - k) kept.nesting in
    let whole : check_family_with d env s f0 ≡ behind_params_with d env s params f1 =
    after_value (open_params env (calls_left f0) d.params [] []) (behind_params d env (calls_left f0) s) (left f0) params opened.0
    ∙ ap (λ k. behind_params d env (calls_left f0) s params k) (sym opened.1)
    ∙ ap (λ n. behind_params d env n s params (left f1)) (sym calls) in
    let P : Ran CheckedInductive → Type 0 = λ ran. Meets r units ran in
    subst P (sym whole) meets

-- names
first_false : (b c : Bool) → (if b then true else c) ≡ false → b ≡ false
first_false true c e = cc
first_false false c e = refl

-- a declaration whose names are free may be entered
pub name_new : (env : List Slot) (d : InductiveDecl) (names : List (List ℕ)) → names ≡ names_of d → any_taken env names ≡ false → IsNew env d.name
name_new env d names is free =
    let here : any_taken env (names_of d) ≡ false = ap (any_taken env) (sym is) ∙ free in
    not_there (place_in env d.name) (first_false (is_taken env d.name) _ here)

-- what the test gives is of the declaration that was tested
pub tested_decl : (env : List Slot) (d : InductiveDecl) (f : FuelState) (c : CheckedInductive) → Ok c ≡ (check_inductive_with env d f).answer → c.decl ≡ d
tested_decl env d f c e = ((checked_decl env (calls_left f) d).tells (left f) c (sym e)).0

pub tested_checked : (env : List Slot) (d : InductiveDecl) (f : FuelState) (c : CheckedInductive) → Ok c ≡ (check_inductive_with env d f).answer → IsChecked env c
tested_checked env d f c e = ((checked_decl env (calls_left f) d).tells (left f) c (sym e)).1

pub tested_if : (env : List Slot) (d : InductiveDecl) (f : FuelState) (r : Result CheckedInductive Stop) (units : ℕ) →
    Meets r units (check_inductive_with env d f) → IfOk r (λ c. IsChecked env c)
tested_if env d f (Ok c) units h = tested_checked env d f c h.0
tested_if env d f (Err stop) units h = tt
