-- What the entries of a checked inductive type are built of.
use Rattle.std.specs.Prelude.{◌≡◌, ℕ, zero, suc, ◌+◌, ◌-◌, ◌≤◌, ◌<◌, List, [], ◌∷◌, length, Bool, true, false, Err, if◌then◌else◌, refl}
use Rattle.std.proofs.Common.{arith, ap, sym, ◌∙◌, subst}
use Rattle.core_term.specs.declared.sorts.Sort.{Sort}
use Rattle.core_term.specs.declared.sorts.Sort.TheVariants.{PropSort, SetSort, TypeSort}
use Rattle.core_term.specs.declared.stops.TermStop.{TermStop}
use Rattle.core_term.specs.Answers.{within_limits, Gives}
use Rattle.core_term.specs.Tree.{Tree, Var, Constant, Prod, free_bound}
use Rattle.term_spine.specs.Spine.{apply_all, shift_all, variables_of, end_of_products}
use Rattle.cic_rules.specs.declared.context.Hyp.{Hyp}
use Rattle.cic_rules.specs.declared.decls.Ctor.{Ctor}
use Rattle.cic_rules.specs.declared.decls.InductiveDecl.{InductiveDecl}
use Rattle.cic_rules.specs.declared.env.Slot.{Slot}
use Rattle.cic_rules.specs.declared.families.CheckedInductive.{CheckedInductive}
use Rattle.cic_rules.specs.Scopes.{IsScoped}
use Rattle.cic_rules.specs.Contexts.{products_over}
use Rattle.cic_rules.specs.Environments.{IsEnvironment, AreScopedCtors, entered}
use Rattle.cic_rules.specs.Families.{count_params, newest_first}
use Rattle.cic_rules.specs.Infer.{union, sort_of_at}
use Rattle.cic_rules.specs.Eliminators.{MOTIVE, type_of_decl, eliminator_type, motive_type, cases}
use Rattle.cic_rules.specs.Inductive.{permitted, ALL_SORTS, are_props, open_params, rows_of, assumed_type, params_of, are_positive, rows_fit, sort_at_end, has_twice, names_of, any_taken, checked, check_family, check_inductive_at}
use Rattle.cic_rules.specs.Declare.{IsChecked}
use Rattle.cic_rules.specs.Runs.{Run, check_size, require, forbid, some_or, give}
use Rattle.cic_rules.specs.Laws.{Tells, IsCheckedIn}
use Rattle.cic_rules.proofs.ScopeLaws.{scoped_free}
use Rattle.cic_rules.proofs.TellsLaws.{tells_pure, tells_bind, tells_step}
use Rattle.cic_rules.proofs.InductiveScopes.{scope_of_inductives}
use Rattle.inductive_check.specs.declared.elimination.Motive.{Motive}
use Rattle.inductive_check.specs.Forms.{params_under}
use Rattle.inductive_check.specs.Levels.{variable_at, values_at, levels_of, MayPlace, AreCtorsPlaced}
use Rattle.inductive_check.specs.Entries.{AreSorts, AreSomeSorts, AreCtorsFree, MayEliminate, top_site, top_names, behind_params_at}
use Rattle.inductive_check.proofs.FormLaws.{params_top}
use Rattle.inductive_check.proofs.LevelLaws.{values_top, levels_above}
use Rattle.inductive_check.proofs.PartLaws.{over_stop, none_behind}

-- its terms have no variables but the parameters
end_scoped : (hs : List Hyp) (t : Tree) (n k m : ℕ) → k ≡ n + length hs → IsScoped n m (products_over hs t) → IsScoped k m t
end_scoped [] t n k m e h = let same : n ≡ k = omega (arith, e) in subst (λ v. IsScoped v m t) same h
end_scoped (x ∷ xs) t n k m e h = end_scoped xs t (suc n) k m (omega (arith, e)) h.1

ctors_free : (n m : ℕ) (cs : List Ctor) → AreScopedCtors n m cs → AreCtorsFree n cs
ctors_free n m [] h = tt
ctors_free n m (c ∷ cs) h = (scoped_free n m c.ty h.0, ctors_free n m cs h.1)

eliminate_by : (env : List Slot) (c : CheckedInductive) → IsEnvironment env → IsCheckedIn env c → MayEliminate env c
eliminate_by env c is h =
    record {
      short = is.short;
      place = h.place;
      arity = scoped_free (length c.decl.params) (length env) c.decl.arity
          (end_scoped c.decl.params c.decl.arity 0 (length c.decl.params) (length env) (omega arith) h.arity);
      ctors = ctors_free (length c.decl.params) (suc (length env)) c.decl.ctors h.ctors;
    }

pub may_eliminate : (env : List Slot) (c : CheckedInductive) → IsEnvironment env → IsChecked env c → MayEliminate env c
may_eliminate env c is given = eliminate_by env c is (scope_of_inductives env is c given)

-- the sorts of its eliminators
all_sorts : AreSomeSorts ALL_SORTS
all_sorts = (tt, (tt, ((omega arith, omega arith), tt)))

permitted_by : (b : Bool) → AreSomeSorts (if b then ALL_SORTS else PropSort ∷ [])
permitted_by true = all_sorts
permitted_by false = (tt, tt)

permitted_are : (s : Sort) (rows : List (List Sort)) → AreSomeSorts (permitted s rows)
permitted_are PropSort [] = all_sorts
permitted_are PropSort (r ∷ []) = permitted_by (are_props r)
permitted_are PropSort (r ∷ q ∷ rs) = (tt, tt)
permitted_are SetSort rows = all_sorts
permitted_are (TypeSort i) rows = all_sorts

any : {A : Type 0} (f : Run A) → Tells f (λ _. Unit {0})
any f = record { tells = λ left x e. tt }

HasSorts : CheckedInductive → Type 0
HasSorts c = AreSomeSorts c.sorts

module _ (env : List Slot) (calls : ℕ) (d : InductiveDecl) where
  has_sorts : (s : Sort) (rows : List (List Sort)) (used : List ℕ) → HasSorts (checked d env s rows used)
  unfolding HasSorts
  has_sorts s rows used = permitted_are s rows

  family_sorts : (s : Sort) → Tells (check_family d env calls s) HasSorts
  family_sorts s =
      tells_bind (any (open_params env calls d.params [] [])) (λ o h. tells_bind (any (sort_of_at env calls o.ctx d.arity)) (λ a j.
      tells_step (check_size (type_of_decl d)) (tells_bind (any (give (entered env (assumed_type d)))) (λ inner both.
      tells_bind (any (rows_of d inner (length env) calls o.ctx d.ctors)) (λ q k.
      tells_step (require (are_positive (length env) (params_of d) d.ctors) 32) (tells_step (require (rows_fit s q.rows) 33)
      (tells_pure (checked d env s q.rows (union (union o.used a.used) q.used)) (has_sorts s q.rows (union (union o.used a.used) q.used)))))))))

  inductive_sorts : Tells (check_inductive_at env calls d) HasSorts
  inductive_sorts =
      tells_step (forbid (has_twice (names_of d)) 34) (tells_step (forbid (any_taken env (names_of d)) 25)
      (tells_bind (any (some_or 30 (sort_at_end (end_of_products d.arity)))) (λ s k. family_sorts s)))

pub sorts_of_checked : (env : List Slot) (c : CheckedInductive) → IsChecked env c → AreSomeSorts c.sorts
unfolding HasSorts
sorts_of_checked env c given = (inductive_sorts env given.calls c.decl).tells given.units c given.given

pub some_are_sorts : (ss : List Sort) → AreSomeSorts ss → AreSorts ss
some_are_sorts [] h = absurd h
some_are_sorts (s ∷ ss) h = h

-- the whole type by its parts
top_motive : (n : ℕ) → Var 0 ≡ variable_at (n + 1) n
top_motive n = let none : 0 ≡ n + 1 - 1 - n = omega arith in ap Var none

module _ (env : List Slot) (i : CheckedInductive) (m : Motive) (sort : Sort) where
  whole_at : Tree → Tree → List Tree → Tree
  whole_at family motive values =
      products_over i.decl.params
      (Prod MOTIVE (motive_type env i.place i.decl family sort i.decl.arity) (cases env i.place i.decl 0 i.decl.ctors motive values (top_names i.decl)))

  parts_count : eliminator_type env i.place i.decl sort
      ≡ whole_at (apply_all (Constant i.place) (params_under 0 (count_params i.decl))) (variable_at (count_params i.decl + 1) (count_params i.decl))
      (values_at (count_params i.decl + 1) (levels_of (count_params i.decl)))
  unfolding whole_at
  parts_count =
      ap (λ ts. whole_at (apply_all (Constant i.place) ts) (Var 0) (shift_all (newest_first (variables_of (count_params i.decl)) []))) (params_top (count_params i.decl))
      ∙ ap (λ t. whole_at (apply_all (Constant i.place) (params_under 0 (count_params i.decl))) t (shift_all (newest_first (variables_of (count_params i.decl)) [])))
      (top_motive (count_params i.decl))
      ∙ ap (whole_at (apply_all (Constant i.place) (params_under 0 (count_params i.decl))) (variable_at (count_params i.decl + 1) (count_params i.decl)))
      (values_top (count_params i.decl))

  pub parts_of_type : m.level ≡ count_params i.decl → products_over i.decl.params (behind_params_at env i m sort) ≡ eliminator_type env i.place i.decl sort
  unfolding whole_at
  parts_of_type e =
      ap (λ n. whole_at (apply_all (Constant i.place) (params_under 0 n)) (variable_at (n + 1) n) (values_at (n + 1) (levels_of n))) e ∙ sym parts_count

-- a part behind the parameters that can't be made
pub behind_stop : (stop : TermStop) (hs : List Hyp) (t : Tree) → Gives {A = Tree} (Err stop) (within_limits t) →
    Gives {A = Tree} (Err stop) (within_limits (products_over hs t))
behind_stop stop hs t gives = over_stop stop (length hs) hs t t (ap (λ xs. products_over xs t) (sym (none_behind hs (length hs) (omega arith)))) gives

-- where the cases stand
levels_length : (n : ℕ) → length (levels_of n) ≡ n
levels_length zero = refl
levels_length (suc n) = ap suc (levels_length n)

pub levels_next : (n : ℕ) → 0 < n → levels_of n ≡ (n - 1) ∷ levels_of (n - 1)
levels_next zero lt = absurd (omega (arith, lt))
levels_next (suc n) lt = let one : n ≡ suc n - 1 = omega arith in ap (λ k. k ∷ levels_of k) one

pub top_arity : (t : Tree) (n : ℕ) → n ≤ 1000 → free_bound t ≤ n → MayPlace (top_site n) t
top_arity t n few free =
    let long = levels_length n in
    record { site = record { above = levels_above n; room = omega (arith, few) }; few = omega (arith, free, long) }

pub top_ctors : (cs : List Ctor) (n : ℕ) → AreCtorsFree n cs → AreCtorsPlaced (top_site n) cs
top_ctors [] n h = tt
top_ctors (c ∷ cs) n h = let long = levels_length n in let free = h.0 in (omega (arith, free, long), top_ctors cs n h.1)
