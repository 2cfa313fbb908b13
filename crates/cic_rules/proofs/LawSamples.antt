-- The laws at worked values: their premises can be met, and what they tell is so.
use Rattle.std.proofs.Common.{◌≡◌, ℕ, ◌≤◌, ◌<◌, List, [], ◌∷◌, ◌++◌, length, true, Ok, Some, refl, ap, arith}
use Rattle.core_term.specs.declared.sorts.Sort.TheVariants.{PropSort, TypeSort}
use Rattle.core_term.specs.Tree.{Tree, Var, Sorted, Constant, Prod, Lam, LetIn, App}
use Rattle.cic_rules.specs.declared.decls.Decl.TheVariants.{Assume}
use Rattle.cic_rules.specs.declared.decls.InductiveDecl.{InductiveDecl}
use Rattle.cic_rules.specs.declared.entries.Entry.{Entry}
use Rattle.cic_rules.specs.declared.entries.EntryKind.TheVariants.{Assumed}
use Rattle.cic_rules.specs.declared.env.Slot.{Slot}
use Rattle.cic_rules.specs.declared.families.CheckedInductive.{CheckedInductive}
use Rattle.cic_rules.specs.declared.judge.Mode.TheVariants.{Same}
use Rattle.cic_rules.specs.Environments.{own_slot, IsEnvironment}
use Rattle.cic_rules.specs.EnterFamily.{MayEnterFamily}
use Rattle.cic_rules.specs.Runs.{repeat}
use Rattle.cic_rules.specs.Reduce.{whnf_at}
use Rattle.cic_rules.specs.Convert.{conv_at, blocker_at}
use Rattle.cic_rules.specs.Infer.{infer_at, inferred}
use Rattle.cic_rules.specs.Eliminators.{family_entries}
use Rattle.cic_rules.specs.Inductive.{ALL_SORTS, row_at}
use Rattle.cic_rules.specs.Declare.{IsChecked, declare_at}
use Rattle.cic_rules.specs.Judges.{IsInferredIn}
use Rattle.cic_rules.specs.Contexts.{plain_hyp}
use Rattle.cic_rules.specs.Derive.{HasType, OfSort, Empty}
use Rattle.cic_rules.specs.Environments.{MayEnter}
use Rattle.cic_rules.specs.Grounded.{axioms, Reaches}
use Rattle.cic_rules.specs.Infer.{inferred_sort, sort_of_at, check_at}
use Rattle.cic_rules.specs.Laws.{IsUnderLimit, IsCheckedIn, without_domains}
use Rattle.cic_rules.specs.Runs.{Ran, ◌>>=◌, pure}
use Rattle.cic_rules.specs.Scopes.{IsScoped, IsJudged}
use Rattle.term_spine.specs.Globals.{IsAscending}
use Rattle.cic_rules.proofs.AxiomLaws.{axioms_ascend}
use Rattle.cic_rules.proofs.EnvironmentScopes.{scope_of_globals, scope_of_contexts}
use Rattle.cic_rules.proofs.InductiveScopes.{scope_of_inductives}
use Rattle.cic_rules.proofs.InferFuelLaws.{fuel_of_inference, fuel_of_sorts, fuel_of_checks, fuel_of_declarations}
use Rattle.cic_rules.proofs.NamesLaws.{names_may_grow}
use Rattle.cic_rules.proofs.PlaceLaws.{place_below}
use Rattle.cic_rules.proofs.ReachLaws.{entries_use_before, axioms_are_reached}
use Rattle.cic_rules.proofs.RowLaws.{rows_are_sorted}
use Rattle.cic_rules.proofs.ScopeLaws.{scope_of_terms}
use Rattle.cic_rules.proofs.DeclareLaws.{judged_may_enter, declare_keeps}
use Rattle.cic_rules.proofs.FamilyLaws.{checked_may_enter}
use Rattle.cic_rules.proofs.JudgeFuelLaws.{fuel_of_reduction, fuel_of_conversion}
use Rattle.cic_rules.proofs.JudgeScopes.{scope_of_reduction, scope_of_inference, scope_of_sorts, scope_of_checks, scope_of_rows}
use Rattle.cic_rules.proofs.Samples.{X, A, ASSUMED, whnf_let, conv_poor, infer_identity}

assumed_is : IsEnvironment ASSUMED
assumed_is =
    record {
      short = omega arith;
      slots = (
        record {
          entry = record { scoped = (tt, tt); names = record { ascending = tt; before = tt } };
          covers = (tt, tt);
          family = tt;
        },
        tt,
      );
    }

-- a run that ends for want of units has none left
poor_has_none : (conv_at ASSUMED 2000 [] Same (App (Lam X (Sorted PropSort) (Var 0)) A) A 2).left ≡ 0
poor_has_none = (fuel_of_conversion ASSUMED 2000 [] Same (App (Lam X (Sorted PropSort) (Var 0)) A) A).empty 2 (ap (λ r. r.answer) conv_poor)

-- fun x : A => x is in scope, and so is its type
identity_in_scope : IsInferredIn ASSUMED [] (Lam X A (Var 0)) (inferred (Prod X A A) (0 ∷ []))
identity_in_scope =
    (scope_of_inference ASSUMED assumed_is 2000 [] tt (Lam X A (Var 0))).tells 1000000 (inferred (Prod X A A) (0 ∷ [])) (ap (λ r. r.answer) infer_identity)

-- x : A is one more global
more_is : IsEnvironment (ASSUMED ++ (own_slot (record { name = X; ty = A; kind = Assumed; used = 0 ∷ [] }) ∷ []))
unfolding repeat whnf_at conv_at blocker_at infer_at row_at declare_at
more_is =
    (declare_keeps ASSUMED assumed_is 2000 (Assume X A)).tells 9 (ASSUMED ++ (own_slot (record { name = X; ty = A; kind = Assumed; used = 0 ∷ [] }) ∷ [])) refl

-- True : Prop, of the constructor I : True
abbrev TRUE : InductiveDecl
TRUE = record { name = 84 ∷ []; params = []; arity = Sorted PropSort; ctors = record { name = 73 ∷ []; ty = Constant 0 } ∷ [] }

abbrev TRUE_CHECKED : CheckedInductive
TRUE_CHECKED = record { decl = TRUE; place = 0; used = []; sorts = ALL_SORTS }

true_checked : IsChecked [] TRUE_CHECKED
unfolding repeat whnf_at conv_at blocker_at infer_at row_at
true_checked = record { calls = 2000; units = 9; given = refl }

true_may_enter : MayEnterFamily [] TRUE (family_entries [] TRUE [] ALL_SORTS)
true_may_enter =
    checked_may_enter [] (record { short = omega arith; slots = tt }) TRUE_CHECKED true_checked (family_entries [] TRUE [] ALL_SORTS) refl

-- Prop : Type@{1}, over no names and over more
prop_has_type : HasType ASSUMED [] [] (Sorted PropSort) (Sorted (TypeSort 1))
prop_has_type = OfSort PropSort (TypeSort 1) Empty refl

prop_over_more : HasType ASSUMED (0 ∷ []) [] (Sorted PropSort) (Sorted (TypeSort 1))
prop_over_more = names_may_grow.derives ASSUMED [] (0 ∷ []) [] (Sorted PropSort) (Sorted (TypeSort 1)) (λ c h. absurd (cc)) prop_has_type

-- A and x : A: x rests on A
abbrev MORE : List Slot
MORE = ASSUMED ++ (own_slot (record { name = X; ty = A; kind = Assumed; used = 0 ∷ [] }) ∷ [])

its_axioms : axioms MORE 1 ≡ 0 ∷ []
its_axioms = refl

its_axioms_ascend : IsAscending (axioms MORE 1)
its_axioms_ascend = axioms_ascend MORE 1

reaches_its_type : Reaches MORE 1 0
reaches_its_type = ((axioms_are_reached MORE (entries_use_before MORE more_is) 1 0).0 refl).1

-- forall x : A, A, sorted as a row and as a type
row_is_sorted : (row_at ASSUMED 2000 [] (Prod X A A) >>= without_domains) 9 ≡ pure (inferred_sort PropSort (0 ∷ [])) 6
unfolding repeat whnf_at conv_at infer_at row_at
row_is_sorted = rows_are_sorted ASSUMED 2000 [] (Prod X A A) 9

-- under a lower limit
reduction_falls : (whnf_at ASSUMED true 2000 [] (LetIn X (Sorted PropSort) A (Var 0)) 5).left ≤ 5
reduction_falls = (fuel_of_reduction ASSUMED true 2000 [] (LetIn X (Sorted PropSort) A (Var 0))).falls 5

inference_lower : IsUnderLimit 2 1000000 (infer_at ASSUMED 2000 [] (Lam X A (Var 0)) 2) (infer_at ASSUMED 2000 [] (Lam X A (Var 0)) 1000000)
inference_lower = (fuel_of_inference ASSUMED 2000 [] (Lam X A (Var 0))).lower 2 1000000 (omega arith)

sorts_fall : (sort_of_at ASSUMED 2000 [] A 5).left ≤ 5
sorts_fall = (fuel_of_sorts ASSUMED 2000 [] A).falls 5

checks_fall : (check_at ASSUMED 2000 [] A (Sorted PropSort) 5).left ≤ 5
checks_fall = (fuel_of_checks ASSUMED 2000 [] A (Sorted PropSort)).falls 5

declarations_fall : (declare_at ASSUMED 2000 (Assume X A) 5).left ≤ 5
declarations_fall = (fuel_of_declarations ASSUMED 2000 (Assume X A)).falls 5

-- what stands in scope
reduced_in_scope : IsScoped 0 1 A
reduced_in_scope =
    (scope_of_reduction ASSUMED assumed_is true 2000 [] tt (LetIn X (Sorted PropSort) A (Var 0)) (tt, omega arith, omega arith)).tells
    1000000 A (ap (λ r. r.answer) whnf_let)

sorted_in_scope : IsJudged 0 1 A (0 ∷ [])
unfolding repeat whnf_at conv_at infer_at
sorted_in_scope = (scope_of_sorts ASSUMED assumed_is 2000 [] tt A).tells 9 (inferred_sort PropSort (0 ∷ [])) refl

checked_in_scope : IsJudged 0 1 A (0 ∷ [])
unfolding repeat whnf_at conv_at blocker_at infer_at
checked_in_scope = (scope_of_checks ASSUMED assumed_is 2000 [] tt A (Sorted PropSort)).tells 9 (0 ∷ []) refl

row_in_scope : IsJudged 0 1 A (0 ∷ [])
unfolding repeat whnf_at conv_at infer_at row_at
row_in_scope = (scope_of_rows ASSUMED assumed_is 2000 [] tt A).tells 9 (record { sort = PropSort; domains = []; tails = []; used = 0 ∷ [] }) refl

true_in_scope : IsCheckedIn [] TRUE_CHECKED
true_in_scope = scope_of_inductives [] (record { short = omega arith; slots = tt }) TRUE_CHECKED true_checked

x_may_enter : MayEnter ASSUMED (record { name = X; ty = A; kind = Assumed; used = 0 ∷ [] })
x_may_enter = judged_may_enter.assumed ASSUMED X A (0 ∷ []) refl checked_in_scope

found_is_there : 0 < 1
found_is_there = place_below ASSUMED (65 ∷ []) 0 refl

type_of_global_in_scope : IsScoped 3 1 (Sorted PropSort)
type_of_global_in_scope = scope_of_globals.types ASSUMED assumed_is 3 0 (Sorted PropSort) refl

type_of_variable_in_scope : IsScoped 1 1 A
type_of_variable_in_scope = scope_of_contexts.types 1 (plain_hyp X A ∷ []) 0 A (record { ty = omega arith; value = tt }, tt) refl

lifted_in_scope : IsScoped 2 1 (Var 1)
lifted_in_scope = scope_of_terms.lift 1 2 1 1 0 (Var 0) refl (omega arith)
