-- The laws at worked values: their premises can be met, and what they tell is so.
use Rattle.std.specs.Prelude.{List, [], ◌∷◌, ◌++◌, true, Some, refl}
use Rattle.std.proofs.Common.{arith, ap}
use Rattle.core_term.specs.declared.sorts.Sort.TheVariants.{PropSort, SetSort}
use Rattle.core_term.specs.Tree.{Var, Sorted, Prod, Lam, LetIn, App}
use Rattle.cic_rules.specs.declared.decls.Decl.TheVariants.{Assume, Define}
use Rattle.cic_rules.specs.declared.entries.EntryKind.TheVariants.{Defined}
use Rattle.cic_rules.specs.declared.env.Slot.{Slot}
use Rattle.cic_rules.specs.declared.judge.Mode.TheVariants.{Same, Below}
use Rattle.cic_rules.specs.Contexts.{plain_hyp}
use Rattle.cic_rules.specs.Environments.{own_slot}
use Rattle.cic_rules.specs.Derive.{Conv, Empty, Assumes, HasType, OfGlobal}
use Rattle.cic_rules.specs.WellFormed.{WfEnv, Nothing}
use Rattle.cic_rules.specs.Grounded.{IsGrounded}
use Rattle.cic_rules.specs.Runs.{repeat}
use Rattle.cic_rules.specs.Reduce.{whnf_at}
use Rattle.cic_rules.specs.Convert.{conv_at, blocker_at}
use Rattle.cic_rules.specs.Infer.{infer_at, inferred, inferred_sort}
use Rattle.cic_rules.specs.Declare.{declare_at}
use Rattle.cic_rules.proofs.Samples.{X, A, ASSUMED, infer_identity}
use Rattle.cic_soundness.specs.Laws.{Fits}
use Rattle.cic_soundness.proofs.ReduceSound.{reduction_is_sound}
use Rattle.cic_soundness.proofs.ConvSound.{conversion_is_sound}
use Rattle.cic_soundness.proofs.InferSound.{types_are_sound, sorts_are_sound, checks_are_sound, over_both}
use Rattle.cic_soundness.proofs.Growth.{derivations_stay}
use Rattle.cic_soundness.proofs.DeclareSound.{declare_keeps_form}
use Rattle.cic_soundness.proofs.GroundedSound.{entries_are_grounded}

-- let x : Prop := A in x
let_converts : Conv ASSUMED [] (LetIn X (Sorted PropSort) A (Var 0)) A
unfolding repeat whnf_at
let_converts = (reduction_is_sound ASSUMED true 2000 [] (LetIn X (Sorted PropSort) A (Var 0))).tells 9 A refl

-- (fun x : Prop => x) A
beta_fits : Fits ASSUMED [] Same (App (Lam X (Sorted PropSort) (Var 0)) A) A
unfolding repeat whnf_at conv_at blocker_at
beta_fits = (conversion_is_sound ASSUMED 2000 [] Same (App (Lam X (Sorted PropSort) (Var 0)) A) A).tells 9 true refl refl

sorts_fit : Fits ASSUMED [] Below (Sorted PropSort) (Sorted SetSort)
unfolding repeat whnf_at conv_at blocker_at
sorts_fit = (conversion_is_sound ASSUMED 2000 [] Below (Sorted PropSort) (Sorted SetSort)).tells 9 true refl refl

-- fun x : A => x
identity_typed : HasType ASSUMED (0 ∷ []) [] (Lam X A (Var 0)) (Prod X A A)
identity_typed =
    ((types_are_sound ASSUMED 2000 [] (Lam X A (Var 0))).tells 1000000 (inferred (Prod X A A) (0 ∷ [])) (ap (λ r. r.answer) infer_identity)).derived (0 ∷ [])
    (λ c h. h) Empty

product_sorted : HasType ASSUMED (0 ∷ []) [] (Prod X A A) (Sorted PropSort)
unfolding repeat whnf_at conv_at infer_at
product_sorted =
    ((sorts_are_sound ASSUMED 2000 [] (Prod X A A)).tells 9 (inferred_sort PropSort (0 ∷ [])) refl).derived (0 ∷ []) (λ c h. h) Empty

assumed_checked : HasType ASSUMED (0 ∷ []) [] A (Sorted SetSort)
unfolding repeat whnf_at conv_at infer_at blocker_at
assumed_checked = ((checks_are_sound ASSUMED 2000 [] A (Sorted SetSort)).tells 9 (0 ∷ []) refl).derived (0 ∷ []) (λ c h. h) Empty

-- x in the context of x : A, over the names of both
variable_typed : HasType ASSUMED (0 ∷ []) (plain_hyp X A ∷ []) (Var 0) A
unfolding infer_at
variable_typed =
    over_both ASSUMED (plain_hyp X A ∷ []) (Var 0) A [] (0 ∷ [])
    ((types_are_sound ASSUMED 2000 (plain_hyp X A ∷ []) (Var 0)).tells 9 (inferred A []) refl)
    (Assumes X PropSort Empty (OfGlobal 0 (Sorted PropSort) Empty refl refl))

-- the identity in a longer environment
identity_stays : HasType (ASSUMED ++ ASSUMED) (0 ∷ []) [] (Lam X A (Var 0)) (Prod X A A)
identity_stays = derivations_stay.derives ASSUMED ASSUMED (0 ∷ []) (0 ∷ []) [] (Lam X A (Var 0)) (Prod X A A) (λ c h. h) identity_typed

-- A : Prop is well formed
assumed_formed : WfEnv ASSUMED
unfolding repeat whnf_at conv_at blocker_at infer_at declare_at
assumed_formed = (declare_keeps_form [] Nothing 2000 (Assume (65 ∷ []) (Sorted PropSort))).tells 9 ASSUMED refl

-- and x := A : Prop after it
abbrev BOTH : List Slot
BOTH = ASSUMED ++ (own_slot (record { name = X; ty = Sorted PropSort; kind = Defined A true; used = 0 ∷ [] }) ∷ [])

both_formed : WfEnv BOTH
unfolding repeat whnf_at conv_at blocker_at infer_at declare_at
both_formed = (declare_keeps_form ASSUMED assumed_formed 2000 (Define X (Some (Sorted PropSort)) A true)).tells 9 BOTH refl

assumption_grounded : IsGrounded BOTH (0 ∷ []) 0
assumption_grounded = entries_are_grounded.assumptions BOTH both_formed 0 refl

definition_grounded : IsGrounded BOTH (0 ∷ []) 1
definition_grounded = entries_are_grounded.others BOTH both_formed 1 (omega arith) refl
