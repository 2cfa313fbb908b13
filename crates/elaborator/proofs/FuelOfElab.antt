-- The law of fuel of elaboration, row by row.
use Rattle.std.proofs.Common.{◌≡◌, ℕ, suc, ◌^◌, nat_lt, List, [], ◌∷◌, ◌++◌, length, codes, Bool, true, false, Result, Ok, Err}
use Rattle.std.specs.Prelude.{if◌then◌else◌}
use Rattle.base_core.specs.declared.refusals.Stop.{Stop}
use Rattle.base_core.specs.declared.refusals.Stop.TheVariants.{Out}
use Rattle.base_core.specs.declared.refusals.Limit.TheVariants.{StepLimit, SizeLimit}
use Rattle.coq_syntax.specs.declared.words.TokenPlace.{TokenPlace}
use Rattle.coq_syntax.specs.declared.words.BoundName.{BoundName}
use Rattle.coq_syntax.specs.Trees.{Term, Forall, Fun, Let, Arrow, Or, And, Not, Equal, Apply, Name, PropSort, SetSort, TypeSort, TypeAt, Numeral, Parenthesized, Binders, Names, Groups, GroupList, NoGroup, Group, Untyped, Typed, Arguments, NoArgument, Positional, Given}
use Rattle.core_term.specs.declared.sorts.Sort.TheVariants as sort
use Rattle.core_term.specs.Tree.{Tree, Sorted}
use Rattle.core_term.specs.Places.{lift_of}
use Rattle.cic_rules.specs.declared.context.Hyp.{Hyp}
use Rattle.cic_rules.specs.declared.env.Slot.{Slot}
use Rattle.cic_rules.specs.declared.judge.Inferred.{Inferred}
use Rattle.cic_rules.specs.Contexts.{plain_hyp}
use Rattle.cic_rules.specs.Infer.{infer_at}
use Rattle.cic_rules.specs.Laws.{KeepsLawOfFuel}
use Rattle.cic_rules.specs.Runs.{Run}
use Rattle.cic_rules.proofs.FuelLaws.{law_give, law_pure, law_bind, law_take_step, law_if, fuel_laws}
use Rattle.cic_rules.proofs.InferFuelLaws.{fuel_of_inference}
use Rattle.elaborator.specs.declared.binders.Binding.{Binding}
use Rattle.elaborator.specs.declared.binders.Binding.TheVariants.{Product, Function}
use Rattle.elaborator.specs.Names.{bound_name, name}
use Rattle.elaborator.specs.Parts.{numeral, type_at, then_open, opened}
use Rattle.elaborator.specs.Arrangement.{has_named}
use Rattle.elaborator.specs.Rows.{arrow, bound, binding, defined, typed_let, untyped_let, operation, negation, equation, named_application, application}
use Rattle.elaborator.specs.Elab.{elab, elab_arguments, open_binders, open_groups}
use Rattle.elaborator.specs.Laws.{FuelOfElaboration, FuelOfGroups}

then_by : (b : Bool) (ctx : List Hyp) (h : Hyp) (rest : List Hyp → Result (List Hyp) Stop) → ((inner : List Hyp) → rest inner ≡ Err (Out StepLimit) → ⊥) →
    then_open (if b then Ok (h ∷ ctx) else Err (Out SizeLimit)) rest ≡ Err (Out StepLimit) → ⊥
then_by true ctx h rest other e = other (h ∷ ctx) e
then_by false ctx h rest other e = cc

opened_is : (ctx : List Hyp) (ty : Tree) (k : ℕ) (names : List BoundName) → opened ctx ty k names ≡ Err (Out StepLimit) → ⊥
opened_is ctx ty k [] e = cc
opened_is ctx ty k (n ∷ ns) e =
    then_by (nat_lt (length ctx) (2 ^ 31)) ctx (plain_hyp (bound_name n) (lift_of ty k 0)) (λ inner. opened inner ty (suc k) ns)
    (λ inner h. opened_is inner ty (suc k) ns h) e

law_arrow : (ctx : List Hyp) {left : Run Tree} {right : List Hyp → Run Tree} → KeepsLawOfFuel left → ((inner : List Hyp) → KeepsLawOfFuel (right inner)) →
    KeepsLawOfFuel (arrow ctx left right)
law_arrow ctx l r = search fuel_laws depth 12

law_bound : (ctx : List Hyp) (names : List BoundName) {type : Run Tree} → KeepsLawOfFuel type → KeepsLawOfFuel (bound ctx names type)
law_bound ctx names l = law_bind l (λ ty. law_give (opened ctx ty 0 names) (opened_is ctx ty 0 names))

law_binding : (kind : Binding) (ctx : List Hyp) {binders : Run (List Hyp)} {body : List Hyp → Run Tree} → KeepsLawOfFuel binders →
    ((inner : List Hyp) → KeepsLawOfFuel (body inner)) → KeepsLawOfFuel (binding kind ctx binders body)
law_binding kind ctx l r = search fuel_laws depth 12

law_defined : (ctx : List Hyp) (name : List ℕ) (a t : Tree) {body : List Hyp → Run Tree} → ((inner : List Hyp) → KeepsLawOfFuel (body inner)) →
    KeepsLawOfFuel (defined ctx name a t body)
law_defined ctx name a t r = search fuel_laws depth 12

law_typed : (ctx : List Hyp) (name : List ℕ) {type value : Run Tree} {body : List Hyp → Run Tree} → KeepsLawOfFuel type → KeepsLawOfFuel value →
    ((inner : List Hyp) → KeepsLawOfFuel (body inner)) → KeepsLawOfFuel (typed_let ctx name type value body)
law_typed ctx name one two r = law_bind one (λ a. law_bind two (λ t. law_defined ctx name a t r))

law_untyped : (infer : List Hyp → Tree → Run Inferred) (ctx : List Hyp) (name : List ℕ) {value : Run Tree} {body : List Hyp → Run Tree} →
    ((t : Tree) → KeepsLawOfFuel (infer ctx t)) → KeepsLawOfFuel value → ((inner : List Hyp) → KeepsLawOfFuel (body inner)) →
    KeepsLawOfFuel (untyped_let ctx name infer value body)
law_untyped infer ctx name infers one r = law_bind one (λ t. law_bind (infers t) (λ i. law_defined ctx name i.ty t r))

law_operation : (env : List Slot) (name : List ℕ) (sign : TokenPlace) {left right : Run Tree} → KeepsLawOfFuel left → KeepsLawOfFuel right →
    KeepsLawOfFuel (operation env name left sign right)
law_operation env name sign l r = search fuel_laws depth 12

law_negation : (env : List Slot) (sign : TokenPlace) {operand : Run Tree} → KeepsLawOfFuel operand → KeepsLawOfFuel (negation env sign operand)
law_negation env sign l = search fuel_laws depth 12

law_equation : (infer : List Hyp → Tree → Run Inferred) (env : List Slot) (ctx : List Hyp) (sign : TokenPlace) {left right : Run Tree} →
    ((t : Tree) → KeepsLawOfFuel (infer ctx t)) → KeepsLawOfFuel left → KeepsLawOfFuel right → KeepsLawOfFuel (equation env infer ctx left sign right)
law_equation infer env ctx sign infers l r = search fuel_laws depth 12

law_application : {function : Run Tree} {values : Run (List Tree)} → KeepsLawOfFuel function → KeepsLawOfFuel values → KeepsLawOfFuel (application function values)
law_application l r = search fuel_laws depth 12

law_named : (env : List Slot) (ctx : List Hyp) (head : Term) (args : Arguments) {function : Run Tree} {values : Run (List Tree)} → KeepsLawOfFuel function →
    KeepsLawOfFuel values → KeepsLawOfFuel (named_application env ctx head args function values)
law_named env ctx head args l r = search fuel_laws depth 12

module _ (env : List Slot) (calls : ℕ) where
  infers : (ctx : List Hyp) (t : Tree) → KeepsLawOfFuel (infer_at env calls ctx t)
  infers ctx t = fuel_of_inference env calls ctx t

  mutual
    unfolding elab elab_arguments open_binders open_groups

    law_elab : (ctx : List Hyp) (s : Term) → KeepsLawOfFuel (elab env calls ctx s)
    law_elab ctx (Forall p bs q b) = law_binding Product ctx (law_binders ctx bs) (λ inner. law_elab inner b)
    law_elab ctx (Fun p bs q b) = law_binding Function ctx (law_binders ctx bs) (λ inner. law_elab inner b)
    law_elab ctx (Let p n Untyped q v r b) = law_untyped (infer_at env calls) ctx (bound_name n) (infers ctx) (law_elab ctx v) (λ inner. law_elab inner b)
    law_elab ctx (Let p n (Typed o a) q v r b) = law_typed ctx (bound_name n) (law_elab ctx a) (law_elab ctx v) (λ inner. law_elab inner b)
    law_elab ctx (Arrow a p b) = law_arrow ctx (law_elab ctx a) (λ inner. law_elab inner b)
    law_elab ctx (Or a p b) = law_operation env (codes "or") p (law_elab ctx a) (law_elab ctx b)
    law_elab ctx (And a p b) = law_operation env (codes "and") p (law_elab ctx a) (law_elab ctx b)
    law_elab ctx (Not p a) = law_negation env p (law_elab ctx a)
    law_elab ctx (Equal a p b) = law_equation (infer_at env calls) env ctx p (infers ctx) (law_elab ctx a) (law_elab ctx b)
    law_elab ctx (Apply f args) =
        law_if (has_named args) (law_named env ctx f args (law_elab ctx f) (law_arguments ctx [] args)) (law_application (law_elab ctx f) (law_arguments ctx [] args))
    law_elab ctx (Name w) = law_take_step (name env ctx w)
    law_elab ctx (PropSort p) = law_pure (Sorted sort.PropSort)
    law_elab ctx (SetSort p) = law_pure (Sorted sort.SetSort)
    law_elab ctx (TypeSort p) = law_pure (Sorted (sort.TypeSort 1))
    law_elab ctx (TypeAt p q r w s) = law_take_step (type_at w)
    law_elab ctx (Numeral w) = law_take_step (numeral env w)
    law_elab ctx (Parenthesized p t q) = law_elab ctx t

    law_arguments : (ctx : List Hyp) (done : List Tree) (args : Arguments) → KeepsLawOfFuel (elab_arguments env calls ctx done args)
    law_arguments ctx done NoArgument = law_pure done
    law_arguments ctx done (Positional t after) = law_bind (law_elab ctx t) (λ v. law_arguments ctx (done ++ v ∷ []) after)
    law_arguments ctx done (Given p w q t r after) = law_bind (law_elab ctx t) (λ v. law_arguments ctx (done ++ v ∷ []) after)

    law_binders : (ctx : List Hyp) (bs : Binders) → KeepsLawOfFuel (open_binders env calls ctx bs)
    law_binders ctx (Names ns p t) = law_bound ctx ns (law_elab ctx t)
    law_binders ctx (Groups gs) = law_groups ctx gs

    law_groups : (ctx : List Hyp) (gs : GroupList) → KeepsLawOfFuel (open_groups env calls ctx gs)
    law_groups ctx NoGroup = law_pure ctx
    law_groups ctx (Group p ns q t r after) = law_bind (law_bound ctx ns (law_elab ctx t)) (λ inner. law_groups inner after)

pub fuel_of_elaboration : FuelOfElaboration
fuel_of_elaboration env calls ctx s = law_elab env calls ctx s

pub fuel_of_groups : FuelOfGroups
fuel_of_groups env calls ctx gs = law_groups env calls ctx gs
