-- What elaboration gives stands in scope.
use Rattle.std.proofs.Common.{ℕ, ◌-◌, ◌≤◌, List, [], ◌∷◌, ◌++◌, length, codes, arith}
use Rattle.coq_syntax.specs.declared.words.TokenPlace.{TokenPlace}
use Rattle.coq_syntax.specs.declared.words.BoundName.{BoundName}
use Rattle.coq_syntax.specs.Trees.{Term, Forall, Fun, Let, Arrow, Or, And, Not, Equal, Apply, Name, PropSort, SetSort, TypeSort, TypeAt, Numeral, Parenthesized, Binders, Names, Groups, GroupList, NoGroup, Group, Untyped, Typed, Arguments, NoArgument, Positional, Given}
use Rattle.core_term.specs.declared.sorts.Sort.TheVariants as sort
use Rattle.core_term.specs.Tree.{Tree, Prod, LetIn, Sorted}
use Rattle.cic_rules.specs.declared.context.Hyp.{Hyp}
use Rattle.cic_rules.specs.declared.env.Slot.{Slot}
use Rattle.cic_rules.specs.declared.judge.Inferred.{Inferred}
use Rattle.cic_rules.specs.Contexts.{plain_hyp, defined_hyp}
use Rattle.cic_rules.specs.Environments.{IsEnvironment}
use Rattle.cic_rules.specs.Infer.{infer_at}
use Rattle.cic_rules.specs.Judges.{IsTermIn, IsInferredIn}
use Rattle.cic_rules.specs.Laws.{Tells, FoundPlacesAreThere}
use Rattle.cic_rules.specs.Runs.{Run}
use Rattle.cic_rules.specs.Scopes.{AreScoped, IsScopedContext}
use Rattle.cic_rules.proofs.JudgeScopes.{scope_of_inference}
use Rattle.cic_rules.proofs.PlaceLaws.{place_below}
use Rattle.cic_rules.proofs.ScopeLaws.{scoped_append}
use Rattle.cic_rules.proofs.TellsLaws.{tells_give, tells_pure, tells_bind, tells_within, tells_if}
use Rattle.elaborator.specs.declared.binders.Binding.{Binding}
use Rattle.elaborator.specs.declared.binders.Binding.TheVariants.{Product, Function}
use Rattle.elaborator.specs.Names.{unnamed, bound_name, global, name}
use Rattle.elaborator.specs.Parts.{numeral, type_at, opened}
use Rattle.elaborator.specs.Arrangement.{has_named, order, picked}
use Rattle.elaborator.specs.Rows.{arrow, bound, binding, defined, typed_let, untyped_let, operation, negation, equation, named_application, application}
use Rattle.elaborator.specs.Elab.{elab, elab_arguments, open_binders, open_groups}
use Rattle.elaborator.proofs.OpeningLaws.{opened_grown}
use Rattle.elaborator.proofs.StepLaws.{Holds, holds_sized, tells_step, applied_holds, global_holds, numeral_holds, name_holds, level_holds, closed_holds, picked_scoped}

-- a context in which terms may stand, and one that was opened from another
abbrev Fits : List Slot → List Hyp → Type 0
Fits env ctx = IsScopedContext (length env) ctx

abbrev Grown : List Slot → List Hyp → List Hyp → Type 0
Grown env ctx inner = Fits env inner × (length ctx ≤ length inner)

module _ (env : List Slot) where
  arrow_in : (ctx : List Hyp) {left : Run Tree} {right : List Hyp → Run Tree} → Fits env ctx → Tells left (IsTermIn env ctx) →
      ((inner : List Hyp) → Fits env inner → Tells (right inner) (IsTermIn env inner)) → Tells (arrow ctx left right) (IsTermIn env ctx)
  arrow_in ctx {right = right} hyps one two =
      tells_bind one (λ a h. tells_within ctx (plain_hyp unnamed a) _ (tells_bind (two (plain_hyp unnamed a ∷ ctx) (record { ty = h; value = tt }, hyps))
      (λ b k. tells_step _ (holds_sized (IsTermIn env ctx) (Prod unnamed a b) (h, k)))))

  binding_in : (kind : Binding) (ctx : List Hyp) {binders : Run (List Hyp)} {body : List Hyp → Run Tree} → Tells binders (Grown env ctx) →
      ((inner : List Hyp) → Fits env inner → Tells (body inner) (IsTermIn env inner)) → Tells (binding kind ctx binders body) (IsTermIn env ctx)
  binding_in kind ctx one two =
      tells_bind one (λ inner grown. tells_bind (two inner grown.0) (λ b h. tells_step _
      (closed_holds kind (length ctx) (length env) (length inner - length ctx) inner b (omega (arith, grown.1)) grown.0 h)))

  bound_in : (ctx : List Hyp) (names : List BoundName) {type : Run Tree} → Fits env ctx → Tells type (IsTermIn env ctx) → Tells (bound ctx names type) (Grown env ctx)
  bound_in ctx names hyps one = tells_bind one (λ ty h. tells_give (opened ctx ty 0 names) (λ inner e. opened_grown env ctx inner ty names hyps h e))

  defined_in : (ctx : List Hyp) (name : List ℕ) (a t : Tree) {body : List Hyp → Run Tree} → Fits env ctx → IsTermIn env ctx a → IsTermIn env ctx t →
      ((inner : List Hyp) → Fits env inner → Tells (body inner) (IsTermIn env inner)) → Tells (defined ctx name a t body) (IsTermIn env ctx)
  defined_in ctx name a t hyps one two rest =
      tells_within ctx (defined_hyp name a t) _ (tells_bind (rest (defined_hyp name a t ∷ ctx) (record { ty = one; value = two }, hyps))
      (λ b k. tells_step _ (holds_sized (IsTermIn env ctx) (LetIn name a t b) (one, two, k))))

  typed_in : (ctx : List Hyp) (name : List ℕ) {type value : Run Tree} {body : List Hyp → Run Tree} → Fits env ctx → Tells type (IsTermIn env ctx) →
      Tells value (IsTermIn env ctx) → ((inner : List Hyp) → Fits env inner → Tells (body inner) (IsTermIn env inner)) →
      Tells (typed_let ctx name type value body) (IsTermIn env ctx)
  typed_in ctx name hyps one two rest = tells_bind one (λ a h. tells_bind two (λ t k. defined_in ctx name a t hyps h k rest))

  module _ (below : FoundPlacesAreThere) where
    operation_in : (ctx : List Hyp) (name : List ℕ) (sign : TokenPlace) {left right : Run Tree} → Tells left (IsTermIn env ctx) → Tells right (IsTermIn env ctx) →
        Tells (operation env name left sign right) (IsTermIn env ctx)
    operation_in ctx name sign one two =
        tells_bind one (λ a h. tells_bind (tells_step (global env name sign) (global_holds below env (length ctx) name sign))
        (λ f g. tells_bind two (λ b k. tells_step _ (applied_holds (length ctx) (length env) f (a ∷ b ∷ []) g (h, (k, tt))))))

    negation_in : (ctx : List Hyp) (sign : TokenPlace) {operand : Run Tree} → Tells operand (IsTermIn env ctx) → Tells (negation env sign operand) (IsTermIn env ctx)
    negation_in ctx sign one =
        tells_bind (tells_step (global env (codes "not") sign) (global_holds below env (length ctx) (codes "not") sign))
        (λ f g. tells_bind one (λ a h. tells_step _ (applied_holds (length ctx) (length env) f (a ∷ []) g (h, tt))))

    module _ (infer : List Hyp → Tree → Run Inferred)
        (infers : (ctx : List Hyp) → Fits env ctx → (t : Tree) → Tells (infer ctx t) (IsInferredIn env ctx t)) where
      equation_in : (ctx : List Hyp) (sign : TokenPlace) {left right : Run Tree} → Fits env ctx → Tells left (IsTermIn env ctx) → Tells right (IsTermIn env ctx) →
          Tells (equation env infer ctx left sign right) (IsTermIn env ctx)
      equation_in ctx sign hyps one two =
          tells_bind one (λ a h. tells_bind (tells_step (global env (codes "eq") sign) (global_holds below env (length ctx) (codes "eq") sign))
          (λ f g. tells_bind (infers ctx hyps a) (λ i typed. tells_bind two
          (λ b k. tells_step _ (applied_holds (length ctx) (length env) f (i.ty ∷ a ∷ b ∷ []) g (typed.ty, (h, (k, tt))))))))

      untyped_in : (ctx : List Hyp) (name : List ℕ) {value : Run Tree} {body : List Hyp → Run Tree} → Fits env ctx → Tells value (IsTermIn env ctx) →
          ((inner : List Hyp) → Fits env inner → Tells (body inner) (IsTermIn env inner)) → Tells (untyped_let ctx name infer value body) (IsTermIn env ctx)
      untyped_in ctx name hyps one rest =
          tells_bind one (λ t h. tells_bind (infers ctx hyps t) (λ i typed. defined_in ctx name i.ty t hyps typed.ty h rest))

  application_in : (ctx : List Hyp) {function : Run Tree} {values : Run (List Tree)} → Tells function (IsTermIn env ctx) →
      Tells values (AreScoped (length ctx) (length env)) → Tells (application function values) (IsTermIn env ctx)
  application_in ctx one all = tells_bind one (λ f h. tells_bind all (λ ts k. tells_step _ (applied_holds (length ctx) (length env) f ts h k)))

  order_any : (ctx : List Hyp) (head : Term) (args : Arguments) → Holds (order env ctx head args) (λ _. Unit {0})
  order_any ctx head args = record { holds = λ ks e. tt }

  named_in : (ctx : List Hyp) (head : Term) (args : Arguments) {function : Run Tree} {values : Run (List Tree)} → Tells function (IsTermIn env ctx) →
      Tells values (AreScoped (length ctx) (length env)) → Tells (named_application env ctx head args function values) (IsTermIn env ctx)
  named_in ctx head args one all =
      tells_bind one (λ f h. tells_bind (tells_step (order env ctx head args) (order_any ctx head args)) (λ ks _. tells_bind all
      (λ ts k. tells_step _ (applied_holds (length ctx) (length env) f (picked ts ks) h (picked_scoped (length ctx) (length env) ts ks k)))))

  further : (ctx inner : List Hyp) {groups : Run (List Hyp)} → length ctx ≤ length inner → Tells groups (Grown env inner) → Tells groups (Grown env ctx)
  further ctx inner le h = record { tells = λ left x e. let both = h.tells left x e in (both.0, omega (arith, le, both.1)) }

  module _ (below : FoundPlacesAreThere) (calls : ℕ) (infers : (ctx : List Hyp) → Fits env ctx → (t : Tree) → Tells (infer_at env calls ctx t) (IsInferredIn env ctx t)) where
    mutual
      unfolding elab elab_arguments open_binders open_groups

      pub elab_tells : (ctx : List Hyp) (s : Term) → Fits env ctx → Tells (elab env calls ctx s) (IsTermIn env ctx)
      elab_tells ctx (Forall p bs q b) hyps = binding_in Product ctx (binders_tell ctx bs hyps) (λ inner more. elab_tells inner b more)
      elab_tells ctx (Fun p bs q b) hyps = binding_in Function ctx (binders_tell ctx bs hyps) (λ inner more. elab_tells inner b more)
      elab_tells ctx (Let p n Untyped q v r b) hyps =
          untyped_in below (infer_at env calls) infers ctx (bound_name n) hyps (elab_tells ctx v hyps) (λ inner more. elab_tells inner b more)
      elab_tells ctx (Let p n (Typed o a) q v r b) hyps =
          typed_in ctx (bound_name n) hyps (elab_tells ctx a hyps) (elab_tells ctx v hyps) (λ inner more. elab_tells inner b more)
      elab_tells ctx (Arrow a p b) hyps = arrow_in ctx hyps (elab_tells ctx a hyps) (λ inner more. elab_tells inner b more)
      elab_tells ctx (Or a p b) hyps = operation_in below ctx (codes "or") p (elab_tells ctx a hyps) (elab_tells ctx b hyps)
      elab_tells ctx (And a p b) hyps = operation_in below ctx (codes "and") p (elab_tells ctx a hyps) (elab_tells ctx b hyps)
      elab_tells ctx (Not p a) hyps = negation_in below ctx p (elab_tells ctx a hyps)
      elab_tells ctx (Equal a p b) hyps = equation_in below (infer_at env calls) infers ctx p hyps (elab_tells ctx a hyps) (elab_tells ctx b hyps)
      elab_tells ctx (Apply f args) hyps =
          tells_if (has_named args) (λ _. named_in ctx f args (elab_tells ctx f hyps) (arguments_tell ctx [] args hyps tt))
          (λ _. application_in ctx (elab_tells ctx f hyps) (arguments_tell ctx [] args hyps tt))
      elab_tells ctx (Name w) hyps = tells_step (name env ctx w) (name_holds below env ctx w)
      elab_tells ctx (PropSort p) hyps = tells_pure (Sorted sort.PropSort) tt
      elab_tells ctx (SetSort p) hyps = tells_pure (Sorted sort.SetSort) tt
      elab_tells ctx (TypeSort p) hyps = tells_pure (Sorted (sort.TypeSort 1)) tt
      elab_tells ctx (TypeAt p q r w s) hyps = tells_step (type_at w) (level_holds (length ctx) (length env) w)
      elab_tells ctx (Numeral w) hyps = tells_step (numeral env w) (numeral_holds below env (length ctx) w)
      elab_tells ctx (Parenthesized p t q) hyps = elab_tells ctx t hyps

      arguments_tell : (ctx : List Hyp) (done : List Tree) (args : Arguments) → Fits env ctx → AreScoped (length ctx) (length env) done →
          Tells (elab_arguments env calls ctx done args) (AreScoped (length ctx) (length env))
      arguments_tell ctx done NoArgument hyps all = tells_pure done all
      arguments_tell ctx done (Positional t after) hyps all =
          tells_bind (elab_tells ctx t hyps)
          (λ v h. arguments_tell ctx (done ++ v ∷ []) after hyps (scoped_append (length ctx) (length env) done (v ∷ []) all (h, tt)))
      arguments_tell ctx done (Given p w q t r after) hyps all =
          tells_bind (elab_tells ctx t hyps)
          (λ v h. arguments_tell ctx (done ++ v ∷ []) after hyps (scoped_append (length ctx) (length env) done (v ∷ []) all (h, tt)))

      binders_tell : (ctx : List Hyp) (bs : Binders) → Fits env ctx → Tells (open_binders env calls ctx bs) (Grown env ctx)
      binders_tell ctx (Names ns p t) hyps = bound_in ctx ns hyps (elab_tells ctx t hyps)
      binders_tell ctx (Groups gs) hyps = groups_tell ctx gs hyps

      pub groups_tell : (ctx : List Hyp) (gs : GroupList) → Fits env ctx → Tells (open_groups env calls ctx gs) (Grown env ctx)
      groups_tell ctx NoGroup hyps = tells_pure ctx (hyps, omega arith)
      groups_tell ctx (Group p ns q t r after) hyps =
          tells_bind (bound_in ctx ns hyps (elab_tells ctx t hyps)) (λ inner grown. further ctx inner grown.1 (groups_tell inner after grown.0))

-- the term of a tree is in scope, and the context that groups open is one
pub elab_inside : (env : List Slot) → IsEnvironment env → (calls : ℕ) (ctx : List Hyp) (s : Term) → Fits env ctx → Tells (elab env calls ctx s) (IsTermIn env ctx)
elab_inside env is calls ctx s hyps = elab_tells env place_below calls (λ c h t. scope_of_inference env is calls c h t) ctx s hyps
