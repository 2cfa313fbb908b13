-- Elaboration: the term of a tree in a context, with units and refusals.
use Rattle.std.specs.Prelude.{ℕ, List, [], ◌∷◌, ◌++◌, if◌then◌else◌, codes}
use Rattle.coq_syntax.specs.Trees.{Term, Forall, Fun, Let, Arrow, Or, And, Not, Equal, Apply, Name, PropSort, SetSort, TypeSort, TypeAt, Numeral, Parenthesized, Binders, Names, Groups, GroupList, NoGroup, Group, Untyped, Typed, Arguments, NoArgument, Positional, Given}
use Rattle.core_term.specs.declared.sorts.Sort.TheVariants as sort
use Rattle.core_term.specs.Tree.{Tree, Sorted}
use Rattle.cic_rules.specs.declared.context.Hyp.{Hyp}
use Rattle.cic_rules.specs.declared.env.Slot.{Slot}
use Rattle.cic_rules.specs.Fuel.{FuelState, left, calls_left}
use Rattle.cic_rules.specs.Infer.{infer_at}
use Rattle.cic_rules.specs.Runs.{Ran, Run, ◌>>=◌, pure}
use Rattle.cic_rules.specs.Steps.{take_step}
use Rattle.elaborator.specs.declared.binders.Binding.TheVariants.{Product, Function}
use Rattle.elaborator.specs.Names.{bound_name, name}
use Rattle.elaborator.specs.Parts.{numeral, type_at}
use Rattle.elaborator.specs.Arrangement.{has_named}
use Rattle.elaborator.specs.Rows.{arrow, bound, binding, typed_let, untyped_let, operation, negation, equation, named_application, application}

-- in an environment; so many judgements may still stand in one another
module _ (env : List Slot) (calls : ℕ) where
  unfoldable mutual
    pub elab : List Hyp → Term → Run Tree
    elab ctx (Forall p bs q b) = binding Product ctx (open_binders ctx bs) (λ inner. elab inner b)
    elab ctx (Fun p bs q b) = binding Function ctx (open_binders ctx bs) (λ inner. elab inner b)
    elab ctx (Let p n Untyped q v r b) = untyped_let ctx (bound_name n) (infer_at env calls) (elab ctx v) (λ inner. elab inner b)
    elab ctx (Let p n (Typed o a) q v r b) = typed_let ctx (bound_name n) (elab ctx a) (elab ctx v) (λ inner. elab inner b)
    elab ctx (Arrow a p b) = arrow ctx (elab ctx a) (λ inner. elab inner b)
    elab ctx (Or a p b) = operation env (codes "or") (elab ctx a) p (elab ctx b)
    elab ctx (And a p b) = operation env (codes "and") (elab ctx a) p (elab ctx b)
    elab ctx (Not p a) = negation env p (elab ctx a)
    elab ctx (Equal a p b) = equation env (infer_at env calls) ctx (elab ctx a) p (elab ctx b)
    elab ctx (Apply f args) =
        if has_named args then named_application env ctx f args (elab ctx f) (elab_arguments ctx [] args)
        else application (elab ctx f) (elab_arguments ctx [] args)
    elab ctx (Name w) = take_step (name env ctx w)
    elab ctx (PropSort p) = pure (Sorted sort.PropSort)
    elab ctx (SetSort p) = pure (Sorted sort.SetSort)
    elab ctx (TypeSort p) = pure (Sorted (sort.TypeSort 1))
    elab ctx (TypeAt p q r w s) = take_step (type_at w)
    elab ctx (Numeral w) = take_step (numeral env w)
    elab ctx (Parenthesized p t q) = elab ctx t

    -- arguments in the order in which they are written, behind those that are done: the list grows at its end
    pub elab_arguments : List Hyp → List Tree → Arguments → Run (List Tree)
    elab_arguments ctx done NoArgument = pure done
    elab_arguments ctx done (Positional t after) = do
      value ← elab ctx t
      elab_arguments ctx (done ++ value ∷ []) after
    elab_arguments ctx done (Given p w q t r after) = do
      value ← elab ctx t
      elab_arguments ctx (done ++ value ∷ []) after

    -- the context with the names of binders; a group's type is elaborated once, before its first name
    pub open_binders : List Hyp → Binders → Run (List Hyp)
    open_binders ctx (Names ns p t) = bound ctx ns (elab ctx t)
    open_binders ctx (Groups gs) = open_groups ctx gs

    pub open_groups : List Hyp → GroupList → Run (List Hyp)
    open_groups ctx NoGroup = pure ctx
    open_groups ctx (Group p ns q t r after) = do
      inner ← bound ctx ns (elab ctx t)
      open_groups inner after

-- on some fuel: with its units, and with so many more judgements in one another
abbrev pub elab_with : List Slot → List Hyp → Term → FuelState → Ran Tree
elab_with env ctx s f = elab env (calls_left f) ctx s (left f)

abbrev pub groups_with : List Slot → List Hyp → GroupList → FuelState → Ran (List Hyp)
groups_with env ctx gs f = open_groups env (calls_left f) ctx gs (left f)

abbrev pub binders_with : List Slot → List Hyp → Binders → FuelState → Ran (List Hyp)
binders_with env ctx bs f = open_binders env (calls_left f) ctx bs (left f)

abbrev pub arguments_with : List Slot → List Hyp → Arguments → FuelState → Ran (List Tree)
arguments_with env ctx args f = elab_arguments env (calls_left f) ctx [] args (left f)
