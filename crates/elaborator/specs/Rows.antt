-- The rows of elaboration, each over the runs of its parts.
use Rattle.std.specs.Prelude.{ℕ, ◌-◌, List, [], ◌∷◌, length, take, codes}
use Rattle.coq_syntax.specs.declared.words.TokenPlace.{TokenPlace}
use Rattle.coq_syntax.specs.declared.words.BoundName.{BoundName}
use Rattle.coq_syntax.specs.Trees.{Term, Arguments}
use Rattle.core_term.specs.Tree.{Tree, Prod, LetIn}
use Rattle.cic_rules.specs.declared.context.Hyp.{Hyp}
use Rattle.cic_rules.specs.declared.env.Slot.{Slot}
use Rattle.cic_rules.specs.declared.judge.Inferred.{Inferred}
use Rattle.cic_rules.specs.Contexts.{plain_hyp, defined_hyp}
use Rattle.cic_rules.specs.Convert.{with_hyp}
use Rattle.cic_rules.specs.Runs.{Run, ◌>>=◌, give}
use Rattle.cic_rules.specs.Steps.{take_step}
use Rattle.elaborator.specs.declared.binders.Binding.{Binding}
use Rattle.elaborator.specs.Names.{unnamed, global}
use Rattle.elaborator.specs.Parts.{sized, applied, closed, opened}
use Rattle.elaborator.specs.Arrangement.{order, picked}

-- `a -> b`: a product without a name
abbrev pub arrow : List Hyp → Run Tree → (List Hyp → Run Tree) → Run Tree
arrow ctx left right = do
  a ← left
  inner ← with_hyp ctx (plain_hyp unnamed a)
  b ← right inner
  take_step (sized (Prod unnamed a b))

-- names of one type, which is elaborated once, before the first of them
abbrev pub bound : List Hyp → List BoundName → Run Tree → Run (List Hyp)
bound ctx names type = do
  ty ← type
  give (opened ctx ty 0 names)

-- binders over a body
abbrev pub binding : Binding → List Hyp → Run (List Hyp) → (List Hyp → Run Tree) → Run Tree
binding kind ctx binders body = do
  inner ← binders
  b ← body inner
  take_step (closed kind (take (length inner - length ctx) inner) b)

-- `let` with a type, and without one
module _ (ctx : List Hyp) (name : List ℕ) where
  abbrev pub defined : Tree → Tree → (List Hyp → Run Tree) → Run Tree
  defined a t body = do
    inner ← with_hyp ctx (defined_hyp name a t)
    b ← body inner
    take_step (sized (LetIn name a t b))

  abbrev pub typed_let : Run Tree → Run Tree → (List Hyp → Run Tree) → Run Tree
  typed_let type value body = do
    a ← type
    t ← value
    defined a t body

  abbrev pub untyped_let : (List Hyp → Tree → Run Inferred) → Run Tree → (List Hyp → Run Tree) → Run Tree
  untyped_let infer value body = do
    t ← value
    i ← infer ctx t
    defined i.ty t body

module _ (env : List Slot) where
  -- an operator between two terms, which means this global
  abbrev pub operation : List ℕ → Run Tree → TokenPlace → Run Tree → Run Tree
  operation name left sign right = do
    a ← left
    f ← take_step (global env name sign)
    b ← right
    take_step (applied f (a ∷ b ∷ []))

  abbrev pub negation : TokenPlace → Run Tree → Run Tree
  negation sign operand = do
    f ← take_step (global env (codes "not") sign)
    a ← operand
    take_step (applied f (a ∷ []))

  -- `a = b`: the type is inferred for the left side, before the right side is elaborated
  abbrev pub equation : (List Hyp → Tree → Run Inferred) → List Hyp → Run Tree → TokenPlace → Run Tree → Run Tree
  equation infer ctx left sign right = do
    a ← left
    f ← take_step (global env (codes "eq") sign)
    i ← infer ctx a
    b ← right
    take_step (applied f (i.ty ∷ a ∷ b ∷ []))

  -- arguments with names among them: the tests come behind the head and before each argument
  abbrev pub named_application : List Hyp → Term → Arguments → Run Tree → Run (List Tree) → Run Tree
  named_application ctx head args function values = do
    f ← function
    ks ← take_step (order env ctx head args)
    ts ← values
    take_step (applied f (picked ts ks))

abbrev pub application : Run Tree → Run (List Tree) → Run Tree
application function values = do
  f ← function
  ts ← values
  take_step (applied f ts)
