-- Inductive types as they are written: what the kernel's rules are asked for before the declaration is whole.
use Rattle.std.specs.Prelude.{ℕ, List, [], ◌∷◌, ◌++◌, reverse}
use Rattle.coq_syntax.specs.CommandTrees.{Constructor}
use Rattle.core_term.specs.declared.sorts.Sort.TheVariants.{PropSort}
use Rattle.core_term.specs.Tree.{Tree, Sorted}
use Rattle.cic_rules.specs.declared.context.Hyp.{Hyp}
use Rattle.cic_rules.specs.declared.decls.Ctor.{Ctor}
use Rattle.cic_rules.specs.declared.decls.InductiveDecl.{InductiveDecl}
use Rattle.cic_rules.specs.declared.env.Slot.{Slot}
use Rattle.cic_rules.specs.Inductive.{names_of}
use Rattle.cic_rules.specs.Runs.{Run, ◌>>=◌, pure}
use Rattle.elaborator.specs.Constructors.{constructor_type}

abbrev pub ctor : List ℕ → Tree → Ctor
ctor name ty = record { name = name; ty = ty }

-- a declaration in the context of its parameters, whose newest is the first
abbrev pub family : List ℕ → List Hyp → Tree → List Ctor → InductiveDecl
family name ctx arity ctors = record { name = name; params = reverse ctx; arity = arity; ctors = ctors }

-- constructors of which the names alone are read: `Prop` stands for each type
abbrev pub named_ctors : List Constructor → List Ctor
named_ctors [] = []
named_ctors (c ∷ cs) = ctor c.name.text (Sorted PropSort) ∷ named_ctors cs

-- the names that a declaration will have: they are tested before any of its terms is elaborated
abbrev pub written_names : List ℕ → List Constructor → List (List ℕ)
written_names name cs = names_of (family name [] (Sorted PropSort) (named_ctors cs))

-- in an environment that has the type at a place; so many judgements may still stand in one another
module _ (env : List Slot) (calls : ℕ) where
  -- constructors in the context of the parameters, behind those that are done: the list grows at its end
  abbrev pub elab_constructors : List Hyp → ℕ → List Ctor → List Constructor → Run (List Ctor)
  elab_constructors params place done [] = pure done
  elab_constructors params place done (c ∷ cs) = do
    ty ← constructor_type env calls params place c.groups c.annotation
    elab_constructors params place (done ++ ctor c.name.text ty ∷ []) cs
