-- Commands as they are written, one constructor for each row of the grammar, with the places of their tokens.
use Rattle.std.specs.Prelude.{Option, List}
use Rattle.coq_syntax.specs.declared.words.TokenPlace.{TokenPlace}
use Rattle.coq_syntax.specs.declared.words.Word.{Word}
use Rattle.coq_syntax.specs.declared.command.AssumptionWord.{AssumptionWord}
use Rattle.coq_syntax.specs.declared.command.StatementWord.{StatementWord}
use Rattle.coq_syntax.specs.Trees.{Term, GroupList, Annotation}

-- a constructor of an inductive type
pub record Constructor : Type 0 where
  pub bar : Option TokenPlace
  pub name : Word
  pub groups : GroupList
  pub annotation : Annotation

pub data Command : Type 0 where
  Assume : (word : AssumptionWord) (keyword : TokenPlace) (name : Word) (colon : TokenPlace) (ty : Term) → Command
  Define : (keyword : TokenPlace) (name : Word) (groups : GroupList) (annotation : Annotation) (assign : TokenPlace) (body : Term) → Command
  State : (word : StatementWord) (keyword : TokenPlace) (name : Word) (groups : GroupList) (colon : TokenPlace) (ty : Term) → Command
  Inductive : (keyword : TokenPlace) (name : Word) (groups : GroupList) (colon : TokenPlace) (arity : Term) (assign : TokenPlace) (constructors : List Constructor) → Command
  Check : (keyword : TokenPlace) (term : Term) → Command
  Proof : (place : TokenPlace) → Command
  Qed : (place : TokenPlace) → Command
  Defined : (place : TokenPlace) → Command
  Admitted : (place : TokenPlace) → Command
  Aborted : (place : TokenPlace) → Command
