-- Proof moves as they are written, one constructor for each row of the grammar, with the places of their tokens.
use Rattle.std.specs.Prelude.{Option, List}
use Rattle.coq_syntax.specs.declared.words.TokenPlace.{TokenPlace}
use Rattle.coq_syntax.specs.declared.words.Word.{Word}
use Rattle.coq_syntax.specs.declared.words.BoundName.{BoundName}
use Rattle.coq_syntax.specs.declared.moves.Direction.{Direction}
use Rattle.coq_syntax.specs.Trees.{Term}

-- `| x y` in a pattern
pub record PatternCase : Type 0 where
  pub bar : TokenPlace
  pub names : List BoundName

-- `as [x y | z]`
pub record Pattern : Type 0 where
  pub keyword : TokenPlace
  pub opening : TokenPlace
  pub first : List BoundName
  pub others : List PatternCase
  pub closing : TokenPlace

pub data Move : Type 0 where
  Intro : (keyword : TokenPlace) (name : Option Word) → Move
  Intros : (keyword : TokenPlace) (names : List Word) → Move
  Exact : (keyword : TokenPlace) (term : Term) → Move
  Apply : (keyword : TokenPlace) (term : Term) → Move
  Assumption : (place : TokenPlace) → Move
  Split : (place : TokenPlace) → Move
  Left : (place : TokenPlace) → Move
  Right : (place : TokenPlace) → Move
  Reflexivity : (place : TokenPlace) → Move
  Admit : (place : TokenPlace) → Move
  Simpl : (place : TokenPlace) → Move
  Unfold : (keyword : TokenPlace) (name : Word) → Move
  Destruct : (keyword : TokenPlace) (name : Word) (pattern : Option Pattern) → Move
  Induction : (keyword : TokenPlace) (name : Word) (pattern : Option Pattern) → Move
  Rewrite : (keyword : TokenPlace) (direction : Direction) (term : Term) → Move
