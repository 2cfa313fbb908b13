-- Terms as they are written, one constructor for each row of the grammar, with the places of their tokens.
use Rattle.std.specs.Prelude.{ℕ, ◌+◌, List}
use Rattle.coq_syntax.specs.declared.words.TokenPlace.{TokenPlace}
use Rattle.coq_syntax.specs.declared.words.Word.{Word}
use Rattle.coq_syntax.specs.declared.words.BoundName.{BoundName}

mutual
  pub data Term : Type 0 where
    Forall : (keyword : TokenPlace) (binders : Binders) (comma : TokenPlace) (body : Term) → Term
    Fun : (keyword : TokenPlace) (binders : Binders) (arrow : TokenPlace) (body : Term) → Term
    Let : (keyword : TokenPlace) (name : BoundName) (annotation : Annotation) (assign : TokenPlace) (value : Term) (joint : TokenPlace) (body : Term) → Term
    Arrow : (left : Term) (sign : TokenPlace) (right : Term) → Term
    Or : (left : Term) (sign : TokenPlace) (right : Term) → Term
    And : (left : Term) (sign : TokenPlace) (right : Term) → Term
    Not : (sign : TokenPlace) (operand : Term) → Term
    Equal : (left : Term) (sign : TokenPlace) (right : Term) → Term
    Apply : (head : Term) (arguments : Arguments) → Term
    Name : (word : Word) → Term
    PropSort : (place : TokenPlace) → Term
    SetSort : (place : TokenPlace) → Term
    TypeSort : (place : TokenPlace) → Term
    TypeAt : (keyword at opening : TokenPlace) (level : Word) (closing : TokenPlace) → Term
    Numeral : (word : Word) → Term
    Parenthesized : (opening : TokenPlace) (inner : Term) (closing : TokenPlace) → Term

  pub data Binders : Type 0 where
    Names : (names : List BoundName) (colon : TokenPlace) (ty : Term) → Binders
    Groups : (groups : GroupList) → Binders

  pub data GroupList : Type 0 where
    NoGroup : GroupList
    Group : (opening : TokenPlace) (names : List BoundName) (colon : TokenPlace) (ty : Term) (closing : TokenPlace) (after : GroupList) → GroupList

  pub data Annotation : Type 0 where
    Untyped : Annotation
    Typed : (colon : TokenPlace) (ty : Term) → Annotation

  pub data Arguments : Type 0 where
    NoArgument : Arguments
    Positional : (argument : Term) (after : Arguments) → Arguments
    Given : (opening : TokenPlace) (name : Word) (assign : TokenPlace) (argument : Term) (closing : TokenPlace) (after : Arguments) → Arguments

-- how many nodes a tree has
abbrev mutual
  pub size_of : Term → ℕ
  size_of (Forall _ bs _ b) = 1 + size_of_binders bs + size_of b
  size_of (Fun _ bs _ b) = 1 + size_of_binders bs + size_of b
  size_of (Let _ _ a _ v _ b) = 1 + size_of_annotation a + size_of v + size_of b
  size_of (Arrow a _ b) = 1 + size_of a + size_of b
  size_of (Or a _ b) = 1 + size_of a + size_of b
  size_of (And a _ b) = 1 + size_of a + size_of b
  size_of (Not _ a) = 1 + size_of a
  size_of (Equal a _ b) = 1 + size_of a + size_of b
  size_of (Apply f args) = 1 + size_of f + size_of_arguments args
  size_of (Name _) = 1
  size_of (PropSort _) = 1
  size_of (SetSort _) = 1
  size_of (TypeSort _) = 1
  size_of (TypeAt _ _ _ _ _) = 1
  size_of (Numeral _) = 1
  size_of (Parenthesized _ t _) = 1 + size_of t

  pub size_of_binders : Binders → ℕ
  size_of_binders (Names _ _ t) = 1 + size_of t
  size_of_binders (Groups gs) = 1 + size_of_groups gs

  pub size_of_groups : GroupList → ℕ
  size_of_groups NoGroup = 0
  size_of_groups (Group _ _ _ t _ after) = 1 + size_of t + size_of_groups after

  pub size_of_annotation : Annotation → ℕ
  size_of_annotation Untyped = 0
  size_of_annotation (Typed _ t) = 1 + size_of t

  pub size_of_arguments : Arguments → ℕ
  size_of_arguments NoArgument = 0
  size_of_arguments (Positional t after) = 1 + size_of t + size_of_arguments after
  size_of_arguments (Given _ _ _ t _ after) = 1 + size_of t + size_of_arguments after
