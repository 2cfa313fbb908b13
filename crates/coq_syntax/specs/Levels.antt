-- Trees in which each level of a `Type` is one.
use Rattle.std.specs.Prelude.{◌≤◌, List, [], ◌∷◌}
use Rattle.coq_syntax.specs.declared.words.Word.{Word}
use Rattle.coq_syntax.specs.Trees.{Term, Forall, Fun, Let, Arrow, Or, And, Not, Equal, Apply, Name, PropSort, SetSort, TypeSort, TypeAt, Numeral, Parenthesized, Binders, Names, Groups, GroupList, NoGroup, Group, Annotation, Untyped, Typed, Arguments, NoArgument, Positional, Given}
use Rattle.coq_syntax.specs.CommandTrees.{Constructor, Command, Assume, Define, State, Inductive, Check, Proof, Qed, Defined, Admitted, Aborted}
use Rattle.coq_syntax.specs.MoveTrees.{Move, Exact, Apply as ApplyMove, Rewrite}
use Rattle.coq_syntax.specs.Limits.{greatest_level}
use Rattle.coq_syntax.specs.Faults.{value_of}

-- the number is a level
pub record IsLevel (w : Word) : Type 0 where
  pub least : 1 ≤ value_of w
  pub most : value_of w ≤ greatest_level

-- each level in the tree is one
abbrev mutual
  pub HasLevels : Term → Type 0
  HasLevels (Forall p bs q b) = BindersHaveLevels bs × HasLevels b
  HasLevels (Fun p bs q b) = BindersHaveLevels bs × HasLevels b
  HasLevels (Let p n a q v r b) = AnnotationHasLevels a × HasLevels v × HasLevels b
  HasLevels (Arrow a p b) = HasLevels a × HasLevels b
  HasLevels (Or a p b) = HasLevels a × HasLevels b
  HasLevels (And a p b) = HasLevels a × HasLevels b
  HasLevels (Not p a) = HasLevels a
  HasLevels (Equal a p b) = HasLevels a × HasLevels b
  HasLevels (Apply f args) = HasLevels f × ArgumentsHaveLevels args
  HasLevels (Name w) = Unit {0}
  HasLevels (PropSort p) = Unit {0}
  HasLevels (SetSort p) = Unit {0}
  HasLevels (TypeSort p) = Unit {0}
  HasLevels (TypeAt p q r w s) = IsLevel w
  HasLevels (Numeral w) = Unit {0}
  HasLevels (Parenthesized p t q) = HasLevels t

  pub BindersHaveLevels : Binders → Type 0
  BindersHaveLevels (Names ns p t) = HasLevels t
  BindersHaveLevels (Groups gs) = GroupsHaveLevels gs

  pub GroupsHaveLevels : GroupList → Type 0
  GroupsHaveLevels NoGroup = Unit {0}
  GroupsHaveLevels (Group p ns q t r after) = HasLevels t × GroupsHaveLevels after

  pub AnnotationHasLevels : Annotation → Type 0
  AnnotationHasLevels Untyped = Unit {0}
  AnnotationHasLevels (Typed p t) = HasLevels t

  pub ArgumentsHaveLevels : Arguments → Type 0
  ArgumentsHaveLevels NoArgument = Unit {0}
  ArgumentsHaveLevels (Positional t after) = HasLevels t × ArgumentsHaveLevels after
  ArgumentsHaveLevels (Given p w q t r after) = HasLevels t × ArgumentsHaveLevels after

abbrev pub ConstructorsHaveLevels : List Constructor → Type 0
ConstructorsHaveLevels [] = Unit {0}
ConstructorsHaveLevels (c ∷ cs) = GroupsHaveLevels c.groups × AnnotationHasLevels c.annotation × ConstructorsHaveLevels cs

abbrev pub CommandHasLevels : Command → Type 0
CommandHasLevels (Assume w p x q t) = HasLevels t
CommandHasLevels (Define p x gs a q t) = GroupsHaveLevels gs × AnnotationHasLevels a × HasLevels t
CommandHasLevels (State w p x gs q t) = GroupsHaveLevels gs × HasLevels t
CommandHasLevels (Inductive p x gs q t r cs) = GroupsHaveLevels gs × HasLevels t × ConstructorsHaveLevels cs
CommandHasLevels (Check p t) = HasLevels t
CommandHasLevels (Proof p) = Unit {0}
CommandHasLevels (Qed p) = Unit {0}
CommandHasLevels (Defined p) = Unit {0}
CommandHasLevels (Admitted p) = Unit {0}
CommandHasLevels (Aborted p) = Unit {0}

abbrev pub MoveHasLevels : Move → Type 0
MoveHasLevels (Exact p t) = HasLevels t
MoveHasLevels (ApplyMove p t) = HasLevels t
MoveHasLevels (Rewrite p d t) = HasLevels t
MoveHasLevels _ = Unit {0}
