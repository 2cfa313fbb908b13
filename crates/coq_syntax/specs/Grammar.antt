-- Which trees are terms: precedence and associativity, row by row of the grammar.
use Rattle.std.specs.Prelude.{◌≡◌, ℕ, ◌≤◌, ◌⊎◌, List, [], ◌∷◌}
use Rattle.coq_syntax.specs.declared.words.BoundName.{BoundName}
use Rattle.coq_syntax.specs.declared.token.Token.{Token}
use Rattle.coq_syntax.specs.Trees.{Term, Forall, Fun, Let, Arrow, Or, And, Not, Equal, Apply, Name, PropSort, SetSort, TypeSort, TypeAt, Numeral, Parenthesized, Binders, Names, Groups, GroupList, NoGroup, Group, Annotation, Untyped, Typed, Arguments, NoArgument, Positional, Given}
use Rattle.coq_syntax.specs.Spelled.{spells}
use Rattle.coq_syntax.specs.Limits.{open_level}

-- the level of a row: the less, the tighter it binds; `open_level` for open forms, 0 for atoms
abbrev pub level : Term → ℕ
level (Forall _ _ _ _) = open_level
level (Fun _ _ _ _) = open_level
level (Let _ _ _ _ _ _ _) = open_level
level (Arrow _ _ _) = 99
level (Or _ _ _) = 85
level (And _ _ _) = 80
level (Not _ _) = 75
level (Equal _ _ _) = 70
level (Apply _ _) = 10
level (Name _) = 0
level (PropSort _) = 0
level (SetSort _) = 0
level (TypeSort _) = 0
level (TypeAt _ _ _ _ _) = 0
level (Numeral _) = 0
level (Parenthesized _ _ _) = 0

-- the term doesn't end in an open form, so an operator may follow it
abbrev pub IsClosed : Term → Type 0
IsClosed (Forall _ _ _ _) = ⊥
IsClosed (Fun _ _ _ _) = ⊥
IsClosed (Let _ _ _ _ _ _ _) = ⊥
IsClosed (Arrow _ _ b) = IsClosed b
IsClosed (Or _ _ b) = IsClosed b
IsClosed (And _ _ b) = IsClosed b
IsClosed (Not _ a) = IsClosed a
IsClosed (Equal _ _ _) = Unit {0}
IsClosed (Apply _ _) = Unit {0}
IsClosed (Name _) = Unit {0}
IsClosed (PropSort _) = Unit {0}
IsClosed (SetSort _) = Unit {0}
IsClosed (TypeSort _) = Unit {0}
IsClosed (TypeAt _ _ _ _ _) = Unit {0}
IsClosed (Numeral _) = Unit {0}
IsClosed (Parenthesized _ _ _) = Unit {0}

-- a right operand: an open form, or a term of at most this level
abbrev pub IsRight : ℕ → Term → Type 0
IsRight most b = (level b ≤ most) ⊎ (level b ≡ open_level)

abbrev pub HasNames : List BoundName → Type 0
HasNames [] = ⊥
HasNames (n ∷ ns) = Unit {0}

abbrev pub HasGroups : GroupList → Type 0
HasGroups NoGroup = ⊥
HasGroups (Group _ _ _ _ _ _) = Unit {0}

abbrev pub HasArguments : Arguments → Type 0
HasArguments NoArgument = ⊥
HasArguments (Positional _ _) = Unit {0}
HasArguments (Given _ _ _ _ _ _) = Unit {0}

abbrev mutual
  -- the tree is a term
  pub IsTerm : Term → Type 0
  -- `forall` binders `,` any term
  IsTerm (Forall _ bs _ b) = AreBinders bs × IsTerm b
  -- `fun` binders `=>` any term
  IsTerm (Fun _ bs _ b) = AreBinders bs × IsTerm b
  -- `let` name annotation `:=` any term `in` any term
  IsTerm (Let _ _ a _ v _ b) = IsAnnotation a × IsTerm v × IsTerm b
  -- `->`: left at most 85 and closed, right any term, so it groups to the right
  IsTerm (Arrow a _ b) = (level a ≤ 85) × IsClosed a × IsTerm a × IsTerm b
  -- `\/`: left at most 80 and closed, right an open form or at most 85, so it groups to the right
  IsTerm (Or a _ b) = (level a ≤ 80) × IsClosed a × IsTerm a × IsRight 85 b × IsTerm b
  -- `/\`: left at most 75 and closed, right an open form or at most 80, so it groups to the right
  IsTerm (And a _ b) = (level a ≤ 75) × IsClosed a × IsTerm a × IsRight 80 b × IsTerm b
  -- `~` behind which stands an open form or at most 75, another `~` among them
  IsTerm (Not _ a) = IsRight 75 a × IsTerm a
  -- `=`: an application or an atom on each side, so it doesn't group
  IsTerm (Equal a _ b) = (level a ≤ 10) × IsTerm a × (level b ≤ 10) × IsTerm b
  -- an atom and at least one argument
  IsTerm (Apply f args) = (level f ≡ 0) × IsTerm f × HasArguments args × AreArguments args
  -- an identifier
  IsTerm (Name _) = Unit {0}
  -- `Prop`
  IsTerm (PropSort _) = Unit {0}
  -- `Set`
  IsTerm (SetSort _) = Unit {0}
  -- `Type`
  IsTerm (TypeSort _) = Unit {0}
  -- `Type@{` number `}`
  IsTerm (TypeAt _ _ _ _ _) = Unit {0}
  -- a number
  IsTerm (Numeral _) = Unit {0}
  -- `(` any term `)`
  IsTerm (Parenthesized _ t _) = IsTerm t

  pub AreBinders : Binders → Type 0
  -- at least one name, `:`, any term
  AreBinders (Names ns _ t) = HasNames ns × IsTerm t
  -- at least one group
  AreBinders (Groups gs) = HasGroups gs × AreGroups gs

  pub AreGroups : GroupList → Type 0
  -- no group more
  AreGroups NoGroup = Unit {0}
  -- `(`, at least one name, `:`, any term, `)`, and more groups
  AreGroups (Group _ ns _ t _ after) = HasNames ns × IsTerm t × AreGroups after

  pub IsAnnotation : Annotation → Type 0
  -- none is written
  IsAnnotation Untyped = Unit {0}
  -- `:` any term
  IsAnnotation (Typed _ t) = IsTerm t

  pub AreArguments : Arguments → Type 0
  -- no argument more
  AreArguments NoArgument = Unit {0}
  -- an atom, and more arguments
  AreArguments (Positional t after) = (level t ≡ 0) × IsTerm t × AreArguments after
  -- `(` identifier `:=` any term `)`, and more arguments
  AreArguments (Given _ _ _ t _ after) = IsTerm t × AreArguments after

-- the tokens have this tree
abbrev pub IsTermOf : List Token → Term → Type 0
IsTermOf tokens t = IsTerm t × (spells t [] ≡ tokens)
