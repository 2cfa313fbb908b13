-- A tree has tokens, and so has each item of a list.
use Rattle.std.proofs.Common.{◌≡◌, ℕ, suc, ◌+◌, ◌<◌, ◌≤◌, List, [], ◌∷◌, codes, length, arith}
use Rattle.coq_syntax.specs.declared.token.Token.{Token}
use Rattle.coq_syntax.specs.declared.words.BoundName.{BoundName}
use Rattle.coq_syntax.specs.Trees.{Term, Forall, Fun, Let, Arrow, Or, And, Not, Equal, Apply, Name, PropSort, SetSort, TypeSort, TypeAt, Numeral, Parenthesized, Binders, Names, Groups, GroupList, NoGroup, Group, Annotation, Untyped, Typed, Arguments, NoArgument, Positional, Given}
use Rattle.coq_syntax.specs.Spelled.{reserved, symbol, spells, binders, groups, annotation, arguments, names}

pub names_length : (ns : List BoundName) (rest : List Token) → length (names ns rest) ≡ length ns + length rest
names_length [] rest = omega arith
names_length (n ∷ ns) rest = omega (arith, names_length ns rest)

abbrev pub count_groups : GroupList → ℕ
count_groups NoGroup = 0
count_groups (Group p ns q t r after) = suc (count_groups after)

abbrev pub count_arguments : Arguments → ℕ
count_arguments NoArgument = 0
count_arguments (Positional t after) = suc (count_arguments after)
count_arguments (Given p w q t r after) = suc (count_arguments after)

mutual
  pub longer : (t : Term) (rest : List Token) → length rest < length (spells t rest)
  longer (Forall p bs q b) rest = omega (arith, longer_binders bs (symbol (codes ",") q ∷ spells b rest), longer b rest)
  longer (Fun p bs q b) rest = omega (arith, longer_binders bs (symbol (codes "=>") q ∷ spells b rest), longer b rest)
  longer (Let p x a q v r b) rest = omega (arith, longer_annotation a (symbol (codes ":=") q ∷ spells v (reserved (codes "in") r ∷ spells b rest)), longer v (reserved (codes "in") r ∷ spells b rest), longer b rest)
  longer (Arrow a p b) rest = omega (arith, longer a (symbol (codes "->") p ∷ spells b rest), longer b rest)
  longer (Or a p b) rest = omega (arith, longer a (symbol (codes "\\/") p ∷ spells b rest), longer b rest)
  longer (And a p b) rest = omega (arith, longer a (symbol (codes "/\\") p ∷ spells b rest), longer b rest)
  longer (Not p a) rest = omega (arith, longer a rest)
  longer (Equal a p b) rest = omega (arith, longer a (symbol (codes "=") p ∷ spells b rest), longer b rest)
  longer (Apply f args) rest = omega (arith, longer f (arguments args rest), longer_arguments args rest)
  longer (Name w) rest = omega arith
  longer (PropSort p) rest = omega arith
  longer (SetSort p) rest = omega arith
  longer (TypeSort p) rest = omega arith
  longer (TypeAt p q r w s) rest = omega arith
  longer (Numeral w) rest = omega arith
  longer (Parenthesized p t q) rest = omega (arith, longer t (symbol (codes ")") q ∷ rest))

  pub longer_binders : (bs : Binders) (rest : List Token) → length rest ≤ length (binders bs rest)
  longer_binders (Names ns p t) rest = omega (arith, names_length ns (symbol (codes ":") p ∷ spells t rest), longer t rest)
  longer_binders (Groups gs) rest = omega (arith, longer_groups gs rest)

  pub longer_groups : (gs : GroupList) (rest : List Token) → count_groups gs + length rest ≤ length (groups gs rest)
  longer_groups NoGroup rest = omega arith
  longer_groups (Group p ns q t r after) rest = omega (arith, names_length ns (symbol (codes ":") q ∷ spells t (symbol (codes ")") r ∷ groups after rest)), longer t (symbol (codes ")") r ∷ groups after rest), longer_groups after rest)

  pub longer_annotation : (a : Annotation) (rest : List Token) → length rest ≤ length (annotation a rest)
  longer_annotation Untyped rest = omega arith
  longer_annotation (Typed p t) rest = omega (arith, longer t rest)

  pub longer_arguments : (args : Arguments) (rest : List Token) → count_arguments args + length rest ≤ length (arguments args rest)
  longer_arguments NoArgument rest = omega arith
  longer_arguments (Positional t after) rest = omega (arith, longer t (arguments after rest), longer_arguments after rest)
  longer_arguments (Given p w q t r after) rest = omega (arith, longer t (symbol (codes ")") r ∷ arguments after rest), longer_arguments after rest)
