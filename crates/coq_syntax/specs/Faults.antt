-- What is refused of a tree: rules nested too deep, too great a numeral, a level of `Type` that is 0 or too great.
use Rattle.std.specs.Prelude.{◌==◌, ℕ, zero, suc, ◌+◌, ◌-◌, ◌*◌, nat_lt, ◌||◌, Option, None, Some, List, [], ◌∷◌, codes, if◌then◌else◌}
use Rattle.coq_syntax.specs.declared.token.Token.{Token}
use Rattle.coq_syntax.specs.declared.words.Word.{Word}
use Rattle.coq_syntax.specs.Trees.{Term, Forall, Fun, Let, Arrow, Or, And, Not, Equal, Apply, Name, PropSort, SetSort, TypeSort, TypeAt, Numeral, Parenthesized, Binders, Names, Groups, GroupList, NoGroup, Group, Annotation, Untyped, Typed, Arguments, NoArgument, Positional, Given}
use Rattle.coq_syntax.specs.Spelled.{reserved, symbol, number, spells, groups, arguments}
use Rattle.coq_syntax.specs.Grammar.{level}
use Rattle.coq_syntax.specs.Limits.{open_level, most_nested, greatest_numeral, greatest_level, too_deep, too_great, no_level}

-- a refusal by its number, and the tokens from its place on
pub record Fault : Type 0 where
  pub code : ℕ
  pub rest : List Token

-- the first of two, in the order of the tokens
abbrev pub first : Option Fault → Option Fault → Option Fault
first (Some f) later = Some f
first None later = later

-- a rule that counts as nested, where so many more may: from its first token on, or inside it with one less
abbrev pub nested : ℕ → (ℕ → Option Fault) → List Token → Option Fault
nested zero inside start = Some (record { code = too_deep; rest = start })
nested (suc n) inside start = inside n

-- the number that digits write, behind those that have this value
abbrev pub digits_value : ℕ → List ℕ → ℕ
digits_value n [] = n
digits_value n (d ∷ ds) = digits_value (n * 10 + (d - 48)) ds

abbrev pub value_of : Word → ℕ
value_of w = digits_value 0 w.text

-- The first fault of a tree, with so many more rules allowed inside it, and the tokens that follow.
-- Counted is each whole term (of a binder or an annotation, the body of `forall` and `fun`, the value and the body of
-- a `let`, behind `->`, in parentheses, of a named argument), and the operand behind `\/`, `/\` and `~` unless it is
-- an open form. A left operand, the sides of `=`, and the head and the other arguments of an application count nothing.
-- Of two faults at one token the nesting comes before the numeral.
abbrev mutual
  pub fault : Term → ℕ → List Token → Option Fault
  fault (Forall p bs q b) n rest = first (binders_fault bs n (symbol (codes ",") q ∷ spells b rest)) (nested n (λ m. fault b m rest) (spells b rest))
  fault (Fun p bs q b) n rest = first (binders_fault bs n (symbol (codes "=>") q ∷ spells b rest)) (nested n (λ m. fault b m rest) (spells b rest))
  fault (Let p x a q v r b) n rest =
      first (annotation_fault a n (symbol (codes ":=") q ∷ spells v (reserved (codes "in") r ∷ spells b rest)))
      (first (nested n (λ m. fault v m (reserved (codes "in") r ∷ spells b rest)) (spells v (reserved (codes "in") r ∷ spells b rest))) (nested n (λ m. fault b m rest) (spells b rest)))
  fault (Arrow a p b) n rest = first (fault a n (symbol (codes "->") p ∷ spells b rest)) (nested n (λ m. fault b m rest) (spells b rest))
  fault (Or a p b) n rest = first (fault a n (symbol (codes "\\/") p ∷ spells b rest)) (if level b == open_level then fault b n rest else nested n (λ m. fault b m rest) (spells b rest))
  fault (And a p b) n rest = first (fault a n (symbol (codes "/\\") p ∷ spells b rest)) (if level b == open_level then fault b n rest else nested n (λ m. fault b m rest) (spells b rest))
  fault (Not p a) n rest = if level a == open_level then fault a n rest else nested n (λ m. fault a m rest) (spells a rest)
  fault (Equal a p b) n rest = first (fault a n (symbol (codes "=") p ∷ spells b rest)) (fault b n rest)
  fault (Apply f args) n rest = first (fault f n (arguments args rest)) (arguments_fault args n rest)
  fault (Name w) n rest = None
  fault (PropSort p) n rest = None
  fault (SetSort p) n rest = None
  fault (TypeSort p) n rest = None
  fault (TypeAt p q r w s) n rest = if value_of w == 0 || nat_lt greatest_level (value_of w) then Some (record { code = no_level; rest = number w ∷ symbol (codes "}") s ∷ rest }) else None
  fault (Numeral w) n rest = if nat_lt greatest_numeral (value_of w) then Some (record { code = too_great; rest = number w ∷ rest }) else None
  fault (Parenthesized p t q) n rest = nested n (λ m. fault t m (symbol (codes ")") q ∷ rest)) (spells t (symbol (codes ")") q ∷ rest))

  pub binders_fault : Binders → ℕ → List Token → Option Fault
  binders_fault (Names ns p t) n rest = nested n (λ m. fault t m rest) (spells t rest)
  binders_fault (Groups gs) n rest = groups_fault gs n rest

  pub groups_fault : GroupList → ℕ → List Token → Option Fault
  groups_fault NoGroup n rest = None
  groups_fault (Group p ns q t r after) n rest =
      first (nested n (λ m. fault t m (symbol (codes ")") r ∷ groups after rest)) (spells t (symbol (codes ")") r ∷ groups after rest))) (groups_fault after n rest)

  pub annotation_fault : Annotation → ℕ → List Token → Option Fault
  annotation_fault Untyped n rest = None
  annotation_fault (Typed p t) n rest = nested n (λ m. fault t m rest) (spells t rest)

  pub arguments_fault : Arguments → ℕ → List Token → Option Fault
  arguments_fault NoArgument n rest = None
  arguments_fault (Positional t after) n rest = first (fault t n (arguments after rest)) (arguments_fault after n rest)
  arguments_fault (Given p w q t r after) n rest =
      first (nested n (λ m. fault t m (symbol (codes ")") r ∷ arguments after rest)) (spells t (symbol (codes ")") r ∷ arguments after rest))) (arguments_fault after n rest)

-- the first fault of a term that stands by itself, which is itself the first of the rules that nest
abbrev pub term_fault : Term → List Token → Option Fault
term_fault t rest = nested most_nested (λ n. fault t n rest) (spells t rest)
