-- The tokens of a term, row by row of the grammar.
use Rattle.std.specs.Prelude.{ℕ, List, [], ◌∷◌, codes}
use Rattle.coq_syntax.specs.declared.token.Token.{Token}
use Rattle.coq_syntax.specs.declared.token.TokenKind.{TokenKind}
use Rattle.coq_syntax.specs.declared.token.TokenKind.TheVariants.{Identifier, Wildcard, Reserved, Number, Symbol}
use Rattle.coq_syntax.specs.declared.words.TokenPlace.{TokenPlace}
use Rattle.coq_syntax.specs.declared.words.Word.{Word}
use Rattle.coq_syntax.specs.declared.words.BoundName.{BoundName}
use Rattle.coq_syntax.specs.declared.words.BoundName.TheVariants.{Named, Unnamed}
use Rattle.coq_syntax.specs.Trees.{Term, Forall, Fun, Let, Arrow, Or, And, Not, Equal, Apply, Name, PropSort, SetSort, TypeSort, TypeAt, Numeral, Parenthesized, Binders, Names, Groups, GroupList, NoGroup, Group, Annotation, Untyped, Typed, Arguments, NoArgument, Positional, Given}

abbrev pub token : TokenKind → List ℕ → TokenPlace → Token
token kind text place = record { kind = kind; text = text; from = place.from; to = place.to }

abbrev pub reserved : List ℕ → TokenPlace → Token
reserved text place = token Reserved text place

abbrev pub symbol : List ℕ → TokenPlace → Token
symbol text place = token Symbol text place

-- a command's or a move's word, which is no reserved word
abbrev pub keyword : List ℕ → TokenPlace → Token
keyword text place = token Identifier text place

abbrev pub identifier : Word → Token
identifier word = token Identifier word.text word.place

abbrev pub number : Word → Token
number word = token Number word.text word.place

-- name = identifier | "_"
abbrev pub name : BoundName → Token
name (Named word) = identifier word
name (Unnamed place) = token Wildcard (codes "_") place

-- {name}, and then these
abbrev pub names : List BoundName → List Token → List Token
names [] rest = rest
names (n ∷ ns) rest = name n ∷ names ns rest

abbrev mutual
  -- the tokens of a term, and then these
  pub spells : Term → List Token → List Token
  spells (Forall p bs q b) rest = reserved (codes "forall") p ∷ binders bs (symbol (codes ",") q ∷ spells b rest)
  spells (Fun p bs q b) rest = reserved (codes "fun") p ∷ binders bs (symbol (codes "=>") q ∷ spells b rest)
  spells (Let p n a q v r b) rest = reserved (codes "let") p ∷ name n ∷ annotation a (symbol (codes ":=") q ∷ spells v (reserved (codes "in") r ∷ spells b rest))
  spells (Arrow a p b) rest = spells a (symbol (codes "->") p ∷ spells b rest)
  spells (Or a p b) rest = spells a (symbol (codes "\\/") p ∷ spells b rest)
  spells (And a p b) rest = spells a (symbol (codes "/\\") p ∷ spells b rest)
  spells (Not p a) rest = symbol (codes "~") p ∷ spells a rest
  spells (Equal a p b) rest = spells a (symbol (codes "=") p ∷ spells b rest)
  spells (Apply f args) rest = spells f (arguments args rest)
  spells (Name w) rest = identifier w ∷ rest
  spells (PropSort p) rest = reserved (codes "Prop") p ∷ rest
  spells (SetSort p) rest = reserved (codes "Set") p ∷ rest
  spells (TypeSort p) rest = reserved (codes "Type") p ∷ rest
  spells (TypeAt p q r w s) rest = reserved (codes "Type") p ∷ symbol (codes "@") q ∷ symbol (codes "{") r ∷ number w ∷ symbol (codes "}") s ∷ rest
  spells (Numeral w) rest = number w ∷ rest
  spells (Parenthesized p t q) rest = symbol (codes "(") p ∷ spells t (symbol (codes ")") q ∷ rest)

  -- name {name} ":" term | group {group}
  pub binders : Binders → List Token → List Token
  binders (Names ns p t) rest = names ns (symbol (codes ":") p ∷ spells t rest)
  binders (Groups gs) rest = groups gs rest

  -- {group}
  pub groups : GroupList → List Token → List Token
  groups NoGroup rest = rest
  groups (Group p ns q t r after) rest = symbol (codes "(") p ∷ names ns (symbol (codes ":") q ∷ spells t (symbol (codes ")") r ∷ groups after rest))

  -- [":" term]
  pub annotation : Annotation → List Token → List Token
  annotation Untyped rest = rest
  annotation (Typed p t) rest = symbol (codes ":") p ∷ spells t rest

  -- {atom | "(" identifier ":=" term ")"}
  pub arguments : Arguments → List Token → List Token
  arguments NoArgument rest = rest
  arguments (Positional t after) rest = spells t (arguments after rest)
  arguments (Given p w q t r after) rest = symbol (codes "(") p ∷ identifier w ∷ symbol (codes ":=") q ∷ spells t (symbol (codes ")") r ∷ arguments after rest)
