-- Proof moves: their tokens, which trees are moves, and their faults.
use Rattle.std.specs.Prelude.{◌≡◌, Option, None, Some, List, [], ◌∷◌, codes}
use Rattle.coq_syntax.specs.declared.token.Token.{Token}
use Rattle.coq_syntax.specs.declared.words.Word.{Word}
use Rattle.coq_syntax.specs.declared.moves.Direction.{Direction}
use Rattle.coq_syntax.specs.declared.moves.Direction.TheVariants.{Unmarked, Forward, Backward}
use Rattle.coq_syntax.specs.MoveTrees.{PatternCase, Pattern, Move, Intro, Intros, Exact, Apply, Assumption, Split, Left, Right, Reflexivity, Admit, Simpl, Unfold, Destruct, Induction, Rewrite}
use Rattle.coq_syntax.specs.Spelled.{reserved, symbol, keyword, identifier, names, spells}
use Rattle.coq_syntax.specs.Grammar.{IsTerm}
use Rattle.coq_syntax.specs.Faults.{Fault, term_fault}

-- [identifier]
abbrev pub optional : Option Word → List Token
optional None = []
optional (Some word) = identifier word ∷ []

-- {identifier}
abbrev pub identifiers : List Word → List Token
identifiers [] = []
identifiers (w ∷ ws) = identifier w ∷ identifiers ws

-- {"|" {name}}, and then these
abbrev pub cases : List PatternCase → List Token → List Token
cases [] rest = rest
cases (c ∷ cs) rest = symbol (codes "|") c.bar ∷ names c.names (cases cs rest)

-- ["as" "[" {name} {"|" {name}} "]"]
abbrev pub pattern_tokens : Option Pattern → List Token
pattern_tokens None = []
pattern_tokens (Some p) = reserved (codes "as") p.keyword ∷ symbol (codes "[") p.opening ∷ names p.first (cases p.others (symbol (codes "]") p.closing ∷ []))

-- ["->" | "<-"], and then these
abbrev pub direction : Direction → List Token → List Token
direction Unmarked rest = rest
direction (Forward place) rest = symbol (codes "->") place ∷ rest
direction (Backward place) rest = symbol (codes "<-") place ∷ rest

-- the tokens of a move; the final period of its sentence is none of them
abbrev pub move_tokens : Move → List Token
-- `intro` with a name or none
move_tokens (Intro p x) = keyword (codes "intro") p ∷ optional x
-- `intros` and any number of names
move_tokens (Intros p xs) = keyword (codes "intros") p ∷ identifiers xs
-- `exact` or `apply`, and a term
move_tokens (Exact p t) = keyword (codes "exact") p ∷ spells t []
move_tokens (Apply p t) = keyword (codes "apply") p ∷ spells t []
-- each of these words alone
move_tokens (Assumption p) = keyword (codes "assumption") p ∷ []
move_tokens (Split p) = keyword (codes "split") p ∷ []
move_tokens (Left p) = keyword (codes "left") p ∷ []
move_tokens (Right p) = keyword (codes "right") p ∷ []
move_tokens (Reflexivity p) = keyword (codes "reflexivity") p ∷ []
move_tokens (Admit p) = keyword (codes "admit") p ∷ []
move_tokens (Simpl p) = keyword (codes "simpl") p ∷ []
-- `unfold` name
move_tokens (Unfold p x) = keyword (codes "unfold") p ∷ identifier x ∷ []
-- `destruct` or `induction`, a name, and a pattern or none
move_tokens (Destruct p x pattern) = keyword (codes "destruct") p ∷ identifier x ∷ pattern_tokens pattern
move_tokens (Induction p x pattern) = keyword (codes "induction") p ∷ identifier x ∷ pattern_tokens pattern
-- `rewrite`, an arrow or none, a term
move_tokens (Rewrite p d t) = keyword (codes "rewrite") p ∷ direction d (spells t [])

-- the tree is a move: its term, where it has one, is any term
abbrev pub IsMove : Move → Type 0
IsMove (Exact p t) = IsTerm t
IsMove (Apply p t) = IsTerm t
IsMove (Rewrite p d t) = IsTerm t
IsMove _ = Unit {0}

-- the tokens have this move
abbrev pub IsMoveOf : List Token → Move → Type 0
IsMoveOf tokens m = IsMove m × (move_tokens m ≡ tokens)

-- the first fault of a move: that of its term, which stands by itself
abbrev pub move_fault : Move → Option Fault
move_fault (Exact p t) = term_fault t []
move_fault (Apply p t) = term_fault t []
move_fault (Rewrite p d t) = term_fault t []
move_fault _ = None
