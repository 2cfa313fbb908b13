-- Worked examples of the grammar.
use Rattle.std.specs.Prelude.{◌≡◌, ℕ, zero, suc, ◌+◌, None, Some, List, [], ◌∷◌, codes}
use Rattle.coq_syntax.specs.declared.token.Token.{Token}
use Rattle.coq_syntax.specs.declared.words.TokenPlace.{TokenPlace}
use Rattle.coq_syntax.specs.declared.words.Word.{Word}
use Rattle.coq_syntax.specs.declared.words.BoundName.TheVariants.{Named}
use Rattle.coq_syntax.specs.declared.moves.Direction.TheVariants.{Backward}
use Rattle.coq_syntax.specs.Trees.{Term, Arrow, Or, And, Not, Equal, Name, SetSort, TypeAt, Numeral, Parenthesized, NoGroup, Untyped, Typed}
use Rattle.coq_syntax.specs.CommandTrees.{Constructor, Command, Define, Inductive}
use Rattle.coq_syntax.specs.MoveTrees.{Exact, Destruct, Rewrite}
use Rattle.coq_syntax.specs.Spelled.{reserved, symbol, keyword, identifier, number}
use Rattle.coq_syntax.specs.Grammar.{IsTermOf}
use Rattle.coq_syntax.specs.Faults.{term_fault}
use Rattle.coq_syntax.specs.Commands.{IsCommand, IsCommandOf, command_fault}
use Rattle.coq_syntax.specs.Moves.{IsMoveOf, move_fault}

abbrev pub place : ℕ → TokenPlace
place n = record { from = n; to = n + 1 }

abbrev pub word : List ℕ → Word
word text = record { text = text; place = place 0 }

abbrev pub a : Word
a = word (codes "a")

abbrev pub b : Word
b = word (codes "b")

abbrev pub c : Word
c = word (codes "c")

-- `a -> b -> c` is `a -> (b -> c)`
abbrev pub ArrowsGroupRight : Type 0
ArrowsGroupRight =
    IsTermOf (identifier a ∷ symbol (codes "->") (place 1) ∷ identifier b ∷ symbol (codes "->") (place 2) ∷ identifier c ∷ []) (Arrow (Name a) (place 1) (Arrow (Name b) (place 2) (Name c)))

-- `~ a = b` is `~ (a = b)`
abbrev pub NotIsLooserThanEqual : Type 0
NotIsLooserThanEqual = IsTermOf (symbol (codes "~") (place 1) ∷ identifier a ∷ symbol (codes "=") (place 2) ∷ identifier b ∷ []) (Not (place 1) (Equal (Name a) (place 2) (Name b)))

-- `a /\ b \/ c` is `(a /\ b) \/ c`
abbrev pub OrIsLooserThanAnd : Type 0
OrIsLooserThanAnd =
    IsTermOf (identifier a ∷ symbol (codes "/\\") (place 1) ∷ identifier b ∷ symbol (codes "\\/") (place 2) ∷ identifier c ∷ []) (Or (And (Name a) (place 1) (Name b)) (place 2) (Name c))

-- `201` is refused at the number, and `200` is not
abbrev pub NumeralsEndAt200 : Type 0
NumeralsEndAt200 =
    (term_fault (Numeral (word (codes "201"))) [] ≡ Some (record { code = 12; rest = number (word (codes "201")) ∷ [] }))
    × (term_fault (Numeral (word (codes "200"))) [] ≡ None)

-- `Type@{0}` is refused at the number
abbrev pub LevelsBeginAt1 : Type 0
LevelsBeginAt1 =
    term_fault (TypeAt (place 0) (place 1) (place 2) (word (codes "0")) (place 3)) [] ≡ Some (record { code = 13; rest = number (word (codes "0")) ∷ symbol (codes "}") (place 3) ∷ [] })

-- `a` in so many parentheses
abbrev pub wrapped : ℕ → Term
wrapped zero = Name a
wrapped (suc n) = Parenthesized (place 1) (wrapped n) (place 2)

abbrev pub closings : ℕ → List Token
closings zero = []
closings (suc n) = symbol (codes ")") (place 2) ∷ closings n

-- `a` in 200 parentheses is refused at `a`, and in 199 it is not
abbrev pub RulesNest200Deep : Type 0
RulesNest200Deep = (term_fault (wrapped 200) [] ≡ Some (record { code = 11; rest = identifier a ∷ closings 200 })) × (term_fault (wrapped 199) [] ≡ None)

-- a constructor `b`, without a bar
abbrev pub unbarred : Constructor
unbarred = record { bar = None; name = b; groups = NoGroup; annotation = Untyped }

-- a constructor `| c`
abbrev pub barred : Constructor
barred = record { bar = Some (place 5); name = c; groups = NoGroup; annotation = Untyped }

-- `Inductive a : Set :=` and these constructors
abbrev pub inductive : List Constructor → Command
inductive rows = Inductive (place 1) a NoGroup (place 2) (SetSort (place 3)) (place 4) rows

-- `Inductive a : Set := b | c`: the first constructor may lack its bar, and the second may not
abbrev pub OnlyTheFirstBarIsFree : Type 0
OnlyTheFirstBarIsFree =
    IsCommandOf (keyword (codes "Inductive") (place 1) ∷ identifier a ∷ symbol (codes ":") (place 2) ∷ reserved (codes "Set") (place 3) ∷ symbol (codes ":=") (place 4) ∷ identifier b ∷ symbol (codes "|") (place 5) ∷ identifier c ∷ []) (inductive (unbarred ∷ barred ∷ []))
    × (IsCommand (inductive (unbarred ∷ unbarred ∷ [])) → ⊥)

-- `Definition a : T := t` is not refused where `T` and `t` are each `a` in 199 parentheses
abbrev pub TermsOfACommandNestAlone : Type 0
TermsOfACommandNestAlone = command_fault (Define (place 1) a NoGroup (Typed (place 2) (wrapped 199)) (place 3) (wrapped 199)) ≡ None

-- `destruct a as [b | c]`
abbrev pub PatternsHaveCases : Type 0
PatternsHaveCases =
    IsMoveOf (keyword (codes "destruct") (place 1) ∷ identifier a ∷ reserved (codes "as") (place 2) ∷ symbol (codes "[") (place 3) ∷ identifier b ∷ symbol (codes "|") (place 4) ∷ identifier c ∷ symbol (codes "]") (place 5) ∷ [])
    (Destruct (place 1) a (Some (record { keyword = place 2; opening = place 3; first = Named b ∷ []; others = record { bar = place 4; names = Named c ∷ [] } ∷ []; closing = place 5 })))

-- `rewrite <- a`
abbrev pub RewritesMayGoBack : Type 0
RewritesMayGoBack = IsMoveOf (keyword (codes "rewrite") (place 1) ∷ symbol (codes "<-") (place 2) ∷ identifier a ∷ []) (Rewrite (place 1) (Backward (place 2)) (Name a))

-- `exact 201` is refused at the number
abbrev pub FaultsOfAMoveAreItsTerms : Type 0
FaultsOfAMoveAreItsTerms = move_fault (Exact (place 1) (Numeral (word (codes "201")))) ≡ Some (record { code = 12; rest = number (word (codes "201")) ∷ [] })
