-- The proof move of a token list, as a function.
use Rattle.std.specs.Prelude.{ℕ, Bool, if◌then◌else◌, Option, None, Some, Result, Ok, Err, List, [], ◌∷◌}
use denote.Enum.Bare.{sameb}
use Rattle.coq_syntax.specs.declared.token.Token.{Token}
use Rattle.coq_syntax.specs.declared.token.TokenKind.TheVariants.{Identifier}
use Rattle.coq_syntax.specs.contracts.token.TokenKind.{the_type}
use Rattle.coq_syntax.specs.declared.words.TokenPlace.{TokenPlace}
use Rattle.coq_syntax.specs.declared.words.Word.{Word}
use Rattle.coq_syntax.specs.declared.words.BoundName.{BoundName}
use Rattle.coq_syntax.specs.declared.words.BoundName.TheVariants.{Named, Unnamed}
use Rattle.coq_syntax.specs.declared.moves.Direction.{Direction}
use Rattle.coq_syntax.specs.declared.moves.Direction.TheVariants.{Unmarked, Forward, Backward}
use Rattle.coq_syntax.specs.Trees.{Term}
use Rattle.coq_syntax.specs.MoveTrees.{PatternCase, Pattern, Move}
use Rattle.coq_syntax.specs.Faults.{Fault}
use Rattle.coq_syntax.specs.Refusals.{Outcome, unexpected}
use Rattle.vernac_parser.specs.Parser.{place_of, word_of}
use Rattle.vernac_parser.specs.Parse.{whole_term}
use Rattle.move_parser.specs.declared.mark.Mark.{Mark}
use Rattle.move_parser.specs.declared.mark.Mark.TheVariants as mark
use Rattle.move_parser.specs.declared.move_word.MoveWord.{MoveWord}
use Rattle.move_parser.specs.declared.move_word.MoveWord.TheVariants as word
use Rattle.move_parser.specs.declared.move_word.PlainWord.{PlainWord}
use Rattle.move_parser.specs.declared.move_word.PlainWord.TheVariants as plain
use Rattle.move_parser.specs.Marks.{is_mark}
use Rattle.move_parser.specs.MoveWords.{word_of_text}
use Rattle.move_parser.specs.MoveRests.{PlainRest, Rest, build}
use Rattle.move_parser.specs.Reading.{is_wildcard}

-- something that was read, or the tokens from the unexpected one on
abbrev pub Part : Type 0 → Type 0
Part A = Result A (List Token)

infixl 10 ◌>>=◌
abbrev pub ◌>>=◌ : {A B : Type 0} → Part A → (A → Part B) → Part B
(Ok x) >>= f = f x
(Err left) >>= f = Err left

-- the next token, where it passes the test, and what is left
abbrev pub next : {X : Type 0} → (Token → Bool) → (Token → X) → List Token → Part (X × List Token)
next test get [] = Err []
next test get (t ∷ rest) = if test t then Ok (get t, rest) else Err (t ∷ rest)

abbrev pub is_identifier : Token → Bool
is_identifier t = sameb the_type t.kind Identifier

abbrev pub identifier : List Token → Part (Word × List Token)
identifier = next is_identifier word_of

abbrev pub marked : Mark → List Token → Part (TokenPlace × List Token)
marked m = next (is_mark m) place_of

-- this, where no token is left
abbrev pub ending : {A : Type 0} → A → List Token → Part A
ending x [] = Ok x
ending x (t ∷ rest) = Err (t ∷ rest)

-- ---- the parts of moves without a term

abbrev pub optional_by : List Token → Part (Word × List Token) → Part (Option Word)
optional_by l (Ok p) = ending (Some p.0) p.1
optional_by l (Err left) = ending None l

abbrev pub optional_part : List Token → Part (Option Word)
optional_part l = optional_by l (identifier l)

abbrev pub identifier_part : List Token → Part Word
identifier_part l = do
  x ← identifier l
  ending x.0 x.1

-- as many identifiers as stand next, and what is left
abbrev pub front_word : Word → List Word × List Token → List Word × List Token
front_word w r = (w ∷ r.0, r.1)

unfoldable pub identifiers_at : List Token → List Word × List Token
identifiers_at [] = ([], [])
identifiers_at (t ∷ rest) = if is_identifier t then front_word (word_of t) (identifiers_at rest) else ([], t ∷ rest)

abbrev pub identifiers_part : List Token → Part (List Word)
identifiers_part l = ending (identifiers_at l).0 (identifiers_at l).1

-- as many names as stand next, and then bars with names behind them, and what is left
pub record Body : Type 0 where
  pub first : List BoundName
  pub others : List PatternCase
  pub left : List Token

abbrev pub front_name : BoundName → Body → Body
front_name n b = record { first = n ∷ b.first; others = b.others; left = b.left }

abbrev pub front_bar : TokenPlace → Body → Body
front_bar p b = record { first = []; others = record { bar = p; names = b.first } ∷ b.others; left = b.left }

unfoldable pub body_at : List Token → Body
body_at [] = record { first = []; others = []; left = [] }
body_at (t ∷ rest) =
    if is_wildcard t then front_name (Unnamed (place_of t)) (body_at rest)
    else (if is_identifier t then front_name (Named (word_of t)) (body_at rest)
    else (if is_mark mark.Bar t then front_bar (place_of t) (body_at rest)
    else record { first = []; others = []; left = t ∷ rest }))

abbrev pub pattern_of : TokenPlace → TokenPlace → Body → TokenPlace → Pattern
pattern_of keyword opening b closing = record { keyword = keyword; opening = opening; first = b.first; others = b.others; closing = closing }

abbrev pub pattern_part : List Token → Part (Option Pattern)
pattern_part [] = Ok None
pattern_part (t ∷ rest) = do
  k ← marked mark.As (t ∷ rest)
  o ← marked mark.OpenBracket k.1
  c ← marked mark.CloseBracket (body_at o.1).left
  ending (Some (pattern_of k.0 o.0 (body_at o.1) c.0)) c.1

abbrev pub subject_part : List Token → Part (Word × Option Pattern)
subject_part l = do
  x ← identifier l
  p ← pattern_part x.1
  Ok (x.0, p)

abbrev pub plain_part : (w : PlainWord) → List Token → Part (PlainRest w)
plain_part plain.Intro l = optional_part l
plain_part plain.Intros l = identifiers_part l
plain_part plain.Assumption l = ending tt l
plain_part plain.Split l = ending tt l
plain_part plain.Left l = ending tt l
plain_part plain.Right l = ending tt l
plain_part plain.Reflexivity l = ending tt l
plain_part plain.Admit l = ending tt l
plain_part plain.Simpl l = ending tt l
plain_part plain.Unfold l = identifier_part l
plain_part plain.Destruct l = subject_part l
plain_part plain.Induction l = subject_part l

-- ---- terms

-- an unexpected token as a refusal
abbrev pub faulty : {A : Type 0} → Part A → Result A Fault
faulty (Ok x) = Ok x
faulty (Err left) = Err (record { code = unexpected; rest = left })

-- a term that runs to the end
abbrev pub term_by : Outcome Term → Result Term Fault
term_by (Ok p) = faulty (ending p.0 p.1)
term_by (Err f) = Err f

abbrev pub term_part : List Token → Result Term Fault
term_part l = term_by (whole_term l)

-- the arrow that stands first, or none, and what is left
abbrev pub arrow_by : List Token → Part (TokenPlace × List Token) → Part (TokenPlace × List Token) → Direction × List Token
arrow_by l (Ok p) back = (Forward p.0, p.1)
arrow_by l (Err left) (Ok p) = (Backward p.0, p.1)
arrow_by l (Err left) (Err left') = (Unmarked, l)

abbrev pub arrow : List Token → Direction × List Token
arrow l = arrow_by l (marked mark.Forward l) (marked mark.Backward l)

abbrev pub directed : Direction → Result Term Fault → Result (Direction × Term) Fault
directed d (Ok t) = Ok (d, t)
directed d (Err f) = Err f

abbrev pub rewriting_part : List Token → Result (Direction × Term) Fault
rewriting_part l = directed (arrow l).0 (term_part (arrow l).1)

-- ---- moves

abbrev pub rest_part : (w : MoveWord) → List Token → Result (Rest w) Fault
rest_part word.Exact l = term_part l
rest_part word.Apply l = term_part l
rest_part word.Rewrite l = rewriting_part l
rest_part (word.Plain w) l = faulty (plain_part w l)

abbrev pub whole : {A : Type 0} → (A → Move) → Result A Fault → Outcome Move
whole make (Ok x) = Ok (make x, [])
whole make (Err f) = Err f

abbrev pub by_word : Token → List Token → Option MoveWord → Outcome Move
by_word t rest None = Err (record { code = unexpected; rest = t ∷ rest })
by_word t rest (Some w) = whole (build w (place_of t)) (rest_part w rest)

-- the word of a move, where the token is one
abbrev pub move_word : Token → Option MoveWord
move_word t = if is_identifier t then word_of_text t.text else None

abbrev pub whole_move : List Token → Outcome Move
whole_move [] = Err (record { code = unexpected; rest = [] })
whole_move (t ∷ rest) = by_word t rest (move_word t)
