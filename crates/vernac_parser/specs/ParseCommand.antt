-- The rules of the grammar of commands, each as a parser. A command's terms stand by themselves: they are read by `inner`.
use Rattle.std.specs.Prelude.{Bool, true, false, Option, None, Some, Result, Ok, List, [], ◌∷◌}
use Rattle.coq_syntax.specs.declared.words.TokenPlace.{TokenPlace}
use Rattle.coq_syntax.specs.declared.command.AssumptionWord.{AssumptionWord}
use Rattle.coq_syntax.specs.declared.command.AssumptionWord.TheVariants as assumption
use Rattle.coq_syntax.specs.declared.command.StatementWord.{StatementWord}
use Rattle.coq_syntax.specs.declared.command.StatementWord.TheVariants as statement
use Rattle.base_core.specs.declared.refusals.Stop.{Stop}
use Rattle.coq_syntax.specs.Tokens.{Tokens}
use Rattle.coq_syntax.specs.Answers.{told}
use Rattle.coq_syntax.specs.Trees.{Term}
use Rattle.coq_syntax.specs.CommandTrees.{Constructor, Command, Assume, Define, State, Inductive, Check, Proof, Qed, Defined, Admitted, Aborted}
use Rattle.coq_syntax.specs.Limits.{most_nested}
use Rattle.vernac_parser.specs.declared.sign.Sign.{Sign}
use Rattle.vernac_parser.specs.declared.sign.Sign.TheVariants as sign
use Rattle.coq_syntax.specs.declared.command_words.CommandWord.{CommandWord}
use Rattle.coq_syntax.specs.declared.command_words.CommandWord.TheVariants as word
use Rattle.vernac_parser.specs.Signs.{is_sign}
use Rattle.vernac_parser.specs.Parser.{Parser, ◌>>=◌, pure, ◌<$>◌, refuse, choose, when, take, identifier, repeated}
use Rattle.vernac_parser.specs.Parse.{Rule, Whole, Checks, standard, nested, groups, annotation}
use Rattle.coq_syntax.specs.CommandWords.{word_at}

-- the word of a command, whichever
abbrev pub keyword : Parser TokenPlace
keyword = take sign.Identifier

-- a constructor begins with it
abbrev pub begins_constructor : Sign → Bool
begins_constructor sign.Bar = true
begins_constructor sign.Identifier = true
begins_constructor _ = false

abbrev pub with_constructor : Constructor → List Constructor → List Constructor
with_constructor c cs = c ∷ cs

-- no token is left
abbrev pub ended : Parser (Unit {0})
ended [] = Ok (tt, [])
ended (t ∷ rest) = refuse (t ∷ rest)

module _ (checks : Checks) (inner : Rule → Parser Term) where
  -- `Axiom` or `Parameter`, name `:` term
  unfoldable pub assume : AssumptionWord → Parser Command
  assume w = do
    p ← keyword
    name ← identifier
    colon ← take sign.Colon
    ty ← inner Whole
    pure (Assume w p name colon ty)

  -- `Definition` name groups annotation `:=` term
  unfoldable pub define : Parser Command
  define = do
    p ← keyword
    name ← identifier
    gs ← groups checks inner
    a ← annotation checks inner
    assign ← take sign.Assign
    body ← inner Whole
    pure (Define p name gs a assign body)

  -- `Theorem` or `Lemma`, name groups `:` term
  unfoldable pub state : StatementWord → Parser Command
  state w = do
    p ← keyword
    name ← identifier
    gs ← groups checks inner
    colon ← take sign.Colon
    ty ← inner Whole
    pure (State w p name gs colon ty)

  -- identifier groups annotation, behind its bar
  unfoldable pub constructor : Option TokenPlace → Parser Constructor
  constructor bar = do
    name ← identifier
    gs ← groups checks inner
    a ← annotation checks inner
    pure (record { bar = bar; name = name; groups = gs; annotation = a })

  unfoldable pub barred : Parser Constructor
  barred = do
    bar ← take sign.Bar
    constructor (Some bar)

  unfoldable pub first_constructor : Parser Constructor
  first_constructor = when sign.Bar barred (constructor None)

  -- [[`|`] constructor {`|` constructor}]
  unfoldable pub constructors : Parser (List Constructor)
  constructors =
      choose begins_constructor (do
        first ← first_constructor
        others ← repeated (λ s. is_sign s sign.Bar) barred with_constructor []
        pure (first ∷ others)) (pure [])

  -- `Inductive` name groups `:` term `:=` constructors
  unfoldable pub inductive : Parser Command
  inductive = do
    p ← keyword
    name ← identifier
    gs ← groups checks inner
    colon ← take sign.Colon
    arity ← inner Whole
    assign ← take sign.Assign
    cs ← constructors
    pure (Inductive p name gs colon arity assign cs)

  -- `Check` term
  unfoldable pub check : Parser Command
  check = do
    p ← keyword
    t ← inner Whole
    pure (Check p t)

  abbrev pub by_word : Option CommandWord → Parser Command
  by_word None = refuse
  by_word (Some word.Axiom) = assume assumption.Axiom
  by_word (Some word.Parameter) = assume assumption.Parameter
  by_word (Some word.Definition) = define
  by_word (Some word.Theorem) = state statement.Theorem
  by_word (Some word.Lemma) = state statement.Lemma
  by_word (Some word.Inductive) = inductive
  by_word (Some word.Check) = check
  by_word (Some word.Proof) = Proof <$> keyword
  by_word (Some word.Qed) = Qed <$> keyword
  by_word (Some word.Defined) = Defined <$> keyword
  by_word (Some word.Admitted) = Admitted <$> keyword
  by_word (Some word.Abort) = Aborted <$> keyword

  unfoldable pub row : Parser Command
  row = λ i. by_word (word_at i) i

  -- a command, and then the end
  unfoldable pub command : Parser Command
  command = do
    c ← row
    end ← ended
    pure c

-- a command of a token list
abbrev pub whole_command : Parser Command
whole_command = command standard (nested standard most_nested)

-- the command that the tokens are, or the leftmost refusal with its place
abbrev pub read_command : Tokens → Result Command Stop
read_command tokens = told tokens (whole_command tokens.items)
