-- The rules of the grammar of terms, each as a parser that chooses by the next token. They go one level down through `inner`.
use Rattle.std.specs.Prelude.{ℕ, zero, suc, Bool, true, false, ◌||◌, ◌==◌, nat_lt, if◌then◌else◌, List, [], ◌∷◌}
use Rattle.coq_syntax.specs.declared.token.Token.{Token}
use Rattle.coq_syntax.specs.declared.words.TokenPlace.{TokenPlace}
use Rattle.coq_syntax.specs.declared.words.Word.{Word}
use Rattle.coq_syntax.specs.declared.words.BoundName.{BoundName}
use Rattle.coq_syntax.specs.declared.words.BoundName.TheVariants.{Named, Unnamed}
use Rattle.coq_syntax.specs.Trees.{Term, Forall, Fun, Let, Arrow, Or, And, Not, Equal, Apply, Name, PropSort, SetSort, TypeSort, TypeAt, Numeral, Parenthesized, Binders, Names, Groups, GroupList, NoGroup, Group, Annotation, Untyped, Typed, Arguments, NoArgument, Positional}
use Rattle.coq_syntax.specs.Trees as tree
use Rattle.coq_syntax.specs.Limits.{most_nested, greatest_numeral, greatest_level, too_deep, too_great, no_level}
pub use Rattle.vernac_parser.specs.declared.rule.Rule.{Rule}
pub use Rattle.vernac_parser.specs.declared.rule.Rule.TheVariants.{Whole, Right85, Right80, Right75}
use Rattle.vernac_parser.specs.declared.sign.Sign.{Sign}
use Rattle.vernac_parser.specs.declared.sign.Sign.TheVariants as sign
use Rattle.vernac_parser.specs.Signs.{is_sign, sign_of, sign_at, begins_atom, begins_open, begins_term}
use Rattle.vernac_parser.specs.Parser.{Parser, ◌>>=◌, pure, ◌<$>◌, refuse, refuse_as, choose, when, take, identifier, number, repeated}

-- ---- words and names

-- which values of a numeral and of a level are refused
pub record Checks : Type 0 where
  pub numeral : ℕ → Bool
  pub level : ℕ → Bool

-- the checks of the grammar
abbrev pub standard : Checks
standard = record { numeral = λ n. nat_lt greatest_numeral n; level = λ n. n == 0 || nat_lt greatest_level n }

unfoldable pub binder_name : Parser BoundName
binder_name = when sign.Wildcard (Unnamed <$> take sign.Wildcard) (Named <$> identifier)

abbrev pub is_name : Sign → Bool
is_name sign.Identifier = true
is_name sign.Wildcard = true
is_name _ = false

abbrev pub with_name : BoundName → List BoundName → List BoundName
with_name n ns = n ∷ ns

-- name {name}
unfoldable pub names : Parser (List BoundName)
names = do
  first ← binder_name
  others ← repeated is_name binder_name with_name []
  pure (first ∷ others)

-- ---- arguments and groups, one at a time

pub data Argument : Type 0 where
  Plain : (argument : Term) → Argument
  Given : (opening : TokenPlace) (name : Word) (assign : TokenPlace) (argument : Term) (closing : TokenPlace) → Argument

abbrev pub with_argument : Argument → Arguments → Arguments
with_argument (Plain t) after = Positional t after
with_argument (Given opening name assign t closing) after = tree.Given opening name assign t closing after

pub record OneGroup : Type 0 where
  pub opening : TokenPlace
  pub names : List BoundName
  pub colon : TokenPlace
  pub ty : Term
  pub closing : TokenPlace

abbrev pub with_group : OneGroup → GroupList → GroupList
with_group g after = Group g.opening g.names g.colon g.ty g.closing after

-- a head with its arguments, or alone
abbrev pub applied : Term → Arguments → Term
applied head NoArgument = head
applied head (Positional t after) = Apply head (Positional t after)
applied head (tree.Given opening name assign t closing after) = Apply head (tree.Given opening name assign t closing after)

-- an identifier and `:=` stand next
abbrev pub assigns : List Token → Bool
assigns [] = false
assigns (t ∷ rest) = if is_sign (sign_of t) sign.Identifier then is_sign (sign_at rest) sign.Assign else false

-- ---- the rules

module _ (checks : Checks) (inner : Rule → Parser Term) where
  -- `Type`, and `@{` number `}` where an `@` follows
  unfoldable pub type_sort : Parser Term
  type_sort = do
    keyword ← take sign.TypeSort
    when sign.At (do
      at ← take sign.At
      opening ← take sign.OpenBrace
      level ← number checks.level no_level
      closing ← take sign.CloseBrace
      pure (TypeAt keyword at opening level closing)) (pure (TypeSort keyword))

  -- behind a `(`
  unfoldable pub parenthesized : TokenPlace → Parser Term
  parenthesized opening = do
    t ← inner Whole
    closing ← take sign.Close
    pure (Parenthesized opening t closing)

  unfoldable pub given : TokenPlace → Parser Argument
  given opening = do
    name ← identifier
    assign ← take sign.Assign
    t ← inner Whole
    closing ← take sign.Close
    pure (Given opening name assign t closing)

  unfoldable pub atom : Parser Term
  atom =
      when sign.Identifier (Name <$> identifier)
      (when sign.Open (do opening ← take sign.Open; parenthesized opening)
      (when sign.Number (Numeral <$> number checks.numeral too_great)
      (when sign.PropSort (PropSort <$> take sign.PropSort)
      (when sign.SetSort (SetSort <$> take sign.SetSort) type_sort))))

  -- behind a `(`: the argument is given by its name where an identifier and `:=` follow, and is a term in parentheses else
  unfoldable pub argument_behind : TokenPlace → Parser Argument
  argument_behind opening = λ i. if assigns i then given opening i else (Plain <$> parenthesized opening) i

  unfoldable pub argument : Parser Argument
  argument = when sign.Open (do opening ← take sign.Open; argument_behind opening) (Plain <$> atom)

  -- {argument}
  unfoldable pub arguments : Parser Arguments
  arguments = repeated begins_atom argument with_argument NoArgument

  -- atom {argument}
  unfoldable pub application : Parser Term
  application = do
    head ← atom
    args ← arguments
    pure (applied head args)

  unfoldable pub group : Parser OneGroup
  group = do
    opening ← take sign.Open
    ns ← names
    colon ← take sign.Colon
    ty ← inner Whole
    closing ← take sign.Close
    pure (record { opening = opening; names = ns; colon = colon; ty = ty; closing = closing })

  -- {group}
  unfoldable pub groups : Parser GroupList
  groups = repeated (λ s. is_sign s sign.Open) group with_group NoGroup

  unfoldable pub binders : Parser Binders
  binders = when sign.Open (Groups <$> groups) (do
    ns ← names
    colon ← take sign.Colon
    ty ← inner Whole
    pure (Names ns colon ty))

  -- [`:` term]
  unfoldable pub annotation : Parser Annotation
  annotation = when sign.Colon (do colon ← take sign.Colon; ty ← inner Whole; pure (Typed colon ty)) (pure Untyped)

  unfoldable pub forall_form : Parser Term
  forall_form = do
    keyword ← take sign.Forall
    bs ← binders
    comma ← take sign.Comma
    body ← inner Whole
    pure (Forall keyword bs comma body)

  unfoldable pub fun_form : Parser Term
  fun_form = do
    keyword ← take sign.Fun
    bs ← binders
    arrow ← take sign.Yields
    body ← inner Whole
    pure (Fun keyword bs arrow body)

  unfoldable pub let_form : Parser Term
  let_form = do
    keyword ← take sign.Let
    name ← binder_name
    a ← annotation
    assign ← take sign.Assign
    value ← inner Whole
    joint ← take sign.In
    body ← inner Whole
    pure (Let keyword name a assign value joint body)

  unfoldable pub open_form : Parser Term
  open_form = when sign.Forall forall_form (when sign.Fun fun_form let_form)

  -- what stands behind an operator: an open form, or the rule one level down
  unfoldable pub operand : Rule → Parser Term
  operand rule = choose begins_open open_form (inner rule)

  -- [`=` t10]
  unfoldable pub equal_behind : Term → Parser Term
  equal_behind left = when sign.Equal (do mark ← take sign.Equal; right ← application; pure (Equal left mark right)) (pure left)

  unfoldable pub t70 : Parser Term
  t70 = do
    left ← application
    equal_behind left

  unfoldable pub t75 : Parser Term
  t75 = when sign.Not (do mark ← take sign.Not; t ← operand Right75; pure (Not mark t)) t70

  -- [`/\` (open | t80)]
  unfoldable pub and_behind : Term → Parser Term
  and_behind left = when sign.And (do mark ← take sign.And; right ← operand Right80; pure (And left mark right)) (pure left)

  unfoldable pub t80 : Parser Term
  t80 = do
    left ← t75
    and_behind left

  -- [`\/` (open | t85)]
  unfoldable pub or_behind : Term → Parser Term
  or_behind left = when sign.Or (do mark ← take sign.Or; right ← operand Right85; pure (Or left mark right)) (pure left)

  unfoldable pub t85 : Parser Term
  t85 = do
    left ← t80
    or_behind left

  -- [`->` term]
  unfoldable pub arrow_behind : Term → Parser Term
  arrow_behind left = when sign.Arrow (do mark ← take sign.Arrow; right ← inner Whole; pure (Arrow left mark right)) (pure left)

  unfoldable pub t99 : Parser Term
  t99 = do
    left ← t85
    arrow_behind left

  unfoldable pub term : Parser Term
  term = choose begins_open open_form t99

  unfoldable pub by_rule : Rule → Parser Term
  by_rule Whole = term
  by_rule Right85 = t85
  by_rule Right80 = t80
  by_rule Right75 = t75

-- a rule that counts as nested, where so many more may be: none is left where a token begins it
unfoldable pub nested : Checks → ℕ → Rule → Parser Term
nested checks zero rule = choose begins_term (refuse_as too_deep) refuse
nested checks (suc n) rule = by_rule checks (nested checks n) rule

-- a term that stands by itself
abbrev pub whole_term : Parser Term
whole_term = nested standard most_nested Whole
