-- A token list: its tokens, and the place of the final period.
use Rattle.std.specs.Prelude.{ℕ, List}
use Rattle.coq_syntax.specs.declared.token.Token.{Token}

pub record Tokens : Type 0 where
  pub items : List Token
  pub period : ℕ
