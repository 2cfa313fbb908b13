-- A function value that reads nested rules to a limit.
use Rattle.std.specs.Prelude.{ℕ, Result, List}
use Rattle.std.specs.declared.alloc.Global.{Global}
use denote.Ref.{MutBor}
use Rattle.coq_syntax.specs.declared.token.Token.{Token}
use Rattle.coq_syntax.specs.Trees.{Term}
use Rattle.vernac_parser.specs.declared.cursor.Halt.{Halt}
use Rattle.vernac_parser.specs.declared.rule.Rule.{Rule}
use Rattle.vernac_parser.specs.Reads.{Reads}
use Rattle.vernac_parser.specs.Views.{within}

pub record Nests (limit : ℕ) (pre : Global → MutBor (List Token) → ℕ → Rule → Type 0)
    (post : Global → MutBor (List Token) → ℕ → Rule → Result Term Halt → MutBor (List Token) → Type 0) : Type 0 where
  pub callable : (alloc : Global) (old : MutBor (List Token)) (rule : Rule) → pre alloc old limit rule
  pub reads : (alloc : Global) (old new : MutBor (List Token)) (rule : Rule) (r : Result Term Halt) → post alloc old limit rule r new
      → Reads (within limit rule old.now) r new.now
