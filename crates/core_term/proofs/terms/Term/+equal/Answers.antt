use Rattle.std.specs.Prelude.{◌≡◌}
use Rattle.std.proofs.Common.{arith}
use Rattle.core_term.specs.Tree.{size_of}
use Rattle.core_term.proofs.Equality.{same_tree-apart}
use Rattle.core_term.proofs.terms.Term.+equal.Goals as goal

pub returns-then-size : goal.returns-then-size
returns-then-size t c =
    same_tree-apart c.args.self.now c.args.other.now (λ (same : size_of c.args.self.now ≡ size_of c.args.other.now). grind arith)
