use Rattle.std.proofs.Common.{rules}
use Rattle.move_rewrite.proofs.SketchScopes.{rewritten_scoped}
use Rattle.move_rewrite.proofs.rewriting.by_proof.Goals as goal

pub returns-in-Some-clause-sketch : goal.returns-in-Some-clause-sketch
returns-in-Some-clause-sketch g c =
    rewritten_scoped c.args.env.now c.args.ctx.now c.args.direction c.args.goal.now c.in-Some.eliminator c.args.equation.now c.args.found.now c.args.proof
    c.rewritten.result c.rewritten.ensures c.requires.judged c.requires.goal (search rules) c.requires.equation c.requires.found (search rules)
    c.requires.proof
