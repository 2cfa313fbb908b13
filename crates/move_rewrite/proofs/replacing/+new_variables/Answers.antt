use Rattle.std.proofs.Common.{rules}
use Rattle.move_rewrite.proofs.Replacements.{here_gives, parts_give}
use Rattle.move_rewrite.proofs.replacing.+new_variables.Goals as goal

pub abstracted-returns-then-branch : goal.abstracted-returns-then-branch
abstracted-returns-then-branch t c = here_gives c.args.u.now c.args.t.now c.args.binders _ (search rules) c.var.ensures

pub abstracted-returns : goal.abstracted-returns
abstracted-returns t c = parts_give c.args.u.now c.args.t.now c.args.binders _ (search rules) c.abstracted_parts.ensures
