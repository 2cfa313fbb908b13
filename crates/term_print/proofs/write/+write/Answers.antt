use Rattle.std.proofs.Common.{rules}
use Rattle.term_print.proofs.WriteLaws.{on_ok, written_in_parentheses, written_without}
use Rattle.term_print.proofs.write.+write.Goals as goal

pub write_at-returns-then-level-most : goal.write_at-returns-then-level-most
write_at-returns-then-level-most t c =
    on_ok c.put-then-level-most.result
    (written_in_parentheses c.args.env.now c.in_ok-spine.spine c.args.t.now c.args.most c.in_ok-level.level c.args.scope.now c.args.page.now
    c.put.new.self c.write_spine.new.page c.put-then-level-most.new.self
    c.in_ok-spine.ensures.spine (search rules) (search rules) (search rules) (search rules))
    c.put-then-level-most.ensures

pub write_at-returns : goal.write_at-returns
write_at-returns t c =
    on_ok c.write_spine-else-level-most.result
    (written_without c.args.env.now c.in_ok-spine.spine c.args.t.now c.args.most c.in_ok-level.level c.args.scope.now c.args.page.now
    c.write_spine-else-level-most.new.page
    c.in_ok-spine.ensures.spine (search rules) (search rules))
    c.write_spine-else-level-most.ensures
