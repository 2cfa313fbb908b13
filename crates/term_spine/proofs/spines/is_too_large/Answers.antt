use Rattle.std.proofs.Common.{arith}
use Rattle.std.proofs.lemmas.Bool.Decides.{nat_tests}
use Rattle.term_spine.proofs.SpineFacts.{length_depth, too_large_size, too_large_depth, not_too_large}
use Rattle.term_spine.proofs.spines.is_too_large.Goals as goal

pub overflow_add-depth : goal.overflow_add-depth
overflow_add-depth c = grind (arith, nat_tests, length_depth c.args.args.now)

pub returns-then-size-gt-TERM_SIZE_LIMIT : goal.returns-then-size-gt-TERM_SIZE_LIMIT
returns-then-size-gt-TERM_SIZE_LIMIT c =
    let large = too_large_size c.args.function.now c.args.args.now (grind arith) in grind (arith, nat_tests, large)

pub returns-else-size-gt-TERM_SIZE_LIMIT : goal.returns-else-size-gt-TERM_SIZE_LIMIT
returns-else-size-gt-TERM_SIZE_LIMIT c =
    grind (arith, nat_tests, too_large_depth c.args.function.now c.args.args.now, not_too_large c.args.function.now c.args.args.now)
