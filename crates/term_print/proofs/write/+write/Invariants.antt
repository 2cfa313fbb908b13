-- Nodes that are left to write, and a rank among the functions that write as many.
use Rattle.std.proofs.Common.{◌+◌, ◌*◌, max}
use Rattle.core_term.specs.Tree.{size_of}
use Rattle.term_spine.specs.Spine.{arguments_size}
use Rattle.term_print.specs.Operations.{operands_size}
use Rattle.term_print.proofs.write.+write.Given as goal

abbrev pub decreases-write_at : goal.decreases-write_at
decreases-write_at l = 8 * size_of l.t.now + 5

abbrev pub decreases-write_spine : goal.decreases-write_spine
decreases-write_spine l = 8 * (size_of l.head.now + arguments_size l.args.now) + 4

abbrev pub decreases-write_constant : goal.decreases-write_constant
decreases-write_constant l = 8 * arguments_size l.args.now + 11

abbrev pub decreases-write_operation : goal.decreases-write_operation
decreases-write_operation l = 8 * max (operands_size l.found.now) (arguments_size l.args.now) + 10

abbrev pub decreases-write_plain : goal.decreases-write_plain
decreases-write_plain l = 8 * arguments_size l.args.now + 9

abbrev pub decreases-write_applied : goal.decreases-write_applied
decreases-write_applied l = 8 * (size_of l.head.now + arguments_size l.args.now) + 3

abbrev pub decreases-write_arguments : goal.decreases-write_arguments
decreases-write_arguments l = 8 * (size_of l.first.now + arguments_size l.rest.now) + 6

abbrev pub decreases-write_head : goal.decreases-write_head
decreases-write_head l = 8 * size_of l.head.now + 2

abbrev pub decreases-write_arrow : goal.decreases-write_arrow
decreases-write_arrow l = 8 * (size_of l.domain.now + size_of l.codomain.now) + 9

abbrev pub decreases-write_quantified : goal.decreases-write_quantified
decreases-write_quantified l = 8 * (size_of l.ty.now + size_of l.body.now) + 9

abbrev pub decreases-write_products : goal.decreases-write_products
decreases-write_products l = 8 * size_of l.body.now + 8

abbrev pub decreases-write_next_product : goal.decreases-write_next_product
decreases-write_next_product l = 8 * (size_of l.ty.now + size_of l.body.now) + 9

abbrev pub decreases-write_function : goal.decreases-write_function
decreases-write_function l = 8 * (size_of l.ty.now + size_of l.body.now) + 9

abbrev pub decreases-write_functions : goal.decreases-write_functions
decreases-write_functions l = 8 * size_of l.body.now + 8

abbrev pub decreases-write_next_function : goal.decreases-write_next_function
decreases-write_next_function l = 8 * (size_of l.ty.now + size_of l.body.now) + 9

abbrev pub decreases-write_let : goal.decreases-write_let
decreases-write_let l = 8 * (size_of l.ty.now + size_of l.value.now + size_of l.body.now) + 9

abbrev pub decreases-write_first_binder : goal.decreases-write_first_binder
decreases-write_first_binder l = 8 * size_of l.ty.now + 8

abbrev pub decreases-write_group : goal.decreases-write_group
decreases-write_group l = 8 * size_of l.ty.now + 7

abbrev pub decreases-write_binding : goal.decreases-write_binding
decreases-write_binding l = 8 * size_of l.ty.now + 6
