use Rattle.std.proofs.Common.{length, sym, ap, subst, arith}
use Rattle.std.specs.List.Sorted.{IsNonDecreasing}
use Rattle.utf16_doc.proofs.Ascending.{line_ends-rise, length-line_ends}
use Rattle.utf16_doc.proofs.Sums.{units_between}
use Rattle.utf16_doc.proofs.PositionLaws.{start_within, position_is}
use Rattle.utf16_doc.proofs.positions.position_in.Goals as goal

pub ends_up_to-line-requires : goal.ends_up_to-line-requires
ends_up_to-line-requires c = subst (λ ends. IsNonDecreasing ends) (sym c.requires.lined.lines) (line_ends-rise c.args.text.now)

pub overflow_cast-result : goal.overflow_cast-result
overflow_cast-result c =
    let few = length-line_ends 0 c.args.text.now in
    let same = ap length c.requires.lined.lines in
    omega (arith, few, same, c.requires.lined.short, c.ends_up_to-line.ensures.bound)

pub units_before-before-requires-clause-within : goal.units_before-before-requires-clause-within
units_before-before-requires-clause-within c =
    let start = start_within c.args.text.now c.args.ends.now c.args.offset _ _ c.requires.lined.lines c.ends_up_to-line.ensures.count c.start_of-start.ensures in
    omega (arith, start)

pub overflow_sub-result : goal.overflow_sub-result
overflow_sub-result c =
    let start = start_within c.args.text.now c.args.ends.now c.args.offset _ _ c.requires.lined.lines c.ends_up_to-line.ensures.count c.start_of-start.ensures in
    omega (arith, units_between c.args.encoding c.args.text.now c.start_of-start.result c.args.offset start, c.units_before-upto.ensures, c.units_before-before.ensures)

pub returns : goal.returns
returns c = position_is c.args.encoding c.args.text.now c.args.ends.now c.args.offset _ _ _ _ c.requires.lined.lines c.ends_up_to-line.ensures.count c.start_of-start.ensures c.units_before-upto.ensures c.units_before-before.ensures
