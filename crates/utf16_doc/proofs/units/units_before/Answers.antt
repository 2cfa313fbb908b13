use Rattle.std.proofs.Common.{◌/◌, arith}
use Rattle.utf16_doc.proofs.Sums.{units_before-le}
use Rattle.utf16_doc.proofs.units.units_before.Goals as goal

pub overflow_add-result : goal.overflow_add-result
overflow_add-result c =
    let mark = c.requires.summed.units (c.args.offset / 256) (omega (arith, c.requires.summed.count)) in
    omega (arith, mark, c.units_within.ensures.sum, units_before-le c.args.encoding c.args.text.now c.args.offset)

pub returns : goal.returns
returns c =
    let mark = c.requires.summed.units (c.args.offset / 256) (omega (arith, c.requires.summed.count)) in
    omega (arith, mark, c.units_within.ensures.sum)
