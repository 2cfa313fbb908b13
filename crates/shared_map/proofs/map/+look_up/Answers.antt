use Rattle.std.proofs.Common.{arith}
use Rattle.shared_map.proofs.EntriesLaws.{look-left, look-here, look-right}
use Rattle.shared_map.proofs.map.+look_up.Goals as goal

pub returns-in-Less : goal.returns-in-Less
returns-in-Less g t c =
    let branch = c.in-Fork.branch.value in
    grind (arith, look-left g.K.Ord.cmp g.met.K.Ord.total c.args.k.now branch.left branch.item.value branch.right)

pub returns-in-Equal : goal.returns-in-Equal
returns-in-Equal g t c =
    let branch = c.in-Fork.branch.value in
    grind (arith, look-here g.K.Ord.cmp g.met.K.Ord.total c.args.k.now branch.left branch.item.value branch.right)

pub returns-in-Greater : goal.returns-in-Greater
returns-in-Greater g t c =
    let branch = c.in-Fork.branch.value in
    grind (arith, look-right g.K.Ord.cmp g.met.K.Ord.total c.args.k.now branch.left branch.item.value branch.right)
