use Rattle.std.proofs.Common.{arith}
use Rattle.shared_map.proofs.EditLaws.{insert_after}
use Rattle.shared_map.proofs.list.SharedList.+insert_item.Goals as goal

pub returns-in_ok-clone-in-Fork-2 : goal.returns-in_ok-clone-in-Fork-2
returns-in_ok-clone-in-Fork-2 g t c =
    let branch = c.in-Fork.branch.value in
    grind (arith, insert_after branch.left branch.item.value branch.right c.args.at c.args.item.value (grind arith))
