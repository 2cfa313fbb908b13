use Rattle.std.proofs.Common.{◌∷◌, arith}
use Rattle.std.proofs.lemmas.List.{set-append_left, set_at}
use Rattle.shared_map.proofs.EditLaws.{set_after}
use Rattle.shared_map.proofs.list.SharedList.+set_item.Goals as goal

pub returns-in_ok-share-in-Fork : goal.returns-in_ok-share-in-Fork
returns-in_ok-share-in-Fork g t c =
    let branch = c.in-Fork.branch.value in
    grind (arith, set-append_left branch.left (branch.item.value ∷ branch.right) c.args.at c.args.item.value (grind arith))

pub returns-in_ok-share-in-Fork-3 : goal.returns-in_ok-share-in-Fork-3
returns-in_ok-share-in-Fork-3 g t c =
    let branch = c.in-Fork.branch.value in
    grind (arith, set_at branch.left branch.item.value branch.right c.args.item.value c.args.at (grind arith))

pub returns-in_ok-clone-in-Fork-2 : goal.returns-in_ok-clone-in-Fork-2
returns-in_ok-clone-in-Fork-2 g t c =
    let branch = c.in-Fork.branch.value in
    grind (arith, set_after branch.left branch.item.value branch.right c.args.at c.args.item.value (grind arith))
