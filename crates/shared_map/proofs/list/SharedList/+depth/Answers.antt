use Rattle.std.proofs.Common.{◌≡◌, ◌+◌, max, length, length-append, arith, rules}
use Rattle.shared_map.proofs.DepthLaws.{enough_above, logarithmic_above}
use Rattle.shared_map.proofs.list.SharedList.+depth.Goals as goal

pub returns-in-Fork-clause-enough : goal.returns-in-Fork-clause-enough
returns-in-Fork-clause-enough g t c =
    let branch = c.in-Fork.branch.value in
    let all : length c.args.self.now ≡ length branch.left + length branch.right + 1 = grind (arith, length-append) in
    let is : c.max.result ≡ max c.depth.result c.depth-in-Fork.result = search rules in
    rw (all, is) (enough_above _ _ _ _ (search rules) (search rules))

pub returns-in-Fork-clause-logarithmic : goal.returns-in-Fork-clause-logarithmic
returns-in-Fork-clause-logarithmic g t c =
    let branch = c.in-Fork.branch.value in
    let all : length c.args.self.now ≡ length branch.left + length branch.right + 1 = grind (arith, length-append) in
    let is : c.max.result ≡ max c.depth.result c.depth-in-Fork.result = search rules in
    rw (all, is) (logarithmic_above _ _ _ _ (search rules) (search rules) (search rules))
