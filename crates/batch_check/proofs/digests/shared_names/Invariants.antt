use Rattle.std.proofs.Common.{◌≡◌, take}
use Rattle.batch_check.proofs.digests.shared_names.Given as goal

abbrev pub invariant-loop-name : goal.invariant-loop-name
invariant-loop-name l = l.list ≡ take l.name-index l.names
