use Rattle.std.proofs.Common.{◌≤◌, vec_len}
use Rattle.base_core.specs.declared.limits.TheConstants.{TEXT_LIMIT}
use Rattle.base_core.proofs.dir_files.read_all.Given as goal

abbrev pub invariant-loop : goal.invariant-loop
invariant-loop g l = vec_len l.all ≤ TEXT_LIMIT
