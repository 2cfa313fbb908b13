use Rattle.std.proofs.Common.{◌≡◌, drop}
use Rattle.batch_check.specs.Digests.{with_names}
use Rattle.batch_check.proofs.digests.note_names.Given as goal

abbrev pub invariant-loop-name : goal.invariant-loop-name
invariant-loop-name l = with_names l.seen.keys (drop l.name-index l.names) ≡ with_names l.initial.seen.keys l.names
