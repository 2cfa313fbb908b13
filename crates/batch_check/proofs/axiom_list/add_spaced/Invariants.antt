use Rattle.std.proofs.Common.{◌≡◌, ◌++◌, drop, string_bytes}
use Rattle.prover_iface.specs.Listings.{spaced}
use Rattle.batch_check.proofs.axiom_list.add_spaced.Given as goal

abbrev pub invariant-loop-name : goal.invariant-loop-name
invariant-loop-name l = string_bytes l.line ++ spaced (drop l.name-index l.names) ≡ string_bytes l.initial.line ++ spaced l.names
