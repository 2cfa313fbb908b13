use Rattle.std.proofs.Common.{◌≡◌, ◌++◌, drop, string_bytes}
use Rattle.prover_iface.specs.Listings.{spaced}
use Rattle.prover_iface.proofs.listings.add_spaced.Given as goal

abbrev pub invariant-loop-name : goal.invariant-loop-name
invariant-loop-name l = string_bytes l.lines ++ spaced (drop l.name-index l.names) ≡ string_bytes l.initial.lines ++ spaced l.names
