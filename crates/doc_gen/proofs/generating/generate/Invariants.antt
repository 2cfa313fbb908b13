use Rattle.std.proofs.Common.{◌≡◌, string_bytes}
use Rattle.doc_gen.specs.Generated.{generated}
use Rattle.doc_gen.proofs.generating.generate.Given as goal

abbrev pub invariant-loop-number : goal.invariant-loop-number
invariant-loop-number l = string_bytes l.text ≡ generated l.number
